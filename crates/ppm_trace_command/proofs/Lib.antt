-- How traces are shown. What `trace` answers of a code is one text, by the names of its arrays and procedures (`TraceLemmas`), which are listed as the
-- text is gone through (`TraceNameLemmas`); its laws (`OneTrace`) and its rows (`OfTrace`, `OfTraceCase`) come by the lemmas of `ppm_loading` on texts
-- and plans.

pub mod TraceNameLemmas
pub mod TraceLemmas
pub mod OneTrace
pub mod OfTrace
pub mod OfTraceCase
