pub mod MakingLemmas
pub mod LoadLemmas
pub mod EndLemmas
pub mod RowLemmas
pub mod SumLemmas
pub mod KindLemmas
pub mod WaitingLemmas
pub mod WidthLemmas
