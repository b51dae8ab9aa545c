-- How the commands that go on from a saved text by a schedule are shown. A leg is turns of fresh processors on the words that they find (`LegLemmas`).
-- A text has one answer (`SavedAnswerLemmas`) of `stop` (`SavedStopLemmas`), `replay` (`SavedReplayLemmas`; `CountedLegLemmas`, where counts are told)
-- and `trace` (`SavedTraceLemmas`), and the rows follow (`OfSavedStop`, `OfSavedReplay`, `OfCountedLeg`, `OfSavedTrace`): what a sound code left goes
-- on as the code, by the lemmas of `ppm_outcomes`. Stops that go on from stops leave states (`ChainLemmas`).

pub mod LegLemmas
pub mod SavedAnswerLemmas
pub mod SavedStopLemmas
pub mod ChainLemmas
pub mod OfSavedStop
pub mod SavedReplayLemmas
pub mod OfSavedReplay
pub mod CountedLegLemmas
pub mod OfCountedLeg
pub mod SavedTraceLemmas
pub mod OfSavedTrace
