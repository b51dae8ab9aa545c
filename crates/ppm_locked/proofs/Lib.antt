-- The exchange by which a turn is added to the history (`HistoryLemmas`); runs under the lock: one more turn, and what
-- is counted of it (`RunLemmas`); when a processor is done, and how long the finish word stays (`EndLemmas`).

pub mod HistoryLemmas
pub mod RunLemmas
pub mod EndLemmas
