-- Loops keep what is written and what is left together; what is left of a line goes by its halves.
pub mod WordLemmas
pub mod LineLemmas
pub mod RowLemmas
pub mod SavedLemmas
pub mod AboveLemmas
pub mod DueLemmas
pub mod CallLemmas
