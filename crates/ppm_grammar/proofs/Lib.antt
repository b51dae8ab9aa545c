-- How the laws are shown. One relation of three cases derives; a table passes a test by computing
-- (`is_predictive`), and the test gives the property that all laws ask for.
-- What a parser's private clauses cite is in `specs/Stack` and `specs/Reading`; the chains over
-- rows in `LeadsLemmas`, `RowsLemmas`, `StopsLemmas`, `StatesLemmas`; the theorem in `Theorem`.
-- `WalkLemmas` has derivations with what was counted before and after each part.
-- `Fails` ranges over every stack that may follow, so it is false at the end of a part that may be empty
-- with nothing fixed after it (the whole program): there `LeadsTo.same` with the empty stack.

pub mod ListLemmas
pub mod PredictiveLemmas
pub mod StackLemmas
pub mod DerivationLemmas
pub mod TextLemmas
pub mod MovesLemmas
pub mod FaultLemmas
pub mod Theorem
pub mod LeadsLemmas
pub mod RowsLemmas
pub mod TallyLemmas
pub mod StopsLemmas
pub mod ItemsLemmas
pub mod StatesLemmas
pub mod WalkLemmas
