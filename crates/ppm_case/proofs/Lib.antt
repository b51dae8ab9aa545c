-- How the reader is shown to be exact. Words are cut at spaces in one way (`WordLemmas`), so the line of an array that has its form is cut into its
-- words, and a line whose words have their forms is that of an array (`FormLemmas`, `JudgeLemmas`). What the loops put into memory is what the words
-- say (`ValueLemmas`), and what was read of a text are the arrays of its lines (`LoopLemmas`).

pub mod OptionLemmas
pub mod WordLemmas
pub mod FormLemmas
pub mod JudgeLemmas
pub mod ValueLemmas
pub mod RowLemmas
pub mod LoopLemmas
pub mod CaseLemmas
pub mod BoundLemmas
pub mod ReadLemmas
pub mod LeastLemmas
pub mod CoverLemmas
pub mod PlaceLemmas
pub mod LawLemmas
pub mod TextLemmas
pub mod ShortLemmas
pub mod WrittenLemmas
