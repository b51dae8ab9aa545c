-- The law of all grammars is in `NextLemmas`: what is left of the stack tells which tokens can come. The machine goes by the rows as
-- data: `ChoiceLemmas` has the row that comes, `StepLemmas` what a token leaves, `FollowLemmas` what is answered.

pub mod NextLemmas
pub mod ChoiceLemmas
pub mod StepLemmas
pub mod FollowLemmas
