-- How the laws are shown. An instruction is decoded to an act once (`does`), and a capsule is a
-- recursion on the instructions with a number to skip, which is the instruction that comes next
-- (`capsule_from`).
-- The law from paths to conflict-free carries paths (each location read has its path), not lists of
-- classes.
-- A branch that does not lead forward goes on at the next instruction, in the capsule and in `Path`
-- alike, so that all laws are total.

pub mod BuiltLemmas
pub mod CapsuleLemmas
pub mod CodeLemmas
pub mod ConflictLemmas
pub mod FollowLemmas
pub mod NewLemmas
pub mod NumberedLemmas
