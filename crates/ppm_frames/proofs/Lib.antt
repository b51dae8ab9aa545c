-- How the laws are shown. A word that is none of a tree's, by a count of its words (`count`), may
-- be changed without a change of the tree, and what stands well stays so (`SkeletonLemmas`).
-- Then a part: a step of it is one of the whole (`step_in`), and one part may be put in the place
-- of another (`SwapLemmas`), by recursion on what is around it.
-- `SeenLemmas` and `ViewLemmas` take a store from the list of words to words by cells, and to what
-- a capsule sees. `ValueLemmas` is the tree's side of a value that passes to the frame that waits.

pub mod WriteLemmas
pub mod SeenLemmas
pub mod ViewLemmas
pub mod SkeletonLemmas
pub mod SwapLemmas
pub mod ValueLemmas
