-- How the laws are shown. `TrimLemmas`: a capsule is a tree of word steps, and all that it stores
-- and ends with stays within a procedure's slots (`Within`), by each instruction's act.
-- `BlankLemmas`: from a store into the block on, each path comes to an end that builds the word;
-- what the rules of tidy code say of paths is carried over to the tree (`stores_from`).

pub mod BlankLemmas
pub mod TrimLemmas
