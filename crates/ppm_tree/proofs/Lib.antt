-- How the laws are shown. Trees with boxes are seen with pointers, so definitions speak of pure
-- trees (`specs/Tree`), and `tree_of` drops the pointers: a clause compares pure trees alone.
-- The meaning is one mutual family of relations, with the form (plain or whole) and the procedures
-- as parameters, so that one end is shown once (`OneEnd`).
-- What follows a statement is a relation of its own (`Follows`), so each statement needs one rule
-- for the ends and traps of its parts.
-- That no run is stuck (`NotStuck`) is a record of the progress of all relations at n, and a step
-- to n + 1.
-- `Blocks` has what the vector of a block is, for each variant with a block; crates above cite it.

pub mod Blocks
pub mod OneEnd
pub mod Spending
pub mod PlainEnds
pub mod WholeEnds
pub mod Truncation
pub mod NotStuck
pub mod Spent
