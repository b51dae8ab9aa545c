-- How the compiler is shown. Each function appends, and its clause says what it appends as a
-- function of what follows: `Grows code old new` for instructions (so two in a row are one
-- composition), `Adds q bodies old new` for capsules, `Drafts procedures routines old new` for
-- procedures with their capsules.
-- Arms of a statement answer by one lemma each (`Bodies`, `Stmts`); the loops over a block, over
-- the text's procedures and over the hidden ones carry "what is left" (`Bodies.rest_of`,
-- `Drafting.Rest`, `Texts.Left`) with the numbers that are left.
-- Numbers stay below 2^32 by counts of their own (`specs/Counts`), which the limits and bounds keep
-- (`Limits`): `own_count` and `hidden_count` are plain sums along the tree, also in the decreasing
-- measures.
-- A cycle of functions has one folder of answers (`+body`, `+hidden`), and its facts come as nested
-- pairs.

pub mod Stmts
pub mod Growing
pub mod Pairs
pub mod Members
pub mod Slotting
pub mod Storing
pub mod Bodies
pub mod Drafting
pub mod Texts
pub mod Limits
