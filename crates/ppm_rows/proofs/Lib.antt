-- How the laws are shown. What a row makes reads its items by number, with a default for each kind
-- (`expression_in (item us 3)`), so each value has its constructor by form, with no induction on
-- shapes. A value may be a function (what goes on from an operand).
-- That a tree keeps the limits (`trees_are_within`) goes by `Walk` of `ppm_grammar`: one function a
-- part, by recursion on the height of the walk, and deep chains in two or three steps.
-- What holds of each token along a family of derivations goes by `AllByRecursion`, which computes
-- to a pair on a cons.

pub mod OneAnswer
pub mod TokensWithin
pub mod ExpressionsWithin
pub mod StatementsWithin
pub mod BlocksWithin
pub mod ProgramsWithin
