-- How the bounds are shown. Two bounds, counted procedure by procedure, are one enum with one law;
-- free names are sets as lists, by membership.
-- A limit is a parameter (`IsLineBelow limit`), so several bounds are one lemma.

pub mod Blocks
pub mod Counts
pub mod Members
pub mod Notes
pub mod Used
pub mod Keeping
pub mod NoEach
pub mod Sums
pub mod First
pub mod OneFault
