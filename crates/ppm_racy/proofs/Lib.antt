-- How the laws are shown: the capsule of plain instructions is that of `ppm_code`, as `ppm_filled`
-- takes it, instruction by instruction (`PlainLemmas`); a system is then one in all its parts. With
-- a put in place of each exchange a capsule differs in what its changes make of words alone, on
-- which neither order nor filling hangs (`AlikeLemmas`).
-- Register work is that of `ppm_code` (`CapsuleLemmas`), and touches no word past the arrays
-- (`WithinLemmas`).

mod AlikeLemmas
pub mod CapsuleLemmas
mod PlainLemmas
pub mod WithinLemmas
