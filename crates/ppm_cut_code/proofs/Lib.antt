-- How the laws are shown, in the order of proof. Capsules have absolute numbers, so what stands at
-- a number is one equation; the definitions say after each statement which number comes
-- (`specs/Numbers`).
-- Names have slots of their kind: `FitsLemmas`, site by site, over `CoverLemmas` (a layout has the
-- names that a block uses, and no others than those in force).
-- Capsules stand at their numbers: `PlaceLemmas`, lists of routines first, then stretches of a
-- list.
-- The rules of a code: `FitLemmas` for instructions wherever they stand, `RuleLemmas` capsule by
-- capsule, `SoundLemmas` for hidden procedures, `SizeLemmas` for counts; put together in
-- `KeepLemmas`.
-- Lines: `BareLemmas` (sizes, numbers, slots, names), `LineLemmas` (capsules), `ApartLemmas` (the
-- code): a code without its lines is that of the tree without its lines.
-- Crates above cite `LayoutLemmas` and `CaughtLemmas` (what a statement adds to a layout, what an
-- `each` catches), `NamedLemmas` (the procedure of a name), `RegionWords` (where arrays lie),
-- `MainLemmas` (the first frame).

pub mod LayoutLemmas
pub mod NamedLemmas
pub mod RegionWords
pub mod MainLemmas
pub mod CoverLemmas
pub mod FitsLemmas
pub mod PlaceLemmas
pub mod CaughtLemmas
pub mod SizeLemmas
pub mod FitLemmas
pub mod SoundLemmas
pub mod RuleLemmas
pub mod KeepLemmas
pub mod BareLemmas
pub mod LineLemmas
pub mod ApartLemmas
pub mod FewLemmas
