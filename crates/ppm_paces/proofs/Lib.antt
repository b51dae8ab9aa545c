-- How the laws are shown. `RowLemmas` and `LookLemmas` walk over the rows, by what each load may find; `CapsuleLemmas` over a
-- capsule, by its instructions. `PaceLemmas` says what one act makes of a pace, and `RunLemmas` what a run does.
pub mod RowLemmas
pub mod CapsuleLemmas
pub mod LookLemmas
pub mod PaceLemmas
pub mod RunLemmas
