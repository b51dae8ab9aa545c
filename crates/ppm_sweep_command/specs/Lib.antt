pub mod Sweeps
pub mod Halts
pub mod SweepRows
pub mod CaseSweeps
pub mod CaseSweepRows
