pub mod Rows
pub mod Derivation
pub mod Limits
pub mod Faults
pub mod Predictive
pub mod Stack
pub mod Reading
pub mod Correct
