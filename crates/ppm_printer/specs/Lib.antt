pub mod Spelled
pub mod Canonical
pub mod Correct
