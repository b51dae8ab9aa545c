pub mod Case
pub mod Faults
pub mod Correct
