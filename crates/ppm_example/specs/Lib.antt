pub mod Example
pub mod Correct
