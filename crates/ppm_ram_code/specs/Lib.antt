pub mod Code
pub mod Growth
pub mod Correct
