pub mod Advance
pub mod Turns
