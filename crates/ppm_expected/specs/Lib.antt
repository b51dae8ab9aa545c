pub mod Next
pub mod Machine
pub mod Language
pub mod Steps
pub mod Correct
