pub mod Acts
pub mod Capsules
pub mod Code
pub mod Correct
pub mod Racing
