pub mod Correct
pub mod Beginning
