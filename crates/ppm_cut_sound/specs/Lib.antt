pub mod Correct
