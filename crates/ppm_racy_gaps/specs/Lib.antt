pub mod Conflicts
pub mod Correct
pub mod Flaws
pub mod Repeats
