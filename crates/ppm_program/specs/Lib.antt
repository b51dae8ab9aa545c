pub mod Programs
pub mod Refusals
pub mod Judging
pub mod Correct
