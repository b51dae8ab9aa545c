pub mod Names
pub mod Runs
pub mod Text
pub mod Saved
pub mod Renewal
pub mod Correct
