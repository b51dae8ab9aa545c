pub mod Calm
pub mod Capsule
pub mod Claims
pub mod Conditions
pub mod Correct
pub mod Needed
pub mod Run
pub mod Together
