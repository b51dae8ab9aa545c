pub mod Names
pub mod Slots
pub mod Capsules
pub mod Bounds
pub mod Refusals
pub mod Catching
pub mod Sought
pub mod Correct
