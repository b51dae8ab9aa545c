pub mod Changes
pub mod Falls
pub mod Owns
pub mod Shows
pub mod Stepping
pub mod Steps
pub mod Turns
