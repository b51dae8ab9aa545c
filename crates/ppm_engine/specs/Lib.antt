pub mod Memory
pub mod Steps
pub mod Waiting
