pub mod History
pub mod Held
pub mod Driven
