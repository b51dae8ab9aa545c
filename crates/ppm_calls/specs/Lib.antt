pub mod Turns
pub mod Counter
pub mod Soundness
pub mod Records
pub mod Follows
pub mod Acts
pub mod HeardLaws
pub mod Heard
