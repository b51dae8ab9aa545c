pub mod Arguments
pub mod Frames
pub mod Readings
pub mod Entering
