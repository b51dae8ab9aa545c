pub mod Sized
pub mod Opening
pub mod Sequence
pub mod Image
pub mod Root
pub mod Correct
