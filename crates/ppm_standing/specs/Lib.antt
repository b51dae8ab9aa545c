pub mod Rests
pub mod Nexts
pub mod Standing
pub mod Shown
pub mod Stood
pub mod Correct
