pub mod Words
pub mod Owning
pub mod Coming
pub mod Positions
pub mod Correct
