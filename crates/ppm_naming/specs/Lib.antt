pub mod Addresses
pub mod Values
pub mod Cells
pub mod Correct
