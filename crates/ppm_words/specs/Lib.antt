pub mod TwosComplement
pub mod Limits
pub mod Names
pub mod Inputs
