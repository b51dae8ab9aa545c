pub mod Tokens
pub mod Listing
pub mod Correct
