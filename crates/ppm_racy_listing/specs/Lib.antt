pub mod Correct
pub mod Exchanges
pub mod Listing
pub mod Plain
