pub mod Alone
pub mod Correct
pub mod Filled
pub mod Racing
pub mod Sample
