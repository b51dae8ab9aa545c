pub mod Clears
pub mod Copies
pub mod Races
pub mod Sample
pub mod Stops
