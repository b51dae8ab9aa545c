pub mod Laps
pub mod Looks
pub mod Lost
pub mod Replays
pub mod Short
pub mod Soon
