pub mod Causes
pub mod Laws
pub mod Orders
pub mod Rows
pub mod SavedReplayEnds
pub mod SoundCases
