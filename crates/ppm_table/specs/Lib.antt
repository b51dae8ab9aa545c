pub mod Padding
pub mod Run
pub mod Events
pub mod Telling
pub mod Counting
pub mod Shown
pub mod Closed
pub mod Moves
