pub mod Order
pub mod Made
pub mod First
pub mod Run
pub mod Correct
pub mod Draws
