pub mod ErrorNumbers
pub mod Lines
pub mod Rules
pub mod Places
pub mod Correct
