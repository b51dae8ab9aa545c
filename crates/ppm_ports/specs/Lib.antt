pub mod Causes
pub mod Told
pub mod Memory
pub mod Whole
pub mod Ports
pub mod Outside
