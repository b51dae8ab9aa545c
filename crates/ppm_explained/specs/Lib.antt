pub mod Texts
pub mod Explaining
pub mod Orders
pub mod Trapping
