pub mod Texts
pub mod Statuses
pub mod Refused
pub mod Delivery
pub mod Reading
pub mod Rows
