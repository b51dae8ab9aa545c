pub mod Accepted
pub mod Conflicts
pub mod Marks
pub mod Masks
pub mod Search
pub mod Stores
pub mod Untidy
