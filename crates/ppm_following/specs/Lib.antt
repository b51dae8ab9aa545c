pub mod OrderedFaults
pub mod Room
pub mod Followed
pub mod Following
