pub mod Names
pub mod Paths
pub mod Routes
pub mod Subjects
pub mod Lines
pub mod Show
