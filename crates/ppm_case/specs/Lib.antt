pub mod Spelling
pub mod Rules
pub mod Judged
pub mod Case
pub mod Faults
pub mod Text
pub mod Correct
