pub mod Application
pub mod CommandLine
pub mod Sound
pub mod Values
pub mod Words
