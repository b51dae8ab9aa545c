pub mod Beside
pub mod Judged
pub mod Touches
pub mod Verdicts
pub mod Walks
