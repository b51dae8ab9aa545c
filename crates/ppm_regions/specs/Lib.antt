pub mod Scope
pub mod Kept
pub mod Uses
pub mod Faults
pub mod Admission
pub mod ErrorNumbers
pub mod Correct
pub mod Deciding
