pub mod Says
pub mod Loading
pub mod Planned
pub mod Programs
pub mod Cases
pub mod MachineRows
pub mod Telling
