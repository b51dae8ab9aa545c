pub mod Costs
pub mod Paces
