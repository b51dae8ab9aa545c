pub mod Orders
pub mod CaseRefusals
pub mod Rams
pub mod TraceForms
