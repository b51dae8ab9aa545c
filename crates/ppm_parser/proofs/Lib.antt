-- How the parser is shown. A clause ranges over a list of items, not over a part alone; three
-- lemmas do all exits (`then_reads`, `then_fails`, `front_fails`).
-- A part that may be empty and ends at a sign is read together with that sign. Lists with commas
-- are one law.

pub mod Chains
pub mod Reading
pub mod Expressions
pub mod Exits
pub mod Lists
pub mod Calls
pub mod Parameters
pub mod Declarations
pub mod Programs
pub mod Statements
