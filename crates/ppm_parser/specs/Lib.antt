pub mod SyntaxErrorNumbers
pub mod Faults
pub mod Room
pub mod Fronts
pub mod Parsing
pub mod Statements
pub mod Declarations
