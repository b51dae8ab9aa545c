pub mod Cases
pub mod Lines
pub mod Strands
pub mod StrandsRows
pub mod Drawn
pub mod DrawnRows
