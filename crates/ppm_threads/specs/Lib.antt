pub mod Tokens
pub mod Going
pub mod Driven
