pub mod MemoryLemmas
pub mod WholeLemmas
