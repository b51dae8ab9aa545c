mod PieceLemmas
pub mod NumberLemmas
