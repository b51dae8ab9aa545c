pub mod KeywordLemmas
pub mod TokenLemmas
pub mod TextLemmas
pub mod InstrLemmas
pub mod CodeLemmas
