-- How the texts are shown: each piece is what its call says, and pieces are joined (`LineLemmas` for the line, `TextLemmas` for events).
pub mod LineLemmas
pub mod TextLemmas
