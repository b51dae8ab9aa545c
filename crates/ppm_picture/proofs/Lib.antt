-- How a picture is shown: each piece is what its call says, and pieces are joined.
pub mod TextLemmas
pub mod RulerLemmas
pub mod StrokeLemmas
pub mod WalkLemmas
