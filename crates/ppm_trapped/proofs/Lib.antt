-- Each function of the walk has a lemma that joins what its callees say to a rule of the meaning or of the points that are reached.
pub mod WalkLemmas
pub mod ProgramLemmas
pub mod SiteLemmas
pub mod OnePointLemmas
pub mod SomePointLemmas
