-- `LogLemmas`, `AccessLemmas`: what a capsule touches. `ForkLemmas`, `StampLemmas`: what stands beside, and what meets it. `MarkLemmas`, `WalkLemmas`,
-- `ReturnLemmas`: a walk goes from moment to moment. `VerdictLemmas`, `NamingLemmas`, `OneVerdictLemmas`, `ThereLemmas`: what is said of it.
pub mod AccessLemmas
pub mod ForkLemmas
pub mod LogLemmas
pub mod MarkLemmas
pub mod NamingLemmas
pub mod OneVerdictLemmas
pub mod ReturnLemmas
pub mod StampLemmas
pub mod ThereLemmas
pub mod VerdictLemmas
pub mod WalkLemmas
