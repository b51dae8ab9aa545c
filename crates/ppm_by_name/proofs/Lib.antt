-- Frames by names, and what a run starts with; what `ppm_trapped` and `ppm_standing` join to what these calls answer.
pub mod FrameLemmas
pub mod ArmLemmas
pub mod StartLemmas
