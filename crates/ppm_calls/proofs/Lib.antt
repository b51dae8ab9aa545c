-- The callers' proofs are those of their calls: each answer puts together what the calls say. `CounterLemmas`: the counter is a code.
-- `TurnsLemmas`: one step more in turn. `SoundnessLemmas`: two runs of one limit. `RecordsLemmas`: the lists of recorders.

pub mod CounterLemmas
pub mod TurnsLemmas
pub mod SoundnessLemmas
pub mod RecordsLemmas
