-- How sweeps are shown. What `sweep` of `ppm_sweep` finds of machines is said of replays (`SweepLemmas`), as a replay comes to an outcome exactly where
-- its answer is that (`ComeLemmas`); the steps of the command stand in `SweepingLemmas`. A text has one answer (`SomeSweep`, `OneSweep`), a difference
-- of a sound code is of a run that came to no end (`SweepAsCode`), and the rows follow (`OfSweep`, `OfSweepCase`).

pub mod ComeLemmas
pub mod SweepLemmas
pub mod SweepAsCode
pub mod SomeSweep
pub mod OneSweep
pub mod SweepingLemmas
pub mod OfSweep
pub mod OfSweepCase
