-- How a sweep is shown. The schedules of a sweep are a list by recursion along what is due
-- (`specs/Sweep`). Functions of a loop find of a front of that list that all come to the outcome
-- (`FoundLemmas` joins two of them), or of the whole that one does not. What is written of a
-- schedule has the acts that were made (`FrontLemmas`), so the run from a place is that of the
-- whole schedule (`SpotLemmas`).

pub mod FrontLemmas
pub mod LeftLemmas
pub mod FoundLemmas
pub mod SpotLemmas
pub mod AlongLemmas
pub mod TextLemmas
pub mod PlaceLemmas
pub mod AloneLemmas
pub mod WalkLemmas
pub mod FairLemmas
pub mod BeginLemmas
pub mod DrawLemmas
pub mod StrikeLemmas
