-- How the driver is shown. Of each processor one list is known, its deeds (`Obeying`): what it has
-- done obeys so far, and whatever obeys after it obeys from the beginning on (`Follows`). Steps in
-- a row and single acts add to it (`AlongLemmas`, `GoingLemmas`, `ActLemmas`; after a park
-- `ParkedLemmas`), without a run, and so does the loop of a thread (`RunningLemmas`).
-- Threads work on halves of the processors (`HalvesLemmas`, recursions on four lists). When the
-- table is closed, what the deeds say becomes what the run says (`ClosingLemmas`); that turns name
-- processors of the machine is `AmongLemmas`, what the finish word says `FinishLemmas`.
-- Parking is apart: tokens are counted (`TokenLemmas`), and no clause says who wakes whom.

mod TokenLemmas
mod DrawnLemmas
mod AlongLemmas
mod GoingLemmas
mod ParkedLemmas
mod ActLemmas
mod RunningLemmas
mod ClosingLemmas
mod AmongLemmas
mod HalvesLemmas
mod FinishLemmas
