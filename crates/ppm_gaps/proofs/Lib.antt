-- How the check is shown. A search goes from the first place on and stops at the first of which a
-- test holds, so that each answers an `IsFirst`. A stop is searched last, and by paths alone; that
-- one is there needs that paths stay within a capsule, as they do in a code (`CodeLemmas`).
-- What comes of a find is one pass (`HangingLemmas`): when a place is passed, its row is whole,
-- since paths lead forward. What has no first one is not there (`LeastLemmas`), and two first ones
-- are one (`FirstConflict`, `FlawLemmas`).

pub mod BlockLemmas
pub mod CodeLemmas
pub mod FindLemmas
pub mod FirstConflict
pub mod FlawLemmas
pub mod HangingLemmas
pub mod LeastLemmas
pub mod LeftOutLemmas
pub mod SearchLemmas
pub mod StopLemmas
pub mod UnbuiltLemmas
