-- How a run is heard and told. The loops of `src/hearing.rt` are those by which `ppm_following` follows
-- a schedule, without its steps in a row. Each has the invariant `LeadsTo all rest`: whatever is heard
-- after this, of `rest` from here, is all of `all` from the beginning.
-- The counts of a run are those of its turns (`CountTurnLemmas`) and of its schedule (`OrderedLemmas`).
pub mod AlongLemmas
pub mod HearingLemmas
pub mod WindowLemmas
pub mod TellingLemmas
pub mod MarkLemmas
pub mod ForkLemmas
pub mod OneLemmas
pub mod TextLemmas
pub mod EventLemmas
pub mod PictureLemmas
pub mod OrderedLemmas
pub mod CountTurnLemmas
