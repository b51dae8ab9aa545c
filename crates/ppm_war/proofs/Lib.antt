-- How the check is shown. What instructions may do is decoded once (`IsDecoded`), and the functions
-- over it range over the instructions in their clauses.
-- It reaches by marks: marked exactly where it is the start, or the last instruction passed leads
-- there (`IsMet`).
-- `masks` is a filter that is proved one way only: sets that may have too many classes and never
-- too few, so two classes may share a bit. The exact search (`conflict_of`, class by class, and
-- `earlier`) runs where the filter does not clear a capsule.

pub mod CodeLemmas
pub mod ConflictLemmas
pub mod DecodedLemmas
pub mod FirstLemmas
pub mod MarkLemmas
pub mod MaskLemmas
pub mod SampleLemmas
pub mod TidyLemmas
pub mod UntidyLemmas
