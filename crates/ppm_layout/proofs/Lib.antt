-- How the image is shown. Its words are pushed one after the other, each loop's clause being a list
-- made of numbers (`specs/Sequence`).
-- Zeros are pushed at a time (`PoolLemmas`).
-- One lemma (`SequenceLemmas.read_all`) reads that list cell by cell, with a case a cell, and the
-- contract speaks of cells alone.
-- The laws take that clause and unpack each word (`ValueLemmas`), or read the root's frame out of
-- the keeper's pool (`RootLemmas`). Equal strands are a path of records, whose words of a frame are
-- equal word by word.

pub mod ImageLemmas
pub mod InputLemmas
pub mod OneLemmas
mod PoolLemmas
pub mod RangeLemmas
pub mod RootLemmas
pub mod SampleLemmas
pub mod SequenceLemmas
pub mod ValueLemmas
