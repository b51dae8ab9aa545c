-- How the laws are shown. The text is lexed by a function of its bytes that computes on all that is written out (`LexingLemmas`), with each
-- number by itself (`SourceLemmas`); the procedures derive row by row (`ReadingLemmas`), values by their count (`TreeLemmas`), and limits by a
-- test of the marks from a larger count on (`KeepsLemmas`). Uses of names pass a test (`AdmittedLemmas`). What a region of values comes to goes
-- by halves (`SumLemmas`); the laws of the meaning and of the compiler say the rest (`MeaningLemmas`).

pub mod LexingLemmas
pub mod ReadingLemmas
pub mod SourceLemmas
pub mod KeepsLemmas
pub mod TreeLemmas
pub mod AdmittedLemmas
pub mod ProgramLemmas
pub mod SumLemmas
pub mod MeaningLemmas
