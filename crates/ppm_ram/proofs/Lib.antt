-- How the reader is shown to be exact. What the loops over lines and words read is what these say
-- (`LoopLemmas`). A word says a number exactly where it is what is written of it (`NumberLemmas`),
-- a line an instruction likewise (`LineLemmas`), and a text a RAM (`TextLemmas`). Texts are cut and
-- put together in one way (`PieceLemmas`).
-- A run of the interpreter tells the end of the RAM, since what is left to do tells what there was
-- (`RunLemmas`).

mod LineLemmas
mod LoopLemmas
mod NumberLemmas
mod PieceLemmas
mod ProgramLemmas
mod RunLemmas
mod TextLemmas
