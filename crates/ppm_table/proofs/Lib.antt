-- How the table is shown. The rule (`IsRun`) is over plain data: a list of turns, the words after
-- it, and what each seat keeps. One lemma, `allows` of `Kept`, is the debt of every atomic step;
-- `Owed` has it by kinds. Splits and joins of seats are `splits` and `joins` of `Kept`.
-- A seat's deeds say where its processor stands (`stands_by`): `stands_as` of `RunLemmas` shows it
-- of a run, `StandLemmas` of one deed more. So all above speaks of one list of deeds, and no run.
-- What a run's turns say of a processor is what its deeds say (`SaidLemmas`).

mod ListLemmas
mod PaddedLemmas
pub mod RunLemmas
mod Kept
mod Owed
pub mod StandLemmas
pub mod AskedLemmas
pub mod CountLemmas
mod AddLemmas
pub mod SumLemmas
mod Orders
pub mod TellingLemmas
pub mod SaidLemmas
pub mod MovesLemmas
