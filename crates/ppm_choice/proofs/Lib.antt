-- How the choice is shown. Obedience is a definition over the acts of one processor, each with
-- where it stood: it has no run in it, and its laws are recursions on one list.
-- Counts kept up to a most are `min n most` in the record (`omega` takes `min`); each update is a
-- function with its equation.
-- Where it parks, and what is told of it, follows from its record alone (`ParkLemmas`,
-- `RecordLemmas`).
-- A run in which all obey ends for a cause: `SpentLemmas` and `StruckLemmas` are recursions on the
-- acts of one processor, and `EndLemmas` joins them with the laws of `ppm_step` on finish words.
-- What a schedule says is one list of acts that are due, listed or in a round, with one recursion
-- over it that skips what isn't made. A test that a definition makes goes once into a sum of two
-- records (`Makes`, `Skips`), and no later proof opens the `if`. A law of each turn, said as "run =
-- first ++ (turn, more)", needs no predicate along the run (`splits`).

pub mod KeeperLemmas
pub mod CountLemmas
pub mod ChoiceLemmas
pub mod AloneLemmas
pub mod StepsLemmas
pub mod ParkLemmas
pub mod RecordLemmas
pub mod DrawnLemmas
pub mod OverLemmas
pub mod TurnsLemmas
pub mod DeedLemmas
pub mod SpentLemmas
pub mod StruckLemmas
pub mod EndLemmas
pub mod CourseLemmas
pub mod IdleLemmas
pub mod MadeLemmas
pub mod RoundLemmas
pub mod SkipLemmas
pub mod DueLemmas
pub mod LoadLemmas
pub mod LeavingLemmas
pub mod UnfinishedLemmas
