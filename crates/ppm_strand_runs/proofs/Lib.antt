-- How a run is shown: a turn more keeps what is said of the moments so far (`TurnLemmas`), the order says whose turn it is (`OrderLemmas`), and so the
-- loop over turns keeps what is said of a run that goes on (`RunLemmas`). It begins with the words of the arrays (`StartLemmas`).
-- A fall is one of `ppm_interleaving`, at a moment of a run without faults (`LawLemmas`). Two runs of a schedule have the same moments (`SameLemmas`), and
-- what is told of moments is one (`ToldLemmas`), the turn in which a change was made (`MadeLemmas`), their first fall too (`FirstLemmas`).

mod DrawLemmas
mod FirstLemmas
mod LawLemmas
mod MadeLemmas
mod OneLemmas
mod OrderLemmas
mod RunLemmas
mod SameLemmas
mod StartLemmas
mod ToldLemmas
mod TurnLemmas
