-- How a run by a schedule is shown. What a schedule says is one list of acts that are due
-- (`ppm_choice`). `follow` is loops over it, each with the invariant `LeadsTo all rest`: whatever is
-- done after it, of `rest` from here, is all of `all` from the beginning. So no list of turns is
-- carried: a step is `goes_on`, an early exit `ends` with "of these nothing is made".
-- The turns of a schedule that may be obeyed name processors of the machine alone
-- (`ScheduledLemmas`): what stands above takes it for the laws of runs.
-- What the pools have given out is worked out place by place (`GivenLemmas`): those above read it off.

pub mod BothLemmas
pub mod DoesLemmas
pub mod AheadLemmas
pub mod ReadyLemmas
pub mod ListLemmas
pub mod ScheduledLemmas
pub mod GivenLemmas
