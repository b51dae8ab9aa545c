-- How many acts are enough for the replay of a schedule: without hard faults, and by places with them.
use Rattle.std.specs.Prelude.{◌+◌, ◌*◌, ℕ, List, [], ◌∷◌, length}
use Rattle.ppm_plan.specs.declared.fault.Fault.TheVariants as faults
use Rattle.ppm_plan.specs.declared.schedule_item.ScheduledAct.{ScheduledAct}
use Rattle.ppm_plan.specs.declared.schedule_item.ScheduledAct.TheVariants as scheduled

-- an act that is no hard fault
abbrev pub IsNoHardAct : ScheduledAct → Type 0
IsNoHardAct (scheduled.Step processor victim) = Unit {0}
IsNoHardAct (scheduled.Fails processor faults.Soft) = Unit {0}
IsNoHardAct (scheduled.Fails processor faults.Hard) = ⊥

-- how many faults these acts are
abbrev pub faults_of : List ScheduledAct → ℕ
faults_of [] = 0
faults_of (scheduled.Step processor victim ∷ acts) = faults_of acts
faults_of (scheduled.Fails processor fault ∷ acts) = 1 + faults_of acts

-- So many acts are enough for a schedule of these acts: those of its list, and then thirteen rounds of the processors for each lap. Laps there are
-- 218 for each capsule of the depth-first run, 171 for each fault of the list, and 7.
abbrev pub enough_acts : (acts : List ScheduledAct) (processors capsules : ℕ) → ℕ
enough_acts acts processors capsules = length acts + 13 * processors * (218 * capsules + 171 * faults_of acts + 7)

-- By places, hard faults among the acts, a processor that lives works in so many rounds, or somebody does, or a place has a new holder, or the
-- processor looks at each place: it looks within seventeen of its steps. It may make one move before, and bids in the last seventeen.
abbrev pub lap_rounds : (processors : ℕ) → ℕ
lap_rounds processors = 17 * (processors + 2)

-- So many acts are enough then: those of the list, and the rounds of each lap. Laps there are 218 for each capsule of the depth-first run, 171 for each
-- fault of the list, 7, and one for each pair of processors.
abbrev pub enough_acts_by_places : (acts : List ScheduledAct) (processors capsules : ℕ) → ℕ
enough_acts_by_places acts processors capsules =
    length acts + lap_rounds processors * processors * (218 * capsules + 171 * faults_of acts + 7 + processors * processors)
