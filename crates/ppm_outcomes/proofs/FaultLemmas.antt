-- Faults among turns: no more strike a row of work, or undo work, than there are; and of a schedule's run no more than the schedule has.
use Rattle.std.proofs.Common.{◌≡◌, ◌≤◌, ◌⊎◌, ℕ, zero, suc, ◌+◌, Bool, true, false, if◌then◌else◌, List, [], ◌∷◌, ◌++◌, length, map, Option, inl, inr, refl, ap, arith}
use Rattle.std.specs.List.{range_with_len}
use Rattle.std.proofs.lemmas.List.{length-append}
use Rattle.ppm_cells.specs.Memory.{read}
use Rattle.ppm_cells.specs.Restart.{restart_of}
use Rattle.ppm_cells.specs.declared.cell.Cell.TheVariants.{RestartWord}
use Rattle.ppm_cells.specs.declared.restart.Restart.{Restart}
use Rattle.ppm_cells.specs.declared.shape.Shape.{Shape}
use Rattle.ppm_cells.specs.declared.shape.Takeover.{Takeover}
use Rattle.ppm_cells.specs.declared.shape.Takeover.TheVariants.{ByPlaces, ByEntries}
use Rattle.ppm_code.specs.declared.code.CodeParts.{CodeParts}
use Rattle.ppm_plan.specs.declared.fault.Fault.TheVariants as faults
use Rattle.ppm_plan.specs.declared.schedule_item.ScheduledAct.{ScheduledAct}
use Rattle.ppm_plan.specs.declared.schedule_item.ScheduledAct.TheVariants as scheduled
use Rattle.ppm_plan.specs.declared.schedule_item.ScheduleItem.{ScheduleItem}
use Rattle.ppm_plan.specs.Faults.{acts_of}
use Rattle.ppm_step.specs.Standings.{Standing}
use Rattle.ppm_step.specs.State.{State, stand_of, happens, along}
use Rattle.ppm_step.specs.declared.turn.Act.{Act}
use Rattle.ppm_step.specs.declared.turn.Act.TheVariants.{Step, Soft, Hard, Quit}
use Rattle.ppm_step.specs.declared.turn.Turn.{Turn}
use Rattle.ppm_paces.specs.Paces.{is_strike, strikes_of}
use Rattle.ppm_choice.specs.Course.{Due, Listed, InRound, Course, act_of, turn_of, turns_in, turns_of, behind}
use Rattle.ppm_choice.specs.Schedules.{listed, round, rounds, dues_of, beginning, schedule_turns}
use Rattle.ppm_choice.proofs.MadeLemmas.{Makes, Skips, made_or_not}
use Rattle.ppm_runs.specs.Deques.{one_if}
use Rattle.ppm_runs.specs.Legs.{Leg, state_then, strikes_then}
use Rattle.ppm_runs.specs.Work.{undoes, undone_of}
use Rattle.ppm_outcomes.specs.Legs.{faults_then}
use Rattle.ppm_outcomes.specs.Meant.{is_fault, faults_in}
use Rattle.ppm_outcomes.specs.Strikes.{fails, faults_among, scheduled_faults, FaultsAreScheduled}

one_or_none : (b : Bool) (c : ℕ) → length (if b then c ∷ [] else []) ≤ 1
one_or_none true c = omega arith
one_or_none false c = omega arith

-- a fault that strikes a row is one
pub strike_faults : (act : Act) (x : Standing) (c : ℕ) → length (if is_strike act x then c ∷ [] else []) ≤ one_if (is_fault act)
strike_faults (Step v) x c = omega arith
strike_faults (Quit why) x c = omega arith
strike_faults Soft x c = one_or_none (is_strike Soft x) c
strike_faults Hard x c = one_or_none (is_strike Hard x) c

-- an act that undoes work is a fault
pub undone_faults : (how : Takeover) (act : Act) (x : Standing) (r : Option Restart) (c : ℕ)
    → length (if undoes how act x r then c ∷ [] else []) ≤ one_if (is_fault act)
undone_faults ByPlaces act x r c = strike_faults act x c
undone_faults ByEntries (Step v) x r c = strike_faults (Step v) x c
undone_faults ByEntries (Quit why) x r c = strike_faults (Quit why) x c
undone_faults ByEntries Soft x r c = strike_faults Soft x c
undone_faults ByEntries Hard x r c = one_or_none (undoes ByEntries Hard x r) c

-- no more of them undo work, or strike a row, than there are
module _ (s : Shape) (code : CodeParts) where
  told_few : (told : State → Turn → List ℕ) → ((state : State) (turn : Turn) → length (told state turn) ≤ one_if (is_fault turn.act))
      → (turns : List Turn) (state : State) → length (along s code told state turns) ≤ faults_in turns
  told_few told each [] state = omega arith
  told_few told each (turn ∷ turns) state =
      let both = length-append (told state turn) (along s code told (happens s code state turn) turns) in
      let one = each state turn in
      let rest = told_few told each turns (happens s code state turn) in
      omega (arith, both, one, rest)

  pub undone_few : (turns : List Turn) (state : State) → length (along s code (undone_of s) state turns) ≤ faults_in turns
  undone_few = told_few (undone_of s) (λ state turn.
      undone_faults s.takeover turn.act (stand_of state turn.processor) (restart_of (read s state.words (RestartWord turn.processor))) turn.processor)

  pub struck_few : (turns : List Turn) (state : State) → length (along s code strikes_of state turns) ≤ faults_in turns
  struck_few = told_few strikes_of (λ state turn. strike_faults turn.act (stand_of state turn.processor) turn.processor)

  -- nor in legs
  pub legs_struck_few : (words : List ℕ) (legs : List Leg) → strikes_then s code words legs ≤ faults_then legs
  legs_struck_few words [] = omega arith
  legs_struck_few words (leg ∷ legs) =
      let rest = legs_struck_few words legs in let last = struck_few leg.turns (state_then s code words legs) in omega (arith, rest, last)

-- Of a schedule: each turn is an act of its list, or a step after it.
module _ (s : Shape) (code : CodeParts) where
  abbrev faults_due : List Due → ℕ
  faults_due [] = 0
  faults_due (due ∷ dues) = one_if (fails (act_of due)) + faults_due dues

  due_both : (first more : List Due) → faults_due (first ++ more) ≡ faults_due first + faults_due more
  due_both [] more = omega arith
  due_both (due ∷ first) more = let rest = due_both first more in omega (arith, rest)

  due_listed : (acts : List ScheduledAct) → faults_due (map Listed acts) ≡ faults_among acts
  due_listed [] = refl
  due_listed (act ∷ acts) = ap (λ (n : ℕ). one_if (fails act) + n) (due_listed acts)

  due_round : (processors : List ℕ) → faults_due (map InRound processors) ≡ 0
  due_round [] = refl
  due_round (p ∷ processors) = let rest = due_round processors in omega (arith, rest)

  due_rounds : (processors count : ℕ) → faults_due (rounds processors count) ≡ 0
  due_rounds processors zero = refl
  due_rounds processors (suc count) =
      let both = due_both (round processors) (rounds processors count) in
      let one = due_round (range_with_len 0 processors) in
      let rest = due_rounds processors count in
      omega (arith, both, one, rest)

  turn_fails : (w : Course) (act : ScheduledAct) → faults_in (turn_of s.processors w act ∷ []) ≤ one_if (fails act)
  turn_fails w (scheduled.Step p victim) = omega arith
  turn_fails w (scheduled.Fails p faults.Soft) = omega arith
  turn_fails w (scheduled.Fails p faults.Hard) = omega arith

  faults_both : (first more : List Turn) → faults_in (first ++ more) ≡ faults_in first + faults_in more
  faults_both [] more = omega arith
  faults_both (turn ∷ first) more = let rest = faults_both first more in omega (arith, rest)

  due_few : (w : Course) (dues : List Due) → faults_in (turns_of s code w dues) ≤ faults_due dues
  due_few w [] = omega arith
  due_few w (due ∷ dues) = go (made_or_not s code w due) (due_few (behind s code w due) dues)
    where
      go : Makes s code w due ⊎ Skips s code w due → faults_in (turns_of s code (behind s code w due) dues) ≤ faults_due dues
          → faults_in (turns_in s code w due ++ turns_of s code (behind s code w due) dues) ≤ one_if (fails (act_of due)) + faults_due dues
      go (inl m) rest =
          let both = faults_both (turns_in s code w due) (turns_of s code (behind s code w due) dues) in
          let same = ap faults_in m.turns in
          let one = turn_fails w (act_of due) in
          omega (arith, rest, both, same, one)
      go (inr k) rest =
          let both = faults_both (turns_in s code w due) (turns_of s code (behind s code w due) dues) in
          let none = ap faults_in k.turns in
          omega (arith, rest, both, none)

  scheduled_few : (state : State) (items : List ScheduleItem) (turns : ℕ) → faults_in (schedule_turns s code state items turns) ≤ scheduled_faults items
  scheduled_few state items turns =
      let few = due_few (beginning state turns) (dues_of s.processors items turns) in
      let both = due_both (listed items) (rounds s.processors turns) in
      let list = due_listed (acts_of items) in
      let none = due_rounds s.processors turns in
      omega (arith, few, both, list, none)

pub faults_are_scheduled : FaultsAreScheduled
faults_are_scheduled s code state items turns = scheduled_few s code state items turns
