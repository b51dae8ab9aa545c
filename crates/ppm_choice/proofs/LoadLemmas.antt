-- The loads of holder words that are counted along a run are those of its turns.
use Rattle.std.proofs.Common.{◌≡◌, ◌≢◌, ◌<◌, ◌≤◌, ◌+◌, ◌⊎◌, inl, inr, refl, sym, ap, ◌∙◌, subst, arith, ℕ, zero, suc, Bool, true, false, List, []}
use Rattle.std.proofs.Common.{◌∷◌, ◌++◌, length, ◌==◌, if◌then◌else◌, slice_index, slice_set, replicate, length-append}
use Rattle.std.specs.List.{All, AllByRecursion}
use Rattle.std.proofs.lemmas.Bool.Decides.{eqb_tells}
use Rattle.std.proofs.lemmas.List.{length-set, get_or-set_same, get_or-set_other}
use Rattle.ppm_cells.specs.declared.shape.Shape.{Shape}
use Rattle.ppm_code.specs.declared.code.CodeParts.{CodeParts}
use Rattle.ppm_plan.specs.declared.fault.Fault.TheVariants as faults
use Rattle.ppm_plan.specs.declared.schedule_item.ScheduleItem.{ScheduleItem}
use Rattle.ppm_plan.specs.declared.schedule_item.ScheduledAct.{ScheduledAct}
use Rattle.ppm_plan.specs.declared.schedule_item.ScheduledAct.TheVariants as scheduled
use Rattle.ppm_plan.specs.Schedules.{IsActAmong, IsItemAmong}
use Rattle.ppm_step.specs.declared.turn.Act.TheVariants.{Step}
use Rattle.ppm_step.specs.declared.turn.Turn.{Turn}
use Rattle.ppm_step.specs.State.{State, stand_of, after, along, seeks_holder}
use Rattle.ppm_choice.proofs.TurnsLemmas.{tell_on}
use Rattle.ppm_choice.specs.Course.{Due, Listed, Course, act_of, processor_of, victim_of, turn_of, seeks, loads_of, loads_behind, behind, turns_in}
use Rattle.ppm_choice.specs.Course.{behind_all, turns_of}
use Rattle.ppm_choice.specs.Schedules.{dues_of, beginning}
use Rattle.ppm_choice.specs.ScheduleLaws.{load_of, loads_made, turn_behind, IsDue, KeepsOrder}
use Rattle.ppm_choice.proofs.DueLemmas.{all_front, all_due}
use Rattle.ppm_choice.proofs.MadeLemmas.{Makes, Skips, made_or_not, state_in, state_at, Splits, splits}

-- what is due is of processors that there can be
abbrev pub IsFew : Due → Type 0
IsFew due = processor_of (act_of due) < 64

act_few : (processors : ℕ) (act : ScheduledAct) → processors ≤ 64 → IsActAmong processors act → processor_of act < 64
act_few processors (scheduled.Step processor stated) fits among = omega (arith, fits, among.0)
act_few processors (scheduled.Fails processor fault) fits among = omega (arith, fits, among)

items_few : (processors : ℕ) (items : List ScheduleItem) → processors ≤ 64 → All (IsItemAmong processors) items
    → AllByRecursion (λ item. IsFew (Listed item.act)) items
items_few processors [] fits among = tt
items_few processors (item ∷ items) fits among = (
  act_few processors item.act fits (among 0 item (omega arith)).act,
  items_few processors items fits (λ k d less. among (suc k) d (omega (arith, less))),
)

pub few_dues : (processors : ℕ) (items : List ScheduleItem) (turns : ℕ) → processors ≤ 64 → All (IsItemAmong processors) items
    → AllByRecursion IsFew (dues_of processors items turns)
few_dues processors items turns fits among =
    all_due IsFew processors items turns (items_few processors items fits among) (λ processor less. omega (arith, fits, less))

-- a count is one more at its own processor, and as it was at others
at_own : (xs : List ℕ) (q : ℕ) (b : Bool) → q < length xs
    → slice_index (if b then slice_set xs q (slice_index xs q + 1) else xs) q ≡ slice_index xs q + length ((if b then q ∷ [] else []) ++ [])
at_own xs q true less = get_or-set_same xs q (slice_index xs q + 1) 0 less ∙ omega arith
at_own xs q false less = omega arith

at_other : (xs : List ℕ) (q p : ℕ) (b : Bool) → q ≢ p → slice_index (if b then slice_set xs q (slice_index xs q + 1) else xs) p ≡ slice_index xs p
at_other xs q p true other = get_or-set_other xs q p (slice_index xs q + 1) 0 (λ e. other (sym e))
at_other xs q p false other = refl

one_load : (xs : List ℕ) (q p : ℕ) (b c : Bool) → q < length xs → ((c ≡ true) × (q ≡ p)) ⊎ ((c ≡ false) × (q ≢ p))
    → slice_index (if b then slice_set xs q (slice_index xs q + 1) else xs) p
    ≡ slice_index xs p + length ((if c then (if b then p ∷ [] else []) else []) ++ [])
one_load xs q p b c less (inl same) =
    subst
    (λ k. slice_index (if b then slice_set xs q (slice_index xs q + 1) else xs) k ≡ slice_index xs k + length ((if b then k ∷ [] else []) ++ []))
    same.1 (at_own xs q b less)
    ∙ ap (λ (t : Bool). slice_index xs p + length ((if t then (if b then p ∷ [] else []) else []) ++ [])) (sym same.0)
one_load xs q p b c less (inr other) =
    at_other xs q p b other.1
    ∙ omega arith
    ∙ ap (λ (t : Bool). slice_index xs p + length ((if t then (if b then p ∷ [] else []) else []) ++ [])) (sym other.0)

-- at the beginning no load was made
pub none_at : (n c : ℕ) → slice_index (replicate n 0) c ≡ 0
none_at zero c = refl
none_at (suc n) zero = refl
none_at (suc n) (suc c) = none_at n c

abbrev none_told : List ℕ
none_told = []

no_load : (n : ℕ) (b : Bool) → n ≡ n + length ((if b then none_told else none_told) ++ none_told)
no_load n true = omega arith
no_load n false = omega arith

length_if : (xs : List ℕ) (q v : ℕ) (b : Bool) → length (if b then slice_set xs q v else xs) ≡ length xs
length_if xs q v true = length-set xs q v
length_if xs q v false = refl

length_behind : (w : Course) (act : ScheduledAct) → length (loads_behind w act) ≡ length w.loads
length_behind w (scheduled.Step q stated) = length_if w.loads q (loads_of w q + 1) (seeks w q)
length_behind w (scheduled.Fails q fault) = refl

module _ (s : Shape) (code : CodeParts) where
  -- the counts after an act
  loads_act : (w : Course) (act : ScheduledAct) (p : ℕ) → length w.loads ≡ 64 → processor_of act < 64
      → slice_index (loads_behind w act) p
      ≡ loads_of w p + length (along s code (load_of p) w.state (turn_of s.processors w act ∷ []))
  loads_act w (scheduled.Step q stated) p all few =
      one_load w.loads q p (seeks w q) (q == p) (omega (arith, all, few)) (eqb_tells q p)
  loads_act w (scheduled.Fails q faults.Soft) p all few = no_load (loads_of w p) (q == p)
  loads_act w (scheduled.Fails q faults.Hard) p all few = no_load (loads_of w p) (q == p)

  loads_by : (w : Course) (due : Due) (p : ℕ) → length w.loads ≡ 64 → processor_of (act_of due) < 64 → Makes s code w due ⊎ Skips s code w due
      → loads_of (behind s code w due) p ≡ loads_of w p + length (along s code (load_of p) w.state (turns_in s code w due))
  loads_by w due p all few (inl m) =
      ap (λ v. loads_of v p) m.course
      ∙ loads_act w (act_of due) p all few
      ∙ ap (λ ts. loads_of w p + length (along s code (load_of p) w.state ts)) (sym m.turns)
  loads_by w due p all few (inr k) =
      ap (λ v. loads_of v p) k.course
      ∙ omega arith
      ∙ ap (λ ts. loads_of w p + length (along s code (load_of p) w.state ts)) (sym k.turns)

  length_by : (w : Course) (due : Due) → Makes s code w due ⊎ Skips s code w due → length (behind s code w due).loads ≡ length w.loads
  length_by w due (inl m) = ap (λ v. length v.loads) m.course ∙ length_behind w (act_of due)
  length_by w due (inr k) = ap (λ v. length v.loads) k.course

  -- what is told after what is due first
  told_behind : (w : Course) (due : Due) (dues : List Due) (p : ℕ)
      → length (along s code (load_of p) w.state (turns_of s code w (due ∷ dues)))
      ≡ length (along s code (load_of p) w.state (turns_in s code w due))
      + length (along s code (load_of p) (behind s code w due).state (turns_of s code (behind s code w due) dues))
  told_behind w due dues p =
      ap length (tell_on s code (load_of p) w.state (turns_in s code w due) (turns_of s code (behind s code w due) dues))
      ∙ length-append (along s code (load_of p) w.state (turns_in s code w due))
      (along s code (load_of p) (after s code w.state (turns_in s code w due)) (turns_of s code (behind s code w due) dues))
      ∙ ap (λ (state : State). length (along s code (load_of p) w.state (turns_in s code w due))
      + length (along s code (load_of p) state (turns_of s code (behind s code w due) dues))) (sym (state_in s code w due))

  pub loads_at : (w : Course) (dues : List Due) (p : ℕ) → length w.loads ≡ 64 → AllByRecursion IsFew dues
      → loads_of (behind_all s code w dues) p ≡ loads_of w p + length (along s code (load_of p) w.state (turns_of s code w dues))
  loads_at w [] p all few = omega arith
  loads_at w (due ∷ dues) p all few =
      omega (
        arith,
        loads_at (behind s code w due) dues p (length_by w due (made_or_not s code w due) ∙ all) few.1,
        loads_by w due p all few.0 (made_or_not s code w due),
        told_behind w due dues p,
      )

  -- a turn has the victim that the run before it says
  turn_same : (state : State) (w : Course) (first : List Turn) (act : ScheduledAct)
      → w.state ≡ after s code state first → loads_of w (processor_of act) ≡ loads_made s code (processor_of act) state first
      → turn_of s.processors w act ≡ turn_behind s code state first act
  turn_same state w first (scheduled.Step q stated) same count =
      ap (λ (k : State). turn_with k (loads_of w q)) same ∙ ap (λ j. turn_with (after s code state first) j) count
    where
      turn_with : State → ℕ → Turn
      turn_with k j = record { processor = q; act = Step (victim_of s.processors q j stated (seeks_holder (stand_of k q))) }
  turn_same state w first (scheduled.Fails q fault) same count = refl

  -- the turn of what is due after these
  pub turn_at : (state : State) (turns : ℕ) (before : List Due) (due : Due) → AllByRecursion IsFew before
      → turn_of s.processors (behind_all s code (beginning state turns) before) (act_of due)
      ≡ turn_behind s code state (turns_of s code (beginning state turns) before) (act_of due)
  turn_at state turns before due few =
      turn_same state (behind_all s code (beginning state turns) before) (turns_of s code (beginning state turns) before) (act_of due)
      (state_at s code (beginning state turns) before)
      (loads_at (beginning state turns) before (processor_of (act_of due)) refl few ∙ omega (arith, none_at 64 (processor_of (act_of due))))

  in_order : (state : State) (items : List ScheduleItem) (turns : ℕ) (first : List Turn) (turn : Turn) → s.processors ≤ 64
      → All (IsItemAmong s.processors) items
      → Splits s code (beginning state turns) (dues_of s.processors items turns) first turn → IsDue s code state items turns first turn
  in_order state items turns first turn fits among p =
      let few = subst (AllByRecursion IsFew) p.dues_are (few_dues s.processors items turns fits among) in
      record {
        before = p.before;
        due = p.due;
        rest = p.rest;
        dues = p.dues_are;
        turns_before = p.turns_before;
        turn_is =
            p.turn_is ∙ turn_at state turns p.before p.due (all_front IsFew p.before p.rest p.due few)
            ∙ ap (λ ts. turn_behind s code state ts (act_of p.due)) p.turns_before;
      }

  pub keeps_order : s.processors ≤ 64 → KeepsOrder s code
  keeps_order fits state items turns first more turn among is =
      in_order state items turns first turn fits among
      (splits s code (beginning state turns) (dues_of s.processors items turns) first more turn is)
