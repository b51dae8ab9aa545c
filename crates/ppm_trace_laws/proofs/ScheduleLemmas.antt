-- A schedule names no victim that nobody asks for, so its turns are those that a trace tells.
use Rattle.std.proofs.Common.{◌≡◌, ◌∙◌, ◌⊎◌, inl, inr, ℕ, ◌+◌, ◌<◌, if◌then◌else◌, Bool, true, false, List, [], ◌∷◌, ◌++◌, Option, Some, None, refl, sym, subst, ap, arith}
use Rattle.std.specs.List.{All, AllByRecursion}
use Rattle.std.proofs.lemmas.List.Elements.{recursion_from_All}
use Rattle.std.proofs.lemmas.Nat.{mod_below}
use Rattle.ppm_cells.specs.declared.shape.Shape.{Shape}
use Rattle.ppm_code.specs.declared.code.CodeParts.{CodeParts}
use Rattle.ppm_choice.specs.Course.{Due, Listed, Course, act_of, behind, behind_act, loads_of, seeks, turn_of, turns_in, turns_of, victim_of}
use Rattle.ppm_choice.specs.Schedules.{beginning, dues_of, schedule_turns}
use Rattle.ppm_choice.proofs.DueLemmas.{all_due}
use Rattle.ppm_choice.proofs.MadeLemmas.{Makes, Skips, left_at, made_or_not}
use Rattle.ppm_core.specs.Situation.{Situation, turned}
use Rattle.ppm_naming.specs.Correct.{AddressesName}
use Rattle.ppm_plan.specs.Schedules.{IsActAmong, IsItemAmong, IsVictimAmong}
use Rattle.ppm_plan.specs.declared.fault.Fault.TheVariants as faults
use Rattle.ppm_plan.specs.declared.schedule_item.ScheduleItem.{ScheduleItem}
use Rattle.ppm_plan.specs.declared.schedule_item.ScheduledAct.{ScheduledAct}
use Rattle.ppm_plan.specs.declared.schedule_item.ScheduledAct.TheVariants.{Step, Fails}
use Rattle.ppm_step.specs.State.{State, happens, seeks_holder, stand_of}
use Rattle.ppm_step.specs.declared.turn.Act.TheVariants as kinds
use Rattle.ppm_step.specs.declared.turn.Turn.{Turn}
use Rattle.ppm_trace_laws.specs.Runs.{bare, bare_turns, IsOrdered, TracesTellSchedules}
use Rattle.ppm_trace_laws.proofs.RunLemmas.{traces_tell}

module _ (p : ℕ) where
  -- what is due names processors that are there
  abbrev IsNamed : Due → Type 0
  IsNamed due = IsActAmong p (act_of due)

  victim_there : (own j : ℕ) (stated : Option ℕ) (is_load : Bool) → 0 < p → IsVictimAmong p stated → victim_of p own j stated is_load < p
  victim_there own j stated false some h = some
  victim_there own j None true some h = mod_below (own + 1 + j) p some
  victim_there own j (Some v) true some h = h

  turn_ordered : (w : Course) (act : ScheduledAct) → IsActAmong p act → IsOrdered p (turn_of p w act)
  turn_ordered w (Step c stated) h = record {
    among = record { processor = h.0; act = victim_there c (loads_of w c) stated (seeks w c) (let less = h.0 in omega (arith, less)) h.1 };
    no_quit = tt;
  }
  turn_ordered w (Fails c faults.Soft) h = record { among = record { processor = h; act = tt }; no_quit = tt }
  turn_ordered w (Fails c faults.Hard) h = record { among = record { processor = h; act = tt }; no_quit = tt }

  both : (first more : List Turn) → AllByRecursion (IsOrdered p) first → AllByRecursion (IsOrdered p) more
      → AllByRecursion (IsOrdered p) (first ++ more)
  both [] more all also = also
  both (turn ∷ first) more all also = (all.0, both first more all.1 also)

  acts_named : (items : List ScheduleItem) → AllByRecursion (IsItemAmong p) items
      → AllByRecursion (λ item. IsNamed (Listed item.act)) items
  acts_named [] all = tt
  acts_named (item ∷ items) all = (all.0.act, acts_named items all.1)

  -- a victim is named where a holder word is sought alone
  bare_victim : (own j : ℕ) (stated : Option ℕ) (is_load : Bool)
      → (if is_load then victim_of p own j stated is_load else 0) ≡ victim_of p own j stated is_load
  bare_victim own j stated true = refl
  bare_victim own j stated false = refl

  abbrev step_by : (own victim : ℕ) → Turn
  step_by own victim = record { processor = own; act = kinds.Step victim }

  bare_turn : (m : Situation) (w : Course) (act : ScheduledAct) → w.state ≡ m.state → bare m (turn_of p w act) ≡ turn_of p w act
  bare_turn m w (Step c stated) same =
      ap (λ (state : State). step_by c (if seeks_holder (stand_of state c) then victim_of p c (loads_of w c) stated (seeks w c) else 0)) (sym same)
      ∙ ap (λ victim. step_by c victim) (bare_victim c (loads_of w c) stated (seeks w c))
  bare_turn m w (Fails c faults.Soft) same = refl
  bare_turn m w (Fails c faults.Hard) same = refl

module _ (s : Shape) (code : CodeParts) where
  in_ordered : (w : Course) (due : Due) → IsNamed s.processors due → Makes s code w due ⊎ Skips s code w due
      → AllByRecursion (IsOrdered s.processors) (turns_in s code w due)
  in_ordered w due h (inl k) =
      subst (AllByRecursion (IsOrdered s.processors)) (sym k.turns) (turn_ordered s.processors w (act_of due) h, tt)
  in_ordered w due h (inr k) = subst (AllByRecursion (IsOrdered s.processors)) (sym k.turns) tt

  all_ordered : (w : Course) (dues : List Due) → AllByRecursion (IsNamed s.processors) dues
      → AllByRecursion (IsOrdered s.processors) (turns_of s code w dues)
  all_ordered w [] all = tt
  all_ordered w (due ∷ dues) all =
      both s.processors (turns_in s code w due) (turns_of s code (behind s code w due) dues)
      (in_ordered w due all.0 (made_or_not s code w due)) (all_ordered (behind s code w due) dues all.1)

  schedule_ordered : (state : State) (items : List ScheduleItem) (turns : ℕ) → All (IsItemAmong s.processors) items
      → AllByRecursion (IsOrdered s.processors) (schedule_turns s code state items turns)
  schedule_ordered state items turns all =
      all_ordered (beginning state turns) (dues_of s.processors items turns)
      (all_due (IsNamed s.processors) s.processors items turns
      (acts_named s.processors items (recursion_from_All (IsItemAmong s.processors) items all)) (λ c less. (less, tt)))

-- the turns of what is due, as a trace tells them
abbrev Tells : List Due → Type 0
Tells dues = (w : Course) (m : Situation) → w.state ≡ m.state
    → bare_turns m (turns_of m.shape m.code w dues) ≡ turns_of m.shape m.code w dues

tells_next : (due : Due) (dues : List Due) → Tells dues → (w : Course) (m : Situation) → w.state ≡ m.state
    → Makes m.shape m.code w due ⊎ Skips m.shape m.code w due
    → bare_turns m (turns_of m.shape m.code w (due ∷ dues)) ≡ turns_of m.shape m.code w (due ∷ dues)
tells_next due dues tells w m same (inl k) =
    let turn = turn_of m.shape.processors w (act_of due) in
    let next = behind_act m.shape m.code w (act_of due) in
    let is : turns_of m.shape m.code w (due ∷ dues) ≡ turn ∷ turns_of m.shape m.code next dues =
    λ i. k.turns i ++ turns_of m.shape m.code (k.course i) dues in
    let first = bare_turn m.shape.processors m w (act_of due) same in
    let rest = tells next (turned m turn) (ap (λ (state : State). happens m.shape m.code state turn) same) in
    ap (bare_turns m) is ∙ (λ i. first i ∷ rest i) ∙ sym is
tells_next due dues tells w m same (inr k) =
    let is : turns_of m.shape m.code w (due ∷ dues) ≡ turns_of m.shape m.code w dues =
    λ i. k.turns i ++ turns_of m.shape m.code (k.course i) dues in
    ap (bare_turns m) is ∙ tells w m same ∙ sym is

tells_all : (dues : List Due) → Tells dues
tells_all [] w m same = refl
tells_all (due ∷ dues) w m same = tells_next due dues (tells_all dues) w m same (made_or_not m.shape m.code w due)

pub schedules_tell : ((s : Shape) → AddressesName s) → TracesTellSchedules
schedules_tell law names from m first second acts most small late few many all also e =
    let one = schedule_turns m.shape m.code m.state first acts in
    let two = schedule_turns m.shape m.code m.state second most in
    let length_one = left_at m.shape m.code (beginning m.state acts) (dues_of m.shape.processors first acts) in
    let length_two = left_at m.shape m.code (beginning m.state most) (dues_of m.shape.processors second most) in
    let run =
    traces_tell law names from m one two
    (record {
      processors = small;
      all_told = late;
      first_ordered = schedule_ordered m.shape m.code m.state first acts all;
      second_ordered = schedule_ordered m.shape m.code m.state second most also;
    })
    (omega (arith, few, length_one)) (omega (arith, many, length_two)) e in
    sym (tells_all (dues_of m.shape.processors first acts) (beginning m.state acts) m refl) ∙ run.turns
    ∙ tells_all (dues_of m.shape.processors second most) (beginning m.state most) m refl
