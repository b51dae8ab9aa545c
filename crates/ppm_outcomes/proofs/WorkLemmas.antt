-- How many work turns there are: of each processor that obeys, of all, and of a schedule.
use Rattle.std.proofs.Common.{◌≡◌, ◌≤◌, ◌<◌, ◌⊎◌, ℕ, zero, suc, ◌+◌, ◌*◌, ◌==◌, Bool, true, false, if◌then◌else◌, List, [], ◌∷◌, ◌++◌, length, inl, inr, refl, ap, arith}
use Rattle.std.specs.List.{AllByRecursion}
use Rattle.std.proofs.Math.Nat.{suc-mul}
use Rattle.std.proofs.lemmas.Bool.{both_ways, cases_lt, eq-eqb}
use Rattle.std.proofs.lemmas.List.{length-append}
use Rattle.ppm_cells.specs.declared.shape.Shape.{Shape}
use Rattle.ppm_code.specs.declared.code.CodeParts.{CodeParts}
use Rattle.ppm_plan.specs.Schedules.{Planned}
use Rattle.ppm_plan.specs.declared.schedule_item.ScheduleItem.{ScheduleItem}
use Rattle.ppm_step.specs.Among.{IsTurnAmong}
use Rattle.ppm_step.specs.State.{State, stand_of, after, happens, along, work_of, is_work_turn}
use Rattle.ppm_step.specs.declared.turn.Turn.{Turn}
use Rattle.ppm_choice.specs.Course.{Due, Course, behind, turns_in, turns_of}
use Rattle.ppm_choice.specs.Deeds.{deeds_of, work_by, work_made}
use Rattle.ppm_choice.specs.Obeying.{nothing_done, ObeyAll}
use Rattle.ppm_choice.specs.Schedules.{beginning, dues_of, schedule_turns}
use Rattle.ppm_choice.specs.declared.limits.Limits.{Limits}
use Rattle.ppm_choice.proofs.DeedLemmas.{work_is_counted}
use Rattle.ppm_choice.proofs.MadeLemmas.{Makes, Skips, made_or_not}
use Rattle.ppm_choice.proofs.SpentLemmas.{at_most}
use Rattle.ppm_runs.specs.Work.{work_in}

one_or_none : (b : Bool) (p : ℕ) → length (if b then p ∷ [] else []) ≤ 1
one_or_none true p = omega arith
one_or_none false p = omega arith

some_of : (b : Bool) (l : List ℕ) → length (if b then l else []) ≤ length l
some_of true l = omega arith
some_of false l = omega arith

-- one that isn't the last is below it
below : (p n : ℕ) → p < suc n → (p == n) ≡ false → p < n
below p n less other = elim (cases_lt p n) [
  | inl still ↦ still
  | inr most ↦ absurd (both_ways (p == n) other (eq-eqb p n (omega (arith, less, most))))
]

module _ (s : Shape) (code : CodeParts) where
  -- work turns are no more than the turns
  works_few : (state : State) (turns : List Turn) → work_in s code state turns ≤ length turns
  works_few state [] = omega arith
  works_few state (turn ∷ turns) =
      let rest = works_few (happens s code state turn) turns in
      let both = length-append (work_of state turn) (along s code work_of (happens s code state turn) turns) in
      let one = one_or_none (is_work_turn turn.act (stand_of state turn.processor)) turn.processor in
      omega (arith, rest, both, one)

  -- a processor's work is no more than that of all
  pub of_all : (processor : ℕ) (state : State) (turns : List Turn)
      → work_made s code processor state turns ≤ length (along s code work_of state turns)
  of_all processor state [] = omega arith
  of_all processor state (turn ∷ turns) =
      let rest = of_all processor (happens s code state turn) turns in
      let mine = length-append (work_by processor state turn) (along s code (work_by processor) (happens s code state turn) turns) in
      let all = length-append (work_of state turn) (along s code work_of (happens s code state turn) turns) in
      let less = some_of (turn.processor == processor) (work_of state turn) in
      omega (arith, rest, mine, all, less)

  -- that of the first so many, one after the other
  abbrev total : State → List Turn → ℕ → ℕ
  total state turns zero = 0
  total state turns (suc n) = total state turns n + work_made s code n state turns

  -- what one of them has of a list that is its own
  abbrev share : (processor : ℕ) → List ℕ → ℕ → ℕ
  share processor l zero = 0
  share processor l (suc n) = share processor l n + length (if processor == n then l else [])

  share_is : (processor n : ℕ) (l : List ℕ) → processor < n → length l ≤ share processor l n
  share_is processor zero l less = absurd (omega (arith, less))
  share_is processor (suc n) l less = go (processor == n) refl (share_is processor n l)
    where
      go : (b : Bool) → (processor == n) ≡ b → (processor < n → length l ≤ share processor l n)
          → length l ≤ share processor l n + length (if b then l else [])
      go true e more = omega arith
      go false e more = let other = more (below processor n less e) in omega (arith, other)

  total_first : (state : State) (turn : Turn) (turns : List Turn) (n : ℕ)
      → total state (turn ∷ turns) n ≡ share turn.processor (work_of state turn) n + total (happens s code state turn) turns n
  total_first state turn turns zero = refl
  total_first state turn turns (suc n) =
      let rest = total_first state turn turns n in
      let mine = length-append (work_by n state turn) (along s code (work_by n) (happens s code state turn) turns) in
      omega (arith, rest, mine)

  works_within : (state : State) (turns : List Turn) (n : ℕ) → AllByRecursion (IsTurnAmong n) turns
      → length (along s code work_of state turns) ≤ total state turns n
  works_within state [] n all = omega arith
  works_within state (turn ∷ turns) n all =
      let rest = works_within (happens s code state turn) turns n all.1 in
      let first = share_is turn.processor n (work_of state turn) all.0.processor in
      let both = length-append (work_of state turn) (along s code work_of (happens s code state turn) turns) in
      let is = total_first state turn turns n in
      omega (arith, rest, first, both, is)

  total_most : (state : State) (turns : List Turn) (most n : ℕ) → ((c : ℕ) → c < n → work_made s code c state turns ≤ most)
      → total state turns n ≤ n * most
  total_most state turns most zero each = omega arith
  total_most state turns most (suc n) each =
      let rest = total_most state turns most n (λ c less. each c (omega (arith, less))) in
      let last = each n (omega arith) in
      let is = suc-mul n most in
      omega (arith, rest, last, is)

  -- where each processor obeys they make no more than each may
  pub obeyed_work : (plan : Planned) (limits : Limits) (state : State) (turns : List Turn) → ObeyAll plan limits s code state turns
      → AllByRecursion (IsTurnAmong s.processors) turns → length (along s code work_of state turns) ≤ s.processors * limits.turns
  obeyed_work plan limits state turns obey among =
      let each : (c : ℕ) → c < s.processors → work_made s code c state turns ≤ limits.turns = λ c less.
      let few = at_most plan limits c nothing_done (deeds_of s code c state turns) (stand_of (after s code state turns) c)
      (obey.obeys c less) (omega arith) in
      let is = work_is_counted s code c state turns in
      omega (arith, few, is) in
      let all = works_within state turns s.processors among in
      let most = total_most state turns limits.turns s.processors each in
      omega (arith, all, most)

  -- a schedule's run has no more turns than acts may be made
  few_turns : (w : Course) (dues : List Due) → length (turns_of s code w dues) ≤ w.left
  few_turns w [] = omega arith
  few_turns w (due ∷ dues) = go (made_or_not s code w due) (few_turns (behind s code w due) dues)
    where
      go : Makes s code w due ⊎ Skips s code w due → length (turns_of s code (behind s code w due) dues) ≤ (behind s code w due).left
          → length (turns_in s code w due ++ turns_of s code (behind s code w due) dues) ≤ w.left
      go (inl m) rest =
          let both = length-append (turns_in s code w due) (turns_of s code (behind s code w due) dues) in
          let one = ap (λ (l : List Turn). length l) m.turns in
          let less = ap (λ (c : Course). c.left) m.course in
          let some = m.left in
          omega (arith, rest, both, one, less, some)
      go (inr k) rest =
          let both = length-append (turns_in s code w due) (turns_of s code (behind s code w due) dues) in
          let none = ap (λ (l : List Turn). length l) k.turns in
          let same = ap (λ (c : Course). c.left) k.course in
          omega (arith, rest, both, none, same)

  pub scheduled_work : (state : State) (items : List ScheduleItem) (turns : ℕ)
      → length (along s code work_of state (schedule_turns s code state items turns)) ≤ turns
  scheduled_work state items turns =
      let few = works_few state (schedule_turns s code state items turns) in
      let acts = few_turns (beginning state turns) (dues_of s.processors items turns) in
      omega (arith, few, acts)
