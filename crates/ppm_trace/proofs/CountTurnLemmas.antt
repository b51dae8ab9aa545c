-- Each turn is an act, and no more of them are work than there are.
use Rattle.std.proofs.Common.{◌≡◌, ◌∙◌, ℕ, ◌+◌, ◌-◌, ◌≤◌, Bool, true, false, if◌then◌else◌, List, [], ◌∷◌, ◌++◌, length, ap, arith, refl, sym}
use Rattle.std.proofs.lemmas.List.{length-append}
use Rattle.ppm_core.specs.Situation.{Situation, run_on, turned}
use Rattle.ppm_trace.specs.RunCounts.{CountsAreOfTurns}
use Rattle.ppm_lines.specs.Marks.{marks_of}
use Rattle.ppm_lines.specs.declared.mark.Mark.{Mark}
use Rattle.ppm_lines.specs.declared.mark.Mark.TheVariants as mark
use Rattle.ppm_step.specs.State.{State, along, happens, stand_of, is_work_turn, forks_of, takes_of, work_of}
use Rattle.ppm_step.specs.declared.turn.Turn.{Turn}
use Rattle.ppm_trace.specs.Counts.{all_marked, counted, marked, no_counts}
use Rattle.ppm_trace.specs.Laws.{CountsAreTheMachines}
use Rattle.ppm_trace.specs.Trace.{counts_along, is_told, told_counts}
use Rattle.ppm_trace.specs.declared.counts.Counts.{Counts}
use Rattle.ppm_cells.specs.declared.shape.Shape.{Shape}
use Rattle.ppm_code.specs.declared.code.CodeParts.{CodeParts}

-- a mark is no act
acts_mark : (c : Counts) (m : Mark) → (marked c m).acts ≡ c.acts
acts_mark c mark.Fork = refl
acts_mark c mark.Take = refl
acts_mark c mark.Push = refl
acts_mark c mark.Pop = refl
acts_mark c mark.Try = refl
acts_mark c mark.Inherit = refl
acts_mark c mark.Won = refl
acts_mark c mark.Heir = refl
acts_mark c mark.Lost = refl
acts_mark c mark.First = refl
acts_mark c mark.Last = refl
acts_mark c mark.Inline = refl
acts_mark c mark.Bid = refl
acts_mark c mark.Carries = refl
acts_mark c mark.Outbid = refl
acts_mark c mark.Soft = refl
acts_mark c mark.Hard = refl
acts_mark c mark.End = refl
acts_mark c mark.Done = refl

acts_marks : (c : Counts) (ms : List Mark) → (all_marked c ms).acts ≡ c.acts
acts_marks c [] = refl
acts_marks c (m ∷ ms) = acts_marks (marked c m) ms ∙ acts_mark c m

-- from its first act on a run is told
pub told_since : (from : ℕ) (m : Situation) → from ≤ m.turns → is_told from m ≡ true
told_since from m since = grind (arith, since)

-- a turn is one
acts_turn : (c : Counts) (m : Situation) (turn : Turn) → (told_counts 0 c m turn).acts ≡ c.acts + 1
acts_turn c m turn =
    let told : is_told 0 m ≡ true = told_since 0 m (omega arith) in
    let marks = marks_of m.shape m.code m.state turn in
    ap (λ b. (if b then counted c marks else c).acts) told ∙ acts_marks (record c { acts = c.acts + 1 }) marks

acts_all : (c : Counts) (m : Situation) (turns : List Turn) → (counts_along 0 c m turns).acts ≡ c.acts + length turns
acts_all c m [] = omega arith
acts_all c m (turn ∷ turns) =
    let one = acts_turn c m turn in
    let more = acts_all (told_counts 0 c m turn) (turned m turn) turns in
    omega (arith, one, more)

-- one work turn at most
one_at_most : (b : Bool) (processor : ℕ) → length (if b then processor ∷ [] else []) ≤ 1
one_at_most true processor = omega arith
one_at_most false processor = omega arith

work_at_most : (s : Shape) (code : CodeParts) (state : State) (turns : List Turn) → length (along s code work_of state turns) ≤ length turns
work_at_most s code state [] = omega arith
work_at_most s code state (turn ∷ turns) =
    let first = work_of state turn in
    let rest = along s code work_of (happens s code state turn) turns in
    let one = one_at_most (is_work_turn turn.act (stand_of state turn.processor)) turn.processor in
    let more = work_at_most s code (happens s code state turn) turns in
    let both = length-append first rest in
    omega (arith, one, more, both)

pub of_turns : CountsAreTheMachines → CountsAreOfTurns
of_turns machines ordered m turns =
    let c = counts_along 0 no_counts m turns in
    let work = length (along m.shape m.code work_of m.state turns) in
    let forks = length (along m.shape m.code forks_of m.state turns) in
    let takes = length (along m.shape m.code takes_of m.state turns) in
    let made = machines 0 m turns (omega arith) in
    let forked : m.forks + forks ≡ m.forks + c.forks = made.0 in
    let taken : m.takes + takes ≡ m.takes + c.takes = made.1 in
    let all : c.acts ≡ 0 + length turns = acts_all no_counts m turns in
    let acts : c.acts ≡ length turns = omega (arith, all) in
    let few : work ≤ length turns = work_at_most m.shape m.code m.state turns in
    let own : m.work + work - m.work ≡ work = omega arith in
    let each : m.work + work - m.work + (c.acts - (m.work + work - m.work)) ≡ c.acts = omega (arith, acts, few, own) in
    let as_forked : c.forks ≡ forks = omega (arith, forked) in
    let as_taken : c.takes ≡ takes = omega (arith, taken) in
    record { acts = acts; work = own; each = each; forks = as_forked; takes = as_taken }
