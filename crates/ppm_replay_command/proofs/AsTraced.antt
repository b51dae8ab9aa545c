-- What the processors of a run count together, each by its own turns, is what a trace of the run counts.
use Rattle.std.proofs.Common.{◌≡◌, ◌≢◌, ◌≤◌, ◌<◌, ◌∙◌, ℕ, zero, suc, ◌+◌, ◌-◌, ◌^◌, ◌==◌, min, Bool, true, false, if◌then◌else◌, List, [], ◌∷◌, ◌++◌, length, refl, sym, ap, subst, arith, eq-eqb, ne_eqb}
use native.Mathlib.Decide.{ℕ_discrete}
use mathlib.Core.Logic.{dite}
use Rattle.ppm_cells.specs.declared.shape.Shape.{Shape}
use Rattle.ppm_code.specs.declared.code.CodeParts.{CodeParts}
use Rattle.ppm_core.specs.Situation.{Situation, loaded, turned}
use Rattle.ppm_lines.specs.Marks.{marks_of}
use Rattle.ppm_step.specs.declared.turn.Act.{Act}
use Rattle.ppm_step.specs.declared.turn.Turn.{Turn}
use Rattle.ppm_step.specs.Standings.{Standing, IsDone}
use Rattle.ppm_step.specs.State.{State, happens, stand_of}
use Rattle.ppm_table.specs.declared.act_counts.ActCounts.{ActCounts}
use Rattle.ppm_table.specs.declared.view.Deed.{Deed}
use Rattle.ppm_table.specs.declared.view.Opening.{Opening}
use Rattle.ppm_table.specs.Counting.{ActCountsTellTurns, acts_of_kind, both_counts, is_hard, is_soft, none_counted, all_counts, counted, counts_below, counts_along, counts_by, together}
use Rattle.ppm_table.specs.Counting.{kept}
use Rattle.ppm_table.specs.Run.{act_by, behind, deed_at, deeds_by, deeds_of, start, AllTold}
use Rattle.ppm_table.proofs.RunLemmas.{behind_is, length_stays, live_below, lost_at, lost_length, no_deed, own_deed, stands_still}
use Rattle.ppm_trace.specs.Counts.{counted as counted_marks, no_counts}
use Rattle.ppm_trace.specs.Laws.{CountsAreTheMachines}
use Rattle.ppm_trace.specs.Trace.{counts_along as traced_along, is_told, told_counts}
use Rattle.ppm_trace.specs.declared.counts.Counts.{Counts}
use Rattle.ppm_replay_command.specs.CountLaws.{AreAsTraced, CountsAreAsTraced}
use Rattle.ppm_trace.specs.RunCounts.{run_counts}
use Rattle.ppm_trace.proofs.CountTurnLemmas.{of_turns, told_since}
use Rattle.ppm_replay_command.proofs.GoneOnLemmas.{counted_goes, few_gone, goes_at, gone_on}
use Rattle.ppm_replay_command.proofs.GoingMarks.{Grows, act_tells, all_grow, in_turn}

abbrev most : ℕ
most = 2 ^ 64 - 1

-- sums of kept numbers
three : (a b c : ℕ) → together (together a b) c ≡ together a (b + c)
three a b c = omega arith

two : (a b : ℕ) → together (together 0 a) (together 0 b) ≡ together 0 (a + b)
two a b = omega arith

from_none : (a : ℕ) → together 0 a ≡ min a most
from_none a = omega arith

-- every turn names a processor below this number
abbrev AreBelow : (count : ℕ) → List Turn → Type 0
AreBelow count [] = Unit {0}
AreBelow count (turn ∷ turns) = (turn.processor < count) × AreBelow count turns

-- those of processors that aren't done name some that are there
told_below : (s : Shape) (code : CodeParts) (count : ℕ) (state : State) (turns : List Turn) → length state.stand ≡ count
    → AllTold s code state turns → AreBelow count turns
told_below s code count state [] len all = tt
told_below s code count state (turn ∷ turns) len all = (
  (let h = live_below state.stand turn.processor all.0.lives in omega (arith, h, len)),
  told_below s code count (happens s code state turn) turns (length_stays s code state turn all.0.lives ∙ len) all.1,
)

-- over all processors
abbrev sum_below : (ℕ → ℕ) → (count : ℕ) → ℕ
sum_below g zero = 0
sum_below g (suc c) = sum_below g c + g c

both_below : (g h : ℕ → ℕ) (count : ℕ) → sum_below (λ c. g c + h c) count ≡ sum_below g count + sum_below h count
both_below g h zero = refl
both_below g h (suc c) = let e = both_below g h c in omega (arith, e)

none_below : (p x count : ℕ) → count ≤ p → sum_below (λ c. if p == c then x else 0) count ≡ 0
none_below p x zero h = refl
none_below p x (suc c) h =
    let e = none_below p x c (omega (arith, h)) in
    let z : (if p == c then x else 0) ≡ 0 = ap (λ (b : Bool). if b then x else 0) (ne_eqb p c (λ same. omega (arith, h, same))) in
    omega (arith, e, z)

one_below : (p x count : ℕ) → p < count → sum_below (λ c. if p == c then x else 0) count ≡ x
one_below p x zero h = absurd (omega (arith, h))
one_below p x (suc c) h = dite (ℕ_discrete p c)
    (λ same.
    let e = none_below p x c (omega (arith, same)) in
    let z : (if p == c then x else 0) ≡ x = ap (λ (b : Bool). if b then x else 0) (eq-eqb p c same) in
    omega (arith, e, z))
    (λ other.
    let e = one_below p x c (omega (arith, h, other)) in
    let z : (if p == c then x else 0) ≡ 0 = ap (λ (b : Bool). if b then x else 0) (ne_eqb p c other) in
    omega (arith, e, z))

nobody : (count : ℕ) → sum_below (λ c. 0) count ≡ 0
nobody zero = refl
nobody (suc c) = let e = nobody c in omega (arith, e)

module _ (s : Shape) (code : CodeParts) where
  -- over the turns of a run
  abbrev sum_along : (State → Turn → ℕ) → State → List Turn → ℕ
  sum_along g state [] = 0
  sum_along g state (turn ∷ turns) = g state turn + sum_along g (happens s code state turn) turns

  abbrev of_turn : State → Turn → ℕ
  of_turn state turn = goes_at turn.act (stand_of state turn.processor)

  abbrev of_own : (c : ℕ) → State → Turn → ℕ
  of_own c state turn = if turn.processor == c then of_turn state turn else 0

  -- one processor
  one_goes : (c : ℕ) (state : State) (turns : List Turn) (t : ActCounts) → c < length state.stand → AllTold s code state turns
      → gone_on (counts_along s code c t (stand_of state c) (deeds_of s code c state turns)) ≡ together (gone_on t) (sum_along (of_own c) state turns)
  one_goes c state [] t small all = let e = few_gone t in omega (arith, e)
  one_goes c state (turn ∷ turns) t small all =
      let next = happens s code state turn in
      let small' : c < length next.stand = omega (arith, small, length_stays s code state turn all.0.lives) in
      let more = deeds_of s code c next turns in
      let rest = sum_along (of_own c) next turns in
      dite (ℕ_discrete turn.processor c)
      (λ same.
      let here : turn.processor < length state.stand = omega (arith, small, same) in
      let deed = deed_at s code state turn in
      let st = stand_of state c in
      let mine : deeds_by s code c state turn ≡ deed ∷ [] = subst (λ (d : ℕ). deeds_by s code d state turn ≡ deed ∷ []) same (own_deed s code state turn) in
      let stands : behind s code c st deed ≡ stand_of next c =
      subst (λ (d : ℕ). behind s code d (stand_of state d) deed ≡ stand_of next d) same (behind_is s code state turn all.0 here) in
      let act : act_by s st deed ≡ turn.act = ap (λ (d : ℕ). act_by s (stand_of state d) deed) (sym same) ∙ all.0.act in
      let own : of_own c state turn ≡ goes_at turn.act st =
      ap (λ (b : Bool). if b then of_turn state turn else 0) (eq-eqb turn.processor c same) ∙ ap (λ (d : ℕ). goes_at turn.act (stand_of state d)) same in
      let t' = counted turn.act st t in
      ap (λ (l : List Deed). gone_on (counts_along s code c t st (l ++ more))) mine
      ∙ ap (λ (a : Act). gone_on (counts_along s code c (counted a st t) (behind s code c st deed) more)) act
      ∙ ap (λ (x : Standing). gone_on (counts_along s code c t' x more)) stands
      ∙ one_goes c next turns t' small' all.1
      ∙ ap (λ (x : ℕ). together x rest) (counted_goes turn.act st t)
      ∙ three (gone_on t) (goes_at turn.act st) rest
      ∙ ap (λ (x : ℕ). together (gone_on t) (x + rest)) (sym own))
      (λ other.
      let own : of_own c state turn ≡ 0 = ap (λ (b : Bool). if b then of_turn state turn else 0) (ne_eqb turn.processor c other) in
      ap (λ (l : List Deed). gone_on (counts_along s code c t (stand_of state c) (l ++ more))) (no_deed s code state turn c other)
      ∙ ap (λ (x : Standing). gone_on (counts_along s code c t x more)) (sym (stands_still s code state turn c all.0.lives other))
      ∙ one_goes c next turns t small' all.1
      ∙ ap (λ (x : ℕ). together (gone_on t) x) (let e : rest ≡ 0 + rest = omega arith in e)
      ∙ ap (λ (x : ℕ). together (gone_on t) (x + rest)) (sym own))

  -- each turn is of one
  each_turn : (count : ℕ) (state : State) (turns : List Turn) → AreBelow count turns
      → sum_below (λ c. sum_along (of_own c) state turns) count ≡ sum_along of_turn state turns
  each_turn count state [] below = nobody count
  each_turn count state (turn ∷ turns) below =
      let next = happens s code state turn in
      let rest = each_turn count next turns below.1 in
      let here = one_below turn.processor (of_turn state turn) count below.0 in
      both_below (λ c. of_own c state turn) (λ c. sum_along (of_own c) next turns) count ∙ omega (arith, rest, here)

module _ (k : Opening) (turns : List Turn) (all : AllTold k.shape k.code (start k) turns) where
  abbrev own_sum : ℕ → ℕ
  own_sum c = sum_along k.shape k.code (of_own k.shape k.code c) (start k) turns

  mine : (c : ℕ) → c < k.shape.processors → gone_on (counts_by k c (deeds_of k.shape k.code c (start k) turns)) ≡ together 0 (own_sum c)
  mine c small =
      let len : c < length (start k).stand = let e = lost_length k.shape.processors in omega (arith, small, e) in
      ap (λ (st : Standing). gone_on (counts_along k.shape k.code c none_counted st (deeds_of k.shape k.code c (start k) turns))) (sym (lost_at k.shape.processors c small))
      ∙ one_goes k.shape k.code c (start k) turns none_counted len all

  -- two together
  both_gone : (t u : ActCounts) → gone_on (both_counts t u) ≡ together (gone_on t) (gone_on u)
  both_gone t u = omega arith

  below : (count : ℕ) → count ≤ k.shape.processors → gone_on (counts_below k turns count) ≡ together 0 (sum_below own_sum count)
  below zero h = refl
  below (suc c) h =
      both_gone (counts_below k turns c) (counts_by k c (deeds_of k.shape k.code c (start k) turns))
      ∙ ap (λ (x : ℕ). together x (gone_on (counts_by k c (deeds_of k.shape k.code c (start k) turns)))) (below c (omega (arith, h)))
      ∙ ap (λ (x : ℕ). together (together 0 (sum_below own_sum c)) x) (mine c (omega (arith, h)))
      ∙ two (sum_below own_sum c) (own_sum c)

  all_gone : gone_on (all_counts k turns) ≡ min (sum_along k.shape k.code (of_turn k.shape k.code) (start k) turns) most
  all_gone =
      let among = told_below k.shape k.code k.shape.processors (start k) turns (lost_length k.shape.processors) all in
      below k.shape.processors (omega arith)
      ∙ ap (λ (x : ℕ). together 0 x) (each_turn k.shape k.code k.shape.processors (start k) turns among) ∙ from_none _

-- what a trace counts of turns
record IsTraced (c d : Counts) (m : Situation) (turns : List Turn) : Type 0 where
  pub soft : d.soft ≡ c.soft + acts_of_kind is_soft turns
  pub hard : d.hard ≡ c.hard + acts_of_kind is_hard turns
  pub going : d.won + d.takeovers ≡ c.won + c.takeovers + sum_along m.shape m.code (of_turn m.shape m.code) m.state turns

-- of one
turn_traced : (c : Counts) (m : Situation) (turn : Turn) → stand_of m.state turn.processor ≢ IsDone
    → Grows c (told_counts 0 c m turn) (act_tells m.shape m.code m.state.words turn.act (stand_of m.state turn.processor))
turn_traced c m turn lives =
    let marks = marks_of m.shape m.code m.state turn in
    let tells = act_tells m.shape m.code m.state.words turn.act (stand_of m.state turn.processor) in
    let told : is_told 0 m ≡ true = told_since 0 m (omega arith) in
    let grown = subst (λ t. Grows (record c { acts = c.acts + 1 }) (counted_marks c marks) t)
    (in_turn m.shape m.code m.state.words turn.act (stand_of m.state turn.processor) lives) (all_grow (record c { acts = c.acts + 1 }) marks) in
    subst (λ (b : Bool). Grows c (if b then counted_marks c marks else c) tells) (sym told)
    (record { soft = grown.soft; hard = grown.hard; going = grown.going })

all_traced : (c : Counts) (m : Situation) (turns : List Turn) → AllTold m.shape m.code m.state turns → IsTraced c (traced_along 0 c m turns) m turns
all_traced c m [] all = record { soft = omega arith; hard = omega arith; going = omega arith }
all_traced c m (turn ∷ turns) all =
    let one = turn_traced c m turn all.0.lives in
    let more = all_traced (told_counts 0 c m turn) (turned m turn) turns all.1 in
    record {
      soft = let a = one.soft in let b = more.soft in omega (arith, a, b);
      hard = let a = one.hard in let b = more.hard in omega (arith, a, b);
      going = let a = one.going in let b = more.going in omega (arith, a, b);
    }

pub as_traced : CountsAreTheMachines → ActCountsTellTurns → CountsAreAsTraced
as_traced machines tell ordered s code array_lengths words turns all =
    let m = loaded s code array_lengths words in
    let k : Opening = record { shape = s; code = code; words = words } in
    let t = tell k turns all in
    let r = of_turns machines ordered m turns in
    let traced = all_traced no_counts m turns all in
    let cut = λ (n : ℕ). kept n in
    record {
      acts = t.acts ∙ ap cut (sym r.acts);
      work = t.work ∙ ap cut (sym r.work);
      forks = t.forks ∙ ap cut (sym r.forks);
      takes = t.takes ∙ ap cut (sym r.takes);
      soft = t.soft ∙ ap cut (let e = traced.soft in let f : acts_of_kind is_soft turns ≡ (run_counts ordered m turns).soft = omega (arith, e) in f);
      hard = t.hard ∙ ap cut (let e = traced.hard in let f : acts_of_kind is_hard turns ≡ (run_counts ordered m turns).hard = omega (arith, e) in f);
      gone_on = all_gone k turns all
          ∙ ap cut (let e = traced.going in
          let f : sum_along s code (of_turn s code) (start k) turns ≡ (run_counts ordered m turns).stolen + (run_counts ordered m turns).takeovers = omega (arith, e) in f);
    }
