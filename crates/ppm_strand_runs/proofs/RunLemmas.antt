-- A run that goes on, and its end.
use Rattle.std.proofs.Common.{◌≡◌, ◌∙◌, ℕ, ◌≤◌, Bool, true, false, ◌&&◌, nat_lt, is_none, List, [], ◌∷◌, length, Option, Some, None, refl, sym, ap, subst, arith, ltb-true, ltb-false}
use Rattle.std.proofs.lemmas.Bool.{both_ways, and_parts}
use Rattle.std.proofs.lemmas.Option.{none-some}
use Rattle.ppm_words.specs.declared.named_array.NamedArray.{NamedArray}
use Rattle.ppm_code.specs.Inputs.{words_in}
use Rattle.ppm_depth.specs.Start.{root_own, words_of}
use Rattle.ppm_plan.specs.declared.strand_item.StrandItem.{StrandItem}
use Rattle.ppm_racy.specs.declared.code.RacyParts.{RacyParts}
use Rattle.ppm_racy.specs.Code.{plain_code}
use Rattle.ppm_interleaving.specs.declared.deed.Turn.{Turn}
use Rattle.ppm_interleaving.specs.Shows.{finish_in}
use Rattle.ppm_interleaving.specs.Turns.{Moment, moment}
use Rattle.ppm_strand_runs.specs.declared.run.StrandRun.{StrandRun}
use Rattle.ppm_strand_runs.specs.Order.{GoesOn, InOrder, Begins, Makes, IsNext, turns_of}
use Rattle.ppm_strand_runs.specs.Run.{AddsTurn, Comes, IsRunOf, IsStart, strands_of}

-- what is none is told so
none_is : {A : Type 0} (o : Option A) → is_none o ≡ true → o ≡ None
none_is None h = refl
none_is (Some x) h = absurd (both_ways false refl h)

is_none-none : {A : Type 0} (o : Option A) → o ≡ None → is_none o ≡ true
is_none-none o h = ap is_none h

module _ (code : RacyParts) (input : List NamedArray) (schedule : List StrandItem) (limit : ℕ) where
  -- a run so far, and what comes next
  pub record Reached (run : StrandRun) (left : List Turn) (next : ℕ) : Type 0 where
    pub moments : List Moment
    pub order : InOrder (strands_of code input) (turns_of schedule) moments left next
    pub come : Comes code input moments run
    pub within : run.turns ≤ limit

  -- before any turn
  pub reached_start : (run : StrandRun) (left : List Turn) (next : ℕ) → IsStart code input run → left ≡ turns_of schedule → next ≡ 0
      → Reached run left next
  reached_start run left next start all first = record {
    moments = [];
    order = subst (λ (l : List Turn). InOrder (strands_of code input) (turns_of schedule) [] l next) (sym all)
        (subst (λ (n : ℕ). InOrder (strands_of code input) (turns_of schedule) [] (turns_of schedule) n) (sym first) Begins);
    come = start;
    within = omega (arith, start.turns);
  }

  -- the root's strand isn't over
  goes_on : (run : StrandRun) (h : List Moment) → Comes code input h run → finish_in run.machine.strands.items 0 ≡ None → GoesOn (strands_of code input) h
  goes_on run h come none result over =
      let a = come.shows.finishes.alone 0 result over in
      none-some a.0 (sym none ∙ a.1)

  -- with a turn more
  pub reached_more : (run new : StrandRun) (left after : List Turn) (next then_next : ℕ) (turn : Turn) → Reached run left next
      → (nat_lt run.turns limit && is_none (finish_in run.machine.strands.items 0)) ≡ true
      → IsNext left next (length run.machine.strands.items) turn after then_next → AddsTurn code turn run new → Reached new after then_next
  reached_more run new left after next then_next turn r test is adds =
      let tests = and_parts (nat_lt run.turns limit) (is_none (finish_in run.machine.strands.items 0)) test in
      let less = ltb-true run.turns limit tests.0 in
      let added = adds (root_own (plain_code code) input) (words_of (words_in input)) (length (words_in input)) r.moments r.come in
      record {
        moments = moment turn added.0 ∷ r.moments;
        order = Makes turn added.0 r.order (goes_on run r.moments r.come (none_is (finish_in run.machine.strands.items 0) tests.1))
            (subst (λ (n : ℕ). IsNext left next n turn after then_next) (sym r.come.shows.strand_count) is);
        come = added.1;
        within = omega (arith, less, r.come.turns, added.1.turns);
      }

  -- the end
  pub ends : (run : StrandRun) (left : List Turn) (next : ℕ) → Reached run left next
      → (nat_lt run.turns limit && is_none (finish_in run.machine.strands.items 0)) ≡ false → IsRunOf code input schedule limit run
  ends run left next r test = record {
    moments = r.moments;
    left = left;
    next = next;
    order = r.order;
    come = r.come;
    within = r.within;
    ended = λ none. at (nat_lt run.turns limit) refl (subst (λ (b : Bool). (nat_lt run.turns limit && b) ≡ false)
        (is_none-none (finish_in run.machine.strands.items 0) none) test);
  }
    where
      at : (less : Bool) → nat_lt run.turns limit ≡ less → (less && true) ≡ false → run.turns ≡ limit
      at true e f = absurd (both_ways true f refl)
      at false e f = omega (arith, ltb-false run.turns limit e, r.within)
