-- The laws of the listener that tells a run: what two lists of turns tell, one after the other.
use Rattle.std.proofs.Common.{◌≡◌, ◌∙◌, List, [], ◌∷◌, ◌++◌, ℕ, refl, sym, ap}
use Rattle.std.proofs.lemmas.List.{append-nil, append_assoc}
use Rattle.ppm_core.specs.Situation.{Situation, run_on, turned}
use Rattle.ppm_core.proofs.RunLemmas.{run_none, run_step}
use Rattle.ppm_naming.specs.declared.names.Names.{Names}
use Rattle.ppm_step.specs.declared.turn.Turn.{Turn}
use Rattle.ppm_trace.specs.Telling.{HasTold}
use Rattle.ppm_trace.specs.Json.{drawn_if, told_if}
use Rattle.ppm_trace.specs.Trace.{along_turns, counts_along, told_counts}
use Rattle.ppm_trace.specs.declared.counts.Counts.{Counts}
use Rattle.ppm_trace.specs.declared.tale.Tale.{Tale}
use Rattle.ppm_trace.specs.declared.tale.Excerpt.{Excerpt}

-- what turns tell
pub along_both : {X : Type 0} (told : Situation → Turn → List X) (m : Situation) (first more : List Turn)
    → along_turns told m (first ++ more) ≡ along_turns told m first ++ along_turns told (run_on m first) more
along_both told m [] more = ap (λ k. along_turns told k more) (run_none m)
along_both told m (turn ∷ turns) more =
    ap (λ rest. told m turn ++ rest) (along_both told (turned m turn) turns more)
    ∙ sym (append_assoc (told m turn) (along_turns told (turned m turn) turns) (along_turns told (run_on (turned m turn) turns) more))
    ∙ ap (λ k. told m turn ++ along_turns told (turned m turn) turns ++ along_turns told k more) (run_step m turn turns)

-- what is counted in them
pub counts_both : (from : ℕ) (c : Counts) (m : Situation) (first more : List Turn)
    → counts_along from c m (first ++ more) ≡ counts_along from (counts_along from c m first) (run_on m first) more
counts_both from c m [] more = ap (λ k. counts_along from c k more) (run_none m)
counts_both from c m (turn ∷ turns) more =
    counts_both from (told_counts from c m turn) (turned m turn) turns more
    ∙ ap (λ k. counts_along from (counts_along from (told_counts from c m turn) (turned m turn) turns) k more) (run_step m turn turns)

module _ (names : Names) (excerpt : Excerpt) where
  -- no turns tell nothing
  pub none_told : (m : Situation) (tale : Tale) → HasTold names excerpt m [] tale tale
  none_told m tale = record { text = sym (append-nil tale.text.items); strokes = sym (append-nil tale.strokes.items); counts = refl }

  -- turns after turns are told after them
  pub told_both : (m : Situation) (first more : List Turn) (a b c : Tale) → HasTold names excerpt m first a b
      → HasTold names excerpt (run_on m first) more b c → HasTold names excerpt m (first ++ more) a c
  told_both m first more a b c d e =
      let told = told_if names excerpt.form excerpt.from in
      let drawn = drawn_if names excerpt.form excerpt.from in
      let one = along_turns told m first in
      let two = along_turns told (run_on m first) more in
      let some = along_turns drawn m first in
      let others = along_turns drawn (run_on m first) more in
      record {
        text = e.text ∙ ap (λ text. text ++ two) d.text ∙ append_assoc a.text.items one two
            ∙ ap (λ rest. a.text.items ++ rest) (sym (along_both told m first more));
        strokes = e.strokes ∙ ap (λ strokes. strokes ++ others) d.strokes ∙ append_assoc a.strokes.items some others
            ∙ ap (λ rest. a.strokes.items ++ rest) (sym (along_both drawn m first more));
        counts = e.counts ∙ ap (λ n. counts_along excerpt.from n (run_on m first) more) d.counts
            ∙ sym (counts_both excerpt.from a.counts m first more);
      }
