use Rattle.std.proofs.Common.{◌∙◌, ◌++◌, List, ℕ, sym, ap, subst, append_assoc}
use Rattle.std.specs.Prelude.{ℤ}
use Rattle.ppm_pieces.specs.Pieces.{split}
use Rattle.ppm_case.specs.Spelling.{run_in, run_values, values_in}
use Rattle.ppm_case.specs.Judged.{HasRoom}
use Rattle.ppm_case.proofs.ValueLemmas.{room_more}
use Rattle.ppm_case.proofs.values.push_values.Goals as goal

-- the values of one word more
pub loop-word-preserved : goal.loop-word-preserved
loop-word-preserved c =
    let word = c.in-Some.word.now in
    let rest = split 32 c.in-Some.rest.now in (
      ap (λ (l : List ℤ). l ++ values_in rest) c.in_ok-push_word.ensures
          ∙ append_assoc c.loop-word.values.items (run_values (run_in word)) (values_in rest)
          ∙ ap (λ (l : List (List ℕ)). c.loop-word.values.items ++ values_in l) (sym c.in-Some.ensures.pieces)
          ∙ c.loop-word.invariant.0,
      (room_more word rest (subst (λ (l : List (List ℕ)). HasRoom l) c.in-Some.ensures.pieces c.loop-word.invariant.1)).1,
    )
