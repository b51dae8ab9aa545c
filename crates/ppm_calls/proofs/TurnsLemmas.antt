-- Steps in turn, one more at a time, from the machine that an image opens.
use Rattle.std.proofs.Common.{◌≡◌, ◌∙◌, ℕ, ◌+◌, ◌<◌, ◌≤◌, List, [], ◌∷◌, ◌++◌, sym, ap, arith}
use Rattle.std.proofs.lemmas.List.FromFn.{map-range_with_len_more}
use Rattle.ppm_words.specs.declared.named_array.NamedArray.{NamedArray}
use Rattle.ppm_cells.specs.declared.shape.Shape.{Shape}
use Rattle.ppm_code.specs.declared.code.CodeParts.{CodeParts}
use Rattle.ppm_layout.specs.declared.images.Image.{Image}
use Rattle.ppm_layout.specs.Image.{IsImageOf}
use Rattle.ppm_step.specs.declared.turn.Turn.{Turn}
use Rattle.ppm_core.specs.Situation.{Situation, finish_in, loaded, turned, run_on}
use Rattle.ppm_core.proofs.RunLemmas.{run_none, run_step}
use Rattle.ppm_following.proofs.BothLemmas.{run_both}
use Rattle.ppm_calls.specs.Turns.{HasTakenTurns, step_in_turn, steps_in_turn}

-- a turn after the turns of a list
one_more : (m : Situation) (first : List Turn) (turn : Turn) → turned (run_on m first) turn ≡ run_on m (first ++ turn ∷ [])
one_more m first turn = run_none (turned (run_on m first) turn) ∙ run_step (run_on m first) turn [] ∙ run_both m first (turn ∷ [])

-- one step more in turn
pub step_more : (m now next : Situation) (processors count : ℕ) → now ≡ run_on m (steps_in_turn processors count)
    → next ≡ turned now (step_in_turn processors count) → next ≡ run_on m (steps_in_turn processors (count + 1))
step_more m now next processors count made turn =
    turn ∙ ap (λ k. turned k (step_in_turn processors count)) made ∙ one_more m (steps_in_turn processors count) (step_in_turn processors count)
    ∙ ap (run_on m) (sym (map-range_with_len_more (step_in_turn processors) 0 count count (omega arith)))

-- such steps of a machine that was loaded with an image
pub has_taken : (code : CodeParts) (input : List NamedArray) (s : Shape) (most : ℕ) (image : Image) → IsImageOf code input s 0 image
    → (start m : Situation) → start ≡ loaded image.shape code image.lengths image.words
    → (processors count : ℕ) → processors ≡ start.shape.processors → m ≡ run_on start (steps_in_turn processors count)
    → ((k : ℕ) → k < count → finish_in (run_on start (steps_in_turn processors k)) ≡ 0) → count ≤ most
    → (finish_in m ≡ 0 → count ≡ most) → HasTakenTurns code input s most m
has_taken code input s most image opens start m loads processors count same made going within all =
    let begun : start ≡ loaded s code image.lengths image.words =
    loads ∙ ap (λ shape. loaded shape code image.lengths image.words) opens.shape_is in
    let of_shape : processors ≡ s.processors = same ∙ ap (λ (k : Situation). k.shape.processors) begun in
    record {
      image = image;
      opens = opens;
      count = count;
      made = made ∙ (λ i. run_on (begun i) (steps_in_turn (of_shape i) count));
      going = λ k less. sym (λ i. finish_in (run_on (begun i) (steps_in_turn (of_shape i) k))) ∙ going k less;
      within = within;
      all = all;
    }
