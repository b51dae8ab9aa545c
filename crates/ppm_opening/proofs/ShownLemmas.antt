-- The strands, the root and the words of the arrays that an image shows are those of the depth-first run.
use Rattle.std.proofs.Common.{◌≡◌, ℕ, List, [], ◌∷◌, length, refl, sym, ap, ◌∙◌, arith, inl, inr}
use Rattle.std.specs.List.{sum}
use Rattle.std.proofs.lemmas.Bool.{cases_lt, lt-ltb, le-ltb}
use Rattle.std.proofs.lemmas.List.{get_or_past}
use Rattle.ppm_strands.specs.Strand.{code_of}
use Rattle.ppm_words.specs.declared.named_array.NamedArray.{NamedArray}
use Rattle.ppm_words.specs.Inputs.{value_count}
use Rattle.ppm_cells.specs.declared.cell.Cell.TheVariants.{ArrayWord}
use Rattle.ppm_cells.specs.declared.shape.Shape.{Shape}
use Rattle.ppm_code.specs.declared.code.CodeParts.{CodeParts}
use Rattle.ppm_code.specs.Inputs.{words_in}
use Rattle.ppm_code.specs.Locations.{code_locations}
use Rattle.ppm_code.specs.Strands.{table_of}
use Rattle.ppm_layout.specs.Correct.{Opens}
use Rattle.ppm_layout.specs.declared.images.Image.{Image}
use Rattle.ppm_layout.proofs.InputLemmas.{value_count-cons}
use Rattle.ppm_layout.proofs.RootLemmas.{begins}
use Rattle.ppm_frames.specs.Seen.{arrays_at}
use Rattle.ppm_frames.specs.Views.{view}
use Rattle.ppm_frames.proofs.ViewLemmas.{view_is, view_not}
use Rattle.ppm_depth.specs.Image.{word_count}
use Rattle.ppm_depth.specs.Start.{NamesArrays, words_of}
use Rattle.ppm_depth.proofs.EndLemmas.{length_words}
use Rattle.ppm_opening.specs.Correct.{ShowsTheRun}
use Rattle.ppm_opening.proofs.Theorem.{strand_same}

-- both count the words of arrays
same_counts : (input : List NamedArray) → word_count input ≡ value_count input
same_counts [] = refl
same_counts (a ∷ input) =
    let rest = same_counts input in
    let all = value_count-cons a input in
    omega (arith, rest, all)

module _ (code : CodeParts) (input : List NamedArray) (s : Shape) (keeper : ℕ) (image : Image) (o : Opens code input s keeper image) where
  -- a machine has as many array words as the input has words
  count_same : s.arrays ≡ length (words_in input)
  count_same =
      ap (λ (z : Shape). z.arrays) (sym o.image_is.shape_is) ∙ sym image.sized.arrays_are ∙ ap sum o.image_is.lengths_are
      ∙ sym (length_words input ∙ same_counts input)

  word_same : (index : ℕ) → arrays_at (view s image.words) index ≡ words_of (words_in input) index
  word_same index = elim (cases_lt index s.arrays) [
    | inl h ↦ view_is s image.words (ArrayWord index) (lt-ltb index s.arrays h) ∙ (begins code input s keeper image o).arrays index h
    | inr h ↦
        view_not s image.words (ArrayWord index) (le-ltb index s.arrays h)
        ∙ sym (get_or_past (words_in input) index 0 (omega (arith, h, count_same)))
  ]

  pub shows_the_run : NamesArrays code input → ShowsTheRun code input s image.words
  shows_the_run named = record {
    strands = ap (λ (n : ℕ). code_of code_locations (table_of code n)) count_same;
    root = strand_same code input named;
    arrays = λ i. λ (index : ℕ). word_same index i;
  }
