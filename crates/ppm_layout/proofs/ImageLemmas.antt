-- The words in the order of their addresses make an image.
use Rattle.std.proofs.Common.{◌≡◌, ℕ, ◌<◌, List, [], ◌∷◌, length, map, refl, sym, ap, ◌∙◌, arith}
use Rattle.std.specs.List.{sum}
use Rattle.std.proofs.lemmas.List.Concat.{flat_map-cons}
use Rattle.std.proofs.lemmas.List.{length-append, length-map}
use Rattle.ppm_words.specs.TwosComplement.{word_of}
use Rattle.ppm_words.specs.Inputs.{value_count}
use Rattle.ppm_words.specs.declared.named_array.NamedArray.{NamedArray}
use Rattle.ppm_cells.specs.declared.shape.Shape.{Shape}
use Rattle.ppm_cells.specs.Cells.{IsCell}
use Rattle.ppm_cells.specs.Memory.{read}
use Rattle.ppm_cells.specs.declared.cell.Cell.{Cell}
use Rattle.ppm_code.specs.Inputs.{words_in}
use Rattle.ppm_code.specs.declared.code.CodeParts.{CodeParts}
use Rattle.ppm_code.specs.Sizes.{frame_size}
use Rattle.ppm_layout.specs.Sized.{IsSized}
use Rattle.ppm_layout.specs.Opening.{root_frame, opening}
use Rattle.ppm_layout.specs.Sequence.{opening_words}
use Rattle.ppm_layout.proofs.InputLemmas.{value_count-cons}
use Rattle.ppm_layout.proofs.SequenceLemmas.{read_all, length_all}

-- the words of the arrays are as many as their values
length_arrays : (input : List NamedArray) → length (words_in input) ≡ value_count input
length_arrays [] = refl
length_arrays (a ∷ input) =
    ap (λ (ws : List ℕ). length ws) (flat_map-cons (λ (b : NamedArray). map word_of b.values) a input)
    ∙ length-append (map word_of a.values) (words_in input)
    ∙ (let one = length-map a.values word_of in
    let rest = length_arrays input in
    let all = value_count-cons a input in
    omega (arith, one, rest, all))

module _ (code : CodeParts) (input : List NamedArray) (s : Shape) (keeper : ℕ) where
  -- it has the shape's size
  pub sized : (lengths words : List ℕ) → keeper < s.processors → s.arrays ≡ value_count input
      → lengths ≡ map (λ (a : NamedArray). length a.values) input
      → words ≡ opening_words code input s keeper → IsSized s keeper lengths words
  sized lengths words below arrays is_lengths is_words = record {
    words_are = ap (λ (ws : List ℕ). length ws) is_words
        ∙ length_all s keeper (frame_size code code.root) (root_frame code input) (words_in input) (length_arrays input ∙ sym arrays);
    arrays_are = ap sum is_lengths ∙ sym arrays;
    keeper_below = below;
  }

  -- and each cell has its opening word
  pub opened : (words : List ℕ) → words ≡ opening_words code input s keeper
      → (c : Cell) → IsCell s c → read s words c ≡ opening code input s keeper c
  opened words is_words c there =
      ap (λ (ws : List ℕ). read s ws c) is_words
      ∙ read_all s keeper (frame_size code code.root) (root_frame code input) (words_in input) c there
