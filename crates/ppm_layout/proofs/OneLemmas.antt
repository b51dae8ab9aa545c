-- Images of one code, input, shape and keeper have the same words, since each word is that of a cell.
use Rattle.std.proofs.Common.{◌≡◌, ℕ, ◌<◌, List, length, get_or, sym, ap, subst, ◌∙◌}
use Rattle.std.proofs.lemmas.List.{ext_get_or}
use Rattle.ppm_words.specs.declared.named_array.NamedArray.{NamedArray}
use Rattle.ppm_cells.specs.declared.shape.Shape.{Shape}
use Rattle.ppm_cells.specs.declared.cell.Cell.{Cell}
use Rattle.ppm_cells.specs.Cells.{word_count, address, IsCell}
use Rattle.ppm_cells.proofs.CellLemmas.{all}
use Rattle.ppm_code.specs.declared.code.CodeParts.{CodeParts}
use Rattle.ppm_layout.specs.Image.{IsImageOf}
use Rattle.ppm_layout.specs.declared.images.Image.{Image}

module _ (code : CodeParts) (input : List NamedArray) (s : Shape) (keeper : ℕ) where
  -- it has as many words as the shape
  long : (a : Image) → IsImageOf code input s keeper a → length a.words ≡ word_count s
  long a is = a.sized.words_are ∙ ap word_count is.shape_is

  pub one : (a b : Image) → IsImageOf code input s keeper a → IsImageOf code input s keeper b → a.words ≡ b.words
  one a b p q =
      ext_get_or 0 a.words b.words (long a p ∙ sym (long b q))
      (λ at h. same at (all s at (subst (λ (n : ℕ). at < n) (long a p) h)))
    where
      same : (at : ℕ) → (c : Cell) × IsCell s c × (address s c ≡ at) → get_or a.words at 0 ≡ get_or b.words at 0
      same at found =
          ap (λ n. get_or a.words n 0) (sym found.2) ∙ p.opened found.0 found.1 ∙ sym (q.opened found.0 found.1)
          ∙ ap (λ n. get_or b.words n 0) found.2
