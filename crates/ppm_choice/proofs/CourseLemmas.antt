-- What is due in two lists, one after the other.
use Rattle.std.proofs.Common.{◌≡◌, refl, List, [], ◌∷◌, ◌++◌, ap, ◌∙◌, sym}
use Rattle.std.proofs.lemmas.List.{append_assoc}
use Rattle.ppm_cells.specs.declared.shape.Shape.{Shape}
use Rattle.ppm_code.specs.declared.code.CodeParts.{CodeParts}
use Rattle.ppm_choice.specs.Course.{Due, Course, behind, turns_in, behind_all, turns_of}

module _ (s : Shape) (code : CodeParts) where
  pub behind_both : (w : Course) (first more : List Due)
      → behind_all s code w (first ++ more) ≡ behind_all s code (behind_all s code w first) more
  behind_both w [] more = refl
  behind_both w (due ∷ first) more = behind_both (behind s code w due) first more

  pub turns_of_both : (w : Course) (first more : List Due)
      → turns_of s code w (first ++ more) ≡ turns_of s code w first ++ turns_of s code (behind_all s code w first) more
  turns_of_both w [] more = refl
  turns_of_both w (due ∷ first) more =
      ap (λ rest. turns_in s code w due ++ rest) (turns_of_both (behind s code w due) first more)
      ∙ sym (append_assoc (turns_in s code w due) (turns_of s code (behind s code w due) first)
      (turns_of s code (behind_all s code (behind s code w due) first) more))
