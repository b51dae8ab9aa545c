-- What was read of a text that a source shows has the program of the whole text, or its refusal.
use Rattle.std.proofs.Common.{◌≡◌, ℕ, Bool, true, false, nat_le, List, length, Option, Some, None, refl, sym, subst, arith}
use Rattle.std.proofs.lemmas.Bool.{leb-true, leb-false}
use Rattle.ppm_ports.specs.Whole.{ReadsTo}
use Rattle.ppm_text.specs.Limits.{text_limit}
use Rattle.ppm_tree.specs.Tree.{ProgramTree}
use Rattle.ppm_answers.specs.declared.refusal.Refusal.{Refusal}
use Rattle.ppm_answers.proofs.WholeText.{whole_read}
use Rattle.ppm_program.specs.Programs.{HasProgram}
use Rattle.ppm_program.specs.Refusals.{IsRefusal}
use Rattle.ppm_program.specs.Correct.{HaveOneAnswer}

-- the program of what was read is that of the whole text
pub program_of_all : (all : List ℕ) (now : Option (List ℕ)) (text : List ℕ) (t : ProgramTree) → ReadsTo text_limit (Some all) now text →
    HasProgram text t → HasProgram all t
program_of_all all now text t r h = subst (λ l. HasProgram l t) (sym (whole_read text_limit all now text r h.admitted.tree.lexed.short)) h

-- why what was read is refused, the whole text is
pub refusal_of_all : HaveOneAnswer → (all : List ℕ) (now : Option (List ℕ)) (text : List ℕ) (r : Refusal) → ReadsTo text_limit (Some all) now text →
    IsRefusal text r → IsRefusal all r
refusal_of_all law all None text r reads h = absurd reads.front
refusal_of_all law all (Some rest) text r reads h = by (nat_le (length text) text_limit) refl where
  by : (b : Bool) → nat_le (length text) text_limit ≡ b → IsRefusal all r
  by true e = subst (λ l. IsRefusal l r) (sym (whole_read text_limit all (Some rest) text reads (leb-true (length text) text_limit e))) h
  by false e = subst (λ l. IsRefusal l r) (sym reads.front) ((law text).front rest r (omega (arith, leb-false (length text) text_limit e)) h)
