-- A text has one answer where its code is written with its arrays.
use Rattle.std.proofs.Common.{◌≡◌, ◌⊎◌, ◌<◌, ℕ, List, ◌++◌, length, refl, sym, ◌∙◌, ap, subst, inl, inr, arith}
use Rattle.ppm_text.specs.Limits.{text_limit}
use Rattle.ppm_tree.specs.Tree.{ProgramTree}
use Rattle.ppm_answers.specs.declared.refusal.Refusal.{Refusal}
use Rattle.ppm_answers.specs.declared.answer.Answer.{Answer}
use Rattle.ppm_answers.specs.declared.answer.Answer.TheVariants as answers
use Rattle.ppm_program.specs.Programs.{HasProgram}
use Rattle.ppm_program.specs.Refusals.{IsRefusal}
use Rattle.ppm_program.specs.Correct.{HaveOneAnswer as TextsHaveOneProgram}
use Rattle.ppm_commands.specs.Case.{HasCaseText, CaseHas, HaveOneAnswer, text_of}

module _ (texts : TextsHaveOneProgram) where
  -- the answer is a text of its code or a refusal of the text
  abbrev IsTexts : List ℕ → Answer → Type 0
  IsTexts text a = (written : List ℕ) × HasCaseText text written × (a ≡ answers.Listed written)

  abbrev IsRefusals : List ℕ → Answer → Type 0
  IsRefusals text a = (r : Refusal) × IsRefusal text r × (a ≡ answers.SourceRefused r)

  of_text : (text : List ℕ) (a : Answer) → CaseHas text a → IsTexts text a ⊎ IsRefusals text a
  of_text text (answers.Listed written) h = inl (written, h, refl)
  of_text text (answers.SourceRefused r) h = inr (r, h, refl)
  of_text text a h = absurd h

  -- a text has one such text
  one_text : (text l m : List ℕ) → HasCaseText text l → HasCaseText text m → l ≡ m
  one_text text l m h k =
      let same : h.tree ≡ k.tree = (texts text).program h.tree k.tree h.program k.program in
      h.written_is ∙ ap text_of same ∙ sym k.written_is

  one : (text : List ℕ) (a b : Answer) → CaseHas text a → CaseHas text b → a ≡ b
  one text a b h k = go (of_text text a h) (of_text text b k)
    where
      go : IsTexts text a ⊎ IsRefusals text a → IsTexts text b ⊎ IsRefusals text b → a ≡ b
      go (inl (l, c, e)) (inl (m, d, f)) = e ∙ ap (λ x. answers.Listed x) (one_text text l m c d) ∙ sym f
      go (inl (l, c, e)) (inr (r, d, f)) = absurd ((texts text).either r d c.tree c.program)
      go (inr (r, c, e)) (inl (m, d, f)) = absurd ((texts text).either r c d.tree d.program)
      go (inr (r, c, e)) (inr (s, d, f)) = e ∙ ap (λ x. answers.SourceRefused x) ((texts text).refusal r s c d) ∙ sym f

  -- a text that is too long has no program, so its answer is a refusal, which its front has as well
  front : (text rest : List ℕ) (a : Answer) → text_limit < length text → CaseHas text a → CaseHas (text ++ rest) a
  front text rest a long h = go (of_text text a h)
    where
      go : IsTexts text a ⊎ IsRefusals text a → CaseHas (text ++ rest) a
      go (inl (l, c, e)) = let short = c.program.admitted.tree.lexed.short in absurd (omega (arith, long, short))
      go (inr (r, c, e)) = subst (CaseHas (text ++ rest)) (sym e) ((texts text).front rest r long c)

  some : (text : List ℕ) → ((r : Refusal) → ¬ IsRefusal text r) → (a : Answer) × CaseHas text a
  some text free =
      let has : (t : ProgramTree) × HasProgram text t = (texts text).none free in
      (answers.Listed (text_of has.0), record { tree = has.0; program = has.1; written_is = refl })

  pub have_one_answer : HaveOneAnswer
  have_one_answer = record { one = one; some = some; front = front }
