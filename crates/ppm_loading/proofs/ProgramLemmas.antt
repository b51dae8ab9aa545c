-- The answers of texts by those of programs.
use Rattle.std.proofs.Common.{◌≡◌, ◌⊎◌, ◌<◌, ◌≤◌, ℕ, List, [], ◌∷◌, ◌++◌, length, refl, sym, ap, ◌∙◌, subst, inl, inr, arith}
use Rattle.ppm_ports.specs.Ports.{Port}
use Rattle.ppm_text.specs.Limits.{text_limit}
use Rattle.ppm_tree.specs.Tree.{ProgramTree}
use Rattle.ppm_program.specs.Programs.{HasProgram}
use Rattle.ppm_program.specs.Refusals.{IsRefusal}
use Rattle.ppm_program.specs.Correct.{HaveOneAnswer as TextsHaveOneProgram}
use Rattle.ppm_answers.specs.declared.refusal.Refusal.{Refusal}
use Rattle.ppm_answers.specs.declared.answer.Answer.{Answer}
use Rattle.ppm_answers.specs.declared.answer.Answer.TheVariants as answers
use Rattle.ppm_answers.specs.Reading.{Reads, JudgingMay, AreOne, FrontsDecide}
use Rattle.ppm_loading.specs.Programs.{TextHas, ReadsProgram, RefusedHas, NoProgramMay, ProgramMay}

-- the answers that programs have are of some kinds: none is a refusal, a read fault or want of memory
pub record AreKinds (Is : Answer → Type 0) : Type 0 where
  pub no_refusal : (r : Refusal) → ¬ Is (answers.SourceRefused r)
  pub no_fault : ¬ Is answers.ReadFault
  pub no_memory : ¬ Is answers.NoMemory
  pub no_plan : (number : ℕ) → ¬ Is (answers.PlanRefused number)

module _ (Has : ProgramTree → Answer → Type 0) where
  -- the answer is a program's of the text, or a refusal of it
  abbrev IsPrograms : List ℕ → Answer → Type 0
  IsPrograms text a = (t : ProgramTree) × HasProgram text t × Has t a

  abbrev IsRefusals : List ℕ → Answer → Type 0
  IsRefusals text a = (r : Refusal) × IsRefusal text r × (a ≡ answers.SourceRefused r)

  by_text : (text : List ℕ) (a : Answer) → TextHas Has text a → IsPrograms text a ⊎ IsRefusals text a
  by_text text (answers.SourceRefused r) h = inr (r, h, refl)
  by_text text a h = inl h

  module _ (texts : TextsHaveOneProgram) where
    -- where programs have one answer, texts have
    pub text_one : ((t : ProgramTree) (a b : Answer) → Has t a → Has t b → a ≡ b) → AreOne (TextHas Has)
    text_one one text a b h k = go (by_text text a h) (by_text text b k)
      where
        go : IsPrograms text a ⊎ IsRefusals text a → IsPrograms text b ⊎ IsRefusals text b → a ≡ b
        go (inl (t, c, has)) (inl (u, d, had)) =
            let same : u ≡ t = (texts text).program u t d c in one t a b has (subst (λ (v : ProgramTree). Has v b) same had)
        go (inl (t, c, has)) (inr (r, d, f)) = absurd ((texts text).either r d t c)
        go (inr (r, c, e)) (inl (u, d, had)) = absurd ((texts text).either r c u d)
        go (inr (r, c, e)) (inr (s, d, f)) = e ∙ ap (λ x. answers.SourceRefused x) ((texts text).refusal r s c d) ∙ sym f

    -- a text that is too long has no program, so its answer is a refusal, which its front has as well
    pub text_front : FrontsDecide text_limit (TextHas Has)
    text_front text rest a long h = go (by_text text a h)
      where
        go : IsPrograms text a ⊎ IsRefusals text a → TextHas Has (text ++ rest) a
        go (inl (t, c, has)) = let short = c.admitted.tree.lexed.short in absurd (omega (arith, long, short))
        go (inr (r, c, e)) = subst (TextHas Has (text ++ rest)) (sym e) ((texts text).front rest r long c)

  module _ {Is : Answer → Type 0} (kinds : AreKinds Is)
      (of_program : (t : ProgramTree) (a : Answer) → Has t a → Is a) where
    -- where it may be given, it is want of memory or that of the program
    pub has_may : (t : ProgramTree) (a : Answer) → Has t a → ProgramMay (Has t) a
    has_may t answers.NoMemory h = tt
    has_may t a h = h

    -- an answer of a program is one of its text
    pub of_text : (text : List ℕ) (t : ProgramTree) → HasProgram text t → (a : Answer) → Has t a → TextHas Has text a
    of_text text t has (answers.SourceRefused r) h = absurd (kinds.no_refusal r (of_program t (answers.SourceRefused r) h))
    of_text text t has a h = (t, has, h)

    -- none is that a plan is refused
    pub plain : (text : List ℕ) (number : ℕ) → ¬ TextHas Has text (answers.PlanRefused number)
    plain text number h = kinds.no_plan number (of_program h.0 (answers.PlanRefused number) h.2)

    -- that of the program that was read may be given, or want of memory
    pub program_may : (source : Port) (t : ProgramTree) (a : Answer) → ReadsProgram source t → ProgramMay (Has t) a
        → JudgingMay text_limit (TextHas Has) source a
    program_may source t answers.ReadFault r h = absurd (kinds.no_fault (of_program t answers.ReadFault h))
    program_may source t answers.NoMemory r h = ((r.0, r.1.whole.most, r.1.whole.front), r.1.holds)
    program_may source t (answers.SourceRefused e) r h = absurd (kinds.no_refusal e (of_program t (answers.SourceRefused e) h))
    program_may source t a r h = (r.0, r.1, (t, r.2, h))

  -- and what is answered where there is no program
  pub none_may : (source : Port) (a : Answer) → NoProgramMay source a → JudgingMay text_limit (TextHas Has) source a
  none_may source answers.ReadFault h = h
  none_may source answers.NoMemory h = h
  none_may source (answers.SourceRefused r) h = h
  none_may source a (text, read, has) = absurd has.2

-- no text has a read fault
pub no_fault : (text : List ℕ) → ¬ RefusedHas text answers.ReadFault
no_fault text h = h.2
