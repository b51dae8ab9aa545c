-- A text has one answer within a number of turns.
use Rattle.std.proofs.Common.{◌≡◌, ◌⊎◌, ◌<◌, ◌≤◌, ℕ, suc, ℤ, Bool, true, false, nat_le, List, ◌++◌, length}
use Rattle.std.proofs.Common.{refl, sym, ◌∙◌, ap, subst, inl, inr, arith}
use Rattle.std.proofs.lemmas.Bool.{leb-true, leb-false}
use Rattle.ppm_words.specs.declared.outcome.Outcome.{Outcome}
use Rattle.ppm_words.specs.declared.outcome.Outcome.TheVariants as outcome
use Rattle.ppm_text.specs.Limits.{text_limit}
use Rattle.ppm_tree.specs.Tree.{ProgramTree}
use Rattle.ppm_tree.specs.Meaning.{Plain, Counts, End}
use Rattle.ppm_tree.specs.Program.{initial_arrays, values_of, main_of, main_frame, Means, Serial, Within, NotWithin}
use Rattle.ppm_tree.specs.Begun.{NoneIsStuck, BeginsBody}
use Rattle.ppm_tree.specs.Correct.{HaveOneEnd, SpendTheirTurns}
use Rattle.ppm_program.specs.Programs.{HasProgram}
use Rattle.ppm_answers.specs.declared.refusal.Refusal.{Refusal}
use Rattle.ppm_answers.specs.declared.answer.Answer.{Answer}
use Rattle.ppm_answers.specs.declared.answer.Answer.TheVariants as answers
use Rattle.ppm_program.specs.Refusals.{IsRefusal}
use Rattle.ppm_program.specs.Correct.{HaveOneAnswer as TextsHaveOneProgram}
use Rattle.ppm_commands.specs.Serial.{ComesTo, SerialHas, HaveOneAnswer}

-- a program has an outcome within each number of turns: it ends within them, or it ends later, or it goes on
module _ (ends : HaveOneEnd) (stuck : NoneIsStuck) (t : ProgramTree) (turns : ℕ) where
  abbrev Spends : Counts → End ℤ → Type 0
  Spends k z = Means Plain t (values_of (initial_arrays t)) k z

  -- an end is within the turns or not
  of_end : (k : Counts) (z : End ℤ) → Spends k z → (o : Outcome) × Serial t turns o
  of_end k z h = by (nat_le k.turns turns) refl
    where
      by : (b : Bool) → nat_le k.turns turns ≡ b → (o : Outcome) × Serial t turns o
      by true e = (_, Within k z h (leb-true k.turns turns e))
      by false e = (
        outcome.NotWithin,
        NotWithin (λ j y g.
            let same = (ends Plain t.procedures).procedure (main_of t) (main_frame t.arrays (main_of t).parameters) (values_of (initial_arrays t)) k j z y h g in
            subst (λ (c : Counts). turns < c.turns) same.0 (omega (arith, leb-false k.turns turns e))),
      )

  -- a run that goes on past the turns ends after them, if at all
  of_run : BeginsBody Plain t.procedures (suc turns) (main_of t) (main_frame t.arrays (main_of t).parameters) (values_of (initial_arrays t))
      → (o : Outcome) × Serial t turns o
  of_run b = (
    outcome.NotWithin,
    NotWithin (λ k z h.
        let more : suc turns ≤ k.turns = (stuck Plain t (values_of (initial_arrays t))).spends (suc turns) k z b h in
        omega (arith, more)),
  )

  pub some_outcome : (o : Outcome) × Serial t turns o
  some_outcome = go ((stuck Plain t (values_of (initial_arrays t))).goes_on (suc turns))
    where
      go : ((k : Counts) × (z : End ℤ) × Spends k z)
          ⊎ BeginsBody Plain t.procedures (suc turns) (main_of t) (main_frame t.arrays (main_of t).parameters) (values_of (initial_arrays t))
          → (o : Outcome) × Serial t turns o
      go (inl (k, z, h)) = of_end k z h
      go (inr b) = of_run b

module _ (texts : TextsHaveOneProgram) (spends : SpendTheirTurns) (turns : ℕ) where
  -- an outcome as an answer
  abbrev told : Outcome → Answer
  told (outcome.Ended arrays) = answers.Ended arrays
  told (outcome.Trapped t line) = answers.Trapped t line
  told outcome.NotWithin = answers.NotWithin turns

  -- the answer is an outcome's to which the text comes
  abbrev IsOutcomes : List ℕ → Answer → Type 0
  IsOutcomes text a = (o : Outcome) × ComesTo turns text o × (a ≡ told o)

  -- the answer is a refusal of the text
  abbrev IsRefusals : List ℕ → Answer → Type 0
  IsRefusals text a = (r : Refusal) × IsRefusal text r × (a ≡ answers.SourceRefused r)

  -- each answer of a text is one or the other
  of_text : (text : List ℕ) (a : Answer) → SerialHas turns text a → IsOutcomes text a ⊎ IsRefusals text a
  of_text text (answers.Ended arrays) h = inl (outcome.Ended arrays, h, refl)
  of_text text (answers.Trapped t line) h = inl (outcome.Trapped t line, h, refl)
  of_text text (answers.NotWithin n) h = inl (outcome.NotWithin, h.1, ap (λ m. answers.NotWithin m) h.0)
  of_text text (answers.SourceRefused r) h = inr (r, h, refl)
  of_text text a h = absurd h

  -- a text comes to one outcome: it has one program, which has one within these turns
  one_outcome : (text : List ℕ) (o p : Outcome) → ComesTo turns text o → ComesTo turns text p → o ≡ p
  one_outcome text o p h k =
      let same : h.tree ≡ k.tree = (texts text).program h.tree k.tree h.program k.program in
      (spends k.tree).one turns o p (subst (λ t. Serial t turns o) same h.serial) k.serial

  -- and one that has a program is not refused
  not_both : (text : List ℕ) (o : Outcome) (r : Refusal) → ComesTo turns text o → IsRefusal text r → ⊥
  not_both text o r h k = (texts text).either r k h.tree h.program

  one : (text : List ℕ) (a b : Answer) → SerialHas turns text a → SerialHas turns text b → a ≡ b
  one text a b h k = go (of_text text a h) (of_text text b k) where
    go : IsOutcomes text a ⊎ IsRefusals text a → IsOutcomes text b ⊎ IsRefusals text b → a ≡ b
    go (inl (o, c, e)) (inl (p, d, f)) = e ∙ ap told (one_outcome text o p c d) ∙ sym f
    go (inl (o, c, e)) (inr (r, d, f)) = absurd (not_both text o r c d)
    go (inr (r, c, e)) (inl (o, d, f)) = absurd (not_both text o r d c)
    go (inr (r, c, e)) (inr (s, d, f)) = e ∙ ap (λ x. answers.SourceRefused x) ((texts text).refusal r s c d) ∙ sym f

  -- a text that is too long has no program
  has_none : (text : List ℕ) (o : Outcome) → text_limit < length text → ComesTo turns text o → ⊥
  has_none text o long h = let short = h.program.admitted.tree.lexed.short in absurd (omega (arith, long, short))

  -- what is answered of a text that is too long is a refusal, which each text that goes on from it has as well
  front : (text rest : List ℕ) (a : Answer) → text_limit < length text → SerialHas turns text a → SerialHas turns (text ++ rest) a
  front text rest a long h = go (of_text text a h) where
    go : IsOutcomes text a ⊎ IsRefusals text a → SerialHas turns (text ++ rest) a
    go (inl (o, c, e)) = absurd (has_none text o long c)
    go (inr (r, c, e)) = subst (SerialHas turns (text ++ rest)) (sym e) ((texts text).front rest r long c)

  -- a text that is not refused has an outcome of its program
  some : HaveOneEnd → NoneIsStuck → (text : List ℕ) → ((r : Refusal) → ¬ IsRefusal text r) → (a : Answer) × SerialHas turns text a
  some ends stuck text free =
      let has : (t : ProgramTree) × HasProgram text t = (texts text).none free in
      let o = some_outcome ends stuck has.0 turns in
      of_outcome text o.0 (record { tree = has.0; program = has.1; serial = o.1 })
    where
      of_outcome : (text : List ℕ) (o : Outcome) → ComesTo turns text o → (a : Answer) × SerialHas turns text a
      of_outcome text (outcome.Ended arrays) c = (answers.Ended arrays, c)
      of_outcome text (outcome.Trapped t line) c = (answers.Trapped t line, c)
      of_outcome text outcome.NotWithin c = (answers.NotWithin turns, (refl, c))

-- `serial` has one answer, whatever the number of turns
pub have_one_answer : TextsHaveOneProgram → SpendTheirTurns → HaveOneEnd → NoneIsStuck → HaveOneAnswer
have_one_answer texts spends ends stuck turns =
    record { one = one texts spends turns; front = front texts spends turns; some = some texts spends turns ends stuck }
