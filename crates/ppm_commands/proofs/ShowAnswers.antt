-- A text has one answer where it is shown.
use Rattle.std.proofs.Common.{◌≡◌, ◌<◌, ◌+◌, ℕ, List, ◌++◌, length, length-append, refl, sym, ◌∙◌, ap, subst, arith}
use Rattle.ppm_cells.specs.declared.shape.Shape.{Shape}
use Rattle.ppm_code.specs.declared.code.CodeParts.{CodeParts}
use Rattle.ppm_saved.specs.Names.{lengths_of}
use Rattle.ppm_saved.specs.declared.names.NamedLength.{NamedLength}
use Rattle.ppm_saved_reader.specs.declared.saved_error.Fault.{Fault}
use Rattle.ppm_saved_reader.specs.declared.saved_error.Fault.TheVariants as fault
use Rattle.ppm_saved_reader.specs.declared.saved_error.SavedError.{SavedError}
use Rattle.ppm_saved_reader.specs.declared.saved_error.SavedError.TheVariants as error
use Rattle.ppm_saved_reader.specs.Correct.{IsSavedText, IsWrongAt, TooLong, IsRefusal, FaultsTellSavedTexts}
use Rattle.ppm_saved_reader.specs.ErrorNumbers.{fault_number}
use Rattle.ppm_saved_reader.specs.Rules.{saved_limit}
use Rattle.ppm_show.specs.Names.{scene_of}
use Rattle.ppm_show.specs.Show.{show_text}
use Rattle.ppm_answers.specs.declared.answer.Answer.{Answer}
use Rattle.ppm_answers.specs.declared.answer.Answer.TheVariants as answers
use Rattle.ppm_answers.specs.declared.saved.SavedRefusal.{SavedRefusal}
use Rattle.ppm_answers.specs.Reading.{TextMay}
use Rattle.ppm_commands.specs.Show.{IsShownBy, IsUnsaved, ShowHas, SceneMay, error_answer, HaveOneAnswer}

-- a refusal by its parts
refusal_path : (q r : SavedRefusal) → q.number ≡ r.number → q.line ≡ r.line → q ≡ r
refusal_path q r number line = λ i. record { number = number i; line = line i }

module _ (law : FaultsTellSavedTexts) where
  -- two states of a text have the same lines
  same_lines : (text a b : List ℕ) → IsShownBy text a → IsShownBy text b → a ≡ b
  same_lines text a b h k =
      let same = law.one_state text h.shape k.shape h.arrays k.arrays h.code k.code h.words k.words h.saved k.saved in
      h.tells ∙ (λ i. show_text (scene_of (same.0 i) (same.1 i) (lengths_of (same.1 i)) (same.2 i) (same.3 i))) ∙ sym k.tells

  -- the text of a state has no fault
  not_both : (text shown : List ℕ) (r : SavedRefusal) → IsShownBy text shown → IsUnsaved text r → ⊥
  not_both text shown r h u = law.excludes text h.shape h.arrays h.code h.words u.rule r.line h.saved u.wrong

  -- two refusals of a text are one
  same_refusal : (text : List ℕ) (q r : SavedRefusal) → IsUnsaved text q → IsUnsaved text r → q ≡ r
  same_refusal text q r u v =
      let same = law.one text u.rule v.rule q.line r.line u.wrong v.wrong in
      refusal_path q r (u.number ∙ ap fault_number same.0 ∙ sym v.number) same.1

  -- the answer of the text of a state is that of the state
  of_state : (text shown : List ℕ) (b : Answer) → IsShownBy text shown → ShowHas text b → answers.Shown shown ≡ b
  of_state text shown (answers.Shown other) h k = ap (λ x. answers.Shown x) (same_lines text shown other h k)
  of_state text shown (answers.SavedRefused r) h k = absurd (not_both text shown r h k)
  of_state text shown b h k = absurd k

  -- and that of a text that is none is its fault
  of_refusal : (text : List ℕ) (q : SavedRefusal) (b : Answer) → IsUnsaved text q → ShowHas text b → answers.SavedRefused q ≡ b
  of_refusal text q (answers.Shown shown) h k = absurd (not_both text shown q k h)
  of_refusal text q (answers.SavedRefused r) h k = ap (λ x. answers.SavedRefused x) (same_refusal text q r h k)
  of_refusal text q b h k = absurd k

  one : (text : List ℕ) (a b : Answer) → ShowHas text a → ShowHas text b → a ≡ b
  one text (answers.Shown shown) b h k = of_state text shown b h k
  one text (answers.SavedRefused q) b h k = of_refusal text q b h k
  one text a b h k = absurd h

  -- a text that is too long has one fault, whatever follows
  front : (text rest : List ℕ) (a : Answer) → saved_limit < length text → ShowHas text a → ShowHas (text ++ rest) a
  front text rest (answers.Shown shown) long h =
      absurd (law.excludes text h.shape h.arrays h.code h.words fault.NoSuchForm 1 h.saved (TooLong long))
  front text rest (answers.SavedRefused r) long h =
      let longer : saved_limit < length (text ++ rest) = omega (arith, long, length-append text rest) in
      let same = law.one text h.rule fault.NoSuchForm r.line 1 h.wrong (TooLong long) in
      record {
        rule = fault.NoSuchForm;
        wrong = subst (λ line. IsWrongAt (text ++ rest) fault.NoSuchForm line) (sym same.1) (TooLong longer);
        number = h.number ∙ ap fault_number same.0;
      }
  front text rest a long h = absurd h

  -- a text without a fault is that of a state
  some : (text : List ℕ) → ((r : SavedRefusal) → ¬ IsUnsaved text r) → (shown : List ℕ) × IsShownBy text shown
  some text unfaulted =
      let z = law.covers text (λ f line wrong. unfaulted (record { number = fault_number f; line = line })
      (record { rule = f; wrong = wrong; number = refl })) in (
        show_text (scene_of z.shape z.arrays (lengths_of z.arrays) z.code z.words),
        record { shape = z.shape; arrays = z.arrays; code = z.code; words = z.words; saved = z.is; tells = refl },
      )

  pub have_one_answer : HaveOneAnswer
  have_one_answer = record { one = one; front = front; some = some }

-- the answer of a text that is refused
pub refused_may : (text : List ℕ) (e : SavedError) → IsRefusal text e → TextMay ShowHas text (error_answer e)
refused_may text error.NoMemory h = tt
refused_may text (error.NoSuchForm line) h = record { rule = fault.NoSuchForm; wrong = h; number = refl }
refused_may text (error.OutOfRange line) h = record { rule = fault.OutOfRange; wrong = h; number = refl }
refused_may text (error.BadListing line) h = record { rule = fault.BadListing; wrong = h; number = refl }
refused_may text (error.BadCode line) h = record { rule = fault.BadCode; wrong = h; number = refl }
refused_may text (error.WrongCount line) h = record { rule = fault.WrongCount; wrong = h; number = refl }

-- that of the text of a state
pub state_may : (text : List ℕ) (shape : Shape) (arrays : List NamedLength) (code : CodeParts) (words : List ℕ)
    → IsSavedText text shape arrays code words → (a : Answer) → SceneMay (scene_of shape arrays (lengths_of arrays) code words) a
    → TextMay ShowHas text a
state_may text shape arrays code words saved (answers.Shown shown) h =
    record { shape = shape; arrays = arrays; code = code; words = words; saved = saved; tells = h }
state_may text shape arrays code words saved answers.NoMemory h = tt
state_may text shape arrays code words saved a h = absurd h
