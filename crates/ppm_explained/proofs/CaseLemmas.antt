-- A case that is refused has notes, and no two; and what stands after a text that is too long changes none.
use Rattle.std.proofs.Common.{◌≡◌, ℕ, ◌<◌, true, List, ◌++◌, length, refl, sym, ◌∙◌, subst, arith}
use Rattle.std.specs.Prelude.{nat_lt}
use Rattle.std.proofs.lemmas.List.{length-append}
use Rattle.ppm_code.specs.Free.{IsFree}
use Rattle.ppm_code.specs.Tidy.{IsTidy}
use Rattle.ppm_case.specs.Correct.{FaultsTellCases, HasCase}
use Rattle.ppm_case.specs.Rules.{case_limit}
use Rattle.ppm_case.specs.declared.case_error.CaseFault.TheVariants as faults
use Rattle.ppm_saved_reader.specs.Rules.{saved_limit}
use Rattle.ppm_answers.specs.declared.case.InputRefusal.{InputRefusal}
use Rattle.ppm_answers.specs.declared.conflict.ListingRefusal.{ListingRefusal}
use Rattle.ppm_answers.specs.declared.refused.Refused.{Refused}
use Rattle.ppm_answers.specs.declared.refused.Refused.TheVariants as refused
use Rattle.ppm_answers.specs.declared.saved.SavedRefusal.{SavedRefusal}
use Rattle.ppm_answers.specs.Refused.{refused_answer}
use Rattle.ppm_commands.specs.Cases.{HasOfCase}
use Rattle.ppm_commands.specs.Races.{RacesHas}
use Rattle.ppm_commands.proofs.RacesAnswers.{none_conflicts}
use Rattle.ppm_loading.proofs.FirstStore.{none_told}
use Rattle.ppm_explain.specs.Meanings.{note_text}
use Rattle.ppm_notes.specs.Dues.{due_notes}
use Rattle.ppm_notes.specs.Lines.{case_notes, input_meaning, input_notes, long_case, long_saved, saved_line, saved_meaning, saved_notes, short_notes}
use Rattle.ppm_notes.specs.Rows.{case_row}
use Rattle.ppm_explained.specs.Texts.{AreCaseNotes, HasReadyCase, UnreadyOf}

-- a refusal is that of `races`, whatever the limit of capsules is
pub to_races : (text : List ℕ) (r : Refused) → HasOfCase UnreadyOf text (refused_answer r) → RacesHas 1 text (refused_answer r)
to_races text (refused.Input r) h = h
to_races text (refused.Listing r) h = h
to_races text (refused.ConflictAt c read write) h = h
to_races text (refused.Untidy u) h = h
to_races text (refused.Source r) h = absurd h.1
to_races text (refused.Conflict c) h = absurd h.1
to_races text (refused.Saved r) h = absurd h.1
to_races text (refused.Plan number) h = absurd h.1

pub from_races : (text : List ℕ) (r : Refused) → RacesHas 1 text (refused_answer r) → HasOfCase UnreadyOf text (refused_answer r)
from_races text (refused.Input r) h = h
from_races text (refused.Listing r) h = h
from_races text (refused.ConflictAt c read write) h = h
from_races text (refused.Untidy u) h = h
from_races text (refused.Source r) h = absurd h.1
from_races text (refused.Conflict c) h = absurd h.1
from_races text (refused.Saved r) h = absurd h.1
from_races text (refused.Plan number) h = absurd h.1

-- a refusal has one list of notes
pub one_notes : (text : List ℕ) (r : Refused) (m n : List ℕ) → AreCaseNotes text r m → AreCaseNotes text r n → m ≡ n
one_notes text (refused.Input r) m n a b = a ∙ sym b
one_notes text (refused.Listing r) m n a b = a ∙ sym b
one_notes text (refused.ConflictAt c read write) m n a b = a ∙ sym b
one_notes text (refused.Untidy u) m n a b = a ∙ sym b
one_notes text r m n a b = absurd a

long : (limit n : ℕ) → limit < n → nat_lt limit n ≡ true
long limit n h = grind (arith, h)

-- the notes of a text that is too long
short : (limit : ℕ) (text words others : List ℕ) → limit < length text → short_notes limit text words others ≡ note_text words
short limit text words others h = rw (long limit (length text) h) refl

of_input : (text : List ℕ) (r : InputRefusal) → case_limit < length text → input_notes text r ≡ note_text long_case
of_input text r h =
    short case_limit text long_case (due_notes text r.line (case_row r.number text r.line) ++ note_text (input_meaning r.number)) h

of_listing : (text : List ℕ) (r : ListingRefusal) → case_limit < length text → case_notes text r ≡ note_text long_case
of_listing text r h = rw (long case_limit (length text) h) refl

of_saved : (text : List ℕ) (r : SavedRefusal) → saved_limit < length text → saved_notes text r ≡ note_text long_saved
of_saved text r h = short saved_limit text long_saved (saved_line text r ++ note_text (saved_meaning r.number)) h

longer : (limit : ℕ) (text rest : List ℕ) → limit < length text → limit < length (text ++ rest)
longer limit text rest h = let lengths = length-append text rest in omega (arith, h, lengths)

-- those of a saved text stay where more stands after it
pub saved_long : (text rest : List ℕ) (r : SavedRefusal) → saved_limit < length text → saved_notes text r ≡ saved_notes (text ++ rest) r
saved_long text rest r h = of_saved text r h ∙ sym (of_saved (text ++ rest) r (longer saved_limit text rest h))

module _ (law : FaultsTellCases) where
  -- a case that is ready is not refused
  pub not_both : (text : List ℕ) (r : Refused) → HasReadyCase text → HasOfCase UnreadyOf text (refused_answer r) → ⊥
  not_both text (refused.Input r) h k = law.excludes text h.0.code h.0.input (faults.OfInput k.fault) r.line h.0.is k.there
  not_both text (refused.Listing r) h k = law.excludes text h.0.code h.0.input (faults.OfListing k.fault) r.line h.0.is k.there
  not_both text (refused.ConflictAt c read write) h k =
      let same = law.one_case text h.0.code k.0.code h.0.input k.0.input h.0.is k.0.is in
      none_conflicts k.0.code k.1.conflict (subst (λ x. IsFree x) same.0 h.1.free) k.1.first
  not_both text (refused.Untidy u) h k =
      let same = law.one_case text h.0.code k.0.code h.0.input k.0.input h.0.is k.0.is in
      none_told k.0.code k.0.input u k.1.1 (subst (λ x. IsTidy x) same.0 h.1.tidy)
  not_both text (refused.Source r) h k = k.1
  not_both text (refused.Conflict c) h k = k.1
  not_both text (refused.Saved r) h k = k.1
  not_both text (refused.Plan number) h k = k.1

  -- a text that is too long is of no case
  no_case : (text : List ℕ) → case_limit < length text → HasCase text → ⊥
  no_case text h c = let short = law.short text c.code c.input c.is in omega (arith, h, short)

  -- the notes of a text that is too long stay where more stands after it
  pub notes_stay : (text rest : List ℕ) (r : Refused) (notes : List ℕ) → case_limit < length text → HasOfCase UnreadyOf text (refused_answer r)
      → AreCaseNotes text r notes → AreCaseNotes (text ++ rest) r notes
  notes_stay text rest (refused.Input r) notes h k n =
      n ∙ of_input text r h ∙ sym (of_input (text ++ rest) r (longer case_limit text rest h))
  notes_stay text rest (refused.Listing r) notes h k n =
      n ∙ of_listing text r h ∙ sym (of_listing (text ++ rest) r (longer case_limit text rest h))
  notes_stay text rest (refused.ConflictAt c read write) notes h k n = absurd (no_case text h k.0)
  notes_stay text rest (refused.Untidy u) notes h k n = absurd (no_case text h k.0)
  notes_stay text rest r notes h k n = absurd n
