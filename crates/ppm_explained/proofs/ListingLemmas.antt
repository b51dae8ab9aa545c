-- A text that is no listing, or one with a conflict, has notes, and no two; and what stands after a text that is too long changes none.
use Rattle.std.proofs.Common.{◌≡◌, ℕ, ◌<◌, true, List, ◌++◌, length, refl, sym, ap, ◌∙◌, arith}
use Rattle.std.specs.Prelude.{nat_lt}
use Rattle.std.proofs.lemmas.List.{length-append}
use Rattle.ppm_code.specs.declared.code.CodeParts.{CodeParts}
use Rattle.ppm_listing_reader.specs.Limits.{listing_limit}
use Rattle.ppm_listing_reader.specs.Correct.{FaultsTellListings, TooLong}
use Rattle.ppm_listing_reader.specs.declared.listing_error.Fault.TheVariants as fault
use Rattle.ppm_loading.specs.Telling.{line_at}
use Rattle.ppm_answers.specs.declared.conflict.Conflict.{Conflict}
use Rattle.ppm_answers.specs.declared.conflict.ListingRefusal.{ListingRefusal}
use Rattle.ppm_answers.specs.declared.refused.Refused.{Refused}
use Rattle.ppm_answers.specs.declared.refused.Refused.TheVariants as refused
use Rattle.ppm_answers.specs.Refused.{refused_answer}
use Rattle.ppm_commands.specs.Check.{CheckHas, IsConflicting}
use Rattle.ppm_explain.specs.Meanings.{note_text}
use Rattle.ppm_notes.specs.Listings.{conflict_notes, listing_notes}
use Rattle.ppm_notes.specs.Meanings.{long_listing}
use Rattle.ppm_explained.specs.Texts.{AreConflictNotes, AreListingNotes}

-- the notes of a conflict, by the code
abbrev pub by_code : (text : List ℕ) (c : Conflict) → CodeParts → List ℕ
by_code text c code = conflict_notes text (line_at 0 code c.capsule c.read_at) (line_at 0 code c.capsule c.write_at)

long : (n : ℕ) → listing_limit < n → nat_lt listing_limit n ≡ true
long n h = grind (arith, h)

-- the notes of a text that is too long
of_long : (text : List ℕ) (r : ListingRefusal) → listing_limit < length text → listing_notes text r ≡ note_text long_listing
of_long text r h = rw (long (length text) h) refl

module _ (law : FaultsTellListings) where
  -- a refusal of a listing has one list of notes
  pub one_notes : (text : List ℕ) (r : Refused) (m n : List ℕ) → AreListingNotes text r m → AreListingNotes text r n → m ≡ n
  one_notes text (refused.Listing r) m n a b = a ∙ sym b
  one_notes text (refused.Conflict c) m n a b =
      a.is ∙ ap (by_code text c) (law.one_code text a.code b.code a.listed b.listed) ∙ sym b.is
  one_notes text r m n a b = absurd a

  -- which stay where more stands after a text that is too long
  pub notes_stay : (text rest : List ℕ) (r : Refused) (notes : List ℕ) → listing_limit < length text → CheckHas text (refused_answer r)
      → AreListingNotes text r notes → AreListingNotes (text ++ rest) r notes
  notes_stay text rest (refused.Listing r) notes h k n =
      let lengths = length-append text rest in
      let longer : listing_limit < length (text ++ rest) = omega (arith, h, lengths) in
      n ∙ of_long text r h ∙ sym (of_long (text ++ rest) r longer)
  notes_stay text rest (refused.Conflict c) notes h k n = absurd (law.excludes text k.code fault.NotThere 1 k.listed (TooLong h))
  notes_stay text rest r notes h k n = absurd n

-- a conflict has notes
pub of_conflict : (text : List ℕ) (c : Conflict) (k : IsConflicting text c) → AreConflictNotes text c (by_code text c k.code)
of_conflict text c k = record { code = k.code; listed = k.listed; is = refl }
