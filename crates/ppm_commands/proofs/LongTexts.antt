-- A text that is too long has one fault, of its first line, and its front has the same.
use Rattle.std.proofs.Common.{◌≡◌, ◌⊎◌, ◌<◌, ◌≤◌, ℕ, zero, suc, List, [], ◌∷◌, ◌++◌, length, Option, Some, None}
use Rattle.std.proofs.Common.{refl, sym, ap, ◌∙◌, subst, inl, inr, arith, IsTrue, length-append}
use Rattle.ppm_code.specs.declared.code.CodeParts.{CodeParts}
use Rattle.ppm_listing_reader.specs.declared.listing_error.Fault.{Fault}
use Rattle.ppm_listing_reader.specs.declared.listing_error.Fault.TheVariants as fault
use Rattle.ppm_listing_reader.specs.declared.part.Part.{Part}
use Rattle.ppm_listing_reader.specs.declared.part.Part.TheVariants as part
use Rattle.ppm_listing_reader.specs.declared.place.Place.TheVariants.{AtVersion}
use Rattle.ppm_listing_reader.specs.Limits.{listing_limit}
use Rattle.ppm_listing_reader.specs.ErrorNumbers.{fault_number}
use Rattle.ppm_listing_reader.specs.Tokens.{split}
use Rattle.ppm_listing_reader.specs.Forms.{line_of, lines_in}
use Rattle.ppm_listing_reader.specs.Places.{standing, standing_from, code_in}
use Rattle.ppm_listing_reader.specs.Faults.{breaks, BreaksAt}
use Rattle.ppm_listing_reader.specs.Correct.{standing_of, HasFault, Breaks, TooLong, IsFirstFault, IsNotAfter, FaultsTellListings}
use Rattle.ppm_answers.specs.declared.answer.Answer.{Answer}
use Rattle.ppm_answers.specs.declared.answer.Answer.TheVariants as answers
use Rattle.ppm_commands.specs.Check.{CheckHas}
use Rattle.ppm_commands.proofs.Pieces.{total, some_total, ended, first_line, ended_is, first_stays, first_grows}
use Rattle.ppm_commands.proofs.FirstLine.{version_or_none, version_size}

-- what the first line says where it stands; `None` too where no line feed ends it
abbrev stands : Option (List ℕ) → Option Part
stands None = None
stands (Some p) = standing AtVersion (line_of p)

-- ---- the first line of a text and of its front

same_stand : (text rest : List ℕ) (o q : Option (List ℕ)) → 5 < length text → first_line text ≡ o → first_line (text ++ rest) ≡ q →
    stands o ≡ stands q
same_stand text rest (Some p) q long e f = ap stands (sym (first_stays text rest p e) ∙ f)
same_stand text rest None None long e f = refl
same_stand text rest None (Some p) long e f = by (version_or_none (line_of p)) where
  by : (stands (Some p) ≡ None) ⊎ (stands (Some p) ≡ Some part.Version) → None ≡ stands (Some p)
  by (inl h) = sym h
  by (inr h) =
      let grown : length text ≤ length p = first_grows text rest p e f in
      let small : length p ≤ 5 = version_size p h in
      absurd (omega (arith, long, grown, small))

-- a text begins with what its first line says
begins : (ps : List (List ℕ)) → 1 < total ps → (ls : List (Option Part)) × (standing_from AtVersion (lines_in ps) ≡ stands (ended ps) ∷ ls)
begins [] h = absurd (omega (arith, h))
begins ([] ∷ []) h = absurd (omega (arith, h))
begins ((b ∷ p) ∷ []) h = ([], refl)
begins (p ∷ q ∷ ps) h = (_, refl)

text_begins : (text : List ℕ) → 0 < length text → (ls : List (Option Part)) × (standing_of text ≡ stands (first_line text) ∷ ls)
text_begins text h =
    let size = some_total 10 text in
    let b = begins (split 10 text) (omega (arith, h, size)) in
    (b.0, b.1 ∙ ap (λ o. stands o ∷ b.0) (ended_is text))

-- ---- its fault

-- the fault of a text that is too long, by what its first line says
abbrev long_fault : Option Part → Fault
long_fault None = fault.NoSuchForm
long_fault (Some p) = fault.NotThere

-- the version breaks no rule
version_keeps : (code : CodeParts) (rule : Fault) → IsTrue (breaks code rule AtVersion (Some part.Version)) → ⊥
version_keeps code fault.NoSuchForm h = cc
version_keeps code fault.OutOfRange h = cc
version_keeps code fault.NotForward h = cc
version_keeps code fault.NoEnd h = cc
version_keeps code fault.WrongRoom h = cc
version_keeps code fault.NotThere h = cc

least_number : (rule : Fault) → 1 ≤ fault_number rule
least_number fault.NoSuchForm = omega arith
least_number fault.OutOfRange = omega arith
least_number fault.NotForward = omega arith
least_number fault.NoEnd = omega arith
least_number fault.WrongRoom = omega arith
least_number fault.NotThere = omega arith

-- and at most 6
pub most_number : (rule : Fault) → fault_number rule ≤ 6
most_number fault.NoSuchForm = omega arith
most_number fault.OutOfRange = omega arith
most_number fault.NotForward = omega arith
most_number fault.NoEnd = omega arith
most_number fault.WrongRoom = omega arith
most_number fault.NotThere = omega arith

module _ (text : List ℕ) (long : listing_limit < length text) where
  -- a fault of the first line
  first_fault : (code : CodeParts) (s : Option Part) (ls : List (Option Part)) → (s ≡ None) ⊎ (s ≡ Some part.Version) → (rule : Fault) →
      BreaksAt code rule AtVersion (s ∷ ls) zero → fault_number (long_fault s) ≤ fault_number rule
  first_fault code s ls (inl e) rule h = subst (λ x. fault_number (long_fault x) ≤ fault_number rule) (sym e) (least_number rule)
  first_fault code s ls (inr e) rule h = absurd (version_keeps code rule (subst (λ x. IsTrue (breaks code rule AtVersion x)) e h))

  not_before : (s : Option Part) (ls : List (Option Part)) → (s ≡ None) ⊎ (s ≡ Some part.Version) → standing_of text ≡ s ∷ ls →
      (other : Fault) (later : ℕ) → HasFault text other later → IsNotAfter (long_fault s, 1) (other, later)
  not_before s ls c e _ _ (TooLong h) = inr (refl, most_number (long_fault s))
  not_before s ls c e other _ (Breaks _ zero b) =
      inr (
        refl,
        first_fault (code_in (standing_of text)) s ls c other
            (subst (λ l. BreaksAt (code_in (standing_of text)) other AtVersion l zero) e b),
      )
  not_before s ls c e other _ (Breaks _ (suc n) b) = inl (omega arith)

  there : (s : Option Part) (ls : List (Option Part)) → (s ≡ None) ⊎ (s ≡ Some part.Version) → standing_of text ≡ s ∷ ls → HasFault text (long_fault s) 1
  there s ls (inl e) st = subst (λ x. HasFault text (long_fault x) 1) (sym e)
      (Breaks fault.NoSuchForm 0 (subst (λ l. BreaksAt (code_in (standing_of text)) fault.NoSuchForm AtVersion l zero)
      (sym (st ∙ ap (λ x. x ∷ ls) e)) refl))
  there s ls (inr e) st = subst (λ x. HasFault text (long_fault x) 1) (sym e) (TooLong long)

  cases : (o : Option (List ℕ)) → (stands o ≡ None) ⊎ (stands o ≡ Some part.Version)
  cases None = inl refl
  cases (Some p) = version_or_none (line_of p)

  -- it is that of the first line, or that the text is too long
  first_of_long : IsFirstFault text (long_fault (stands (first_line text))) 1
  first_of_long =
      let b = text_begins text (omega (arith, long)) in
      let c = cases (first_line text) in
      record { there = there (stands (first_line text)) b.0 c b.1; first = not_before (stands (first_line text)) b.0 c b.1 }

-- what is after the front of a text that is too long changes no fault
pub same_fault : (text rest : List ℕ) (rule : Fault) (line : ℕ) → FaultsTellListings → listing_limit < length text → IsFirstFault text rule line →
    IsFirstFault (text ++ rest) rule line
same_fault text rest rule line law long f =
    let of_front = law.one_fault text rule (long_fault (stands (first_line text))) line 1 f (first_of_long text long) in
    let same = same_stand text rest (first_line text) (first_line (text ++ rest)) (omega (arith, long)) refl refl in
    let longer : listing_limit < length (text ++ rest) = omega (arith, long, length-append text rest) in
    let of_all = first_of_long (text ++ rest) longer in
    let at_line = subst (λ n. IsFirstFault (text ++ rest) (long_fault (stands (first_line (text ++ rest)))) n) (sym of_front.1) of_all in
    subst (λ r. IsFirstFault (text ++ rest) r line) (sym (of_front.0 ∙ ap long_fault same)) at_line

-- nor an answer
pub front : FaultsTellListings → (text rest : List ℕ) (a : Answer) → listing_limit < length text → CheckHas text a → CheckHas (text ++ rest) a
front law text rest answers.Accepted long h = absurd (law.excludes text h.code fault.NotThere 1 h.listed (TooLong long))
front law text rest (answers.Conflicting c) long h = absurd (law.excludes text h.code fault.NotThere 1 h.listed (TooLong long))
front law text rest (answers.ListingRefused r) long h =
    record { rule = h.rule; first = same_fault text rest h.rule r.line law long h.first; number = h.number }
front law text rest a long h = absurd h
