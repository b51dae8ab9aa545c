-- A text has one answer where it is checked as one whose strands may race.
use Rattle.std.proofs.Common.{◌≡◌, ◌<◌, ◌≤◌, ℕ, Bool, true, false, nat_lt, List, length, ◌++◌, refl, sym, ◌∙◌, ap, subst, arith, length-append}
use Rattle.ppm_code.specs.declared.code.CodeParts.{CodeParts}
use Rattle.ppm_gaps.specs.declared.racing.Flaw.{Flaw}
use Rattle.ppm_gaps.specs.declared.racing.Flaw.TheVariants as flaws
use Rattle.ppm_racy.specs.declared.code.RacyParts.{RacyParts}
use Rattle.ppm_racy_gaps.specs.Correct.{RacyCodesWithoutFlawsAreRestartable, RacyFlawsTellCodes}
use Rattle.ppm_racy_gaps.specs.Flaws.{IsFirstRacyFlaw}
use Rattle.ppm_listing_reader.specs.declared.listing_error.Fault.TheVariants as fault
use Rattle.ppm_listing_reader.specs.declared.listing_error.ListingError.{ListingError}
use Rattle.ppm_listing_reader.specs.declared.listing_error.ListingError.TheVariants as error
use Rattle.ppm_listing_reader.specs.Limits.{listing_limit}
use Rattle.ppm_listing_reader.specs.ErrorNumbers.{fault_number}
use Rattle.ppm_listing_reader.specs.Correct.{IsListing, IsRefusal, FaultsTellListings, TooLong as IsTooLong}
use Rattle.ppm_racy_listing.specs.Correct.{IsRacyRefusal, RacyFaultsTellListings}
use Rattle.ppm_answers.specs.declared.conflict.ListingRefusal.{ListingRefusal}
use Rattle.ppm_answers.specs.declared.answer.Answer.{Answer}
use Rattle.ppm_answers.specs.declared.answer.Answer.TheVariants as answers
use Rattle.ppm_answers.specs.Reading.{TextMay}
use Rattle.ppm_commands.specs.Check.{error_answer}
use Rattle.ppm_commands.specs.RacingCheck.{IsRacyText, IsAcceptedRacing, IsFlawed, IsRefusedRacing, NotListed, TooLong, RacingHas}
use Rattle.ppm_commands.specs.RacingCheck.{RacingVerdictMay, HaveOneAnswer, flaw_answer}
use Rattle.ppm_commands.proofs.CheckAnswers.{refusal_path, same_refusal}
use Rattle.ppm_commands.proofs.LeastLemmas.{no_fault, no_racy_fault}
use Rattle.ppm_commands.proofs.LongTexts.{same_fault}

-- the answer that a code has is that of its listing
pub verdict_has : (text : List ℕ) (code : RacyParts) (a : Answer) → IsRacyText text code → RacingVerdictMay code a → TextMay RacingHas text a
verdict_has text code answers.Accepted l h = record { code = code; is = l; restartable = h }
verdict_has text code (answers.Conflicting c) l h = record { code = code; is = l; flaw = h.flaw; first = h.first; tells = h.tells }
verdict_has text code (answers.Gapped g) l h = record { code = code; is = l; flaw = h.flaw; first = h.first; tells = h.tells }
verdict_has text code answers.NoMemory l h = tt
verdict_has text code a l h = absurd h

-- a flaw as an answer is one that the code has
pub flaw_has : (code : RacyParts) (f : Flaw) (a : Answer) → a ≡ flaw_answer f → IsFirstRacyFlaw code f → RacingVerdictMay code a
flaw_has code (flaws.Conflict c) a e first =
    subst (RacingVerdictMay code) (sym e) (record { flaw = flaws.Conflict c; first = first; tells = refl })
flaw_has code (flaws.Gap g) a e first = subst (RacingVerdictMay code) (sym e) (record { flaw = flaws.Gap g; first = first; tells = refl })

-- a refusal of a text is its first fault
pub refusal_has : (text : List ℕ) (e : ListingError) (a : Answer) → length text ≤ listing_limit → a ≡ error_answer e → IsRacyRefusal text e
    → TextMay RacingHas text a
refusal_has text e a short is h = subst (TextMay RacingHas text) (sym is) (by e h)
  where
    by : (e : ListingError) → IsRacyRefusal text e → TextMay RacingHas text (error_answer e)
    by error.NoMemory h = tt
    by (error.NoSuchForm line) h = NotListed fault.NoSuchForm short h refl
    by (error.OutOfRange line) h = NotListed fault.OutOfRange short h refl
    by (error.NotForward line) h = NotListed fault.NotForward short h refl
    by (error.NoEnd line) h = NotListed fault.NoEnd short h refl
    by (error.WrongRoom line) h = NotListed fault.WrongRoom short h refl
    by (error.NotThere line) h = NotListed fault.NotThere short h refl

-- and that of a text that is too long
pub long_refusal_has : (text : List ℕ) (e : ListingError) (a : Answer) → listing_limit < length text → a ≡ error_answer e → IsRefusal text e
    → TextMay RacingHas text a
long_refusal_has text e a long is h = subst (TextMay RacingHas text) (sym is) (by e h)
  where
    by : (e : ListingError) → IsRefusal text e → TextMay RacingHas text (error_answer e)
    by error.NoMemory h = tt
    by (error.NoSuchForm line) h = TooLong long (record { rule = fault.NoSuchForm; first = h; number = refl })
    by (error.OutOfRange line) h = TooLong long (record { rule = fault.OutOfRange; first = h; number = refl })
    by (error.NotForward line) h = TooLong long (record { rule = fault.NotForward; first = h; number = refl })
    by (error.NoEnd line) h = TooLong long (record { rule = fault.NoEnd; first = h; number = refl })
    by (error.WrongRoom line) h = TooLong long (record { rule = fault.WrongRoom; first = h; number = refl })
    by (error.NotThere line) h = TooLong long (record { rule = fault.NotThere; first = h; number = refl })

-- no listing is too long
pub not_long : FaultsTellListings → (text : List ℕ) (code : CodeParts) → listing_limit < length text → IsListing text code → ⊥
not_long law text code long l = law.excludes text code fault.NotThere 1 l (IsTooLong long)

longer : (text rest : List ℕ) → listing_limit < length text → listing_limit < length (text ++ rest)
longer text rest long = omega (arith, long, length-append text rest)

module _ (plain_law : FaultsTellListings) (law : RacyFaultsTellListings) (tells : RacyFlawsTellCodes)
    (restarts : RacyCodesWithoutFlawsAreRestartable) where
  -- an accepted code has no flaw
  not_both : (text : List ℕ) (a : Answer) → IsAcceptedRacing text → IsFlawed text a → ⊥
  not_both text a h k =
      let same : k.code ≡ h.code = law.one_code text k.code h.code k.is.listed h.is.listed in
      tells.excludes h.code k.flaw h.restartable.paths (subst (λ (x : RacyParts). IsFirstRacyFlaw x k.flaw) same k.first)

  -- the text of a code has no fault
  not_refused : (text : List ℕ) (code : RacyParts) (r : ListingRefusal) → IsRacyText text code → IsRefusedRacing text r → ⊥
  not_refused text code r l (NotListed rule short f number) = law.excludes text code rule r.line l.listed f.there
  not_refused text code r l (TooLong long u) = let short = l.short in omega (arith, short, long)

  -- two flaws of a text are one
  same_flaw : (text : List ℕ) (a b : Answer) → IsFlawed text a → IsFlawed text b → a ≡ b
  same_flaw text a b h k =
      let same : h.code ≡ k.code = law.one_code text h.code k.code h.is.listed k.is.listed in
      let one : h.flaw ≡ k.flaw = tells.one k.code h.flaw k.flaw (subst (λ (x : RacyParts). IsFirstRacyFlaw x h.flaw) same h.first) k.first in
      h.tells ∙ ap flaw_answer one ∙ sym k.tells

  -- two refusals of a text are one
  one_refusal : (text : List ℕ) (q r : ListingRefusal) → IsRefusedRacing text q → IsRefusedRacing text r → q ≡ r
  one_refusal text q r (NotListed rule short f number) (NotListed other _ g numbered) =
      let same = law.one_fault text rule other q.line r.line f g in
      refusal_path q r (number ∙ ap fault_number same.0 ∙ sym numbered) same.1
  one_refusal text q r (NotListed rule short f number) (TooLong long u) = absurd (omega (arith, short, long))
  one_refusal text q r (TooLong long u) (NotListed rule short f number) = absurd (omega (arith, short, long))
  one_refusal text q r (TooLong long u) (TooLong _ v) = same_refusal plain_law text q r u v

  -- the answer of a text whose code is accepted is that
  of_accepted : (text : List ℕ) (b : Answer) → IsAcceptedRacing text → RacingHas text b → answers.Accepted ≡ b
  of_accepted text answers.Accepted h k = refl
  of_accepted text (answers.Conflicting c) h k = absurd (not_both text (answers.Conflicting c) h k)
  of_accepted text (answers.Gapped g) h k = absurd (not_both text (answers.Gapped g) h k)
  of_accepted text (answers.ListingRefused r) h k = absurd (not_refused text h.code r h.is k)
  of_accepted text b h k = absurd k

  -- that of a text whose code has flaws is the first of them
  of_flawed : (text : List ℕ) (a b : Answer) → IsFlawed text a → RacingHas text b → a ≡ b
  of_flawed text a answers.Accepted h k = absurd (not_both text a k h)
  of_flawed text a (answers.Conflicting c) h k = same_flaw text a (answers.Conflicting c) h k
  of_flawed text a (answers.Gapped g) h k = same_flaw text a (answers.Gapped g) h k
  of_flawed text a (answers.ListingRefused r) h k = absurd (not_refused text h.code r h.is k)
  of_flawed text a b h k = absurd k

  -- and that of a text that is no listing is its fault
  of_refusal : (text : List ℕ) (q : ListingRefusal) (b : Answer) → IsRefusedRacing text q → RacingHas text b → answers.ListingRefused q ≡ b
  of_refusal text q answers.Accepted h k = absurd (not_refused text k.code q k.is h)
  of_refusal text q (answers.Conflicting c) h k = absurd (not_refused text k.code q k.is h)
  of_refusal text q (answers.Gapped g) h k = absurd (not_refused text k.code q k.is h)
  of_refusal text q (answers.ListingRefused r) h k = ap (λ x. answers.ListingRefused x) (one_refusal text q r h k)
  of_refusal text q b h k = absurd k

  one : (text : List ℕ) (a b : Answer) → RacingHas text a → RacingHas text b → a ≡ b
  one text answers.Accepted b h k = of_accepted text b h k
  one text (answers.Conflicting c) b h k = of_flawed text (answers.Conflicting c) b h k
  one text (answers.Gapped g) b h k = of_flawed text (answers.Gapped g) b h k
  one text (answers.ListingRefused q) b h k = of_refusal text q b h k
  one text a b h k = absurd h

  -- what stands after the front of a text that is too long changes no answer
  not_short : (text : List ℕ) (code : RacyParts) → listing_limit < length text → IsRacyText text code → ⊥
  not_short text code long l = let short = l.short in omega (arith, short, long)

  still_refused : (text rest : List ℕ) (r : ListingRefusal) → listing_limit < length text → IsRefusedRacing text r
      → IsRefusedRacing (text ++ rest) r
  still_refused text rest r long (NotListed rule short f number) = absurd (omega (arith, short, long))
  still_refused text rest r long (TooLong _ u) = TooLong (longer text rest long) (record {
    rule = u.rule;
    first = same_fault text rest u.rule r.line plain_law long u.first;
    number = u.number;
  })

  front : (text rest : List ℕ) (a : Answer) → listing_limit < length text → RacingHas text a → RacingHas (text ++ rest) a
  front text rest answers.Accepted long h = absurd (not_short text h.code long h.is)
  front text rest (answers.Conflicting c) long h = absurd (not_short text h.code long h.is)
  front text rest (answers.Gapped g) long h = absurd (not_short text h.code long h.is)
  front text rest (answers.ListingRefused r) long h = still_refused text rest r long h
  front text rest a long h = absurd h

  -- a text without a first fault is not too long
  is_short : (text : List ℕ) → ((r : ListingRefusal) → ¬ IsRefusedRacing text r) → length text ≤ listing_limit
  is_short text unfaulted = by (nat_lt listing_limit (length text)) refl
    where
      by : (b : Bool) → nat_lt listing_limit (length text) ≡ b → length text ≤ listing_limit
      by false e = grind (arith, e)
      by true e =
          let long : listing_limit < length text = grind (arith, e) in
          absurd (no_fault text (λ rule line f. unfaulted (record { number = fault_number rule; line = line })
          (TooLong long (record { rule = rule; first = f; number = refl }))) fault.NotThere 1 (IsTooLong long))

  -- and the listing of a code, which is accepted where it has no first flaw
  some : (text : List ℕ) → ((r : ListingRefusal) → ¬ IsRefusedRacing text r) → ((a : Answer) → ¬ IsFlawed text a) → IsAcceptedRacing text
  some text unfaulted unflawed =
      let short = is_short text unfaulted in
      let listed = law.covers text (no_racy_fault text
      (λ rule line f. unfaulted (record { number = fault_number rule; line = line }) (NotListed rule short f refl))) in
      let is : IsRacyText text listed.0 = record { listed = listed.1; short = short } in
      let paths = tells.covers listed.0 (λ f first. unflawed (flaw_answer f)
      (record { code = listed.0; is = is; flaw = f; first = first; tells = refl })) in
      record { code = listed.0; is = is; restartable = restarts listed.0 paths }

  pub have_one_answer : HaveOneAnswer
  have_one_answer = record { one = one; front = front; some = some }
