-- The lines of a text one by one, and its first fault by the first broken rule.
use Rattle.std.proofs.Common.{◌≡◌, ◌∙◌, ◌⊎◌, inl, inr, ℕ, zero, suc, ◌+◌, ◌<◌, ◌≤◌, false, cond, IsTrue, is_some, List, [], ◌∷◌, ◌++◌, length}
use Rattle.std.proofs.Common.{Option, Some, None, refl, sym, ap, subst, arith}
use Rattle.std.proofs.Common.{append_assoc}
use Rattle.std.proofs.lemmas.Bool.{both_ways}
use Rattle.ppm_listing_reader.specs.declared.listing_error.Fault.{Fault}
use Rattle.ppm_listing_reader.specs.declared.listing_error.Fault.TheVariants.{NoSuchForm, OutOfRange, NotForward, NoEnd, WrongRoom, NotThere}
use Rattle.ppm_listing_reader.specs.declared.listing_error.ListingError.TheVariants as error
use Rattle.ppm_listing_reader.specs.declared.part.Part.{Part}
use Rattle.ppm_listing_reader.specs.declared.part.Part.TheVariants as part
use Rattle.ppm_listing_reader.specs.declared.place.Place.{Place}
use Rattle.ppm_listing_reader.specs.declared.place.Place.TheVariants.{AtVersion}
use Rattle.ppm_listing_reader.specs.Limits.{listing_limit}
use Rattle.ppm_listing_reader.specs.ErrorNumbers.{fault_number, refusal_at}
use Rattle.ppm_listing_reader.specs.Tokens.{split}
use Rattle.ppm_listing_reader.specs.Forms.{line_of, lines_in, lines_of}
use Rattle.ppm_listing_reader.specs.Places.{standing, next, standing_from, code_in}
use Rattle.ppm_listing_reader.specs.Faults.{breaks, BreaksAt, IsFirstBreak}
use Rattle.ppm_listing_reader.specs.Correct.{standing_of, HasFault, Breaks, TooLong, IsFirstFault, IsRefusal}
use Rattle.ppm_listing_reader.proofs.LineLemmas.{split_some}

-- a line, and those of what follows its line feed
lines_in-more : (front : List ℕ) (ps : List (List ℕ)) → 0 < length ps → lines_in (front ∷ ps) ≡ line_of front ∷ lines_in ps
lines_in-more front [] h = absurd (omega (arith, h))
lines_in-more front (p ∷ ps) h = refl

pub lines_of-more : (text front rest : List ℕ) → split 10 text ≡ front ∷ split 10 rest → lines_of text ≡ line_of front ∷ lines_of rest
lines_of-more text front rest e = ap lines_in e ∙ lines_in-more front (split 10 rest) (split_some 10 rest)

pub line_step : (all done : List (Option Part)) (place : Place) (left front rest : List ℕ) → split 10 left ≡ front ∷ split 10 rest
    → done ++ standing_from place (lines_of left) ≡ all
    → (done ++ standing place (line_of front) ∷ []) ++ standing_from (next place (standing place (line_of front))) (lines_of rest) ≡ all
line_step all done place left front rest e h =
    append_assoc done (standing place (line_of front) ∷ []) (standing_from (next place (standing place (line_of front))) (lines_of rest))
    ∙ ap (λ ls. done ++ standing_from place ls) (sym (lines_of-more left front rest e)) ∙ h

-- the first broken rule of a text that is not too long is its first fault
pub first_fault_of : (text : List ℕ) (fault : Fault) (number : ℕ) → length text ≤ listing_limit
    → IsFirstBreak (code_in (standing_of text)) AtVersion (standing_of text) fault number → IsFirstFault text fault (number + 1)
first_fault_of text fault number few b = record { there = Breaks fault number b.there; first = λ other later h. after other later h }
  where
    later_still : (other : Fault) (n : ℕ) → (number < n) ⊎ ((number ≡ n) × (fault_number fault ≤ fault_number other))
        → (number + 1 < n + 1) ⊎ ((number + 1 ≡ n + 1) × (fault_number fault ≤ fault_number other))
    later_still other n (inl h) = inl (omega (arith, h))
    later_still other n (inr (e, h)) = inr (omega (arith, e), h)

    after : (other : Fault) (later : ℕ) → HasFault text other later → (number + 1 < later) ⊎ ((number + 1 ≡ later) × (fault_number fault ≤ fault_number other))
    after other _ (Breaks _ n h) = later_still other n (b.first other n h)
    after _ _ (TooLong long) = absurd (omega (arith, few, long))

pub refusal_of : (text : List ℕ) (fault : Fault) (line : ℕ) → IsFirstFault text fault line → IsRefusal text (refusal_at fault line)
refusal_of text NoSuchForm line h = h
refusal_of text OutOfRange line h = h
refusal_of text NotForward line h = h
refusal_of text NoEnd line h = h
refusal_of text WrongRoom line h = h
refusal_of text NotThere line h = h

least_number : (fault : Fault) → 1 ≤ fault_number fault
least_number NoSuchForm = omega arith
least_number OutOfRange = omega arith
least_number NotForward = omega arith
least_number NoEnd = omega arith
least_number WrongRoom = omega arith
least_number NotThere = omega arith

-- a text whose first line does not stand
pub first_none : (text : List ℕ) (tail : List (Option Part)) → standing_of text ≡ None ∷ tail → IsFirstFault text NoSuchForm 1
first_none text tail e = record {
  there = Breaks NoSuchForm 0 (subst (λ ls. BreaksAt (code_in (standing_of text)) NoSuchForm AtVersion ls 0) (sym e)
      refl);
  first = after;
}
  where
    after : (other : Fault) (later : ℕ) → HasFault text other later → (1 < later) ⊎ ((1 ≡ later) × (1 ≤ fault_number other))
    after other _ (Breaks _ zero h) = inr (omega arith, least_number other)
    after other _ (Breaks _ (suc n) h) = inl (omega arith)
    after _ _ (TooLong long) = inr (refl, omega arith)

-- one that is too long and whose first line stands
long_none : (text : List ℕ) (tail : List (Option Part)) → listing_limit < length text → standing_of text ≡ Some part.Version ∷ tail → IsFirstFault text NotThere 1
long_none text tail long e = record { there = TooLong long; first = after }
  where
    none : (rule : Fault) → IsTrue (breaks (code_in (standing_of text)) rule AtVersion (Some part.Version)) → ⊥
    none NoSuchForm h = both_ways false refl h
    none OutOfRange h = both_ways false refl h
    none NotForward h = both_ways false refl h
    none NoEnd h = both_ways false refl h
    none WrongRoom h = both_ways false refl h
    none NotThere h = both_ways false refl h

    after : (other : Fault) (later : ℕ) → HasFault text other later → (1 < later) ⊎ ((1 ≡ later) × (6 ≤ fault_number other))
    after other _ (Breaks _ zero h) = absurd (none other (subst (λ ls. BreaksAt (code_in (standing_of text)) other AtVersion ls 0) e h))
    after other _ (Breaks _ (suc n) h) = inl (omega arith)
    after _ _ (TooLong long) = inr (refl, omega arith)

pub long_refusal : (text front rest : List ℕ) → listing_limit < length text → split 10 text ≡ front ∷ split 10 rest
    → IsRefusal text (cond (is_some (standing AtVersion (line_of front))) (error.NotThere 1) (error.NoSuchForm 1))
long_refusal text front rest long e = go (line_of front) (ap (standing_from AtVersion) (lines_of-more text front rest e))
  where
    go : (l : Option Part) → standing_of text ≡ standing_from AtVersion (l ∷ lines_of rest)
        → IsRefusal text (cond (is_some (standing AtVersion l)) (error.NotThere 1) (error.NoSuchForm 1))
    go None e = first_none text _ e
    go (Some part.Version) e = long_none text _ long e
    go (Some (part.Root q xs)) e = first_none text _ e
    go (Some (part.Procedure i s k)) e = first_none text _ e
    go (Some (part.Capsule c p)) e = first_none text _ e
    go (Some (part.Instr i)) e = first_none text _ e

-- a text whose first whole line does not stand, by that line alone
pub not_begun : (text front rest : List ℕ) → split 10 text ≡ front ∷ split 10 rest → is_some (standing AtVersion (line_of front)) ≡ false
    → IsFirstFault text NoSuchForm 1
not_begun text front rest e none = go (line_of front) (ap (standing_from AtVersion) (lines_of-more text front rest e)) none
  where
    go : (l : Option Part) → standing_of text ≡ standing_from AtVersion (l ∷ lines_of rest) → is_some (standing AtVersion l) ≡ false
        → IsFirstFault text NoSuchForm 1
    go None e none = first_none text _ e
    go (Some part.Version) e none = cc
    go (Some (part.Root q xs)) e none = first_none text _ e
    go (Some (part.Procedure i s k)) e none = first_none text _ e
    go (Some (part.Capsule c p)) e none = first_none text _ e
    go (Some (part.Instr i)) e none = first_none text _ e

-- one that is too long, with no whole line
pub long_unended : (text : List ℕ) → listing_limit < length text → split 10 text ≡ text ∷ [] → IsFirstFault text NoSuchForm 1
long_unended [] long e = absurd (omega (arith, long))
long_unended (b ∷ bs) long e = first_none (b ∷ bs) _ (ap (λ ps. standing_from AtVersion (lines_in ps)) e)
