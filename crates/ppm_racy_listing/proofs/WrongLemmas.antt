-- The first fault of a text with exchanges.
use Rattle.std.proofs.Common.{◌≡◌, ◌∙◌, ◌⊎◌, inl, inr, ℕ, zero, suc, ◌+◌, ◌-◌, ◌^◌, ◌<◌, ◌≤◌, ◌==◌, min, Bool, true, false, ◌&&◌, ◌||◌, cond, nat_lt, nat_le}
use Rattle.std.proofs.Common.{List, [], ◌∷◌, map, length, Option, Some, None, slice_get, refl, sym, ap, subst, arith}
use Rattle.std.proofs.Common.{ltb-true, ltb-false, leb-true, leb-false, eqb-true, eq-eqb, length-append}
use Rattle.std.specs.List.{AllByRecursion}
use Rattle.std.proofs.lemmas.Bool.{both_ways}
use Rattle.ppm_code.specs.declared.code.CodeParts.{CodeParts}
use Rattle.ppm_pieces.specs.Pieces.{split}
use Rattle.ppm_listing_reader.specs.declared.listing_error.Fault.{Fault}
use Rattle.ppm_listing_reader.specs.declared.listing_error.Fault.TheVariants.{NoSuchForm, OutOfRange, NotForward, NoEnd, WrongRoom, NotThere}
use Rattle.ppm_listing_reader.specs.declared.listing_error.ListingError.{ListingError}
use Rattle.ppm_listing_reader.specs.declared.listing_error.ListingError.TheVariants as error
use Rattle.ppm_listing_reader.specs.Limits.{listing_limit}
use Rattle.ppm_listing_reader.specs.ErrorNumbers.{fault_number, number_of, line_of, refusal_at}
use Rattle.ppm_listing_reader.specs.Correct.{HasFault, TooLong, IsNotAfter, IsFirstFault, IsRefusal, IsListing}
use Rattle.ppm_listing_reader.proofs.NoFaultLemmas.{excludes}
use Rattle.ppm_racy_listing.specs.Plain.{plain_line, old_in, joined, plain_of_text, olds_of, first_wrong, earlier_of}
use Rattle.ppm_racy_listing.specs.Correct.{HasRacyFault, OfPlain, OldOutOfRange, IsFirstRacyFault, IsRacyRefusal}
use Rattle.ppm_racy_listing.proofs.LineLemmas.{IsRegister}

-- the largest number of a line
abbrev pub most : ℕ
most = 2 ^ 32 - 1

-- the first old register that is none
pub record IsFirstWrong (os : List (Option ℕ)) (at : ℕ) : Type 0 where
  pub old : ℕ
  pub there : slice_get os at ≡ Some (Some old)
  pub large : 64 ≤ old
  pub first : (later other : ℕ) → slice_get os later ≡ Some (Some other) → 64 ≤ other → at ≤ later

pub wrong_found : (n w : ℕ) (os : List (Option ℕ)) → first_wrong (min (n + 1) most) os ≡ Some w
    → (at : ℕ) × (w ≡ min (n + at + 1) most) × IsFirstWrong os at
wrong_found n w [] h = cc
wrong_found n w (None ∷ os) h =
    let next : min (min (n + 1) most + 1) most ≡ min (n + 1 + 1) most = omega arith in
    let (at, is, first) = wrong_found (n + 1) w os (ap (λ k. first_wrong k os) (sym next) ∙ h) in (
      suc at,
      omega (arith, is),
      record {
        old = first.old;
        there = first.there;
        large = first.large;
        first = later_none os at first;
      },
    )
  where
    later_none : (os : List (Option ℕ)) (at : ℕ) → IsFirstWrong os at → (later other : ℕ) → slice_get (None ∷ os) later ≡ Some (Some other) → 64 ≤ other
        → suc at ≤ later
    later_none os at f zero other e g = cc
    later_none os at f (suc later) other e g = omega (arith, f.first later other e g)
wrong_found n w (Some old ∷ os) h = go (nat_le 64 old) refl h (wrong_found (n + 1) w os)
  where
    inner : {x y : ℕ} → Some (Some x) ≡ Some (Some y) → x ≡ y
    inner e = cc

    later_some : (os : List (Option ℕ)) (at : ℕ) → nat_le 64 old ≡ false → IsFirstWrong os at → (later other : ℕ)
        → slice_get (Some old ∷ os) later ≡ Some (Some other) → 64 ≤ other → suc at ≤ later
    later_some os at small f zero other e g = absurd (omega (arith, leb-false 64 old small, inner e, g))
    later_some os at small f (suc later) other e g = omega (arith, f.first later other e g)

    go : (large : Bool) → nat_le 64 old ≡ large → cond large (Some (min (n + 1) most)) (first_wrong (min (min (n + 1) most + 1) most) os) ≡ Some w
        → (first_wrong (min (n + 1 + 1) most) os ≡ Some w → (at : ℕ) × (w ≡ min (n + 1 + at + 1) most) × IsFirstWrong os at)
        → (at : ℕ) × (w ≡ min (n + at + 1) most) × IsFirstWrong (Some old ∷ os) at
    go true e h more =
        let is : min (n + 1) most ≡ w = cc in
        (0, omega (arith, is), record { old = old; there = refl; large = leb-true 64 old e; first = λ later other f g. omega arith })
    go false e h more =
        let next : min (min (n + 1) most + 1) most ≡ min (n + 1 + 1) most = omega arith in
        let (at, is, first) = more (ap (λ k. first_wrong k os) (sym next) ∙ h) in
        (suc at, omega (arith, is), record { old = first.old; there = first.there; large = first.large; first = later_some os at e first })

pub no_wrong : (line : ℕ) (os : List (Option ℕ)) → first_wrong line os ≡ None → (at old : ℕ) → slice_get os at ≡ Some (Some old) → 64 ≤ old → ⊥
no_wrong line [] h at old e g = cc
no_wrong line (None ∷ os) h zero old e g = cc
no_wrong line (None ∷ os) h (suc at) old e g = no_wrong (min (line + 1) most) os h at old e g
no_wrong line (Some first ∷ os) h at old e g =
    go (nat_le 64 first) refl h at e (λ k later f. no_wrong (min (line + 1) most) os k later old f g)
  where
    inner : {x y : ℕ} → Some (Some x) ≡ Some (Some y) → x ≡ y
    inner e = cc

    go : (large : Bool) → nat_le 64 first ≡ large → cond large (Some line) (first_wrong (min (line + 1) most) os) ≡ None
        → (at : ℕ) → slice_get (Some first ∷ os) at ≡ Some (Some old)
        → (first_wrong (min (line + 1) most) os ≡ None → (later : ℕ) → slice_get os later ≡ Some (Some old) → ⊥) → ⊥
    go true f h at e more = cc
    go false f h zero e more = omega (arith, leb-false 64 first f, inner e, g)
    go false f h (suc at) e more = more h at e

-- a number is less or not
below_or : (m n : ℕ) → (m < n) ⊎ (n ≤ m)
below_or m n = go (nat_lt m n) refl
  where
    go : (less : Bool) → nat_lt m n ≡ less → (m < n) ⊎ (n ≤ m)
    go true e = inl (ltb-true m n e)
    go false e = inr (omega (arith, ltb-false m n e))

-- all old registers are there
pub all_registers : (os : List (Option ℕ)) → ((at old : ℕ) → slice_get os at ≡ Some (Some old) → 64 ≤ old → ⊥) → AllByRecursion IsRegister os
all_registers [] h = tt
all_registers (None ∷ os) h = (tt, all_registers os (λ at. h (suc at)))
all_registers (Some old ∷ os) h = (small (below_or old 64), all_registers os (λ at. h (suc at)))
  where
    small : (old < 64) ⊎ (64 ≤ old) → old < 64
    small (inl l) = l
    small (inr g) = absurd (h 0 old refl g)

-- as many lines as there are line feeds, and one
many : (ps : List (List ℕ)) → length ps ≤ length (joined (map plain_line ps)) + 1
many [] = omega arith
many (p ∷ []) = omega arith
many (p ∷ q ∷ ps) = omega (arith, many (q ∷ ps), length-append (plain_line p) (10 ∷ joined (map plain_line (q ∷ ps))))

within : {A : Type 0} (xs : List A) (at : ℕ) (x : A) → slice_get xs at ≡ Some x → at < length xs
within [] at x e = cc
within (y ∷ ys) zero x e = omega arith
within (y ∷ ys) (suc at) x e = omega (arith, within ys at x e)

same_many : (ps : List (List ℕ)) → length (map old_in ps) ≡ length ps
same_many [] = refl
same_many (p ∷ ps) = omega (arith, same_many ps)

long : (text : List ℕ) (at : ℕ) (o : Option ℕ) → slice_get (olds_of text) at ≡ Some o → most ≤ at → listing_limit < length (plain_of_text text)
long text at o e h = omega (arith, within (olds_of text) at o e, same_many (split 10 text), many (split 10 text), h)

-- not after, by numbers
not_after : (rule other : Fault) (line later : ℕ) → line ≤ later → (line ≡ later → fault_number rule ≤ fault_number other) → IsNotAfter (rule, line) (other, later)
not_after rule other line later le same = go (below_or line later)
  where
    go : (line < later) ⊎ (later ≤ line) → IsNotAfter (rule, line) (other, later)
    go (inl h) = inl h
    go (inr h) = let is : line ≡ later = omega (arith, le, h) in inr (is, same is)

-- where an old register is the first fault
old_is_first : (text : List ℕ) (w at : ℕ) → IsFirstWrong (olds_of text) at → w ≡ at + 1
    → ((other : Fault) (later : ℕ) → HasFault (plain_of_text text) other later → IsNotAfter (OutOfRange, w) (other, later))
    → IsFirstRacyFault text OutOfRange w
old_is_first text w at f is after = record {
  there = subst (HasRacyFault text OutOfRange) (sym is) (OldOutOfRange at f.old f.there f.large);
  first = firstly;
}
  where
    firstly : (other : Fault) (later : ℕ) → HasRacyFault text other later → IsNotAfter (OutOfRange, w) (other, later)
    firstly other later (OfPlain _ _ h) = after other later h
    firstly _ _ (OldOutOfRange number old e g) =
        not_after OutOfRange OutOfRange w (number + 1) (omega (arith, is, f.first number old e g)) (λ same. omega arith)

-- where another fault is
plain_is_first : (text : List ℕ) (rule : Fault) (line : ℕ) → IsFirstFault (plain_of_text text) rule line
    → ((number old : ℕ) → slice_get (olds_of text) number ≡ Some (Some old) → 64 ≤ old → IsNotAfter (rule, line) (OutOfRange, number + 1))
    → IsFirstRacyFault text rule line
plain_is_first text rule line f after = record { there = OfPlain rule line f.there; first = firstly }
  where
    firstly : (other : Fault) (later : ℕ) → HasRacyFault text other later → IsNotAfter (rule, line) (other, later)
    firstly other later (OfPlain _ _ h) = f.first other later h
    firstly _ _ (OldOutOfRange number old e g) = after number old e g

racy_at : (text : List ℕ) (rule : Fault) (line : ℕ) → IsFirstRacyFault text rule line → IsRacyRefusal text (refusal_at rule line)
racy_at text NoSuchForm line f = f
racy_at text OutOfRange line f = f
racy_at text NotForward line f = f
racy_at text NoEnd line f = f
racy_at text WrongRoom line f = f
racy_at text NotThere line f = f

-- the numbers of a refusal
pub record IsAt (rule : Fault) (line : ℕ) (e : ListingError) : Type 0 where
  pub number : number_of e ≡ fault_number rule
  pub line_is : line_of e ≡ line
  pub some : (number_of e == 0) ≡ false

is_at : (rule : Fault) (line : ℕ) → IsAt rule line (refusal_at rule line)
is_at NoSuchForm line = record { number = refl; line_is = refl; some = refl }
is_at OutOfRange line = record { number = refl; line_is = refl; some = refl }
is_at NotForward line = record { number = refl; line_is = refl; some = refl }
is_at NoEnd line = record { number = refl; line_is = refl; some = refl }
is_at WrongRoom line = record { number = refl; line_is = refl; some = refl }
is_at NotThere line = record { number = refl; line_is = refl; some = refl }

module _ (text : List ℕ) (rule : Fault) (line : ℕ) (f : IsFirstFault (plain_of_text text) rule line) where
  -- a line past the largest number comes in no text but one that is too long
  at_first : (at : ℕ) → IsFirstWrong (olds_of text) at → most ≤ at → line ≤ 1
  at_first at g h = go (f.first NotThere 1 (TooLong (long text at (Some g.old) g.there h)))
    where
      go : IsNotAfter (rule, line) (NotThere, 1) → line ≤ 1
      go (inl h) = omega (arith, h)
      go (inr h) = omega (arith, h.0)

  module _ (w at : ℕ) (is : w ≡ min (0 + at + 1) most) (g : IsFirstWrong (olds_of text) at) where
    old_first : (w < line) ⊎ ((w ≡ line) × (2 < fault_number rule)) → IsFirstRacyFault text OutOfRange w
    old_first h = old_is_first text w at g (go h (below_or at most)) (λ other later k. after other later h (f.first other later k))
      where
        go : (w < line) ⊎ ((w ≡ line) × (2 < fault_number rule)) → (at < most) ⊎ (most ≤ at) → w ≡ at + 1
        go h (inl k) = omega (arith, is, k)
        go (inl h) (inr k) = absurd (omega (arith, is, k, h, at_first at g k))
        go (inr h) (inr k) = absurd (omega (arith, is, k, h.0, at_first at g k))

        after : (other : Fault) (later : ℕ) → (w < line) ⊎ ((w ≡ line) × (2 < fault_number rule)) → IsNotAfter (rule, line) (other, later)
            → IsNotAfter (OutOfRange, w) (other, later)
        after other later (inl h) (inl k) = inl (omega (arith, h, k))
        after other later (inl h) (inr k) = inl (omega (arith, h, k.0))
        after other later (inr h) (inl k) = inl (omega (arith, h.0, k))
        after other later (inr h) (inr k) = inr (omega (arith, h.0, k.0), omega (arith, h.1, k.1))

    plain_first : (w < line → ⊥) → (w ≡ line → fault_number rule ≤ 2) → IsFirstRacyFault text rule line
    plain_first not_before same = plain_is_first text rule line f (λ number old e large.
        let le = g.first number old e large in
        not_after rule OutOfRange line (number + 1) (go le (below_or w line))
        (λ eq. same (back le eq (below_or w line))))
      where
        go : {number : ℕ} → at ≤ number → (w < line) ⊎ (line ≤ w) → line ≤ number + 1
        go le (inl h) = absurd (not_before h)
        go le (inr h) = omega (arith, is, h, le)

        back : {number : ℕ} → at ≤ number → line ≡ number + 1 → (w < line) ⊎ (line ≤ w) → w ≡ line
        back le eq (inl h) = absurd (not_before h)
        back le eq (inr h) = omega (arith, is, h, le, eq)

    -- by the test
    by_test : (e : ListingError) → IsAt rule line e → (IsFirstRacyFault text rule line → IsRacyRefusal text e)
        → IsRacyRefusal text (earlier_of (Some w) e)
    by_test e a told = zeroes (number_of e == 0) a.some
      where
        last : (less same more : Bool) → nat_lt w (line_of e) ≡ less → (w == line_of e) ≡ same → nat_lt 2 (number_of e) ≡ more
            → IsRacyRefusal text (cond (less || (same && more)) (error.OutOfRange w) e)
        last true same more p q r = old_first (inl (omega (arith, ltb-true w (line_of e) p, a.line_is)))
        last false true true p q r =
            old_first (inr (eqb-true w (line_of e) q ∙ a.line_is, omega (arith, ltb-true 2 (number_of e) r, a.number)))
        last false true false p q r =
            told (plain_first (λ h. omega (arith, h, a.line_is, ltb-false w (line_of e) p)) (λ h. omega (arith, ltb-false 2 (number_of e) r, a.number)))
        last false false more p q r =
            told (plain_first (λ h. omega (arith, h, a.line_is, ltb-false w (line_of e) p))
            (λ h. absurd (both_ways (w == line_of e) q (eq-eqb w (line_of e) (h ∙ sym a.line_is)))))

        zeroes : (none : Bool) → none ≡ false
            → IsRacyRefusal text (cond none e (cond (nat_lt w (line_of e) || ((w == line_of e) && nat_lt 2 (number_of e))) (error.OutOfRange w) e))
        zeroes true h = absurd (both_ways true h refl)
        zeroes false h = last (nat_lt w (line_of e)) (w == line_of e) (nat_lt 2 (number_of e)) refl refl refl

  refused_at : (wrong : Option ℕ) → first_wrong 1 (olds_of text) ≡ wrong → IsRacyRefusal text (earlier_of wrong (refusal_at rule line))
  refused_at None h =
      racy_at text rule line (plain_is_first text rule line f (λ number old e large. absurd (no_wrong 1 (olds_of text) h number old e large)))
  refused_at (Some w) h =
      let (at, is, first) = wrong_found 0 w (olds_of text) h in
      by_test w at is first (refusal_at rule line) (is_at rule line) (racy_at text rule line)

-- the refusal of the text with puts, or the old register before it
pub refused : (text : List ℕ) (e : ListingError) (wrong : Option ℕ) → IsRefusal (plain_of_text text) e → first_wrong 1 (olds_of text) ≡ wrong
    → IsRacyRefusal text (earlier_of wrong e)
refused text (error.NoSuchForm line) wrong f h = refused_at text NoSuchForm line f wrong h
refused text (error.OutOfRange line) wrong f h = refused_at text OutOfRange line f wrong h
refused text (error.NotForward line) wrong f h = refused_at text NotForward line f wrong h
refused text (error.NoEnd line) wrong f h = refused_at text NoEnd line f wrong h
refused text (error.WrongRoom line) wrong f h = refused_at text WrongRoom line f wrong h
refused text (error.NotThere line) wrong f h = refused_at text NotThere line f wrong h
refused text error.NoMemory None f h = tt
refused text error.NoMemory (Some w) f h = tt

-- an old register alone
pub old_alone : (text : List ℕ) (code : CodeParts) (w : ℕ) → IsListing (plain_of_text text) code → first_wrong 1 (olds_of text) ≡ Some w
    → IsFirstRacyFault text OutOfRange w
old_alone text code w is h =
    let (at, same, first) = wrong_found 0 w (olds_of text) h in
    old_is_first text w at first (go at same first (below_or at most)) (λ other later k. absurd (excludes (plain_of_text text) code other later is k))
  where
    go : (at : ℕ) → w ≡ min (0 + at + 1) most → IsFirstWrong (olds_of text) at → (at < most) ⊎ (most ≤ at) → w ≡ at + 1
    go at same first (inl k) = omega (arith, same, k)
    go at same first (inr k) =
        absurd (excludes (plain_of_text text) code NotThere 1 is (TooLong (long text at (Some first.old) first.there k)))
