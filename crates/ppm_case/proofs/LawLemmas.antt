-- A text is of one case, or has one fault.
use Rattle.std.proofs.Common.{◌≡◌, ◌∙◌, ℕ, ◌+◌, ◌<◌, ◌≤◌, true, false, List, ◌++◌, length, map, refl, sym, ap, subst, arith, length-append}
use Rattle.std.proofs.lemmas.Bool.{both_ways}
use Rattle.ppm_words.specs.declared.named_array.NamedArray.{NamedArray}
use Rattle.ppm_code.specs.declared.code.CodeParts.{CodeParts}
use Rattle.ppm_listing_reader.specs.declared.listing_error.Fault.{Fault as ListingFault}
use Rattle.ppm_listing_reader.specs.Correct.{IsListing, IsFirstFault, FaultsTellListings}
use Rattle.ppm_depth.specs.Start.{NamesArrays}
use Rattle.ppm_case.specs.declared.case_error.InputFault.{InputFault}
use Rattle.ppm_case.specs.declared.case_error.InputFault.TheVariants as input
use Rattle.ppm_case.specs.declared.case_error.CaseFault.{CaseFault}
use Rattle.ppm_case.specs.declared.case_error.CaseFault.TheVariants as fault
use Rattle.ppm_case.specs.Spelling.{Written, array_of, begins_array}
use Rattle.ppm_case.specs.Rules.{case_limit}
use Rattle.ppm_case.specs.Case.{Front, IsCaseOf}
use Rattle.ppm_case.specs.Faults.{IsBadLine, HasFault, TooLong, BadLine, BadListing, BadRoot}
use Rattle.ppm_case.proofs.PlaceLemmas.{same_front, listing_begins, other_ends, bad_begins, bad_ends, bad_one}

-- where a listing stands, no array begins
no_array : (rest other : List ℕ) (code : CodeParts) → IsListing rest code → rest ≡ other → begins_array other ≡ true → ⊥
no_array rest other code h e k = both_ways (begins_array other) (ap (λ (t : List ℕ). begins_array t) (sym e) ∙ listing_begins rest code h) k

module _ (law : FaultsTellListings) {text : List ℕ} where
  -- two fronts, after one of which stands a listing
  by_listing : (f g : Front text) (code : CodeParts) → IsListing f.rest code → begins_array g.rest ≡ false → (f.arrays ≡ g.arrays) × (f.rest ≡ g.rest)
  by_listing f g code h k =
      same_front f g (other_ends (map array_of f.arrays) f.rest (listing_begins f.rest code h)) (other_ends (map array_of g.arrays) g.rest k)

  -- no bad line stands after a front with a listing, or with what is none
  not_bad : (f g : Front text) {bad : InputFault} → begins_array f.rest ≡ false → IsBadLine (map array_of g.arrays) g.rest bad → ⊥
  not_bad f g h b =
      let same = same_front f g (other_ends (map array_of f.arrays) f.rest h) (bad_ends b) in
      both_ways (begins_array f.rest) h (ap (λ (t : List ℕ). begins_array t) same.1 ∙ bad_begins b)

  pub excludes : (code : CodeParts) (arrays : List NamedArray) (found : CaseFault) (line : ℕ) → IsCaseOf text code arrays → HasFault text found line → ⊥
  excludes code arrays found line c (TooLong long) = omega (arith, c.front.short, long)
  excludes code arrays found line c (BadLine f bad b) = not_bad c.front f (listing_begins c.front.rest code c.listed) b
  excludes code arrays found line c (BadListing f rule at begins first) =
      let same = by_listing c.front f code c.listed begins in
      law.excludes f.rest code rule at (subst (λ (t : List ℕ). IsListing t code) same.1 c.listed) first.there
  excludes code arrays found line c (BadRoot f other listed never) =
      let same = by_listing c.front f code c.listed (listing_begins f.rest other listed) in
      let one = law.one_code f.rest code other (subst (λ (t : List ℕ). IsListing t code) same.1 c.listed) listed in
      let here : arrays ≡ map array_of f.arrays = c.arrays ∙ ap (λ (l : List Written). map array_of l) same.0 in
      never (subst (λ (k : CodeParts). NamesArrays k (map array_of f.arrays)) one (subst (λ (l : List NamedArray). NamesArrays code l) here c.named))

  pub one_case : (c d : CodeParts) (xs ys : List NamedArray) → IsCaseOf text c xs → IsCaseOf text d ys → (c ≡ d) × (xs ≡ ys)
  one_case c d xs ys h k =
      let same = by_listing h.front k.front c h.listed (listing_begins k.front.rest d k.listed) in (
        law.one_code k.front.rest c d (subst (λ (t : List ℕ). IsListing t c) same.1 h.listed) k.listed,
        h.arrays ∙ ap (λ (l : List Written). map array_of l) same.0 ∙ sym k.arrays,
      )

  pub one_fault : (p q : CaseFault) (line later : ℕ) → HasFault text p line → HasFault text q later → (p ≡ q) × (line ≡ later)
  one_fault p q line later (TooLong a) (TooLong b) = (refl, refl)
  one_fault p q line later (TooLong a) (BadLine f bad b) = absurd (omega (arith, a, f.short))
  one_fault p q line later (TooLong a) (BadListing f rule at begins first) = absurd (omega (arith, a, f.short))
  one_fault p q line later (TooLong a) (BadRoot f code listed never) = absurd (omega (arith, a, f.short))
  one_fault p q line later (BadLine f bad b) (TooLong a) = absurd (omega (arith, a, f.short))
  one_fault p q line later (BadListing f rule at begins first) (TooLong a) = absurd (omega (arith, a, f.short))
  one_fault p q line later (BadRoot f code listed never) (TooLong a) = absurd (omega (arith, a, f.short))
  one_fault p q line later (BadLine f x a) (BadLine g y b) =
      let same = same_front f g (bad_ends a) (bad_ends b) in
      let moved : IsBadLine (map array_of g.arrays) g.rest x = subst (λ (t : List ℕ). IsBadLine (map array_of g.arrays) t x) same.1
      (subst (λ (l : List Written). IsBadLine (map array_of l) f.rest x) same.0 a) in
      (ap (λ (z : InputFault). fault.OfInput z) (bad_one moved b), ap (λ (l : List Written). length l + 1) same.0)
  one_fault p q line later (BadLine f x a) (BadListing g rule at begins first) = absurd (not_bad g f begins a)
  one_fault p q line later (BadLine f x a) (BadRoot g code listed never) = absurd (not_bad g f (listing_begins g.rest code listed) a)
  one_fault p q line later (BadListing g rule at begins first) (BadLine f x a) = absurd (not_bad g f begins a)
  one_fault p q line later (BadRoot g code listed never) (BadLine f x a) = absurd (not_bad g f (listing_begins g.rest code listed) a)
  one_fault p q line later (BadListing f rule at begins first) (BadListing g other after starts least) =
      let same = same_front f g (other_ends (map array_of f.arrays) f.rest begins) (other_ends (map array_of g.arrays) g.rest starts) in
      let one = law.one_fault g.rest rule other at after (subst (λ (t : List ℕ). IsFirstFault t rule at) same.1 first) least in
      (ap (λ (z : ListingFault). fault.OfListing z) one.0, λ i. length (same.0 i) + one.1 i)
  one_fault p q line later (BadListing f rule at begins first) (BadRoot g code listed never) =
      let same = by_listing g f code listed begins in
      absurd (law.excludes f.rest code rule at (subst (λ (t : List ℕ). IsListing t code) same.1 listed) first.there)
  one_fault p q line later (BadRoot g code listed never) (BadListing f rule at begins first) =
      let same = by_listing g f code listed begins in
      absurd (law.excludes f.rest code rule at (subst (λ (t : List ℕ). IsListing t code) same.1 listed) first.there)
  one_fault p q line later (BadRoot f c a x) (BadRoot g d b y) =
      let same = by_listing f g c a (listing_begins g.rest d b) in
      (refl, ap (λ (l : List Written). length l + 2) same.0)

-- what stands after a text that is too long changes nothing
pub front : (text rest : List ℕ) (f : CaseFault) (line : ℕ) → case_limit < length text → HasFault text f line → HasFault (text ++ rest) f line
front text rest f line long (TooLong a) = TooLong (omega (arith, a, length-append text rest))
front text rest f line long (BadLine g bad b) = absurd (omega (arith, long, g.short))
front text rest f line long (BadListing g rule at begins first) = absurd (omega (arith, long, g.short))
front text rest f line long (BadRoot g code listed never) = absurd (omega (arith, long, g.short))
