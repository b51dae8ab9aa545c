-- The first line of a text: `ppm 1`, or one that does not stand there.
use Rattle.std.proofs.Common.{◌≡◌, ◌≢◌, ◌⊎◌, ◌≤◌, ℕ, ◌+◌, ◌-◌, ◌*◌, ◌==◌, min, Bool, true, false, not, ◌&&◌, if◌then◌else◌}
use Rattle.std.proofs.Common.{nat_le, List, [], ◌∷◌, map, length, Option, Some, None, refl, ap, ◌∙◌, subst, inl, inr, arith, codes}
use Rattle.std.proofs.lemmas.Bool.{leb-true, eqb-true, eqb-false}
use Rattle.std.specs.List.{list_all}
use Rattle.std.specs.Str.{bytes_eq}
use Rattle.std.proofs.lemmas.Slice.Eq.{bytes_eq-Decides}
use Rattle.ppm_listing.specs.declared.keyword.Keyword.{Keyword}
use Rattle.ppm_listing.specs.declared.keyword.Keyword.TheVariants as keyword
use Rattle.ppm_listing.specs.Tokens.{keyword_text}
use Rattle.ppm_listing_reader.specs.declared.part.Part.{Part}
use Rattle.ppm_listing_reader.specs.declared.part.Part.TheVariants as part
use Rattle.ppm_listing_reader.specs.declared.place.Place.TheVariants.{AtVersion}
use Rattle.ppm_listing_reader.specs.declared.token.Token.{Token}
use Rattle.ppm_listing_reader.specs.declared.token.Token.TheVariants.{Name, Register, Number, Negative, Other}
use Rattle.ppm_listing_reader.specs.declared.form.Sort.TheVariants as sort
use Rattle.ppm_listing_reader.specs.Tokens.{is_empty, split, spelled, keywords, keyword_of, is_digit, is_numeral, value_from, value, value_limit, named, minus, token_of}
use Rattle.ppm_listing_reader.specs.Forms.{is_of, has_form, part_of, part_in, line_of}
use Rattle.ppm_listing_reader.specs.Places.{standing}
use Rattle.ppm_commands.proofs.Pieces.{total, some_total}

-- what stands first is the version, or nothing
pub version_or_none : (l : Option Part) → (standing AtVersion l ≡ None) ⊎ (standing AtVersion l ≡ Some part.Version)
version_or_none None = inl refl
version_or_none (Some part.Version) = inr refl
version_or_none (Some (part.Root procedure arrays)) = inl refl
version_or_none (Some (part.Procedure number slots entry)) = inl refl
version_or_none (Some (part.Capsule number procedure)) = inl refl
version_or_none (Some (part.Instr i)) = inl refl

-- and the version stands where a line says it
says_version : (l : Option Part) → standing AtVersion l ≡ Some part.Version → l ≡ Some part.Version
says_version None e = cc
says_version (Some part.Version) e = refl
says_version (Some (part.Root procedure arrays)) e = cc
says_version (Some (part.Procedure number slots entry)) e = cc
says_version (Some (part.Capsule number procedure)) e = cc
says_version (Some (part.Instr i)) e = cc

-- ---- the token of `ppm`

both : (s t : Bool) → (s && t) ≡ true → (s ≡ true) × (t ≡ true)
both true t e = (refl, e)
both false t e = cc

no_name : (c : Bool) (v : ℕ) (k : Keyword) → (if c then Negative v else Other) ≡ Name k → ⊥
no_name true v k e = cc
no_name false v k e = cc

minus_is_no_name : (bs : List ℕ) (k : Keyword) → minus bs ≡ Name k → ⊥
minus_is_no_name [] k e = cc
minus_is_no_name (d ∷ ds) k e = no_name (is_numeral (d ∷ ds) && not (d == 48)) (value (d ∷ ds)) k e

-- a keyword's token is that of no number and no register
named_alone : (x y z u : Bool) (m t : Token) (v r : ℕ) (k : Keyword) → (m ≡ Name k → ⊥) →
    (if x then m else (if y then (if z then Number v else Other) else (if u then Register r else t))) ≡ Name k → t ≡ Name k
named_alone true y z u m t v r k apart e = absurd (apart e)
named_alone false true true u m t v r k apart e = cc
named_alone false true false u m t v r k apart e = cc
named_alone false false z true m t v r k apart e = cc
named_alone false false z false m t v r k apart e = e

named_back : (o : Option Keyword) (k : Keyword) → named o ≡ Name k → o ≡ Some k
named_back None k e = cc
named_back (Some j) k e = cc

-- a keyword that was found has the spelling
spelled_so : (ks : List Keyword) (w : List ℕ) (k : Keyword) → spelled ks w ≡ Some k → bytes_eq (keyword_text k) w ≡ true
spelled_so [] w k e = cc
spelled_so (j ∷ ks) w k e = by (bytes_eq (keyword_text j) w) refl (spelled_so ks w k) e where
  by : (t : Bool) → bytes_eq (keyword_text j) w ≡ t → (spelled ks w ≡ Some k → bytes_eq (keyword_text k) w ≡ true) →
      (if t then Some j else spelled ks w) ≡ Some k → bytes_eq (keyword_text k) w ≡ true
  by true h later f = let same : j ≡ k = cc in subst (λ x. bytes_eq (keyword_text x) w ≡ true) same h
  by false h later f = later f

-- the keyword `ppm` has three bytes
ppm_length : (w : List ℕ) → keyword_of w ≡ Some keyword.Ppm → length w ≤ 3
unfolding keyword_of
ppm_length w e =
    let spelling : bytes_eq (codes "ppm") w ≡ true = spelled_so keywords w keyword.Ppm e in
    let same : codes "ppm" ≡ w = (bytes_eq-Decides (codes "ppm") w).0 spelling in
    let size : 3 ≡ length w = ap length same in
    omega (arith, size)

ppm_token : (w : List ℕ) → token_of w ≡ Name keyword.Ppm → length w ≤ 3
ppm_token [] e = cc
ppm_token (b ∷ bs) e = ppm_length (b ∷ bs) (named_back (keyword_of (b ∷ bs)) keyword.Ppm
    (named_alone (b == 45) (is_digit b) (is_numeral (b ∷ bs)) (b == 114 && is_numeral bs) (minus bs) (named (keyword_of (b ∷ bs)))
    (value (b ∷ bs)) (value bs) keyword.Ppm (minus_is_no_name bs keyword.Ppm) e))

-- ---- the token of 1

-- a number grows with its digits
grows : (before : ℕ) (ds : List ℕ) → before ≤ value_from before ds
grows before [] = omega arith
grows before (d ∷ ds) = let more = grows (before * 10 + (d - 48)) ds in omega (arith, more)

no_number : (c : Bool) (v n : ℕ) → (if c then Negative v else Other) ≡ Number n → ⊥
no_number true v n e = cc
no_number false v n e = cc

minus_is_no_number : (bs : List ℕ) (n : ℕ) → minus bs ≡ Number n → ⊥
minus_is_no_number [] n e = cc
minus_is_no_number (d ∷ ds) n e = no_number (is_numeral (d ∷ ds) && not (d == 48)) (value (d ∷ ds)) n e

named_is_no_number : (o : Option Keyword) (n : ℕ) → named o ≡ Number n → ⊥
named_is_no_number None n e = cc
named_is_no_number (Some k) n e = cc

-- a number's token is that of digits in their one spelling
number_alone : (x y z u : Bool) (m t : Token) (v r n : ℕ) → (m ≡ Number n → ⊥) → (t ≡ Number n → ⊥) →
    (if x then m else (if y then (if z then Number v else Other) else (if u then Register r else t))) ≡ Number n →
    (y ≡ true) × (z ≡ true) × (v ≡ n)
number_alone true y z u m t v r n apart none e = absurd (apart e)
number_alone false true true u m t v r n apart none e = (refl, refl, cc)
number_alone false true false u m t v r n apart none e = cc
number_alone false false z true m t v r n apart none e = cc
number_alone false false z false m t v r n apart none e = absurd (none e)

-- a spelling of 1 has no byte after its first
one_digit : (d : ℕ) (ds : List ℕ) → is_digit d ≡ true → is_numeral (d ∷ ds) ≡ true → value (d ∷ ds) ≡ 1 → ds ≡ []
one_digit d [] h i e = refl
one_digit d (c ∷ cs) h i e = by (d == 48) refl i where
  by : (t : Bool) → (d == 48) ≡ t → (if t then is_empty (c ∷ cs) else list_all is_digit (d ∷ c ∷ cs)) ≡ true → c ∷ cs ≡ []
  by true f g = cc
  by false f g =
      let low : 48 ≤ d = leb-true 48 d (both (nat_le 48 d) (nat_le d 57) h).0 in
      let other : d ≢ 48 = eqb-false d 48 f in
      let more = grows ((0 + (d - 48)) * 10 + (c - 48)) cs in
      let same : min (value_from ((0 + (d - 48)) * 10 + (c - 48)) cs) value_limit ≡ 1 = e in
      absurd (omega (arith, low, other, more, same))

one_token : (w : List ℕ) (n : ℕ) → token_of w ≡ Number n → n ≡ 1 → length w ≤ 1
one_token [] n e f = cc
one_token (b ∷ bs) n e f =
    let alone = number_alone (b == 45) (is_digit b) (is_numeral (b ∷ bs)) (b == 114 && is_numeral bs) (minus bs) (named (keyword_of (b ∷ bs)))
    (value (b ∷ bs)) (value bs) n (minus_is_no_number bs n) (named_is_no_number (keyword_of (b ∷ bs)) n) e in
    let none : bs ≡ [] = one_digit b bs alone.0 alone.1 (alone.2 ∙ f) in
    let size : length bs ≡ 0 = ap length none in
    omega (arith, size)

-- ---- the line of the version

version_alone : (k : Keyword) (ts : List Token) → part_of k ts ≡ part.Version → k ≡ keyword.Ppm
version_alone keyword.Ppm ts e = refl
version_alone keyword.Root ts e = cc
version_alone keyword.Proc ts e = cc
version_alone keyword.Capsule ts e = cc
version_alone k ts e = cc

formed : (c : Bool) (p : Part) → (if c then Some p else None) ≡ Some part.Version → (c ≡ true) × (p ≡ part.Version)
formed true p e = (refl, cc)
formed false p e = cc

-- the tokens of the version are its keyword and the number 1
version_tokens : (ts : List Token) → part_in ts ≡ Some part.Version → (n : ℕ) × (ts ≡ Name keyword.Ppm ∷ Number n ∷ []) × (n ≡ 1)
version_tokens [] e = cc
version_tokens (Name k ∷ ts) e =
    let f = formed (has_form k ts) (part_of k ts) e in
    let ppm : k ≡ keyword.Ppm = version_alone k ts f.1 in
    go ts (subst (λ j. has_form j ts ≡ true) ppm f.0) ppm
  where
    one : (t : Token) → is_of sort.Version t ≡ true → (n : ℕ) × (t ≡ Number n) × (n ≡ 1)
    one (Number n) h = (n, refl, eqb-true n 1 h)
    one t h = cc

    go : (us : List Token) → has_form keyword.Ppm us ≡ true → k ≡ keyword.Ppm →
        (n : ℕ) × (Name k ∷ us ≡ Name keyword.Ppm ∷ Number n ∷ []) × (n ≡ 1)
    go [] h p = cc
    go (t ∷ []) h p =
        let o = one t (both (is_of sort.Version t) true h).0 in
        let ts : t ≡ Number o.0 = o.1 in
        (o.0, cc, o.2)
    go (t ∷ u ∷ us) h p = let f = (both (is_of sort.Version t) false h).1 in cc
version_tokens (t ∷ ts) e = cc

-- the words of the version's line are short
sized : (ws : List (List ℕ)) (n : ℕ) → map token_of ws ≡ Name keyword.Ppm ∷ Number n ∷ [] → n ≡ 1 → total ws ≤ 6
sized [] n e f = cc
sized (v ∷ []) n e f = cc
sized (v ∷ w ∷ []) n e f =
    let less : length v ≤ 3 = ppm_token v (cc (e)) in
    let one : length w ≤ 1 = one_token w n (cc (e)) f in
    omega (arith, less, one)
sized (v ∷ w ∷ x ∷ ws) n e f = cc

pub version_size : (w : List ℕ) → standing AtVersion (line_of w) ≡ Some part.Version → length w ≤ 5
version_size w e =
    let v = version_tokens (map token_of (split 32 w)) (says_version (line_of w) e) in
    let less : total (split 32 w) ≤ 6 = sized (split 32 w) v.0 v.1 v.2 in
    let size = some_total 32 w in
    omega (arith, less, size)
