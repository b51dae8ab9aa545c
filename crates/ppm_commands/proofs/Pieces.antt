-- The pieces of a text, and its first line.
use Rattle.std.proofs.Common.{◌≡◌, ◌<◌, ◌≤◌, ℕ, suc, ◌+◌, ◌==◌, Bool, true, false, if◌then◌else◌}
use Rattle.std.proofs.Common.{List, [], ◌∷◌, ◌++◌, length, Option, Some, None, refl, sym, ap, ◌∙◌, arith}
use Rattle.std.specs.Prelude.{option_map}
use Rattle.ppm_listing_reader.specs.Tokens.{in_front, split}

-- the bytes of pieces, and the separator after each
abbrev pub total : List (List ℕ) → ℕ
total [] = 0
total (p ∷ ps) = suc (length p + total ps)

total_front : (b : ℕ) (ps : List (List ℕ)) → 0 < total ps → total (in_front b ps) ≡ suc (total ps)
total_front b [] h = absurd (omega (arith, h))
total_front b (p ∷ ps) h = omega arith

pub some_total : (s : ℕ) (text : List ℕ) → total (split s text) ≡ suc (length text)
some_total s [] = refl
some_total s (b ∷ bs) = by (b == s) (some_total s bs) where
  by : (t : Bool) → total (split s bs) ≡ suc (length bs) → total (if t then [] ∷ split s bs else in_front b (split s bs)) ≡ suc (suc (length bs))
  by true same = omega (arith, same)
  by false same = total_front b (split s bs) (omega (arith, same)) ∙ ap suc same

-- the first of pieces, if another is after it
abbrev pub ended : List (List ℕ) → Option (List ℕ)
ended [] = None
ended (p ∷ []) = None
ended (p ∷ q ∷ ps) = Some p

-- the bytes up to the first line feed, if there is one
abbrev pub first_line : List ℕ → Option (List ℕ)
first_line [] = None
first_line (b ∷ bs) = if b == 10 then Some [] else option_map (λ p. b ∷ p) (first_line bs)

ended_front : (b : ℕ) (ps : List (List ℕ)) → ended (in_front b ps) ≡ option_map (λ p. b ∷ p) (ended ps)
ended_front b [] = refl
ended_front b (p ∷ []) = refl
ended_front b (p ∷ q ∷ ps) = refl

ended_behind : (ps : List (List ℕ)) → 0 < total ps → ended ([] ∷ ps) ≡ Some []
ended_behind [] h = absurd (omega (arith, h))
ended_behind (p ∷ ps) h = refl

-- the first piece of a text between line feeds is its first line
pub ended_is : (text : List ℕ) → ended (split 10 text) ≡ first_line text
ended_is [] = refl
ended_is (b ∷ bs) = by (b == 10) (ended_is bs) where
  by : (t : Bool) → ended (split 10 bs) ≡ first_line bs → ended (if t then [] ∷ split 10 bs else in_front b (split 10 bs))
      ≡ (if t then Some [] else option_map (λ p. b ∷ p) (first_line bs))
  by true rest = let same = some_total 10 bs in ended_behind (split 10 bs) (omega (arith, same))
  by false rest = ended_front b (split 10 bs) ∙ ap (option_map (λ p. b ∷ p)) rest

map_back : (b : ℕ) (o : Option (List ℕ)) (p : List ℕ) → option_map (λ q. b ∷ q) o ≡ Some p → (q : List ℕ) × (o ≡ Some q) × (p ≡ b ∷ q)
map_back b None p e = cc
map_back b (Some q) p e = (q, refl, cc)

map_none : (b : ℕ) (o : Option (List ℕ)) → option_map (λ q. b ∷ q) o ≡ None → o ≡ None
map_none b None e = refl
map_none b (Some q) e = cc

-- a first line stays that, whatever follows
pub first_stays : (text rest p : List ℕ) → first_line text ≡ Some p → first_line (text ++ rest) ≡ Some p
first_stays [] rest p e = cc
first_stays (b ∷ bs) rest p e = by (b == 10) (λ q. first_stays bs rest q) e where
  by : (t : Bool) → ((q : List ℕ) → first_line bs ≡ Some q → first_line (bs ++ rest) ≡ Some q) → (if t then Some [] else option_map (λ q. b ∷ q) (first_line bs)) ≡ Some p
      → (if t then Some [] else option_map (λ q. b ∷ q) (first_line (bs ++ rest))) ≡ Some p
  by true stays f = f
  by false stays f = let m = map_back b (first_line bs) p f in
      ap (option_map (λ q. b ∷ q)) (stays m.0 m.1) ∙ ap Some (sym m.2)

-- where a text has no line feed, a first line that ends after it is no shorter
pub first_grows : (text rest p : List ℕ) → first_line text ≡ None → first_line (text ++ rest) ≡ Some p → length text ≤ length p
first_grows [] rest p e f = omega arith
first_grows (b ∷ bs) rest p e f = by (b == 10) (λ q. first_grows bs rest q) e f where
  by : (t : Bool) → ((q : List ℕ) → first_line bs ≡ None → first_line (bs ++ rest) ≡ Some q → length bs ≤ length q) → (if t then Some [] else option_map (λ q. b ∷ q) (first_line bs)) ≡ None
      → (if t then Some [] else option_map (λ q. b ∷ q) (first_line (bs ++ rest))) ≡ Some p → suc (length bs) ≤ length p
  by true more g h = cc
  by false more g h =
      let m = map_back b (first_line (bs ++ rest)) p h in
      let less : length bs ≤ length m.0 = more m.0 (map_none b (first_line bs) g) m.1 in
      let grown : length p ≡ suc (length m.0) = ap length m.2 in
      omega (arith, less, grown)
