-- What instructions may do, one by one.
use Rattle.std.proofs.Common.{◌≡◌, ◌<◌, ℕ, zero, suc, ◌+◌, List, [], ◌∷◌, length, refl, sym, ap, ◌∙◌, subst, arith, Some, map, take, set, get_or}
use Rattle.std.specs.List.{Contains}
use Rattle.std.specs.Prelude.{slice_get}
use Rattle.std.proofs.lemmas.Option.{get_or_from_slice_get, slice_get-get_or}
use Rattle.std.proofs.lemmas.List.{take_all}
use Rattle.ppm_code.specs.declared.class.May.{May}
use Rattle.ppm_code.specs.declared.instr.Instr.{Instr}
use Rattle.ppm_code.specs.Paths.{may, Does}
use Rattle.ppm_war.specs.Marks.{IsDecoded}

-- an instruction that is there is below the length
there_below : (is : List Instr) (at : ℕ) (i : Instr) → slice_get is at ≡ Some i → at < length is
there_below [] at i e = cc
there_below (j ∷ is) zero i e = omega arith
there_below (j ∷ is) (suc at) i e = omega (arith, there_below is at i e)

pub does_below : (is : List Instr) (at : ℕ) (m : May) → Does is at m → at < length is
does_below is at m (i, e, f) = there_below is at i e

-- as many as there are instructions
pub decoded_length : (is : List Instr) (mays : List May) → IsDecoded is mays → length mays ≡ length is
decoded_length is mays e = ap length e ∙ map_length is
  where
    map_length : (is : List Instr) → length (map may is) ≡ length is
    map_length [] = refl
    map_length (i ∷ is) = ap suc (map_length is)

-- at its place each
does_of : (is : List Instr) (k : ℕ) (m : May) → slice_get (map may is) k ≡ Some m → Does is k m
does_of [] k m e = cc
does_of (i ∷ is) zero m e = (i, refl, cc)
does_of (i ∷ is) (suc k) m e = does_of is k m e

does_there : (is : List Instr) (mays : List May) (k : ℕ) (m : May) → IsDecoded is mays → slice_get mays k ≡ Some m → Does is k m
does_there is mays k m d e = does_of is k m (ap (λ (ms : List May). slice_get ms k) (sym d) ∙ e)

pub does_at : (is : List Instr) (mays : List May) (k : ℕ) (m : May) → IsDecoded is mays → k < length mays → Does is k (get_or mays k m)
does_at is mays k m d less = does_there is mays k (get_or mays k m) d (slice_get-get_or mays k m less)

what_of : (is : List Instr) (k : ℕ) (m : May) → Does is k m → slice_get (map may is) k ≡ Some m
what_of [] k m (i, e, f) = cc
what_of (j ∷ is) zero m (i, e, f) = let same : j ≡ i = cc in ap Some (ap may same ∙ f)
what_of (j ∷ is) (suc k) m does = what_of is k m does

-- what an instruction does is among what was decoded
pub among : (is : List Instr) (mays : List May) (k : ℕ) (m : May) → IsDecoded is mays → Does is k m → Contains mays m
among is mays k m d does =
    let there : slice_get mays k ≡ Some m = ap (λ (ms : List May). slice_get ms k) d ∙ what_of is k m does in
    (k, omega (arith, decoded_length is mays d, does_below is k m does), get_or_from_slice_get mays k m m there)

-- what is among the first is done at a place below
pub in_front : (is : List Instr) (mays : List May) (n : ℕ) (m : May) → IsDecoded is mays → Contains (take n mays) m → (k : ℕ) × (k < n) × Does is k m
in_front is mays n m d (k, less, e) =
    let below = front is n k m (subst (λ (ms : List May). k < length (take n ms)) d less) (ap (λ (ms : List May). get_or (take n ms) k m) (sym d) ∙ e) in
    (k, below.0, below.1)
  where
    front : (is : List Instr) (n k : ℕ) (m : May) → k < length (take n (map may is)) → get_or (take n (map may is)) k m ≡ m → (k < n) × Does is k m
    front is zero k m less e = absurd (omega (arith, less))
    front [] (suc n) k m less e = absurd (omega (arith, less))
    front (i ∷ is) (suc n) zero m less e = (omega arith, (i, refl, e))
    front (i ∷ is) (suc n) (suc k) m less e =
        let rest = front is n k m (omega (arith, less)) e in
        (omega (arith, rest.0), rest.1)

-- one more is decoded
pub decodes : (is : List Instr) (mays : List May) (at : ℕ) (i : Instr) (m : May) → slice_get is at ≡ Some i → m ≡ may i → at < length mays
    → take at mays ≡ map may (take at is) → take (at + 1) (set mays at m) ≡ map may (take (at + 1) is)
decodes is mays at i m one is_may less so_far =
    let next : suc at ≡ at + 1 = omega arith in
    subst (λ (n : ℕ). take n (set mays at m) ≡ map may (take n is)) next (by is mays at one less so_far)
  where
    by : (is : List Instr) (mays : List May) (at : ℕ) → slice_get is at ≡ Some i → at < length mays → take at mays ≡ map may (take at is)
        → take (suc at) (set mays at m) ≡ map may (take (suc at) is)
    by [] mays at one less e = cc
    by (j ∷ is) [] at one less e = absurd (omega (arith, less))
    by (j ∷ is) (n ∷ mays) zero one less e = let same : i ≡ j = cc in ap (λ (k : May). k ∷ []) (is_may ∙ ap may same)
    by (j ∷ is) (n ∷ mays) (suc at) one less e =
        let rest : take at mays ≡ map may (take at is) = cc in
        let first : n ≡ may j = cc in
        ap (λ (k : May). k ∷ take (suc at) (set mays at m)) first ∙ ap (λ (ms : List May). may j ∷ ms) (by is mays at one (omega (arith, less)) rest)

-- all are decoded
pub all_decoded : (is : List Instr) (mays : List May) (at : ℕ) → at ≡ length is → take at mays ≡ map may (take at is)
    → IsDecoded is (take (length is) mays)
all_decoded is mays at e so_far = subst (λ (n : ℕ). take n mays ≡ map may (take n is)) e so_far ∙ ap (map may) (take_all (length is) is (omega arith))
