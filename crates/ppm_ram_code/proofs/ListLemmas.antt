-- Elements of lists by their places, and the capsules of instructions.
use Rattle.std.proofs.Common.{◌≡◌, ◌∙◌, ◌<◌, ◌≤◌, ◌⊎◌, inl, inr, ℕ, zero, suc, ◌+◌, ◌*◌, Bool, true, false, ℤ, pos, List, [], ◌∷◌, ◌++◌, get_or, drop, length, append_assoc, Some, None, refl, sym, ap, subst, arith}
use Rattle.std.specs.Prelude.{slice_get, replicate}
use Rattle.std.specs.List.{AllByRecursion}
use Rattle.std.proofs.lemmas.Bool.{both_ways}
use Rattle.ppm_code.specs.declared.code.Capsule.{Capsule}
use Rattle.ppm_ram.specs.declared.instruction.Instruction.{Instruction}
use Rattle.ppm_ram.specs.Program.{is_final, EndWell}
use Rattle.ppm_ram_code.specs.declared.bank.Bank.{Bank}
use Rattle.ppm_ram_code.specs.declared.bank.Bank.TheVariants.{First, Second}
use Rattle.ppm_ram_code.specs.Code.{capsule_at, capsule_for, capsules_from}

-- what holds of each element holds of the one at a place
pub all_at : {X : Type 0} (P : X → Type 0) (xs : List X) → AllByRecursion P xs → (k : ℕ) (x : X) → slice_get xs k ≡ Some x → P x
all_at P [] all k x e = absurd (cc)
all_at P (y ∷ xs) all zero x e = let same : y ≡ x = cc in subst P same all.0
all_at P (y ∷ xs) all (suc k) x e = all_at P xs all.1 k x e

-- there is one at each place
pub some_at : {X : Type 0} (xs : List X) (k : ℕ) → k < length xs → (x : X) × (slice_get xs k ≡ Some x)
some_at [] k low = absurd (omega (arith, low))
some_at (x ∷ xs) zero low = (x, refl)
some_at (x ∷ xs) (suc k) low = some_at xs k (omega (arith, low))

-- the next instruction is there, unless one never goes on to it
pub next_there : (is : List Instruction) → EndWell is → (k : ℕ) (i : Instruction) → slice_get is k ≡ Some i → is_final i ≡ false → k + 1 < length is
next_there [] well k i e on = absurd well
next_there (j ∷ []) well zero i e on =
    let same : j ≡ i = cc in absurd (both_ways (is_final i) on (ap is_final (sym same) ∙ well))
next_there (j ∷ []) well (suc k) i e on = absurd (cc)
next_there (j ∷ l ∷ is) well zero i e on = omega arith
next_there (j ∷ l ∷ is) well (suc k) i e on = let more = next_there (l ∷ is) well k i e on in omega (arith, more)

-- a RAM has an instruction
pub first_there : (is : List Instruction) → EndWell is → 0 < length is
first_there [] well = absurd well
first_there (i ∷ is) well = omega arith

-- the capsule of an instruction that reads a copy
pub capsule_there : (is : List Instruction) (n k : ℕ) (b : Bank) (i : Instruction) → slice_get is k ≡ Some i
    → slice_get (capsules_from n is) (capsule_at k b) ≡ Some (capsule_for (n + k) b i)
capsule_there [] n k b i e = absurd (cc)
capsule_there (j ∷ is) n zero First i e =
    let same : j ≡ i = cc in
    let at : n + 0 ≡ n = omega arith in
    rw at (ap (λ (j : Instruction). Some (capsule_for n First j)) same)
capsule_there (j ∷ is) n zero Second i e =
    let same : j ≡ i = cc in
    let at : n + 0 ≡ n = omega arith in
    rw at (ap (λ (j : Instruction). Some (capsule_for n Second j)) same)
capsule_there (j ∷ is) n (suc k) First i e =
    let place : 2 * suc k ≡ suc (suc (2 * k)) = omega arith in
    let at : (n + 1) + k ≡ n + suc k = omega arith in
    ap (slice_get (capsules_from n (j ∷ is))) place ∙ capsule_there is (n + 1) k First i e ∙ ap (λ (n : ℕ). Some (capsule_for n First i)) at
capsule_there (j ∷ is) n (suc k) Second i e =
    let place : 2 * suc k + 1 ≡ suc (suc (2 * k + 1)) = omega arith in
    let at : (n + 1) + k ≡ n + suc k = omega arith in
    ap (slice_get (capsules_from n (j ∷ is))) place ∙ capsule_there is (n + 1) k Second i e ∙ ap (λ (n : ℕ). Some (capsule_for n Second i)) at

pub capsule_count : (is : List Instruction) (n : ℕ) → length (capsules_from n is) ≡ 2 * length is
capsule_count [] n = refl
capsule_count (i ∷ is) n = let rest = capsule_count is (n + 1) in omega (arith, rest)

-- what holds of the capsules of each instruction holds of all
pub all_capsules : (P : Capsule → Type 0) (Q : ℕ → Instruction → Type 0) → ((n : ℕ) (b : Bank) (i : Instruction) → Q n i → P (capsule_for n b i))
    → (is : List Instruction) (n : ℕ) → ((k : ℕ) (i : Instruction) → slice_get is k ≡ Some i → Q (n + k) i) → AllByRecursion P (capsules_from n is)
all_capsules P Q each [] n holds = tt
all_capsules P Q each (i ∷ is) n holds =
    let at : n + 0 ≡ n = omega arith in
    let here : Q n i = subst (λ (n : ℕ). Q n i) at (holds 0 i refl) in
    let rest = all_capsules P Q each is (n + 1) (λ k j e. let place : n + suc k ≡ (n + 1) + k = omega arith in
    subst (λ (n : ℕ). Q n j) place (holds (suc k) j e)) in
    (each n First i here, (each n Second i here, rest))

-- zeros
pub zeros : (n k : ℕ) → get_or (replicate n (pos 0)) k (pos 0) ≡ pos 0
zeros zero k = refl
zeros (suc n) zero = refl
zeros (suc n) (suc k) = zeros n k

-- the instructions from one on
pub drop_some : (is : List Instruction) (k : ℕ) (i : Instruction) → slice_get is k ≡ Some i → drop k is ≡ i ∷ drop (k + 1) is
drop_some [] k i e = absurd (cc)
drop_some (j ∷ is) zero i e = let same : j ≡ i = cc in ap (λ (i : Instruction). i ∷ is) same
drop_some (j ∷ is) (suc k) i e = let next : suc k + 1 ≡ suc (k + 1) = omega arith in rw next (drop_some is k i e)

pub drop_none : (is : List Instruction) (k : ℕ) → slice_get is k ≡ None → drop k is ≡ []
drop_none [] zero e = refl
drop_none [] (suc k) e = refl
drop_none (j ∷ is) zero e = absurd (cc)
drop_none (j ∷ is) (suc k) e = drop_none is k e

-- the capsules of one instruction more
pub capsules_more : (is : List Instruction) (k : ℕ) (i : Instruction) (before : List Capsule) → slice_get is k ≡ Some i
    → ((before ++ capsule_for k First i ∷ []) ++ capsule_for k Second i ∷ []) ++ capsules_from (k + 1) (drop (k + 1) is)
    ≡ before ++ capsules_from k (drop k is)
capsules_more is k i before e =
    append_assoc (before ++ capsule_for k First i ∷ []) (capsule_for k Second i ∷ []) (capsules_from (k + 1) (drop (k + 1) is))
    ∙ append_assoc before (capsule_for k First i ∷ []) (capsule_for k Second i ∷ capsules_from (k + 1) (drop (k + 1) is))
    ∙ ap (λ (l : List Instruction). before ++ capsules_from k l) (sym (drop_some is k i e))

pub within : (is : List Instruction) (k : ℕ) (i : Instruction) → slice_get is k ≡ Some i → k < length is
within [] k i e = absurd (cc)
within (j ∷ is) zero i e = omega arith
within (j ∷ is) (suc k) i e = let rest = within is k i e in omega (arith, rest)
