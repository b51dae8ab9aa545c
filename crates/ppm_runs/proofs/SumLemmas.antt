-- Sums over the first so many numbers.
use Rattle.std.proofs.Common.{◌≡◌, ◌≢◌, ◌⊎◌, ◌≤◌, ◌<◌, ℕ, zero, suc, ◌+◌, ◌*◌, ◌==◌, Bool, true, false, inl, inr, refl, sym, ap, subst, arith}
use Rattle.std.proofs.lemmas.Bool.{cases_eq, eq-eqb, ne_eqb}

abbrev pub sum : ℕ → (ℕ → ℕ) → ℕ
sum zero f = 0
sum (suc n) f = f n + sum n f

pub sum_same : (n : ℕ) (f g : ℕ → ℕ) → ((q : ℕ) → q < n → g q ≡ f q) → sum n g ≡ sum n f
sum_same zero f g same = refl
sum_same (suc n) f g same = let a = same n (omega arith) in let b = sum_same n f g (λ q lt. same q (omega (arith, lt))) in omega (arith, a, b)

-- one term changes
pub sum_at : (n : ℕ) (f g : ℕ → ℕ) (p : ℕ) → p < n → ((q : ℕ) → q ≢ p → g q ≡ f q) → sum n g + f p ≡ sum n f + g p
sum_at zero f g p lt same = absurd (omega (arith, lt))
sum_at (suc n) f g p lt same = elim (cases_eq n p) [
  | inl e ↦
      let rest = sum_same n f g (λ q less. same q (λ d. omega (arith, d, less, e))) in
      let a : f n ≡ f p = ap f e in
      let b : g n ≡ g p = ap g e in
      omega (arith, rest, a, b)
  | inr ne ↦
      let rest = sum_at n f g p (omega (arith, lt, ne)) same in
      let a = same n ne in
      omega (arith, rest, a)
]

pub sum_le : (n : ℕ) (f g : ℕ → ℕ) → ((q : ℕ) → q < n → f q ≤ g q) → sum n f ≤ sum n g
sum_le zero f g le = omega arith
sum_le (suc n) f g le = let a = le n (omega arith) in let b = sum_le n f g (λ q lt. le q (omega (arith, lt))) in omega (arith, a, b)

pub sum_zero : (n : ℕ) (f : ℕ → ℕ) → ((q : ℕ) → f q ≡ 0) → sum n f ≡ 0
sum_zero zero f none = refl
sum_zero (suc n) f none = let a = none n in let b = sum_zero n f none in omega (arith, a, b)

pub sum_plus : (n : ℕ) (f g : ℕ → ℕ) → sum n (λ q. f q + g q) ≡ sum n f + sum n g
sum_plus zero f g = refl
sum_plus (suc n) f g = let e = sum_plus n f g in omega (arith, e)

-- so many of each
pub sum_times : (n : ℕ) (f : ℕ → ℕ) → sum n (λ q. 172 * f q) ≡ 172 * sum n f
sum_times zero f = refl
sum_times (suc n) f = let e = sum_times n f in omega (arith, e)

-- what is counted by who is there is no more than what is counted by where, if no two are at one place
pub sum_there : (n m : ℕ) (f g : ℕ → ℕ) (At : ℕ → ℕ → Type 0) → ((c : ℕ) → c < n → (f c ≡ 0) ⊎ ((p : ℕ) × (p < m) × At p c × (f c ≤ g p)))
    → ((p c d : ℕ) → At p c → At p d → c ≡ d) → sum n f ≤ sum m g
sum_there zero m f g At each once = omega arith
sum_there (suc n) m f g At each once = elim (each n (omega arith)) [
  | inl none ↦ let le = sum_there n m f g At (λ c lt. each c (omega (arith, lt))) once in omega (arith, none, le)
  | inr there ↦ taken (λ g' each'. sum_there n m f g' At each' once) there.0 there.1 there.2 there.3
]
  where
    but : (q : ℕ) (b : Bool) → ℕ
    but q true = 0
    but q false = g q

    without : ℕ → ℕ → ℕ
    without p q = but q (q == p)

    at_others : (p q : ℕ) → q ≢ p → without p q ≡ g q
    at_others p q ne = ap (but q) (ne_eqb q p ne)

    at_own : (p : ℕ) → without p p ≡ 0
    at_own p = ap (but p) (eq-eqb p p refl)

    taken : ((g' : ℕ → ℕ) → ((c : ℕ) → c < n → (f c ≡ 0) ⊎ ((p : ℕ) × (p < m) × At p c × (f c ≤ g' p))) → sum n f ≤ sum m g')
        → (p : ℕ) → p < m → At p n → f n ≤ g p → sum (suc n) f ≤ sum m g
    taken go p lt here le =
        let rest = go (without p) (λ c less. elim (each c (omega (arith, less))) [
          | inl none ↦ inl none
          | inr there ↦ inr (
            there.0,
            there.1,
            there.2,
            subst (λ (z : ℕ). f c ≤ z) (sym (at_others p there.0 (λ e.
                let same = once p c n (subst (λ (q : ℕ). At q c) e there.2) here in omega (arith, same, less)))) there.3,
          )
        ]) in
        let one = sum_at m g (without p) p lt (at_others p) in
        let none = at_own p in
        omega (arith, rest, one, none, le)
