-- Holder words where as many are dead, and where one more dies.
use Rattle.std.proofs.Common.{◌≡◌, ◌≢◌, ◌≤◌, ◌<◌, ℕ, zero, suc, ◌+◌, inl, inr, refl, ap, ◌∙◌, arith}
use Rattle.std.proofs.lemmas.Bool.{cases_eq}
use Rattle.ppm_cells.specs.declared.shape.Shape.{Shape}
use Rattle.ppm_tickets.specs.Words.{Word, Empty, Local, Job, Taken, Held, Number, Linked, Restarts, Unread, Spot, Dead}
use Rattle.ppm_runs.specs.Sound.{one_dead, deads, IsHolderWithin}

-- as many are dead
deads_same : (m n : Spot → Word) → ((q : ℕ) → n (Dead q) ≡ m (Dead q)) → (c : ℕ) → deads n c ≡ deads m c
deads_same m n same zero = refl
deads_same m n same (suc c) = let one = ap one_dead (same c) in let rest = deads_same m n same c in omega (arith, one, rest)

pub holder_same : (s : Shape) (raised : ℕ) (m n : Spot → Word) → ((q : ℕ) → n (Dead q) ≡ m (Dead q)) → (w : Word) → IsHolderWithin s raised m w → IsHolderWithin s raised n w
holder_same s raised m n same (Held t c) a = (a.0, let one = ap one_dead (same c) in let all = deads_same m n same s.processors in let low = a.1 in omega (arith, one, all, low))
holder_same s raised m n same (Empty t) a = absurd a
holder_same s raised m n same (Local t x) a = absurd a
holder_same s raised m n same (Job t x) a = absurd a
holder_same s raised m n same (Taken t x) a = absurd a
holder_same s raised m n same (Number x) a = absurd a
holder_same s raised m n same (Linked x) a = absurd a
holder_same s raised m n same (Restarts x y) a = absurd a
holder_same s raised m n same Unread a = absurd a

-- where one more processor dies
module _ (m n : Spot → Word) (c : ℕ) (here : one_dead (n (Dead c)) ≡ 1) (was : one_dead (m (Dead c)) ≡ 0) (there : (q : ℕ) → q ≢ c → n (Dead q) ≡ m (Dead q)) where
  deads_below : (k : ℕ) → k ≤ c → deads n k ≡ deads m k
  deads_below zero le = refl
  deads_below (suc k) le = let one = ap one_dead (there k (λ e. omega (arith, le, e))) in let rest = deads_below k (omega (arith, le)) in omega (arith, one, rest)

  deads_above : (k : ℕ) → c < k → deads n k ≡ deads m k + 1
  deads_above zero lt = absurd (omega (arith, lt))
  deads_above (suc k) lt = elim (cases_eq k c) [
    | inl e ↦
        let now : one_dead (n (Dead k)) ≡ 1 = ap (λ (x : ℕ). one_dead (n (Dead x))) e ∙ here in
        let old : one_dead (m (Dead k)) ≡ 0 = ap (λ (x : ℕ). one_dead (m (Dead x))) e ∙ was in
        let rest = deads_below k (omega (arith, e)) in omega (arith, now, old, rest)
    | inr ne ↦ let one = ap one_dead (there k ne) in let rest = deads_above k (omega (arith, lt, ne)) in omega (arith, one, rest)
  ]

  pub holder_dies : (s : Shape) (raised : ℕ) → c < s.processors → (w : Word) → IsHolderWithin s raised m w → IsHolderWithin s raised n w
  holder_dies s raised lt (Held t q) a = (
    a.0,
    let all = deads_above s.processors lt in let low = a.1 in elim (cases_eq q c) [
      | inl e ↦ let now : one_dead (n (Dead q)) ≡ 1 = ap (λ (x : ℕ). one_dead (n (Dead x))) e ∙ here in let old : one_dead (m (Dead q)) ≡ 0 = ap (λ (x : ℕ). one_dead (m (Dead x))) e ∙ was in omega (arith, all, low, now, old)
      | inr ne ↦ let one = ap one_dead (there q ne) in omega (arith, all, low, one)
    ],
  )
  holder_dies s raised lt (Empty t) a = absurd a
  holder_dies s raised lt (Local t x) a = absurd a
  holder_dies s raised lt (Job t x) a = absurd a
  holder_dies s raised lt (Taken t x) a = absurd a
  holder_dies s raised lt (Number x) a = absurd a
  holder_dies s raised lt (Linked x) a = absurd a
  holder_dies s raised lt (Restarts x y) a = absurd a
  holder_dies s raised lt Unread a = absurd a

-- no more are dead than there are
one_at_most : (w : Word) → one_dead w ≤ 1
one_at_most (Number zero) = omega arith
one_at_most (Number (suc n)) = omega arith
one_at_most _ = omega arith

pub deads_most : (m : Spot → Word) (n : ℕ) → deads m n ≤ n
deads_most m zero = omega arith
deads_most m (suc n) = let a = one_at_most (m (Dead n)) in let b = deads_most m n in omega (arith, a, b)
