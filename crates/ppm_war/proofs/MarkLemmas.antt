-- Places are marked in their order: when a place is met, it is marked exactly where a path comes to it.
use Rattle.std.proofs.Common.{◌≡◌, ◌↔◌, ◌<◌, ◌≤◌, ℕ, zero, suc, ◌+◌, Bool, true, false}
use Rattle.std.proofs.Common.{List, ◌⊎◌, inl, inr, refl, sym, ap, ◌∙◌, subst, arith, replicate, nat_lt}
use Rattle.std.proofs.lemmas.Bool.{ltb-true, ltb-false}
use Rattle.ppm_code.specs.Limits.{instr_limit}
use Rattle.ppm_code.specs.declared.class.May.{May}
use Rattle.ppm_code.specs.declared.class.May.TheVariants.{Work, Read, Write, Branch, Stop}
use Rattle.ppm_code.specs.declared.instr.Instr.{Instr}
use Rattle.ppm_code.specs.Paths.{may, Does, GoesTo, Path, Here, Then}
use Rattle.ppm_war.specs.Marks.{IsMarked}

-- paths lead forward
pub goes_forward : (m : May) (at to : ℕ) → GoesTo m at to → at < to
goes_forward Work at to e = omega (arith, e)
goes_forward (Read c) at to e = omega (arith, e)
goes_forward (Write c) at to e = omega (arith, e)
goes_forward (Branch t) at to (inl e) = omega (arith, e)
goes_forward (Branch t) at to (inr e) = omega (arith, e)
goes_forward Stop at to e = absurd e

-- no place of a new row of marks is marked
unmarked : (n to : ℕ) → IsMarked (replicate n false) to → ⊥
unmarked zero to h = cc
unmarked (suc n) zero h = cc
unmarked (suc n) (suc to) h = unmarked n to h

module _ (is : List Instr) (q : May → Type 0) where
  pub path_forward : (from to : ℕ) → Path is q from to → from ≤ to
  path_forward from _ (Here _) = omega arith
  path_forward from to (Then _ at _ m p here allowed goes) = omega (arith, path_forward from at p, goes_forward m at to goes)

  -- the last instruction that a path to a place passes is below k
  pub record CameFrom (from k to : ℕ) : Type 0 where
    pub at : ℕ
    pub below : at < k
    pub what : May
    pub path : Path is q from at
    pub here : Does is at what
    pub allowed : q what
    pub goes : GoesTo what at to

  -- what is marked when the places below k have been met
  abbrev pub IsMet : (from k to : ℕ) → Type 0
  IsMet from k to = (to ≡ from) ⊎ CameFrom from k to

  pub path_met : (from k to : ℕ) → to ≤ k → Path is q from to → IsMet from k to
  path_met from k to less (Here _) = inl refl
  path_met from k to less (Then _ at _ m p here allowed goes) = inr (record {
    at = at;
    below = omega (arith, less, goes_forward m at to goes);
    what = m;
    path = p;
    here = here;
    allowed = allowed;
    goes = goes;
  })

  met_path : (from k to : ℕ) → IsMet from k to → Path is q from to
  met_path from k to (inl e) = subst (λ (n : ℕ). Path is q from n) (sym e) (Here from)
  met_path from k to (inr c) = Then from c.at to c.what c.path c.here c.allowed c.goes

  -- of the places up to k it is whether a path comes there
  pub met : (from k to : ℕ) → to ≤ k → IsMet from k to ↔ Path is q from to
  met from k to less = (met_path from k to, path_met from k to less)

  -- nothing is met below where paths begin
  pub begun : (marks : List Bool) (from n : ℕ)
      → ((to : ℕ) → to < instr_limit → IsMarked marks to ↔ (IsMarked (replicate n false) to ⊎ (to ≡ from)))
      → (to : ℕ) → to < instr_limit → IsMarked marks to ↔ IsMet from from to
  begun marks from n marked to less = (
    λ h. elim ((marked to less).0 h) [ inl z ↦ absurd (unmarked n to z) | inr e ↦ inl e ],
    λ h. elim h [ inl e ↦ (marked to less).1 (inr e) | inr c ↦ absurd (omega (arith, c.below, path_forward from c.at c.path)) ],
  )

  -- what the instruction at a place may do is one thing
  pub same_what : (k : ℕ) (m n : May) → Does is k m → Does is k n → n ≡ m
  same_what k m n (i, e, f) (j, g, h) =
      let same : j ≡ i = cc in
      sym h ∙ ap may same ∙ f

  -- past the instruction at k
  passed : (from k to : ℕ) → CameFrom from k to → CameFrom from (k + 1) to
  passed from k to c = record { at = c.at; below = omega (arith, c.below); what = c.what; path = c.path; here = c.here; allowed = c.allowed; goes = c.goes }

  module _ (from k : ℕ) (m : May) (here : Does is k m) where
    -- the last instruction passed is that at k, or one below it
    pub last : (to : ℕ) → CameFrom from (k + 1) to → CameFrom from k to ⊎ (Path is q from k × q m × GoesTo m k to)
    last to c = by (nat_lt c.at k) refl
      where
        by : (b : Bool) → nat_lt c.at k ≡ b → CameFrom from k to ⊎ (Path is q from k × q m × GoesTo m k to)
        by true e = inl (record { at = c.at; below = ltb-true c.at k e; what = c.what; path = c.path; here = c.here; allowed = c.allowed; goes = c.goes })
        by false e =
            let same : c.at ≡ k = omega (arith, c.below, ltb-false c.at k e) in
            let what = same_what k m c.what here (subst (λ (n : ℕ). Does is n c.what) same c.here) in
            inr (
              subst (λ (n : ℕ). Path is q from n) same c.path,
              subst q what c.allowed,
              subst (λ (n : ℕ). GoesTo m n to) same (subst (λ (n : May). GoesTo n c.at to) what c.goes),
            )

    pub grown : (old new : List Bool) → k < instr_limit
        → ((to : ℕ) → to < instr_limit → IsMarked old to ↔ IsMet from k to)
        → ((to : ℕ) → to < instr_limit → IsMarked new to ↔ (IsMarked old to ⊎ (IsMarked old k × q m × GoesTo m k to)))
        → (to : ℕ) → to < instr_limit → IsMarked new to ↔ IsMet from (k + 1) to
    grown old new small h p to less = (
      λ n. elim ((p to less).0 n) [
        | inl o ↦ elim ((h to less).0 o) [ inl e ↦ inl e | inr c ↦ inr (passed from k to c) ]
        | inr g ↦ inr (record {
          at = k;
          below = omega arith;
          what = m;
          path = met_path from k k ((h k small).0 g.0);
          here = here;
          allowed = g.1;
          goes = g.2;
        })
      ],
      λ n. elim n [
        | inl e ↦ (p to less).1 (inl ((h to less).1 (inl e)))
        | inr c ↦ elim (last to c) [
          | inl d ↦ (p to less).1 (inl ((h to less).1 (inr d)))
          | inr g ↦ (p to less).1 (inr ((h k small).1 (path_met from k k (omega arith) g.0), g.1, g.2))
        ]
      ],
    )
