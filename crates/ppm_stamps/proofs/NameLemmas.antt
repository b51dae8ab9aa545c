-- The stamps of words are of capsules of the run that wrote and touched them.
use Rattle.std.proofs.Common.{◌≡◌, ◌⊎◌, inl, inr, refl, sym, subst, ℕ, ◌≤◌, List, [], ◌∷◌, true, arith}
use Rattle.std.proofs.lemmas.Bool.{cases_Bool}
use Rattle.ppm_strands.specs.Tree.{Words, Tree, Code}
use Rattle.ppm_strands.specs.Calm.{touches}
use Rattle.ppm_strands.proofs.CalmLemmas.{has_or_not}
use Rattle.ppm_stamps.specs.Stamps.{Stamps}
use Rattle.ppm_stamps.specs.Moments.{Above, InCallee, InLeft, InRight, beside_of, Comes, Begins, Runs, Calls, Forks, Returns, GoesRight, Joins, Was}
use Rattle.ppm_stamps.specs.Moments.{TouchesAreNamed}
use Rattle.ppm_stamps.proofs.CoverLemmas.{right_only}

module _ {F O : Type 0} (c : Code F O) where
  -- branches began with a capsule
  abbrev pub AreStarted : List (Above F O) → Type 0
  AreStarted [] = Unit {0}
  AreStarted (InCallee g ∷ above) = AreStarted above
  AreStarted (InLeft g r start ∷ above) = (1 ≤ start) × AreStarted above
  AreStarted (InRight g o start mid ∷ above) = (1 ≤ start) × AreStarted above

  pub started : {root : Tree F O} {input : Words} {above : List (Above F O)} {t : Tree F O} {a : Words} {s : Stamps} → Comes c root input above t a s
      → (1 ≤ s.time) × AreStarted above
  started Begins = (omega arith, tt)
  started (Runs come passes marks) = let it = started come in let time = marks.time in let first = it.0 in (omega (arith, time, first), it.1)
  started (Calls come) = started come
  started (Forks come) = let it = started come in (it.0, (it.0, it.1))
  started (Returns come) = started come
  started (GoesRight come) = let it = started come in (it.0, (it.1.0, it.1.1))
  started (Joins come) = let it = started come in (it.0, it.1.1)

  high : (above : List (Above F O)) → AreStarted above → (k : ℕ) → beside_of above k ≡ true → 1 ≤ k
  high [] are k h = absurd (cc)
  high (InCallee g ∷ above) are k h = high above are k h
  high (InLeft g r start ∷ above) are k h = high above are.1 k h
  high (InRight g o start mid ∷ above) are k h = elim (right_only (beside_of above) start mid k h) [
    | inl y ↦ high above are.1 k y
    | inr y ↦ let first = are.0 in let from = y.0 in omega (arith, first, from)
  ]

  named_wrote : {root : Tree F O} {input : Words} {above : List (Above F O)} {t : Tree F O} {a : Words} {s : Stamps} → Comes c root input above t a s
      → (x : ℕ) → (s.wrote x ≡ 0) ⊎ Was c root input c.writes (s.wrote x) x
  named_wrote Begins x = inl refl
  named_wrote {root = root} {input = input} (Runs {above = above} {f = f} {a = a} {s = s} {m = m} come passes marks) x = elim (has_or_not x (c.writes f a)) [
    | inl h ↦ inr (record { above = above; frame = f; words = a; stamps = s; come = come; time = sym (marks.wrote x h); has = h })
    | inr h ↦ subst (λ (k : ℕ). (k ≡ 0) ⊎ Was c root input c.writes k x) (sym (marks.unwritten x h)) (named_wrote come x)
  ]
  named_wrote (Calls come) x = named_wrote come x
  named_wrote (Forks come) x = named_wrote come x
  named_wrote (Returns come) x = named_wrote come x
  named_wrote (GoesRight come) x = named_wrote come x
  named_wrote (Joins come) x = named_wrote come x

  named_touched : {root : Tree F O} {input : Words} {above : List (Above F O)} {t : Tree F O} {a : Words} {s : Stamps} → Comes c root input above t a s
      → (x : ℕ) → (s.touched x ≡ 0) ⊎ Was c root input (touches c) (s.touched x) x
  named_touched Begins x = inl refl
  named_touched {root = root} {input = input} (Runs {above = above} {f = f} {a = a} {s = s} {m = m} come passes marks) x = elim (has_or_not x (touches c f a)) [
    | inl h ↦ elim (cases_Bool (beside_of above (s.touched x))) [
      | inl y ↦ subst (λ (k : ℕ). (k ≡ 0) ⊎ Was c root input (touches c) k x) (sym (marks.stays x h y)) (named_touched come x)
      | inr n ↦ inr (record { above = above; frame = f; words = a; stamps = s; come = come; time = sym (marks.touched x h n); has = h })
    ]
    | inr h ↦ subst (λ (k : ℕ). (k ≡ 0) ⊎ Was c root input (touches c) k x) (sym (marks.untouched x h)) (named_touched come x)
  ]
  named_touched (Calls come) x = named_touched come x
  named_touched (Forks come) x = named_touched come x
  named_touched (Returns come) x = named_touched come x
  named_touched (GoesRight come) x = named_touched come x
  named_touched (Joins come) x = named_touched come x

  pub touches_are_named : TouchesAreNamed c
  touches_are_named = record {
    wrote = λ root input above t a s come x h. elim (named_wrote come x) [
      | inl none ↦ absurd (let k = high above (started come).1 (s.wrote x) h in omega (arith, none, k))
      | inr was ↦ was
    ];
    touched = λ root input above t a s come x h. elim (named_touched come x) [
      | inl none ↦ absurd (let k = high above (started come).1 (s.touched x) h in omega (arith, none, k))
      | inr was ↦ was
    ];
  }
