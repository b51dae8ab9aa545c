-- What is left of a run decides as the whole of it does.
use Rattle.std.proofs.Common.{◌≡◌, ◌⊎◌, inl, inr, refl, sym, subst, ℕ, zero, suc, ◌+◌, ◌-◌, ◌≤◌, ◌<◌, true, List, [], ◌∷◌, Bool, arith}
use Rattle.ppm_strands.specs.Tree.{Words, Tree, Strand, Call, Fork, Over, Code}
use Rattle.ppm_strands.specs.Run.{End, with_counts, of_capsule, rejoin, Ends}
use Rattle.ppm_strands.proofs.PartsLemmas.{over_end, call_ends, fork_ends, ends_by_parts}
use Rattle.ppm_stamps.proofs.CoverLemmas.{right_more, right_only}
use Rattle.ppm_stamps.specs.Stamps.{Stamps, fresh, right_of, Passes, Marks, IsClean, IsFound}
use Rattle.ppm_stamps.specs.Moments.{Above, InCallee, InLeft, InRight, beside_of, Comes, Begins, Runs, Calls, Forks, Returns, GoesRight, Joins}

module _ {F O : Type 0} (c : Code F O) where
  -- a larger bound is as good
  clean_longer : (n : ℕ) (beside : ℕ → Bool) (t : Tree F O) (a : Words) (s u : Stamps) → IsClean c n beside t a s u → IsClean c (suc n) beside t a s u
  clean_longer zero beside t a s u h = absurd h
  clean_longer (suc n) beside (Over o) a s u h = h
  clean_longer (suc n) beside (Strand f) a s u h = (h.0, h.1, h.2, clean_longer n beside (c.next f a) (c.after f a) h.0 u h.3)
  clean_longer (suc n) beside (Call g t) a s u h =
      (h.0, h.1, clean_longer n beside t a s h.0 h.2, h.3, clean_longer n beside (c.resume g h.1.outcome) h.1.words h.0 u h.4)
  clean_longer (suc n) beside (Fork g l r) a s u h = (
    h.0,
    h.1,
    h.2,
    h.3,
    clean_longer n beside l a s h.0 h.4,
    h.5,
    clean_longer n (right_of beside s.time h.0.time) r h.2.words h.0 h.1 h.6,
    h.7,
    clean_longer n beside (rejoin c g h.2.outcome h.3.outcome) h.3.words h.1 u h.8,
  )

  clean_more : (k n : ℕ) (beside : ℕ → Bool) (t : Tree F O) (a : Words) (s u : Stamps) → IsClean c n beside t a s u → IsClean c (k + n) beside t a s u
  clean_more zero n beside t a s u h = let e : 0 + n ≡ n = omega arith in subst (λ (i : ℕ). IsClean c i beside t a s u) (sym e) h
  clean_more (suc k) n beside t a s u h =
      let e : suc k + n ≡ suc (k + n) = omega arith in
      subst (λ (i : ℕ). IsClean c i beside t a s u) (sym e) (clean_longer (k + n) beside t a s u (clean_more k n beside t a s u h))

  clean_within : (n m : ℕ) → n ≤ m → (beside : ℕ → Bool) (t : Tree F O) (a : Words) (s u : Stamps) → IsClean c n beside t a s u
      → IsClean c m beside t a s u
  clean_within n m le beside t a s u h =
      let e : (m - n) + n ≡ m = omega arith in
      subst (λ (i : ℕ). IsClean c i beside t a s u) e (clean_more (m - n) n beside t a s u h)

  found_longer : (n : ℕ) (beside : ℕ → Bool) (t : Tree F O) (a : Words) (s : Stamps) → IsFound c n beside t a s → IsFound c (suc n) beside t a s
  found_longer zero beside t a s h = absurd h
  found_longer (suc n) beside (Over o) a s h = h
  found_longer (suc n) beside (Strand f) a s (inl h) = inl h
  found_longer (suc n) beside (Strand f) a s (inr h) = inr (h.0, h.1, h.2, found_longer n beside (c.next f a) (c.after f a) h.0 h.3)
  found_longer (suc n) beside (Call g t) a s (inl h) = inl (found_longer n beside t a s h)
  found_longer (suc n) beside (Call g t) a s (inr h) =
      inr (h.0, h.1, clean_longer n beside t a s h.0 h.2, h.3, found_longer n beside (c.resume g h.1.outcome) h.1.words h.0 h.4)
  found_longer (suc n) beside (Fork g l r) a s (inl h) = inl (found_longer n beside l a s h)
  found_longer (suc n) beside (Fork g l r) a s (inr (inl h)) = inr (inl (
    h.0,
    h.1,
    clean_longer n beside l a s h.0 h.2,
    h.3,
    found_longer n (right_of beside s.time h.0.time) r h.1.words h.0 h.4,
  ))
  found_longer (suc n) beside (Fork g l r) a s (inr (inr h)) = inr (inr (
    h.0,
    h.1,
    h.2,
    h.3,
    clean_longer n beside l a s h.0 h.4,
    h.5,
    clean_longer n (right_of beside s.time h.0.time) r h.2.words h.0 h.1 h.6,
    h.7,
    found_longer n beside (rejoin c g h.2.outcome h.3.outcome) h.3.words h.1 h.8,
  ))

  found_more : (k n : ℕ) (beside : ℕ → Bool) (t : Tree F O) (a : Words) (s : Stamps) → IsFound c n beside t a s → IsFound c (k + n) beside t a s
  found_more zero n beside t a s h = let e : 0 + n ≡ n = omega arith in subst (λ (i : ℕ). IsFound c i beside t a s) (sym e) h
  found_more (suc k) n beside t a s h =
      let e : suc k + n ≡ suc (k + n) = omega arith in
      subst (λ (i : ℕ). IsFound c i beside t a s) (sym e) (found_longer (k + n) beside t a s (found_more k n beside t a s h))

  found_within : (n m : ℕ) → n ≤ m → (beside : ℕ → Bool) (t : Tree F O) (a : Words) (s : Stamps) → IsFound c n beside t a s → IsFound c m beside t a s
  found_within n m le beside t a s h =
      let e : (m - n) + n ≡ m = omega arith in
      subst (λ (i : ℕ). IsFound c i beside t a s) e (found_more (m - n) n beside t a s h)

  -- within some bound
  abbrev Cleans : (ℕ → Bool) → Tree F O → Words → Stamps → Stamps → Type 0
  Cleans beside t a s u = (n : ℕ) × IsClean c n beside t a s u

  abbrev Finds : (ℕ → Bool) → Tree F O → Words → Stamps → Type 0
  Finds beside t a s = (n : ℕ) × IsFound c n beside t a s

  -- a tree comes clean to its end, and then so is what follows
  abbrev CleanThen : (ℕ → Bool) → (O → Words → Stamps → Stamps → Type 0) → Tree F O → Words → Stamps → Stamps → Type 0
  CleanThen beside k t a s u = (m : Stamps) × (d : End O) × Cleans beside t a s m × Ends c t a d × k d.outcome d.words m u

  -- what waits above a strand that is over comes clean to the end of all
  abbrev CleanRest : List (Above F O) → O → Words → Stamps → Stamps → Type 0
  CleanRest [] o a s u = u ≡ s
  CleanRest (InCallee g ∷ above) o a s u = CleanThen (beside_of above) (CleanRest above) (c.resume g o) a s u
  CleanRest (InLeft g r start ∷ above) o a s u =
      CleanThen (right_of (beside_of above) start s.time) (λ p b v w. CleanThen (beside_of above) (CleanRest above) (rejoin c g o p) b v w) r a s u
  CleanRest (InRight g o start mid ∷ above) p a s u = CleanThen (beside_of above) (CleanRest above) (rejoin c g o p) a s u

  abbrev CleanFrom : List (Above F O) → Tree F O → Words → Stamps → Stamps → Type 0
  CleanFrom above t a s u = CleanThen (beside_of above) (CleanRest above) t a s u

  -- what comes clean in a call, in a fork and after a capsule
  clean_strand : (above : List (Above F O)) (f : F) (a : Words) (s m u : Stamps) → Passes c (beside_of above) f a s → Marks c (beside_of above) f a s m
      → CleanFrom above (c.next f a) (c.after f a) m u → CleanFrom above (Strand f) a s u
  clean_strand above f a s m u passes marks h = (
    h.0,
    with_counts (of_capsule c f a) h.1,
    (suc h.2.0, (m, passes, marks, h.2.1)),
    ((ends_by_parts c).strand f a _).1 (h.1, h.3, refl),
    h.4,
  )

  clean_call : (above : List (Above F O)) (g : F) (t : Tree F O) (a : Words) (s u : Stamps) → CleanFrom (InCallee g ∷ above) t a s u
      → CleanFrom above (Call g t) a s u
  clean_call above g t a s u h =
      let rest = h.4 in
      let first = h.2.0 in
      let second = rest.2.0 in
      let le : first ≤ first + second = omega arith in
      let ge : second ≤ first + second = omega arith in (
        rest.0,
        with_counts h.1.counts rest.1,
        (
          suc (first + second),
          (
            h.0,
            h.1,
            clean_within first (first + second) le (beside_of above) t a s h.0 h.2.1,
            h.3,
            clean_within second (first + second) ge (beside_of above) (c.resume g h.1.outcome) h.1.words h.0 rest.0 rest.2.1,
          ),
        ),
        call_ends c g t a h.1 rest.1 h.3 rest.3,
        rest.4,
      )

  clean_fork : (above : List (Above F O)) (g : F) (l r : Tree F O) (a : Words) (s u : Stamps) → CleanFrom (InLeft g r s.time ∷ above) l a s u
      → CleanFrom above (Fork g l r) a s u
  clean_fork above g l r a s u h =
      let right = h.4 in
      let rest = right.4 in
      let i = h.2.0 in
      let j = right.2.0 in
      let k = rest.2.0 in
      let ie : i ≤ i + j + k = omega arith in
      let je : j ≤ i + j + k = omega arith in
      let ke : k ≤ i + j + k = omega arith in (
        rest.0,
        with_counts h.1.counts (with_counts right.1.counts rest.1),
        (
          suc (i + j + k),
          (
            h.0,
            right.0,
            h.1,
            right.1,
            clean_within i (i + j + k) ie (beside_of above) l a s h.0 h.2.1,
            h.3,
            clean_within j (i + j + k) je (right_of (beside_of above) s.time h.0.time) r h.1.words h.0 right.0 right.2.1,
            right.3,
            clean_within k (i + j + k) ke (beside_of above) (rejoin c g h.1.outcome right.1.outcome) right.1.words right.0 rest.0 rest.2.1,
          ),
        ),
        fork_ends c g l r a h.1 right.1 rest.1 h.3 right.3 rest.3,
        rest.4,
      )

  -- what has come to a moment comes clean where what is left does
  pub clean_back : {root : Tree F O} {input : Words} {above : List (Above F O)} {t : Tree F O} {a : Words} {s : Stamps} → Comes c root input above t a s
      → (u : Stamps) → CleanFrom above t a s u → CleanFrom [] root input fresh u
  clean_back Begins u h = h
  clean_back (Runs {above = above} {f = f} {a = a} {s = s} {m = m} come passes marks) u h = clean_back come u (clean_strand above f a s m u passes marks h)
  clean_back (Calls {above = above} {g = g} {t = t} {a = a} {s = s} come) u h = clean_back come u (clean_call above g t a s u h)
  clean_back (Forks {above = above} {g = g} {l = l} {r = r} {a = a} {s = s} come) u h = clean_back come u (clean_fork above g l r a s u h)
  clean_back (Returns {o = o} {a = a} {s = s} come) u h = clean_back come u (s, over_end o a, (1, refl), (1, refl), h)
  clean_back (GoesRight {o = o} {a = a} {s = s} come) u h = clean_back come u (s, over_end o a, (1, refl), (1, refl), h)
  clean_back (Joins {p = p} {a = a} {s = s} come) u h = clean_back come u (s, over_end p a, (1, refl), (1, refl), h)

  -- something is found in a tree, or it comes clean to its end and then something is found in what follows
  abbrev FoundThen : (ℕ → Bool) → (O → Words → Stamps → Type 0) → Tree F O → Words → Stamps → Type 0
  FoundThen beside k t a s = Finds beside t a s ⊎ ((m : Stamps) × (d : End O) × Cleans beside t a s m × Ends c t a d × k d.outcome d.words m)

  abbrev FoundRest : List (Above F O) → O → Words → Stamps → Type 0
  FoundRest [] o a s = ⊥
  FoundRest (InCallee g ∷ above) o a s = FoundThen (beside_of above) (FoundRest above) (c.resume g o) a s
  FoundRest (InLeft g r start ∷ above) o a s =
      FoundThen (right_of (beside_of above) start s.time) (λ p b v. FoundThen (beside_of above) (FoundRest above) (rejoin c g o p) b v) r a s
  FoundRest (InRight g o start mid ∷ above) p a s = FoundThen (beside_of above) (FoundRest above) (rejoin c g o p) a s

  abbrev FoundFrom : List (Above F O) → Tree F O → Words → Stamps → Type 0
  FoundFrom above t a s = FoundThen (beside_of above) (FoundRest above) t a s

  found_strand : (above : List (Above F O)) (f : F) (a : Words) (s m : Stamps) → Passes c (beside_of above) f a s → Marks c (beside_of above) f a s m
      → FoundFrom above (c.next f a) (c.after f a) m → FoundFrom above (Strand f) a s
  found_strand above f a s m passes marks (inl h) = inl (suc h.0, inr (m, passes, marks, h.1))
  found_strand above f a s m passes marks (inr h) = inr (
    h.0,
    with_counts (of_capsule c f a) h.1,
    (suc h.2.0, (m, passes, marks, h.2.1)),
    ((ends_by_parts c).strand f a _).1 (h.1, h.3, refl),
    h.4,
  )

  found_call : (above : List (Above F O)) (g : F) (t : Tree F O) (a : Words) (s : Stamps) → FoundFrom (InCallee g ∷ above) t a s
      → FoundFrom above (Call g t) a s
  found_call above g t a s (inl h) = inl (suc h.0, inl h.1)
  found_call above g t a s (inr h) = elim h.4 [
    | inl rest ↦
        let first = h.2.0 in
        let second = rest.0 in
        let le : first ≤ first + second = omega arith in
        let ge : second ≤ first + second = omega arith in
        inl (
          suc (first + second),
          inr (
            h.0,
            h.1,
            clean_within first (first + second) le (beside_of above) t a s h.0 h.2.1,
            h.3,
            found_within second (first + second) ge (beside_of above) (c.resume g h.1.outcome) h.1.words h.0 rest.1,
          ),
        )
    | inr rest ↦
        let first = h.2.0 in
        let second = rest.2.0 in
        let le : first ≤ first + second = omega arith in
        let ge : second ≤ first + second = omega arith in
        inr (
          rest.0,
          with_counts h.1.counts rest.1,
          (
            suc (first + second),
            (
              h.0,
              h.1,
              clean_within first (first + second) le (beside_of above) t a s h.0 h.2.1,
              h.3,
              clean_within second (first + second) ge (beside_of above) (c.resume g h.1.outcome) h.1.words h.0 rest.0 rest.2.1,
            ),
          ),
          call_ends c g t a h.1 rest.1 h.3 rest.3,
          rest.4,
        )
  ]

  found_fork : (above : List (Above F O)) (g : F) (l r : Tree F O) (a : Words) (s : Stamps) → FoundFrom (InLeft g r s.time ∷ above) l a s
      → FoundFrom above (Fork g l r) a s
  found_fork above g l r a s (inl h) = inl (suc h.0, inl h.1)
  found_fork above g l r a s (inr h) = elim h.4 [
    | inl right ↦
        let i = h.2.0 in
        let j = right.0 in
        let ie : i ≤ i + j = omega arith in
        let je : j ≤ i + j = omega arith in
        inl (
          suc (i + j),
          inr (inl (
            h.0,
            h.1,
            clean_within i (i + j) ie (beside_of above) l a s h.0 h.2.1,
            h.3,
            found_within j (i + j) je (right_of (beside_of above) s.time h.0.time) r h.1.words h.0 right.1,
          )),
        )
    | inr right ↦ elim right.4 [
      | inl rest ↦
          let i = h.2.0 in
          let j = right.2.0 in
          let k = rest.0 in
          let ie : i ≤ i + j + k = omega arith in
          let je : j ≤ i + j + k = omega arith in
          let ke : k ≤ i + j + k = omega arith in
          inl (
            suc (i + j + k),
            inr (inr (
              h.0,
              right.0,
              h.1,
              right.1,
              clean_within i (i + j + k) ie (beside_of above) l a s h.0 h.2.1,
              h.3,
              clean_within j (i + j + k) je (right_of (beside_of above) s.time h.0.time) r h.1.words h.0 right.0 right.2.1,
              right.3,
              found_within k (i + j + k) ke (beside_of above) (rejoin c g h.1.outcome right.1.outcome) right.1.words right.0 rest.1,
            )),
          )
      | inr rest ↦
          let i = h.2.0 in
          let j = right.2.0 in
          let k = rest.2.0 in
          let ie : i ≤ i + j + k = omega arith in
          let je : j ≤ i + j + k = omega arith in
          let ke : k ≤ i + j + k = omega arith in
          inr (
            rest.0,
            with_counts h.1.counts (with_counts right.1.counts rest.1),
            (
              suc (i + j + k),
              (
                h.0,
                right.0,
                h.1,
                right.1,
                clean_within i (i + j + k) ie (beside_of above) l a s h.0 h.2.1,
                h.3,
                clean_within j (i + j + k) je (right_of (beside_of above) s.time h.0.time) r h.1.words h.0 right.0 right.2.1,
                right.3,
                clean_within k (i + j + k) ke (beside_of above) (rejoin c g h.1.outcome right.1.outcome) right.1.words right.0 rest.0 rest.2.1,
              ),
            ),
            fork_ends c g l r a h.1 right.1 rest.1 h.3 right.3 rest.3,
            rest.4,
          )
    ]
  ]

  -- what has come to a moment finds something where what is left does
  pub found_back : {root : Tree F O} {input : Words} {above : List (Above F O)} {t : Tree F O} {a : Words} {s : Stamps} → Comes c root input above t a s
      → FoundFrom above t a s → FoundFrom [] root input fresh
  found_back Begins h = h
  found_back (Runs {above = above} {f = f} {a = a} {s = s} {m = m} come passes marks) h = found_back come (found_strand above f a s m passes marks h)
  found_back (Calls {above = above} {g = g} {t = t} {a = a} {s = s} come) h = found_back come (found_call above g t a s h)
  found_back (Forks {above = above} {g = g} {l = l} {r = r} {a = a} {s = s} come) h = found_back come (found_fork above g l r a s h)
  found_back (Returns {o = o} {a = a} {s = s} come) h = found_back come (inr (s, over_end o a, (1, refl), (1, refl), h))
  found_back (GoesRight {o = o} {a = a} {s = s} come) h = found_back come (inr (s, over_end o a, (1, refl), (1, refl), h))
  found_back (Joins {p = p} {a = a} {s = s} come) h = found_back come (inr (s, over_end p a, (1, refl), (1, refl), h))

  -- who stands beside the strand came before it
  pub beside_low : {root : Tree F O} {input : Words} {above : List (Above F O)} {t : Tree F O} {a : Words} {s : Stamps} → Comes c root input above t a s
      → (k : ℕ) → beside_of above k ≡ true → k < s.time
  beside_low Begins k h = absurd (cc)
  beside_low (Runs {s = s} {m = m} come passes marks) k h =
      let less = beside_low come k h in let next = marks.time in omega (arith, less, next)
  beside_low (Calls come) k h = beside_low come k h
  beside_low (Forks come) k h = beside_low come k h
  beside_low (Returns come) k h = beside_low come k h
  beside_low (GoesRight {above = above} {start = start} {s = s} come) k h = elim (right_only (beside_of above) start s.time k h) [
    | inl y ↦ beside_low come k y
    | inr y ↦ y.1
  ]
  beside_low (Joins {above = above} {start = start} {mid = mid} come) k h = beside_low come k (right_more (beside_of above) start mid k h)
