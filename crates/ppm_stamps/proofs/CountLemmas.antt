-- A run that ends has as many capsules as have been run and are to come.
use Rattle.std.proofs.Common.{◌≡◌, refl, ap, ◌∙◌, subst, ℕ, ◌+◌, ◌≤◌, List, [], ◌∷◌, arith}
use Rattle.ppm_strands.specs.Tree.{Words, Tree, Strand, Call, Fork, Over, Code}
use Rattle.ppm_strands.specs.Run.{End, with_counts, rejoin, Ends}
use Rattle.ppm_strands.proofs.PartsLemmas.{ends_by_parts}
use Rattle.ppm_stamps.specs.Stamps.{Stamps}
use Rattle.ppm_stamps.specs.Moments.{Above, InCallee, InLeft, InRight, Comes, Begins, Runs, Calls, Forks, Returns, GoesRight, Joins}

module _ {F O : Type 0} (c : Code F O) where
  -- a tree ends, and what follows it, with so many capsules in all
  abbrev CountThen : (O → Words → ℕ → Type 0) → Tree F O → Words → ℕ → Type 0
  CountThen k t a n = (d : End O) × (m : ℕ) × Ends c t a d × k d.outcome d.words m × (n ≡ d.counts.capsules + m)

  abbrev CountRest : List (Above F O) → O → Words → ℕ → Type 0
  CountRest [] o a n = n ≡ 0
  CountRest (InCallee g ∷ above) o a n = CountThen (CountRest above) (c.resume g o) a n
  CountRest (InLeft g r start ∷ above) o a n = CountThen (λ p b m. CountThen (CountRest above) (rejoin c g o p) b m) r a n
  CountRest (InRight g o start mid ∷ above) p a n = CountThen (CountRest above) (rejoin c g o p) a n

  count_strand : (k : O → Words → ℕ → Type 0) (f : F) (a : Words) (n : ℕ) → CountThen k (Strand f) a n
      → (m : ℕ) × CountThen k (c.next f a) (c.after f a) m × (n ≡ 1 + m)
  count_strand k f a n h =
      let s = ((ends_by_parts c).strand f a h.0).0 h.2 in
      let caps = ap (λ (e : End O). e.counts.capsules) s.2 in
      let all = h.4 in (
        s.0.counts.capsules + h.1,
        (s.0, h.1, s.1, subst (λ (e : End O). k e.outcome e.words h.1) s.2 h.3, refl),
        omega (arith, caps, all),
      )

  count_call : (k : O → Words → ℕ → Type 0) (g : F) (t : Tree F O) (a : Words) (n : ℕ) → CountThen k (Call g t) a n
      → CountThen (λ o b m. CountThen k (c.resume g o) b m) t a n
  count_call k g t a n h =
      let s = ((ends_by_parts c).call g t a h.0).0 h.2 in
      let rest = s.2 in
      let caps = ap (λ (e : End O). e.counts.capsules) rest.2 in
      let all = h.4 in (
        s.0,
        rest.0.counts.capsules + h.1,
        s.1,
        (rest.0, h.1, rest.1, subst (λ (e : End O). k e.outcome e.words h.1) rest.2 h.3, refl),
        omega (arith, caps, all),
      )

  count_fork : (k : O → Words → ℕ → Type 0) (g : F) (l r : Tree F O) (a : Words) (n : ℕ) → CountThen k (Fork g l r) a n
      → CountThen (λ o b m. CountThen (λ p e i. CountThen k (rejoin c g o p) e i) r b m) l a n
  count_fork k g l r a n h =
      let s = ((ends_by_parts c).fork g l r a h.0).0 h.2 in
      let right = s.2.1 in
      let rest = right.2 in
      let first = ap (λ (e : End O). e.counts.capsules) s.2.2 in
      let second = ap (λ (e : End O). e.counts.capsules) rest.2 in
      let whole = s.2.2 ∙ ap (with_counts s.0.counts) rest.2 in
      let all = h.4 in (
        s.0,
        right.0.counts.capsules + (rest.0.counts.capsules + h.1),
        s.1,
        (
          right.0,
          rest.0.counts.capsules + h.1,
          right.1,
          (rest.0, h.1, rest.1, subst (λ (e : End O). k e.outcome e.words h.1) whole h.3, refl),
          refl,
        ),
        omega (arith, first, second, all),
      )

  count_over : (k : O → Words → ℕ → Type 0) (o : O) (a : Words) (n : ℕ) → CountThen k (Over o) a n → k o a n
  count_over k o a n h =
      let is = ((ends_by_parts c).over o a h.0).0 h.2 in
      let caps = ap (λ (e : End O). e.counts.capsules) is in
      let all = h.4 in
      let same : h.1 ≡ n = omega (arith, caps, all) in
      subst (λ (m : ℕ). k o a m) same (subst (λ (e : End O). k e.outcome e.words h.1) is h.3)

  -- what is to come at a moment
  pub to_come : {root : Tree F O} {input : Words} {above : List (Above F O)} {t : Tree F O} {a : Words} {s : Stamps} → Comes c root input above t a s
      → (e : End O) → Ends c root input e → (n : ℕ) × CountThen (CountRest above) t a n × (e.counts.capsules + 1 ≡ s.time + n)
  to_come Begins e ends = let all : e.counts.capsules + 1 ≡ 1 + e.counts.capsules = omega arith in
      (e.counts.capsules, (e, 0, ends, refl, omega arith), all)
  to_come (Runs {above = above} {f = f} {a = a} {s = s} {m = m} come passes marks) e ends =
      let h = to_come come e ends in
      let next = count_strand (CountRest above) f a h.0 h.1 in
      let time = marks.time in
      let one = next.2 in
      let all = h.2 in
      (next.0, next.1, omega (arith, time, one, all))
  to_come (Calls {above = above} {g = g} {t = t} {a = a} come) e ends =
      let h = to_come come e ends in (h.0, count_call (CountRest above) g t a h.0 h.1, h.2)
  to_come (Forks {above = above} {g = g} {l = l} {r = r} {a = a} come) e ends =
      let h = to_come come e ends in (h.0, count_fork (CountRest above) g l r a h.0 h.1, h.2)
  to_come (Returns {above = above} {g = g} {o = o} {a = a} come) e ends =
      let h = to_come come e ends in (h.0, count_over (CountRest (InCallee g ∷ above)) o a h.0 h.1, h.2)
  to_come (GoesRight {above = above} {g = g} {r = r} {start = start} {o = o} {a = a} come) e ends =
      let h = to_come come e ends in (h.0, count_over (CountRest (InLeft g r start ∷ above)) o a h.0 h.1, h.2)
  to_come (Joins {above = above} {g = g} {o = o} {p = p} {start = start} {mid = mid} {a = a} come) e ends =
      let h = to_come come e ends in (h.0, count_over (CountRest (InRight g o start mid ∷ above)) p a h.0 h.1, h.2)

  -- where a capsule is next, the end has as many as that
  pub one_more : {root : Tree F O} {input : Words} {above : List (Above F O)} {f : F} {a : Words} {s : Stamps} → Comes c root input above (Strand f) a s
      → (e : End O) → Ends c root input e → s.time ≤ e.counts.capsules
  one_more {above = above} {f = f} {a = a} come e ends =
      let h = to_come come e ends in
      let next = count_strand (CountRest above) f a h.0 h.1 in
      let one = next.2 in
      let all = h.2 in
      omega (arith, one, all)

  -- where all is over, the end has as many as were run
  pub no_more : {root : Tree F O} {input : Words} {o : O} {a : Words} {s : Stamps} → Comes c root input [] (Over o) a s
      → (e : End O) → Ends c root input e → e.counts.capsules + 1 ≡ s.time
  no_more {o = o} {a = a} come e ends =
      let h = to_come come e ends in
      let none : h.0 ≡ 0 = count_over (CountRest []) o a h.0 h.1 in
      let all = h.2 in
      omega (arith, none, all)
