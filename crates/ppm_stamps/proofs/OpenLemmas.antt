-- The forks that are open began one after another, so a stamp is in one left branch at most; and each was opened by the capsule before.
use Rattle.std.proofs.Common.{◌≡◌, ◌⊎◌, inl, inr, refl, sym, subst, ℕ, ◌≤◌, ◌<◌, List, [], ◌∷◌, true, arith}
use Rattle.std.proofs.lemmas.Bool.{cases_eq}
use Rattle.ppm_strands.specs.Tree.{Words, Tree, Fork, forks_in, Code}
use Rattle.ppm_strands.specs.Run.{joined}
use Rattle.ppm_stamps.specs.Stamps.{Stamps}
use Rattle.ppm_stamps.specs.Moments.{Above, InCallee, InLeft, InRight, beside_of, Comes, Begins, Runs, Calls, Forks, Returns, GoesRight, Joins}
use Rattle.ppm_stamps.specs.Moments.{IsOpen, IsInOneLeft, LeftsAreOne, IsPlain, Opened, ForksAreOpened}
use Rattle.ppm_stamps.proofs.CoverLemmas.{right_all, right_more, right_only}

module _ {F O : Type 0} where
  -- all branches that are open began, or ended, no later than at a stamp
  abbrev pub AreBelow : List (Above F O) → ℕ → Type 0
  AreBelow [] k = Unit {0}
  AreBelow (InCallee g ∷ above) k = AreBelow above k
  AreBelow (InLeft g r start ∷ above) k = (start ≤ k) × AreBelow above k
  AreBelow (InRight g o start mid ∷ above) k = (start ≤ k) × (mid ≤ k) × AreBelow above k

  -- each fork was opened after those outside of it, and after their left branches
  abbrev pub Ascends : List (Above F O) → Type 0
  Ascends [] = Unit {0}
  Ascends (InCallee g ∷ above) = Ascends above
  Ascends (InLeft g r start ∷ above) = AreBelow above start × Ascends above
  Ascends (InRight g o start mid ∷ above) = AreBelow above start × Ascends above

  -- a larger stamp is as good
  pub below_more : (above : List (Above F O)) (j k : ℕ) → j ≤ k → AreBelow above j → AreBelow above k
  below_more [] j k le h = tt
  below_more (InCallee g ∷ above) j k le h = below_more above j k le h
  below_more (InLeft g r start ∷ above) j k le h = let first = h.0 in (omega (arith, first, le), below_more above j k le h.1)
  below_more (InRight g o start mid ∷ above) j k le h =
      let first = h.0 in
      let second = h.1 in
      (omega (arith, first, le), omega (arith, second, le), below_more above j k le h.2)

  -- an open fork's left branch ended no later
  pub open_below : (above : List (Above F O)) (k s m : ℕ) → AreBelow above k → IsOpen s m above → m ≤ k
  open_below [] k s m below h = absurd h
  open_below (InCallee g ∷ above) k s m below h = open_below above k s m below h
  open_below (InLeft g r start ∷ above) k s m below h = open_below above k s m below.1 h
  open_below (InRight g o start mid ∷ above) k s m below h = elim h [
    | inl e ↦ let same = e.1 in let le = below.1 in omega (arith, same, le)
    | inr y ↦ open_below above k s m below.2 y
  ]

  -- who is in the left branch of an open fork stands beside
  pub open_beside : (above : List (Above F O)) (s m k : ℕ) → IsOpen s m above → s ≤ k → k < m → beside_of above k ≡ true
  open_beside [] s m k h from before = absurd h
  open_beside (InCallee g ∷ above) s m k h from before = open_beside above s m k h from before
  open_beside (InLeft g r start ∷ above) s m k h from before = open_beside above s m k h from before
  open_beside (InRight g o start mid ∷ above) s m k h from before = elim h [
    | inl e ↦
        let first = e.0 in
        let second = e.1 in
        right_all (beside_of above) start mid k (omega (arith, first, from)) (omega (arith, second, before))
    | inr y ↦ right_more (beside_of above) start mid k (open_beside above s m k y from before)
  ]

  -- one fork alone has the stamp
  in_one_left : (above : List (Above F O)) → Ascends above → (k : ℕ) → beside_of above k ≡ true → IsInOneLeft above k
  in_one_left [] are k h = absurd (cc)
  in_one_left (InCallee g ∷ above) are k h =
      let it = in_one_left above are k h in
      record { start = it.start; mid = it.mid; open_there = it.open_there; from = it.from; before = it.before; alone = it.alone }
  in_one_left (InLeft g r start ∷ above) are k h =
      let it = in_one_left above are.1 k h in
      record { start = it.start; mid = it.mid; open_there = it.open_there; from = it.from; before = it.before; alone = it.alone }
  in_one_left (InRight g o start mid ∷ above) are k h = elim (right_only (beside_of above) start mid k h) [
    | inl y ↦
        let it = in_one_left above are.1 k y in
        record {
          start = it.start;
          mid = it.mid;
          open_there = inr it.open_there;
          from = it.from;
          before = it.before;
          alone = λ s m there from before. elim there [
            | inl e ↦
                let same = e.0 in
                let out = open_below above start it.start it.mid are.0 it.open_there in
                let less = it.before in
                absurd (omega (arith, same, out, less, from))
            | inr z ↦ it.alone s m z from before
          ];
        }
    | inr y ↦ record {
      start = start;
      mid = mid;
      open_there = inl (refl, refl);
      from = y.0;
      before = y.1;
      alone = λ s m there from before. elim there [
        | inl e ↦ e
        | inr z ↦
            let out = open_below above start s m are.0 z in
            let since = y.0 in
            absurd (omega (arith, out, since, before))
      ];
    }
  ]

module _ {F O : Type 0} (c : Code F O) where
  pub ascends : {root : Tree F O} {input : Words} {above : List (Above F O)} {t : Tree F O} {a : Words} {s : Stamps} → Comes c root input above t a s
      → AreBelow above s.time × Ascends above
  ascends Begins = (tt, tt)
  ascends (Runs {above = above} {s = s} {m = m} come passes marks) =
      let it = ascends come in
      let next = marks.time in
      (below_more above s.time m.time (omega (arith, next)) it.0, it.1)
  ascends (Calls come) = ascends come
  ascends (Forks come) = let it = ascends come in ((omega arith, it.0), it)
  ascends (Returns come) = ascends come
  ascends (GoesRight come) = let it = ascends come in ((it.0.0, omega arith, it.0.1), it.1)
  ascends (Joins come) = let it = ascends come in (it.0.2, it.1.1)

  -- at each moment
  pub lefts_are_one : LeftsAreOne c
  lefts_are_one root input above t a s come k h = in_one_left above (ascends come).1 k h

module _ {F O : Type 0} (c : Code F O) (plain : IsPlain c) (root : Tree F O) (input : Words) where
  -- each open fork was opened by the capsule before its left branch, and a right branch that waits has no fork
  abbrev AreOpened : List (Above F O) → Type 0
  AreOpened [] = Unit {0}
  AreOpened (InCallee g ∷ above) = AreOpened above
  AreOpened (InLeft g r start ∷ above) = Opened c root input start × (forks_in r ≡ 0) × AreOpened above
  AreOpened (InRight g o start mid ∷ above) = Opened c root input start × AreOpened above

  -- a tree has no fork, or the last capsule has opened its one
  abbrev IsFresh : Tree F O → Stamps → Type 0
  IsFresh t s = (forks_in t ≡ 0) ⊎ ((forks_in t ≤ 1) × Opened c root input s.time)

  -- a fork is fresh alone, and its branches have none
  fork_fresh : (g : F) (l r : Tree F O) (s : Stamps) → IsFresh (Fork g l r) s → (forks_in l ≡ 0) × (forks_in r ≡ 0) × Opened c root input s.time
  fork_fresh g l r s (inl e) = absurd (omega (arith, e))
  fork_fresh g l r s (inr h) = let few = h.0 in (omega (arith, few), omega (arith, few), h.1)

  -- by induction on the moment
  opened : {above : List (Above F O)} {t : Tree F O} {a : Words} {s : Stamps} → forks_in root ≡ 0 → Comes c root input above t a s
      → IsFresh t s × AreOpened above
  opened none Begins = (inl none, tt)
  opened none (Runs {above = above} {f = f} {a = a} {s = s} {m = m} come passes marks) = (
    elim (cases_eq (forks_in (c.next f a)) 1) [
      | inl e ↦ inr (
        plain.next f a,
        record {
          number = s.time;
          moment = record { above = above; frame = f; words = a; stamps = s; come = come; time = refl };
          before = let next = marks.time in omega (arith, next);
          opens = e;
        },
      )
      | inr ne ↦ inl (no_fork (forks_in (c.next f a)) (plain.next f a) ne)
    ],
    (opened none come).1,
  )
    where
      no_fork : (n : ℕ) → n ≤ 1 → (n ≡ 1 → ⊥) → n ≡ 0
      no_fork n le ne = elim (cases_eq n 0) [ inl e ↦ e | inr other ↦ absurd (ne (one n le other)) ]
        where
          one : (n : ℕ) → n ≤ 1 → (n ≡ 0 → ⊥) → n ≡ 1
          one n le other = omega (arith, le, other)
  opened none (Calls come) = opened none come
  opened none (Forks {g = g} {l = l} {r = r} {s = s} come) =
      let it = opened none come in
      let parts = fork_fresh g l r s it.0 in
      (inl parts.0, (parts.2, parts.1, it.1))
  opened none (Returns {g = g} {o = o} come) = (inl (plain.resume g o), (opened none come).1)
  opened none (GoesRight come) = let it = (opened none come).1 in (inl it.1, (it.0, it.2))
  opened none (Joins {g = g} {o = o} {p = p} come) = (inl (plain.resume (c.kept g o) (joined c o p)), (opened none come).1.1)

  -- an open fork is one of them
  opened_there : (above : List (Above F O)) → AreOpened above → (start mid : ℕ) → IsOpen start mid above → Opened c root input start
  opened_there [] are start mid h = absurd h
  opened_there (InCallee g ∷ above) are start mid h = opened_there above are start mid h
  opened_there (InLeft g r s ∷ above) are start mid h = opened_there above are.2 start mid h
  opened_there (InRight g o s m ∷ above) are start mid h = elim h [
    | inl e ↦ subst (λ (k : ℕ). Opened c root input k) (sym e.0) are.0
    | inr y ↦ opened_there above are.1 start mid y
  ]

-- at each moment
pub forks_are_opened : {F O : Type 0} (c : Code F O) → IsPlain c → ForksAreOpened c
forks_are_opened c plain root input above t a s none come start mid there =
    opened_there c plain root input above (opened c plain root input none come).1 start mid there
