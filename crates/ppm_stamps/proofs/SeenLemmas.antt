-- At each moment the stamps show each earlier capsule that stands beside, now or later, on the words that it wrote and touched.
use Rattle.std.proofs.Common.{◌≡◌, ◌⊎◌, inl, inr, refl, ap, subst, subst₂, ◌∙◌, ℕ, ◌<◌, List, [], ◌∷◌, Bool, true, arith}
use Rattle.std.proofs.Common.{◌||◌, nat_le}
use Rattle.std.proofs.lemmas.Bool.{cases_Bool, both_ways, or_cases, le-leb, leb-true}
use Rattle.std.proofs.lemmas.Bool.{cases_lt}
use Rattle.ppm_strands.specs.Tree.{Words, Tree, Strand, Code, Has}
use Rattle.ppm_strands.specs.Calm.{touches}
use Rattle.ppm_strands.proofs.CalmLemmas.{has_or_not}
use Rattle.ppm_strands.proofs.PartsLemmas.{has_right}
use Rattle.ppm_stamps.specs.Stamps.{Stamps, right_of, Passes, Marks}
use Rattle.ppm_stamps.specs.Moments.{Above, InCallee, InLeft, InRight, beside_of, Moment}
use Rattle.ppm_stamps.specs.Moments.{Comes, Begins, Runs, Calls, Forks, Returns, GoesRight, Joins}
use Rattle.ppm_stamps.specs.Meetings.{NoneIsMissed}
use Rattle.ppm_stamps.proofs.CoverLemmas.{or_left, or_right, right_all, right_more, right_only}
use Rattle.ppm_stamps.proofs.MomentLemmas.{beside_low}
use Rattle.ppm_stamps.proofs.OneWayLemmas.{moments_are_one}
use Rattle.ppm_stamps.proofs.OpenLemmas.{AreBelow, Ascends, ascends, below_more}

-- what stands beside a fork, and all from a stamp on
abbrev since : (ℕ → Bool) → (start : ℕ) → ℕ → Bool
since beside start k = beside k || nat_le start k

module _ {F O : Type 0} (c : Code F O) (root : Tree F O) (input : Words) where
  -- who asks by q is shown each earlier capsule of which q holds
  record Sees (q : ℕ → Bool) (s : Stamps) : Type 0 where
    pub wrote : (k : ℕ) (m : Moment c root input k) (x : ℕ) → k < s.time → q k ≡ true → Has x (c.writes m.frame m.words) → q (s.wrote x) ≡ true
    pub touched : (k : ℕ) (m : Moment c root input k) (x : ℕ) → k < s.time → q k ≡ true → Has x (touches c m.frame m.words) → q (s.touched x) ≡ true

  -- the stamps show what each open fork asks for: of its left branch where the right one is under way, else of all since it was opened
  abbrev AreSeen : List (Above F O) → Stamps → Type 0
  AreSeen [] s = Unit {0}
  AreSeen (InCallee g ∷ above) s = AreSeen above s
  AreSeen (InLeft g r start ∷ above) s = Sees (since (beside_of above) start) s × AreSeen above s
  AreSeen (InRight g o start mid ∷ above) s = Sees (right_of (beside_of above) start mid) s × AreSeen above s

  -- then of all that stands beside
  sees_beside : (above : List (Above F O)) (s : Stamps) → AreSeen above s → Sees (beside_of above) s
  sees_beside [] s are = record { wrote = λ k m x low is h. absurd (cc); touched = λ k m x low is h. absurd (cc) }
  sees_beside (InCallee g ∷ above) s are = let it = sees_beside above s are in record { wrote = it.wrote; touched = it.touched }
  sees_beside (InLeft g r start ∷ above) s are = let it = sees_beside above s are.1 in record { wrote = it.wrote; touched = it.touched }
  sees_beside (InRight g o start mid ∷ above) s are = are.0

  -- two moments of one number do the same
  as_one : (sel : F → Words → List ℕ) (j k : ℕ) → j ≡ k → (m : Moment c root input j) (n : Moment c root input k) (x : ℕ)
      → Has x (sel m.frame m.words) → Has x (sel n.frame n.words)
  as_one sel j k e m n x h = subst (λ (i : ℕ). (p : Moment c root input i) → Has x (sel p.frame p.words)) e
      (λ p.
      let one = moments_are_one c root input j m p in
      subst₂ (λ (f : F) (a : Words). Has x (sel f a)) one.frame one.words h)
      n

  -- one more capsule is run
  module _ (above : List (Above F O)) (f : F) (a : Words) (s u : Stamps) (come : Comes c root input above (Strand f) a s)
      (passes : Passes c (beside_of above) f a s) (marks : Marks c (beside_of above) f a s u) where
    abbrev b : ℕ → Bool
    b = beside_of above

    abbrev now : Moment c root input s.time
    now = record { above = above; frame = f; words = a; stamps = s; come = come; time = refl }

    -- an earlier one, or this
    which : (k : ℕ) → k < u.time → (k < s.time) ⊎ (k ≡ s.time)
    which k low = elim (cases_lt k s.time) [
      | inl h ↦ inl h
      | inr h ↦ let time = marks.time in inr (omega (arith, h, low, time))
    ]

    -- who asks of more than what is beside, and of this capsule
    module _ (q : ℕ → Bool) (more : (k : ℕ) → b k ≡ true → q k ≡ true) (this : q s.time ≡ true) (sees : Sees q s) where
      more_wrote : (x : ℕ) → q (s.wrote x) ≡ true ⊎ Has x (c.writes f a) → q (u.wrote x) ≡ true
      more_wrote x h = elim (has_or_not x (c.writes f a)) [
        | inl y ↦ ap q (marks.wrote x y) ∙ this
        | inr n ↦ elim h [
          | inl y ↦ ap q (marks.unwritten x n) ∙ y
          | inr y ↦ absurd (n y)
        ]
      ]

      more_touched : (x : ℕ) → q (s.touched x) ≡ true ⊎ Has x (touches c f a) → q (u.touched x) ≡ true
      more_touched x h = elim (has_or_not x (touches c f a)) [
        | inl y ↦ elim (cases_Bool (b (s.touched x))) [
          | inl e ↦ ap q (marks.stays x y e) ∙ more (s.touched x) e
          | inr e ↦ ap q (marks.touched x y e) ∙ this
        ]
        | inr n ↦ elim h [
          | inl y ↦ ap q (marks.untouched x n) ∙ y
          | inr y ↦ absurd (n y)
        ]
      ]

      sees_more : Sees q u
      sees_more = record {
        wrote = λ k m x low is h. elim (which k low) [
          | inl less ↦ more_wrote x (inl (sees.wrote k m x less is h))
          | inr same ↦ more_wrote x (inr (as_one c.writes k s.time same m now x h))
        ];
        touched = λ k m x low is h. elim (which k low) [
          | inl less ↦ more_touched x (inl (sees.touched k m x less is h))
          | inr same ↦ more_touched x (inr (as_one (touches c) k s.time same m now x h))
        ];
      }

    -- who asks of no more than what is beside, and not of this capsule
    module _ (q : ℕ → Bool) (less : (k : ℕ) → q k ≡ true → b k ≡ true) (sees : Sees q s) where
      not_this : (k : ℕ) → k < u.time → q k ≡ true → k < s.time
      not_this k low is = beside_low c come k (less k is)

      inside_wrote : (x : ℕ) → q (s.wrote x) ≡ true → q (u.wrote x) ≡ true
      inside_wrote x h = elim (has_or_not x (c.writes f a)) [
        | inl y ↦ absurd (both_ways (b (s.wrote x)) (passes.unwritten x (has_right x (c.reads f a) (c.writes f a) y)) (less (s.wrote x) h))
        | inr n ↦ ap q (marks.unwritten x n) ∙ h
      ]

      inside_touched : (x : ℕ) → q (s.touched x) ≡ true → q (u.touched x) ≡ true
      inside_touched x h = elim (has_or_not x (touches c f a)) [
        | inl y ↦ ap q (marks.stays x y (less (s.touched x) h)) ∙ h
        | inr n ↦ ap q (marks.untouched x n) ∙ h
      ]

      sees_inside : Sees q u
      sees_inside = record {
        wrote = λ k m x low is h. inside_wrote x (sees.wrote k m x (not_this k low is) is h);
        touched = λ k m x low is h. inside_touched x (sees.touched k m x (not_this k low is) is h);
      }

    -- for all forks, from the innermost outward: what stands beside is of the outer ones, or later than all of these
    are_seen : (outer : List (Above F O)) → Ascends outer → AreBelow outer s.time → ((k : ℕ) → beside_of outer k ≡ true → b k ≡ true)
        → ((k : ℕ) → b k ≡ true → (beside_of outer k ≡ true) ⊎ AreBelow outer k) → AreSeen outer s → AreSeen outer u
    are_seen [] up below in_ out are = tt
    are_seen (InCallee g ∷ outer) up below in_ out are = are_seen outer up below in_ out are
    are_seen (InLeft g r start ∷ outer) up below in_ out are = (
      sees_more (since (beside_of outer) start)
          (λ k h. elim (out k h) [
            | inl y ↦ or_left (beside_of outer k) _ y
            | inr y ↦ or_right (beside_of outer k) _ (le-leb start k y.0)
          ])
          (or_right (beside_of outer s.time) _ (le-leb start s.time below.0)) are.0,
      are_seen outer up.1 below.1 in_ (λ k h. elim (out k h) [ inl y ↦ inl y | inr y ↦ inr y.1 ]) are.1,
    )
    are_seen (InRight g o start mid ∷ outer) up below in_ out are = (
      sees_inside (right_of (beside_of outer) start mid) in_ are.0,
      are_seen outer up.1 below.2 (λ k h. in_ k (right_more (beside_of outer) start mid k h))
          (λ k h. elim (out k h) [
            | inl y ↦ elim (right_only (beside_of outer) start mid k y) [
              | inl z ↦ inl z
              | inr z ↦ inr (below_more outer start k z.0 up.0)
            ]
            | inr y ↦ inr y.2
          ])
          are.1,
    )

  -- stamps are of capsules that were run
  low_stamps : {above : List (Above F O)} {t : Tree F O} {a : Words} {s : Stamps} → Comes c root input above t a s
      → (x : ℕ) → (s.wrote x < s.time) × (s.touched x < s.time)
  low_stamps Begins x = (omega arith, omega arith)
  low_stamps (Runs {above = above} {f = f} {a = a} {s = s} {m = m} come passes marks) x =
      let it = low_stamps come x in
      let time = marks.time in
      let wrote = it.0 in
      let touched = it.1 in (
        elim (has_or_not x (c.writes f a)) [
          | inl y ↦ let is = marks.wrote x y in omega (arith, is, time)
          | inr n ↦ let is = marks.unwritten x n in omega (arith, is, time, wrote)
        ],
        elim (has_or_not x (touches c f a)) [
          | inl y ↦ elim (cases_Bool (beside_of above (s.touched x))) [
            | inl e ↦ let is = marks.stays x y e in omega (arith, is, time, touched)
            | inr e ↦ let is = marks.touched x y e in omega (arith, is, time)
          ]
          | inr n ↦ let is = marks.untouched x n in omega (arith, is, time, touched)
        ],
      )
  low_stamps (Calls come) x = low_stamps come x
  low_stamps (Forks come) x = low_stamps come x
  low_stamps (Returns come) x = low_stamps come x
  low_stamps (GoesRight come) x = low_stamps come x
  low_stamps (Joins come) x = low_stamps come x

  -- a fork is opened: what was run before it and is asked of stands beside
  sees_since : (b : ℕ → Bool) (s : Stamps) → Sees b s → Sees (since b s.time) s
  sees_since b s it = record {
    wrote = λ k m x low is h. or_left (b (s.wrote x)) _ (it.wrote k m x low (before k low is) h);
    touched = λ k m x low is h. or_left (b (s.touched x)) _ (it.touched k m x low (before k low is) h);
  }
    where
      before : (k : ℕ) → k < s.time → since b s.time k ≡ true → b k ≡ true
      before k low is = elim (or_cases (b k) (nat_le s.time k) is) [
        | inl y ↦ y
        | inr y ↦ absurd (let le = leb-true s.time k y in omega (arith, le, low))
      ]

  -- its left branch is over: all of it was run, and stands beside
  sees_right : (b : ℕ → Bool) (start : ℕ) (s : Stamps) → ((x : ℕ) → (s.wrote x < s.time) × (s.touched x < s.time)) → Sees (since b start) s
      → Sees (right_of b start s.time) s
  sees_right b start s low_ it = record {
    wrote = λ k m x low is h. again (s.wrote x) (low_ x).0 (it.wrote k m x low (before k is) h);
    touched = λ k m x low is h. again (s.touched x) (low_ x).1 (it.touched k m x low (before k is) h);
  }
    where
      before : (k : ℕ) → right_of b start s.time k ≡ true → since b start k ≡ true
      before k is = elim (right_only b start s.time k is) [
        | inl y ↦ or_left (b k) _ y
        | inr y ↦ or_right (b k) _ (le-leb start k y.0)
      ]

      again : (k : ℕ) → k < s.time → since b start k ≡ true → right_of b start s.time k ≡ true
      again k low is = elim (or_cases (b k) (nat_le start k) is) [
        | inl y ↦ right_more b start s.time k y
        | inr y ↦ right_all b start s.time k (leb-true start k y) low
      ]

  -- at each moment
  seen : {above : List (Above F O)} {t : Tree F O} {a : Words} {s : Stamps} → Comes c root input above t a s → AreSeen above s
  seen Begins = tt
  seen (Runs {above = above} {f = f} {a = a} {s = s} {m = m} come passes marks) =
      let order = ascends c come in
      are_seen above f a s m come passes marks above order.1 order.0 (λ k h. h) (λ k h. inl h) (seen come)
  seen (Calls come) = seen come
  seen (Forks {above = above} {s = s} come) = let it = seen come in (sees_since (beside_of above) s (sees_beside above s it), it)
  seen (Returns come) = seen come
  seen (GoesRight {above = above} {start = start} {s = s} come) =
      let it = seen come in (sees_right (beside_of above) start s (low_stamps come) it.0, it.1)
  seen (Joins come) = (seen come).1

-- an earlier capsule beside the next one is seen
pub none_is_missed : {F O : Type 0} (c : Code F O) → NoneIsMissed c
none_is_missed c root input above f a s come number m beside x race =
    let it = sees_beside c root input above s (seen c root input come) in
    let low = beside_low c come number beside in
    elim race.writes [
      | inl h ↦ inl (race.other, it.wrote number m x low beside h)
      | inr h ↦ inr (h, it.touched number m x low beside race.one)
    ]
