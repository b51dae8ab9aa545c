-- Systems whose strands are over after one capsule: nothing is forked, and a strand changes words no more often than a path of its capsule does.
use Rattle.std.proofs.Common.{◌≡◌, ℕ, zero, suc, ◌+◌, ◌≤◌, ◌==◌, cond, List, [], ◌∷◌, inl, inr, refl, sym, ap, ◌∙◌, arith}
use Rattle.std.proofs.lemmas.Bool.{cases_eq, cond-false, cond-true, eq-eqb, ne_eqb}
use Rattle.std.specs.Prelude.{Option, Some, None}
use Rattle.ppm_strands.specs.Capsule.{Memory, In}
use Rattle.ppm_strands.specs.Strand.{Frame}
use Rattle.ppm_unseen.specs.Capsule.{Capsule, Loads, Keeps, Reads, Changes, Ends, Next, GoesOn, Forks, Closes}
use Rattle.ppm_unseen.specs.Run.{System, Deed, Changed, Forked, Finished, doer, State, NotYet, UnderWay, Waits, IsOver, Change}
use Rattle.ppm_unseen.specs.Run.{now, numbered, begun_if_any, once_done, passed, IsHistory}
use Rattle.ppm_unseen.specs.Run.{Comes, Begins, Others, Goes, Does, Takes, Stores, Finds, Leaves, Opens, Joins, Faults, Alters, Splits, Finishes}
use Rattle.ppm_unseen.specs.Calm.{places, WritesAreCalm}
use Rattle.ppm_unseen.proofs.InvisibleLemmas.{history_before}

-- no path makes more than n changes
abbrev pub HasAtMost : {A E : Type 0} → ℕ → Capsule A E → Type 0
HasAtMost n (Loads x go) = (v : ℕ) → HasAtMost n (go v)
HasAtMost n (Keeps x v rest) = HasAtMost n rest
HasAtMost n (Reads x go) = (v : ℕ) → HasAtMost n (go v)
HasAtMost zero (Changes x g rest) = ⊥
HasAtMost (suc n) (Changes x g rest) = HasAtMost n rest
HasAtMost n (Ends e) = Unit {0}

-- after one change there is one less to come
fewer : {A E : Type 0} (n : ℕ) (x : ℕ) (g : ℕ → ℕ) (rest : Capsule A E) → HasAtMost n (Changes x g rest) → (m : ℕ) × (n ≡ suc m) × HasAtMost m rest
fewer zero x g rest h = absurd h
fewer (suc n) x g rest h = (n, refl, h)

-- how many there are
abbrev how_many : List Change → ℕ
how_many [] = 0
how_many (k ∷ ks) = suc (how_many ks)

-- which of the three an end opens
abbrev pub way : {A K O : Type 0} → Next A K O → ℕ
way (GoesOn f) = 0
way (Forks fs g) = 1
way (Closes o) = 2

module _ {A K O : Type 0} where
  -- how often strand i changes a word
  abbrev pub changes_by : ℕ → List (Deed A K O) → ℕ
  changes_by i [] = 0
  changes_by i (Changed who x v ∷ t) = cond (who == i) (suc (changes_by i t)) (changes_by i t)
  changes_by i (Forked who fs ∷ t) = changes_by i t
  changes_by i (Finished who o ∷ t) = changes_by i t

  -- what others do does not count
  not_counted : (i : ℕ) (d : Deed A K O) (t : List (Deed A K O)) → (doer d ≡ i → ⊥) → changes_by i (d ∷ t) ≡ changes_by i t
  not_counted i (Changed who x v) t ne = cond-false (who == i) (suc (changes_by i t)) (changes_by i t) (ne_eqb who i ne)
  not_counted i (Forked who fs) t ne = refl
  not_counted i (Finished who o) t ne = refl

  -- a change of one's own does
  counted : (i x v : ℕ) (t : List (Deed A K O)) → changes_by i (Changed i x v ∷ t) ≡ suc (changes_by i t)
  counted i x v t = cond-true (i == i) (suc (changes_by i t)) (changes_by i t) (eq-eqb i i refl)

  -- nothing is forked
  abbrev HasNoFork : List (Deed A K O) → Type 0
  HasNoFork [] = Unit {0}
  HasNoFork (Changed who x v ∷ t) = HasNoFork t
  HasNoFork (Forked who fs ∷ t) = ⊥
  HasNoFork (Finished who o ∷ t) = HasNoFork t

  -- the last deed is no fork of i
  abbrev DidNotFork : ℕ → List (Deed A K O) → Type 0
  DidNotFork i [] = Unit {0}
  DidNotFork i (Changed who x v ∷ t) = Unit {0}
  DidNotFork i (Forked who fs ∷ t) = who ≡ i → ⊥
  DidNotFork i (Finished who o ∷ t) = Unit {0}

  -- it is another's
  did_not : (i : ℕ) (d : Deed A K O) (t : List (Deed A K O)) → (doer d ≡ i → ⊥) → DidNotFork i (d ∷ t)
  did_not i (Changed who x v) t ne = tt
  did_not i (Forked who fs) t ne = ne
  did_not i (Finished who o) t ne = tt

module _ {A K E O : Type 0} (s : System A K E O) (closes : (e : E) (o : Memory A) → (outcome : O) × (s.code.opens e o ≡ Closes outcome)) where
  -- an end opens nothing
  abbrev opens_nothing : (e : E) (o : Memory A) (n : Next A K O) → s.code.opens e o ≡ n → way n ≡ 2
  opens_nothing e o n is = ap way (sym is ∙ (closes e o).1)

  -- no strand forks
  forks_nothing : (i : ℕ) {t : List (Deed A K O)} {σ : State A K E} → Comes s ⊥ i t σ → DidNotFork i t
  forks_nothing i Begins = tt
  forks_nothing i (Others {t = t} d ne h) = did_not i d t ne
  forks_nothing i (Goes h (Takes x go)) = forks_nothing i h
  forks_nothing i (Goes h (Stores x v rest)) = forks_nothing i h
  forks_nothing i (Goes h (Finds x go)) = forks_nothing i h
  forks_nothing i (Does h (Alters x g rest ne)) = tt
  forks_nothing i (Goes h (Leaves x g rest same)) = forks_nothing i h
  forks_nothing i (Goes h (Opens e f is)) = forks_nothing i h
  forks_nothing i (Does h (Splits {o = o} e fs g is)) = let two : 1 ≡ 2 = opens_nothing e o (Forks fs g) is in omega (arith, two)
  forks_nothing i (Does h (Finishes e outcome is)) = tt
  forks_nothing i (Goes h (Joins g n fs os over)) = forks_nothing i h
  forks_nothing i (Goes h (Faults z o' kept)) = absurd z

  -- a history has no fork
  pub no_fork : (t : List (Deed A K O)) → IsHistory s ⊥ t → HasNoFork t
  no_fork [] all = tt
  no_fork (Changed who x v ∷ t) all = no_fork t (history_before s (Changed who x v) t all)
  no_fork (Forked who fs ∷ t) all = absurd (forks_nothing who (all who).1 refl)
  no_fork (Finished who o ∷ t) all = no_fork t (history_before s (Finished who o) t all)

  -- no path of a strand that is there at the beginning makes more than n changes
  abbrev pub Allows : ℕ → Option (Frame A K) → Type 0
  Allows n None = Unit {0}
  Allows n (Some f) = HasAtMost n (s.code.capsule f.point)

  -- no more than n changes are made or still to come
  abbrev Within : (n i : ℕ) → List (Deed A K O) → List Change → State A K E → Type 0
  Within n i t ks NotYet = (ks ≡ []) × (changes_by i t ≡ 0)
  Within n i t ks (UnderWay k rest o) = (m : ℕ) × HasAtMost m rest × (how_many ks + m ≤ n) × (changes_by i t + m ≤ n)
  Within n i t ks (Waits g j fs) = ⊥
  Within n i t ks IsOver = (ks ≡ []) × (changes_by i t ≤ n)

  -- at the beginning
  begins_within : (n i : ℕ) (f : Option (Frame A K)) → Allows n f → Within n i [] [] (begun_if_any s f)
  begins_within n i None h = (refl, refl)
  begins_within n i (Some f) h = (n, h, omega arith, omega arith)

  -- once others have done something
  within_once_done : (n i : ℕ) (d : Deed A K O) (t : List (Deed A K O)) (ks : List Change) (σ : State A K E) → (doer d ≡ i → ⊥) → HasNoFork (d ∷ t)
      → Within n i t ks σ → Within n i (d ∷ t) ks (once_done s i t d σ)
  within_once_done n i (Changed who x v) t ks NotYet ne none w = (w.0, not_counted i (Changed who x v) t ne ∙ w.1)
  within_once_done n i (Forked who fs) t ks NotYet ne none w = absurd none
  within_once_done n i (Finished who o) t ks NotYet ne none w = w
  within_once_done n i d t ks (UnderWay k rest o) ne none w =
      let same = not_counted i d t ne in (w.0, w.1, w.2, omega (arith, same, w.3))
  within_once_done n i d t ks (Waits g j fs) ne none w = w
  within_once_done n i d t ks IsOver ne none w = let same = not_counted i d t ne in (w.0, omega (arith, same, w.1))

  -- a part of a history without forks
  no_fork_before : (d : Deed A K O) (t : List (Deed A K O)) → HasNoFork (d ∷ t) → HasNoFork t
  no_fork_before (Changed who x v) t none = none
  no_fork_before (Forked who fs) t none = absurd none
  no_fork_before (Finished who o) t none = none

  -- at each moment
  within : (n i : ℕ) → Allows n (numbered 0 s.start i) → {t : List (Deed A K O)} {σ : State A K E} (h : Comes s ⊥ i t σ) → HasNoFork t
      → Within n i t (passed h) σ
  within n i may Begins none = begins_within n i (numbered 0 s.start i) may
  within n i may (Others {t = t} {σ = σ} d ne h) none =
      within_once_done n i d t (passed h) σ ne none (within n i may h (no_fork_before d t none))
  within n i may (Goes h (Takes {o = o} x go)) none = let w = within n i may h none in (w.0, w.1 (o x), w.2, w.3)
  within n i may (Goes h (Stores x v rest)) none = within n i may h none
  within n i may (Goes {t = t} h (Finds x go)) none = let w = within n i may h none in (w.0, w.1 (now s t x), w.2, w.3)
  within n i may (Does {t = t} h (Alters x g rest ne)) none =
      let w = within n i may h none in
      let less = fewer w.0 x g rest w.1 in
      let one = counted i x (g (now s t x)) t in
      (less.0, less.2, omega (arith, less.1, w.2), omega (arith, less.1, one, w.3))
  within n i may (Goes h (Leaves x g rest same)) none =
      let w = within n i may h none in
      let less = fewer w.0 x g rest w.1 in
      (less.0, less.2, omega (arith, less.1, w.2), omega (arith, less.1, w.3))
  within n i may (Goes h (Opens {o = o} e f is)) none = let two : 0 ≡ 2 = opens_nothing e o (GoesOn f) is in absurd (omega (arith, two))
  within n i may (Does h (Splits {o = o} e fs g is)) none = let two : 1 ≡ 2 = opens_nothing e o (Forks fs g) is in absurd (omega (arith, two))
  within n i may (Does h (Finishes e outcome is)) none = let w = within n i may h none in (refl, omega (arith, w.3))
  within n i may (Goes h (Joins g j fs os over)) none = absurd (within n i may h none)
  within n i may (Goes h (Faults z o' kept)) none = absurd z

  -- no more changes are made, and no more asked for
  bound : (n i : ℕ) (t : List (Deed A K O)) (ks : List Change) (σ : State A K E) → Within n i t ks σ → (changes_by i t ≤ n) × (how_many ks ≤ n)
  bound n i t ks NotYet w = let none = ap how_many w.0 in (omega (arith, w.1), omega (arith, none))
  bound n i t ks (UnderWay k rest o) w = (omega (arith, w.3), omega (arith, w.2))
  bound n i t ks (Waits g j fs) w = absurd w
  bound n i t ks IsOver w = let none = ap how_many w.0 in (w.1, omega (arith, none))

  -- in a history a strand changes words no more often
  pub changes_within : (n i : ℕ) → Allows n (numbered 0 s.start i) → (t : List (Deed A K O)) → IsHistory s ⊥ t → changes_by i t ≤ n
  changes_within n i may t all = (bound n i t (passed (all i).1) (all i).0 (within n i may (all i).1 (no_fork t all))).0

  -- none of them is anywhere
  none_there : (x : ℕ) (ks : List Change) → how_many ks ≤ 0 → In x (places ks) → ⊥
  none_there x [] few i = i
  none_there x (k ∷ ks) few i = omega (arith, few)

  -- if all but one strand make no changes, writes are calm
  pub one_writer_is_calm : (j : ℕ) → ((i : ℕ) → (i ≡ j → ⊥) → Allows 0 (numbered 0 s.start i)) → WritesAreCalm s
  one_writer_is_calm j only i t σ h who x v ne all there = elim (cases_eq i j) [
    | inl is ↦
        let few = changes_within 0 who (only who (λ e. ne (e ∙ sym is))) (Changed who x v ∷ t) all in
        let one = counted who x v t in
        omega (arith, few, one)
    | inr isnt ↦
        none_there x (passed h) (bound 0 i t (passed h) σ (within 0 i (only i isnt) h (no_fork t (history_before s (Changed who x v) t all)))).1 there
  ]
