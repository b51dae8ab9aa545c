-- Strands that come along one history make a run of all: between two deeds each of them goes on by itself, one after another.
use Rattle.std.proofs.Common.{◌≡◌, ℕ, zero, suc, ◌+◌, ◌≤◌, ◌<◌, ◌==◌, List, [], ◌∷◌, ◌⊎◌, inl, inr, refl, sym, ap, ◌∙◌, subst, arith}
use Rattle.std.proofs.Math.Path.{fun_ext}
use Rattle.std.proofs.lemmas.Bool.{cases_eq, cases_lt, cond-false, cond-true, eq-eqb, ne_eqb}
use Rattle.std.specs.Prelude.{Option, Some, None, length}
use Rattle.ppm_strands.specs.Strand.{Frame}
use Rattle.ppm_unseen.specs.Capsule.{Loads, Keeps, Reads, Changes, Ends}
use Rattle.ppm_unseen.specs.Run.{System, Deed, Changed, Forked, Finished, doer, State, NotYet, UnderWay, Waits, IsOver}
use Rattle.ppm_unseen.specs.Run.{count, numbered, begun_if_any, once_done, IsHistory}
use Rattle.ppm_unseen.specs.Run.{Comes, Begins, Others, Goes, Does, Unseen, Takes, Stores, Finds, Leaves, Opens, Joins, Faults, Seen, Alters, Splits, Finishes}
use Rattle.ppm_unseen.specs.Correct.{IsBetween, FaultsAreInvisible}
use Rattle.ppm_unseen.specs.Together.{with_strand, Together, Start, GoesUnseen, DoesOne, RunsAreHistories, EachRunHasOneWithout}
use Rattle.ppm_unseen.proofs.InvisibleLemmas.{faults_are_invisible}

-- of fewer frames there is none with a number past them
none_numbered : {A K : Type 0} (n : ℕ) (fs : List (Frame A K)) (i : ℕ) → n + length fs ≤ i → numbered n fs i ≡ None
none_numbered n [] i past = refl
none_numbered n (f ∷ fs) i past =
    cond-false (i == n) (Some f) (numbered (suc n) fs i) (ne_eqb i n (λ e. omega (arith, past, e)))
    ∙ none_numbered (suc n) fs i (omega (arith, past))

module _ {A K E O : Type 0} (s : System A K E O) where
  -- the strand that is changed is there, and the others stay
  with_at : (i : ℕ) (τ : State A K E) (σ : ℕ → State A K E) (j : ℕ) → j ≡ i → with_strand s i τ σ j ≡ τ
  with_at i τ σ j e = cond-true (j == i) τ (σ j) (eq-eqb j i e)

  with_else : (i : ℕ) (τ : State A K E) (σ : ℕ → State A K E) (j : ℕ) → (j ≡ i → ⊥) → with_strand s i τ σ j ≡ σ j
  with_else i τ σ j ne = cond-false (j == i) τ (σ j) (ne_eqb j i ne)

  -- a strand that is put where it is
  with_self : (i : ℕ) (τ : State A K E) (σ : ℕ → State A K E) → τ ≡ σ i → with_strand s i τ σ ≡ σ
  with_self i τ σ same = fun_ext (λ j. elim (cases_eq j i) [
    | inl is ↦ with_at i τ σ j is ∙ same ∙ ap σ (sym is)
    | inr isnt ↦ with_else i τ σ j isnt
  ])

  -- one that is put somewhere twice
  with_twice : (i : ℕ) (ρ τ : State A K E) (σ : ℕ → State A K E) → with_strand s i τ (with_strand s i ρ σ) ≡ with_strand s i τ σ
  with_twice i ρ τ σ = fun_ext (λ j. elim (cases_eq j i) [
    | inl is ↦ with_at i τ (with_strand s i ρ σ) j is ∙ sym (with_at i τ σ j is)
    | inr isnt ↦ with_else i τ (with_strand s i ρ σ) j isnt ∙ with_else i ρ σ j isnt ∙ sym (with_else i τ σ j isnt)
  ])

  -- who did it
  doer_of : {i : ℕ} {t : List (Deed A K O)} {σ τ : State A K E} {d : Deed A K O} → Seen s i t σ d τ → doer d ≡ i
  doer_of (Alters x g rest ne) = refl
  doer_of (Splits e fs g is) = refl
  doer_of (Finishes e outcome is) = refl

  -- the first n strands there, the others here
  abbrev mixed : ℕ → (there here : ℕ → State A K E) → ℕ → State A K E
  mixed zero there here = here
  mixed (suc n) there here = with_strand s n (there n) (mixed n there here)

  mixed_above : (n : ℕ) (there here : ℕ → State A K E) (j : ℕ) → n ≤ j → mixed n there here j ≡ here j
  mixed_above zero there here j le = refl
  mixed_above (suc n) there here j le =
      with_else n (there n) (mixed n there here) j (λ e. omega (arith, le, e)) ∙ mixed_above n there here j (omega (arith, le))

  mixed_below : (n : ℕ) (there here : ℕ → State A K E) (j : ℕ) → j < n → mixed n there here j ≡ there j
  mixed_below zero there here j lt = absurd (omega (arith, lt))
  mixed_below (suc n) there here j lt = elim (cases_eq j n) [
    | inl is ↦ with_at n (there n) (mixed n there here) j is ∙ ap there (sym is)
    | inr isnt ↦ with_else n (there n) (mixed n there here) j isnt ∙ mixed_below n there here j (omega (arith, lt, isnt))
  ]

  -- 1 where a strand is not forked yet
  abbrev asleep : State A K E → ℕ
  asleep NotYet = 1
  asleep (UnderWay k rest o) = 0
  asleep (Waits g n fs) = 0
  asleep IsOver = 0

  -- such a strand makes no step
  wakes : {faults : Type 0} {t : List (Deed A K O)} {σ τ : State A K E} → Unseen s faults t σ τ → asleep σ ≡ 0
  wakes (Takes x go) = refl
  wakes (Stores x v rest) = refl
  wakes (Finds x go) = refl
  wakes (Leaves x g rest same) = refl
  wakes (Opens e f is) = refl
  wakes (Joins g n fs os over) = refl
  wakes (Faults z o' kept) = refl

  acts : {i : ℕ} {t : List (Deed A K O)} {σ τ : State A K E} {d : Deed A K O} → Seen s i t σ d τ → asleep σ ≡ 0
  acts (Alters x g rest ne) = refl
  acts (Splits e fs g is) = refl
  acts (Finishes e outcome is) = refl

  -- strands do not get fewer
  count_before : (d : Deed A K O) (t : List (Deed A K O)) → count s t ≤ count s (d ∷ t)
  count_before (Changed who x v) t = omega arith
  count_before (Forked who fs) t = omega arith
  count_before (Finished who o) t = omega arith

  -- a strand that is not forked by the others' deed
  unforked : (i : ℕ) (d : Deed A K O) (t : List (Deed A K O)) → count s (d ∷ t) ≤ i → once_done s i t d NotYet ≡ NotYet
  unforked i (Changed who x v) t past = refl
  unforked i (Forked who fs) t past = ap (λ (f : Option (Frame A K)). begun_if_any s f) (none_numbered (count s t) fs i past)
  unforked i (Finished who o) t past = refl

  module _ (faults : Type 0) where
    -- a strand with a number past all is not forked yet
    absent : (i : ℕ) {t : List (Deed A K O)} {σ : State A K E} → Comes s faults i t σ → count s t ≤ i → σ ≡ NotYet
    absent i Begins past = ap (λ (f : Option (Frame A K)). begun_if_any s f) (none_numbered 0 s.start i (omega (arith, past)))
    absent i (Others {t = t} d ne h) past =
        let fewer = count_before d t in
        ap (λ (ρ : State A K E). once_done s i t d ρ) (absent i h (omega (arith, fewer, past))) ∙ unforked i d t past
    absent i (Goes h u) past = let one : 0 ≡ 1 = sym (wakes u) ∙ ap asleep (absent i h past) in absurd (omega (arith, one))
    absent i (Does {t = t} {d = d} h u) past =
        let fewer = count_before d t in
        let one : 0 ≡ 1 = sym (acts u) ∙ ap asleep (absent i h (omega (arith, fewer, past))) in
        absurd (omega (arith, one))

    -- in a run each strand comes along its history
    pub comes_of : {t : List (Deed A K O)} {σ : ℕ → State A K E} → Together s faults t σ → (j : ℕ) → Comes s faults j t (σ j)
    comes_of Start j = Begins
    comes_of (GoesUnseen {t = t} {σ = σ} {τ = τ} i r u) j = elim (cases_eq j i) [
      | inl is ↦ subst (λ (ρ : State A K E). Comes s faults j t ρ) (sym (with_at i τ σ j is))
          (Goes (comes_of r j) (subst (λ (m : ℕ). Unseen s faults t (σ m) τ) (sym is) u))
      | inr isnt ↦ subst (λ (ρ : State A K E). Comes s faults j t ρ) (sym (with_else i τ σ j isnt)) (comes_of r j)
    ]
    comes_of (DoesOne {t = t} {σ = σ} {τ = τ} {d = d} i r u) j =
        let rest : ℕ → State A K E = λ m. once_done s m t d (σ m) in
        elim (cases_eq j i) [
          | inl is ↦ subst (λ (ρ : State A K E). Comes s faults j (d ∷ t) ρ) (sym (with_at i τ rest j is))
              (Does (comes_of r j) (subst (λ (m : ℕ). Seen s m t (σ m) d τ) (sym is) u))
          | inr isnt ↦ subst (λ (ρ : State A K E). Comes s faults j (d ∷ t) ρ) (sym (with_else i τ rest j isnt))
              (Others d (λ e. isnt (sym e ∙ doer_of u)) (comes_of r j))
        ]

    -- any number of steps that the others do not see
    data Silently (t : List (Deed A K O)) : State A K E → State A K E → Type 0 where
      Stays : {σ : State A K E} → Silently t σ σ
      More : {ρ σ τ : State A K E} → Silently t ρ σ → Unseen s faults t σ τ → Silently t ρ τ

    -- one strand makes such steps
    goes_on : {t : List (Deed A K O)} (i : ℕ) (σ : ℕ → State A K E) {ρ τ : State A K E} → Together s faults t σ → Silently t ρ τ → ρ ≡ σ i
        → Together s faults t (with_strand s i τ σ)
    goes_on {t = t} i σ {τ = τ} r Stays same = subst (λ (φ : ℕ → State A K E). Together s faults t φ) (sym (with_self i τ σ same)) r
    goes_on {t = t} i σ r (More {σ = φ} {τ = τ} h u) same =
        let one : Together s faults t (with_strand s i φ σ) = goes_on i σ r h same in
        subst (λ (ψ : ℕ → State A K E). Together s faults t ψ) (with_twice i φ τ σ)
        (GoesUnseen i one (subst (λ (ρ : State A K E). Unseen s faults t ρ τ) (sym (with_at i φ σ i refl)) u))

    -- the first n do, one after another
    all_go_on : {t : List (Deed A K O)} (n : ℕ) (there here : ℕ → State A K E) → Together s faults t here
        → ((i : ℕ) → Silently t (here i) (there i)) → Together s faults t (mixed n there here)
    all_go_on zero there here r h = r
    all_go_on (suc n) there here r h =
        goes_on n (mixed n there here) (all_go_on n there here r h) (h n) (sym (mixed_above n there here n (omega arith)))

    -- where a strand is right after the last deed
    abbrev Lands : List (Deed A K O) → ℕ → State A K E → Type 0
    Lands [] i ρ = ρ ≡ begun_if_any s (numbered 0 s.start i)
    Lands (d ∷ t) i ρ = (σ : State A K E) × Comes s faults i t σ × (((doer d ≡ i → ⊥) × (ρ ≡ once_done s i t d σ)) ⊎ Seen s i t σ d ρ)

    lands : (i : ℕ) {t : List (Deed A K O)} {τ : State A K E} → Comes s faults i t τ → (ρ : State A K E) × Lands t i ρ × Silently t ρ τ
    lands i Begins = (_, refl, Stays)
    lands i (Others {σ = σ} d ne h) = (_, (σ, h, inl (ne, refl)), Stays)
    lands i (Goes h u) = let l = lands i h in (l.0, l.1, More l.2 u)
    lands i (Does {σ = σ} h u) = (_, (σ, h, inr u), Stays)

    -- it comes there
    landed : (t : List (Deed A K O)) (i : ℕ) (ρ : State A K E) → Lands t i ρ → Comes s faults i t ρ
    landed [] i ρ l = subst (λ (σ : State A K E). Comes s faults i [] σ) (sym l) Begins
    landed (d ∷ t) i ρ l = elim l.2 [
      | inl a ↦ subst (λ (σ : State A K E). Comes s faults i (d ∷ t) σ) (sym a.1) (Others d a.0 l.1)
      | inr u ↦ Does l.1 u
    ]

    -- from where they landed all strands go on
    finish : (t : List (Deed A K O)) (σ : ℕ → State A K E) (h : (i : ℕ) → Comes s faults i t (σ i)) → Together s faults t (λ i. (lands i (h i)).0)
        → Together s faults t σ
    finish t σ h r =
        let here : ℕ → State A K E = λ i. (lands i (h i)).0 in
        let same : (j : ℕ) → mixed (count s t) σ here j ≡ σ j = λ j. elim (cases_lt j (count s t)) [
          | inl lt ↦ mixed_below (count s t) σ here j lt
          | inr le ↦ mixed_above (count s t) σ here j le ∙ absent j (landed t j (here j) (lands j (h j)).1) le ∙ sym (absent j (h j) le)
        ] in
        subst (λ (φ : ℕ → State A K E). Together s faults t φ) (fun_ext same) (all_go_on (count s t) σ here r (λ i. (lands i (h i)).2))

    -- strands that have landed are those of a run
    run_to : (t : List (Deed A K O)) (ρ : ℕ → State A K E) → ((i : ℕ) → Lands t i (ρ i)) → Together s faults t ρ
    run_to [] ρ l = subst (λ (φ : ℕ → State A K E). Together s faults [] φ) (fun_ext (λ i. sym (l i))) Start
    run_to (d ∷ t) ρ l =
        let before : ℕ → State A K E = λ i. (l i).0 in
        let comes : (i : ℕ) → Comes s faults i t (before i) = λ i. (l i).1 in
        let r : Together s faults t before = finish t before comes (run_to t (λ i. (lands i (comes i)).0) (λ i. (lands i (comes i)).1)) in
        let own : Seen s (doer d) t (before (doer d)) d (ρ (doer d)) = elim (l (doer d)).2 [ inl a ↦ absurd (a.0 refl) | inr u ↦ u ] in
        let rest : ℕ → State A K E = λ j. once_done s j t d (before j) in
        let same : (j : ℕ) → with_strand s (doer d) (ρ (doer d)) rest j ≡ ρ j = λ j. elim (cases_eq j (doer d)) [
          | inl is ↦ with_at (doer d) (ρ (doer d)) rest j is ∙ ap ρ (sym is)
          | inr isnt ↦ with_else (doer d) (ρ (doer d)) rest j isnt ∙ elim (l j).2 [ inl a ↦ sym a.1 | inr u ↦ absurd (isnt (sym (doer_of u))) ]
        ] in
        subst (λ (φ : ℕ → State A K E). Together s faults (d ∷ t) φ) (fun_ext same) (DoesOne (doer d) r own)

    -- strands that come along one history are those of a run
    pub run_of : (t : List (Deed A K O)) (σ : ℕ → State A K E) → ((i : ℕ) → Comes s faults i t (σ i)) → Together s faults t σ
    run_of t σ h = finish t σ h (run_to t (λ i. (lands i (h i)).0) (λ i. (lands i (h i)).1))

    -- the law
    pub runs_are_histories : RunsAreHistories s faults
    runs_are_histories t σ = (λ r. comes_of r, λ h. run_of t σ h)

  -- whether a strand is in the middle of a capsule
  middle : (σ : State A K E) → IsBetween σ ⊎ (IsBetween σ → ⊥)
  middle NotYet = inl tt
  middle (UnderWay k (Loads x go) o) = inr (λ b. b)
  middle (UnderWay k (Keeps x v rest) o) = inr (λ b. b)
  middle (UnderWay k (Reads x go) o) = inr (λ b. b)
  middle (UnderWay k (Changes x g rest) o) = inr (λ b. b)
  middle (UnderWay k (Ends e) o) = inl tt
  middle (Waits g n fs) = inl tt
  middle IsOver = inl tt

  -- and the law of runs
  pub each_run_has_one_without : EachRunHasOneWithout s
  each_run_has_one_without ordered filled stands t σ r =
      let f : FaultsAreInvisible s = faults_are_invisible s ordered filled stands in
      let all : IsHistory s (Unit {0}) t = λ i. (σ i, comes_of (Unit {0}) r i) in
      let quiet : IsHistory s ⊥ t = (f.histories t).0 all in
      let pick : (i : ℕ) → (τ : State A K E) × Comes s ⊥ i t τ × (IsBetween (σ i) → τ ≡ σ i) = λ i. elim (middle (σ i)) [
        | inl b ↦ (σ i, f.strands t all i (σ i) b (comes_of (Unit {0}) r i), λ b'. refl)
        | inr n ↦ ((quiet i).0, (quiet i).1, λ b. absurd (n b))
      ] in
      (λ i. (pick i).0, run_of ⊥ t (λ i. (pick i).0) (λ i. (pick i).1), λ i. (pick i).2)
