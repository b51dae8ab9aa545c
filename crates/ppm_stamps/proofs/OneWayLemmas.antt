-- A run with stamps goes one way: its moments are those of one function, so two of one number are one, and each earlier capsule met nothing.
use Rattle.std.proofs.Common.{◌≡◌, ◌⊎◌, inl, inr, refl, sym, ap, ◌∙◌, subst, ℕ, zero, suc, ◌+◌, ◌-◌, ◌≤◌, ◌<◌, cond, List, [], ◌∷◌, Bool, true, false, arith}
use Rattle.std.proofs.Math.Path.{fun_ext}
use Rattle.std.proofs.lemmas.Bool.{cases_eq, cases_lt}
use Rattle.ppm_strands.specs.Tree.{Words, Tree, Strand, Call, Fork, Over, Code, Has}
use Rattle.ppm_strands.specs.Run.{rejoin}
use Rattle.ppm_strands.specs.Calm.{touches}
use Rattle.ppm_strands.proofs.CalmLemmas.{has_or_not}
use Rattle.ppm_stamps.specs.Stamps.{Stamps, fresh, Passes, Marks}
use Rattle.ppm_stamps.specs.Moments.{Above, InCallee, InLeft, InRight, beside_of, Comes, Begins, Runs, Calls, Forks, Returns, GoesRight, Joins}
use Rattle.ppm_stamps.specs.Moments.{Moment, AreOne, MomentsAreOne, EarlierPass}

-- one of two, by whether something holds
abbrev choose : {P : Type 0} → P ⊎ (P → ⊥) → ℕ → ℕ → ℕ
choose (inl h) there other = there
choose (inr h) there other = other

-- paths of stamps are by their parts
stamps_path : {s u : Stamps} → s.time ≡ u.time → s.wrote ≡ u.wrote → s.touched ≡ u.touched → s ≡ u
stamps_path p q r = λ i. record { time = p i; wrote = q i; touched = r i }

-- all that a moment has
record State (F O : Type 0) : Type 0 where
  pub above : List (Above F O)
  pub tree : Tree F O
  pub words : Words
  pub stamps : Stamps

-- its parts
abbrev state : {F O : Type 0} → List (Above F O) → Tree F O → Words → Stamps → State F O
state above t a s = record { above = above; tree = t; words = a; stamps = s }

-- a tree is a strand
abbrev is_strand : {F O : Type 0} → Tree F O → Bool
is_strand (Strand f) = true
is_strand (Call g t) = false
is_strand (Fork g l r) = false
is_strand (Over o) = false

-- the frame of a strand
abbrev frame_in : {F O : Type 0} → F → Tree F O → F
frame_in d (Strand f) = f
frame_in d (Call g t) = d
frame_in d (Fork g l r) = d
frame_in d (Over o) = d

module _ {F O : Type 0} (c : Code F O) where
  -- the stamps after a capsule, computed
  abbrev marked : (ℕ → Bool) → F → Words → Stamps → Stamps
  marked beside f a s = record {
    time = suc s.time;
    wrote = λ x. choose (has_or_not x (c.writes f a)) s.time (s.wrote x);
    touched = λ x. choose (has_or_not x (touches c f a)) (cond (beside (s.touched x)) (s.touched x) s.time) (s.touched x);
  }

  -- marks are those
  are_marked : (beside : ℕ → Bool) (f : F) (a : Words) (s u : Stamps) → Marks c beside f a s u → u ≡ marked beside f a s
  are_marked beside f a s u marks = stamps_path marks.time
      (fun_ext (λ x. wrote_is x (has_or_not x (c.writes f a)))) (fun_ext (λ x. touched_is x (has_or_not x (touches c f a))))
    where
      wrote_is : (x : ℕ) (d : Has x (c.writes f a) ⊎ (Has x (c.writes f a) → ⊥)) → u.wrote x ≡ choose d s.time (s.wrote x)
      wrote_is x (inl h) = marks.wrote x h
      wrote_is x (inr h) = marks.unwritten x h

      stays_is : (x : ℕ) → Has x (touches c f a) → (b : Bool) → beside (s.touched x) ≡ b → u.touched x ≡ cond b (s.touched x) s.time
      stays_is x h true e = marks.stays x h e
      stays_is x h false e = marks.touched x h e

      touched_is : (x : ℕ) (d : Has x (touches c f a) ⊎ (Has x (touches c f a) → ⊥))
          → u.touched x ≡ choose d (cond (beside (s.touched x)) (s.touched x) s.time) (s.touched x)
      touched_is x (inl h) = stays_is x h (beside (s.touched x)) refl
      touched_is x (inr h) = marks.untouched x h

  -- what follows where a tree is over, and in general
  abbrev after_over : List (Above F O) → O → Words → Stamps → State F O
  after_over [] o a s = state [] (Over o) a s
  after_over (InCallee g ∷ above) o a s = state above (c.resume g o) a s
  after_over (InLeft g r start ∷ above) o a s = state (InRight g o start s.time ∷ above) r a s
  after_over (InRight g o start mid ∷ above) p a s = state above (rejoin c g o p) a s

  -- by the tree
  abbrev goes_on : List (Above F O) → Tree F O → Words → Stamps → State F O
  goes_on above (Strand f) a s = state above (c.next f a) (c.after f a) (marked (beside_of above) f a s)
  goes_on above (Call g t) a s = state (InCallee g ∷ above) t a s
  goes_on above (Fork g l r) a s = state (InLeft g r s.time ∷ above) l a s
  goes_on above (Over o) a s = after_over above o a s

  -- the next state
  abbrev next : State F O → State F O
  next m = goes_on m.above m.tree m.words m.stamps

  -- a capsule that is next meets nothing
  abbrev PassesAt : List (Above F O) → Tree F O → Words → Stamps → Type 0
  PassesAt above (Strand f) a s = Passes c (beside_of above) f a s
  PassesAt above (Call g t) a s = Unit {0}
  PassesAt above (Fork g l r) a s = Unit {0}
  PassesAt above (Over o) a s = Unit {0}

  -- of a state
  abbrev IsPassed : State F O → Type 0
  IsPassed m = PassesAt m.above m.tree m.words m.stamps

  -- time never falls, and rises at a strand
  over_time : (above : List (Above F O)) (o : O) (a : Words) (s : Stamps) → s.time ≤ (after_over above o a s).stamps.time
  over_time [] o a s = omega arith
  over_time (InCallee g ∷ above) o a s = omega arith
  over_time (InLeft g r start ∷ above) o a s = omega arith
  over_time (InRight g o start mid ∷ above) p a s = omega arith

  -- in general
  goes_time : (above : List (Above F O)) (t : Tree F O) (a : Words) (s : Stamps) → s.time ≤ (goes_on above t a s).stamps.time
  goes_time above (Strand f) a s = omega arith
  goes_time above (Call g t) a s = omega arith
  goes_time above (Fork g l r) a s = omega arith
  goes_time above (Over o) a s = over_time above o a s

  module _ (root : Tree F O) (input : Words) where
    -- the state after so many steps
    abbrev at : ℕ → State F O
    at zero = state [] root input fresh
    at (suc n) = next (at n)

    -- a moment is one of these, and no capsule met anything before
    record Reached (above : List (Above F O)) (t : Tree F O) (a : Words) (s : Stamps) : Type 0 where
      pub steps : ℕ
      pub same : at steps ≡ state above t a s
      pub passed : (i : ℕ) → i < steps → IsPassed (at i)

    -- one step more
    one_step : (above above' : List (Above F O)) (t t' : Tree F O) (a a' : Words) (s s' : Stamps) → Reached above t a s → PassesAt above t a s
        → goes_on above t a s ≡ state above' t' a' s' → Reached above' t' a' s'
    one_step above above' t t' a a' s s' it passes is = record {
      steps = suc it.steps;
      same = ap (λ (m : State F O). next m) it.same ∙ is;
      passed = λ i less. elim (cases_eq i it.steps) [
        | inl e ↦ subst (λ (m : State F O). IsPassed m) (sym (ap (λ (n : ℕ). at n) e ∙ it.same)) passes
        | inr ne ↦ it.passed i (few i less ne)
      ];
    }
      where
        few : (i : ℕ) → i < suc it.steps → (i ≡ it.steps → ⊥) → i < it.steps
        few i less ne = elim (cases_lt i it.steps) [ inl h ↦ h | inr h ↦ absurd (ne (omega (arith, h, less))) ]

    -- by induction on the moment
    reached : {above : List (Above F O)} {t : Tree F O} {a : Words} {s : Stamps} → Comes c root input above t a s → Reached above t a s
    reached Begins = record { steps = 0; same = refl; passed = λ i less. absurd (omega (arith, less)) }
    reached (Runs {above = above} {f = f} {a = a} {s = s} {m = m} come passes marks) =
        one_step above above (Strand f) (c.next f a) a (c.after f a) s m (reached come) passes
        (ap (λ (u : Stamps). state above (c.next f a) (c.after f a) u) (sym (are_marked (beside_of above) f a s m marks)))
    reached (Calls {above = above} {g = g} {t = t} {a = a} {s = s} come) =
        one_step above (InCallee g ∷ above) (Call g t) t a a s s (reached come) tt refl
    reached (Forks {above = above} {g = g} {l = l} {r = r} {a = a} {s = s} come) =
        one_step above (InLeft g r s.time ∷ above) (Fork g l r) l a a s s (reached come) tt refl
    reached (Returns {above = above} {g = g} {o = o} {a = a} {s = s} come) =
        one_step (InCallee g ∷ above) above (Over o) (c.resume g o) a a s s (reached come) tt refl
    reached (GoesRight {above = above} {g = g} {r = r} {start = start} {o = o} {a = a} {s = s} come) =
        one_step (InLeft g r start ∷ above) (InRight g o start s.time ∷ above) (Over o) r a a s s (reached come) tt refl
    reached (Joins {above = above} {g = g} {o = o} {p = p} {start = start} {mid = mid} {a = a} {s = s} come) =
        one_step (InRight g o start mid ∷ above) above (Over p) (rejoin c g o p) a a s s (reached come) tt refl

    -- over more steps
    later : (k n : ℕ) → (at n).stamps.time ≤ (at (k + n)).stamps.time
    later zero n = let e : 0 + n ≡ n = omega arith in subst (λ (i : ℕ). (at n).stamps.time ≤ (at i).stamps.time) (sym e) (omega arith)
    later (suc k) n =
        let e : suc k + n ≡ suc (k + n) = omega arith in
        let more = later k n in
        let one = goes_time (at (k + n)).above (at (k + n)).tree (at (k + n)).words (at (k + n)).stamps in
        subst (λ (i : ℕ). (at n).stamps.time ≤ (at i).stamps.time) (sym e) (omega (arith, more, one))

    -- what comes after a strand has a larger number
    after_strand : (above above' : List (Above F O)) (f : F) (t : Tree F O) (a a' : Words) (s s' : Stamps) (one : Reached above (Strand f) a s)
        (two : Reached above' t a' s') → one.steps < two.steps → s.time < s'.time
    after_strand above above' f t a a' s s' one two less =
        let k = two.steps - suc one.steps in
        let e : k + suc one.steps ≡ two.steps = omega (arith, less) in
        let on = later k (suc one.steps) in
        let now = ap (λ (z : State F O). (next z).stamps.time) one.same in
        let there = ap (λ (i : ℕ). (at i).stamps.time) e ∙ ap (λ (z : State F O). z.stamps.time) two.same in
        omega (arith, on, now, there)

    -- where all is over nothing more is run
    stays_over : (k n : ℕ) (o : O) (a : Words) (s : Stamps) → at n ≡ state [] (Over o) a s → at (k + n) ≡ state [] (Over o) a s
    stays_over zero n o a s is = let e : 0 + n ≡ n = omega arith in ap (λ (i : ℕ). at i) e ∙ is
    stays_over (suc k) n o a s is =
        let e : suc k + n ≡ suc (k + n) = omega arith in
        ap (λ (i : ℕ). at i) e ∙ ap (λ (z : State F O). next z) (stays_over k n o a s is)

    module _ (n m : ℕ) (p : Moment c root input n) (q : Moment c root input m) where
      rises : (reached p.come).steps < (reached q.come).steps → n < m
      rises less =
          let up = after_strand p.above q.above p.frame (Strand q.frame) p.words q.words p.stamps q.stamps (reached p.come) (reached q.come) less in
          let n_is = p.time in
          let m_is = q.time in
          omega (arith, up, n_is, m_is)

    module _ (n : ℕ) (p q : Moment c root input n) where
      same_steps : (reached p.come).steps ≡ (reached q.come).steps
      same_steps = elim (cases_lt (reached p.come).steps (reached q.come).steps) [
        | inl h ↦ absurd (let e = rises n n p q h in omega (arith, e))
        | inr h ↦ elim (cases_lt (reached q.come).steps (reached p.come).steps) [
          | inl k ↦ absurd (let e = rises n n q p k in omega (arith, e))
          | inr k ↦ omega (arith, h, k)
        ]
      ]

      -- both are one state
      one_state : state p.above (Strand p.frame) p.words p.stamps ≡ state q.above (Strand q.frame) q.words q.stamps
      one_state = sym (reached p.come).same ∙ ap (λ (i : ℕ). at i) same_steps ∙ (reached q.come).same

      -- part by part
      are_one : AreOne c root input n p q
      are_one = record {
        above = ap (λ (z : State F O). z.above) one_state;
        frame = ap (λ (z : State F O). frame_in p.frame z.tree) one_state;
        words = ap (λ (z : State F O). z.words) one_state;
        stamps = ap (λ (z : State F O). z.stamps) one_state;
      }

  -- two moments of one number are one
  pub moments_are_one : MomentsAreOne c
  moments_are_one root input n p q = are_one root input n p q

  -- the capsule of an earlier moment met nothing
  pub earlier_pass : EarlierPass c
  earlier_pass root input n m p q less =
      let one = reached root input p.come in
      let two = reached root input q.come in
      subst (λ (z : State F O). IsPassed z) one.same (two.passed one.steps (elim (cases_lt one.steps two.steps) [
        | inl h ↦ h
        | inr h ↦ absurd (elim (cases_lt two.steps one.steps) [
          | inl k ↦ let e = rises root input m n q p k in omega (arith, e, less)
          | inr k ↦
              let same : one.steps ≡ two.steps = omega (arith, h, k) in
              let state_is = ap (λ (z : State F O). z.stamps.time) (sym one.same ∙ ap (λ (i : ℕ). at root input i) same ∙ two.same) in
              let n_is = p.time in
              let m_is = q.time in
              omega (arith, state_is, n_is, m_is, less)
        ])
      ]))

  -- where all is over, each moment was before
  pub moments_before : (root : Tree F O) (input : Words) (o : O) (a : Words) (s : Stamps) → Comes c root input [] (Over o) a s
      → (n : ℕ) → Moment c root input n → n < s.time
  moments_before root input o a s come n p =
      let one = reached root input p.come in
      let two = reached root input come in
      let number = p.time in
      elim (cases_lt one.steps two.steps) [
        | inl h ↦
            let up = after_strand root input p.above [] p.frame (Over o) p.words a p.stamps s one two h in
            omega (arith, up, number)
        | inr h ↦ absurd (
            let e : (one.steps - two.steps) + two.steps ≡ one.steps = omega (arith, h) in
            let over = stays_over root input (one.steps - two.steps) two.steps o a s two.same in
            let same = ap (λ (z : State F O). is_strand z.tree) (sym over ∙ ap (λ (i : ℕ). at root input i) e ∙ one.same) in
            cc)
      ]
