-- A strand comes along moments in one way: to one state, with one list of changes that its capsule has asked for.
use Rattle.std.proofs.Common.{◌≡◌, ◌⊎◌, inl, inr, ℕ, suc, true, false, List, [], ◌∷◌, Option, Some, None, refl, sym, ap, ◌∙◌, subst}
use Rattle.ppm_strands.specs.Capsule.{Memory, store}
use Rattle.ppm_strands.specs.Strand.{Frame}
use Rattle.ppm_unseen.specs.Capsule.{Capsule as Racing, Loads as LoadsOwn, Keeps, Reads as ReadsWord, Changes, Ends as Stops, Next, GoesOn, Forks, Closes}
use Rattle.ppm_unseen.specs.Run.{System, Deed, State, NotYet, UnderWay, Waits, IsOver, HasFinished, HaveFinished, begun, begun_if_any, numbered, count, now}
use Rattle.ppm_unseen.specs.Run.{Changed as HasChanged, Forked as HasForked, Finished as IsFinished}
use Rattle.ppm_unseen.specs.Run.{Unseen, Takes, Stores, Finds, Leaves, Opens, Joins, Faults, Seen, Alters, Splits, Finishes}
use Rattle.ppm_unseen.specs.Run.{Comes, Goes as GoesUnseen, Does as DoesSeen, Asked, asked, nothing, change}
use Rattle.ppm_code.specs.Strands.{Result}
use Rattle.ppm_filled.specs.Racing.{OwnWord, Place, Exit}
use Rattle.ppm_interleaving.specs.declared.deed.Turn.{Turn}
use Rattle.ppm_interleaving.specs.declared.deed.Turn.TheVariants.{Step, Fault}
use Rattle.ppm_interleaving.specs.Turns.{Moment, deeds, with_deed, strand_of, is_storing, is_under_way, IsDoneBy, IsStill, once_seen}
use Rattle.ppm_interleaving.specs.Turns.{ComesBy, Begins, Others, Goes, Does, Passes, Fails, Spared, KeepsUpTo, Here, Before, Ready, AsItIs, AtEnd}
use Rattle.ppm_interleaving.specs.Turns.{came, made_ready, kept_up, with_faults}

-- where a strand is, and what its capsule has asked for
pub record Standing : Type 0 where
  pub state : State OwnWord Place Exit
  pub asks : Asked

abbrev pub standing : State OwnWord Place Exit → Asked → Standing
standing σ a = record { state = σ; asks = a }

-- what a turn comes to: the deed, and where the strand is then
pub record Outcome : Type 0 where
  pub deed : Option (Deed OwnWord Place Result)
  pub then_is : Standing

abbrev pub outcome : Option (Deed OwnWord Place Result) → State OwnWord Place Exit → Asked → Outcome
outcome d σ a = record { deed = d; then_is = standing σ a }

true_is_not_false : {X : Type 0} → true ≡ false → X
true_is_not_false e = cc

-- strands that are over so, of which each is over in one way
abbrev pub AreOverOnce : List (Deed OwnWord Place Result) → Type 0
AreOverOnce t = (i : ℕ) (o p : Result) → HasFinished i o t → HasFinished i p t → o ≡ p

one_outcome : (t : List (Deed OwnWord Place Result)) → AreOverOnce t → (n : ℕ) (fs : List (Frame OwnWord Place)) (os ps : List Result)
    → HaveFinished n fs os t → HaveFinished n fs ps t → os ≡ ps
one_outcome t once n [] [] [] left right = refl
one_outcome t once n [] [] (p ∷ ps) left right = absurd right
one_outcome t once n [] (o ∷ os) ps left right = absurd left
one_outcome t once n (f ∷ fs) [] ps left right = absurd left
one_outcome t once n (f ∷ fs) (o ∷ os) [] left right = absurd right
one_outcome t once n (f ∷ fs) (o ∷ os) (p ∷ ps) left right =
    λ i. once n o p left.0 right.0 i ∷ one_outcome t once (suc n) fs os ps left.1 right.1 i

module _ (s : System OwnWord Place Exit Result) where
  -- the stores of an end, by what is left of its capsule
  abbrev pub KeptIs : Racing OwnWord Exit → Memory OwnWord → Exit → Memory OwnWord → Type 0
  KeptIs (Stops d) o e p = (e ≡ d) × (p ≡ o)
  KeptIs (Keeps x v rest) o e p = KeptIs rest (store s.code.names o x v) e p
  KeptIs (LoadsOwn x go) o e p = ⊥
  KeptIs (ReadsWord x go) o e p = ⊥
  KeptIs (Changes x g rest) o e p = ⊥

  kept_is : {rest : Racing OwnWord Exit} {o p : Memory OwnWord} {e : Exit} → KeepsUpTo s rest o e p → KeptIs rest o e p
  kept_is (Here e o) = (refl, refl)
  kept_is (Before x v up) = kept_is up

  kept_once : (rest : Racing OwnWord Exit) (o p q : Memory OwnWord) (e d : Exit) → KeptIs rest o e p → KeptIs rest o d q → (e ≡ d) × (p ≡ q)
  kept_once (Stops c) o p q e d left right = (left.0 ∙ sym right.0, left.1 ∙ sym right.1)
  kept_once (Keeps x v rest) o p q e d left right = kept_once rest (store s.code.names o x v) p q e d left right
  kept_once (LoadsOwn x go) o p q e d left right = absurd left
  kept_once (ReadsWord x go) o p q e d left right = absurd left
  kept_once (Changes x g rest) o p q e d left right = absurd left

  -- what a turn begins with
  abbrev pub EndsIn : State OwnWord Place Exit → State OwnWord Place Exit → Type 0
  EndsIn (UnderWay k rest o) ρ = (e : Exit) × (p : Memory OwnWord) × KeptIs rest o e p × (ρ ≡ UnderWay k (Stops e) p)
  EndsIn σ ρ = ⊥

  abbrev pub ReadyIs : State OwnWord Place Exit → State OwnWord Place Exit → Type 0
  ReadyIs σ ρ = ((is_storing σ ≡ false) × (ρ ≡ σ)) ⊎ ((is_storing σ ≡ true) × EndsIn σ ρ)

  ready_is : {σ ρ : State OwnWord Place Exit} → Ready s σ ρ → ReadyIs σ ρ
  ready_is (AsItIs elsewhere) = inl (elsewhere, refl)
  ready_is (AtEnd {o = o} {p = p} {e = e} there up) = inr (there, (e, p, kept_is up, refl))

  end_once : (σ ρ τ : State OwnWord Place Exit) → EndsIn σ ρ → EndsIn σ τ → ρ ≡ τ
  end_once NotYet ρ τ left right = absurd left
  end_once (UnderWay k rest o) ρ τ left right =
      let same = kept_once rest o left.1 right.1 left.0 right.0 left.2 right.2 in
      left.3 ∙ (λ i. UnderWay k (Stops (same.0 i)) (same.1 i)) ∙ sym right.3
  end_once (Waits g n fs) ρ τ left right = absurd left
  end_once IsOver ρ τ left right = absurd left

  ready_once : (σ ρ τ : State OwnWord Place Exit) → ReadyIs σ ρ → ReadyIs σ τ → ρ ≡ τ
  ready_once σ ρ τ (inl left) (inl right) = left.1 ∙ sym right.1
  ready_once σ ρ τ (inl left) (inr right) = true_is_not_false (sym right.0 ∙ left.0)
  ready_once σ ρ τ (inr left) (inl right) = true_is_not_false (sym left.0 ∙ right.0)
  ready_once σ ρ τ (inr left) (inr right) = end_once σ ρ τ left.1 right.1

  -- what an end comes to, by what it opens
  abbrev pub OpensTo : (me : ℕ) → List (Deed OwnWord Place Result) → Next OwnWord Place Result → Outcome → Type 0
  OpensTo me t (GoesOn f) r = r ≡ outcome None (begun s f) nothing
  OpensTo me t (Forks fs g) r = r ≡ outcome (Some (HasForked me fs)) (Waits g (count s t) fs) nothing
  OpensTo me t (Closes result) r = r ≡ outcome (Some (IsFinished me result)) IsOver nothing

  -- what a step comes to, by where the strand is
  abbrev pub MovesTo : (me : ℕ) → List (Deed OwnWord Place Result) → State OwnWord Place Exit → Asked → Outcome → Type 0
  MovesTo me t NotYet a r = ⊥
  MovesTo me t IsOver a r = ⊥
  MovesTo me t (Waits g n fs) a r = (os : List Result) × HaveFinished n fs os t × (r ≡ outcome None (begun s (s.code.rejoin g os)) nothing)
  MovesTo me t (UnderWay k (LoadsOwn x go) o) a r = r ≡ outcome None (UnderWay k (go (o x)) o) a
  MovesTo me t (UnderWay k (Keeps x v rest) o) a r = r ≡ outcome None (UnderWay k rest (store s.code.names o x v)) a
  MovesTo me t (UnderWay k (ReadsWord x go) o) a r = r ≡ outcome None (UnderWay k (go (now s t x)) o) a
  MovesTo me t (UnderWay k (Changes x g rest) o) a r =
      ((g (now s t x) ≡ now s t x) × (r ≡ outcome None (UnderWay k rest o) (record { all = change x g ∷ a.all; settled = a.settled })))
      ⊎ ((g (now s t x) ≡ now s t x → ⊥) × (r ≡ outcome (Some (HasChanged me x (g (now s t x)))) (UnderWay k rest o)
      (record { all = change x g ∷ a.all; settled = change x g ∷ a.all })))
  MovesTo me t (UnderWay k (Stops e) o) a r = OpensTo me t (s.code.opens e o) r

  opens_once : (me : ℕ) (t : List (Deed OwnWord Place Result)) (n : Next OwnWord Place Result) (q r : Outcome) → OpensTo me t n q → OpensTo me t n r → q ≡ r
  opens_once me t (GoesOn f) q r left right = left ∙ sym right
  opens_once me t (Forks fs g) q r left right = left ∙ sym right
  opens_once me t (Closes result) q r left right = left ∙ sym right

  moves_once : (me : ℕ) (t : List (Deed OwnWord Place Result)) → AreOverOnce t → (σ : State OwnWord Place Exit) (a : Asked) (q r : Outcome)
      → MovesTo me t σ a q → MovesTo me t σ a r → q ≡ r
  moves_once me t once NotYet a q r left right = absurd left
  moves_once me t once IsOver a q r left right = absurd left
  moves_once me t once (Waits g n fs) a q r left right =
      left.2 ∙ ap (λ (os : List Result). outcome None (begun s (s.code.rejoin g os)) nothing) (one_outcome t once n fs left.0 right.0 left.1 right.1)
      ∙ sym right.2
  moves_once me t once (UnderWay k (LoadsOwn x go) o) a q r left right = left ∙ sym right
  moves_once me t once (UnderWay k (Keeps x v rest) o) a q r left right = left ∙ sym right
  moves_once me t once (UnderWay k (ReadsWord x go) o) a q r left right = left ∙ sym right
  moves_once me t once (UnderWay k (Changes x g rest) o) a q r (inl left) (inl right) = left.1 ∙ sym right.1
  moves_once me t once (UnderWay k (Changes x g rest) o) a q r (inl left) (inr right) = absurd (right.0 left.0)
  moves_once me t once (UnderWay k (Changes x g rest) o) a q r (inr left) (inl right) = absurd (left.0 right.0)
  moves_once me t once (UnderWay k (Changes x g rest) o) a q r (inr left) (inr right) = left.1 ∙ sym right.1
  moves_once me t once (UnderWay k (Stops e) o) a q r left right = opens_once me t (s.code.opens e o) q r left right

  -- a strand that makes a step isn't still
  no_move : (me : ℕ) (t : List (Deed OwnWord Place Result)) (σ : State OwnWord Place Exit) (a : Asked) (r : Outcome) → MovesTo me t σ a r → IsStill s t σ → ⊥
  no_move me t NotYet a r moves still = moves
  no_move me t (UnderWay k rest o) a r moves still = still
  no_move me t (Waits g n fs) a r moves still = still moves.0 moves.1
  no_move me t IsOver a r moves still = moves

  module _ (me : ℕ) where
    -- steps of the model move so
    moves_unseen : {t : List (Deed OwnWord Place Result)} {σ τ : State OwnWord Place Exit} (c : Comes s (Unit {0}) me t σ) (u : Unseen s ⊥ t σ τ)
        → MovesTo me t σ (asked c) (outcome None τ (asked (GoesUnseen c (with_faults s u))))
    moves_unseen c (Takes x go) = refl
    moves_unseen c (Stores x v rest) = refl
    moves_unseen c (Finds x go) = refl
    moves_unseen c (Leaves x g rest same) = inl (same, refl)
    moves_unseen {t = t} c (Opens e f is) = subst (λ n. OpensTo me t n (outcome None (begun s f) nothing)) (sym is) refl
    moves_unseen c (Joins g n fs os over) = (os, over, refl)
    moves_unseen c (Faults none o kept) = absurd none

    moves_seen : {t : List (Deed OwnWord Place Result)} {σ τ : State OwnWord Place Exit} {d : Deed OwnWord Place Result} (c : Comes s (Unit {0}) me t σ)
        (u : Seen s me t σ d τ) → MovesTo me t σ (asked c) (outcome (Some d) τ (asked (DoesSeen c u)))
    moves_seen c (Alters x g rest other) = inr (other, refl)
    moves_seen {t = t} c (Splits e fs g is) =
        subst (λ n. OpensTo me t n (outcome (Some (HasForked me fs)) (Waits g (count s t) fs) nothing)) (sym is) refl
    moves_seen {t = t} c (Finishes e result is) = subst (λ n. OpensTo me t n (outcome (Some (IsFinished me result)) IsOver nothing)) (sym is) refl

    -- stores of an end ask for nothing
    kept_asks : {t : List (Deed OwnWord Place Result)} {k : Place} {rest : Racing OwnWord Exit} {o p : Memory OwnWord} {e : Exit}
        (c : Comes s (Unit {0}) me t (UnderWay k rest o)) (up : KeepsUpTo s rest o e p) → asked (kept_up s c up) ≡ asked c
    kept_asks c (Here e o) = refl
    kept_asks c (Before x v up) = kept_asks (GoesUnseen c (Stores x v _)) up

    ready_asks : {t : List (Deed OwnWord Place Result)} {σ ρ : State OwnWord Place Exit} (c : Comes s (Unit {0}) me t σ) (r : Ready s σ ρ)
        → asked (made_ready s c r) ≡ asked c
    ready_asks c (AsItIs elsewhere) = refl
    ready_asks c (AtEnd there up) = kept_asks c up

    -- what a turn of the strand itself comes to: a step, or none; a fault, or it is spared
    abbrev pub Makes : List (Deed OwnWord Place Result) → Standing → Turn → Outcome → Type 0
    Makes t b (Step i) r = ((ρ : State OwnWord Place Exit) × ReadyIs b.state ρ × MovesTo me t ρ b.asks r)
        ⊎ (IsStill s t b.state × (r ≡ outcome None b.state b.asks))
    Makes t b (Fault i) r = ((k : Place) × (rest : Racing OwnWord Exit) × (o : Memory OwnWord) × (b.state ≡ UnderWay k rest o)
        × (r ≡ outcome None (UnderWay k (s.code.capsule k) o) nothing))
        ⊎ ((is_under_way b.state ≡ false) × (r ≡ outcome None b.state b.asks))

    still_ready : (t : List (Deed OwnWord Place Result)) (σ ρ : State OwnWord Place Exit) → ReadyIs σ ρ → IsStill s t σ → IsStill s t ρ
    still_ready t σ ρ (inl ready) still = subst (IsStill s t) (sym ready.1) still
    still_ready t NotYet ρ (inr ready) still = absurd ready.1
    still_ready t (UnderWay k rest o) ρ (inr ready) still = absurd still
    still_ready t (Waits g n fs) ρ (inr ready) still = absurd ready.1
    still_ready t IsOver ρ (inr ready) still = absurd ready.1

    abbrev place_or : Place → State OwnWord Place Exit → Place
    place_or k (UnderWay l rest o) = l
    place_or k NotYet = k
    place_or k (Waits g n fs) = k
    place_or k IsOver = k

    abbrev own_or : Memory OwnWord → State OwnWord Place Exit → Memory OwnWord
    own_or o (UnderWay l rest p) = p
    own_or o NotYet = o
    own_or o (Waits g n fs) = o
    own_or o IsOver = o

    pub makes_once : (t : List (Deed OwnWord Place Result)) → AreOverOnce t → (b : Standing) (turn : Turn) (q r : Outcome) → Makes t b turn q → Makes t b turn r → q ≡ r
    makes_once t once b (Step i) q r (inl left) (inl right) =
        moves_once me t once right.0 b.asks q r
        (subst (λ (ρ : State OwnWord Place Exit). MovesTo me t ρ b.asks q) (ready_once b.state left.0 right.0 left.1 right.1) left.2) right.2
    makes_once t once b (Step i) q r (inl left) (inr right) =
        absurd (no_move me t left.0 b.asks q left.2 (still_ready t b.state left.0 left.1 right.0))
    makes_once t once b (Step i) q r (inr left) (inl right) =
        absurd (no_move me t right.0 b.asks r right.2 (still_ready t b.state right.0 right.1 left.0))
    makes_once t once b (Step i) q r (inr left) (inr right) = left.1 ∙ sym right.1
    makes_once t once b (Fault i) q r (inl left) (inl right) =
        let same = sym left.3 ∙ right.3 in
        left.4 ∙ (λ j. outcome None (UnderWay (place_or left.0 (same j)) (s.code.capsule (place_or left.0 (same j))) (own_or left.2 (same j))) nothing) ∙ sym right.4
    makes_once t once b (Fault i) q r (inl left) (inr right) = true_is_not_false (ap is_under_way (sym left.3) ∙ right.0)
    makes_once t once b (Fault i) q r (inr left) (inl right) = true_is_not_false (ap is_under_way (sym right.3) ∙ left.0)
    makes_once t once b (Fault i) q r (inr left) (inr right) = left.1 ∙ sym right.1

    -- the last turn, of another strand or its own
    abbrev pub IsLast : Moment → List Moment → Standing → Standing → Type 0
    IsLast m h b e = ((strand_of m.turn ≡ me → ⊥) × (e ≡ standing (once_seen s me (deeds h) m.deed b.state) b.asks) × IsDoneBy (strand_of m.turn) m.deed)
        ⊎ ((strand_of m.turn ≡ me) × Makes (deeds h) b m.turn (outcome m.deed e.state e.asks))

    pub record Last (m : Moment) (h : List Moment) (e : Standing) : Type 0 where
      pub state : State OwnWord Place Exit
      pub comes : ComesBy s me h state
      pub turn : IsLast m h (standing state (asked (came s comes))) e

    -- how it comes along moments
    abbrev pub View : List Moment → Standing → Type 0
    View [] e = e ≡ standing (begun_if_any s (numbered 0 s.start me)) nothing
    View (m ∷ h) e = Last m h e

    pub view : {h : List Moment} {σ : State OwnWord Place Exit} (c : ComesBy s me h σ) → View h (standing σ (asked (came s c)))
    view Begins = refl
    view (Others {σ = σ} turn None other done c) = record { state = σ; comes = c; turn = inl (other, refl, done) }
    view (Others {σ = σ} turn (Some d) other done c) = record { state = σ; comes = c; turn = inl (other, refl, done) }
    view (Goes {h = h} {σ = σ} {ρ = ρ} {τ = τ} c ready step) = record {
      state = σ;
      comes = c;
      turn = inr (
        refl,
        inl (
          ρ,
          ready_is ready,
          subst (λ (a : Asked). MovesTo me (deeds h) ρ a (outcome None τ (asked (GoesUnseen (made_ready s (came s c) ready) (with_faults s step)))))
              (ready_asks (came s c) ready) (moves_unseen (made_ready s (came s c) ready) step),
        ),
      );
    }
    view (Does {h = h} {σ = σ} {ρ = ρ} {τ = τ} {d = d} c ready deed) = record {
      state = σ;
      comes = c;
      turn = inr (
        refl,
        inl (
          ρ,
          ready_is ready,
          subst (λ (a : Asked). MovesTo me (deeds h) ρ a (outcome (Some d) τ (asked (DoesSeen (made_ready s (came s c) ready) deed))))
              (ready_asks (came s c) ready) (moves_seen (made_ready s (came s c) ready) deed),
        ),
      );
    }
    view (Passes {σ = σ} c still) = record { state = σ; comes = c; turn = inr (refl, inr (still, refl)) }
    view (Fails {k = k} {rest = rest} {o = o} c) = record { state = UnderWay k rest o; comes = c; turn = inr (refl, inl (k, rest, o, refl, refl)) }
    view (Spared {σ = σ} c elsewhere) = record { state = σ; comes = c; turn = inr (refl, inr (elsewhere, refl)) }

    -- strands that are over once after a deed are so before it
    pub once_before : (m : Moment) (h : List Moment) → AreOverOnce (deeds (m ∷ h)) → AreOverOnce (deeds h)
    once_before m h once = by m.deed once
      where
        by : (d : Option (Deed OwnWord Place Result)) → AreOverOnce (with_deed d (deeds h)) → AreOverOnce (deeds h)
        by None once = once
        by (Some d) once = λ i o p left right. once i o p (inr left) (inr right)

    last_once : (m : Moment) (h : List Moment) → AreOverOnce (deeds h) → (b d e : Standing) → IsLast m h b d → IsLast m h b e → d ≡ e
    last_once m h once b d e (inl left) (inl right) = left.1 ∙ sym right.1
    last_once m h once b d e (inl left) (inr right) = absurd (left.0 right.0)
    last_once m h once b d e (inr left) (inl right) = absurd (right.0 left.0)
    last_once m h once b d e (inr left) (inr right) =
        ap (λ (r : Outcome). r.then_is)
        (makes_once (deeds h) once b m.turn (outcome m.deed d.state d.asks) (outcome m.deed e.state e.asks) left.1 right.1)

    -- it comes along moments to one state, and has asked for one list of changes
    pub comes_once : (h : List Moment) → AreOverOnce (deeds h) → (σ τ : State OwnWord Place Exit) (c : ComesBy s me h σ) (d : ComesBy s me h τ)
        → standing σ (asked (came s c)) ≡ standing τ (asked (came s d))
    comes_once [] once σ τ c d = view c ∙ sym (view d)
    comes_once (m ∷ h) once σ τ c d =
        let left = view c in
        let right = view d in
        let before = once_before m h once in
        let same = comes_once h before left.state right.state left.comes right.comes in
        last_once m h before (standing right.state (asked (came s right.comes))) (standing σ (asked (came s c))) (standing τ (asked (came s d)))
        (subst (λ (b : Standing). IsLast m h b (standing σ (asked (came s c)))) same left.turn) right.turn
