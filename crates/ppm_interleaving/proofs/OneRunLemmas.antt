-- A schedule has one run: turn by turn it is the strand whose turn it is that determines the deed.
use Rattle.std.proofs.Common.{◌≡◌, inl, inr, ℕ, List, [], ◌∷◌, Option, Some, None, refl, sym, ap, ◌∙◌, subst}
use Rattle.ppm_strands.specs.Capsule.{Memory}
use Rattle.ppm_strands.specs.Strand.{Frame}
use Rattle.ppm_unseen.specs.Capsule.{Capsule as Racing, Loads as LoadsOwn, Keeps, Reads as ReadsWord, Changes, Ends as Stops, Next, GoesOn, Forks, Closes}
use Rattle.ppm_unseen.specs.Run.{System, Deed, State, NotYet, UnderWay, Waits, IsOver, HasFinished, Asked, asked}
use Rattle.ppm_unseen.specs.Run.{Changed as HasChanged, Forked as HasForked, Finished as IsFinished}
use Rattle.ppm_code.specs.Strands.{Result}
use Rattle.ppm_filled.specs.Racing.{OwnWord, Place, Exit}
use Rattle.ppm_interleaving.specs.declared.deed.Turn.{Turn}
use Rattle.ppm_interleaving.specs.declared.deed.Turn.TheVariants.{Step, Fault}
use Rattle.ppm_interleaving.specs.Turns.{Moment, turns, deeds, with_deed, strand_of, IsDoneBy, once_seen, ComesBy, came, IsRun, SchedulesHaveOneRun}
use Rattle.ppm_interleaving.proofs.OnceLemmas.{AreOverOnce, Outcome, outcome, Standing, standing, IsLast, Last, Makes, makes_once, MovesTo, OpensTo, ReadyIs, view, comes_once}

-- the outcome of a deed, if it closes a strand
abbrev outcome_or : Result → Deed OwnWord Place Result → Result
outcome_or other (HasChanged who x v) = other
outcome_or other (HasForked who fs) = other
outcome_or other (IsFinished who result) = result

-- a deed that closes a strand is no other one
abbrev closed : (i : ℕ) → Result → Option (Deed OwnWord Place Result)
closed i o = Some (IsFinished i o)

abbrev a_change : (who x v : ℕ) → Option (Deed OwnWord Place Result)
a_change who x v = Some (HasChanged who x v)

abbrev a_fork : (who : ℕ) → List (Frame OwnWord Place) → Option (Deed OwnWord Place Result)
a_fork who fs = Some (HasForked who fs)

no_deed : {X : Type 0} (d : Deed OwnWord Place Result) → Some d ≡ None → X
no_deed d e = cc

no_change : {X : Type 0} (i : ℕ) (o : Result) (who x v : ℕ) → closed i o ≡ a_change who x v → X
no_change i o who x v e = cc

no_fork : {X : Type 0} (i : ℕ) (o : Result) (who : ℕ) (fs : List (Frame OwnWord Place)) → closed i o ≡ a_fork who fs → X
no_fork i o who fs e = cc

over_is_not_under_way : {X : Type 0} (k : Place) (rest : Racing OwnWord Exit) (o : Memory OwnWord) → IsOver ≡ UnderWay k rest o → X
over_is_not_under_way k rest o e = cc

module _ (s : System OwnWord Place Exit Result) where
  -- a step that closes a strand leaves it over
  closes_over : (me : ℕ) (t : List (Deed OwnWord Place Result)) (ρ σ : State OwnWord Place Exit) (a b : Asked) (i : ℕ) (o : Result)
      → MovesTo s me t ρ a (outcome (closed i o) σ b) → σ ≡ IsOver
  closes_over me t NotYet σ a b i o moves = absurd moves
  closes_over me t IsOver σ a b i o moves = absurd moves
  closes_over me t (Waits g n fs) σ a b i o moves = no_deed (IsFinished i o) (ap (λ (r : Outcome). r.deed) moves.2)
  closes_over me t (UnderWay k (LoadsOwn x go) p) σ a b i o moves = no_deed (IsFinished i o) (ap (λ (r : Outcome). r.deed) moves)
  closes_over me t (UnderWay k (Keeps x v rest) p) σ a b i o moves = no_deed (IsFinished i o) (ap (λ (r : Outcome). r.deed) moves)
  closes_over me t (UnderWay k (ReadsWord x go) p) σ a b i o moves = no_deed (IsFinished i o) (ap (λ (r : Outcome). r.deed) moves)
  closes_over me t (UnderWay k (Changes x g rest) p) σ a b i o (inl moves) = no_deed (IsFinished i o) (ap (λ (r : Outcome). r.deed) moves.1)
  closes_over me t (UnderWay k (Changes x g rest) p) σ a b i o (inr moves) = no_change i o me x _ (ap (λ (r : Outcome). r.deed) moves.1)
  closes_over me t (UnderWay k (Stops e) p) σ a b i o moves = by (s.code.opens e p) moves
    where
      by : (n : Next OwnWord Place Result) → OpensTo s me t n (outcome (closed i o) σ b) → σ ≡ IsOver
      by (GoesOn f) opens = no_deed (IsFinished i o) (ap (λ (r : Outcome). r.deed) opens)
      by (Forks fs g) opens = no_fork i o me fs (ap (λ (r : Outcome). r.deed) opens)
      by (Closes result) opens = ap (λ (r : Outcome). r.then_is.state) opens

  module _ (me : ℕ) where
    -- one that is over makes no step
    stays_over : (t : List (Deed OwnWord Place Result)) (b : Standing) (turn : Turn) (r : Outcome) → b.state ≡ IsOver → Makes s me t b turn r
        → (r.deed ≡ None) × (r.then_is.state ≡ IsOver)
    stays_over t b (Step i) r over (inl makes) =
        absurd (by makes.0 (subst (λ (σ : State OwnWord Place Exit). ReadyIs s σ makes.0) over makes.1) makes.2)
      where
        by : (ρ : State OwnWord Place Exit) → ReadyIs s IsOver ρ → MovesTo s me t ρ b.asks r → ⊥
        by ρ (inl ready) moves = subst (λ (σ : State OwnWord Place Exit). MovesTo s me t σ b.asks r) ready.1 moves
        by ρ (inr ready) moves = ready.1
    stays_over t b (Step i) r over (inr makes) = (ap (λ (r : Outcome). r.deed) makes.1, ap (λ (r : Outcome). r.then_is.state) makes.1 ∙ over)
    stays_over t b (Fault i) r over (inl makes) = over_is_not_under_way makes.0 makes.1 makes.2 (sym over ∙ makes.3)
    stays_over t b (Fault i) r over (inr makes) = (ap (λ (r : Outcome). r.deed) makes.1, ap (λ (r : Outcome). r.then_is.state) makes.1 ∙ over)

    -- nor is it moved by others
    not_moved : (t : List (Deed OwnWord Place Result)) (d : Option (Deed OwnWord Place Result)) (σ : State OwnWord Place Exit) → σ ≡ IsOver
        → once_seen s me t d σ ≡ IsOver
    not_moved t None σ over = over
    not_moved t (Some d) σ over = subst (λ (ρ : State OwnWord Place Exit). once_seen s me t (Some d) ρ ≡ IsOver) (sym over) refl

    over_after : (m : Moment) (h : List Moment) (b e : Standing) → b.state ≡ IsOver → IsLast s me m h b e → e.state ≡ IsOver
    over_after m h b e over (inl other) = ap (λ (x : Standing). x.state) other.1 ∙ not_moved (deeds h) m.deed b.state over
    over_after m h b e over (inr own) = (stays_over (deeds h) b m.turn (outcome m.deed e.state e.asks) over own.1).1

    -- a strand that closed itself is over
    over_by : (m : Moment) (h : List Moment) (b e : Standing) (o : Result) → m.deed ≡ closed me o → IsLast s me m h b e → e.state ≡ IsOver
    over_by m h b e o is (inl other) = absurd (other.0 (sym (subst (IsDoneBy (strand_of m.turn)) is other.2)))
    over_by m h b e o is (inr own) = by m.turn (subst (λ d. Makes s me (deeds h) b m.turn (outcome d e.state e.asks)) is own.1)
      where
        by : (turn : Turn) → Makes s me (deeds h) b turn (outcome (closed me o) e.state e.asks) → e.state ≡ IsOver
        by (Step i) (inl makes) = closes_over me (deeds h) makes.0 e.state b.asks e.asks me o makes.2
        by (Step i) (inr makes) = no_deed (IsFinished me o) (ap (λ (r : Outcome). r.deed) makes.1)
        by (Fault i) (inl makes) = no_deed (IsFinished me o) (ap (λ (r : Outcome). r.deed) makes.4)
        by (Fault i) (inr makes) = no_deed (IsFinished me o) (ap (λ (r : Outcome). r.deed) makes.1)

    -- what is over is so by the last deed, or was so before
    data IsOverBy (m : Moment) (h : List Moment) (o : Result) : Type 0 where
      Now : m.deed ≡ closed me o → IsOverBy m h o
      Earlier : HasFinished me o (deeds h) → IsOverBy m h o

    over_when : (m : Moment) (h : List Moment) (o : Result) → HasFinished me o (deeds (m ∷ h)) → IsOverBy m h o
    over_when m h o over = by m.deed refl over
      where
        by : (d : Option (Deed OwnWord Place Result)) → m.deed ≡ d → HasFinished me o (with_deed d (deeds h)) → IsOverBy m h o
        by None is over = Earlier over
        by (Some d) is (inl now) = Now (is ∙ ap Some now)
        by (Some d) is (inr over) = Earlier over

    is_over : (h : List Moment) (σ : State OwnWord Place Exit) (c : ComesBy s me h σ) (o : Result) → HasFinished me o (deeds h) → σ ≡ IsOver
    is_over [] σ c o over = absurd over
    is_over (m ∷ h) σ c o over =
        let l = view s me c in
        by l (λ past. is_over h l.state l.comes o past) (over_when m h o over)
      where
        by : (l : Last s me m h (standing σ (asked (came s c)))) → (HasFinished me o (deeds h) → l.state ≡ IsOver) → IsOverBy m h o → σ ≡ IsOver
        by l before (Now is) = over_by m h (standing l.state (asked (came s l.comes))) (standing σ (asked (came s c))) o is l.turn
        by l before (Earlier past) = over_after m h (standing l.state (asked (came s l.comes))) (standing σ (asked (came s c))) (before past) l.turn

    -- a strand that is over closes nothing more
    no_more : (m : Moment) (h : List Moment) (b e : Standing) (o : Result) → b.state ≡ IsOver → m.deed ≡ closed me o → IsLast s me m h b e → ⊥
    no_more m h b e o over is (inl other) = other.0 (sym (subst (IsDoneBy (strand_of m.turn)) is other.2))
    no_more m h b e o over is (inr own) =
        no_deed (IsFinished me o) (sym is ∙ (stays_over (deeds h) b m.turn (outcome m.deed e.state e.asks) over own.1).0)

    same_result : (d : Option (Deed OwnWord Place Result)) (o p : Result) → d ≡ closed me o → d ≡ closed me p → o ≡ p
    same_result d o p left right = ap by (sym left ∙ right)
      where
        by : Option (Deed OwnWord Place Result) → Result
        by None = o
        by (Some d) = outcome_or o d

    one_end : (h : List Moment) (σ : State OwnWord Place Exit) (c : ComesBy s me h σ) (o p : Result) → HasFinished me o (deeds h) → HasFinished me p (deeds h)
        → o ≡ p
    one_end [] σ c o p left right = absurd left
    one_end (m ∷ h) σ c o p left right =
        let l = view s me c in
        by l (λ l' r'. one_end h l.state l.comes o p l' r') (over_when m h o left) (over_when m h p right)
      where
        by : (v : Last s me m h (standing σ (asked (came s c)))) → (HasFinished me o (deeds h) → HasFinished me p (deeds h) → o ≡ p)
            → IsOverBy m h o → IsOverBy m h p → o ≡ p
        by v before (Now l) (Now r) = same_result m.deed o p l r
        by v before (Now l) (Earlier r) =
            absurd (no_more m h (standing v.state (asked (came s v.comes))) (standing σ (asked (came s c))) o (is_over h v.state v.comes p r) l v.turn)
        by v before (Earlier l) (Now r) =
            absurd (no_more m h (standing v.state (asked (came s v.comes))) (standing σ (asked (came s c))) p (is_over h v.state v.comes o l) r v.turn)
        by v before (Earlier l) (Earlier r) = before l r

    -- the deed of a strand's turn is one
    same_deed : (m n : Moment) (h : List Moment) (b d e : Standing) → AreOverOnce (deeds h) → m.turn ≡ n.turn → strand_of m.turn ≡ me
        → IsLast s me m h b d → IsLast s me n h b e → m.deed ≡ n.deed
    same_deed m n h b d e once same mine (inl other) right = absurd (other.0 mine)
    same_deed m n h b d e once same mine (inr left) (inl other) = absurd (other.0 (ap strand_of (sym same) ∙ mine))
    same_deed m n h b d e once same mine (inr left) (inr right) =
        ap (λ (r : Outcome). r.deed) (makes_once s me (deeds h) once b m.turn (outcome m.deed d.state d.asks) (outcome n.deed e.state e.asks) left.1
        (subst (λ (t : Turn). Makes s me (deeds h) b t (outcome n.deed e.state e.asks)) (sym same) right.1))

  -- in a run each strand is over in one way, and a run without its last turn is one
  over_once : (h : List Moment) → IsRun s h → AreOverOnce (deeds h)
  over_once h run i o p left right = one_end i h (run i).0 (run i).1 o p left right

  run_before : (m : Moment) (h : List Moment) → IsRun s (m ∷ h) → IsRun s h
  run_before m h run i = let l = view s i (run i).1 in (l.state, l.comes)

  abbrev later_turns : List Turn → List Turn
  later_turns [] = []
  later_turns (u ∷ us) = us

  one_moment : (m n : Moment) (g h : List Moment) → g ≡ h → m.turn ≡ n.turn → IsRun s (m ∷ g) → IsRun s (n ∷ h) → m.deed ≡ n.deed
  one_moment m n g h same turn left right =
      let who = strand_of m.turn in
      let once = over_once g (run_before m g left) in
      let l = view s who (left who).1 in
      let there = subst (λ (k : List Moment). ComesBy s who (n ∷ k) (right who).0) (sym same) (right who).1 in
      let r = view s who there in
      let at = comes_once s who g once l.state r.state l.comes r.comes in
      same_deed who m n g (standing r.state (asked (came s r.comes))) (standing (left who).0 (asked (came s (left who).1)))
      (standing (right who).0 (asked (came s there))) once turn refl
      (subst (λ (b : Standing). IsLast s who m g b (standing (left who).0 (asked (came s (left who).1)))) at l.turn) r.turn

  one_run : (g h : List Moment) → turns g ≡ turns h → IsRun s g → IsRun s h → g ≡ h
  one_run [] [] same left right = refl
  one_run [] (n ∷ h) same left right = absurd (apart same)
    where
      apart : [] ≡ n.turn ∷ turns h → ⊥
      apart e = cc
  one_run (m ∷ g) [] same left right = absurd (apart same)
    where
      apart : m.turn ∷ turns g ≡ [] → ⊥
      apart e = cc
  one_run (m ∷ g) (n ∷ h) same left right =
      let rest = one_run g h (ap later_turns same) (run_before m g left) (run_before n h right) in
      let turn = same_turn same in
      let deed = one_moment m n g h rest turn left right in
      λ i. record { turn = turn i; deed = deed i } ∷ rest i
    where
      same_turn : m.turn ∷ turns g ≡ n.turn ∷ turns h → m.turn ≡ n.turn
      same_turn e = cc

  pub schedules_have_one_run : SchedulesHaveOneRun s
  schedules_have_one_run g h same left right =
      let one = one_run g h same left right in (
        one,
        λ i σ τ c d.
            let back = subst (λ (k : List Moment). ComesBy s i k τ) (sym one) d in
            ap (λ (e : Standing). e.state) (comes_once s i g (over_once g left) σ τ c back),
      )
