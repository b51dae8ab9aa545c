-- A place goes on with what a closed one was at, from which it inherits: that place is followed then, and the
-- places through which it was inherited. No place that was followed comes back.
use Rattle.std.proofs.Common.{◌≡◌, ◌≢◌, ◌⊎◌, ◌+◌, ◌++◌, ℕ, List, [], ◌∷◌, Bool, true, false, Option, Some, inl, inr, refl, sym, ap, ◌∙◌, subst, subst₂, arith, true≢false}
use Rattle.std.specs.Prelude.{slice_get}
use Rattle.ppm_cells.specs.Memory.{AreWordsOf}
use Rattle.ppm_cells.specs.declared.restart.Restart.{Restart as RestartOf}
use Rattle.ppm_cells.specs.declared.restart.RestartKind.{RestartKind}
use Rattle.ppm_cells.specs.declared.restart.RestartKind.TheVariants.{Run, Bump, Push1, Push2, Unwind, Arrive, Join, Check}
use Rattle.ppm_cells.specs.declared.shape.Shape.{Shape}
use Rattle.ppm_cells.specs.declared.shape.Takeover.TheVariants.{ByEntries}
use Rattle.ppm_code.specs.declared.code.CodeParts.{CodeParts}
use Rattle.ppm_step.specs.Standings.{Standing, IsWithin, IsDone}
use Rattle.ppm_step.specs.State.{State, stand_in, stand_of, acts, happens}
use Rattle.ppm_step.specs.declared.row.Row.{Row}
use Rattle.ppm_step.specs.declared.row.Row.TheVariants.{Now}
use Rattle.ppm_step.specs.declared.row.Seat.{Seat}
use Rattle.ppm_step.specs.declared.row.Then.TheVariants.{Install, Fork}
use Rattle.ppm_step.specs.declared.turn.Act.TheVariants.{Step}
use Rattle.ppm_step.specs.declared.turn.Turn.{Turn}
use Rattle.ppm_tickets.specs.Along.{by_install, by_act, IsOrderly}
use Rattle.ppm_tickets.specs.Heirs.{Inherits, GoesOnBy, HeirFollows, HeirsFollow, NoneComesBack, IsLawfulOn, followed_too}
use Rattle.ppm_tickets.specs.Homes.{Home, Unborn, Pushing, Begun}
use Rattle.ppm_tickets.specs.Lawful.{IsLocal, IsClaim, IsThief, IsHeir, IsTrail, Closed, Aims, Dooms, Steals, Counts}
use Rattle.ppm_tickets.specs.Renewal.{IsLawful}
use Rattle.ppm_tickets.specs.Saw.{Carried, Sees, Lawful}
use Rattle.ppm_tickets.specs.View.{view, kinds, bottoms}
use Rattle.ppm_tickets.specs.Words.{Word, Local, Spot, Message, Slot, put, has}
use Rattle.ppm_tickets.proofs.CountLemmas.{counts_move, counts_fork, has_or}
use Rattle.ppm_tickets.proofs.EffectLemmas.{IsPlain}
use Rattle.ppm_tickets.proofs.EstateLemmas.{After}
use Rattle.ppm_tickets.proofs.HeirLemmas.{Bare, Bears, Bares, plain_bare, heir_bare, push1_bears, push2_bears, push2_bare, marks, strands_on, forks_on, pushes_on}
use Rattle.ppm_tickets.proofs.StepLemmas.{open_, installing, unborn_or}
use Rattle.ppm_tickets.proofs.ActLemmas.{act_keeps}
use Rattle.ppm_tickets.proofs.Theorem.{all_rows}

local_is : (w : Word) → IsLocal w → (t : ℕ) × (y : ℕ) × (w ≡ Local t y)
local_is (Local t y) is = (t, y, refl)
local_is _ is = absurd is

module _ (s : Shape) (code : CodeParts) (words : List ℕ) (stand : List Standing) (h : ℕ → Home) (f tk : List ℕ) (fit : AreWordsOf s words) where
  abbrev m : Spot → Word
  m = view s words

  abbrev k : ℕ → RestartKind
  k = kinds s words

  abbrev b : ℕ → ℕ
  b = bottoms s words

  module _ (law : Lawful s m k b stand h f tk) (o : ℕ) (live : stand_in (slice_get stand o) ≢ IsDone) (p : ℕ) (carried : Carried s m o p) (x i : ℕ) (e : k p ≡ Check x i) (it : Inherits (Closed s.takeover m) m k b h law.board p) where
    abbrev w : ℕ
    w = it.place

    abbrev l : List ℕ
    l = it.through

    opened : Closed s.takeover m p → ⊥
    opened = open_ s code words stand h f tk fit law o live p carried

    -- what an heir has noted of the place
    said : (q y : ℕ) → IsHeir law.board.ghost m k b q y → (t : ℕ) × (z : ℕ) × (m (Message q) ≡ Local t z)
    said q y a =
        let is : m (Message q) ≡ law.board.ghost (Slot y a.slot) = (law.board.told q y a.slot a.tag a.thief a.taken).0 in
        elim (law.board.covers.slots y a.slot) [
          | inl same ↦ absurd (same.1 (subst IsClaim (sym a.taken) (omega arith)))
          | inr z ↦ let c = local_is _ z.local in (c.0, c.1, is ∙ c.2)
        ]

    first : (y : ℕ) (c : List ℕ) → IsTrail law.board.ghost m k b p (y ∷ c) → (t : ℕ) × (z : ℕ) × (m (Message p) ≡ Local t z)
    first y [] tr = said p y tr.0
    first y (v ∷ c) tr = first v c tr.1

    bare_all : (y : ℕ) (c : List ℕ) → IsTrail law.board.ghost m k b p (y ∷ c) → Bares law.board c
    bare_all y [] tr = λ z d. absurd (cc)
    bare_all y (v ∷ c) tr = λ z d. elim (has_or v z c d) [
      | inl same ↦ let a = said v y tr.0 in subst (Bare law.board) (sym same) (heir_bare law.board v y tr.0.slot a.0 a.1 tr.0.thief a.2)
      | inr old ↦ bare_all v c tr.1 z old
    ]

    own : (t : ℕ) × (z : ℕ) × (m (Message p) ≡ Local t z)
    own = first w l it.way

    bares : Bares law.board l
    bares = bare_all w l it.way

    abbrev Follows : RestartKind → (ℕ → Home) → List ℕ → List ℕ → Type 0
    Follows new h' f' tk' = After (marks law.board p opened (w ∷ l)) (Closed s.takeover m) m (put k p new) (put b p (b p)) h' × Counts h' f' tk'

    abbrev Result : RestartKind → Type 0
    Result new = Follows new (by_install p (Check x i) new h) f tk × Aims m new × Dooms m p new

    plainly : (new : RestartKind) → ((c d : ℕ) → IsThief new c d → ⊥) → IsPlain new → ((q : ℕ) → Steals law.board.ghost p new q → ⊥) → Aims m new → Dooms m p new → by_install p (Check x i) new h ≡ h → Bare law.board w → Result new
    plainly new free plain none aims dooms same bare = (
      (
        subst (λ (g : ℕ → Home). After (marks law.board p opened (w ∷ l)) (Closed s.takeover m) m (put k p new) (put b p (b p)) g) (sym same)
            (strands_on law.board p opened x i own.0 own.1 e own.2 new w l free plain none it.way bare bares),
        subst (λ (g : ℕ → Home). Counts g f tk) (sym same) law.counts,
      ),
      aims,
      dooms,
    )

    pushes : (r : ℕ) → Bears law.board w r → h r ≡ Pushing w → Result (Push1 r)
    pushes r bears was = (
      (
        pushes_on law.board p opened x i own.0 own.1 e own.2 r w l it.way was bears bares,
        counts_move h f tk r (Pushing p) law.counts (λ c. let d : Pushing w ≡ Unborn = sym was ∙ c in cc) (λ c. let d : Pushing w ≡ Begun = sym was ∙ c in cc) (λ c. cc) (λ c. cc),
      ),
      tt,
      tt,
    )

    by_kind : (K : RestartKind) → k w ≡ K → (new : RestartKind) → GoesOnBy (Closed s.takeover m) m k b h law.board p w K new → Result new
    by_kind (Run f2 y) is new g = subst Result (sym g) (plainly (Run f2 y) (λ c d th. elim th [ inl z ↦ absurd (cc) | inr z ↦ absurd (cc) ]) tt (λ q d. d) tt tt refl (plain_bare law.board w (Run f2 y) is tt (λ q d. d)))
    by_kind (Bump r) is new g = subst Result (sym g) (plainly (Run r 0) (λ c d th. elim th [ inl z ↦ absurd (cc) | inr z ↦ absurd (cc) ]) tt (λ q d. d) tt tt refl (plain_bare law.board w (Bump r) is tt (λ q d. d)))
    by_kind (Push1 r) is new g = subst Result (sym g.0) (pushes r (push1_bears law.board w r is) g.1)
    by_kind (Push2 r) is new (inl g) = subst Result (sym g.0) (pushes r (push2_bears law.board w r is) g.1)
    by_kind (Push2 r) is new (inr g) = subst Result (sym g.0) (plainly (Run (r + 5) 0) (λ c d th. elim th [ inl z ↦ absurd (cc) | inr z ↦ absurd (cc) ]) tt (λ q d. d) tt tt refl (push2_bare law.board w r is g.1))
    by_kind (Unwind f2) is new g = subst Result (sym g) (plainly (Unwind f2) (λ c d th. elim th [ inl z ↦ absurd (cc) | inr z ↦ absurd (cc) ]) tt (λ q d. d) tt tt refl (plain_bare law.board w (Unwind f2) is tt (λ q d. d)))
    by_kind (Arrive r y) is new g = subst Result (sym g) (plainly (Arrive r y) (λ c d th. elim th [ inl z ↦ absurd (cc) | inr z ↦ absurd (cc) ]) tt (λ q d. d) tt tt refl (plain_bare law.board w (Arrive r y) is tt (λ q d. d)))
    by_kind (Join r y) is new g = subst Result (sym g) (plainly (Join r y) (λ c d th. elim th [ inl z ↦ absurd (cc) | inr z ↦ absurd (cc) ]) tt (λ q d. d) tt tt refl (plain_bare law.board w (Join r y) is tt (λ q d. d)))
    by_kind _ is new g = absurd g

    forks : (r : ℕ) → k w ≡ Bump r → has f r ≡ false → Follows (Push1 r) (put h r (Pushing p)) (r ∷ f) tk
    forks r is fresh =
        let new : h r ≡ Unborn = elim (unborn_or s code (h r)) [ inl z ↦ z | inr ne ↦ absurd (true≢false (sym (law.counts.listed r ne) ∙ fresh)) ] in (
          forks_on law.board p opened x i own.0 own.1 e own.2 r w l it.way new (plain_bare law.board w (Bump r) is tt (λ q d. d)) bares,
          counts_fork h f tk r (Pushing p) law.counts new (λ c. cc) (λ c. cc),
        )

  done_not : (o : ℕ) (seat : Seat) (row : Row) → stand_in (slice_get stand o) ≡ IsWithin seat row → stand_in (slice_get stand o) ≢ IsDone
  done_not o seat row is = λ e. let two : IsWithin seat row ≡ IsDone = sym is ∙ e in cc

-- it goes on with it
module _ (s : Shape) (code : CodeParts) (state : State) (h : ℕ → Home) (f tk : List ℕ) (law : IsLawful s code state h f tk) (c u : ℕ) (seat : Seat) (x i : ℕ) (ke : seat.restart.kind ≡ Check x i) where
  abbrev p : ℕ
  p = seat.place

  abbrev mm : Spot → Word
  mm = view s state.words

  abbrev kk : ℕ → RestartKind
  kk = kinds s state.words

  abbrev bb : ℕ → ℕ
  bb = bottoms s state.words

  sees : (row : Row) → stand_of state c ≡ IsWithin seat row → Sees s mm kk bb c (IsWithin seat row)
  sees row at = subst (Sees s mm kk bb c) at (law.1.sees c)

  heir_by : (row : Row) → stand_of state c ≡ IsWithin seat row → HeirFollows s code state h f tk law c u seat row
  heir_by (Now (Install r)) at = λ it g low.
      let a = sees (Now (Install r)) at in
      let live = done_not s code state.words state.stand h f tk law.0 c seat (Now (Install r)) at in
      let z = by_kind s code state.words state.stand h f tk law.0 law.1 c live p a.0.carried x i (a.0.at.kind ∙ ke) it (kk it.place) refl r.kind g in
      let on : ℕ → Bool = followed_too s code state h f tk law (it.place ∷ it.through) in
      subst (λ (y : Standing). IsLawfulOn s code on (acts s code state c (Step u) y) (by_install p seat.restart.kind r.kind h) f tk) (sym at)
      (subst (λ (K : RestartKind). IsLawfulOn s code on (acts s code state c (Step u) (IsWithin seat (Now (Install r)))) (by_install p K r.kind h) f tk) (sym ke)
      (installing s code state.words state.stand h f tk law.0 law.1 c live p a.0.carried {g = on} r a.2 z.1 z.2 (by_install p (Check x i) r.kind h) f tk
      (subst (λ (y : ℕ). After on (Closed s.takeover mm) mm (put kk p r.kind) (put bb p y) (by_install p (Check x i) r.kind h)) (sym low) z.0.0) z.0.1).0)
  heir_by (Now (Fork r)) at = λ it is fresh.
      let a = sees (Now (Fork r)) at in
      let live = done_not s code state.words state.stand h f tk law.0 c seat (Now (Fork r)) at in
      let z = forks s code state.words state.stand h f tk law.0 law.1 c live p a.0.carried x i (a.0.at.kind ∙ ke) it r is fresh in
      let on : ℕ → Bool = followed_too s code state h f tk law (it.place ∷ it.through) in
      subst (λ (y : Standing). IsLawfulOn s code on (acts s code state c (Step u) y) (put h r (Pushing p)) (r ∷ f) tk) (sym at)
      (installing s code state.words state.stand h f tk law.0 law.1 c live p a.0.carried {g = on} (record { kind = Push1 r; bottom = seat.restart.bottom }) a.2 tt tt (put h r (Pushing p)) (r ∷ f) tk
      (subst (λ (y : ℕ). After on (Closed s.takeover mm) mm (put kk p (Push1 r)) (put bb p y) (put h r (Pushing p))) a.0.at.bottom z.0) z.1).0
  heir_by row at = tt

pub heirs_follow : (s : Shape) (code : CodeParts) → HeirsFollow s code
heirs_follow s code state h f tk law c u seat row x i at ke = heir_by s code state h f tk law c u seat x i ke row at

-- no place that was followed comes back
pub none_comes_back : (s : Shape) (code : CodeParts) → NoneComesBack s code
none_comes_back s code state h f tk law turn orderly = (act_keeps s code (all_rows s code) state.words state.stand h f tk law.0 law.1 turn.processor turn.act orderly).0
