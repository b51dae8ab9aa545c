-- What a processor does at its place is what the frames see there; addresses of pools; and where the
-- homes of branches stand in the tree.
use Rattle.std.proofs.Common.{◌≡◌, ◌≢◌, ◌<◌, ℕ, ◌+◌, ◌&&◌, Bool, true, false, List, [], ◌∷◌, inl, inr, refl, sym, ap, ◌∙◌, subst, arith, true≢false}
use Rattle.std.specs.Prelude.{nat_lt, nat_le}
use Rattle.std.proofs.lemmas.Bool.{eq-eqb, eqb-true, ltb-true, leb-true, cases_Bool}
use Rattle.ppm_strands.specs.Tree.{Words, Tree}
use Rattle.ppm_cells.specs.Cells.{IsInPool, pool_at}
use Rattle.ppm_cells.specs.declared.cell.Cell.{Cell}
use Rattle.ppm_cells.specs.declared.cell.Cell.TheVariants.{FinishWord, CarryWord, DeadWord, RestartWord, MessageWord, HolderWord, Top, RoomCounter, EntryWord, BlockWord, ArrayWord}
use Rattle.ppm_cells.specs.declared.restart.RestartKind.{RestartKind}
use Rattle.ppm_cells.specs.declared.shape.Shape.{Shape}
use Rattle.ppm_strands.specs.Strand.{Frame}
use Rattle.ppm_code.specs.Strands.{Point, Result}
use Rattle.ppm_code.specs.declared.code.CodeParts.{CodeParts}
use Rattle.ppm_code.specs.declared.location.FrameWord.{FrameWord}
use Rattle.ppm_step.specs.Frames.{Rest}
use Rattle.ppm_step.specs.Standings.{Standing, IsLost, IsPlaced, IsAt, IsWithin, IsRunning, IsBroken, IsDone, row_is_there, rest_is_there}
use Rattle.ppm_step.specs.State.{State as RunState, stand_of}
use Rattle.ppm_step.specs.declared.row.Row.{Row}
use Rattle.ppm_step.specs.declared.row.Seat.{Seat}
use Rattle.ppm_tickets.specs.Along.{IsPooled}
use Rattle.ppm_tickets.specs.Homes.{Home}
use Rattle.ppm_tickets.specs.Lawful.{Names}
use Rattle.ppm_tickets.specs.Saw.{Carried, Sits, HasSeen, Sees}
use Rattle.ppm_tickets.specs.View as spots
use Rattle.ppm_tickets.specs.Words.{Word, Empty, Local, Job, Taken, Held, Number, Linked, Restarts, Unread, Spot, Holder}
use Rattle.ppm_frames.specs.Views.{place_of, in_pool, is_cell}
use Rattle.ppm_frames.specs.Skeletons.{Skeleton}
use Rattle.ppm_kept.specs.Kept.{Setting, InRow, InRest, State, Does, Head, owner, IsKept}
use Rattle.ppm_kept.specs.Moves.{doing_of}
use Rattle.ppm_kept.specs.Places.{places_of, is_in, IsOf, Holds}
use Rattle.ppm_tickets.proofs.EstateLemmas.{here}
use Rattle.ppm_tickets.proofs.StepLemmas.{shut_not}
use Rattle.ppm_kept.specs.Left.{Followed, left, IsAway}
use Rattle.ppm_kept.proofs.LeftLemmas.{kind_away}
use Rattle.ppm_runs.specs.Run.{setting, IsRun}
use Rattle.ppm_runs.specs.Follow.{AreGone, IsHalves}
use Rattle.ppm_runs.proofs.StandLemmas.{kinds_same, doing_own}

-- a holder word names one processor
pub names_one : (w : Word) (c d : ℕ) → Names w c → Names w d → c ≡ d
names_one (Held t x) c d a b = sym a ∙ b
names_one (Empty t) c d a b = absurd a
names_one (Local t x) c d a b = absurd a
names_one (Job t x) c d a b = absurd a
names_one (Taken t x) c d a b = absurd a
names_one (Number x) c d a b = absurd a
names_one (Linked link) c d a b = absurd a
names_one (Restarts kind bottom) c d a b = absurd a
names_one Unread c d a b = absurd a

-- both parts of a test
both_left : (a b : Bool) → (a && b) ≡ true → a ≡ true
both_left true b e = refl
both_left false b e = absurd (cc)

both_right : (a b : Bool) → (a && b) ≡ true → b ≡ true
both_right true b e = e
both_right false b e = absurd (cc)

-- an address of a pool, by division
pub pool_is : (s : Shape) (at : ℕ) → in_pool s at ≡ true → IsInPool s at
pool_is s at e =
    let first = both_left (nat_lt (place_of s at) s.processors) _ e in
    let rest = both_right (nat_lt (place_of s at) s.processors) _ e in
    let low = both_left (nat_le (pool_at s (place_of s at)) at) _ rest in
    let high = both_right (nat_le (pool_at s (place_of s at)) at) _ rest in
    record {
      place = place_of s at;
      is_place = ltb-true (place_of s at) s.processors first;
      begun = leb-true (pool_at s (place_of s at)) at low;
      ended = ltb-true at (pool_at s (place_of s at) + s.room) high;
    }

-- a cell that frames have is pooled
pub cell_pooled : (s : Shape) (cell : Cell) → is_cell s cell ≡ true → IsPooled s cell
cell_pooled s (BlockWord at) e = pool_is s at e
cell_pooled s FinishWord e = tt
cell_pooled s (CarryWord c) e = tt
cell_pooled s (DeadWord c) e = tt
cell_pooled s (RestartWord p) e = tt
cell_pooled s (MessageWord p) e = tt
cell_pooled s (HolderWord p) e = tt
cell_pooled s (Top p) e = tt
cell_pooled s (RoomCounter p) e = tt
cell_pooled s (EntryWord p i) e = tt
cell_pooled s (ArrayWord x) e = tt

-- a place that none has followed is away
pub away : (l : List Followed) (g : ℕ → Bool) (q : ℕ) → AreGone g l → g q ≡ false → IsAway l q
away [] g q a f = tt
away (v ∷ l) g q a f = (λ e. true≢false (sym a.0 ∙ ap g (sym e) ∙ f), away l g q a.1 f)

-- by places none is left out
unfoldable pub halves : {s : Shape} {code : CodeParts} {root : Tree (Frame FrameWord Point) Result} {input : Words} {state : RunState} {h : ℕ → Home} {forked taken : List ℕ} {t : Skeleton}
    → IsRun s code root input state h forked taken t → IsHalves s code root input state h forked taken [] t
halves run = record { lawful = run.lawful; apart = tt; gone = tt; kept = run.kept; born = run.born }

module _ (s : Shape) (code : CodeParts) (root : Tree (Frame FrameWord Point) Result) (input : Words) (state : RunState) (h : ℕ → Home) (forked taken : List ℕ) (l : List Followed) (t : Skeleton) (run : IsHalves s code root input state h forked taken l t) where
  abbrev i : Setting
  i = setting s code

  abbrev z : State
  z = left i l (places_of s state)

  abbrev law : IsKept i root input z t
  law = run.kept

  abbrev m : Spot → Word
  m = spots.view s state.words

  abbrev k : ℕ → RestartKind
  k = spots.kinds s state.words

  abbrev b : ℕ → ℕ
  b = spots.bottoms s state.words

  -- no two processors are in one place
  in_one : (d p : ℕ) (x : Standing) → Sees s m k b d x → is_in p x ≡ true → Carried s m d p
  in_one d p (IsWithin seat row) sees e = subst (Carried s m d) (eqb-true seat.place p e) sees.0.carried
  in_one d p (IsRunning seat rest) sees e = subst (Carried s m d) (eqb-true seat.place p e) sees.0.carried
  in_one d p IsLost sees e = absurd (cc)
  in_one d p (IsPlaced q) sees e = absurd (cc)
  in_one d p (IsAt q r) sees e = absurd (cc)
  in_one d p (IsBroken q) sees e = absurd (cc)
  in_one d p IsDone sees e = absurd (cc)

  pub alone : (c p : ℕ) → Carried s m c p → (d : ℕ) → d ≢ c → is_in p (stand_of state d) ≡ false
  alone c p carried d ne = elim (cases_Bool (is_in p (stand_of state d))) [
    | inr out ↦ out
    | inl here ↦
        let other = in_one d p (stand_of state d) (run.lawful.1.sees d) here in
        let held = run.lawful.1.holding.held in
        absurd (ne (names_one (m (Holder p)) d c (held d p other.lives.alive other.carry) (held c p carried.lives.alive carried.carry)))
  ]

  pub holds : (c p : ℕ) → Carried s m c p → IsOf p (stand_of state c) → Holds s state c p
  holds c p carried own = record { words = run.lawful.0; there = carried.lives.there; place = carried.place; own = own; others = alone c p carried }

  -- a place that a processor carries was followed by none
  pub carried_away : (c p : ℕ) → Carried s m c p → IsAway l p
  carried_away c p carried = away l run.lawful.1.board.gone p run.gone (here run.lawful.1.board p (shut_not s.takeover m c p carried.home carried.lives.alive))

  pub carried_kind : (c p : ℕ) → Carried s m c p → z.kind p ≡ k p
  carried_kind c p carried = kind_away l (places_of s state).kind p (carried_away c p carried) ∙ kinds_same s state.words p

  -- what a row's processor has seen, and what is under way at its place
  pub record Within (c : ℕ) (seat : Seat) (row : Row) : Type 0 where
    pub sits : Sits s m k b c seat
    pub seen : HasSeen s (spots.with_restarts m k b) seat row
    pub here : row_is_there s seat row ≡ true
    pub place : seat.place < s.processors
    pub kind : z.kind seat.place ≡ seat.restart.kind
    pub doing : z.doing seat.place ≡ InRow row
    pub does : Does i z.words seat.place seat.restart.kind (InRow row)
    pub holds : Holds s state c seat.place

  pub within : (c : ℕ) (seat : Seat) (row : Row) → stand_of state c ≡ IsWithin seat row → Within c seat row
  within c seat row e =
      let sees : Sees s m k b c (IsWithin seat row) = subst (Sees s m k b c) e (run.lawful.1.sees c) in
      let is : z.doing seat.place ≡ InRow row =
      doing_own (stand_of state) c seat.place (ap (is_in seat.place) e ∙ eq-eqb seat.place seat.place refl) (alone c seat.place sees.0.carried) s.processors sees.0.carried.lives.there
      ∙ ap doing_of e in
      let kind = carried_kind c seat.place sees.0.carried ∙ sees.0.at.kind in
      let does = subst (Does i z.words seat.place (z.kind seat.place)) is (law.does seat.place) in
      record {
        sits = sees.0;
        seen = sees.1;
        here = sees.2;
        place = sees.0.carried.place;
        kind = kind;
        doing = is;
        does = subst (λ (a : RestartKind). Does i z.words seat.place a (InRow row)) kind does;
        holds = holds c seat.place sees.0.carried (subst (IsOf seat.place) (sym e) refl);
      }

  -- what the processor of a capsule under way has, and what its place is at
  pub record Runs (c : ℕ) (seat : Seat) (rest : Rest) : Type 0 where
    pub here : rest_is_there s seat rest ≡ true
    pub place : seat.place < s.processors
    pub kind : z.kind seat.place ≡ seat.restart.kind
    pub doing : z.doing seat.place ≡ InRest rest
    pub does : Does i z.words seat.place (z.kind seat.place) (InRest rest)
    pub holds : Holds s state c seat.place

  pub runs : (c : ℕ) (seat : Seat) (rest : Rest) → stand_of state c ≡ IsRunning seat rest → Runs c seat rest
  runs c seat rest e =
      let sees : Sees s m k b c (IsRunning seat rest) = subst (Sees s m k b c) e (run.lawful.1.sees c) in
      let is : z.doing seat.place ≡ InRest rest =
      doing_own (stand_of state) c seat.place (ap (is_in seat.place) e ∙ eq-eqb seat.place seat.place refl) (alone c seat.place sees.0.carried) s.processors sees.0.carried.lives.there
      ∙ ap doing_of e in
      record {
        here = sees.3;
        place = sees.0.carried.place;
        kind = carried_kind c seat.place sees.0.carried ∙ sees.0.at.kind;
        doing = is;
        does = subst (Does i z.words seat.place (z.kind seat.place)) is (law.does seat.place);
        holds = holds c seat.place sees.0.carried (subst (IsOf seat.place) (sym e) refl);
      }

  -- an order word of the tree is one of a pool
  pub head_pool : (x : ℕ) → Head i z t x → IsInPool s x
  head_pool x head = record {
    place = owner i x;
    is_place = head.there;
    begun = head.first;
    ended = let r = (law.rooms (owner i x)).1 in let u = head.under in omega (arith, r, u);
  }
