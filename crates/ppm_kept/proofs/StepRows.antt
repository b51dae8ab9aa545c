-- A whole turn keeps what is kept, by places: with those left out that others have followed, by entries,
-- and with none left out by places.
use Rattle.std.proofs.Common.{◌≡◌, ◌⊎◌, ◌<◌, ℕ, zero, suc, ◌+◌, ◌==◌, Bool, true, false, List, [], inl, inr, refl, sym, ap, ◌∙◌, subst, subst₂, arith, Option, Some, None, slice_set}
use Rattle.std.specs.Prelude.{nat_lt, ◌&&◌, slice_index, if◌then◌else◌}
use Rattle.std.proofs.lemmas.Bool.{ltb-true, eqb-true}
use Rattle.ppm_strands.specs.Tree.{Words, Tree}
use Rattle.ppm_cells.specs.Finish.{finish_word, IsFinish}
use Rattle.ppm_cells.specs.Memory.{read, write}
use Rattle.ppm_cells.specs.declared.cell.Cell.{Cell}
use Rattle.ppm_cells.specs.declared.cell.Cell.TheVariants.{FinishWord, DeadWord, MessageWord, HolderWord, RoomCounter, Top as TopWord, EntryWord}
use Rattle.ppm_cells.specs.declared.finish.Finish.{Finish}
use Rattle.ppm_cells.specs.declared.finish.Finish.TheVariants.{Broken as BrokenAt}
use Rattle.ppm_cells.specs.declared.link.LinkKind.TheVariants.{Root}
use Rattle.ppm_cells.specs.declared.restart.Restart.{Restart}
use Rattle.ppm_cells.specs.declared.restart.RestartKind.{RestartKind}
use Rattle.ppm_cells.specs.declared.restart.RestartKind.TheVariants.{Run, Bump, Push1, Push2, Unwind, Arrive, Join, Pop1, Pop2, Seek, Steal, Check, Take, Take2}
use Rattle.ppm_cells.specs.declared.shape.Shape.{Shape}
use Rattle.ppm_cells.specs.declared.shape.Takeover.{Takeover}
use Rattle.ppm_cells.specs.declared.shape.Takeover.TheVariants.{ByPlaces, ByEntries}
use Rattle.ppm_cells.specs.declared.side.Side.{Side}
use Rattle.ppm_strands.specs.Strand.{Frame}
use Rattle.ppm_code.specs.Strands.{Point, Result}
use Rattle.ppm_code.specs.declared.location.FrameWord.{FrameWord}
use Rattle.ppm_step.specs.Contents.{content_of, word_of}
use Rattle.ppm_step.specs.Frames.{Rest, Loads, Stores, Full, Installs, Breaks}
use Rattle.ppm_step.specs.Points.{cell_at, reading_at, offset_word}
use Rattle.ppm_step.specs.Rows.{found_at, row_of}
use Rattle.ppm_step.specs.Standings.{Standing, IsLost, IsPlaced, IsAt, IsWithin, IsRunning, IsBroken, IsDone, within_if, then_is_there, stands, begins_if, at_finish, went_row, went_rest}
use Rattle.ppm_step.specs.State.{State as Machine, stand_of, quit_with, acts, is_done_at}
use Rattle.ppm_step.specs.There.{is_there, restart_is_there}
use Rattle.ppm_step.specs.declared.row.Point.{Point as RowPoint}
use Rattle.ppm_step.specs.declared.row.Point.TheVariants.{Header, BumpLink, Offset}
use Rattle.ppm_step.specs.declared.row.Row.{Row}
use Rattle.ppm_step.specs.declared.row.Row.TheVariants.{Now, Store, Exchange}
use Rattle.ppm_step.specs.declared.row.Seat.{Seat}
use Rattle.ppm_step.specs.declared.row.Then.{Then}
use Rattle.ppm_step.specs.declared.row.Then.TheVariants.{Load, Install, Fork, Begin, Move, Enter, Again, Broken}
use Rattle.ppm_step.specs.declared.turn.Act.{Act}
use Rattle.ppm_step.specs.declared.turn.Act.TheVariants.{Step, Soft, Hard, Quit}
use Rattle.ppm_step.specs.declared.turn.Why.{Why}
use Rattle.ppm_step.specs.declared.turn.Why.TheVariants.{Turns, Watch}
use Rattle.ppm_frames.specs.Views.{view}
use Rattle.ppm_frames.specs.Skeletons.{Waiting as WaitingLeaf, Skeleton, Leaf, Forking, pushed, over_left, take_in}
use Rattle.ppm_frames.proofs.SkeletonLemmas.{inside_at}
use Rattle.ppm_frames.proofs.ViewLemmas.{view_is, cells_are_viewed, others_are_unseen}
use Rattle.ppm_kept.specs.Running.{IsFair}
use Rattle.ppm_kept.specs.Branches.{is_taker}
use Rattle.ppm_kept.specs.Kept.{Setting, Doing, Resting, InRow, InRest, State, Under, Does, Head, Ordered, IsKept}
use Rattle.ppm_kept.specs.Moves.{doing_of, goes, stores, exchanges, installs, fills, loaded}
use Rattle.ppm_kept.specs.Laws.{Ends, kind_then, RunKeeps}
use Rattle.ppm_kept.specs.Copies.{IsKnown}
use Rattle.ppm_kept.specs.Others.{IsIdle}
use Rattle.ppm_kept.specs.Returns.{UnwindKeeps}
use Rattle.ppm_kept.specs.Pushing.{Comes, kind_seat, Push1Keeps, Push2Keeps}
use Rattle.ppm_kept.specs.Arriving.{ArriveKeeps}
use Rattle.ppm_kept.specs.JoinLast.{JoinKeeps}
use Rattle.ppm_kept.specs.Takes.{IsWaiting, IsAlone, IsCheck, TakeKeeps}
use Rattle.ppm_kept.specs.Places.{kinds_of, places_of, IsOf, Holds, IsUnseen, IsNowhere, acted, RowShows}
use Rattle.ppm_kept.specs.Steps.{by_end, by_store, by_exchange, tree_with, act_with, CameBy, InRowSo, InRestSo, IsKindIf, StandsSo, LeavesSo, IsPresent, ActsSo, IsStop, TurnsKeep}
use Rattle.ppm_kept.specs.Stops.{TurnsKeepOn}
use Rattle.ppm_kept.specs.Births.{IsNoCounter, SteadyRow}
use Rattle.ppm_kept.specs.Left.{Followed, left, IsAway, AreApart, StandsAway, LooksOn, InheritsNone, StepsAway, TurnsKeepLeft}
use Rattle.ppm_kept.specs.Loads.{IsInUse, IsLoadable}
use Rattle.ppm_kept.proofs.CounterLemmas.{steady_reached, store_reached, may_steady}
use Rattle.ppm_kept.proofs.LeftLemmas.{left_same, left_write, kind_away, kind_or, in_use, shown, installs_left, stores_left, exchanges_left, fills_left}
use Rattle.ppm_kept.proofs.OtherLemmas.{others_keep}
use Rattle.ppm_kept.proofs.PlaceLemmas.{going_to}
use Rattle.ppm_kept.proofs.Rows.{run_row_keeps, bump_row_keeps}
use Rattle.ppm_kept.proofs.UnwindRow.{exchange_is, unwind_row_keeps}
use Rattle.ppm_kept.proofs.PushRows.{push1_row_keeps, push2_row_keeps}
use Rattle.ppm_kept.proofs.ArriveRow.{arrive_exchanges, arrive_row_keeps}
use Rattle.ppm_kept.proofs.JoinLastRow.{join_row_keeps}
use Rattle.ppm_kept.proofs.TakeRow.{find_wait, take_rows_keep}
use Rattle.ppm_kept.proofs.LookLemmas.{LookRow, IsLookCell, IsOffset, comes_look, no_begin, look_begins, starts_none}
use Rattle.ppm_kept.proofs.LoadLemmas.{all_loads_show, in_part, bump_links, bump_exchanges_none, arrive_loads}
use Rattle.ppm_kept.proofs.StateLemmas.{doing_here, moved, bare, dead_unseen, kinds_stay, turns_show}
use Rattle.ppm_kept.proofs.StopLemmas.{stop_kept, stop_says}
use Rattle.ppm_kept.proofs.TurnLemmas.{stores_are_cells}

-- no row, and no capsule
abbrev NoRow : Doing → Type 0
NoRow Resting = Unit {0}
NoRow (InRow row) = ⊥
NoRow (InRest rest) = ⊥

none_does : (i : Setting) (m : Cell → ℕ) (p : ℕ) (k : RestartKind) (d : Doing) → NoRow d → Does i m p k d
none_does i m p k Resting h = tt
none_does i m p k (InRow row) h = absurd h
none_does i m p k (InRest rest) h = absurd h

both : (a b : Bool) → (a && b) ≡ true → (a ≡ true) × (b ≡ true)
both true b e = (refl, e)
both false b e = absurd (cc)

-- cells of places and deques
pub look_cell : (s : Shape) (cell : Cell) → IsLookCell cell → is_there s cell ≡ true → IsUnseen s cell
look_cell s (MessageWord p) h e = record { there = ltb-true p s.processors e; no_frame = refl; no_restart = λ q z. cc }
look_cell s (HolderWord v) h e = record { there = ltb-true v s.processors e; no_frame = refl; no_restart = λ q z. cc }
look_cell s (TopWord v) h e = record { there = ltb-true v s.processors e; no_frame = refl; no_restart = λ q z. cc }
look_cell s (EntryWord v x) h e = let two = both (nat_lt v s.processors) (nat_lt x s.slots) e in record { there = (ltb-true v s.processors two.0, ltb-true x s.slots two.1); no_frame = refl; no_restart = λ q z. cc }
look_cell s _ h e = absurd h

-- a point is the load of an offset, or none
record OfOffset (point : RowPoint) : Type 0 where
  pub block : ℕ
  pub bottom : ℕ
  pub is : point ≡ Offset block bottom

offset_or : (point : RowPoint) → OfOffset point ⊎ (IsOffset point → ⊥)
offset_or (Offset r b) = inl (record { block = r; bottom = b; is = refl })
offset_or _ = inr (λ o. o)

-- what rows of kinds without a strand make of the skeleton
pub came_idle : (s : Shape) (seat : Seat) (k : RestartKind) (row : Row) → IsIdle k → CameBy s seat k row → (n : ℕ) × Comes s seat n (row_of s seat k) row
came_idle s seat Pop1 row h a = a
came_idle s seat (Pop2 r) row h a = a
came_idle s seat Seek row h a = a
came_idle s seat (Steal v x) row h a = a
came_idle s seat (Check v x) row h a = a
came_idle s seat (Take v x) row h a = a
came_idle s seat (Take2 v) row h a = a
came_idle s seat _ row h a = absurd h

idle_store : (p : ℕ) (k : RestartKind) (t : Skeleton) → IsIdle k → by_store p k t ≡ t
idle_store p Pop1 t h = refl
idle_store p (Pop2 r) t h = refl
idle_store p Seek t h = refl
idle_store p (Steal v x) t h = refl
idle_store p (Check v x) t h = refl
idle_store p (Take v x) t h = refl
idle_store p (Take2 v) t h = refl
idle_store p _ t h = absurd h

idle_exchange : (m : Cell → ℕ) (p : ℕ) (k : RestartKind) (made : Bool) (t : Skeleton) → IsIdle k → by_exchange m p k made t ≡ t
idle_exchange m p Pop1 made t h = refl
idle_exchange m p (Pop2 r) made t h = refl
idle_exchange m p Seek made t h = refl
idle_exchange m p (Steal v x) made t h = refl
idle_exchange m p (Check v x) made t h = refl
idle_exchange m p (Take v x) made t h = refl
idle_exchange m p (Take2 v) made t h = refl
idle_exchange m p _ made t h = absurd h

-- an end that begins no branch
abbrev BeginsNone : Then → Type 0
BeginsNone (Begin r f b) = ⊥
BeginsNone _ = Unit {0}

pop_end : (p q : ℕ) (next : Then) (t : Skeleton) → BeginsNone next → by_end p (Pop2 q) next t ≡ t
pop_end p q (Load x) t h = refl
pop_end p q (Install x) t h = refl
pop_end p q (Fork x) t h = refl
pop_end p q (Begin x f b) t h = absurd h
pop_end p q (Move x) t h = refl
pop_end p q (Enter x) t h = refl
pop_end p q Again t h = refl
pop_end p q Broken t h = refl

check_end : (p v y : ℕ) (next : Then) (t : Skeleton) → BeginsNone next → by_end p (Check v y) next t ≡ t
check_end p v y (Load x) t h = refl
check_end p v y (Install x) t h = refl
check_end p v y (Fork x) t h = refl
check_end p v y (Begin x f b) t h = absurd h
check_end p v y (Move x) t h = refl
check_end p v y (Enter x) t h = refl
check_end p v y Again t h = refl
check_end p v y Broken t h = refl

idle_end : (p : ℕ) (k : RestartKind) (next : Then) (t : Skeleton) → IsIdle k → BeginsNone next → by_end p k next t ≡ t
idle_end p Pop1 next t h n = refl
idle_end p (Pop2 r) next t h n = pop_end p r next t n
idle_end p Seek next t h n = refl
idle_end p (Steal v x) next t h n = refl
idle_end p (Check v x) next t h n = check_end p v x next t n
idle_end p (Take v x) next t h n = refl
idle_end p (Take2 v) next t h n = refl
idle_end p _ next t h n = absurd h

idle_begin : (p : ℕ) (k : RestartKind) (r f b : ℕ) (t : Skeleton) → IsIdle k → is_taker k ≡ true → by_end p k (Begin r f b) t ≡ take_in r p t
idle_begin p (Pop2 q) r f b t h e = refl
idle_begin p (Check v x) r f b t h e = refl
idle_begin p Pop1 r f b t h e = absurd (cc)
idle_begin p Seek r f b t h e = absurd (cc)
idle_begin p (Steal v x) r f b t h e = absurd (cc)
idle_begin p (Take v x) r f b t h e = absurd (cc)
idle_begin p (Take2 v) r f b t h e = absurd (cc)
idle_begin p _ r f b t h e = absurd h

module _ (i : Setting) (fair : IsFair i.code) (root : Tree (Frame FrameWord Point) Result) (input : Words) (state : Machine) (l : List Followed) (apart : AreApart l) (t : Skeleton)
    (law : IsKept i root input (left i l (places_of i.shape state)) t) (c : ℕ) where
  -- the places, and the same with those that were followed left out
  abbrev P : State
  P = places_of i.shape state

  abbrev S : State
  S = left i l P

  abbrev words : List ℕ
  words = state.words

  abbrev Kept : State → Skeleton → Type 0
  Kept z v = IsKept i root input z v

  -- a place is at rest
  rests_kept : (p : ℕ) (x : Standing) → NoRow (doing_of x) → Kept (goes S p x) t
  rests_kept p x h = going_to i fair root input S t law p (doing_of x) (none_does i S.words p (S.kind p) (doing_of x) h)
      (λ r f b taker about. absurd (subst NoRow about h))

  -- what the place of a processor does
  doing_own : (p : ℕ) → Holds i.shape state c p → (x : Standing) → stand_of state c ≡ x → IsOf p x → S.doing p ≡ doing_of x
  doing_own p holds x e of = doing_here (stand_of state) (stand_of state) c p x e (λ d ne. refl) holds.own of holds.others i.shape.processors holds.there

  abbrev Done : (victim : ℕ) → Skeleton → Type 0
  Done victim v = Kept (left i l (acted i.shape i.code state c (Step victim))) v

  arrives : (act : Act) (z : State) (v : Skeleton) → acted i.shape i.code state c act ≡ z → Kept (left i l z) v → Kept (left i l (acted i.shape i.code state c act)) v
  arrives act z v e kept = subst (λ (w : State). Kept (left i l w) v) (sym e) kept

  -- by an install, a store, an exchange
  arrives_so : (act : Act) (z z' : State) (v : Skeleton) → acted i.shape i.code state c act ≡ z → left i l z ≡ z' → Kept z' v → Kept (left i l (acted i.shape i.code state c act)) v
  arrives_so act z z' v e same kept = arrives act z v e (subst (λ (w : State). Kept w v) (sym same) kept)

  at_install : (victim p : ℕ) (k : RestartKind) (v : Skeleton) → IsAway l p → acted i.shape i.code state c (Step victim) ≡ installs P p k → Kept (installs S p k) v → Done victim v
  at_install victim p k v away e kept = arrives_so (Step victim) (installs P p k) (installs S p k) v e (installs_left i root input P l apart p k away) kept

  at_store : (victim p : ℕ) (cell : Cell) (w : ℕ) (x : Standing) (v : Skeleton) → IsAway l p → IsNoCounter cell ⊎ (cell ≡ RoomCounter p) → acted i.shape i.code state c (Step victim) ≡ stores P p cell w x → Kept (stores S p cell w x) v → Done victim v
  at_store victim p cell w x v away spot e kept = arrives_so (Step victim) (stores P p cell w x) (stores S p cell w x) v e (stores_left i root input P l apart p away cell w x v kept spot) kept

  at_exchange : (victim p : ℕ) (cell : Cell) (old new : ℕ) (x : Standing) (v : Skeleton) → IsAway l p → IsInUse i S p cell → acted i.shape i.code state c (Step victim) ≡ exchanges P p cell old new x → Kept (exchanges S p cell old new x) v → Done victim v
  at_exchange victim p cell old new x v away used e kept = arrives_so (Step victim) (exchanges P p cell old new x) (exchanges S p cell old new x) v e
      (exchanges_left i root input P l apart p cell old new x (in_use i root input P l apart t law p away cell used)) kept

  -- what is loaded is as it is
  found_is : (p : ℕ) (cell : Cell) → IsAway l p → IsLoadable i S p cell → S.words cell ≡ read i.shape words cell
  found_is p cell away is = shown i root input P l apart t law p away cell is.in_use ∙ view_is i.shape words cell is.cell_is

  -- and so is the kind of the place
  own_kind : (p : ℕ) (k : RestartKind) → P.kind p ≡ k → IsAway l p → S.kind p ≡ k
  own_kind p k e away = kind_away l P.kind p away ∙ e

  alone_left : (p r : ℕ) → IsAlone P p r → IsAlone S p r
  alone_left p r alone q f b ne taker about = elim (kind_or l P.kind q) [
    | inl e ↦ alone q f b ne (ap is_taker (sym e) ∙ taker) about
    | inr e ↦ let z : false ≡ true = ap is_taker (sym e) ∙ taker in cc
  ]

  -- a row
  module _ (own p b victim : ℕ) (k : RestartKind) where
    abbrev seat : Seat
    seat = kind_seat own p k b

    abbrev At : Row → Type 0
    At row = (stand_of state c ≡ IsWithin seat row) × InRowSo i state t c seat row × IsAway l p × ((i.shape.takeover ≡ ByPlaces) ⊎ LooksOn k row)

    show : (row : Row) → At row → RowShows i.shape i.code state c seat
    show row a = ((turns_show i.shape i.code state c).0 seat a.1.holds).0

    does_row : (row : Row) → At row → S.doing p ≡ InRow row
    does_row row a = doing_own p a.1.holds (IsWithin seat row) a.0 refl

    under_row : (row : Row) → At row → Under i S.words p k row
    under_row row a = subst₂ (λ (k : RestartKind) (d : Doing). Does i S.words p k d) (own_kind _ _ a.1.kind a.2) (does_row row a) (law.does p)

    -- ends that are none
    move_step : (q : ℕ) → At (Now (Move q)) → Done victim t
    move_step q a = arrives (Step victim) (goes P p IsLost) t ((show (Now (Move q)) a).moves victim q a.0 a.1.own) (rests_kept p IsLost tt)

    -- a load of a word that frames have
    load_step : (point : RowPoint) → At (Now (Load point)) → IsLoadable i S p (cell_at seat victim point) → Kept (loaded i S p seat victim point) t → Done victim t
    load_step point a is kept = arrives (Step victim) (goes P p (went_row i.shape i.code seat victim (read i.shape words (cell_at seat victim point)) (Now (Load point)))) t
        ((show (Now (Load point)) a).loads victim point a.0)
        (subst (λ (w : ℕ). Kept (goes S p (went_row i.shape i.code seat victim w (Now (Load point)))) t) (found_is p (cell_at seat victim point) a.2 is) kept)

    -- an end of a row
    end_step : (tree : Then → Skeleton) → ((point : RowPoint) → At (Now (Load point)) → Done victim (tree (Load point))) → ((q : ℕ) → tree (Move q) ≡ t)
        → ((next : Then) → At (Now next) → Ends next → Kept (installs S p (kind_then next)) (tree next)) → (next : Then) → At (Now next) → Done victim (tree next)
    end_step tree loads still ends (Load point) a = loads point a
    end_step tree loads still ends (Install r) a = at_install victim p r.kind (tree (Install r)) a.2 ((show (Now (Install r)) a).installs victim (Install r) tt a.0 a.1.there) (ends (Install r) a tt)
    end_step tree loads still ends (Fork r) a = at_install victim p (Push1 r) (tree (Fork r)) a.2 ((show (Now (Fork r)) a).installs victim (Fork r) tt a.0 a.1.there) (ends (Fork r) a tt)
    end_step tree loads still ends (Begin r f x) a = at_install victim p (Run f 0) (tree (Begin r f x)) a.2 ((show (Now (Begin r f x)) a).installs victim (Begin r f x) tt a.0 a.1.there) (ends (Begin r f x) a tt)
    end_step tree loads still ends (Move q) a = subst (Done victim) (sym (still q)) (move_step q a)
    end_step tree loads still ends (Enter x) a = absurd (let e = a.1.there in cc)
    end_step tree loads still ends Again a = absurd (let e = a.1.there in cc)
    end_step tree loads still ends Broken a = absurd (let e = a.1.there in cc)

    -- a load in a row of which it is said how it was reached
    known_load : IsKnown k → ((point : RowPoint) → S.doing p ≡ InRow (Now (Load point)) → Kept (loaded i S p seat victim point) t) → (point : RowPoint) → At (Now (Load point)) → Done victim t
    known_load known loads point a = let de = does_row (Now (Load point)) a in
        load_step point a ((all_loads_show i fair root input S t law p a.1.holds.place).rows k known (own_kind _ _ a.1.kind a.2) own b victim point de) (loads point de)

  -- of a place that runs: the header
  run_step : (own p b victim f y : ℕ) (row : Row) → At own p b victim (Run f y) row → Done victim (tree_with i S.words words (IsWithin (kind_seat own p (Run f y) b) row) t)
  run_step own p b victim f y row a =
      let is : row ≡ Now (Load (Header f y)) = subst₂ (λ (k : RestartKind) (d : Doing). Does i S.words p k d) (own_kind _ _ a.1.kind a.2) (does_row own p b victim (Run f y) row a) (law.does p) in
      subst (λ (row : Row). At own p b victim (Run f y) row → Done victim (tree_with i S.words words (IsWithin (kind_seat own p (Run f y) b) row) t)) (sym is) at_header a
    where
      at_header : At own p b victim (Run f y) (Now (Load (Header f y))) → Done victim t
      at_header a = load_step own p b victim (Run f y) (Header f y) a ((all_loads_show i fair root input S t law p a.1.holds.place).headers f y (own_kind _ _ a.1.kind a.2))
          ((run_row_keeps i fair root input S t law p a.1.holds.place f y (own_kind _ _ a.1.kind a.2)).enters own b victim)

  bump_step : (own p b victim r : ℕ) (row : Row) → At own p b victim (Bump r) row → Done victim (tree_with i S.words words (IsWithin (kind_seat own p (Bump r) b) row) t)
  bump_step own p b victim r (Now next) a = end_step own p b victim (Bump r) (λ next. t) loads (λ q. refl)
      (λ next a ends. (bump_row_keeps i fair root input S t law p a.1.holds.place r (own_kind _ _ a.1.kind a.2)).installs next (does_row own p b victim (Bump r) (Now next) a) ends) next a
    where
      at_link : At own p b victim (Bump r) (Now (Load (BumpLink r))) → Done victim t
      at_link a = load_step own p b victim (Bump r) (BumpLink r) a
          ((all_loads_show i fair root input S t law p a.1.holds.place).rows (Bump r) tt (own_kind _ _ a.1.kind a.2) own b victim (BumpLink r) (does_row own p b victim (Bump r) (Now (Load (BumpLink r))) a))
          ((bump_row_keeps i fair root input S t law p a.1.holds.place r (own_kind _ _ a.1.kind a.2)).loads own b victim)

      loads : (point : RowPoint) → At own p b victim (Bump r) (Now (Load point)) → Done victim t
      loads point a = subst (λ (x : RowPoint). At own p b victim (Bump r) (Now (Load x)) → Done victim t)
          (sym (bump_links i fair root input S t law p a.1.holds.place r (own_kind _ _ a.1.kind a.2) point (does_row own p b victim (Bump r) (Now (Load point)) a))) at_link a
  bump_step own p b victim r (Store cell content next) a =
      let keeps = bump_row_keeps i fair root input S t law p a.1.holds.place r (own_kind _ _ a.1.kind a.2) in
      let de = does_row own p b victim (Bump r) (Store cell content next) a in
      let u = under_row own p b victim (Bump r) (Store cell content next) a in
      at_store victim p cell (word_of content) _ t a.2 (inr (store_reached i S.words p r u.0 u.1 (Store cell content next) u.2)) ((show own p b victim (Bump r) (Store cell content next) a).stores victim 0 cell content next a.0 (keeps.cells cell content next de)) (keeps.stores own b 0 cell content next de)
  bump_step own p b victim r (Exchange cell old new next) a =
      absurd (bump_exchanges_none i fair root input S t law p a.1.holds.place r (own_kind _ _ a.1.kind a.2) cell old new next (does_row own p b victim (Bump r) (Exchange cell old new next) a))

  unwind_step : (own p b victim f : ℕ) (row : Row) → At own p b victim (Unwind f) row → Done victim (tree_with i S.words words (IsWithin (kind_seat own p (Unwind f) b) row) t)
  unwind_step own p b victim f (Now next) a =
      let keeps : UnwindKeeps i root input S t p f = unwind_row_keeps i fair root input S t law p a.1.holds.place f (own_kind _ _ a.1.kind a.2) in
      end_step own p b victim (Unwind f) (λ next. by_end p (Unwind f) next t) (known_load own p b victim (Unwind f) tt (λ point de. keeps.loads own b victim point de)) (λ q. refl)
      (λ next a ends. keeps.installs next (does_row own p b victim (Unwind f) (Now next) a) ends) next a
  unwind_step own p b victim f (Store cell content next) a =
      let keeps : UnwindKeeps i root input S t p f = unwind_row_keeps i fair root input S t law p a.1.holds.place f (own_kind _ _ a.1.kind a.2) in
      let de = does_row own p b victim (Unwind f) (Store cell content next) a in
      at_store victim p cell (word_of content) _ t a.2 (inl (steady_reached i S.words p (Unwind f) (Store cell content next) tt (under_row own p b victim (Unwind f) (Store cell content next) a)).0) ((show own p b victim (Unwind f) (Store cell content next) a).stores victim 0 cell content next a.0 (keeps.cells cell content next de)) (keeps.stores own b 0 cell content next de)
  unwind_step own p b victim f (Exchange cell old new next) a =
      let keeps : UnwindKeeps i root input S t p f = unwind_row_keeps i fair root input S t law p a.1.holds.place f (own_kind _ _ a.1.kind a.2) in
      let de = does_row own p b victim (Unwind f) (Exchange cell old new next) a in
      at_exchange victim p cell (word_of old) (word_of new) _ t a.2
      (subst (IsInUse i S p) (sym (exchange_is i fair root input S t law p a.1.holds.place (others_keep i fair root input S t law p) f (own_kind _ _ a.1.kind a.2) cell old new next de)) tt) ((show own p b victim (Unwind f) (Exchange cell old new next) a).exchanges victim 0 cell old new next a.0 (keeps.exchange_cells cell old new next de)) (keeps.exchanges own b 0 cell old new next de)

  arrive_step : (own p b victim r : ℕ) (d : Side) (row : Row) → At own p b victim (Arrive r d) row → Done victim (tree_with i S.words words (IsWithin (kind_seat own p (Arrive r d) b) row) t)
  arrive_step own p b victim r d (Now next) a =
      let keeps : ArriveKeeps i root input S t p r d = arrive_row_keeps i fair root input S t law p a.1.holds.place r d (own_kind _ _ a.1.kind a.2) in
      end_step own p b victim (Arrive r d) (λ next. t)
      (known_load own p b victim (Arrive r d) tt (λ point de. absurd (arrive_loads i fair root input S t law p a.1.holds.place r d (own_kind _ _ a.1.kind a.2) point de))) (λ q. refl)
      (λ next a ends. keeps.installs next (does_row own p b victim (Arrive r d) (Now next) a) ends) next a
  arrive_step own p b victim r d (Store cell content next) a =
      absurd ((arrive_row_keeps i fair root input S t law p a.1.holds.place r d (own_kind _ _ a.1.kind a.2)).stores_none cell content next (does_row own p b victim (Arrive r d) (Store cell content next) a))
  arrive_step own p b victim r d (Exchange cell old new next) a =
      let keeps : ArriveKeeps i root input S t p r d = arrive_row_keeps i fair root input S t law p a.1.holds.place r d (own_kind _ _ a.1.kind a.2) in
      let de = does_row own p b victim (Arrive r d) (Exchange cell old new next) a in
      let head : Head i S t (r + 1) = subst (Ordered i S t S.words) (own_kind p (Arrive r d) a.1.kind a.2) (law.orders p) in
      at_exchange victim p cell (word_of old) (word_of new) _ _ a.2
      (subst (IsInUse i S p) (sym (arrive_exchanges i fair root input S t law p a.1.holds.place (others_keep i fair root input S t law p) r d (own_kind _ _ a.1.kind a.2) cell old new next de)) (inl head.under)) ((show own p b victim (Arrive r d) (Exchange cell old new next) a).exchanges victim 0 cell old new next a.0 (keeps.cells cell old new next de)) (keeps.exchanges own b 0 cell old new next de)

  join_step : (own p b victim r : ℕ) (d : Side) (row : Row) → At own p b victim (Join r d) row → Done victim (tree_with i S.words words (IsWithin (kind_seat own p (Join r d) b) row) t)
  join_step own p b victim r d (Now next) a =
      let keeps : JoinKeeps i root input S t p r d = join_row_keeps i fair root input S t law p a.1.holds.place r d (own_kind _ _ a.1.kind a.2) in
      end_step own p b victim (Join r d) (λ next. by_end p (Join r d) next t) (known_load own p b victim (Join r d) tt (λ point de. keeps.loads own b victim point de)) (λ q. refl)
      (λ next a ends. keeps.installs next (does_row own p b victim (Join r d) (Now next) a) ends) next a
  join_step own p b victim r d (Store cell content next) a =
      let keeps : JoinKeeps i root input S t p r d = join_row_keeps i fair root input S t law p a.1.holds.place r d (own_kind _ _ a.1.kind a.2) in
      let de = does_row own p b victim (Join r d) (Store cell content next) a in
      let steady : SteadyRow ⊥ (Store cell content next) = elim (under_row own p b victim (Join r d) (Store cell content next) a) [
        | inl reached ↦ steady_reached i S.words p (Join r d) (Store cell content next) tt reached
        | inr last ↦ subst (SteadyRow ⊥) (sym last.is) tt
      ] in
      at_store victim p cell (word_of content) _ t a.2 (inl steady.0) ((show own p b victim (Join r d) (Store cell content next) a).stores victim 0 cell content next a.0 (keeps.cells cell content next de)) (keeps.stores own b 0 cell content next de)
  join_step own p b victim r d (Exchange cell old new next) a =
      absurd ((join_row_keeps i fair root input S t law p a.1.holds.place r d (own_kind _ _ a.1.kind a.2)).exchanges_none cell old new next (does_row own p b victim (Join r d) (Exchange cell old new next) a))

  -- pushes: what is left of the row is one that it comes to
  push1_step : (own p b victim r : ℕ) (row : Row) → At own p b victim (Push1 r) row → Done victim (tree_with i S.words words (IsWithin (kind_seat own p (Push1 r) b) row) t)
  push1_step own p b victim r (Now next) a =
      let keeps : Push1Keeps i root input S t p r = push1_row_keeps i fair root input S t law p a.1.holds.place r (own_kind _ _ a.1.kind a.2) in
      end_step own p b victim (Push1 r) (λ next. t)
      (λ point a. arrives (Step victim) _ t ((show own p b victim (Push1 r) (Now (Load point)) a).loads victim point a.0)
      (keeps.loads own b (found_at i.shape (kind_seat own p (Push1 r) b) victim point (content_of (reading_at point) (read i.shape words (cell_at (kind_seat own p (Push1 r) b) victim point)))))) (λ q. refl)
      (λ next a ends. keeps.installs own b a.1.came.0 next ends a.1.came.1) next a
  push1_step own p b victim r (Store cell content next) a =
      let keeps : Push1Keeps i root input S t p r = push1_row_keeps i fair root input S t law p a.1.holds.place r (own_kind _ _ a.1.kind a.2) in
      let got = keeps.stores own b a.1.came.0 0 cell content next a.1.came.1 in
      at_store victim p cell (word_of content) _ _ a.2 (inl (subst IsNoCounter (sym got.0) tt)) ((show own p b victim (Push1 r) (Store cell content next) a).stores victim 0 cell content next a.0 got.3) got.2
  push1_step own p b victim r (Exchange cell old new next) a =
      let keeps : Push1Keeps i root input S t p r = push1_row_keeps i fair root input S t law p a.1.holds.place r (own_kind _ _ a.1.kind a.2) in
      let got = keeps.exchanges own b a.1.came.0 0 cell old new next a.1.came.1 in
      let unseen = look_cell i.shape cell (subst IsLookCell (sym got.0) tt) a.1.there in
      arrives (Step victim) _ t ((show own p b victim (Push1 r) (Exchange cell old new next) a).unseen_exchanges victim 0 cell old new next a.0 unseen) got.1

  push2_step : (own p b victim r : ℕ) (row : Row) → At own p b victim (Push2 r) row → Done victim (tree_with i S.words words (IsWithin (kind_seat own p (Push2 r) b) row) t)
  push2_step own p b victim r (Now next) a =
      let keeps : Push2Keeps i root input S t p r = push2_row_keeps i fair root input S t law p a.1.holds.place r (own_kind _ _ a.1.kind a.2) in
      end_step own p b victim (Push2 r) (λ next. t)
      (λ point a. arrives (Step victim) _ t ((show own p b victim (Push2 r) (Now (Load point)) a).loads victim point a.0)
      (keeps.loads own b (found_at i.shape (kind_seat own p (Push2 r) b) victim point (content_of (reading_at point) (read i.shape words (cell_at (kind_seat own p (Push2 r) b) victim point)))))) (λ q. refl)
      (λ next a ends. keeps.installs own b a.1.came.0 next ends a.1.came.1) next a
  push2_step own p b victim r (Store cell content next) a =
      absurd ((push2_row_keeps i fair root input S t law p a.1.holds.place r (own_kind _ _ a.1.kind a.2)).stores_none own b a.1.came.0 cell content next a.1.came.1)
  push2_step own p b victim r (Exchange cell old new next) a = by (read i.shape words cell == word_of old)
    where
      by : (made : Bool) → Done victim (by_exchange S.words p (Push2 r) made t)
      by made =
          let keeps : Push2Keeps i root input S t p r = push2_row_keeps i fair root input S t law p a.1.holds.place r (own_kind _ _ a.1.kind a.2) in
          let got = keeps.exchanges own b a.1.came.0 0 cell old new next a.1.came.1 in
          let unseen = look_cell i.shape cell (subst IsLookCell (sym got.0) tt) a.1.there in
          arrives (Step victim) _ _ ((show own p b victim (Push2 r) (Exchange cell old new next) a).unseen_exchanges victim 0 cell old new next a.0 unseen) (two made got.1 got.2)
        where
          two : (made : Bool) → {z : State} → Kept z t → Kept z (over_left p (pushed WaitingLeaf) t) → Kept z (by_exchange S.words p (Push2 r) made t)
          two true lost_ won = won
          two false lost_ won = lost_

  -- a place without a strand
  module _ (own p b victim : ℕ) (k : RestartKind) (idle : IsIdle k) where
    abbrev sits : Seat
    sits = kind_seat own p k b

    takes_of : (row : Row) → At own p b victim k row → TakeKeeps i root input S t p k
    takes_of row a = take_rows_keep i fair root input S t law p a.1.holds.place k (own_kind _ _ a.1.kind a.2) idle

    came_of : (row : Row) → At own p b victim k row → (n : ℕ) × Comes i.shape sits n (row_of i.shape sits k) row
    came_of row a = came_idle i.shape sits k row idle a.1.came

    looks : (row : Row) → At own p b victim k row → LookRow i.shape k row
    looks row a = let q = came_of row a in comes_look i.shape sits k q.0 (row_of i.shape sits k) row (look_begins i.shape sits k idle) q.1

    -- the offset of a branch that waits is a word of the tree
    offset_cell : (p_there : p < i.shape.processors) (r : ℕ) → IsWaiting t r → IsLoadable i S p (offset_word r)
    offset_cell p_there r waits =
        let g = find_wait r p waits.0 Root t (law.apart r) waits.1 in
        in_part i fair root input S t law p p_there g.around (Forking g.frame g.slots g.copy r g.left (Leaf WaitingLeaf g.stand waits.0 g.low_slots)) g.is (r + 4)
        (let one = inside_at (r + 4) 1 (r + 4) 0 (omega arith) (omega arith) in omega (arith, one))

    at_offset : (r x : ℕ) → At own p b victim k (Now (Load (Offset r x))) → Done victim t
    at_offset r x a =
        let waits = a.1.takes (looks (Now (Load (Offset r x))) a) in
        load_step own p b victim k (Offset r x) a (offset_cell a.1.holds.place r waits) ((takes_of (Now (Load (Offset r x))) a).offsets own b victim r x waits)

    idle_load : (point : RowPoint) → At own p b victim k (Now (Load point)) → Done victim t
    idle_load point a = elim (offset_or point) [
      | inl o ↦ subst (λ (x : RowPoint). At own p b victim k (Now (Load x)) → Done victim t) (sym o.is) (at_offset o.block o.bottom) a
      | inr out ↦ let w = content_of (reading_at point) (read i.shape words (cell_at sits victim point)) in
          arrives (Step victim) _ t ((show own p b victim k (Now (Load point)) a).loads victim point a.0)
          ((takes_of (Now (Load point)) a).loads own b (found_at i.shape sits victim point w) (λ r f x e. absurd (no_begin i.shape sits k point (looks (Now (Load point)) a) out victim w r f x e)))
    ]

    -- nothing is inherited
    not_both : i.shape.takeover ≡ ByPlaces → i.shape.takeover ≡ ByEntries → ⊥
    not_both plain e = let x : ByPlaces ≡ ByEntries = sym plain ∙ e in cc

    idle_check : (k : RestartKind) (r : Restart) → IsCheck k → LooksOn k (Now (Install r)) → IsIdle r.kind
    idle_check (Check v x) r is on = on
    idle_check _ r is on = absurd is

    no_check : (k : RestartKind) (r : ℕ) → IsCheck k → LooksOn k (Now (Fork r)) → ⊥
    no_check (Check v x) r is on = on
    no_check _ r is on = absurd is

    idle_ends : (next : Then) → At own p b victim k (Now next) → Ends next → Kept (installs S p (kind_then next)) (by_end p k next t)
    idle_ends (Install r) a ends = let q = came_of (Now (Install r)) a in let keeps = takes_of (Now (Install r)) a in
        subst (Kept (installs S p r.kind)) (sym (idle_end p k (Install r) t idle tt)) (elim (keeps.ends own b q.0 (Install r) tt q.1) [
          | inl other ↦ keeps.installs r.kind other
          | inr f ↦ keeps.installs r.kind (elim a.3 [ inl plain ↦ absurd (not_both plain f.0) | inr on ↦ idle_check k r f.1 on ])
        ])
    idle_ends (Fork r) a ends =
        let q = came_of (Now (Fork r)) a in
        let f = (takes_of (Now (Fork r)) a).ends own b q.0 (Fork r) tt q.1 in
        absurd (elim a.3 [ inl plain ↦ not_both plain f.0 | inr on ↦ no_check k r f.1 on ])
    idle_ends (Begin r f x) a ends =
        let taker = looks (Now (Begin r f x)) a in
        subst (Kept (installs S p (Run f 0))) (sym (idle_begin p k r f x t idle taker))
        ((takes_of (Now (Begin r f x)) a).begins r f x taker (does_row own p b victim k (Now (Begin r f x)) a) (alone_left p r (a.1.takes taker)))
    idle_ends (Load x) a ends = absurd ends
    idle_ends (Move x) a ends = absurd ends
    idle_ends (Enter x) a ends = absurd ends
    idle_ends Again a ends = absurd ends
    idle_ends Broken a ends = absurd ends

    idle_step : (row : Row) → At own p b victim k row → Done victim (tree_with i S.words words (IsWithin sits row) t)
    idle_step (Now next) a = end_step own p b victim k (λ next. by_end p k next t)
        (λ point a. subst (Done victim) (sym (idle_end p k (Load point) t idle tt)) (idle_load point a)) (λ q. idle_end p k (Move q) t idle tt) idle_ends next a
    idle_step (Store cell content next) a = let q = came_of (Store cell content next) a in let l = looks (Store cell content next) a in
        subst (Done victim) (sym (idle_store p k t idle))
        (arrives (Step victim) _ t ((show own p b victim k (Store cell content next) a).unseen_stores victim 0 cell content next a.0 (look_cell i.shape cell l.0 a.1.there))
        ((takes_of (Store cell content next) a).stores own b q.0 0 cell content next q.1).1)
    idle_step (Exchange cell old new next) a = let q = came_of (Exchange cell old new next) a in let l = looks (Exchange cell old new next) a in
        subst (Done victim) (sym (idle_exchange S.words p k (read i.shape words cell == word_of old) t idle))
        (arrives (Step victim) _ t ((show own p b victim k (Exchange cell old new next) a).unseen_exchanges victim 0 cell old new next a.0 (look_cell i.shape cell l.0 a.1.there))
        ((takes_of (Exchange cell old new next) a).exchanges own b q.0 0 cell old new next q.1).1)

  -- by its kind
  row_step : (own p b victim : ℕ) (k : RestartKind) (row : Row) → At own p b victim k row → Done victim (tree_with i S.words words (IsWithin (kind_seat own p k b) row) t)
  row_step own p b victim (Run f y) row a = run_step own p b victim f y row a
  row_step own p b victim (Bump r) row a = bump_step own p b victim r row a
  row_step own p b victim (Push1 r) row a = push1_step own p b victim r row a
  row_step own p b victim (Push2 r) row a = push2_step own p b victim r row a
  row_step own p b victim (Unwind f) row a = unwind_step own p b victim f row a
  row_step own p b victim (Arrive r d) row a = arrive_step own p b victim r d row a
  row_step own p b victim (Join r d) row a = join_step own p b victim r d row a
  row_step own p b victim Pop1 row a = idle_step own p b victim Pop1 tt row a
  row_step own p b victim (Pop2 r) row a = idle_step own p b victim (Pop2 r) tt row a
  row_step own p b victim Seek row a = idle_step own p b victim Seek tt row a
  row_step own p b victim (Steal v x) row a = idle_step own p b victim (Steal v x) tt row a
  row_step own p b victim (Check v x) row a = idle_step own p b victim (Check v x) tt row a
  row_step own p b victim (Take v x) row a = idle_step own p b victim (Take v x) tt row a
  row_step own p b victim (Take2 v) row a = idle_step own p b victim (Take2 v) tt row a

  -- a capsule
  abbrev InRestAt : (own p b : ℕ) → RestartKind → Rest → Type 0
  InRestAt own p b k rest = (stand_of state c ≡ IsRunning (kind_seat own p k b) rest) × InRestSo i state c (kind_seat own p k b) rest × IsAway l p

  does_rest : (own p b : ℕ) (k : RestartKind) (rest : Rest) → InRestAt own p b k rest → S.doing p ≡ InRest rest
  does_rest own p b k rest a = doing_own p a.1.holds (IsRunning (kind_seat own p k b) rest) a.0 refl

  capsule_step : (own p b victim f y : ℕ) (rest : Rest) → InRestAt own p b (Run f y) rest → Done victim (tree_with i S.words words (IsRunning (kind_seat own p (Run f y) b) rest) t)
  capsule_step own p b victim f y (Loads cell next) a =
      let sits = kind_seat own p (Run f y) b in
      let de = does_rest own p b (Run f y) (Loads cell next) a in
      let is = (all_loads_show i fair root input S t law p a.1.holds.place).capsules f y cell next (own_kind _ _ a.1.kind a.2) de a.1.there in
      arrives (Step victim) (goes P p (went_rest i.shape sits (read i.shape words cell) (Loads cell next))) t
      (((turns_show i.shape i.code state c).0 sits a.1.holds).1.loads victim cell next a.0)
      (subst (λ (w : ℕ). Kept (goes S p (went_rest i.shape sits w (Loads cell next))) t) (found_is p cell a.2 is)
      ((run_row_keeps i fair root input S t law p a.1.holds.place f y (own_kind _ _ a.1.kind a.2)).loads sits cell next de))
  capsule_step own p b victim f y (Stores cell content next) a =
      let sits = kind_seat own p (Run f y) b in
      let de = does_rest own p b (Run f y) (Stores cell content next) a in
      let keeps : RunKeeps i root input S t p f y = run_row_keeps i fair root input S t law p a.1.holds.place f y (own_kind _ _ a.1.kind a.2) in
      let is = stores_are_cells i fair root input S t law p a.1.holds.place f y (own_kind _ _ a.1.kind a.2) cell (keeps.cells cell content next de) a.1.there in
      at_store victim p cell (word_of content) _ t a.2 (inl (may_steady i S.words p f y cell (keeps.cells cell content next de))) (((turns_show i.shape i.code state c).0 sits a.1.holds).1.stores victim 0 cell content next a.0 is) (keeps.stores sits cell content next 0 de)
  capsule_step own p b victim f y Full a =
      arrives_so (Step victim) (fills P p) (fills S p) t (((turns_show i.shape i.code state c).0 (kind_seat own p (Run f y) b) a.1.holds).1.full victim a.0) (fills_left i root input P l apart p) (run_row_keeps i fair root input S t law p a.1.holds.place f y (own_kind _ _ a.1.kind a.2)).full
  capsule_step own p b victim f y (Installs kind) a =
      at_install victim p kind _ a.2 (((turns_show i.shape i.code state c).0 (kind_seat own p (Run f y) b) a.1.holds).1.installs victim kind a.0 a.1.there)
      ((run_row_keeps i fair root input S t law p a.1.holds.place f y (own_kind _ _ a.1.kind a.2)).installs kind (a.1.counts kind refl) (does_rest own p b (Run f y) (Installs kind) a))
  capsule_step own p b victim f y Breaks a = absurd (let e = a.1.there in cc)

  going_none : (p : ℕ) (k : RestartKind) (rest : Rest) → S.kind p ≡ k → S.doing p ≡ InRest rest → Does i S.words p k (InRest rest)
  going_none p k rest ke de = subst₂ (λ (k : RestartKind) (d : Doing). Does i S.words p k d) ke de (law.does p)

  rest_step : (own p b victim : ℕ) (k : RestartKind) (rest : Rest) → InRestAt own p b k rest → Done victim (tree_with i S.words words (IsRunning (kind_seat own p k b) rest) t)
  rest_step own p b victim (Run f y) rest a = capsule_step own p b victim f y rest a
  rest_step own p b victim (Bump r) rest a = absurd (going_none p (Bump r) rest (own_kind _ _ a.1.kind a.2) (does_rest own p b (Bump r) rest a))
  rest_step own p b victim (Push1 r) rest a = absurd (going_none p (Push1 r) rest (own_kind _ _ a.1.kind a.2) (does_rest own p b (Push1 r) rest a))
  rest_step own p b victim (Push2 r) rest a = absurd (going_none p (Push2 r) rest (own_kind _ _ a.1.kind a.2) (does_rest own p b (Push2 r) rest a))
  rest_step own p b victim (Unwind f) rest a = absurd (going_none p (Unwind f) rest (own_kind _ _ a.1.kind a.2) (does_rest own p b (Unwind f) rest a))
  rest_step own p b victim (Arrive r d) rest a = absurd (going_none p (Arrive r d) rest (own_kind _ _ a.1.kind a.2) (does_rest own p b (Arrive r d) rest a))
  rest_step own p b victim (Join r d) rest a = absurd (going_none p (Join r d) rest (own_kind _ _ a.1.kind a.2) (does_rest own p b (Join r d) rest a))
  rest_step own p b victim Pop1 rest a = absurd (going_none p Pop1 rest (own_kind _ _ a.1.kind a.2) (does_rest own p b Pop1 rest a))
  rest_step own p b victim (Pop2 r) rest a = absurd (going_none p (Pop2 r) rest (own_kind _ _ a.1.kind a.2) (does_rest own p b (Pop2 r) rest a))
  rest_step own p b victim Seek rest a = absurd (going_none p Seek rest (own_kind _ _ a.1.kind a.2) (does_rest own p b Seek rest a))
  rest_step own p b victim (Steal v x) rest a = absurd (going_none p (Steal v x) rest (own_kind _ _ a.1.kind a.2) (does_rest own p b (Steal v x) rest a))
  rest_step own p b victim (Check v x) rest a = absurd (going_none p (Check v x) rest (own_kind _ _ a.1.kind a.2) (does_rest own p b (Check v x) rest a))
  rest_step own p b victim (Take v x) rest a = absurd (going_none p (Take v x) rest (own_kind _ _ a.1.kind a.2) (does_rest own p b (Take v x) rest a))
  rest_step own p b victim (Take2 v) rest a = absurd (going_none p (Take2 v) rest (own_kind _ _ a.1.kind a.2) (does_rest own p b (Take2 v) rest a))

  -- a row begins
  module _ (p b : ℕ) (p_there : p < i.shape.processors) where
    within_kept : (k : RestartKind) (row : Row) → Kept (goes S p (within_if (kind_seat c p k b) row true)) t → (x : Bool) → Kept (goes S p (within_if (kind_seat c p k b) row x)) t
    within_kept k row kept true = kept
    within_kept k row kept false = rests_kept p (IsBroken p) tt

    idle_begins : (k : RestartKind) → IsIdle k → S.kind p ≡ k → Kept (goes S p (stands i.shape i.code (kind_seat c p k b) (row_of i.shape (kind_seat c p k b) k))) t
    idle_begins k idle ke = (take_rows_keep i fair root input S t law p p_there k ke idle).loads c b (row_of i.shape (kind_seat c p k b) k) (λ r f x e. absurd (starts_none i.shape (kind_seat c p k b) k idle r f x e))

    kind_begins : (k : RestartKind) → S.kind p ≡ k → Kept (goes S p (stands i.shape i.code (kind_seat c p k b) (row_of i.shape (kind_seat c p k b) k))) t
    kind_begins (Run f y) ke = within_kept (Run f y) _ ((run_row_keeps i fair root input S t law p p_there f y ke).begins c b) (then_is_there i.shape (kind_seat c p (Run f y) b) (Load (Header f y)))
    kind_begins (Bump r) ke = within_kept (Bump r) _ ((bump_row_keeps i fair root input S t law p p_there r ke).begins c b) (then_is_there i.shape (kind_seat c p (Bump r) b) (Load (BumpLink r)))
    kind_begins (Push1 r) ke = (push1_row_keeps i fair root input S t law p p_there r ke).loads c b (row_of i.shape (kind_seat c p (Push1 r) b) (Push1 r))
    kind_begins (Push2 r) ke = (push2_row_keeps i fair root input S t law p p_there r ke).loads c b (row_of i.shape (kind_seat c p (Push2 r) b) (Push2 r))
    kind_begins (Unwind f) ke = within_kept (Unwind f) _ ((unwind_row_keeps i fair root input S t law p p_there f ke).begins c b) _
    kind_begins (Arrive r d) ke = within_kept (Arrive r d) _ ((arrive_row_keeps i fair root input S t law p p_there r d ke).begins c b) _
    kind_begins (Join r d) ke = within_kept (Join r d) _ ((join_row_keeps i fair root input S t law p p_there r d ke).begins c b) _
    kind_begins Pop1 ke = idle_begins Pop1 tt ke
    kind_begins (Pop2 r) ke = idle_begins (Pop2 r) tt ke
    kind_begins Seek ke = idle_begins Seek tt ke
    kind_begins (Steal v x) ke = idle_begins (Steal v x) tt ke
    kind_begins (Check v x) ke = idle_begins (Check v x) tt ke
    kind_begins (Take v x) ke = idle_begins (Take v x) tt ke
    kind_begins (Take2 v) ke = idle_begins (Take2 v) tt ke

  begins_kept : (p : ℕ) → Holds i.shape state c p → IsAway l p → (r : Option Restart) → IsKindIf i words p r → (finish : ℕ) → Kept (goes S p (at_finish i.shape i.code c p r finish)) t
  begins_kept p holds away r is (suc finish) = rests_kept p IsDone tt
  begins_kept p holds away None is zero = rests_kept p (IsBroken p) tt
  begins_kept p holds away (Some r) is zero = by (restart_is_there i.shape r)
    where
      by : (x : Bool) → Kept (goes S p (begins_if i.shape i.code (record { own = c; place = p; restart = r }) x)) t
      by true = kind_begins p r.bottom holds.place r.kind (own_kind p r.kind is away)
      by false = rests_kept p (IsBroken p) tt

  -- it leaves where it stands, for where it is in no place, with words that show the same
  leaves : (x : Standing) → stand_of state c ≡ x → is_done_at x ≡ false → LeavesSo i.shape state c x → (after : List ℕ) (y : Standing) → IsNowhere y → view i.shape after ≡ view i.shape words → kinds_of i.shape after ≡ kinds_of i.shape words
      → Kept (left i l (places_of i.shape (record { words = after; stand = slice_set state.stand c y }))) t
  leaves x e live so after y out a k = by x e so
    where
      alive : is_done_at (stand_of state c) ≡ false
      alive = ap is_done_at e ∙ live

      resting : (y : Standing) → IsNowhere y → NoRow (doing_of y)
      resting IsLost h = tt
      resting (IsPlaced p) h = tt
      resting (IsAt p r) h = tt
      resting (IsBroken p) h = tt
      resting IsDone h = tt
      resting (IsWithin chair row) h = absurd h
      resting (IsRunning chair rest) h = absurd h

      of_any : (p : ℕ) (y : Standing) → IsNowhere y → IsOf p y
      of_any p IsLost h = tt
      of_any p (IsPlaced q) h = tt
      of_any p (IsAt q r) h = tt
      of_any p (IsBroken q) h = tt
      of_any p IsDone h = tt
      of_any p (IsWithin chair row) h = absurd h
      of_any p (IsRunning chair rest) h = absurd h

      held : (p : ℕ) → Holds i.shape state c p → Kept (left i l (places_of i.shape (record { words = after; stand = slice_set state.stand c y }))) t
      held p holds = subst (λ (z : State). Kept (left i l z) t) (sym (moved i.shape i.code state c p holds alive after y (of_any p y out) (view i.shape words) (kinds_of i.shape words) a k)) (rests_kept p y (resting y out))

      free : IsNowhere (stand_of state c) → Kept (left i l (places_of i.shape (record { words = after; stand = slice_set state.stand c y }))) t
      free was = subst (λ (z : State). Kept (left i l z) t) (sym (bare i.shape i.code state c after y alive was out a k)) law

      by : (x : Standing) → stand_of state c ≡ x → LeavesSo i.shape state c x → Kept (left i l (places_of i.shape (record { words = after; stand = slice_set state.stand c y }))) t
      by (IsWithin chair row) e so = held chair.place so
      by (IsRunning chair rest) e so = held chair.place so
      by IsLost e so = free (subst IsNowhere (sym e) tt)
      by (IsPlaced p) e so = free (subst IsNowhere (sym e) tt)
      by (IsAt p r) e so = free (subst IsNowhere (sym e) tt)
      by (IsBroken p) e so = free (subst IsNowhere (sym e) tt)
      by IsDone e so = free (subst IsNowhere (sym e) tt)

  -- a finish that is proposed
  abbrev Proposed : (v : Finish) → Standing → Bool → Machine
  Proposed v y b = record { words = if b then slice_set words 0 (finish_word v) else words; stand = slice_set state.stand c y }

  proposes : IsPresent i.shape state c → (x : Standing) → stand_of state c ≡ x → is_done_at x ≡ false → LeavesSo i.shape state c x → (v : Finish) → IsFinish v → IsStop v → (y : Standing) → IsNowhere y
      → (b : Bool) → (slice_index words 0 == 0) ≡ b → Kept (left i l (places_of i.shape (Proposed v y b))) t
  proposes here x e live so v fit stop y out true be =
      let went : Machine = record { words = words; stand = slice_set state.stand c y } in
      let seen = sym (cells_are_viewed i.shape words FinishWord (finish_word v) here.words refl) in
      let kinds = sym (kinds_stay i.shape words FinishWord (finish_word v) tt (λ q z. cc)) in
      let first : S.words FinishWord ≡ 0 = left_same i l P.words FinishWord (λ u h. tt) ∙ view_is i.shape words FinishWord refl ∙ eqb-true (slice_index words 0) 0 be in
      let stopped = stop_kept i fair root input (left i l (places_of i.shape went)) t (leaves x e live so words y out refl refl) (finish_word v) first (stop_says v fit stop) in
      subst (λ (z : State). Kept (left i l z) t) (λ k. record { words = seen k; kind = kinds k; doing = (places_of i.shape went).doing })
      (subst (λ (w : Cell → ℕ). Kept (record { words = w; kind = S.kind; doing = (places_of i.shape went).doing }) t) (sym (left_write i l P.words FinishWord (finish_word v) (λ u h. tt))) stopped)
  proposes here x e live so v fit stop y out false be = leaves x e live so words y out refl refl

  -- an act, by where the processor stands
  abbrev GoalAt : Act → Standing → Type 0
  GoalAt act x = Kept (left i l (places_of i.shape (acts i.shape i.code state c act x))) (act_with i S.words words act x t)

  at_stand : (act : Act) (x : Standing) (v : Skeleton) → stand_of state c ≡ x → Kept (left i l (acted i.shape i.code state c act)) v → Kept (left i l (places_of i.shape (acts i.shape i.code state c act x))) v
  at_stand act x v e kept = subst (λ (y : Standing). Kept (left i l (places_of i.shape (acts i.shape i.code state c act y))) v) e kept

  step_act : (victim : ℕ) (x : Standing) → stand_of state c ≡ x → IsPresent i.shape state c → StandsSo i state t c x → StandsAway l x → InheritsNone i.shape.takeover x → GoalAt (Step victim) x
  step_act victim IsDone e here so away none = law
  step_act victim IsLost e here so away none = at_stand (Step victim) IsLost t e (arrives (Step victim) P t ((turns_show i.shape i.code state c).1.lost victim e) law)
  step_act victim (IsPlaced p) e here so away none = at_stand (Step victim) (IsPlaced p) t e (arrives (Step victim) P t ((turns_show i.shape i.code state c).1.placed victim p e) law)
  step_act victim (IsAt p r) e here so away none =
      at_stand (Step victim) (IsAt p r) t e (arrives (Step victim) (goes P p (at_finish i.shape i.code c p r (read i.shape words FinishWord))) t
      ((turns_show i.shape i.code state c).1.begins victim p r e so.0) (begins_kept p so.0 away r so.1 (read i.shape words FinishWord)))
  step_act victim (IsWithin chair row) e here so away none =
      at_stand (Step victim) (IsWithin chair row) (tree_with i S.words words (IsWithin chair row) t) e (row_step chair.own chair.place chair.restart.bottom victim chair.restart.kind row (e, so, away, none))
  step_act victim (IsRunning chair rest) e here so away none =
      at_stand (Step victim) (IsRunning chair rest) (tree_with i S.words words (IsRunning chair rest) t) e (rest_step chair.own chair.place chair.restart.bottom victim chair.restart.kind rest (e, so, away))
  step_act victim (IsBroken p) e here so away none = proposes here (IsBroken p) e refl tt (BrokenAt p) so tt IsDone tt (slice_index words 0 == 0) refl

  soft_act : (x : Standing) → stand_of state c ≡ x → is_done_at x ≡ false → LeavesSo i.shape state c x → Kept (left i l (places_of i.shape (record { words = words; stand = slice_set state.stand c IsLost }))) t
  soft_act x e live so = leaves x e live so words IsLost tt refl refl

  hard_act : IsPresent i.shape state c → (x : Standing) → stand_of state c ≡ x → is_done_at x ≡ false → LeavesSo i.shape state c x → Kept (left i l (places_of i.shape (record { words = write i.shape words (DeadWord c) 1; stand = slice_set state.stand c IsDone }))) t
  hard_act here x e live so = let out = dead_unseen i.shape i.code state c here.there in
      leaves x e live so (write i.shape words (DeadWord c) 1) IsDone tt (others_are_unseen i.shape words (DeadWord c) 1 out.there out.no_frame) (kinds_stay i.shape words (DeadWord c) 1 out.there out.no_restart)

  quit_fits : (why : Why) → c < i.shape.processors → IsFinish (quit_with c why) × IsStop (quit_with c why)
  quit_fits Turns lt = let few = i.shape.within.processors_most in (omega (arith, few, lt), tt)
  quit_fits Watch lt = (tt, tt)

  quits : (why : Why) → IsPresent i.shape state c → (x : Standing) → stand_of state c ≡ x → is_done_at x ≡ false → LeavesSo i.shape state c x
      → Kept (left i l (places_of i.shape (Proposed (quit_with c why) IsLost (slice_index words 0 == 0)))) t
  quits why here x e live so = let fit = quit_fits why here.there in
      proposes here x e live so (quit_with c why) fit.0 fit.1 IsLost tt (slice_index words 0 == 0) refl

  act_step : (act : Act) (x : Standing) → stand_of state c ≡ x → ActsSo i state t c act x → StepsAway i l act x → GoalAt act x
  act_step (Step victim) x e so away = step_act victim x e so.0 so.1 away.0 away.1
  act_step Soft IsDone e so away = law
  act_step Soft IsLost e so away = soft_act IsLost e refl so.1
  act_step Soft (IsPlaced p) e so away = soft_act (IsPlaced p) e refl so.1
  act_step Soft (IsAt p r) e so away = soft_act (IsAt p r) e refl so.1
  act_step Soft (IsWithin chair row) e so away = soft_act (IsWithin chair row) e refl so.1
  act_step Soft (IsRunning chair rest) e so away = soft_act (IsRunning chair rest) e refl so.1
  act_step Soft (IsBroken p) e so away = soft_act (IsBroken p) e refl so.1
  act_step Hard IsDone e so away = law
  act_step Hard IsLost e so away = hard_act so.0 IsLost e refl so.1
  act_step Hard (IsPlaced p) e so away = hard_act so.0 (IsPlaced p) e refl so.1
  act_step Hard (IsAt p r) e so away = hard_act so.0 (IsAt p r) e refl so.1
  act_step Hard (IsWithin chair row) e so away = hard_act so.0 (IsWithin chair row) e refl so.1
  act_step Hard (IsRunning chair rest) e so away = hard_act so.0 (IsRunning chair rest) e refl so.1
  act_step Hard (IsBroken p) e so away = hard_act so.0 (IsBroken p) e refl so.1
  act_step (Quit why) IsDone e so away = law
  act_step (Quit why) IsLost e so away = quits why so.0 IsLost e refl so.1
  act_step (Quit why) (IsPlaced p) e so away = quits why so.0 (IsPlaced p) e refl so.1
  act_step (Quit why) (IsAt p r) e so away = quits why so.0 (IsAt p r) e refl so.1
  act_step (Quit why) (IsWithin chair row) e so away = quits why so.0 (IsWithin chair row) e refl so.1
  act_step (Quit why) (IsRunning chair rest) e so away = quits why so.0 (IsRunning chair rest) e refl so.1
  act_step (Quit why) (IsBroken p) e so away = quits why so.0 (IsBroken p) e refl so.1

pub turns_keep_left : TurnsKeepLeft
turns_keep_left i fair root input state l apart t law turn so away = act_step i fair root input state l apart t law turn.processor turn.act (stand_of state turn.processor) refl so away

-- where none was followed
none_away : (how : Takeover) → how ≡ ByPlaces → (x : Standing) → StandsAway [] x × InheritsNone how x
none_away how plain IsLost = (tt, tt)
none_away how plain (IsPlaced p) = (tt, tt)
none_away how plain (IsAt p r) = (tt, tt)
none_away how plain (IsWithin seat row) = (tt, inl plain)
none_away how plain (IsRunning seat rest) = (tt, tt)
none_away how plain (IsBroken p) = (tt, tt)
none_away how plain IsDone = (tt, tt)

pub act_away : (i : Setting) → i.shape.takeover ≡ ByPlaces → (act : Act) (x : Standing) → StepsAway i [] act x
act_away i plain (Step victim) x = none_away i.shape.takeover plain x
act_away i plain Soft x = tt
act_away i plain Hard x = tt
act_away i plain (Quit why) x = tt

pub turns_keep_on : TurnsKeepOn
turns_keep_on i fair plain root input state t law turn so = turns_keep_left i fair root input state [] tt t law turn so (act_away i plain turn.act (stand_of state turn.processor))

pub turns_keep : TurnsKeep
turns_keep i fair plain root input state t law turn so = inl (turns_keep_on i fair plain root input state t law turn so)
