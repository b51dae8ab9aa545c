-- The blocks that were forked stay below what a place may still open, over each whole turn.
use Rattle.std.proofs.Common.{◌≡◌, ◌⊎◌, ◌<◌, ℕ, ◌==◌, cond, Bool, true, false, List, [], inl, inr, refl, sym, ap, ◌∙◌, subst, subst₂, slice_set}
use Rattle.std.specs.Prelude.{slice_index, if◌then◌else◌}
use Rattle.ppm_strands.specs.Tree.{Words, Tree}
use Rattle.ppm_cells.specs.Finish.{finish_word}
use Rattle.ppm_cells.specs.Memory.{write}
use Rattle.ppm_cells.specs.declared.cell.Cell.{Cell}
use Rattle.ppm_cells.specs.declared.cell.Cell.TheVariants.{FinishWord, DeadWord, RoomCounter}
use Rattle.ppm_cells.specs.declared.finish.Finish.{Finish}
use Rattle.ppm_cells.specs.declared.finish.Finish.TheVariants.{OutOfRoom, Broken as BrokenAt}
use Rattle.ppm_cells.specs.declared.restart.RestartKind.{RestartKind}
use Rattle.ppm_cells.specs.declared.restart.RestartKind.TheVariants.{Run, Bump, Push1, Push2, Unwind, Arrive, Join, Pop1, Pop2, Seek, Steal, Check, Take, Take2}
use Rattle.ppm_cells.specs.declared.shape.Takeover.TheVariants.{ByPlaces}
use Rattle.ppm_cells.specs.declared.side.Side.{Side}
use Rattle.ppm_strands.specs.Strand.{Frame}
use Rattle.ppm_code.specs.Strands.{Point, Result}
use Rattle.ppm_code.specs.declared.location.FrameWord.{FrameWord}
use Rattle.ppm_step.specs.Contents.{word_of}
use Rattle.ppm_step.specs.Frames.{Rest, Loads, Stores, Full, Installs, Breaks}
use Rattle.ppm_step.specs.Rows.{row_of}
use Rattle.ppm_step.specs.Standings.{Standing, IsLost, IsPlaced, IsAt, IsWithin, IsRunning, IsBroken, IsDone, went_row}
use Rattle.ppm_step.specs.State.{State as Machine, stand_of, quit_with, acts, fork_row, row_by, step_by}
use Rattle.ppm_step.specs.declared.content.Content.{Content}
use Rattle.ppm_step.specs.declared.row.Point.{Point as RowPoint}
use Rattle.ppm_step.specs.declared.row.Point.TheVariants.{Header}
use Rattle.ppm_step.specs.declared.row.Row.{Row}
use Rattle.ppm_step.specs.declared.row.Row.TheVariants.{Now, Store, Exchange}
use Rattle.ppm_step.specs.declared.row.Seat.{Seat}
use Rattle.ppm_step.specs.declared.row.Then.{Then}
use Rattle.ppm_step.specs.declared.row.Then.TheVariants.{Load, Install, Fork, Begin, Move, Enter, Again, Broken}
use Rattle.ppm_step.specs.declared.turn.Act.{Act}
use Rattle.ppm_step.specs.declared.turn.Act.TheVariants.{Step, Soft, Hard, Quit}
use Rattle.ppm_frames.specs.Views.{written as store, is_cell, view}
use Rattle.ppm_frames.specs.Skeletons.{Skeleton}
use Rattle.ppm_frames.proofs.ViewLemmas.{cells_are_viewed, others_are_unseen}
use Rattle.ppm_kept.specs.Running.{IsFair}
use Rattle.ppm_kept.specs.Kept.{Setting, owner, Doing, InRow, InRest, State, Under, Does, IsKept}
use Rattle.ppm_kept.specs.Moves.{doing_of, goes, stores, installs}
use Rattle.ppm_kept.specs.Laws.{Ends, kind_then}
use Rattle.ppm_kept.specs.Others.{IsIdle}
use Rattle.ppm_kept.specs.Pushing.{Comes, kind_seat}
use Rattle.ppm_kept.specs.Takes.{IsCheck}
use Rattle.ppm_kept.specs.Births.{Births, IsNoCounter, IsSteady, SteadyThen, SteadyRow, BirthsStay}
use Rattle.ppm_kept.specs.Places.{kinds_of, places_of, IsOf, Holds, IsUnseen, acted, RowShows}
use Rattle.ppm_kept.specs.Steps.{InRowSo, InRestSo, IsPresent, StandsSo, ActsSo}
use Rattle.ppm_kept.specs.Bearing.{with_blocks, TurnsBear, TurnsBearLeft}
use Rattle.ppm_kept.specs.Left.{Followed, left_words, left, IsAway, AreApart, StandsAway, LooksOn, InheritsNone, StepsAway}
use Rattle.ppm_kept.proofs.Rows.{run_row_keeps, bump_row_keeps}
use Rattle.ppm_kept.proofs.UnwindRow.{unwind_row_keeps}
use Rattle.ppm_kept.proofs.PushRows.{push1_row_keeps, push2_row_keeps}
use Rattle.ppm_kept.proofs.ArriveRow.{arrive_row_keeps}
use Rattle.ppm_kept.proofs.JoinLastRow.{join_row_keeps}
use Rattle.ppm_kept.proofs.LookLemmas.{LookRow, IsLookCell, comes_look, look_begins}
use Rattle.ppm_kept.proofs.LoadLemmas.{bump_exchanges_none}
use Rattle.ppm_kept.proofs.StateLemmas.{doing_here, dead_unseen, kinds_stay, turns_show}
use Rattle.ppm_kept.proofs.StepRows.{look_cell, came_idle, act_away}
use Rattle.ppm_kept.proofs.LeftLemmas.{kind_away, counters_left, installs_left, counter_left}
use Rattle.ppm_kept.proofs.TurnLemmas.{stores_are_cells}
use Rattle.ppm_kept.proofs.BirthLemmas.{same_floor, counter_same, births_stay}
use Rattle.ppm_kept.proofs.CounterLemmas.{steady_reached, store_reached, idle_steady, may_steady}
use Rattle.ppm_kept.proofs.SteadyLemmas.{rows_are_steady}

module _ (i : Setting) (fair : IsFair i.code) (root : Tree (Frame FrameWord Point) Result) (input : Words) (state : Machine) (l : List Followed) (apart : AreApart l) (t : Skeleton)
    (law : IsKept i root input (left i l (places_of i.shape state)) t) (born : ℕ → Bool) (births : Births i (left i l (places_of i.shape state)) born) (c : ℕ) where
  -- the places, and the same with those that were followed left out
  abbrev P : State
  P = places_of i.shape state

  abbrev S : State
  S = left i l P

  abbrev words : List ℕ
  words = state.words

  stay : (p : ℕ) → BirthsStay i S p born
  stay p = births_stay i fair root input S t law born births p

  abbrev Done : (victim : ℕ) → (ℕ → Bool) → Type 0
  Done victim some = Births i (left i l (acted i.shape i.code state c (Step victim))) some

  arrives : (victim : ℕ) (some : ℕ → Bool) (z : State) → acted i.shape i.code state c (Step victim) ≡ z → Births i (left i l z) some → Done victim some
  arrives victim some z e b = subst (λ (w : State). Births i (left i l w) some) (sym e) b

  own_kind : (p : ℕ) (k : RestartKind) → P.kind p ≡ k → IsAway l p → S.kind p ≡ k
  own_kind p k e away = kind_away l P.kind p away ∙ e

  -- words with the same counters
  words_left : (n : Cell → ℕ) (d : ℕ → Doing) → ((q : ℕ) → n (RoomCounter q) ≡ P.words (RoomCounter q)) → Births i (left i l (record { words = n; kind = P.kind; doing = d })) born
  words_left n d same = record {
    below = λ x b. subst (λ (a : ℕ). x < a) (sym (same_floor S.words (left_words i l n) (owner i x) (counters_left i l P.words n (owner i x) (same (owner i x))) (S.kind (owner i x)))) (births.below x b);
    homes = births.homes;
  }

  maybe_left : (b : Bool) (cell : Cell) (w : ℕ) (d : ℕ → Doing) → IsNoCounter cell → Births i (left i l (record { words = cond b (store P.words cell w) P.words; kind = P.kind; doing = d })) born
  maybe_left true cell w d none = words_left (store P.words cell w) d (λ q. counter_same P.words cell w q none)
  maybe_left false cell w d none = words_left P.words d (λ q. refl)

  doing_own : (p : ℕ) → Holds i.shape state c p → (x : Standing) → stand_of state c ≡ x → IsOf p x → S.doing p ≡ doing_of x
  doing_own p holds x e of = doing_here (stand_of state) (stand_of state) c p x e (λ d ne. refl) holds.own of holds.others i.shape.processors holds.there

  -- a row
  module _ (own p b victim : ℕ) (k : RestartKind) where
    abbrev seat : Seat
    seat = kind_seat own p k b

    abbrev At : Row → Type 0
    At row = (stand_of state c ≡ IsWithin seat row) × InRowSo i state t c seat row × IsAway l p × ((i.shape.takeover ≡ ByPlaces) ⊎ LooksOn k row)

    show : (row : Row) → At row → RowShows i.shape i.code state c seat
    show row a = ((turns_show i.shape i.code state c).0 seat a.1.holds).0

    does_row : (row : Row) → At row → S.doing p ≡ InRow row
    does_row row a = doing_own p a.1.holds (IsWithin seat row) a.0 refl

    under_row : (row : Row) → At row → Under i S.words p k row
    under_row row a = subst₂ (λ (k : RestartKind) (d : Doing). Does i S.words p k d) (own_kind _ _ a.1.kind a.2) (does_row row a) (law.does p)

    goes_done : (x : Standing) → acted i.shape i.code state c (Step victim) ≡ goes P p x → Done victim born
    goes_done x e = arrives victim born (goes P p x) e ((stay p).goes_on x)

    load_done : (point : RowPoint) → At (Now (Load point)) → Done victim born
    load_done point a = goes_done _ ((show (Now (Load point)) a).loads victim point a.0)

    move_done : (q : ℕ) → At (Now (Move q)) → Done victim born
    move_done q a = goes_done IsLost ((show (Now (Move q)) a).moves victim q a.0 a.1.own)

    end_done : (next : Then) → Ends next → At (Now next) → Births i (installs S p (kind_then next)) (with_blocks (fork_row (Now next)) born) → Done victim (with_blocks (fork_row (Now next)) born)
    end_done next ends a after = arrives victim _ (installs P p (kind_then next)) ((show (Now next) a).installs victim next ends a.0 a.1.there)
        (subst (λ (w : State). Births i w (with_blocks (fork_row (Now next)) born)) (sym (installs_left i root input P l apart p (kind_then next) a.2)) after)

    -- of a kind that opens no block
    steady_now : (F : Type 0) → IsSteady k → ((r : ℕ) → At (Now (Fork r)) → F → ⊥) → (next : Then) → At (Now next) → SteadyThen F next → Done victim (with_blocks (fork_row (Now next)) born)
    steady_now F was none (Load point) a l = load_done point a
    steady_now F was none (Install r) a l = end_done (Install r) tt a ((stay p).installs_steady r.kind (subst IsSteady (sym (own_kind _ _ a.1.kind a.2)) was) l)
    steady_now F was none (Fork r) a l = absurd (none r a l)
    steady_now F was none (Begin r f x) a l = end_done (Begin r f x) tt a ((stay p).installs_steady (Run f 0) (subst IsSteady (sym (own_kind _ _ a.1.kind a.2)) was) tt)
    steady_now F was none (Move q) a l = move_done q a
    steady_now F was none (Enter x) a l = absurd (let e = a.1.there in cc)
    steady_now F was none Again a l = absurd (let e = a.1.there in cc)
    steady_now F was none Broken a l = absurd (let e = a.1.there in cc)

    store_done : (cell : Cell) (content : Content) (next : Then) → At (Store cell content next) → is_cell i.shape cell ≡ true → IsNoCounter cell → Done victim born
    store_done cell content next a is none = arrives victim born _ ((show (Store cell content next) a).stores victim 0 cell content next a.0 is) (words_left (store P.words cell (word_of content)) _ (λ q. counter_same P.words cell (word_of content) q none))

    exchange_done : (cell : Cell) (old new : Content) (next : Then) → At (Exchange cell old new next) → is_cell i.shape cell ≡ true → IsNoCounter cell → Done victim born
    exchange_done cell old new next a is none = arrives victim born _ ((show (Exchange cell old new next) a).exchanges victim 0 cell old new next a.0 is) (maybe_left (P.words cell == word_of old) cell (word_of new) _ none)

    unseen_store : (cell : Cell) (content : Content) (next : Then) → At (Store cell content next) → IsUnseen i.shape cell → Done victim born
    unseen_store cell content next a out = goes_done _ ((show (Store cell content next) a).unseen_stores victim 0 cell content next a.0 out)

    unseen_exchange : (cell : Cell) (old new : Content) (next : Then) → At (Exchange cell old new next) → IsUnseen i.shape cell → Done victim born
    unseen_exchange cell old new next a out = goes_done _ ((show (Exchange cell old new next) a).unseen_exchanges victim 0 cell old new next a.0 out)

  abbrev Bears : (own p b victim : ℕ) → RestartKind → Row → Type 0
  Bears own p b victim k row = At own p b victim k row → Done victim (with_blocks (fork_row row) born)

  run_step : (own p b victim f y : ℕ) (row : Row) → Bears own p b victim (Run f y) row
  run_step own p b victim f y row a = subst (Bears own p b victim (Run f y)) (sym (under_row own p b victim (Run f y) row a)) (λ a. load_done own p b victim (Run f y) (Header f y) a) a

  bump_step : (own p b victim r : ℕ) (row : Row) → Bears own p b victim (Bump r) row
  bump_step own p b victim r (Now (Load point)) a = load_done own p b victim (Bump r) point a
  bump_step own p b victim r (Now (Install x)) a = end_done own p b victim (Bump r) (Install x) tt a ((stay p).bump_installs r (Install x) (own_kind _ _ a.1.kind a.2) (does_row own p b victim (Bump r) (Now (Install x)) a) tt)
  bump_step own p b victim r (Now (Fork x)) a = end_done own p b victim (Bump r) (Fork x) tt a ((stay p).forks r x (own_kind _ _ a.1.kind a.2) (does_row own p b victim (Bump r) (Now (Fork x)) a)).3
  bump_step own p b victim r (Now (Begin x f z)) a = end_done own p b victim (Bump r) (Begin x f z) tt a ((stay p).bump_installs r (Begin x f z) (own_kind _ _ a.1.kind a.2) (does_row own p b victim (Bump r) (Now (Begin x f z)) a) tt)
  bump_step own p b victim r (Now (Move q)) a = move_done own p b victim (Bump r) q a
  bump_step own p b victim r (Now (Enter x)) a = absurd (let e = a.1.there in cc)
  bump_step own p b victim r (Now Again) a = absurd (let e = a.1.there in cc)
  bump_step own p b victim r (Now Broken) a = absurd (let e = a.1.there in cc)
  bump_step own p b victim r (Store cell content next) a =
      let de = does_row own p b victim (Bump r) (Store cell content next) a in
      let u = under_row own p b victim (Bump r) (Store cell content next) a in
      let is : cell ≡ RoomCounter p = store_reached i S.words p r u.0 u.1 (Store cell content next) u.2 in
      let cells = (bump_row_keeps i fair root input S t law p a.1.holds.place r (own_kind _ _ a.1.kind a.2)).cells cell content next de in
      let to : Standing = went_row i.shape i.code (kind_seat own p (Bump r) b) victim 0 (Store cell content next) in
      arrives victim born (stores P p cell (word_of content) to) ((show own p b victim (Bump r) (Store cell content next) a).stores victim 0 cell content next a.0 cells)
      (subst (λ (x : Cell). Births i (left i l (stores P p x (word_of content) to)) born) (sym is) (subst (λ (z : State). Births i z born) (sym (counter_left i root input P l apart p (word_of content) to a.2)) ((stay p).bumped r (word_of content) to (own_kind _ _ a.1.kind a.2))))
  bump_step own p b victim r (Exchange cell old new next) a =
      absurd (bump_exchanges_none i fair root input S t law p a.1.holds.place r (own_kind _ _ a.1.kind a.2) cell old new next (does_row own p b victim (Bump r) (Exchange cell old new next) a))

  push1_step : (own p b victim r : ℕ) (row : Row) → Bears own p b victim (Push1 r) row
  push1_step own p b victim r row a = by row a (rows_are_steady i.shape (kind_seat own p (Push1 r) b) a.1.came.0 (Push1 r) row tt a.1.came.1)
    where
      by : (row : Row) → At own p b victim (Push1 r) row → SteadyRow ⊥ row → Done victim (with_blocks (fork_row row) born)
      by (Now next) a l = steady_now own p b victim (Push1 r) ⊥ tt (λ x at_ f. f) next a l
      by (Store cell content next) a l =
          store_done own p b victim (Push1 r) cell content next a
          ((push1_row_keeps i fair root input S t law p a.1.holds.place r (own_kind _ _ a.1.kind a.2)).stores own b a.1.came.0 0 cell content next a.1.came.1).3 l.0
      by (Exchange cell old new next) a l =
          let got = (push1_row_keeps i fair root input S t law p a.1.holds.place r (own_kind _ _ a.1.kind a.2)).exchanges own b a.1.came.0 0 cell old new next a.1.came.1 in
          unseen_exchange own p b victim (Push1 r) cell old new next a (look_cell i.shape cell (subst IsLookCell (sym got.0) tt) a.1.there)

  push2_step : (own p b victim r : ℕ) (row : Row) → Bears own p b victim (Push2 r) row
  push2_step own p b victim r row a = by row a (rows_are_steady i.shape (kind_seat own p (Push2 r) b) a.1.came.0 (Push2 r) row tt a.1.came.1)
    where
      by : (row : Row) → At own p b victim (Push2 r) row → SteadyRow ⊥ row → Done victim (with_blocks (fork_row row) born)
      by (Now next) a l = steady_now own p b victim (Push2 r) ⊥ tt (λ x at_ f. f) next a l
      by (Store cell content next) a l =
          absurd ((push2_row_keeps i fair root input S t law p a.1.holds.place r (own_kind _ _ a.1.kind a.2)).stores_none own b a.1.came.0 cell content next a.1.came.1)
      by (Exchange cell old new next) a l =
          let got = (push2_row_keeps i fair root input S t law p a.1.holds.place r (own_kind _ _ a.1.kind a.2)).exchanges own b a.1.came.0 0 cell old new next a.1.came.1 in
          unseen_exchange own p b victim (Push2 r) cell old new next a (look_cell i.shape cell (subst IsLookCell (sym got.0) tt) a.1.there)

  unwind_step : (own p b victim f : ℕ) (row : Row) → Bears own p b victim (Unwind f) row
  unwind_step own p b victim f row a = by row a (steady_reached i S.words p (Unwind f) row tt (under_row own p b victim (Unwind f) row a))
    where
      by : (row : Row) → At own p b victim (Unwind f) row → SteadyRow ⊥ row → Done victim (with_blocks (fork_row row) born)
      by (Now next) a l = steady_now own p b victim (Unwind f) ⊥ tt (λ x at_ h. h) next a l
      by (Store cell content next) a l =
          store_done own p b victim (Unwind f) cell content next a
          ((unwind_row_keeps i fair root input S t law p a.1.holds.place f (own_kind _ _ a.1.kind a.2)).cells cell content next (does_row own p b victim (Unwind f) (Store cell content next) a)) l.0
      by (Exchange cell old new next) a l =
          exchange_done own p b victim (Unwind f) cell old new next a
          ((unwind_row_keeps i fair root input S t law p a.1.holds.place f (own_kind _ _ a.1.kind a.2)).exchange_cells cell old new next (does_row own p b victim (Unwind f) (Exchange cell old new next) a)) l.0

  arrive_step : (own p b victim r : ℕ) (d : Side) (row : Row) → Bears own p b victim (Arrive r d) row
  arrive_step own p b victim r d row a = by row a (steady_reached i S.words p (Arrive r d) row tt (under_row own p b victim (Arrive r d) row a))
    where
      by : (row : Row) → At own p b victim (Arrive r d) row → SteadyRow ⊥ row → Done victim (with_blocks (fork_row row) born)
      by (Now next) a l = steady_now own p b victim (Arrive r d) ⊥ tt (λ x at_ h. h) next a l
      by (Store cell content next) a l =
          absurd ((arrive_row_keeps i fair root input S t law p a.1.holds.place r d (own_kind _ _ a.1.kind a.2)).stores_none cell content next (does_row own p b victim (Arrive r d) (Store cell content next) a))
      by (Exchange cell old new next) a l =
          exchange_done own p b victim (Arrive r d) cell old new next a
          ((arrive_row_keeps i fair root input S t law p a.1.holds.place r d (own_kind _ _ a.1.kind a.2)).cells cell old new next (does_row own p b victim (Arrive r d) (Exchange cell old new next) a)) l.0

  join_step : (own p b victim r : ℕ) (d : Side) (row : Row) → Bears own p b victim (Join r d) row
  join_step own p b victim r d row a = by row a (elim (under_row own p b victim (Join r d) row a) [
    | inl reached ↦ steady_reached i S.words p (Join r d) row tt reached
    | inr last ↦ subst (SteadyRow ⊥) (sym last.is) tt
  ])
    where
      by : (row : Row) → At own p b victim (Join r d) row → SteadyRow ⊥ row → Done victim (with_blocks (fork_row row) born)
      by (Now next) a l = steady_now own p b victim (Join r d) ⊥ tt (λ x at_ h. h) next a l
      by (Store cell content next) a l =
          store_done own p b victim (Join r d) cell content next a
          ((join_row_keeps i fair root input S t law p a.1.holds.place r d (own_kind _ _ a.1.kind a.2)).cells cell content next (does_row own p b victim (Join r d) (Store cell content next) a)) l.0
      by (Exchange cell old new next) a l =
          absurd ((join_row_keeps i fair root input S t law p a.1.holds.place r d (own_kind _ _ a.1.kind a.2)).exchanges_none cell old new next (does_row own p b victim (Join r d) (Exchange cell old new next) a))

  -- a place without a strand: with takeover by places it inherits no block to fork
  module _ (own p b victim : ℕ) (k : RestartKind) (idle : IsIdle k) where
    abbrev sits : Seat
    sits = kind_seat own p k b

    came_of : (row : Row) → At own p b victim k row → (n : ℕ) × Comes i.shape sits n (row_of i.shape sits k) row
    came_of row a = came_idle i.shape sits k row idle a.1.came

    looks : (row : Row) → At own p b victim k row → LookRow i.shape k row
    looks row a = let q = came_of row a in comes_look i.shape sits k q.0 (row_of i.shape sits k) row (look_begins i.shape sits k idle) q.1

    steadies : (row : Row) → At own p b victim k row → SteadyRow (IsCheck k) row
    steadies row a = let q = came_of row a in rows_are_steady i.shape sits q.0 k row (idle_steady k idle) q.1

    no_check : (k : RestartKind) (r : ℕ) → IsCheck k → LooksOn k (Now (Fork r)) → ⊥
    no_check (Check v x) r is on = on
    no_check _ r is on = absurd is

    no_fork : (r : ℕ) → At own p b victim k (Now (Fork r)) → IsCheck k → ⊥
    no_fork r a checks = elim a.3 [ inl plain ↦ (let l = looks (Now (Fork r)) a in let e = sym plain ∙ l.0 in cc) | inr on ↦ no_check k r checks on ]

    idle_step : (row : Row) → Bears own p b victim k row
    idle_step (Now next) a = steady_now own p b victim k (IsCheck k) (idle_steady k idle) no_fork next a (steadies (Now next) a)
    idle_step (Store cell content next) a = unseen_store own p b victim k cell content next a (look_cell i.shape cell (looks (Store cell content next) a).0 a.1.there)
    idle_step (Exchange cell old new next) a = unseen_exchange own p b victim k cell old new next a (look_cell i.shape cell (looks (Exchange cell old new next) a).0 a.1.there)

  -- by its kind
  row_step : (own p b victim : ℕ) (k : RestartKind) (row : Row) → Bears own p b victim k row
  row_step own p b victim (Run f y) row a = run_step own p b victim f y row a
  row_step own p b victim (Bump r) row a = bump_step own p b victim r row a
  row_step own p b victim (Push1 r) row a = push1_step own p b victim r row a
  row_step own p b victim (Push2 r) row a = push2_step own p b victim r row a
  row_step own p b victim (Unwind f) row a = unwind_step own p b victim f row a
  row_step own p b victim (Arrive r d) row a = arrive_step own p b victim r d row a
  row_step own p b victim (Join r d) row a = join_step own p b victim r d row a
  row_step own p b victim Pop1 row a = idle_step own p b victim Pop1 tt row a
  row_step own p b victim (Pop2 r) row a = idle_step own p b victim (Pop2 r) tt row a
  row_step own p b victim Seek row a = idle_step own p b victim Seek tt row a
  row_step own p b victim (Steal v x) row a = idle_step own p b victim (Steal v x) tt row a
  row_step own p b victim (Check v x) row a = idle_step own p b victim (Check v x) tt row a
  row_step own p b victim (Take v x) row a = idle_step own p b victim (Take v x) tt row a
  row_step own p b victim (Take2 v) row a = idle_step own p b victim (Take2 v) tt row a

  -- a capsule
  abbrev InRestAt : (own p b : ℕ) → RestartKind → Rest → Type 0
  InRestAt own p b k rest = (stand_of state c ≡ IsRunning (kind_seat own p k b) rest) × InRestSo i state c (kind_seat own p k b) rest × IsAway l p

  does_rest : (own p b : ℕ) (k : RestartKind) (rest : Rest) → InRestAt own p b k rest → S.doing p ≡ InRest rest
  does_rest own p b k rest a = doing_own p a.1.holds (IsRunning (kind_seat own p k b) rest) a.0 refl

  capsule_step : (own p b victim f y : ℕ) (rest : Rest) → InRestAt own p b (Run f y) rest → Done victim born
  capsule_step own p b victim f y (Loads cell next) a =
      arrives victim born _ (((turns_show i.shape i.code state c).0 (kind_seat own p (Run f y) b) a.1.holds).1.loads victim cell next a.0) ((stay p).goes_on _)
  capsule_step own p b victim f y (Stores cell content next) a =
      let spot = (run_row_keeps i fair root input S t law p a.1.holds.place f y (own_kind _ _ a.1.kind a.2)).cells cell content next (does_rest own p b (Run f y) (Stores cell content next) a) in
      let is = stores_are_cells i fair root input S t law p a.1.holds.place f y (own_kind _ _ a.1.kind a.2) cell spot a.1.there in
      arrives victim born _ (((turns_show i.shape i.code state c).0 (kind_seat own p (Run f y) b) a.1.holds).1.stores victim 0 cell content next a.0 is)
      (words_left (store P.words cell (word_of content)) _ (λ q. counter_same P.words cell (word_of content) q (may_steady i S.words p f y cell spot)))
  capsule_step own p b victim f y Full a = arrives victim born _ (((turns_show i.shape i.code state c).0 (kind_seat own p (Run f y) b) a.1.holds).1.full victim a.0) (maybe_left (P.words FinishWord == 0) FinishWord (finish_word (OutOfRoom p)) _ tt)
  capsule_step own p b victim f y (Installs kind) a =
      arrives victim born _ (((turns_show i.shape i.code state c).0 (kind_seat own p (Run f y) b) a.1.holds).1.installs victim kind a.0 a.1.there)
      (subst (λ (w : State). Births i w born) (sym (installs_left i root input P l apart p kind a.2)) ((stay p).run_installs f y kind (own_kind _ _ a.1.kind a.2) (does_rest own p b (Run f y) (Installs kind) a)))
  capsule_step own p b victim f y Breaks a = absurd (let e = a.1.there in cc)

  going : (own p b : ℕ) (k : RestartKind) (rest : Rest) → InRestAt own p b k rest → Does i S.words p k (InRest rest)
  going own p b k rest a = subst₂ (λ (k : RestartKind) (d : Doing). Does i S.words p k d) (own_kind _ _ a.1.kind a.2) (does_rest own p b k rest a) (law.does p)

  rest_step : (own p b victim : ℕ) (k : RestartKind) (rest : Rest) → InRestAt own p b k rest → Done victim born
  rest_step own p b victim (Run f y) rest a = capsule_step own p b victim f y rest a
  rest_step own p b victim (Bump r) rest a = absurd (going own p b (Bump r) rest a)
  rest_step own p b victim (Push1 r) rest a = absurd (going own p b (Push1 r) rest a)
  rest_step own p b victim (Push2 r) rest a = absurd (going own p b (Push2 r) rest a)
  rest_step own p b victim (Unwind f) rest a = absurd (going own p b (Unwind f) rest a)
  rest_step own p b victim (Arrive r d) rest a = absurd (going own p b (Arrive r d) rest a)
  rest_step own p b victim (Join r d) rest a = absurd (going own p b (Join r d) rest a)
  rest_step own p b victim Pop1 rest a = absurd (going own p b Pop1 rest a)
  rest_step own p b victim (Pop2 r) rest a = absurd (going own p b (Pop2 r) rest a)
  rest_step own p b victim Seek rest a = absurd (going own p b Seek rest a)
  rest_step own p b victim (Steal v x) rest a = absurd (going own p b (Steal v x) rest a)
  rest_step own p b victim (Check v x) rest a = absurd (going own p b (Check v x) rest a)
  rest_step own p b victim (Take v x) rest a = absurd (going own p b (Take v x) rest a)
  rest_step own p b victim (Take2 v) rest a = absurd (going own p b (Take2 v) rest a)

  -- words that have the same counters and kinds
  words_bear : (after : List ℕ) (stand : List Standing) → ((q : ℕ) → view i.shape after (RoomCounter q) ≡ view i.shape words (RoomCounter q)) → kinds_of i.shape after ≡ kinds_of i.shape words
      → Births i (left i l (places_of i.shape (record { words = after; stand = stand }))) born
  words_bear after stand same kinds =
      subst (λ (k : ℕ → RestartKind). Births i (left i l (record { words = view i.shape after; kind = k; doing = (places_of i.shape (record { words = after; stand = stand })).doing })) born) (sym kinds)
      (words_left (view i.shape after) (places_of i.shape (record { words = after; stand = stand })).doing same)

  same_bear : (stand : List Standing) → Births i (left i l (places_of i.shape (record { words = words; stand = stand }))) born
  same_bear stand = words_bear words stand (λ q. refl) refl

  -- a finish that is proposed, and the own dead word
  proposed : IsPresent i.shape state c → (v : Finish) (stand : List Standing) (b : Bool) → Births i (left i l (places_of i.shape (record { words = if b then slice_set words 0 (finish_word v) else words; stand = stand }))) born
  proposed here v stand true = words_bear (write i.shape words FinishWord (finish_word v)) stand
      (λ q. ap (λ (m : Cell → ℕ). m (RoomCounter q)) (cells_are_viewed i.shape words FinishWord (finish_word v) here.words refl) ∙ counter_same (view i.shape words) FinishWord (finish_word v) q tt)
      (kinds_stay i.shape words FinishWord (finish_word v) tt (λ q z. cc))
  proposed here v stand false = same_bear stand

  dead : IsPresent i.shape state c → (stand : List Standing) → Births i (left i l (places_of i.shape (record { words = write i.shape words (DeadWord c) 1; stand = stand }))) born
  dead here stand = let out = dead_unseen i.shape i.code state c here.there in
      words_bear (write i.shape words (DeadWord c) 1) stand (λ q. ap (λ (m : Cell → ℕ). m (RoomCounter q)) (others_are_unseen i.shape words (DeadWord c) 1 out.there out.no_frame)) (kinds_stay i.shape words (DeadWord c) 1 out.there out.no_restart)

  -- an act, by where the processor stands
  abbrev GoalAt : Act → Standing → Type 0
  GoalAt act x = Births i (left i l (places_of i.shape (acts i.shape i.code state c act x))) (with_blocks (step_by (row_by fork_row) act x) born)

  at_stand : (victim : ℕ) (x : Standing) → stand_of state c ≡ x → Done victim (with_blocks (row_by fork_row x) born) → GoalAt (Step victim) x
  at_stand victim x e done = subst (λ (y : Standing). Births i (left i l (places_of i.shape (acts i.shape i.code state c (Step victim) y))) (with_blocks (row_by fork_row x) born)) e done

  step_act : (victim : ℕ) (x : Standing) → stand_of state c ≡ x → IsPresent i.shape state c → StandsSo i state t c x → StandsAway l x → InheritsNone i.shape.takeover x → GoalAt (Step victim) x
  step_act victim IsDone e here so away none = births
  step_act victim IsLost e here so away none = same_bear _
  step_act victim (IsPlaced p) e here so away none = same_bear _
  step_act victim (IsAt p r) e here so away none = same_bear _
  step_act victim (IsWithin chair row) e here so away none = at_stand victim (IsWithin chair row) e (row_step chair.own chair.place chair.restart.bottom victim chair.restart.kind row (e, so, away, none))
  step_act victim (IsRunning chair rest) e here so away none = at_stand victim (IsRunning chair rest) e (rest_step chair.own chair.place chair.restart.bottom victim chair.restart.kind rest (e, so, away))
  step_act victim (IsBroken p) e here so away none = proposed here (BrokenAt p) _ (slice_index words 0 == 0)

  act_step : (act : Act) (x : Standing) → stand_of state c ≡ x → ActsSo i state t c act x → StepsAway i l act x → GoalAt act x
  act_step (Step victim) x e so away = step_act victim x e so.0 so.1 away.0 away.1
  act_step Soft IsDone e so away = births
  act_step Soft IsLost e so away = same_bear _
  act_step Soft (IsPlaced p) e so away = same_bear _
  act_step Soft (IsAt p r) e so away = same_bear _
  act_step Soft (IsWithin chair row) e so away = same_bear _
  act_step Soft (IsRunning chair rest) e so away = same_bear _
  act_step Soft (IsBroken p) e so away = same_bear _
  act_step Hard IsDone e so away = births
  act_step Hard IsLost e so away = dead so.0 _
  act_step Hard (IsPlaced p) e so away = dead so.0 _
  act_step Hard (IsAt p r) e so away = dead so.0 _
  act_step Hard (IsWithin chair row) e so away = dead so.0 _
  act_step Hard (IsRunning chair rest) e so away = dead so.0 _
  act_step Hard (IsBroken p) e so away = dead so.0 _
  act_step (Quit why) IsDone e so away = births
  act_step (Quit why) IsLost e so away = proposed so.0 (quit_with c why) _ (slice_index words 0 == 0)
  act_step (Quit why) (IsPlaced p) e so away = proposed so.0 (quit_with c why) _ (slice_index words 0 == 0)
  act_step (Quit why) (IsAt p r) e so away = proposed so.0 (quit_with c why) _ (slice_index words 0 == 0)
  act_step (Quit why) (IsWithin chair row) e so away = proposed so.0 (quit_with c why) _ (slice_index words 0 == 0)
  act_step (Quit why) (IsRunning chair rest) e so away = proposed so.0 (quit_with c why) _ (slice_index words 0 == 0)
  act_step (Quit why) (IsBroken p) e so away = proposed so.0 (quit_with c why) _ (slice_index words 0 == 0)

pub turns_bear_left : TurnsBearLeft
turns_bear_left i fair root input state l apart t law born births turn so away = act_step i fair root input state l apart t law born births turn.processor turn.act (stand_of state turn.processor) refl so away

pub turns_bear : TurnsBear
turns_bear i fair plain root input state t law born births turn so = turns_bear_left i fair root input state [] tt t law born births turn so (act_away i plain turn.act (stand_of state turn.processor))
