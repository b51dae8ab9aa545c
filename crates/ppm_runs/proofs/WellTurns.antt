-- Each turn keeps the tree of a run's state well.
use Rattle.std.proofs.Common.{◌≡◌, ◌≤◌, ◌<◌, ℕ, zero, suc, ◌+◌, ◌==◌, Bool, true, false, List, [], inl, inr, refl, sym, ap, ◌∙◌, subst, subst₂, arith, Option, Some, slice_set}
use Rattle.std.specs.Prelude.{cond, slice_index, if◌then◌else◌}
use Rattle.ppm_strands.specs.Tree.{Words, Tree}
use Rattle.ppm_cells.specs.Finish.{finish_word, IsOutcome}
use Rattle.ppm_cells.specs.Link.{link_of}
use Rattle.ppm_cells.specs.Memory.{read, write, AreWordsOf}
use Rattle.ppm_cells.specs.declared.cell.Cell.{Cell}
use Rattle.ppm_cells.specs.declared.cell.Cell.TheVariants.{FinishWord, BlockWord, DeadWord}
use Rattle.ppm_cells.specs.declared.finish.Finish.{Finish}
use Rattle.ppm_cells.specs.declared.finish.Finish.TheVariants.{OutOfRoom, Broken as BrokenAt, Ended, Trapped, Unset, OutOfTurns, Stopped}
use Rattle.ppm_cells.specs.declared.link.Link.{Link}
use Rattle.ppm_cells.specs.declared.link.LinkKind.{LinkKind}
use Rattle.ppm_cells.specs.declared.link.LinkKind.TheVariants.{Root, Branch}
use Rattle.ppm_cells.specs.declared.restart.RestartKind.{RestartKind}
use Rattle.ppm_cells.specs.declared.restart.RestartKind.TheVariants.{Run, Bump, Push1, Push2, Unwind, Arrive, Join, Pop1, Pop2, Seek, Steal, Check, Take, Take2}
use Rattle.ppm_cells.specs.declared.shape.Shape.{Shape}
use Rattle.ppm_cells.specs.declared.shape.Takeover.TheVariants.{ByPlaces}
use Rattle.ppm_cells.specs.declared.side.Side.{Side}
use Rattle.ppm_cells.specs.declared.side.Side.TheVariants.{Left, Right}
use Rattle.ppm_cells.proofs.FinishLemmas.{finishes_exact}
use Rattle.ppm_strands.specs.Strand.{Frame}
use Rattle.ppm_code.specs.Strands.{Point, Result}
use Rattle.ppm_code.specs.declared.code.CodeParts.{CodeParts}
use Rattle.ppm_code.specs.declared.location.FrameWord.{FrameWord}
use Rattle.ppm_step.specs.Among.{IsTurnAmong}
use Rattle.ppm_step.specs.Contents.{read_so, word_of}
use Rattle.ppm_step.specs.Frames.{Rest, Loads, Stores, Full, Installs, Breaks}
use Rattle.ppm_step.specs.Rows.{on_link, on_outcome, unwind_by, unwound, branch_outcome, row_of}
use Rattle.ppm_step.specs.Standings.{Standing, IsLost, IsPlaced, IsAt, IsWithin, IsRunning, IsBroken, IsDone}
use Rattle.ppm_step.specs.State.{State as Machine, stand_of, happens, acts, quit_with}
use Rattle.ppm_step.specs.declared.content.Content.{Content}
use Rattle.ppm_step.specs.declared.content.Content.TheVariants.{ALink, AFinish}
use Rattle.ppm_step.specs.declared.row.Point.{Point as RowPoint}
use Rattle.ppm_step.specs.declared.row.Point.TheVariants.{UnwindLink, UnwindOutcome}
use Rattle.ppm_step.specs.declared.row.Row.{Row}
use Rattle.ppm_step.specs.declared.row.Row.TheVariants.{Now, Store, Exchange}
use Rattle.ppm_step.specs.declared.row.Seat.{Seat}
use Rattle.ppm_step.specs.declared.row.Then.{Then}
use Rattle.ppm_step.specs.declared.row.Then.TheVariants.{Load, Install, Fork, Begin, Move, Enter, Again, Broken}
use Rattle.ppm_step.specs.declared.turn.Act.{Act}
use Rattle.ppm_step.specs.declared.turn.Act.TheVariants.{Step, Soft, Hard, Quit}
use Rattle.ppm_step.specs.declared.turn.Turn.{Turn}
use Rattle.ppm_tickets.specs.Homes.{Home}
use Rattle.ppm_frames.specs.Good.{Match, Good}
use Rattle.ppm_frames.specs.Skeletons.{Stand, Begins, Over, Arrives, InPlace, Waiting, Held, Came, Skeleton, Leaf, Forking, arrival, grow, pushed, over_left, inlined, Around, plug, hook_at}
use Rattle.ppm_frames.specs.Views.{is_cell, view, written}
use Rattle.ppm_frames.proofs.SkeletonLemmas.{branch_from, grow_plug}
use Rattle.ppm_frames.proofs.SwapLemmas.{good_here}
use Rattle.ppm_frames.proofs.ViewLemmas.{cells_are_viewed, others_are_unseen}
use Rattle.ppm_frames.proofs.WriteLemmas.{address}
use Rattle.ppm_kept.specs.Heirs.{handed}
use Rattle.ppm_kept.specs.Left.{Followed, left, IsAway, AreApart, StandsAway, StepsAway}
use Rattle.ppm_kept.specs.Kept.{Setting, State, InRow, InRest, Doing, seat_at, carried, Reach, Under, Does, IsKept}
use Rattle.ppm_kept.specs.Moves.{doing_of, installs}
use Rattle.ppm_kept.specs.Others.{IsIdle}
use Rattle.ppm_kept.specs.Places.{places_of, IsOf, Holds, acted, RowShows}
use Rattle.ppm_kept.specs.Pushing.{kind_seat, Push1Keeps, Push2Keeps}
use Rattle.ppm_kept.specs.Returns.{by_unwind, UnwindKeeps}
use Rattle.ppm_kept.specs.Joins.{by_join}
use Rattle.ppm_kept.specs.Arriving.{by_arrive}
use Rattle.ppm_kept.specs.Running.{IsFair}
use Rattle.ppm_kept.specs.Steps.{by_end, by_store, by_exchange, tree_with, act_with, tree_after, InRowSo, InRestSo, StandsSo, IsPresent, ActsSo}
use Rattle.ppm_kept.proofs.ArriveRow.{arrive_row_keeps}
use Rattle.ppm_kept.proofs.BlockLemmas.{finish_back}
use Rattle.ppm_kept.proofs.JoinLastRow.{join_row_keeps}
use Rattle.ppm_kept.proofs.LookLemmas.{LookRow, IsLookCell, comes_look, look_begins}
use Rattle.ppm_kept.proofs.PlaceLemmas.{leaf, order_head}
use Rattle.ppm_kept.proofs.PutLemmas.{put_here}
use Rattle.ppm_kept.proofs.PushRows.{push1_row_keeps, push2_row_keeps}
use Rattle.ppm_kept.proofs.Rows.{run_row_keeps, bump_row_keeps}
use Rattle.ppm_kept.proofs.LoadLemmas.{bump_exchanges_none}
use Rattle.ppm_kept.proofs.StateLemmas.{doing_here, dead_unseen, turns_show}
use Rattle.ppm_kept.proofs.LeftLemmas.{kind_away, left_same}
use Rattle.ppm_kept.proofs.StepRows.{look_cell, came_idle, act_away}
use Rattle.ppm_kept.proofs.TurnLemmas.{stores_are_cells}
use Rattle.ppm_kept.proofs.UnwindRow.{Overs, unwind_row_keeps}
use Rattle.ppm_runs.specs.Run.{setting, IsRun}
use Rattle.ppm_runs.specs.Well.{SaysOutcome, IsWell}
use Rattle.ppm_runs.proofs.GoingLemmas.{acts_so}
use Rattle.ppm_runs.proofs.MomentLemmas.{turns_lead_on}
use Rattle.ppm_runs.proofs.WellCapsules.{store_well, install_well}
use Rattle.ppm_runs.proofs.WellRows.{StrandStore, StrandTry, strand_walk, linked, part_well, UpAt, overs, up_row, NoneAt, arrive_row, BumpAt, bump_found, JoinAt, join_found}
use Rattle.ppm_runs.proofs.WellLeft.{well_left, tree_out}
use Rattle.ppm_runs.proofs.WellWords.{crit, crit_plain, crit_low, well_same, written_as, well_written, well_owned, well_swap, well_over_left, well_pushed, well_inlined, well_take_in, well_came, well_back, well_joined, well_back_over, well_joined_over}

module _ (i : Setting) (fair : IsFair i.code) (root : Tree (Frame FrameWord Point) Result) (input : Words) (state : Machine) (l : List Followed) (t : Skeleton)
    (law : IsKept i root input (left i l (places_of i.shape state)) t) (well : IsWell i.code (left i l (places_of i.shape state)).words Root t) (c : ℕ) where
  -- the places, and the same with those that were followed left out
  abbrev P : State
  P = places_of i.shape state

  abbrev S : State
  S = left i l P

  abbrev words : List ℕ
  words = state.words

  abbrev m : Cell → ℕ
  m = S.words

  abbrev seen : Cell → ℕ
  seen = view i.shape words

  -- what says that the tree is well is no word of those left out
  abbrev Clear : Skeleton → Type 0
  Clear v = (x : ℕ) → 1 ≤ crit Root v x → m (BlockWord x) ≡ seen (BlockWord x)

  -- the tree of a state by places is well, where its words are clear
  abbrev Well : State → Skeleton → Type 0
  Well z v = Clear v → IsWell i.code z.words Root v

  as_seen : (v : Skeleton) → IsWell i.code m Root v → Clear v → IsWell i.code seen Root v
  as_seen v good clear = well_same i.code m seen Root v (λ x one. sym (clear x one)) good

  as_written : (cell : Cell) (w : ℕ) (v : Skeleton) → IsWell i.code (written m cell w) Root v → Clear v → IsWell i.code (written seen cell w) Root v
  as_written cell w v good clear = well_same i.code (written m cell w) (written seen cell w) Root v (λ x one. written_as seen m cell w (BlockWord x) (sym (clear x one))) good

  -- the place of a processor is none of them
  stood : (p : ℕ) {k : RestartKind} → IsAway l p → P.kind p ≡ k → S.kind p ≡ k
  stood p away e = kind_away l P.kind p away ∙ e

  abbrev Done : (victim : ℕ) → Skeleton → Type 0
  Done victim v = Well (acted i.shape i.code state c (Step victim)) v

  arrives : (act : Act) (z : State) (v : Skeleton) → acted i.shape i.code state c act ≡ z → Well z v → Well (acted i.shape i.code state c act) v
  arrives act z v e good = subst (λ (w : State). Well w v) (sym e) good

  doing_own : (p : ℕ) → Holds i.shape state c p → (x : Standing) → stand_of state c ≡ x → IsOf p x → S.doing p ≡ doing_of x
  doing_own p holds x e of = doing_here (stand_of state) (stand_of state) c p x e (λ d ne. refl) holds.own of holds.others i.shape.processors holds.there

  -- an exchange
  tried_well : (x old new : ℕ) (cell : Cell) (v : Skeleton) → IsWell i.code m Root v → IsWell i.code (written m cell new) Root v → Clear v → IsWell i.code (cond (x == old) (written seen cell new) seen) Root v
  tried_well x old new cell v lost won clear = by (x == old)
    where
      by : (b : Bool) → IsWell i.code (cond b (written seen cell new) seen) Root v
      by true = as_written cell new v won clear
      by false = as_seen v lost clear

  -- what kinds without a strand make of it
  pop_well : (p q : ℕ) (next : Then) → IsWell i.code m Root (by_end p (Pop2 q) next t)
  pop_well p q (Begin r f b) = well_take_in i.code m r p Root t well
  pop_well p q (Load x) = well
  pop_well p q (Install x) = well
  pop_well p q (Fork x) = well
  pop_well p q (Move x) = well
  pop_well p q (Enter x) = well
  pop_well p q Again = well
  pop_well p q Broken = well

  check_well : (p v y : ℕ) (next : Then) → IsWell i.code m Root (by_end p (Check v y) next t)
  check_well p v y (Begin r f b) = well_take_in i.code m r p Root t well
  check_well p v y (Load x) = well
  check_well p v y (Install x) = well
  check_well p v y (Fork x) = well
  check_well p v y (Move x) = well
  check_well p v y (Enter x) = well
  check_well p v y Again = well
  check_well p v y Broken = well

  idle_end_well : (p : ℕ) (k : RestartKind) (next : Then) → IsIdle k → IsWell i.code m Root (by_end p k next t)
  idle_end_well p Pop1 next h = well
  idle_end_well p (Pop2 q) next h = pop_well p q next
  idle_end_well p Seek next h = well
  idle_end_well p (Steal v x) next h = well
  idle_end_well p (Check v x) next h = check_well p v x next
  idle_end_well p (Take v x) next h = well
  idle_end_well p (Take2 v) next h = well
  idle_end_well p _ next h = absurd h

  idle_store_well : (p : ℕ) (k : RestartKind) → IsIdle k → IsWell i.code m Root (by_store p k t)
  idle_store_well p Pop1 h = well
  idle_store_well p (Pop2 r) h = well
  idle_store_well p Seek h = well
  idle_store_well p (Steal v x) h = well
  idle_store_well p (Check v x) h = well
  idle_store_well p (Take v x) h = well
  idle_store_well p (Take2 v) h = well
  idle_store_well p _ h = absurd h

  idle_try_well : (p : ℕ) (k : RestartKind) (made : Bool) → IsIdle k → IsWell i.code m Root (by_exchange m p k made t)
  idle_try_well p Pop1 made h = well
  idle_try_well p (Pop2 r) made h = well
  idle_try_well p Seek made h = well
  idle_try_well p (Steal v x) made h = well
  idle_try_well p (Check v x) made h = well
  idle_try_well p (Take v x) made h = well
  idle_try_well p (Take2 v) made h = well
  idle_try_well p _ made h = absurd h

  -- a row
  module _ (own p b victim : ℕ) (k : RestartKind) where
    abbrev seat : Seat
    seat = kind_seat own p k b

    abbrev At : Row → Type 0
    At row = (stand_of state c ≡ IsWithin seat row) × InRowSo i state t c seat row × IsAway l p

    show : (row : Row) → At row → RowShows i.shape i.code state c seat
    show row a = ((turns_show i.shape i.code state c).0 seat a.1.holds).0

    does_row : (row : Row) → At row → S.doing p ≡ InRow row
    does_row row a = doing_own p a.1.holds (IsWithin seat row) a.0 refl

    -- the end of a row changes no word
    now_well : (v : Skeleton) → IsWell i.code m Root v → (next : Then) → At (Now next) → Done victim v
    now_well v good (Load point) a = arrives (Step victim) _ v ((show (Now (Load point)) a).loads victim point a.0) (as_seen v good)
    now_well v good (Install r) a = arrives (Step victim) _ v ((show (Now (Install r)) a).installs victim (Install r) tt a.0 a.1.there) (as_seen v good)
    now_well v good (Fork r) a = arrives (Step victim) _ v ((show (Now (Fork r)) a).installs victim (Fork r) tt a.0 a.1.there) (as_seen v good)
    now_well v good (Begin r f x) a = arrives (Step victim) _ v ((show (Now (Begin r f x)) a).installs victim (Begin r f x) tt a.0 a.1.there) (as_seen v good)
    now_well v good (Move q) a = arrives (Step victim) _ v ((show (Now (Move q)) a).moves victim q a.0 a.1.own) (as_seen v good)
    now_well v good (Enter x) a = absurd (let e = a.1.there in cc)
    now_well v good Again a = absurd (let e = a.1.there in cc)
    now_well v good Broken a = absurd (let e = a.1.there in cc)

    stores_well : (v : Skeleton) (cell : Cell) (content : Content) (next : Then) → IsWell i.code (written m cell (word_of content)) Root v → is_cell i.shape cell ≡ true → At (Store cell content next) → Done victim v
    stores_well v cell content next good cell_is a = arrives (Step victim) _ v ((show (Store cell content next) a).stores victim 0 cell content next a.0 cell_is) (as_written cell (word_of content) v good)

    tries_well : (v : Skeleton) (cell : Cell) (old new : Content) (next : Then) → IsWell i.code m Root v → IsWell i.code (written m cell (word_of new)) Root v → is_cell i.shape cell ≡ true → At (Exchange cell old new next) → Done victim v
    tries_well v cell old new next lost won cell_is a =
        arrives (Step victim) _ v ((show (Exchange cell old new next) a).exchanges victim 0 cell old new next a.0 cell_is) (tried_well (seen cell) (word_of old) (word_of new) cell v lost won)

  -- stores and exchanges of rows of strands
  module _ (At_ : RowPoint → Type 0) (sits : Seat) where
    store_none : (cell : Cell) → StrandStore i t At_ sits cell → (x : ℕ) → cell ≡ BlockWord x → crit Root t x ≡ 0
    store_none cell a x e = (subst (StrandStore i t At_ sits) e a).1

    try_none : (cell : Cell) (new : Content) → StrandTry i t At_ sits cell new → (x : ℕ) → cell ≡ BlockWord x → crit Root t x ≡ 0
    try_none cell new a x e = (subst (λ (d : Cell). StrandTry i t At_ sits d new) e a).1

    stored_keeps : (cell : Cell) (content : Content) → StrandStore i t At_ sits cell → IsWell i.code (written m cell (word_of content)) Root t
    stored_keeps cell content a = well_written i.code m cell (word_of content) Root t (store_none cell a) well

    tried_keeps : (cell : Cell) (new : Content) → StrandTry i t At_ sits cell new → IsWell i.code (written m cell (word_of new)) Root t
    tried_keeps cell new a = well_written i.code m cell (word_of new) Root t (try_none cell new a) well

  -- what a place in a row of a strand has reached
  under : (p : ℕ) (k : RestartKind) (row : Row) → S.kind p ≡ k → S.doing p ≡ InRow row → Under i m p k row
  under p k row ke de = subst₂ (λ (k : RestartKind) (d : Doing). Does i m p k d) ke de (law.does p)

  run_step : (own p b victim f y : ℕ) (row : Row) → At own p b victim (Run f y) row → Done victim (tree_with i m words (IsWithin (kind_seat own p (Run f y) b) row) t)
  run_step own p b victim f y (Now next) a = now_well own p b victim (Run f y) t well next a
  run_step own p b victim f y (Store cell content next) a = absurd (let e = under p (Run f y) (Store cell content next) (stood p a.2 a.1.kind) (does_row own p b victim (Run f y) (Store cell content next) a) in cc)
  run_step own p b victim f y (Exchange cell old new next) a = absurd (let e = under p (Run f y) (Exchange cell old new next) (stood p a.2 a.1.kind) (does_row own p b victim (Run f y) (Exchange cell old new next) a) in cc)

  bump_step : (own p b victim r : ℕ) (row : Row) → At own p b victim (Bump r) row → Done victim (tree_with i m words (IsWithin (kind_seat own p (Bump r) b) row) t)
  bump_step own p b victim r (Now next) a = now_well own p b victim (Bump r) t well next a
  bump_step own p b victim r (Store cell content next) a =
      let de = does_row own p b victim (Bump r) (Store cell content next) a in
      let u = under p (Bump r) (Store cell content next) (stood p a.2 a.1.kind) de in
      let At_ = BumpAt i fair root input S t law well p a.1.holds.place r (stood p a.2 a.1.kind) in
      let sits = seat_at p (Bump r) u.0 in
      let row = strand_walk i t At_ sits m (bump_found i fair root input S t law well p a.1.holds.place r (stood p a.2 a.1.kind) sits a.1.holds.place 0) u.1 (row_of i.shape sits (Bump r)) (Store cell content next) refl u.2 in
      stores_well own p b victim (Bump r) t cell content next (stored_keeps At_ sits cell content row.0) ((bump_row_keeps i fair root input S t law p a.1.holds.place r (stood p a.2 a.1.kind)).cells cell content next de) a
  bump_step own p b victim r (Exchange cell old new next) a =
      absurd (bump_exchanges_none i fair root input S t law p a.1.holds.place r (stood p a.2 a.1.kind) cell old new next (does_row own p b victim (Bump r) (Exchange cell old new next) a))

  -- the outcome of a branch that arrives stands at its fork
  module _ (p f : ℕ) (there : p < i.shape.processors) (ke : S.kind p ≡ Unwind f) (r : ℕ) (d : Side) (b : ℕ) (de : S.doing p ≡ InRow (Now (Install (record { kind = Arrive r d; bottom = b })))) where
    abbrev arriving : Then
    arriving = Install (record { kind = Arrive r d; bottom = b })

    o : Overs i S t p f
    o = overs i fair root input S t law well p there f ke

    grown_is : grow p (λ st f n. Leaf (InPlace p) Arrives f n) t ≡ plug o.around (Leaf (InPlace p) Arrives f o.slots)
    grown_is = ap (grow p (λ st f n. Leaf (InPlace p) Arrives f n)) o.is ∙ grow_plug p (λ st f n. Leaf (InPlace p) Arrives f n) o.around Over f o.slots o.alone

    kept_then : IsKept i root input (installs S p (Arrive r d)) (by_unwind p (Arrive r d) t)
    kept_then = (unwind_row_keeps i fair root input S t law p there f ke).installs arriving de tt

    -- it hangs on that branch
    hook_is : hook_at Root o.around ≡ Branch d r
    hook_is =
        let good = good_here i.code m (installs S p (Arrive r d)).kind Root o.around (Leaf (InPlace p) Arrives f o.slots)
        (subst (Good i.code m (installs S p (Arrive r d)).kind Root) grown_is kept_then.good) in
        subst (λ (k : RestartKind). Match i.code m k (hook_at Root o.around) Arrives f) (put_here S.kind p (Arrive r d)) good.2

    says : SaysOutcome (m (BlockWord (f + 1)))
    says = part_well i fair root input S t law well p there o.around (Leaf (InPlace p) Over f o.slots) o.is

    arrival_by : (e : Side) (w : ℕ) → m (branch_outcome e r) ≡ w → SaysOutcome w → SaysOutcome (arrival m (Branch e r))
    arrival_by Left w stands a = subst SaysOutcome (sym stands) a
    arrival_by Right w stands a = subst SaysOutcome (sym stands) a

    -- the row has stored it
    module _ (sits : Seat) where
      abbrev Comes_ : ℕ → Row → Type 0
      Comes_ n row = Reach i m sits n row (Now arriving)

      by_store_ : (v : Finish) (n : ℕ) → Comes_ n (Store (branch_outcome d r) (AFinish v) (Install (record { kind = Arrive r d; bottom = sits.restart.bottom }))) → m (branch_outcome d r) ≡ finish_word v
      by_store_ v zero e = absurd (cc)
      by_store_ v (suc n) e = e.0

      by_finish : (v : Finish) → IsOutcome v → (n : ℕ) → Comes_ n (on_outcome (AFinish v) (unwound sits f (Branch d r))) → m (branch_outcome d r) ≡ finish_word v
      by_finish Ended out n e = by_store_ Ended n e
      by_finish (Trapped trap line) out n e = by_store_ (Trapped trap line) n e
      by_finish Unset out n e = absurd out
      by_finish (OutOfTurns q) out n e = absurd out
      by_finish (OutOfRoom q) out n e = absurd out
      by_finish Stopped out n e = absurd out
      by_finish (BrokenAt q) out n e = absurd out

      by_outcome : (n : ℕ) → Comes_ n (Now (Load (UnwindOutcome f (Branch d r)))) → m (branch_outcome d r) ≡ finish_word says.0
      by_outcome zero e = absurd (cc)
      by_outcome (suc n) e = by_finish says.0 says.2 n (subst (λ (x : Option Finish). Comes_ n (on_outcome (read_so AFinish x) (unwound sits f (Branch d r)))) says.1 e)

      link_is : link_of (m (BlockWord f)) ≡ Some (record { size = 6 + o.slots; kind = Branch d r })
      link_is = linked (m (BlockWord f)) o.slots (hook_at Root o.around) o.framed ∙ ap (λ (h : LinkKind). Some (record { size = 6 + o.slots; kind = h })) hook_is

      by_link : (n : ℕ) → Comes_ n (Now (Load (UnwindLink f))) → m (branch_outcome d r) ≡ finish_word says.0
      by_link zero e = absurd (cc)
      by_link (suc n) e = by_outcome n (subst (λ (x : Option Link). Comes_ n (on_link (read_so ALink x) (λ l. unwind_by f l.kind))) link_is e)

    arrival_says : SaysOutcome (arrival m (Branch d r))
    arrival_says =
        let u = under p (Unwind f) (Now arriving) ke de in
        let stands = by_link (seat_at p (Unwind f) u.0) u.1 u.2 in
        arrival_by d (finish_word says.0) stands (says.0, finish_back says.0 ((finishes_exact (m (BlockWord (f + 1))) says.0).0 says.1).0, says.2)

    arrive_well : IsWell i.code m Root (by_unwind p (Arrive r d) t)
    arrive_well = subst (IsWell i.code m Root) (sym grown_is)
        (well_swap i.code m Root o.around (Leaf (InPlace p) Over f o.slots) (Leaf (InPlace p) Arrives f o.slots) (subst (IsWell i.code m Root) o.is well)
        (subst (λ (h : LinkKind). SaysOutcome (arrival m h)) (sym hook_is) arrival_says))

  -- the end of Unwind
  unwind_end : (p f : ℕ) (there : p < i.shape.processors) (ke : S.kind p ≡ Unwind f) (k : RestartKind) (b : ℕ) → S.doing p ≡ InRow (Now (Install (record { kind = k; bottom = b }))) → IsWell i.code m Root (by_unwind p k t)
  unwind_end p f there ke (Run g y) b de = well_back i.code m p Root t well
  unwind_end p f there ke (Unwind g) b de = well_back_over i.code m S.kind p Root t law.good well
  unwind_end p f there ke (Arrive r d) b de = arrive_well p f there ke r d b de
  unwind_end p f there ke (Bump r) b de = well
  unwind_end p f there ke (Push1 r) b de = well
  unwind_end p f there ke (Push2 r) b de = well
  unwind_end p f there ke (Join r d) b de = well
  unwind_end p f there ke Pop1 b de = well
  unwind_end p f there ke (Pop2 r) b de = well
  unwind_end p f there ke Seek b de = well
  unwind_end p f there ke (Steal v x) b de = well
  unwind_end p f there ke (Check v x) b de = well
  unwind_end p f there ke (Take v x) b de = well
  unwind_end p f there ke (Take2 v) b de = well

  unwind_next : (p f : ℕ) (there : p < i.shape.processors) (ke : S.kind p ≡ Unwind f) (next : Then) → S.doing p ≡ InRow (Now next) → IsWell i.code m Root (by_end p (Unwind f) next t)
  unwind_next p f there ke (Install r) de = unwind_end p f there ke r.kind r.bottom de
  unwind_next p f there ke (Begin r g b) de = well_back i.code m p Root t well
  unwind_next p f there ke (Fork r) de = well
  unwind_next p f there ke (Load x) de = well
  unwind_next p f there ke (Move x) de = well
  unwind_next p f there ke (Enter x) de = well
  unwind_next p f there ke Again de = well
  unwind_next p f there ke Broken de = well

  unwind_step : (own p b victim f : ℕ) (row : Row) → At own p b victim (Unwind f) row → Done victim (tree_with i m words (IsWithin (kind_seat own p (Unwind f) b) row) t)
  unwind_step own p b victim f (Now next) a =
      now_well own p b victim (Unwind f) (by_end p (Unwind f) next t) (unwind_next p f a.1.holds.place (stood p a.2 a.1.kind) next (does_row own p b victim (Unwind f) (Now next) a)) next a
  unwind_step own p b victim f (Store cell content next) a =
      let de = does_row own p b victim (Unwind f) (Store cell content next) a in
      let u = under p (Unwind f) (Store cell content next) (stood p a.2 a.1.kind) de in
      let At_ = UpAt i fair root input S t law well p a.1.holds.place f (stood p a.2 a.1.kind) in
      let row = up_row i fair root input S t law well p a.1.holds.place f (stood p a.2 a.1.kind) u.0 u.1 (Store cell content next) u.2 in
      let keeps : UnwindKeeps i root input S t p f = unwind_row_keeps i fair root input S t law p a.1.holds.place f (stood p a.2 a.1.kind) in
      stores_well own p b victim (Unwind f) t cell content next (stored_keeps At_ (seat_at p (Unwind f) u.0) cell content row.0) (keeps.cells cell content next de) a
  unwind_step own p b victim f (Exchange cell old new next) a =
      let de = does_row own p b victim (Unwind f) (Exchange cell old new next) a in
      let u = under p (Unwind f) (Exchange cell old new next) (stood p a.2 a.1.kind) de in
      let At_ = UpAt i fair root input S t law well p a.1.holds.place f (stood p a.2 a.1.kind) in
      let row = up_row i fair root input S t law well p a.1.holds.place f (stood p a.2 a.1.kind) u.0 u.1 (Exchange cell old new next) u.2 in
      let keeps : UnwindKeeps i root input S t p f = unwind_row_keeps i fair root input S t law p a.1.holds.place f (stood p a.2 a.1.kind) in
      tries_well own p b victim (Unwind f) t cell old new next well (tried_keeps At_ (seat_at p (Unwind f) u.0) cell new row.0) (keeps.exchange_cells cell old new next de) a

  -- the branch that came first is a leaf like another
  came_well : (n : Cell → ℕ) (p r : ℕ) → IsWell i.code n Root t → IsWell i.code n Root (by_arrive m p r t)
  came_well n p r good = by (m (BlockWord (r + 1)) == 0)
    where
      by : (x : Bool) → IsWell i.code n Root (cond x (grow p (λ st f n. Leaf Came st f n) t) t)
      by true = well_came i.code n p Root t good
      by false = good

  arrive_step : (own p b victim r : ℕ) (d : Side) (row : Row) → At own p b victim (Arrive r d) row → Done victim (tree_with i m words (IsWithin (kind_seat own p (Arrive r d) b) row) t)
  arrive_step own p b victim r d (Now next) a = now_well own p b victim (Arrive r d) t well next a
  arrive_step own p b victim r d (Store cell content next) a =
      absurd ((arrive_row_keeps i fair root input S t law p a.1.holds.place r d (stood p a.2 a.1.kind)).stores_none cell content next (does_row own p b victim (Arrive r d) (Store cell content next) a))
  arrive_step own p b victim r d (Exchange cell old new next) a =
      let de = does_row own p b victim (Arrive r d) (Exchange cell old new next) a in
      let u = under p (Arrive r d) (Exchange cell old new next) (stood p a.2 a.1.kind) de in
      let At_ = NoneAt i fair root input S t law well p a.1.holds.place r d (stood p a.2 a.1.kind) in
      let sits = seat_at p (Arrive r d) u.0 in
      let row = strand_walk i t At_ sits m (λ x e. absurd e) u.1 (row_of i.shape sits (Arrive r d)) (Exchange cell old new next) (arrive_row i fair root input S t law well p a.1.holds.place r d (stood p a.2 a.1.kind) sits) u.2 in
      tries_well own p b victim (Arrive r d) (by_arrive m p r t) cell old new next (came_well m p r well) (came_well (written m cell (word_of new)) p r (tried_keeps At_ sits cell new row.0))
      ((arrive_row_keeps i fair root input S t law p a.1.holds.place r d (stood p a.2 a.1.kind)).cells cell old new next de) a

  -- the end of Join
  join_end : (p r : ℕ) (d : Side) (k : RestartKind) (b : ℕ) → IsWell i.code m Root (by_join p (Install (record { kind = k; bottom = b })) t)
  join_end p r d (Run g y) b = well_joined i.code m p Root t well
  join_end p r d (Unwind g) b = well_joined_over i.code m S.kind p Root t law.good well
  join_end p r d (Bump x) b = well
  join_end p r d (Push1 x) b = well
  join_end p r d (Push2 x) b = well
  join_end p r d (Arrive x e) b = well
  join_end p r d (Join x e) b = well
  join_end p r d Pop1 b = well
  join_end p r d (Pop2 x) b = well
  join_end p r d Seek b = well
  join_end p r d (Steal v x) b = well
  join_end p r d (Check v x) b = well
  join_end p r d (Take v x) b = well
  join_end p r d (Take2 v) b = well

  join_next : (p r : ℕ) (d : Side) (next : Then) → IsWell i.code m Root (by_end p (Join r d) next t)
  join_next p r d (Install x) = join_end p r d x.kind x.bottom
  join_next p r d (Begin x f b) = well_over_left i.code m p (inlined p) (well_inlined i.code m p) Root t well
  join_next p r d (Fork x) = well
  join_next p r d (Load x) = well
  join_next p r d (Move x) = well
  join_next p r d (Enter x) = well
  join_next p r d Again = well
  join_next p r d Broken = well

  join_step : (own p b victim r : ℕ) (d : Side) (row : Row) → At own p b victim (Join r d) row → Done victim (tree_with i m words (IsWithin (kind_seat own p (Join r d) b) row) t)
  join_step own p b victim r d (Now next) a = now_well own p b victim (Join r d) (by_end p (Join r d) next t) (join_next p r d next) next a
  join_step own p b victim r d (Store cell content next) a = by (under p (Join r d) (Store cell content next) (stood p a.2 a.1.kind) de)
    where
      de : S.doing p ≡ InRow (Store cell content next)
      de = does_row own p b victim (Join r d) (Store cell content next) a

      by : Under i m p (Join r d) (Store cell content next) → Done victim t
      by (inl u) =
          let At_ = JoinAt i fair root input S t law well p a.1.holds.place r d (stood p a.2 a.1.kind) u.0 in
          let sits = seat_at p (Join r d) u.0 in
          let row = strand_walk i t At_ sits m (join_found i fair root input S t law well p a.1.holds.place r d (stood p a.2 a.1.kind) sits 0) u.1 (row_of i.shape sits (Join r d)) (Store cell content next) (refl, refl) u.2 in
          stores_well own p b victim (Join r d) t cell content next (stored_keeps At_ sits cell content row.0) ((join_row_keeps i fair root input S t law p a.1.holds.place r d (stood p a.2 a.1.kind)).cells cell content next de) a
      by (inr x) = absurd (let q = x.is in cc)
  join_step own p b victim r d (Exchange cell old new next) a =
      absurd ((join_row_keeps i fair root input S t law p a.1.holds.place r d (stood p a.2 a.1.kind)).exchanges_none cell old new next (does_row own p b victim (Join r d) (Exchange cell old new next) a))

  -- the order word of a fork whose strand runs both branches
  push_none : (p r : ℕ) → S.kind p ≡ Push1 r → crit Root t (r + 1) ≡ 0
  push_none p r ke = let g = leaf i fair root input S t law p (ap (carried m) ke) in by g.stand g.frame g.slots g.around g.is (subst (λ (k : RestartKind). Match i.code m k (hook_at Root g.around) g.stand g.frame) ke g.match)
    where
      bare : (c_ : Around) (f n y : ℕ) (a b : Skeleton) → t ≡ plug c_ (Forking f n y r a b) → crit Root t (r + 1) ≡ 0
      bare c_ f n y a b is =
          let none = (order_head i fair root input S t law p c_ f n y r a b is).bare in
          let low_ = crit_plain Root t (r + 1) in
          omega (arith, none, low_)

      by : (st : Stand) (f n : ℕ) (c_ : Around) → t ≡ plug c_ (Leaf (InPlace p) st f n) → Match i.code m (Push1 r) (hook_at Root c_) st f → crit Root t (r + 1) ≡ 0
      by (Begins y) f n c_ is a = elim (branch_from Root c_ r Left a.1) [
        | inl z ↦ absurd (let e = z.0 in cc)
        | inr o ↦ bare o.around o.frame o.slots o.copy (Leaf (InPlace p) (Begins y) f n) o.beside (is ∙ o.is (Leaf (InPlace p) (Begins y) f n))
      ]
      by Over f n c_ is a = absurd a
      by Arrives f n c_ is a = absurd a

  push1_step : (own p b victim r : ℕ) (row : Row) → At own p b victim (Push1 r) row → Done victim (tree_with i m words (IsWithin (kind_seat own p (Push1 r) b) row) t)
  push1_step own p b victim r (Now next) a = now_well own p b victim (Push1 r) t well next a
  push1_step own p b victim r (Store cell content next) a =
      let keeps : Push1Keeps i root input S t p r = push1_row_keeps i fair root input S t law p a.1.holds.place r (stood p a.2 a.1.kind) in
      let got = keeps.stores own b a.1.came.0 0 cell content next a.1.came.1 in
      let none : (x : ℕ) → cell ≡ BlockWord x → crit Root t x ≡ 0 = λ x e. subst (λ (z : ℕ). crit Root t z ≡ 0) (ap address (sym got.0 ∙ e)) (push_none p r (stood p a.2 a.1.kind)) in
      stores_well own p b victim (Push1 r) (over_left p (pushed Held) t) cell content next
      (well_over_left i.code (written m cell (word_of content)) p (pushed Held) (well_pushed i.code (written m cell (word_of content)) Held) Root t (well_written i.code m cell (word_of content) Root t none well)) got.3 a
  push1_step own p b victim r (Exchange cell old new next) a =
      let keeps : Push1Keeps i root input S t p r = push1_row_keeps i fair root input S t law p a.1.holds.place r (stood p a.2 a.1.kind) in
      let got = keeps.exchanges own b a.1.came.0 0 cell old new next a.1.came.1 in
      let unseen = look_cell i.shape cell (subst IsLookCell (sym got.0) tt) a.1.there in
      arrives (Step victim) _ t ((show own p b victim (Push1 r) (Exchange cell old new next) a).unseen_exchanges victim 0 cell old new next a.0 unseen) (as_seen t well)

  push2_step : (own p b victim r : ℕ) (row : Row) → At own p b victim (Push2 r) row → Done victim (tree_with i m words (IsWithin (kind_seat own p (Push2 r) b) row) t)
  push2_step own p b victim r (Now next) a = now_well own p b victim (Push2 r) t well next a
  push2_step own p b victim r (Store cell content next) a =
      absurd ((push2_row_keeps i fair root input S t law p a.1.holds.place r (stood p a.2 a.1.kind)).stores_none own b a.1.came.0 cell content next a.1.came.1)
  push2_step own p b victim r (Exchange cell old new next) a =
      let keeps : Push2Keeps i root input S t p r = push2_row_keeps i fair root input S t law p a.1.holds.place r (stood p a.2 a.1.kind) in
      let got = keeps.exchanges own b a.1.came.0 0 cell old new next a.1.came.1 in
      let unseen = look_cell i.shape cell (subst IsLookCell (sym got.0) tt) a.1.there in
      arrives (Step victim) _ _ ((show own p b victim (Push2 r) (Exchange cell old new next) a).unseen_exchanges victim 0 cell old new next a.0 unseen) (as_seen _ (by (read i.shape words cell == word_of old)))
    where
      by : (made : Bool) → IsWell i.code m Root (by_exchange m p (Push2 r) made t)
      by true = well_over_left i.code m p (pushed Waiting) (well_pushed i.code m Waiting) Root t well
      by false = well

  -- a place without a strand
  module _ (own p b victim : ℕ) (k : RestartKind) (idle : IsIdle k) where
    looks : (row : Row) → At own p b victim k row → LookRow i.shape k row
    looks row a = let sits = kind_seat own p k b in let q = came_idle i.shape sits k row idle a.1.came in comes_look i.shape sits k q.0 (row_of i.shape sits k) row (look_begins i.shape sits k idle) q.1

    idle_step : (row : Row) → At own p b victim k row → Done victim (tree_with i m words (IsWithin (kind_seat own p k b) row) t)
    idle_step (Now next) a = now_well own p b victim k (by_end p k next t) (idle_end_well p k next idle) next a
    idle_step (Store cell content next) a =
        arrives (Step victim) _ _ ((show own p b victim k (Store cell content next) a).unseen_stores victim 0 cell content next a.0 (look_cell i.shape cell (looks (Store cell content next) a).0 a.1.there)) (as_seen _ (idle_store_well p k idle))
    idle_step (Exchange cell old new next) a =
        arrives (Step victim) _ _ ((show own p b victim k (Exchange cell old new next) a).unseen_exchanges victim 0 cell old new next a.0 (look_cell i.shape cell (looks (Exchange cell old new next) a).0 a.1.there))
        (as_seen _ (idle_try_well p k (read i.shape words cell == word_of old) idle))

  -- by its kind
  row_step : (own p b victim : ℕ) (k : RestartKind) (row : Row) → At own p b victim k row → Done victim (tree_with i m words (IsWithin (kind_seat own p k b) row) t)
  row_step own p b victim (Run f y) row a = run_step own p b victim f y row a
  row_step own p b victim (Bump r) row a = bump_step own p b victim r row a
  row_step own p b victim (Push1 r) row a = push1_step own p b victim r row a
  row_step own p b victim (Push2 r) row a = push2_step own p b victim r row a
  row_step own p b victim (Unwind f) row a = unwind_step own p b victim f row a
  row_step own p b victim (Arrive r d) row a = arrive_step own p b victim r d row a
  row_step own p b victim (Join r d) row a = join_step own p b victim r d row a
  row_step own p b victim Pop1 row a = idle_step own p b victim Pop1 tt row a
  row_step own p b victim (Pop2 r) row a = idle_step own p b victim (Pop2 r) tt row a
  row_step own p b victim Seek row a = idle_step own p b victim Seek tt row a
  row_step own p b victim (Steal v x) row a = idle_step own p b victim (Steal v x) tt row a
  row_step own p b victim (Check v x) row a = idle_step own p b victim (Check v x) tt row a
  row_step own p b victim (Take v x) row a = idle_step own p b victim (Take v x) tt row a
  row_step own p b victim (Take2 v) row a = idle_step own p b victim (Take2 v) tt row a

  -- a capsule
  abbrev InRestAt : (own p b : ℕ) → RestartKind → Rest → Type 0
  InRestAt own p b k rest = (stand_of state c ≡ IsRunning (kind_seat own p k b) rest) × InRestSo i state c (kind_seat own p k b) rest × IsAway l p

  does_rest : (own p b : ℕ) (k : RestartKind) (rest : Rest) → InRestAt own p b k rest → S.doing p ≡ InRest rest
  does_rest own p b k rest a = doing_own p a.1.holds (IsRunning (kind_seat own p k b) rest) a.0 refl

  capsule_step : (own p b victim f y : ℕ) (rest : Rest) → InRestAt own p b (Run f y) rest → Done victim (tree_with i m words (IsRunning (kind_seat own p (Run f y) b) rest) t)
  capsule_step own p b victim f y (Loads cell next) a =
      arrives (Step victim) _ t (((turns_show i.shape i.code state c).0 (kind_seat own p (Run f y) b) a.1.holds).1.loads victim cell next a.0) (as_seen t well)
  capsule_step own p b victim f y (Stores cell content next) a =
      let de = does_rest own p b (Run f y) (Stores cell content next) a in
      let cells = (run_row_keeps i fair root input S t law p a.1.holds.place f y (stood p a.2 a.1.kind)).cells cell content next de in
      let is = stores_are_cells i fair root input S t law p a.1.holds.place f y (stood p a.2 a.1.kind) cell cells a.1.there in
      arrives (Step victim) _ t (((turns_show i.shape i.code state c).0 (kind_seat own p (Run f y) b) a.1.holds).1.stores victim 0 cell content next a.0 is)
      (as_written cell (word_of content) t (store_well i fair root input S t law well p a.1.holds.place f y (stood p a.2 a.1.kind) cell content next de))
  capsule_step own p b victim f y Full a =
      arrives (Step victim) _ t (((turns_show i.shape i.code state c).0 (kind_seat own p (Run f y) b) a.1.holds).1.full victim a.0)
      (tried_well (seen FinishWord) 0 (finish_word (OutOfRoom p)) FinishWord t well (well_written i.code m FinishWord (finish_word (OutOfRoom p)) Root t (λ x e. absurd (cc)) well))
  capsule_step own p b victim f y (Installs kind) a =
      arrives (Step victim) _ _ (((turns_show i.shape i.code state c).0 (kind_seat own p (Run f y) b) a.1.holds).1.installs victim kind a.0 a.1.there)
      (as_seen _ (install_well i fair root input S t law well p a.1.holds.place f y (stood p a.2 a.1.kind) kind (does_rest own p b (Run f y) (Installs kind) a)))
  capsule_step own p b victim f y Breaks a = absurd (let e = a.1.there in cc)

  going_none : (p : ℕ) (k : RestartKind) (rest : Rest) → S.kind p ≡ k → S.doing p ≡ InRest rest → Does i m p k (InRest rest)
  going_none p k rest ke de = subst₂ (λ (k : RestartKind) (d : Doing). Does i m p k d) ke de (law.does p)

  rest_step : (own p b victim : ℕ) (k : RestartKind) (rest : Rest) → InRestAt own p b k rest → Done victim (tree_with i m words (IsRunning (kind_seat own p k b) rest) t)
  rest_step own p b victim (Run f y) rest a = capsule_step own p b victim f y rest a
  rest_step own p b victim (Bump r) rest a = absurd (going_none p (Bump r) rest (stood p a.2 a.1.kind) (does_rest own p b (Bump r) rest a))
  rest_step own p b victim (Push1 r) rest a = absurd (going_none p (Push1 r) rest (stood p a.2 a.1.kind) (does_rest own p b (Push1 r) rest a))
  rest_step own p b victim (Push2 r) rest a = absurd (going_none p (Push2 r) rest (stood p a.2 a.1.kind) (does_rest own p b (Push2 r) rest a))
  rest_step own p b victim (Unwind f) rest a = absurd (going_none p (Unwind f) rest (stood p a.2 a.1.kind) (does_rest own p b (Unwind f) rest a))
  rest_step own p b victim (Arrive r d) rest a = absurd (going_none p (Arrive r d) rest (stood p a.2 a.1.kind) (does_rest own p b (Arrive r d) rest a))
  rest_step own p b victim (Join r d) rest a = absurd (going_none p (Join r d) rest (stood p a.2 a.1.kind) (does_rest own p b (Join r d) rest a))
  rest_step own p b victim Pop1 rest a = absurd (going_none p Pop1 rest (stood p a.2 a.1.kind) (does_rest own p b Pop1 rest a))
  rest_step own p b victim (Pop2 r) rest a = absurd (going_none p (Pop2 r) rest (stood p a.2 a.1.kind) (does_rest own p b (Pop2 r) rest a))
  rest_step own p b victim Seek rest a = absurd (going_none p Seek rest (stood p a.2 a.1.kind) (does_rest own p b Seek rest a))
  rest_step own p b victim (Steal v x) rest a = absurd (going_none p (Steal v x) rest (stood p a.2 a.1.kind) (does_rest own p b (Steal v x) rest a))
  rest_step own p b victim (Check v x) rest a = absurd (going_none p (Check v x) rest (stood p a.2 a.1.kind) (does_rest own p b (Check v x) rest a))
  rest_step own p b victim (Take v x) rest a = absurd (going_none p (Take v x) rest (stood p a.2 a.1.kind) (does_rest own p b (Take v x) rest a))
  rest_step own p b victim (Take2 v) rest a = absurd (going_none p (Take2 v) rest (stood p a.2 a.1.kind) (does_rest own p b (Take2 v) rest a))

  -- an act, by where the processor stands
  abbrev GoalAt : Act → Standing → Type 0
  GoalAt act x = Clear (act_with i m words act x t) → IsWell i.code (view i.shape (acts i.shape i.code state c act x).words) Root (act_with i m words act x t)

  at_stand : (act : Act) (x : Standing) (v : Skeleton) → stand_of state c ≡ x → Well (acted i.shape i.code state c act) v → Clear v → IsWell i.code (view i.shape (acts i.shape i.code state c act x).words) Root v
  at_stand act x v e good clear = subst (λ (y : Standing). IsWell i.code (view i.shape (acts i.shape i.code state c act y).words) Root v) e (good clear)

  -- a finish that is proposed
  proposed_well : AreWordsOf i.shape words → (w : ℕ) (b : Bool) → Clear t → IsWell i.code (view i.shape (if b then slice_set words 0 w else words)) Root t
  proposed_well here w true clear = subst (λ (n : Cell → ℕ). IsWell i.code n Root t) (sym (cells_are_viewed i.shape words FinishWord w here refl))
      (as_written FinishWord w t (well_written i.code m FinishWord w Root t (λ x e. absurd (cc)) well) clear)
  proposed_well here w false clear = as_seen t well clear

  step_act : (victim : ℕ) (x : Standing) → stand_of state c ≡ x → IsPresent i.shape state c → StandsSo i state t c x → StandsAway l x → GoalAt (Step victim) x
  step_act victim IsDone e here so away = as_seen t well
  step_act victim IsLost e here so away = at_stand (Step victim) IsLost t e (arrives (Step victim) P t ((turns_show i.shape i.code state c).1.lost victim e) (as_seen t well))
  step_act victim (IsPlaced p) e here so away = at_stand (Step victim) (IsPlaced p) t e (arrives (Step victim) P t ((turns_show i.shape i.code state c).1.placed victim p e) (as_seen t well))
  step_act victim (IsAt p r) e here so away = at_stand (Step victim) (IsAt p r) t e (arrives (Step victim) _ t ((turns_show i.shape i.code state c).1.begins victim p r e so.0) (as_seen t well))
  step_act victim (IsWithin chair row) e here so away =
      at_stand (Step victim) (IsWithin chair row) (tree_with i m words (IsWithin chair row) t) e (row_step chair.own chair.place chair.restart.bottom victim chair.restart.kind row (e, so, away))
  step_act victim (IsRunning chair rest) e here so away =
      at_stand (Step victim) (IsRunning chair rest) (tree_with i m words (IsRunning chair rest) t) e (rest_step chair.own chair.place chair.restart.bottom victim chair.restart.kind rest (e, so, away))
  step_act victim (IsBroken p) e here so away = proposed_well here.words (finish_word (BrokenAt p)) (slice_index words 0 == 0)

  hard_act : IsPresent i.shape state c → Clear t → IsWell i.code (view i.shape (write i.shape words (DeadWord c) 1)) Root t
  hard_act here clear = let out = dead_unseen i.shape i.code state c here.there in
      subst (λ (n : Cell → ℕ). IsWell i.code n Root t) (sym (others_are_unseen i.shape words (DeadWord c) 1 out.there out.no_frame)) (as_seen t well clear)

  act_step : (act : Act) (x : Standing) → stand_of state c ≡ x → ActsSo i state t c act x → StepsAway i l act x → GoalAt act x
  act_step (Step victim) x e so away = step_act victim x e so.0 so.1 away.0
  act_step Soft IsDone e so away = as_seen t well
  act_step Soft _ e so away = as_seen t well
  act_step Hard IsDone e so away = as_seen t well
  act_step Hard _ e so away = hard_act so.0
  act_step (Quit why) IsDone e so away = as_seen t well
  act_step (Quit why) _ e so away = proposed_well so.0.words (finish_word (quit_with c why)) (slice_index words 0 == 0)

-- by which no place goes on with what it inherited, and after which words are kept
pub well_stays_left : (s : Shape) (code : CodeParts) → IsFair code
    → (root : Tree (Frame FrameWord Point) Result) (input : Words) (state : Machine) (l : List Followed) → AreApart l → (t : Skeleton)
    → IsKept (setting s code) root input (left (setting s code) l (places_of s state)) t → IsWell code (view s state.words) Root t → (turn : Turn)
    → ActsSo (setting s code) state t turn.processor turn.act (stand_of state turn.processor) → StepsAway (setting s code) l turn.act (stand_of state turn.processor)
    → IsKept (setting s code) root input (left (setting s code) l (places_of s (happens s code state turn)))
    (act_with (setting s code) (left (setting s code) l (places_of s state)).words state.words turn.act (stand_of state turn.processor) t)
    → IsWell code (view s (happens s code state turn).words) Root (act_with (setting s code) (left (setting s code) l (places_of s state)).words state.words turn.act (stand_of state turn.processor) t)
well_stays_left s code fair root input state l apart t kept well turn so away after =
    act_step (setting s code) fair root input state l t kept (well_left (setting s code) root input (places_of s state) l apart t kept well) turn.processor turn.act (stand_of state turn.processor) refl so away
    (λ x one. left_same (setting s code) l (view s state.words) (BlockWord x) (tree_out (setting s code) root input (places_of s (happens s code state turn)) l apart
    (act_with (setting s code) (left (setting s code) l (places_of s state)).words state.words turn.act (stand_of state turn.processor) t) after x
    (λ none. let low = crit_low Root (act_with (setting s code) (left (setting s code) l (places_of s state)).words state.words turn.act (stand_of state turn.processor) t) x in omega (arith, low, one, none))))

-- by places
pub well_stays : (s : Shape) (code : CodeParts) → s.takeover ≡ ByPlaces → IsFair code
    → (root : Tree (Frame FrameWord Point) Result) (input : Words) (state : Machine) (h : ℕ → Home) (forked taken : List ℕ) (t : Skeleton)
    → IsRun s code root input state h forked taken t → IsWell code (view s state.words) Root t → (turn : Turn) → IsTurnAmong s.processors turn
    → IsWell code (view s (happens s code state turn).words) Root (tree_after (setting s code) state turn t)
well_stays s code places fair root input state h forked taken t run well turn among =
    well_stays_left s code fair root input state [] tt t run.kept well turn (acts_so s code places fair root input state h forked taken t run turn.processor turn.act among.processor)
    (act_away (setting s code) places turn.act (stand_of state turn.processor)) (turns_lead_on s code places fair root input state h forked taken t run turn among).kept

-- the tree stays well after an act by which a place goes on with what it inherited, and stores its restart word alone
pub heir_well : (s : Shape) (code : CodeParts) (state after : Machine) (w p : ℕ) (t : Skeleton)
    → ((x : ℕ) → view s after.words (BlockWord x) ≡ view s state.words (BlockWord x)) → IsWell code (view s state.words) Root t → IsWell code (view s after.words) Root (handed w p t)
heir_well s code state after w p t same well = well_same code (view s state.words) (view s after.words) Root (handed w p t) (λ x one. same x) (well_owned code (view s state.words) w (InPlace p) Root t well)
