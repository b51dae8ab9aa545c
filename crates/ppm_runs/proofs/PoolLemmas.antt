-- What a place has given out of its pool at each moment: a turn leaves each counter as it was, or raises it to
-- where the free words of its place's pool begin.
use Rattle.std.proofs.Common.{◌≡◌, ◌⊎◌, ◌≤◌, ◌<◌, ℕ, zero, suc, ◌+◌, ◌==◌, Bool, true, false, if◌then◌else◌, List, [], ◌∷◌, ◌++◌, Option, Some, None, inl, inr, refl, sym, ap, ◌∙◌, subst}
use Rattle.std.specs.Prelude.{slice_index}
use Rattle.std.specs.List.{AllByRecursion}
use Rattle.std.proofs.lemmas.Bool.{cases_eq, lt-ltb}
use Rattle.ppm_strands.specs.Tree.{Words, Tree}
use Rattle.ppm_strands.specs.Calm.{Calm}
use Rattle.ppm_strands.specs.Run.{End, Ends}
use Rattle.ppm_words.specs.declared.named_array.NamedArray.{NamedArray}
use Rattle.ppm_cells.specs.Cells.{IsCell, pool_at}
use Rattle.ppm_cells.specs.Link.{link_of}
use Rattle.ppm_cells.specs.Memory.{read, write as store}
use Rattle.ppm_cells.specs.Restart.{restart_word}
use Rattle.ppm_cells.specs.declared.cell.Cell.{Cell}
use Rattle.ppm_cells.specs.declared.cell.Cell.TheVariants.{FinishWord, CarryWord, DeadWord, RestartWord, RoomCounter, BlockWord}
use Rattle.ppm_cells.specs.declared.link.Link.{Link}
use Rattle.ppm_cells.specs.declared.link.LinkKind.{LinkKind}
use Rattle.ppm_cells.specs.declared.link.LinkKind.TheVariants.{Root, Call as Called, Branch, Fork as Forked}
use Rattle.ppm_cells.specs.declared.restart.RestartKind.{RestartKind}
use Rattle.ppm_cells.specs.declared.restart.RestartKind.TheVariants.{Run, Bump, Push1, Push2, Unwind, Arrive, Join, Pop1, Pop2, Seek, Steal, Check, Take, Take2}
use Rattle.ppm_cells.specs.declared.shape.Shape.{Shape}
use Rattle.ppm_cells.specs.declared.shape.Takeover.TheVariants.{ByPlaces, ByEntries}
use Rattle.ppm_cells.proofs.MemoryLemmas.{read_back, others}
use Rattle.ppm_strands.specs.Strand.{Frame}
use Rattle.ppm_code.specs.Sizes.{frame_size, slots_of}
use Rattle.ppm_code.specs.Strands.{Point, Result}
use Rattle.ppm_code.specs.declared.code.CodeParts.{CodeParts}
use Rattle.ppm_code.specs.declared.location.FrameWord.{FrameWord}
use Rattle.ppm_layout.specs.Correct.{Opens}
use Rattle.ppm_layout.specs.Root.{root_strand}
use Rattle.ppm_layout.specs.declared.images.Image.{Image}
use Rattle.ppm_step.specs.Among.{IsTurnAmong}
use Rattle.ppm_step.specs.Contents.{word_of, read_so}
use Rattle.ppm_step.specs.Frames.{Rest, Loads, Stores, Full, Installs, Breaks}
use Rattle.ppm_step.specs.Laws.{reached}
use Rattle.ppm_step.specs.Rows.{row_of, on_link, bumped}
use Rattle.ppm_step.specs.Standings.{Standing, IsLost, IsPlaced, IsAt, IsWithin, IsRunning, IsBroken, IsDone, wanted_row, wanted_rest, forked as forked_restart, begun}
use Rattle.ppm_step.specs.State.{State as RunState, stand_of, acts, happens, after, opening, want_of, words_after, forks_of, takes_of}
use Rattle.ppm_step.specs.declared.content.Content.{Content}
use Rattle.ppm_step.specs.declared.content.Content.TheVariants.{ALink}
use Rattle.ppm_step.specs.declared.row.Row.{Row}
use Rattle.ppm_step.specs.declared.row.Row.TheVariants.{Now, Store, Exchange}
use Rattle.ppm_step.specs.declared.row.Seat.{Seat}
use Rattle.ppm_step.specs.declared.row.Then.{Then}
use Rattle.ppm_step.specs.declared.row.Then.TheVariants.{Load, Install, Fork, Begin, Move, Enter, Again, Broken}
use Rattle.ppm_step.specs.declared.turn.Act.{Act}
use Rattle.ppm_step.specs.declared.turn.Act.TheVariants.{Step, Soft, Hard, Quit}
use Rattle.ppm_step.specs.declared.turn.Turn.{Turn}
use Rattle.ppm_tickets.specs.Along.{by_act, IsPooled}
use Rattle.ppm_tickets.specs.Entries.{IsPooledAt}
use Rattle.ppm_tickets.specs.Homes.{Home, Unborn}
use Rattle.ppm_tickets.specs.View as spots
use Rattle.ppm_tickets.proofs.EntryLemmas.{cell_there}
use Rattle.ppm_frames.specs.Views.{view}
use Rattle.ppm_frames.specs.Good.{link_or, link_at}
use Rattle.ppm_frames.specs.Seen.{arrays_at}
use Rattle.ppm_frames.specs.Skeletons.{Begins, InPlace, Skeleton, Leaf}
use Rattle.ppm_frames.proofs.ViewLemmas.{view_is}
use Rattle.ppm_kept.specs.Running.{IsFair, strands}
use Rattle.ppm_kept.specs.Kept.{Setting, seat_at, InRow, InRest, State, put, ceiling, Reach, Under, Going, Does}
use Rattle.ppm_kept.specs.Births.{IsNoCounter, IsSteady, SteadyRow}
use Rattle.ppm_kept.specs.Fates.{Agrees}
use Rattle.ppm_kept.specs.Left.{Followed, left}
use Rattle.ppm_kept.specs.Places.{places_of}
use Rattle.ppm_kept.specs.Steps.{CameBy, tree_after}
use Rattle.ppm_kept.specs.Takes.{IsCheck}
use Rattle.ppm_kept.proofs.BeginLemmas.{machines_open}
use Rattle.ppm_kept.proofs.CounterLemmas.{steady_reached, store_reached, may_steady}
use Rattle.ppm_kept.proofs.LoadLemmas.{bump_exchanges_none}
use Rattle.ppm_kept.proofs.PutLemmas.{put_here, put_else}
use Rattle.ppm_kept.proofs.RoomLemmas.{room_is_bounded}
use Rattle.ppm_kept.proofs.Rows.{run_row_keeps}
use Rattle.ppm_kept.proofs.SteadyLemmas.{rows_are_steady}
use Rattle.ppm_runs.specs.Run.{setting, fate_of, IsRun}
use Rattle.ppm_runs.specs.Entries.{IsHeired}
use Rattle.ppm_runs.specs.Follow.{IsHalves}
use Rattle.ppm_runs.specs.Legs.{Leg, words_then, state_then, AreLegs, last_state, all_homes, all_forked, all_taken, RoomIsWithinOverLegs}
use Rattle.ppm_runs.specs.Spent.{RoomIsWithin}
use Rattle.ppm_runs.proofs.CameLemmas.{came_from}
use Rattle.ppm_runs.proofs.HeiredLemmas.{heirs_lead_on, heired_first}
use Rattle.ppm_runs.proofs.LegLemmas.{legs_stay}
use Rattle.ppm_runs.proofs.MomentLemmas.{turns_lead_on}
use Rattle.ppm_runs.proofs.OpenLemmas.{runs_open}
use Rattle.ppm_runs.proofs.OrderlyLemmas.{how_or, pooled}
use Rattle.ppm_runs.proofs.ShownLemmas.{halves, Within, within, runs}

-- a store is of this word
abbrev Raises : (top : ℕ) → Row → Type 0
Raises top (Store cell content next) = word_of content ≡ top
Raises top row = Unit {0}

-- the row of Bump stores where its block ends
module _ (i : Setting) (m : Cell → ℕ) (p r b : ℕ) where
  abbrev bump_seat : Seat
  bump_seat = seat_at p (Bump r) b

  raises_some : (k : LinkKind) (z n : ℕ) (row : Row) → Reach i m bump_seat n (bumped bump_seat r z k) row → Raises (r + z) row
  raises_some (Called g y) z zero row a = subst (Raises (r + z)) a refl
  raises_some (Called g y) z (suc zero) row a = subst (Raises (r + z)) a.1 tt
  raises_some (Called g y) z (suc (suc n)) row a = absurd a.1
  raises_some (Forked g y) z zero row a = subst (Raises (r + z)) a refl
  raises_some (Forked g y) z (suc zero) row a = subst (Raises (r + z)) a.1 tt
  raises_some (Forked g y) z (suc (suc n)) row a = absurd a.1
  raises_some Root z zero row a = subst (Raises (r + z)) a tt
  raises_some Root z (suc n) row a = absurd a
  raises_some (Branch d x) z zero row a = subst (Raises (r + z)) a tt
  raises_some (Branch d x) z (suc n) row a = absurd a

  raises_by : (o : Option Link) (n : ℕ) (row : Row) → Reach i m bump_seat n (on_link (read_so ALink o) (λ (l : Link). bumped bump_seat r l.size l.kind)) row → Raises (r + (link_or o).size) row
  raises_by None zero row a = subst (Raises (r + (link_or None).size)) a tt
  raises_by None (suc n) row a = absurd a
  raises_by (Some l) n row a = raises_some l.kind l.size n row a

  raises_reached : (n : ℕ) (row : Row) → Reach i m bump_seat n (row_of i.shape bump_seat (Bump r)) row → Raises (r + (link_at (m (BlockWord r))).size) row
  raises_reached zero row a = subst (Raises (r + (link_at (m (BlockWord r))).size)) a tt
  raises_reached (suc n) row a = raises_by (link_of (m (BlockWord r))) n row a

-- a kind opens a block, or none
bump_or : (k : RestartKind) → ((r : ℕ) × (k ≡ Bump r)) ⊎ IsSteady k
bump_or (Bump r) = inl (r, refl)
bump_or (Run f y) = inr tt
bump_or (Push1 r) = inr tt
bump_or (Push2 r) = inr tt
bump_or (Unwind f) = inr tt
bump_or (Arrive r d) = inr tt
bump_or (Join r d) = inr tt
bump_or Pop1 = inr tt
bump_or (Pop2 r) = inr tt
bump_or Seek = inr tt
bump_or (Steal v j) = inr tt
bump_or (Check v j) = inr tt
bump_or (Take v j) = inr tt
bump_or (Take2 v) = inr tt

-- whose counter a cell is
abbrev counted : Cell → ℕ
counted (RoomCounter q) = q
counted cell = 0

module _ (s : Shape) (code : CodeParts) (fair : IsFair code) (root : Tree (Frame FrameWord Point) Result) (input : Words) (state : RunState) (h : ℕ → Home) (forked taken : List ℕ) (l : List Followed) (t : Skeleton)
    (run : IsHalves s code root input state h forked taken l t) (agrees : Agrees t (λ r. fate_of (h r))) where
  abbrev i : Setting
  i = setting s code

  abbrev z : State
  z = left i l (places_of s state)

  -- each counter is what it was, or where the free words of its place's pool began
  abbrev Stays : List ℕ → Type 0
  Stays words = (q : ℕ) → q < s.processors
      → (read s words (RoomCounter q) ≡ read s state.words (RoomCounter q)) ⊎ (read s words (RoomCounter q) ≡ ceiling i z.words q (z.kind q))

  same : Stays state.words
  same q there = inl refl

  elsewhere : (cell : Cell) (w : ℕ) → IsCell s cell → IsNoCounter cell → Stays (store s state.words cell w)
  elsewhere cell w is none q there = inl (others s state.words cell (RoomCounter q) w is there (λ e. subst IsNoCounter (sym e) none))

  if_else : (b : Bool) (cell : Cell) (w : ℕ) → IsCell s cell → IsNoCounter cell → Stays (if b then store s state.words cell w else state.words)
  if_else true cell w is none = elsewhere cell w is none
  if_else false cell w is none = same

  bump_stays : (p r w : ℕ) → z.kind p ≡ Bump r → p < s.processors → w ≡ r + (link_at (z.words (BlockWord r))).size → Stays (store s state.words (RoomCounter p) w)
  bump_stays p r w ke there top q is = elim (cases_eq q p) [
    | inl e ↦ inr (subst (λ (x : ℕ). read s (store s state.words (RoomCounter p) w) (RoomCounter x) ≡ ceiling i z.words x (z.kind x)) (sym e)
        (read_back s state.words (RoomCounter p) w run.lawful.0 there ∙ top ∙ sym (ap (ceiling i z.words p) ke)))
    | inr ne ↦ inl (others s state.words (RoomCounter p) (RoomCounter q) w there is (λ e. ne (ap counted e)))
  ]

  -- a row of a kind that opens no block
  steady_by : (seat : Seat) (row : Row) (k : RestartKind) → Under i z.words seat.place k row → CameBy s seat k row → IsSteady k → SteadyRow (IsCheck k) row
  steady_by seat row (Run f y) under came is = subst (SteadyRow ⊥) (sym under) tt
  steady_by seat row (Bump r) under came is = absurd is
  steady_by seat row (Push1 r) under came is = rows_are_steady s seat came.0 (Push1 r) row tt came.1
  steady_by seat row (Push2 r) under came is = rows_are_steady s seat came.0 (Push2 r) row tt came.1
  steady_by seat row (Unwind f) under came is = steady_reached i z.words seat.place (Unwind f) row tt under
  steady_by seat row (Arrive r d) under came is = steady_reached i z.words seat.place (Arrive r d) row tt under
  steady_by seat row (Join r d) under came is = elim under [
    | inl reached ↦ steady_reached i z.words seat.place (Join r d) row tt reached
    | inr last ↦ subst (SteadyRow ⊥) (sym last.is) tt
  ]
  steady_by seat row Pop1 under came is = rows_are_steady s seat came.0 Pop1 row tt came.1
  steady_by seat row (Pop2 r) under came is = rows_are_steady s seat came.0 (Pop2 r) row tt came.1
  steady_by seat row Seek under came is = rows_are_steady s seat came.0 Seek row tt came.1
  steady_by seat row (Steal v j) under came is = rows_are_steady s seat came.0 (Steal v j) row tt came.1
  steady_by seat row (Check v j) under came is = rows_are_steady s seat came.0 (Check v j) row tt came.1
  steady_by seat row (Take v j) under came is = rows_are_steady s seat came.0 (Take v j) row tt came.1
  steady_by seat row (Take2 v) under came is = rows_are_steady s seat came.0 (Take2 v) row tt came.1

  abbrev In : ℕ → Seat → Row → Type 0
  In c seat row = Within s code root input state h forked taken l t run c seat row

  steady_row : (c : ℕ) (seat : Seat) (row : Row) → In c seat row → IsSteady seat.restart.kind → SteadyRow (IsCheck seat.restart.kind) row
  steady_row c seat row w is =
      steady_by seat row seat.restart.kind w.does (came_from s seat row (spots.with_restarts (spots.view s state.words) (spots.kinds s state.words) (spots.bottoms s state.words)) w.here w.seen) is

  store_stays : (c : ℕ) (seat : Seat) (cell : Cell) (content : Content) (next : Then) → In c seat (Store cell content next) → IsCell s cell → Stays (store s state.words cell (word_of content))
  store_stays c seat cell content next w is = elim (bump_or seat.restart.kind) [
    | inl b ↦
        let under : Under i z.words seat.place (Bump b.0) (Store cell content next) = subst (λ (k : RestartKind). Does i z.words seat.place k (InRow (Store cell content next))) b.1 w.does in
        let at : cell ≡ RoomCounter seat.place = store_reached i z.words seat.place b.0 under.0 under.1 (Store cell content next) under.2 in
        let top : word_of content ≡ b.0 + (link_at (z.words (BlockWord b.0))).size = raises_reached i z.words seat.place b.0 under.0 under.1 (Store cell content next) under.2 in
        subst (λ (x : Cell). Stays (store s state.words x (word_of content))) (sym at) (bump_stays seat.place b.0 (word_of content) (w.kind ∙ b.1) w.place top)
    | inr steady ↦ elsewhere cell (word_of content) is (steady_row c seat (Store cell content next) w steady).0
  ]

  trade_steady : (c : ℕ) (seat : Seat) (cell : Cell) (old new : Content) (next : Then) → In c seat (Exchange cell old new next) → IsNoCounter cell
  trade_steady c seat cell old new next w = elim (bump_or seat.restart.kind) [
    | inl b ↦ absurd (bump_exchanges_none i fair root input z t run.kept seat.place w.place b.0 (w.kind ∙ b.1) cell old new next w.doing)
    | inr steady ↦ (steady_row c seat (Exchange cell old new next) w steady).0
  ]

  row_stays : (c v : ℕ) (seat : Seat) (row : Row) → stand_of state c ≡ IsWithin seat row → Stays (words_after state.words (wanted_row s seat v row))
  row_stays c v seat (Now (Install re)) e = let w = within s code root input state h forked taken l t run c seat (Now (Install re)) e in elsewhere (RestartWord seat.place) (restart_word re) w.place tt
  row_stays c v seat (Now (Fork r)) e = let w = within s code root input state h forked taken l t run c seat (Now (Fork r)) e in elsewhere (RestartWord seat.place) (restart_word (forked_restart seat r)) w.place tt
  row_stays c v seat (Now (Begin r f b)) e = let w = within s code root input state h forked taken l t run c seat (Now (Begin r f b)) e in elsewhere (RestartWord seat.place) (restart_word (begun f b)) w.place tt
  row_stays c v seat (Now (Load x)) e = same
  row_stays c v seat (Now (Enter x)) e = same
  row_stays c v seat (Now Again) e = same
  row_stays c v seat (Now Broken) e = same
  row_stays c v seat (Now (Move x)) e =
      let w = within s code root input state h forked taken l t run c seat (Now (Move x)) e in
      elsewhere (CarryWord seat.own) x (subst (λ (n : ℕ). n < s.processors) (sym w.sits.own) w.sits.carried.lives.there) tt
  row_stays c v seat (Store cell content next) e =
      let w = within s code root input state h forked taken l t run c seat (Store cell content next) e in
      let pooled : IsPooled s cell = subst (IsPooledAt s) e (pooled s code fair root input state h forked taken l t run agrees c) in
      store_stays c seat cell content next w (cell_there s code cell w.here pooled)
  row_stays c v seat (Exchange cell old new next) e =
      let w = within s code root input state h forked taken l t run c seat (Exchange cell old new next) e in
      let pooled : IsPooled s cell = subst (IsPooledAt s) e (pooled s code fair root input state h forked taken l t run agrees c) in
      if_else (read s state.words cell == word_of old) cell (word_of new) (cell_there s code cell w.here pooled) (trade_steady c seat cell old new next w)

  -- a capsule stores into no counter
  capsule_steady : (p : ℕ) (k : RestartKind) (cell : Cell) (content : Content) (rest : Rest) → p < s.processors → z.kind p ≡ k → z.doing p ≡ InRest (Stores cell content rest)
      → Going i z.words p k (Stores cell content rest) → IsNoCounter cell
  capsule_steady p (Run f y) cell content rest there ke de go = may_steady i z.words p f y cell ((run_row_keeps i fair root input z t run.kept p there f y ke).cells cell content rest de)
  capsule_steady p (Bump r) cell content rest there ke de go = absurd go
  capsule_steady p (Push1 r) cell content rest there ke de go = absurd go
  capsule_steady p (Push2 r) cell content rest there ke de go = absurd go
  capsule_steady p (Unwind f) cell content rest there ke de go = absurd go
  capsule_steady p (Arrive r d) cell content rest there ke de go = absurd go
  capsule_steady p (Join r d) cell content rest there ke de go = absurd go
  capsule_steady p Pop1 cell content rest there ke de go = absurd go
  capsule_steady p (Pop2 r) cell content rest there ke de go = absurd go
  capsule_steady p Seek cell content rest there ke de go = absurd go
  capsule_steady p (Steal v j) cell content rest there ke de go = absurd go
  capsule_steady p (Check v j) cell content rest there ke de go = absurd go
  capsule_steady p (Take v j) cell content rest there ke de go = absurd go
  capsule_steady p (Take2 v) cell content rest there ke de go = absurd go

  rest_stays : (c : ℕ) (seat : Seat) (rest : Rest) → stand_of state c ≡ IsRunning seat rest → Stays (words_after state.words (wanted_rest s seat rest))
  rest_stays c seat (Loads cell go) e = same
  rest_stays c seat Breaks e = same
  rest_stays c seat Full e = if_else (slice_index state.words 0 == 0) FinishWord _ tt tt
  rest_stays c seat (Installs kind) e = let w = runs s code root input state h forked taken l t run c seat (Installs kind) e in elsewhere (RestartWord seat.place) _ w.place tt
  rest_stays c seat (Stores cell content rest) e =
      let w = runs s code root input state h forked taken l t run c seat (Stores cell content rest) e in
      let pooled : IsPooled s cell = subst (IsPooledAt s) e (pooled s code fair root input state h forked taken l t run agrees c) in
      elsewhere cell (word_of content) (cell_there s code cell w.here pooled) (capsule_steady seat.place (z.kind seat.place) cell content rest w.place refl w.doing w.does)

  step_stays : (c v : ℕ) (x : Standing) → stand_of state c ≡ x → Stays (acts s code state c (Step v) x).words
  step_stays c v (IsWithin seat row) e = row_stays c v seat row e
  step_stays c v (IsRunning seat rest) e = rest_stays c seat rest e
  step_stays c v (IsBroken p) e = if_else (slice_index state.words 0 == 0) FinishWord _ tt tt
  step_stays c v IsLost e = same
  step_stays c v (IsPlaced p) e = same
  step_stays c v (IsAt p r) e = same
  step_stays c v IsDone e = same

  live_stays : (c : ℕ) (act : Act) (x : Standing) → Stays (words_after state.words (want_of s code c act x)) → Stays (acts s code state c act x).words
  live_stays c act IsDone still = same
  live_stays c act IsLost still = still
  live_stays c act (IsPlaced p) still = still
  live_stays c act (IsAt p r) still = still
  live_stays c act (IsWithin seat row) still = still
  live_stays c act (IsRunning seat rest) still = still
  live_stays c act (IsBroken p) still = still

  act_stays : (c : ℕ) → c < s.processors → (act : Act) → Stays (acts s code state c act (stand_of state c)).words
  act_stays c there (Step v) = step_stays c v (stand_of state c) refl
  act_stays c there Soft = live_stays c Soft (stand_of state c) same
  act_stays c there Hard = live_stays c Hard (stand_of state c) (elsewhere (DeadWord c) 1 there tt)
  act_stays c there (Quit why) = live_stays c (Quit why) (stand_of state c) (if_else (slice_index state.words 0 == 0) FinishWord _ tt tt)

-- no pool takes more than the depth-first run takes of all
module _ (s : Shape) (code : CodeParts) (fair : IsFair code) (root : Tree (Frame FrameWord Point) Result) (input : Words) (end : End Result) (ends : Ends (strands s code) root input end) where
  abbrev pub IsBounded : List ℕ → Type 0
  IsBounded words = (q : ℕ) → q < s.processors → read s words (RoomCounter q) ≤ pool_at s q + (frame_size code code.root + end.counts.block_words)

  turn_bounds : (state : RunState) (h : ℕ → Home) (forked taken : List ℕ) (l : List Followed) (t : Skeleton) → IsHalves s code root input state h forked taken l t → Agrees t (λ r. fate_of (h r))
      → (turn : Turn) → IsTurnAmong s.processors turn → IsBounded state.words → IsBounded (happens s code state turn).words
  turn_bounds state h forked taken l t run agrees turn among low q there =
      elim (act_stays s code fair root input state h forked taken l t run agrees turn.processor among.processor turn.act q there) [
        | inl e ↦ subst (λ (x : ℕ). x ≤ pool_at s q + (frame_size code code.root + end.counts.block_words)) (sym e) (low q there)
        | inr e ↦ subst (λ (x : ℕ). x ≤ pool_at s q + (frame_size code code.root + end.counts.block_words)) (sym e)
            (room_is_bounded (setting s code) root input (left (setting s code) l (places_of s state)) t run.kept end ends q)
      ]

  pub places_bound : s.takeover ≡ ByPlaces → (state : RunState) (h : ℕ → Home) (f tk : List ℕ) (t : Skeleton) (turns : List Turn) → AllByRecursion (IsTurnAmong s.processors) turns
      → IsRun s code root input state h f tk t → IsBounded state.words → IsBounded (after s code state turns).words
  places_bound places state h f tk t [] all run low = low
  places_bound places state h f tk t (turn ∷ more) all run low =
      places_bound places (happens s code state turn) (by_act s state.words turn.act (stand_of state turn.processor) h) (forks_of state turn ++ f) (takes_of state turn ++ tk) (tree_after (setting s code) state turn t) more all.1
      (turns_lead_on s code places fair root input state h f tk t run turn all.0) (turn_bounds state h f tk [] t (halves run) run.agrees turn all.0 low)

  entries_bound : s.takeover ≡ ByEntries → (state : RunState) (h : ℕ → Home) (f tk : List ℕ) (l : List Followed) (t : Skeleton) (turns : List Turn) → AllByRecursion (IsTurnAmong s.processors) turns
      → IsHeired s code root input state h f tk l t → IsBounded state.words → IsBounded (after s code state turns).words
  entries_bound ih state h f tk l t [] all run low = low
  entries_bound ih state h f tk l t (turn ∷ more) all run low =
      let next = heirs_lead_on s code ih fair root input state h f tk l t run turn all.0 in
      entries_bound ih (happens s code state turn) (by_act s state.words turn.act (stand_of state turn.processor) h) (forks_of state turn ++ f) (takes_of state turn ++ tk) next.0 next.1 more all.1 next.2
      (turn_bounds state h f tk l t run.halves run.joint.agrees turn all.0 low)

-- where a run opens no place is about to open a block
opening_roof : (i : Setting) (m : Cell → ℕ) (keeper f q : ℕ) → ceiling i m q (put (λ x. Seek) keeper (Run f 0) q) ≡ m (RoomCounter q)
opening_roof i m keeper f q = elim (cases_eq q keeper) [
  | inl e ↦ ap (ceiling i m q) (ap (put (λ x. Seek) keeper (Run f 0)) e ∙ put_here (λ x. Seek) keeper (Run f 0))
  | inr ne ↦ ap (ceiling i m q) (put_else (λ x. Seek) keeper (Run f 0) q ne)
]

module _ (code : CodeParts) (input : List NamedArray) (s : Shape) (keeper : ℕ) (im : Image) (fair : IsFair code) (opens : Opens code input s keeper im) (calm : Calm (strands s code) (root_strand code input) (arrays_at (view s im.words)))
    (end : End Result) (ends : Ends (strands s code) (root_strand code input) (arrays_at (view s im.words)) end) where
  abbrev root : Tree (Frame FrameWord Point) Result
  root = root_strand code input

  abbrev arrays : Words
  arrays = arrays_at (view s im.words)

  abbrev first : RunState
  first = opening im.words s.processors

  abbrev leaf : Skeleton
  leaf = Leaf (InPlace keeper) (Begins 0) (pool_at s keeper) (slots_of code code.root)

  abbrev Low : List ℕ → Type 0
  Low words = IsBounded s code fair root arrays end ends words

  run : IsRun s code root arrays first (λ r. Unborn) [] [] leaf
  run = runs_open code input s keeper im opens calm

  opened : Low im.words
  opened q there =
      subst (λ (x : ℕ). x ≤ pool_at s q + (frame_size code code.root + end.counts.block_words))
      (ap (λ (z : State). ceiling (setting s code) z.words q (z.kind q)) (machines_open code input s keeper im opens calm).0 ∙ opening_roof (setting s code) (view s im.words) keeper (pool_at s keeper) q ∙ view_is s im.words (RoomCounter q) (lt-ltb q s.processors there))
      (room_is_bounded (setting s code) root arrays (places_of s first) leaf run.kept end ends q)

  stays_low : (turns : List Turn) → AllByRecursion (IsTurnAmong s.processors) turns → Low (reached s code im.words turns).words
  stays_low turns all = elim (how_or s.takeover) [
    | inl places ↦ places_bound s code fair root arrays end ends places first (λ r. Unborn) [] [] leaf turns all run opened
    | inr ih ↦ entries_bound s code fair root arrays end ends ih first (λ r. Unborn) [] [] [] leaf turns all (heired_first code input s keeper im opens calm) opened
  ]

  -- over legs; words that come back have the counters as they were
  module _ (places : s.takeover ≡ ByPlaces) where
    leg_low : (legs : List Leg) → AreLegs s code im.words legs → Low (words_then s code im.words legs) → (turns : List Turn) → AllByRecursion (IsTurnAmong s.processors) turns → Low (last_state s code im.words legs turns).words
    leg_low legs are low turns all =
        let there = legs_stay code input s keeper im places fair opens calm legs are [] tt in
        places_bound s code fair root arrays end ends places (state_then s code im.words legs) (all_homes s code im.words legs []) (all_forked s code im.words legs []) (all_taken s code im.words legs []) there.0 turns all there.1 low

    back_low : (legs : List Leg) → AreLegs s code im.words legs → Low (words_then s code im.words legs)
    back_low [] are = opened
    back_low (leg ∷ legs) are = λ q there.
        subst (λ (x : ℕ). x ≤ pool_at s q + (frame_size code code.root + end.counts.block_words)) (sym (are.2.renewal.renewed (RoomCounter q) there)) (leg_low legs are.0 (back_low legs are.0) leg.turns are.1 q there)

    legs_low : (legs : List Leg) → AreLegs s code im.words legs → (turns : List Turn) → AllByRecursion (IsTurnAmong s.processors) turns → Low (last_state s code im.words legs turns).words
    legs_low legs are turns all = leg_low legs are (back_low legs are) turns all

pub room_is_within : RoomIsWithin
room_is_within code input s keeper im fair opens calm turns all end ends place there = stays_low code input s keeper im fair opens calm end ends turns all place there

pub room_is_within_over_legs : RoomIsWithinOverLegs
room_is_within_over_legs code input s keeper im places fair opens calm legs are turns all end ends place there = legs_low code input s keeper im fair opens calm end ends places legs are turns all place there
