-- The work of a run: what one turn makes of it, of what is set aside at places, of what the tree owes, and of what rows have made.
use Rattle.std.proofs.Common.{◌≡◌, ◌≢◌, ◌⊎◌, ◌≤◌, ◌<◌, ℕ, zero, suc, ◌+◌, ◌*◌, ◌==◌, Bool, true, false, if◌then◌else◌, List, inl, inr, refl, sym, ap, ◌∙◌, subst, arith}
use Rattle.std.specs.Prelude.{slice_index}
use Rattle.std.proofs.Math.Path.{fun_ext}
use Rattle.ppm_strands.specs.Tree.{Words, Tree}
use Rattle.ppm_strands.specs.Run.{End, Ends as EndsSo}
use Rattle.ppm_strands.proofs.ToComeLemmas.{strands_are_counted}
use Rattle.ppm_cells.specs.Cells.{IsCell}
use Rattle.ppm_cells.specs.Memory.{read, write as store}
use Rattle.ppm_cells.specs.Restart.{restart_word}
use Rattle.ppm_cells.proofs.CellLemmas.{few_words}
use Rattle.ppm_cells.specs.declared.cell.Cell.{Cell}
use Rattle.ppm_cells.specs.declared.cell.Cell.TheVariants.{FinishWord, CarryWord, DeadWord, RestartWord}
use Rattle.ppm_cells.specs.declared.link.LinkKind.TheVariants.{Root}
use Rattle.ppm_cells.specs.declared.restart.Restart.{Restart}
use Rattle.ppm_cells.specs.declared.restart.RestartKind.{RestartKind}
use Rattle.ppm_cells.specs.declared.restart.RestartKind.TheVariants.{Run, Bump, Push1, Push2, Unwind, Arrive, Join, Pop1, Pop2, Seek, Steal, Check, Take, Take2}
use Rattle.ppm_cells.specs.declared.shape.Shape.{Shape}
use Rattle.ppm_cells.specs.declared.shape.Takeover.{Takeover}
use Rattle.ppm_cells.specs.declared.shape.Takeover.TheVariants.{ByPlaces, ByEntries}
use Rattle.ppm_strands.specs.Strand.{Frame}
use Rattle.ppm_code.specs.Strands.{Point, Result}
use Rattle.ppm_code.specs.declared.code.CodeParts.{CodeParts}
use Rattle.ppm_code.specs.declared.location.FrameWord.{FrameWord}
use Rattle.ppm_step.specs.Contents.{word_of}
use Rattle.ppm_step.specs.Frames.{Rest, Loads, Stores, Full, Installs, Breaks}
use Rattle.ppm_step.specs.Rows.{row_of}
use Rattle.ppm_step.specs.Standings.{Standing, IsLost, IsPlaced, IsAt, IsWithin, IsRunning, IsBroken, IsDone, wanted_row, wanted_rest, forked as forked_restart, begun}
use Rattle.ppm_step.specs.State.{State as RunState, stand_of, acts, want_of, words_after, is_step, is_work, is_work_turn}
use Rattle.ppm_step.specs.There.{restart_is_there}
use Rattle.ppm_step.proofs.ThereLemmas.{restart_fits}
use Rattle.ppm_step.specs.declared.row.Row.{Row}
use Rattle.ppm_step.specs.declared.row.Row.TheVariants.{Now, Store, Exchange}
use Rattle.ppm_step.specs.declared.row.Seat.{Seat}
use Rattle.ppm_step.specs.declared.row.Then.TheVariants.{Load, Install, Fork, Begin, Move, Enter, Again, Broken}
use Rattle.ppm_step.specs.declared.turn.Act.{Act}
use Rattle.ppm_step.specs.declared.turn.Act.TheVariants.{Step, Soft, Hard, Quit}
use Rattle.ppm_paces.specs.Costs.{cost, due, IsLook, IsFree, AreFree}
use Rattle.ppm_paces.specs.Paces.{Paces}
use Rattle.ppm_paces.proofs.LookLemmas.{looks_are_free, searches_are_free}
use Rattle.ppm_paces.proofs.PaceLemmas.{one, most, Sets, install_paid, fork_paid, begin_paid, capsule_paid}
use Rattle.ppm_tickets.specs.Along.{IsPooled}
use Rattle.ppm_tickets.specs.Entries.{IsPooledAt}
use Rattle.ppm_tickets.specs.Homes.{Home}
use Rattle.ppm_tickets.specs.Saw.{Sees}
use Rattle.ppm_tickets.specs.View as spots
use Rattle.ppm_tickets.specs.Heirs.{GoesOnBy}
use Rattle.ppm_tickets.specs.Lawful.{IsAlive, IsDead, Closed, Rooted}
use Rattle.ppm_tickets.specs.Words.{Spot, Dead, Holder, Carry, Word, Number, put}
use Rattle.ppm_tickets.proofs.EntryLemmas.{cell_there}
use Rattle.ppm_tickets.proofs.EstateLemmas.{here}
use Rattle.ppm_tickets.proofs.HeirRows.{heirs_see}
use Rattle.ppm_tickets.proofs.ViewLemmas.{view_else, restarts_kept, kinds_put}
use Rattle.ppm_frames.specs.Skeletons.{Skeleton}
use Rattle.ppm_frames.specs.Seen.{arrays_at}
use Rattle.ppm_frames.specs.Skeletons.{tree_of}
use Rattle.ppm_kept.specs.Running.{IsFair, strands}
use Rattle.ppm_kept.specs.Fates.{Agrees}
use Rattle.ppm_kept.specs.Kept.{State}
use Rattle.ppm_kept.specs.Left.{Followed, left, left_kinds, IsAway, LooksOn, InheritsNone}
use Rattle.ppm_kept.specs.Others.{IsIdle}
use Rattle.ppm_kept.specs.Places.{places_of}
use Rattle.ppm_kept.specs.Pushing.{Comes}
use Rattle.ppm_kept.specs.Steps.{CameBy}
use Rattle.ppm_kept.specs.Credit.{paid_by, ended_by}
use Rattle.ppm_kept.proofs.LeftLemmas.{kind_away}
use Rattle.ppm_runs.specs.Run.{setting, fate_of}
use Rattle.ppm_runs.specs.Follow.{IsHalves}
use Rattle.ppm_runs.proofs.StandLemmas.{kinds_same}
use Rattle.ppm_runs.proofs.SumLemmas.{sum, sum_le, sum_plus, sum_times, sum_there}
use Rattle.ppm_runs.proofs.BegunLemmas.{runs as runs_at, begin_in, begin_sum, runs_begin}
use Rattle.ppm_runs.proofs.CameLemmas.{came_from}
use Rattle.ppm_runs.proofs.ShownLemmas.{away, names_one, within, runs, carried_away}
use Rattle.ppm_runs.proofs.OrderlyLemmas.{how_or, pooled}
use Rattle.ppm_runs.proofs.AgreeLemmas.{IsNoRestart, IsNoCarry, quiet_restart, quiet_carry, exchanges_no_restart, stores_no_restart, exchanges_no_carry, stores_no_carry}
use Rattle.ppm_runs.proofs.JoinLemmas.{restart_not}

-- kinds without work
look_kind : (k : RestartKind) → is_work k ≡ false → IsLook k
look_kind Seek e = tt
look_kind (Steal v x) e = tt
look_kind (Check v x) e = tt
look_kind (Take v x) e = tt
look_kind (Take2 v) e = tt
look_kind (Run f y) e = absurd (cc)
look_kind (Bump r) e = absurd (cc)
look_kind (Push1 r) e = absurd (cc)
look_kind (Push2 r) e = absurd (cc)
look_kind (Unwind f) e = absurd (cc)
look_kind (Arrive r d) e = absurd (cc)
look_kind (Join r d) e = absurd (cc)
look_kind Pop1 e = absurd (cc)
look_kind (Pop2 r) e = absurd (cc)

-- the most of a row is set aside at its place, but for that of a frame
cost_due : (k : RestartKind) → cost k ≤ due k + 172 * runs_at k
cost_due (Run f y) = omega arith
cost_due (Bump r) = omega arith
cost_due (Push1 r) = omega arith
cost_due (Push2 r) = omega arith
cost_due (Unwind f) = omega arith
cost_due (Arrive r d) = omega arith
cost_due (Join r d) = omega arith
cost_due Pop1 = omega arith
cost_due (Pop2 r) = omega arith
cost_due Seek = omega arith
cost_due (Steal v x) = omega arith
cost_due (Check v x) = omega arith
cost_due (Take v x) = omega arith
cost_due (Take2 v) = omega arith

-- what a row has come to is free, if its beginning is
comes_free : (s : Shape) (seat : Seat) (n : ℕ) (r rest : Row) → Comes s seat n r rest → AreFree s seat n r → IsFree rest
comes_free s seat zero r rest e free = subst IsFree e free
comes_free s seat (suc n) (Now (Load point)) rest c free = comes_free s seat n _ rest c.2 (free c.0 c.1)
comes_free s seat (suc n) (Now (Install x)) rest c free = absurd c
comes_free s seat (suc n) (Now (Fork x)) rest c free = absurd c
comes_free s seat (suc n) (Now (Begin x f b)) rest c free = absurd c
comes_free s seat (suc n) (Now (Move x)) rest c free = absurd c
comes_free s seat (suc n) (Now (Enter x)) rest c free = absurd c
comes_free s seat (suc n) (Now Again) rest c free = absurd c
comes_free s seat (suc n) (Now Broken) rest c free = absurd c
comes_free s seat (suc n) (Store cell content next) rest c free = comes_free s seat n (Now next) rest c free
comes_free s seat (suc n) (Exchange cell old new next) rest c free = comes_free s seat n (Now next) rest c free

look_free : (s : Shape) → s.takeover ≡ ByPlaces → (seat : Seat) (k : RestartKind) (row : Row) → IsLook k → CameBy s seat k row → IsFree row
look_free s plain seat Seek row look c = comes_free s seat c.0 (row_of s seat Seek) row c.1 (looks_are_free s plain seat Seek look c.0)
look_free s plain seat (Steal v x) row look c = comes_free s seat c.0 (row_of s seat (Steal v x)) row c.1 (looks_are_free s plain seat (Steal v x) look c.0)
look_free s plain seat (Check v x) row look c = comes_free s seat c.0 (row_of s seat (Check v x)) row c.1 (looks_are_free s plain seat (Check v x) look c.0)
look_free s plain seat (Take v x) row look c = comes_free s seat c.0 (row_of s seat (Take v x)) row c.1 (looks_are_free s plain seat (Take v x) look c.0)
look_free s plain seat (Take2 v) row look c = comes_free s seat c.0 (row_of s seat (Take2 v)) row c.1 (looks_are_free s plain seat (Take2 v) look c.0)
look_free s plain seat _ row look c = absurd look

-- a row after which another place is carried
abbrev IsMove : Row → Type 0
IsMove (Now (Move place)) = Unit {0}
IsMove _ = ⊥

abbrev pub Moves : Standing → Type 0
Moves (IsWithin seat row) = IsMove row
Moves _ = ⊥

-- where a processor stands, nothing has to be set aside for what its row installs, if that is no work
abbrev pub IsFreeAt : Standing → Type 0
IsFreeAt (IsWithin seat row) = is_work seat.restart.kind ≡ false → IsFree row
IsFreeAt _ = Unit {0}

module _ (s : Shape) (code : CodeParts) (fair : IsFair code) (root : Tree (Frame FrameWord Point) Result) (input : Words) (state : RunState) (h : ℕ → Home) (forked taken : List ℕ) (l : List Followed) (t : Skeleton)
    (run : IsHalves s code root input state h forked taken l t) (agrees : Agrees t (λ r. fate_of (h r))) where
  abbrev K : ℕ → RestartKind
  K = spots.kinds s state.words

  -- with the places left out that others have followed
  abbrev L : ℕ → RestartKind
  L = left_kinds l K

  abbrev z : State
  z = left (setting s code) l (places_of s state)

  kinds_left : z.kind ≡ L
  kinds_left = ap (left_kinds l) (fun_ext (kinds_same s state.words))

  abbrev m : Spot → Word
  m = spots.view s state.words

  -- what each place is at stays
  abbrev Still : List ℕ → Type 0
  Still words = spots.kinds s words ≡ K

  elsewhere : (cell : Cell) (w : ℕ) → IsCell s cell → IsNoRestart cell → Still (store s state.words cell w)
  elsewhere cell w is none = fun_ext (λ q. ap (λ (f : ℕ → Restart). (f q).kind) (restarts_kept s state.words cell w is (restart_not cell none)))

  if_still : (y : Bool) (cell : Cell) (w : ℕ) → IsCell s cell → IsNoRestart cell → Still (if y then store s state.words cell w else state.words)
  if_still true cell w is none = elsewhere cell w is none
  if_still false cell w is none = refl

  -- or a place is at another kind, which is paid for
  pub record Installed (c v made : ℕ) (x : Standing) : Type 0 where
    pub place : ℕ
    pub kind : RestartKind
    pub there : place < s.processors
    pub kinds : spots.kinds s (acts s code state c (Step v) x).words ≡ put K place kind
    pub sets : Sets x
    pub alive : IsAlive m c
    pub carry : m (Carry c) ≡ Number place
    pub away : IsAway l place
    pub paid : IsFreeAt x → one (is_work_turn (Step v) x) + made + due kind ≤ due (K place) + paid_by x + 182 * ended_by x

  pub kinds_then : (p : ℕ) (re : Restart) → p < s.processors → restart_is_there s re ≡ true → spots.kinds s (store s state.words (RestartWord p) (restart_word re)) ≡ put K p re.kind
  kinds_then p re there here = kinds_put s state.words p re run.lawful.0 there (restart_fits s (few_words s) re here)

  own_kind : (p : ℕ) (k : RestartKind) → K p ≡ k → due (K p) ≡ due k
  own_kind p k e = ap due e

  -- a step in a row
  row_kinds : (c v made : ℕ) (seat : Seat) (row : Row) → stand_of state c ≡ IsWithin seat row → Paces s made (IsWithin seat row)
      → (Still (acts s code state c (Step v) (IsWithin seat row)).words × (Sets (IsWithin seat row) → ⊥)) ⊎ Installed c v made (IsWithin seat row)
  row_kinds c v made seat (Now (Install re)) e paces =
      let w = within s code root input state h forked taken l t run c seat (Now (Install re)) e in
      let own = own_kind seat.place seat.restart.kind w.sits.at.kind in
      inr (record {
        place = seat.place;
        kind = re.kind;
        there = w.place;
        kinds = kinds_then seat.place re w.place w.here;
        sets = tt;
        alive = w.sits.carried.lives.alive;
        carry = w.sits.carried.carry;
        away = carried_away s code root input state h forked taken l t run c seat.place w.sits.carried;
        paid = λ free. let paid = install_paid s seat made re paces free in omega (arith, paid, own);
      })
  row_kinds c v made seat (Now (Fork r)) e paces =
      let w = within s code root input state h forked taken l t run c seat (Now (Fork r)) e in
      let own = own_kind seat.place seat.restart.kind w.sits.at.kind in
      inr (record {
        place = seat.place;
        kind = Push1 r;
        there = w.place;
        kinds = kinds_then seat.place (forked_restart seat r) w.place w.here;
        sets = tt;
        alive = w.sits.carried.lives.alive;
        carry = w.sits.carried.carry;
        away = carried_away s code root input state h forked taken l t run c seat.place w.sits.carried;
        paid = λ free. let paid = fork_paid s seat made r paces free in omega (arith, paid, own);
      })
  row_kinds c v made seat (Now (Begin r f b)) e paces =
      let w = within s code root input state h forked taken l t run c seat (Now (Begin r f b)) e in
      let own = own_kind seat.place seat.restart.kind w.sits.at.kind in
      inr (record {
        place = seat.place;
        kind = Run f 0;
        there = w.place;
        kinds = kinds_then seat.place (begun f b) w.place w.here;
        sets = tt;
        alive = w.sits.carried.lives.alive;
        carry = w.sits.carried.carry;
        away = carried_away s code root input state h forked taken l t run c seat.place w.sits.carried;
        paid = λ free. let paid = begin_paid s seat made r f b paces in omega (arith, paid, own);
      })
  row_kinds c v made seat (Now (Load x)) e paces = inl (refl, λ z. z)
  row_kinds c v made seat (Now (Enter x)) e paces = inl (refl, λ z. z)
  row_kinds c v made seat (Now Again) e paces = inl (refl, λ z. z)
  row_kinds c v made seat (Now Broken) e paces = inl (refl, λ z. z)
  row_kinds c v made seat (Now (Move x)) e paces =
      let w = within s code root input state h forked taken l t run c seat (Now (Move x)) e in
      inl (elsewhere (CarryWord seat.own) x (subst (λ (n : ℕ). n < s.processors) (sym w.sits.own) w.sits.carried.lives.there) tt, λ z. z)
  row_kinds c v made seat (Store cell content next) e paces =
      let w = within s code root input state h forked taken l t run c seat (Store cell content next) e in
      let pooled : IsPooled s cell = subst (IsPooledAt s) e (pooled s code fair root input state h forked taken l t run agrees c) in
      inl (elsewhere cell (word_of content) (cell_there s code cell w.here pooled) (stores_no_restart s code root input state h forked taken l t run c seat cell content next w), λ z. z)
  row_kinds c v made seat (Exchange cell old new next) e paces =
      let w = within s code root input state h forked taken l t run c seat (Exchange cell old new next) e in
      let pooled : IsPooled s cell = subst (IsPooledAt s) e (pooled s code fair root input state h forked taken l t run agrees c) in
      inl (if_still (read s state.words cell == word_of old) cell (word_of new) (cell_there s code cell w.here pooled) (exchanges_no_restart s code root input state h forked taken l t run c seat cell old new next w), λ z. z)

  -- in a capsule
  rest_kinds : (c v made : ℕ) (seat : Seat) (rest : Rest) → stand_of state c ≡ IsRunning seat rest → Paces s made (IsRunning seat rest)
      → (Still (acts s code state c (Step v) (IsRunning seat rest)).words × (Sets (IsRunning seat rest) → ⊥)) ⊎ Installed c v made (IsRunning seat rest)
  rest_kinds c v made seat (Loads cell go) e paces = inl (refl, λ z. z)
  rest_kinds c v made seat Breaks e paces = inl (refl, λ z. z)
  rest_kinds c v made seat Full e paces = inl (if_still (slice_index state.words 0 == 0) FinishWord _ tt tt, λ z. z)
  rest_kinds c v made seat (Installs kind) e paces =
      let w = runs s code root input state h forked taken l t run c seat (Installs kind) e in
      let sees = subst (Sees s (spots.view s state.words) (spots.kinds s state.words) (spots.bottoms s state.words) c) e (run.lawful.1.sees c) in
      inr (record {
        place = seat.place;
        kind = kind;
        there = w.place;
        kinds = kinds_then seat.place (record { kind = kind; bottom = seat.restart.bottom }) w.place w.here;
        sets = tt;
        alive = sees.0.carried.lives.alive;
        carry = sees.0.carried.carry;
        away = carried_away s code root input state h forked taken l t run c seat.place sees.0.carried;
        paid = λ free. let paid = capsule_paid s seat made kind paces in omega (arith, paid);
      })
  rest_kinds c v made seat (Stores cell content rest) e paces =
      let w = runs s code root input state h forked taken l t run c seat (Stores cell content rest) e in
      let sees = subst (Sees s (spots.view s state.words) (spots.kinds s state.words) (spots.bottoms s state.words) c) e (run.lawful.1.sees c) in
      let pooled : IsPooled s cell = subst (IsPooledAt s) e (pooled s code fair root input state h forked taken l t run agrees c) in
      inl (elsewhere cell (word_of content) (cell_there s code cell w.here pooled) (quiet_restart cell sees.2.0), λ z. z)

  -- a step
  pub step_kinds : (c v made : ℕ) (x : Standing) → stand_of state c ≡ x → Paces s made x
      → (Still (acts s code state c (Step v) x).words × (Sets x → ⊥)) ⊎ Installed c v made x
  step_kinds c v made (IsWithin seat row) e paces = row_kinds c v made seat row e paces
  step_kinds c v made (IsRunning seat rest) e paces = rest_kinds c v made seat rest e paces
  step_kinds c v made (IsBroken p) e paces = inl (if_still (slice_index state.words 0 == 0) FinishWord _ tt tt, λ z. z)
  step_kinds c v made IsLost e paces = inl (refl, λ z. z)
  step_kinds c v made (IsPlaced p) e paces = inl (refl, λ z. z)
  step_kinds c v made (IsAt p r) e paces = inl (refl, λ z. z)
  step_kinds c v made IsDone e paces = inl (refl, λ z. z)

  live_still : (c : ℕ) (act : Act) (x : Standing) → Still (words_after state.words (want_of s code c act x)) → Still (acts s code state c act x).words
  live_still c act IsDone still = refl
  live_still c act IsLost still = still
  live_still c act (IsPlaced p) still = still
  live_still c act (IsAt p r) still = still
  live_still c act (IsWithin seat row) still = still
  live_still c act (IsRunning seat rest) still = still
  live_still c act (IsBroken p) still = still

  -- any other act
  pub act_kinds : (c : ℕ) → c < s.processors → (act : Act) (x : Standing) → is_step act ≡ false → Still (acts s code state c act x).words
  act_kinds c there (Step v) x e = absurd (cc)
  act_kinds c there Soft x e = live_still c Soft x refl
  act_kinds c there Hard x e = live_still c Hard x (elsewhere (DeadWord c) 1 there tt)
  act_kinds c there (Quit why) x e = live_still c (Quit why) x (if_still (slice_index state.words 0 == 0) FinishWord _ tt tt)

  -- the place that a processor carries stays what it was, but where it moves to another one
  abbrev Carries : ℕ → List ℕ → Type 0
  Carries d words = spots.view s words (Carry d) ≡ m (Carry d)

  carry_else : (d : ℕ) (cell : Cell) (w : ℕ) → IsCell s cell → IsNoCarry cell → Carries d (store s state.words cell w)
  carry_else d cell w is none = view_else s state.words cell w (Carry d) is (λ shown e. subst IsNoCarry (sym e) none)

  carry_if : (d : ℕ) (b : Bool) (cell : Cell) (w : ℕ) → IsCell s cell → IsNoCarry cell → Carries d (if b then store s state.words cell w else state.words)
  carry_if d true cell w is none = carry_else d cell w is none
  carry_if d false cell w is none = refl

  row_carries : (c v : ℕ) (seat : Seat) (row : Row) → stand_of state c ≡ IsWithin seat row → (d : ℕ) → d ≢ c ⊎ (IsMove row → ⊥) → Carries d (words_after state.words (wanted_row s seat v row))
  row_carries c v seat (Now (Install re)) e d out = let w = within s code root input state h forked taken l t run c seat (Now (Install re)) e in carry_else d (RestartWord seat.place) (restart_word re) w.place tt
  row_carries c v seat (Now (Fork r)) e d out = let w = within s code root input state h forked taken l t run c seat (Now (Fork r)) e in carry_else d (RestartWord seat.place) (restart_word (forked_restart seat r)) w.place tt
  row_carries c v seat (Now (Begin r f b)) e d out = let w = within s code root input state h forked taken l t run c seat (Now (Begin r f b)) e in carry_else d (RestartWord seat.place) (restart_word (begun f b)) w.place tt
  row_carries c v seat (Now (Load x)) e d out = refl
  row_carries c v seat (Now (Enter x)) e d out = refl
  row_carries c v seat (Now Again) e d out = refl
  row_carries c v seat (Now Broken) e d out = refl
  row_carries c v seat (Now (Move x)) e d (inr still) = absurd (still tt)
  row_carries c v seat (Now (Move x)) e d (inl ne) =
      let w = within s code root input state h forked taken l t run c seat (Now (Move x)) e in
      view_else s state.words (CarryWord seat.own) x (Carry d) (subst (λ (n : ℕ). n < s.processors) (sym w.sits.own) w.sits.carried.lives.there)
      (λ shown same. ne (carried_by same ∙ w.sits.own))
    where
      carrier : Cell → ℕ
      carrier (CarryWord c) = c
      carrier _ = 0

      carried_by : CarryWord d ≡ CarryWord seat.own → d ≡ seat.own
      carried_by same = ap carrier same
  row_carries c v seat (Store cell content next) e d out =
      let w = within s code root input state h forked taken l t run c seat (Store cell content next) e in
      let pooled : IsPooled s cell = subst (IsPooledAt s) e (pooled s code fair root input state h forked taken l t run agrees c) in
      carry_else d cell (word_of content) (cell_there s code cell w.here pooled) (stores_no_carry s code root input state h forked taken l t run c seat cell content next w)
  row_carries c v seat (Exchange cell old new next) e d out =
      let w = within s code root input state h forked taken l t run c seat (Exchange cell old new next) e in
      let pooled : IsPooled s cell = subst (IsPooledAt s) e (pooled s code fair root input state h forked taken l t run agrees c) in
      carry_if d (read s state.words cell == word_of old) cell (word_of new) (cell_there s code cell w.here pooled) (exchanges_no_carry s code root input state h forked taken l t run c seat cell old new next w)

  rest_carries : (c : ℕ) (seat : Seat) (rest : Rest) → stand_of state c ≡ IsRunning seat rest → (d : ℕ) → Carries d (words_after state.words (wanted_rest s seat rest))
  rest_carries c seat (Loads cell go) e d = refl
  rest_carries c seat Breaks e d = refl
  rest_carries c seat Full e d = carry_if d (slice_index state.words 0 == 0) FinishWord _ tt tt
  rest_carries c seat (Installs kind) e d = let w = runs s code root input state h forked taken l t run c seat (Installs kind) e in carry_else d (RestartWord seat.place) _ w.place tt
  rest_carries c seat (Stores cell content rest) e d =
      let w = runs s code root input state h forked taken l t run c seat (Stores cell content rest) e in
      let sees = subst (Sees s (spots.view s state.words) (spots.kinds s state.words) (spots.bottoms s state.words) c) e (run.lawful.1.sees c) in
      let pooled : IsPooled s cell = subst (IsPooledAt s) e (pooled s code fair root input state h forked taken l t run agrees c) in
      carry_else d cell (word_of content) (cell_there s code cell w.here pooled) (quiet_carry cell sees.2.0)

  step_carries : (c v : ℕ) (x : Standing) → stand_of state c ≡ x → (d : ℕ) → d ≢ c ⊎ (Moves x → ⊥) → Carries d (acts s code state c (Step v) x).words
  step_carries c v (IsWithin seat row) e d out = row_carries c v seat row e d out
  step_carries c v (IsRunning seat rest) e d out = rest_carries c seat rest e d
  step_carries c v (IsBroken p) e d out = carry_if d (slice_index state.words 0 == 0) FinishWord _ tt tt
  step_carries c v IsLost e d out = refl
  step_carries c v (IsPlaced p) e d out = refl
  step_carries c v (IsAt p r) e d out = refl
  step_carries c v IsDone e d out = refl

  live_carries : (c : ℕ) (act : Act) (x : Standing) (d : ℕ) → Carries d (words_after state.words (want_of s code c act x)) → Carries d (acts s code state c act x).words
  live_carries c act IsDone d still = refl
  live_carries c act IsLost d still = still
  live_carries c act (IsPlaced p) d still = still
  live_carries c act (IsAt p r) d still = still
  live_carries c act (IsWithin seat row) d still = still
  live_carries c act (IsRunning seat rest) d still = still
  live_carries c act (IsBroken p) d still = still

  pub act_carries : (c : ℕ) → c < s.processors → (act : Act) (d : ℕ) → d ≢ c ⊎ (Moves (stand_of state c) → ⊥) → Carries d (acts s code state c act (stand_of state c)).words
  act_carries c there (Step v) d out = step_carries c v (stand_of state c) refl d out
  act_carries c there Soft d out = live_carries c Soft (stand_of state c) d refl
  act_carries c there Hard d out = live_carries c Hard (stand_of state c) d (carry_else d (DeadWord c) 1 there tt)
  act_carries c there (Quit why) d out = live_carries c (Quit why) (stand_of state c) d (carry_if d (slice_index state.words 0 == 0) FinishWord _ tt tt)

  -- the place that a processor has which lives and carries it
  abbrev pub At : ℕ → ℕ → Type 0
  At p c = IsAlive m c × (m (Carry c) ≡ Number p)

  pub one_at : (p c d : ℕ) → At p c → At p d → c ≡ d
  one_at p c d a b = let held = run.lawful.1.holding.held in names_one (m (Holder p)) c d (held c p a.0 a.1) (held d p b.0 b.1)

  -- what a processor that has met broken words has made of its row is set aside at the place that it carries
  abbrev pub Claim : (c made : ℕ) → Standing → Type 0
  Claim c made (IsBroken p) = (made ≡ 0) ⊎ ((q : ℕ) × (q < s.processors) × At q c × (made ≤ cost (K q)))
  Claim c made _ = Unit {0}

  -- the most of the rows under way is no more than what is set aside at their places, and 172 for each place that runs
  abbrev G : ℕ → ℕ
  G p = due (L p) + 172 * runs_at (L p)

  -- a place that a processor carries which lives is none of those left out
  kind_here : (p c : ℕ) → At p c → L p ≡ K p
  kind_here p c at = kind_away l K p (away l run.lawful.1.board.gone p run.gone (here run.lawful.1.board p (open_ s.takeover run.lawful.1.rooted)))
    where
      told : Word → ℕ
      told (Number q) = q
      told _ = 0

      number_is : Number p ≡ Number c → p ≡ c
      number_is e = ap told e

      open_ : (how : Takeover) → Rooted how m → Closed how m p → ⊥
      open_ ByPlaces rooted shut = shut
      open_ ByEntries rooted shut = at.0 (subst (λ (q : ℕ). IsDead (m (Dead q))) (number_is (sym at.1 ∙ rooted c)) shut)

  module _ (made : ℕ → ℕ) (claims : (c : ℕ) → Claim c (made c) (stand_of state c)) where
    abbrev There : ℕ → Standing → Type 0
    There c x = (most (made c) x ≡ 0) ⊎ ((p : ℕ) × (p < s.processors) × At p c × (most (made c) x ≤ G p))

    own_most : (p : ℕ) (k : RestartKind) → L p ≡ k → cost k ≤ G p
    own_most p k e = subst (λ (q : RestartKind). cost k ≤ due q + 172 * runs_at q) {x = k} (sym e) (cost_due k)

    kind_at : (p : ℕ) (k : RestartKind) → z.kind p ≡ k → L p ≡ k
    kind_at p k e = sym (ap (λ (f : ℕ → RestartKind). f p) kinds_left) ∙ e

    most_there : (c : ℕ) (x : Standing) → stand_of state c ≡ x → Claim c (made c) x → There c x
    most_there c (IsWithin seat row) e claim = let w = within s code root input state h forked taken l t run c seat row e in
        inr (seat.place, w.place, (w.sits.carried.lives.alive, w.sits.carried.carry), own_most seat.place seat.restart.kind (kind_at seat.place seat.restart.kind w.kind))
    most_there c (IsRunning seat rest) e claim =
        let w = runs s code root input state h forked taken l t run c seat rest e in
        let sees = subst (Sees s (spots.view s state.words) (spots.kinds s state.words) (spots.bottoms s state.words) c) e (run.lawful.1.sees c) in
        inr (seat.place, w.place, (sees.0.carried.lives.alive, sees.0.carried.carry), own_most seat.place seat.restart.kind (kind_at seat.place seat.restart.kind w.kind))
    most_there c (IsBroken p) e (inl none) = inl none
    most_there c (IsBroken p) e (inr claim) = inr (claim.0, claim.1, claim.2, let a = own_most claim.0 (K claim.0) (kind_here claim.0 c claim.2) in let b = claim.3 in omega (arith, a, b))
    most_there c IsLost e claim = inl refl
    most_there c (IsPlaced p) e claim = inl refl
    most_there c (IsAt p r) e claim = inl refl
    most_there c IsDone e claim = inl refl

    rows_sum : sum s.processors (λ c. most (made c) (stand_of state c)) ≤ sum s.processors G
    rows_sum = sum_there s.processors s.processors (λ c. most (made c) (stand_of state c)) G At (λ c lt. most_there c (stand_of state c) refl (claims c)) one_at

  runs_sum : sum s.processors (λ p. runs_at (L p)) ≤ sum s.processors (λ p. begin_in p t)
  runs_sum = subst (λ (f : ℕ → RestartKind). sum s.processors (λ p. runs_at (f p)) ≤ sum s.processors (λ p. begin_in p t)) kinds_left
      (sum_le s.processors (λ p. runs_at (z.kind p)) (λ p. begin_in p t) (λ p lt. runs_begin (setting s code) fair root input z t run.kept p (z.kind p) refl))

  -- the work of rows, with the capsules that are counted, is within that of the depth-first run
  pub rows_within : (made : ℕ → ℕ) → ((c : ℕ) → Claim c (made c) (stand_of state c)) → (end : End Result) → EndsSo (strands s code) root input end
      → sum s.processors (λ c. most (made c) (stand_of state c)) + 172 * run.kept.ahead.0.capsules ≤ sum s.processors (λ p. due (L p)) + 172 * end.counts.capsules
  rows_within made claims end ends =
      let d = (run.kept.ahead.1.ends end).0 ends in
      let all : end.counts.capsules ≡ run.kept.ahead.0.capsules + d.0.counts.capsules = ap (λ (e : End Result). e.counts.capsules) d.2 in
      let come = strands_are_counted (strands s code) (tree_of z.words t) (arrays_at z.words) d.0 d.1 in
      let begun_ = begin_sum s.processors z.words Root t in
      let rows = rows_sum made claims in
      let runs_ = runs_sum in
      let parts = sum_plus s.processors (λ p. due (L p)) (λ p. 172 * runs_at (L p)) in
      let times = sum_times s.processors (λ p. runs_at (L p)) in
      omega (arith, all, come, begun_, rows, runs_, parts, times)

  pub few_capsules : (end : End Result) → EndsSo (strands s code) root input end → run.kept.ahead.0.capsules ≤ end.counts.capsules
  few_capsules end ends =
      let d = (run.kept.ahead.1.ends end).0 ends in
      let all : end.counts.capsules ≡ run.kept.ahead.0.capsules + d.0.counts.capsules = ap (λ (e : End Result). e.counts.capsules) d.2 in omega (arith, all)

  -- what a closed place's heir goes on with is none of the kinds that search
  goes_busy : (p w : ℕ) (closed new : RestartKind) → GoesOnBy (Closed s.takeover m) m K (spots.bottoms s state.words) h run.lawful.1.board p w closed new → IsIdle new → ⊥
  goes_busy p w (Run f y) new g idle = subst IsIdle g idle
  goes_busy p w (Bump r) new g idle = subst IsIdle g idle
  goes_busy p w (Push1 r) new g idle = subst IsIdle g.0 idle
  goes_busy p w (Push2 r) new (inl g) idle = subst IsIdle g.0 idle
  goes_busy p w (Push2 r) new (inr g) idle = subst IsIdle g.0 idle
  goes_busy p w (Unwind f) new g idle = subst IsIdle g idle
  goes_busy p w (Arrive r d) new g idle = subst IsIdle g idle
  goes_busy p w (Join r d) new g idle = subst IsIdle g idle
  goes_busy p w _ new g idle = absurd g

  -- by entries, where no place goes on with what it inherited
  module _ (ih : s.takeover ≡ ByEntries) (c : ℕ) (seat : Seat) where
    check_free : (v x : ℕ) (row : Row) → stand_of state c ≡ IsWithin seat row → seat.restart.kind ≡ Check v x → LooksOn (Check v x) row → IsFree row
    check_free v x (Now (Install re)) e ke idle = elim (heirs_see s code ih state h forked taken run.lawful c seat (Now (Install re)) v x e ke) [
      | inl seeks ↦ ap due seeks
      | inr on ↦ absurd (goes_busy seat.place on.0.place (K on.0.place) re.kind on.1 idle)
    ]
    check_free v x (Now (Fork r)) e ke idle = absurd idle
    check_free v x _ e ke idle = tt

    looks_free : (k : RestartKind) (row : Row) → stand_of state c ≡ IsWithin seat row → seat.restart.kind ≡ k → IsLook k → CameBy s seat k row → LooksOn k row → IsFree row
    looks_free Seek row e ke look came looks = comes_free s seat came.0 (row_of s seat Seek) row came.1 (searches_are_free s seat Seek look tt came.0)
    looks_free (Steal v x) row e ke look came looks = comes_free s seat came.0 (row_of s seat (Steal v x)) row came.1 (searches_are_free s seat (Steal v x) look tt came.0)
    looks_free (Take v x) row e ke look came looks = comes_free s seat came.0 (row_of s seat (Take v x)) row came.1 (searches_are_free s seat (Take v x) look tt came.0)
    looks_free (Take2 v) row e ke look came looks = comes_free s seat came.0 (row_of s seat (Take2 v)) row came.1 (searches_are_free s seat (Take2 v) look tt came.0)
    looks_free (Check v x) row e ke look came looks = check_free v x row e ke looks
    looks_free _ row e ke look came looks = absurd look

  -- nothing has to be set aside for what a row without work installs
  pub free_at : (c : ℕ) (x : Standing) → stand_of state c ≡ x → InheritsNone s.takeover x → IsFreeAt x
  free_at c (IsWithin seat row) e none = λ quiet.
      let w = within s code root input state h forked taken l t run c seat row e in
      let came = came_from s seat row (spots.with_restarts m K (spots.bottoms s state.words)) w.here w.seen in
      let look = look_kind seat.restart.kind quiet in
      elim none [
        | inl places ↦ look_free s places seat seat.restart.kind row look came
        | inr looks ↦ elim (how_or s.takeover) [
          | inl places ↦ look_free s places seat seat.restart.kind row look came
          | inr ih ↦ looks_free ih c seat seat.restart.kind row e refl look came looks
        ]
      ]
  free_at c (IsRunning seat rest) e none = tt
  free_at c (IsBroken p) e none = tt
  free_at c IsLost e none = tt
  free_at c (IsPlaced p) e none = tt
  free_at c (IsAt p r) e none = tt
  free_at c IsDone e none = tt
