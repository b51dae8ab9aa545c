-- What joins the halves of a run's state does so again after a turn by which no place goes on with what it
-- inherited.
use Rattle.std.proofs.Common.{◌≡◌, ◌≢◌, ◌⊎◌, ◌<◌, ◌≤◌, ℕ, zero, suc, ◌+◌, ◌==◌, Bool, true, false, if◌then◌else◌, List, [], ◌++◌, Option, Some, None, inl, inr, refl, sym, ap, ◌∙◌, subst, subst₂, arith}
use Rattle.std.specs.Prelude.{slice_index, slice_get, nat_lt, ◌^◌}
use Rattle.std.proofs.lemmas.Bool.{cases_eq, cases_Bool, eqb-true, ltb-true}
use Rattle.ppm_strands.specs.Tree.{Words, Tree}
use Rattle.ppm_cells.specs.Cells.{IsCell}
use Rattle.ppm_cells.specs.Entry.{IsEntry}
use Rattle.ppm_cells.specs.Memory.{read, write as store}
use Rattle.ppm_cells.specs.Restart.{restart_of, restart_word}
use Rattle.ppm_cells.specs.declared.cell.Cell.{Cell}
use Rattle.ppm_cells.specs.declared.cell.Cell.TheVariants.{FinishWord, CarryWord, DeadWord, RestartWord, EntryWord, BlockWord}
use Rattle.ppm_cells.specs.declared.entry.Entry.{Entry}
use Rattle.ppm_cells.specs.declared.entry.Entry.TheVariants as entries
use Rattle.ppm_cells.specs.declared.link.LinkKind.TheVariants.{Root}
use Rattle.ppm_cells.specs.declared.restart.Restart.{Restart}
use Rattle.ppm_cells.specs.declared.restart.RestartKind.{RestartKind}
use Rattle.ppm_cells.specs.declared.restart.RestartKind.TheVariants.{Run, Bump, Push1, Push2, Unwind, Arrive, Join, Pop1, Pop2, Seek, Steal, Check, Take, Take2}
use Rattle.ppm_cells.specs.declared.shape.Shape.{Shape}
use Rattle.ppm_cells.specs.declared.shape.Takeover.TheVariants.{ByPlaces, ByEntries}
use Rattle.ppm_cells.specs.declared.shape.Takeover.{Takeover}
use Rattle.ppm_strands.specs.Strand.{Frame}
use Rattle.ppm_code.specs.Strands.{Point, Result}
use Rattle.ppm_code.specs.declared.code.CodeParts.{CodeParts}
use Rattle.ppm_code.specs.declared.location.FrameWord.{FrameWord}
use Rattle.ppm_cells.specs.JoinOrder.{both}
use Rattle.ppm_step.specs.Among.{IsTurnAmong}
use Rattle.ppm_step.specs.Contents.{content_of, word_of}
use Rattle.ppm_step.specs.Points.{cell_at, reading_at}
use Rattle.ppm_step.specs.Frames.{Rest, Loads, Stores, Full, Installs, Breaks}
use Rattle.ppm_step.specs.Standings.{Standing, IsLost, IsPlaced, IsAt, IsWithin, IsRunning, IsBroken, IsDone, wanted, wanted_row, wanted_rest, forked as forked_restart, begun, within_if, running_if, running, row_is_there, then_is_there, rest_is_there, enters, stands_then, stands, begins_if, at_finish, placed, went_rest, went}
use Rattle.ppm_step.specs.Rows.{row_of, push_at, found_at, on_entry, push_above, push_by_order, raised}
use Rattle.ppm_code.specs.declared.code.Capsule.{Capsule as CodeCapsule}
use Rattle.ppm_tickets.proofs.StepLemmas.{stand_own, stand_other}
use Rattle.ppm_tickets.proofs.HeirRows.{heirs_see}
use Rattle.ppm_frames.specs.Views.{view}
use Rattle.ppm_step.specs.State.{State as RunState, stand_of, happens, acts, want_of, found_in, words_after, stand_after, forks_of, takes_of, step_by, row_by, fork_row}
use Rattle.ppm_step.specs.There.{is_there, restart_is_there}
use Rattle.ppm_step.proofs.ThereLemmas.{restart_fits}
use Rattle.ppm_step.specs.declared.content.Content.{Content}
use Rattle.ppm_step.specs.declared.content.Content.TheVariants.{AnEntry}
use Rattle.ppm_step.specs.declared.row.Point.{Point as RowPoint}
use Rattle.ppm_step.specs.declared.row.Point.TheVariants.{PushAbove, PushOrder}
use Rattle.ppm_step.specs.declared.row.Row.{Row}
use Rattle.ppm_step.specs.declared.row.Row.TheVariants.{Now, Store, Exchange}
use Rattle.ppm_step.specs.declared.row.Seat.{Seat}
use Rattle.ppm_step.specs.declared.row.Then.{Then}
use Rattle.ppm_step.specs.declared.row.Then.TheVariants.{Load, Install, Fork, Begin, Move, Enter, Again, Broken}
use Rattle.ppm_step.specs.declared.turn.Act.{Act}
use Rattle.ppm_step.specs.declared.turn.Act.TheVariants.{Step, Soft, Hard, Quit}
use Rattle.ppm_step.specs.declared.turn.Turn.{Turn}
use Rattle.ppm_tickets.specs.Along.{by_act, by_standing, IsPooled}
use Rattle.ppm_tickets.specs.Entries.{IsPooledAt}
use Rattle.ppm_tickets.specs.Homes.{Home, Unborn, Pushing}
use Rattle.ppm_tickets.specs.Heirs.{ChecksSo}
use Rattle.ppm_tickets.specs.Lawful.{IsEmpty, Pushes, Carries, Closed}
use Rattle.ppm_tickets.specs.Saw.{IsQuietCell, Carried, HasSeen, Strand, Looks, Sees}
use Rattle.ppm_tickets.specs.View as spots
use Rattle.ppm_tickets.specs.Words.{Word, Spot, Slot, put, has}
use Rattle.ppm_tickets.proofs.EntryLemmas.{MayChange, cell_there}
use Rattle.ppm_cells.proofs.CellLemmas.{few_words}
use Rattle.ppm_tickets.proofs.ViewLemmas.{restarts_kept, kinds_put, bottoms_put, view_else}
use Rattle.ppm_tickets.proofs.WriteLemmas.{put_here, put_else}
use Rattle.ppm_frames.specs.Skeletons.{Fresh, Held, Skeleton, count}
use Rattle.ppm_frames.proofs.ViewLemmas.{view_is}
use Rattle.ppm_kept.specs.Running.{IsFair}
use Rattle.ppm_kept.specs.Kept.{State, InRow}
use Rattle.ppm_kept.specs.Births.{Births}
use Rattle.ppm_kept.specs.Counting.{forks_with, opened_by}
use Rattle.ppm_kept.specs.Credit.{by_step}
use Rattle.ppm_kept.specs.Heirs.{OpensAs}
use Rattle.ppm_kept.specs.Laws.{kind_then}
use Rattle.ppm_kept.specs.Left.{Followed, left_words, left, IsAway, InheritsNone}
use Rattle.ppm_kept.specs.Places.{kind_or, kinds_of, places_of}
use Rattle.ppm_kept.specs.Steps.{act_with, tree_with, by_end, by_store}
use Rattle.ppm_kept.specs.Pushing.{kind_seat}
use Rattle.ppm_kept.specs.Unruns.{HasUnrun}
use Rattle.ppm_kept.specs.Kept.{InRest, Does}
use Rattle.ppm_kept.specs.Moves.{by_install}
use Rattle.ppm_kept.proofs.PutLemmas as kept_puts
use Rattle.ppm_kept.proofs.LeftLemmas.{kind_away, shown}
use Rattle.ppm_kept.proofs.LinkLemmas.{unrun_linked, called_or}
use Rattle.ppm_kept.proofs.OrderLemmas.{order_says, order_shown}
use Rattle.ppm_kept.proofs.StateLemmas.{turns_show}
use Rattle.ppm_frames.specs.Good.{link_at}
use Rattle.ppm_runs.specs.Run.{setting, fate_of, IsAtLast, IsRun}
use Rattle.ppm_runs.specs.Follow.{IsHalves, CarriesOn, OpensBlock}
use Rattle.ppm_runs.specs.Joint.{IsCapped, PushesOn, AreJoint, StepsAlone, JointsStay}
use Rattle.ppm_runs.specs.Whole.{JoinsStay}
use Rattle.ppm_runs.proofs.StandLemmas.{kinds_same}
use Rattle.ppm_runs.proofs.GoingLemmas.{Doer, doer, turns_go_on}
use Rattle.ppm_runs.proofs.BearingLemmas.{births_follow}
use Rattle.ppm_runs.proofs.ShownLemmas.{halves, carried_away, Within, within, Runs, runs}
use Rattle.ppm_runs.proofs.OrderlyLemmas.{places_row, pooled}
use Rattle.ppm_runs.proofs.TameLemmas.{May, TameRow, TameOld, rest_tame}
use Rattle.ppm_runs.proofs.OpenedLemmas.{opens_same, unborn, fork_fresh, owner_of, closed_before, load_opens}
use Rattle.ppm_runs.proofs.AgreeLemmas.{AgreeOn, agree_on, Opened, on_opened, LastSo, AbovePoint, AbovePush, AboveSo, push1_shape, not_both, here, same, unruns, row_agree, opens_agree, IsPush, IsNoRestart, IsNoEntry, quiet_restart, quiet_entry, installs_low, changes, entry_shown, open_, pushing_home, pushing_place, not_followed, exchanges_no_restart, stores_no_restart, stores_no_entry}

pub restart_not : (cell : Cell) → IsNoRestart cell → (q : ℕ) → RestartWord q ≢ cell
restart_not cell no_restart q e = subst IsNoRestart (sym e) no_restart

-- where a row stands that is come to
abbrev SameRow : Seat → Row → Standing → Type 0
SameRow seat row (IsWithin seat' row') = (seat ≡ seat') × (row ≡ row')
SameRow seat row _ = Unit {0}

abbrev NotWithin : Standing → Type 0
NotWithin (IsWithin seat row) = ⊥
NotWithin _ = Unit {0}

abbrev IsBegun : Shape → Standing → Type 0
IsBegun s (IsWithin seat row) = row_of s seat seat.restart.kind ≡ row
IsBegun s _ = Unit {0}

running_out : (s : Shape) (seat : Seat) (rest : Rest) → NotWithin (running s seat rest)
running_out s seat rest = by (rest_is_there s seat rest)
  where
    by : (b : Bool) → NotWithin (running_if seat rest b)
    by true = tt
    by false = tt

not_same : (seat : Seat) (row : Row) (x : Standing) → NotWithin x → SameRow seat row x
not_same seat row (IsWithin a b) n = absurd n
not_same seat row _ n = tt

module _ (s : Shape) (code : CodeParts) where
  within_same : (seat : Seat) (row : Row) (b : Bool) → SameRow seat row (within_if seat row b)
  within_same seat row true = (refl, refl)
  within_same seat row false = tt

  enters_out : (seat : Seat) (k : RestartKind) (o : Option CodeCapsule) → NotWithin (enters s code seat k o)
  enters_out seat (Run f y) (Some one) = running_out s seat _
  enters_out seat _ o = tt

  then_same : (seat : Seat) (next : Then) → SameRow seat (Now next) (stands_then s code seat next)
  then_same seat (Enter x) = not_same seat (Now (Enter x)) _ (enters_out seat seat.restart.kind (slice_get code.capsules x))
  then_same seat Again = tt
  then_same seat (Load x) = within_same seat (Now (Load x)) (then_is_there s seat (Load x))
  then_same seat (Install x) = within_same seat (Now (Install x)) (then_is_there s seat (Install x))
  then_same seat (Fork x) = within_same seat (Now (Fork x)) (then_is_there s seat (Fork x))
  then_same seat (Begin x w v) = within_same seat (Now (Begin x w v)) (then_is_there s seat (Begin x w v))
  then_same seat (Move x) = within_same seat (Now (Move x)) (then_is_there s seat (Move x))
  then_same seat Broken = within_same seat (Now Broken) (then_is_there s seat Broken)

  stands_same : (seat : Seat) (row : Row) → SameRow seat row (stands s code seat row)
  stands_same seat (Now next) = then_same seat next
  stands_same seat (Store c w x) = within_same seat (Store c w x) (row_is_there s seat (Store c w x))
  stands_same seat (Exchange c v w x) = within_same seat (Exchange c v w x) (row_is_there s seat (Exchange c v w x))

  begun_of : (seat : Seat) (x : Standing) → SameRow seat (row_of s seat seat.restart.kind) x → IsBegun s x
  begun_of seat (IsWithin a b) q = subst (λ (o : Seat). row_of s o o.restart.kind ≡ b) q.0 q.1
  begun_of seat IsLost q = tt
  begun_of seat (IsPlaced p) q = tt
  begun_of seat (IsAt p r) q = tt
  begun_of seat (IsRunning a b) q = tt
  begun_of seat (IsBroken p) q = tt
  begun_of seat IsDone q = tt

  begins_begun : (own p : ℕ) (r : Option Restart) (found : ℕ) → IsBegun s (at_finish s code own p r found)
  begins_begun own p r (suc found) = tt
  begins_begun own p None zero = tt
  begins_begun own p (Some r) zero = by (restart_is_there s r)
    where
      by : (b : Bool) → IsBegun s (begins_if s code (record { own = own; place = p; restart = r }) b)
      by true = begun_of (record { own = own; place = p; restart = r }) _ (stands_same (record { own = own; place = p; restart = r }) (row_of s (record { own = own; place = p; restart = r }) r.kind))
      by false = tt

  placed_out : (found : ℕ) → NotWithin (placed s found)
  placed_out found = by (nat_lt found s.processors)
    where
      by : (b : Bool) → NotWithin (if b then IsPlaced found else IsBroken 64)
      by true = tt
      by false = tt

  rest_out : (seat : Seat) (found : ℕ) (rest : Rest) → NotWithin (went_rest s seat found rest)
  rest_out seat found (Loads c go) = running_out s seat (go found)
  rest_out seat found (Stores c w rest) = running_out s seat rest
  rest_out seat found Full = tt
  rest_out seat found (Installs k) = tt
  rest_out seat found Breaks = tt

-- a row of Push1 begins with no install
push1_begins : (s : Shape) (seat : Seat) (r : ℕ) (re : Restart) → row_of s seat (Push1 r) ≡ Now (Install re) → ⊥
push1_begins s seat r re e = by (seat.restart.bottom + 1 == s.slots) s.takeover e
  where
    by : (y : Bool) (how : Takeover) → push_at seat how r y ≡ Now (Install re) → ⊥
    by true how e = cc
    by false ByPlaces e = cc
    by false ByEntries e = cc

-- the loads of Push1: that of the entry above comes to no left branch
abbrev install_kind : Row → RestartKind
install_kind (Now (Install re)) = re.kind
install_kind _ = Seek

above_never : (seat : Seat) (x f y b : ℕ) (w : Content) → on_entry w (push_above seat x) ≡ Now (Install (record { kind = Run f y; bottom = b })) → ⊥
above_never seat x f y b (AnEntry (entries.Empty t0)) e = by (nat_lt (t0 + 1) (2 ^ 34)) e
  where
    by : (q : Bool) → raised (EntryWord seat.place (seat.restart.bottom + 1)) (entries.Empty t0) (entries.Local (t0 + 1) 0) (Install (record { kind = Push2 x; bottom = seat.restart.bottom })) q ≡ Now (Install (record { kind = Run f y; bottom = b })) → ⊥
    by true e = cc
    by false e = cc
above_never seat x f y b (AnEntry (entries.Local t0 z)) e = let k : Push2 x ≡ Run f y = ap install_kind e in cc
above_never seat x f y b (AnEntry (entries.Job t0 z)) e = let k : Push2 x ≡ Run f y = ap install_kind e in cc
above_never seat x f y b (AnEntry (entries.Taken t0 z)) e = let k : Push2 x ≡ Run f y = ap install_kind e in cc
above_never seat x f y b _ e = cc

-- that of the order word does where it says that both are one strand's
order_both : (seat : Seat) (x f y b n : ℕ) → push_by_order seat x n ≡ Now (Install (record { kind = Run f y; bottom = b })) → n ≡ 3
order_both seat x f y b n e = by (n == both) refl e
  where
    by : (q : Bool) → (n == both) ≡ q → (if q then Now (Install (record { kind = Run (x + 5) 0; bottom = seat.restart.bottom })) else Now (Load (PushAbove x))) ≡ Now (Install (record { kind = Run f y; bottom = b })) → n ≡ 3
    by true k e = eqb-true n both k
    by false k e = absurd (cc)

-- by entries a row of Push1 begins with no push
begins_no_push : (s : Shape) (seat : Seat) (r : ℕ) (row : Row) → s.takeover ≡ ByEntries → row_of s seat (Push1 r) ≡ row → PushesOn row → ⊥
begins_no_push s seat r row entries e on = by (seat.restart.bottom + 1 == s.slots) s.takeover entries (subst PushesOn (sym e) on)
  where
    by : (y : Bool) (how : Takeover) → how ≡ ByEntries → PushesOn (push_at seat how r y) → ⊥
    by true how k on = on
    by false ByPlaces k on = cc
    by false ByEntries k on = on

-- at the last slot none pushes on, nor after a store or an exchange
last_no_push : (row : Row) → LastSo row → PushesOn row → ⊥
last_no_push (Now (Load x)) a on = a
last_no_push (Exchange cell old new next) a on = a
last_no_push (Store cell content next) a on = on
last_no_push (Now (Install re)) a on = on
last_no_push (Now (Fork x)) a on = on
last_no_push (Now (Begin x w v)) a on = on
last_no_push (Now (Move x)) a on = on
last_no_push (Now (Enter x)) a on = on
last_no_push (Now Again) a on = on
last_no_push (Now Broken) a on = on

store_no_push : (cell : Cell) (content : Content) (next : Then) → LastSo (Store cell content next) → PushesOn (Now next) → ⊥
store_no_push cell content (Install re) a on = on
store_no_push cell content _ a on = absurd a

trade_no_push : (b r : ℕ) (next : Then) → AbovePush b r next → PushesOn (Now next) → ⊥
trade_no_push b r (Install re) a on = on
trade_no_push b r _ a on = absurd a

-- an entry that is changed, and that it is empty by its word
old_entry : (how : Takeover) (v j : ℕ) (old new : Content) → MayChange how (EntryWord v j) old new → (e : Entry) × (old ≡ AnEntry e) × IsEntry e
old_entry how v j (AnEntry x) (AnEntry y) q = (x, refl, q.1)
old_entry how v j _ _ q = absurd q

emptied : (e : Entry) → IsEmpty (spots.word_as (AnEntry e)) → (t : ℕ) × (e ≡ entries.Empty t)
emptied (entries.Empty t) a = (t, refl)
emptied (entries.Local t x) a = absurd a
emptied (entries.Job t x) a = absurd a
emptied (entries.Taken t x) a = absurd a

abbrev place_told : Cell → ℕ
place_told (EntryWord v j) = v
place_told _ = 0

abbrev slot_told : Cell → ℕ
slot_told (EntryWord v j) = j
slot_told _ = 0

cell_or : (c : Cell) → ((a : ℕ) × (j : ℕ) × (c ≡ EntryWord a j)) ⊎ IsNoEntry c
cell_or (EntryWord a j) = inl (a, j, refl)
cell_or _ = inr tt

-- whose processor installs
abbrev pub Installing : Standing → (place : ℕ) → Type 0
Installing (IsWithin seat (Now (Install re))) q = seat.place ≡ q
Installing (IsWithin seat (Now (Fork x))) q = seat.place ≡ q
Installing (IsWithin seat (Now (Begin x f y))) q = seat.place ≡ q
Installing (IsRunning seat (Installs kind)) q = seat.place ≡ q
Installing x q = ⊥

-- places are closed by entries alone
pub entries_by : (how : Takeover) (m : Spot → Word) (w : ℕ) → Closed how m w → how ≡ ByEntries
entries_by ByPlaces m w shut = absurd shut
entries_by ByEntries m w shut = refl

-- no row ends as it begins
abbrev GoesFirst : Row → Type 0
GoesFirst (Now next) = Unit {0} → CarriesOn next → ⊥
GoesFirst row = Unit {0}

-- Push1 alone fills an empty entry
abbrev no_fills : May
no_fills = record { forks = λ r. Unit {0}; begins = λ r. Unit {0}; stores = λ a. Unit {0}; trades = λ a. Unit {0}; jobs = λ r. Unit {0}; fills = ⊥; bids = Unit {0} }

fills_begun : (s : Shape) (seat : Seat) (k : RestartKind) → ((r : ℕ) × (k ≡ Push1 r)) ⊎ TameRow s.takeover no_fills (row_of s seat k)
fills_begun s seat (Push1 r) = inl (r, refl)
fills_begun s seat (Run f y) = inr tt
fills_begun s seat (Bump r) = inr tt
fills_begun s seat (Push2 r) = inr tt
fills_begun s seat (Unwind f) = inr (λ a. tt)
fills_begun s seat (Arrive r d) = inr (tt, tt, tt)
fills_begun s seat (Join r d) = inr (tt, λ a. tt)
fills_begun s seat Pop1 = inr tt
fills_begun s seat (Pop2 r) = inr tt
fills_begun s seat Seek = inr tt
fills_begun s seat (Steal v x) = inr tt
fills_begun s seat (Check v x) = inr (λ r. tt, inr (λ r. tt))
fills_begun s seat (Take v x) = inr (places_row s.takeover s.takeover no_fills _ tt)
fills_begun s seat (Take2 v) = inr (places_row s.takeover s.takeover no_fills _ tt)

-- Push1 alone fills an empty entry, in a row that has seen words
filler : (s : Shape) (m : Spot → Word) (seat : Seat) (cell : Cell) (old new : Content) (next : Then) → HasSeen s m seat (Exchange cell old new next)
    → ((r : ℕ) × (seat.restart.kind ≡ Push1 r)) ⊎ (IsQuietCell cell ⊎ TameOld s.takeover no_fills old)
filler s m seat cell old new next (Strand is quiet) = inr (inl quiet.0)
filler s m seat cell old new next (Looks v ws fit is saw) = elim (fills_begun s seat seat.restart.kind) [
  | inl push ↦ inl push
  | inr tame ↦ inr (inr (subst (TameRow s.takeover no_fills) is (rest_tame s seat no_fills v (row_of s seat seat.restart.kind) ws tame)).2)
]

pub stand_else : (s : Shape) (code : CodeParts) (state : RunState) (c d : ℕ) (act : Act) (x : Standing) → d ≢ c → stand_of (acts s code state c act x) d ≡ stand_of state d
stand_else s code state c d act IsDone ne = refl
stand_else s code state c d act IsLost ne = stand_other state.stand c d _ ne
stand_else s code state c d act (IsPlaced p) ne = stand_other state.stand c d _ ne
stand_else s code state c d act (IsAt p r) ne = stand_other state.stand c d _ ne
stand_else s code state c d act (IsWithin seat row) ne = stand_other state.stand c d _ ne
stand_else s code state c d act (IsRunning seat rest) ne = stand_other state.stand c d _ ne
stand_else s code state c d act (IsBroken p) ne = stand_other state.stand c d _ ne

module _ (s : Shape) (code : CodeParts) (fair : IsFair code) (root : Tree (Frame FrameWord Point) Result) (input : Words) (state : RunState) (h : ℕ → Home) (forked taken : List ℕ) (l : List Followed) (t : Skeleton) (run : IsHalves s code root input state h forked taken l t)
    (joint : AreJoint s code state h l t) where
  abbrev z : State
  z = left (setting s code) l (places_of s state)

  -- a place that pushes then has the bottom that it had
  abbrev Lows : List ℕ → Type 0
  Lows words = (q : ℕ) → IsPush (spots.kinds s words q) → spots.bottoms s words q ≡ spots.bottoms s state.words q

  elsewhere : (cell : Cell) (w : ℕ) → IsCell s cell → IsNoRestart cell → Lows (store s state.words cell w)
  elsewhere cell w is none q push = ap (λ (f : ℕ → Restart). (f q).bottom) (restarts_kept s state.words cell w is (restart_not cell none))

  if_low : (y : Bool) (cell : Cell) (w : ℕ) → IsCell s cell → IsNoRestart cell → Lows (if y then store s state.words cell w else state.words)
  if_low true cell w is none = elsewhere cell w is none
  if_low false cell w is none = λ q push. refl

  installed : (p : ℕ) (re : Restart) → p < s.processors → restart_is_there s re ≡ true → (re.bottom ≡ spots.bottoms s state.words p) ⊎ (IsPush re.kind → ⊥) → Lows (store s state.words (RestartWord p) (restart_word re))
  installed p re there here keeps q push =
      let ok = restart_fits s (few_words s) re here in
      let lows = bottoms_put s state.words p re run.lawful.0 there ok in
      let kinds = kinds_put s state.words p re run.lawful.0 there ok in
      ap (λ (f : ℕ → ℕ). f q) lows ∙ elim (cases_eq q p) [
        | inr ne ↦ put_else (spots.bottoms s state.words) p re.bottom q ne
        | inl e ↦ elim keeps [
          | inl low ↦ ap (put (spots.bottoms s state.words) p re.bottom) e ∙ put_here (spots.bottoms s state.words) p re.bottom ∙ low ∙ sym (ap (spots.bottoms s state.words) e)
          | inr none ↦ absurd (none (subst IsPush (ap (λ (f : ℕ → RestartKind). f q) kinds ∙ ap (put (spots.kinds s state.words) p re.kind) e ∙ put_here (spots.kinds s state.words) p re.kind) push))
        ]
      ]

  row_lows : (c v : ℕ) (seat : Seat) (row : Row) → stand_of state c ≡ IsWithin seat row → Within s code root input state h forked taken l t run c seat row → InheritsNone s.takeover (IsWithin seat row) → Lows (words_after state.words (wanted_row s seat v row))
  row_lows c v seat (Now (Load x)) e w none = λ q push. refl
  row_lows c v seat (Now (Enter x)) e w none = λ q push. refl
  row_lows c v seat (Now Again) e w none = λ q push. refl
  row_lows c v seat (Now Broken) e w none = λ q push. refl
  row_lows c v seat (Now (Install re)) e w none = installed seat.place re w.place w.here (elim (installs_low s code fair root input state h forked taken l t run joint seat.own seat.place seat.restart.bottom seat.restart.kind c re w none) [
    | inl low ↦ inl (low ∙ sym w.sits.at.bottom)
    | inr none ↦ inr none
  ])
  row_lows c v seat (Now (Fork x)) e w none = installed seat.place (forked_restart seat x) w.place w.here (inl (sym w.sits.at.bottom))
  row_lows c v seat (Now (Begin x f y)) e w none = installed seat.place (begun f y) w.place w.here (inr (λ a. a))
  row_lows c v seat (Now (Move x)) e w none = elsewhere (CarryWord seat.own) x (subst (λ (n : ℕ). n < s.processors) (sym w.sits.own) w.sits.carried.lives.there) tt
  row_lows c v seat (Store cell content next) e w none =
      let pooled : IsPooled s cell = subst (IsPooledAt s) e (pooled s code fair root input state h forked taken l t run joint.agrees c) in
      elsewhere cell (word_of content) (cell_there s code cell w.here pooled) (stores_no_restart s code root input state h forked taken l t run c seat cell content next w)
  row_lows c v seat (Exchange cell old new next) e w none =
      let pooled : IsPooled s cell = subst (IsPooledAt s) e (pooled s code fair root input state h forked taken l t run joint.agrees c) in
      if_low (read s state.words cell == word_of old) cell (word_of new) (cell_there s code cell w.here pooled) (exchanges_no_restart s code root input state h forked taken l t run c seat cell old new next w)

  rest_lows : (c v : ℕ) (seat : Seat) (rest : Rest) → stand_of state c ≡ IsRunning seat rest → Runs s code root input state h forked taken l t run c seat rest → Lows (words_after state.words (wanted_rest s seat rest))
  rest_lows c v seat (Loads cell go) e w = λ q push. refl
  rest_lows c v seat Breaks e w = λ q push. refl
  rest_lows c v seat Full e w = if_low (slice_index state.words 0 == 0) FinishWord _ tt tt
  rest_lows c v seat (Installs kind) e w =
      let sees = subst (Sees s (spots.view s state.words) (spots.kinds s state.words) (spots.bottoms s state.words) c) e (run.lawful.1.sees c) in
      installed seat.place (record { kind = kind; bottom = seat.restart.bottom }) w.place w.here (inl (sym sees.0.at.bottom))
  rest_lows c v seat (Stores cell content rest) e w =
      let sees = subst (Sees s (spots.view s state.words) (spots.kinds s state.words) (spots.bottoms s state.words) c) e (run.lawful.1.sees c) in
      let pooled : IsPooled s cell = subst (IsPooledAt s) e (pooled s code fair root input state h forked taken l t run joint.agrees c) in
      elsewhere cell (word_of content) (cell_there s code cell w.here pooled) (quiet_restart cell sees.2.0)

  step_lows : (c v : ℕ) (x : Standing) → stand_of state c ≡ x → InheritsNone s.takeover x → Lows (acts s code state c (Step v) x).words
  step_lows c v (IsWithin seat row) e none = row_lows c v seat row e (within s code root input state h forked taken l t run c seat row e) none
  step_lows c v (IsRunning seat rest) e none = rest_lows c v seat rest e (runs s code root input state h forked taken l t run c seat rest e)
  step_lows c v (IsBroken p) e none = if_low (slice_index state.words 0 == 0) FinishWord _ tt tt
  step_lows c v IsLost e none = λ q push. refl
  step_lows c v (IsPlaced p) e none = λ q push. refl
  step_lows c v (IsAt p r) e none = λ q push. refl
  step_lows c v IsDone e none = λ q push. refl

  live_lows : (c : ℕ) (act : Act) (x : Standing) → Lows (words_after state.words (want_of s code c act x)) → Lows (acts s code state c act x).words
  live_lows c act IsDone low = λ q push. refl
  live_lows c act IsLost low = low
  live_lows c act (IsPlaced p) low = low
  live_lows c act (IsAt p r) low = low
  live_lows c act (IsWithin seat row) low = low
  live_lows c act (IsRunning seat rest) low = low
  live_lows c act (IsBroken p) low = low

  act_lows : (c : ℕ) → c < s.processors → (act : Act) → StepsAlone s.takeover act (stand_of state c) → Lows (acts s code state c act (stand_of state c)).words
  act_lows c there (Step v) none = step_lows c v (stand_of state c) refl none
  act_lows c there Soft none = live_lows c Soft (stand_of state c) (λ q push. refl)
  act_lows c there Hard none = live_lows c Hard (stand_of state c) (elsewhere (DeadWord c) 1 there tt)
  act_lows c there (Quit why) none = live_lows c (Quit why) (stand_of state c) (if_low (slice_index state.words 0 == 0) FinishWord _ tt tt)

  -- each place is at its kind still, but one whose processor installs
  abbrev Kinds : List ℕ → (place : ℕ) → Type 0
  Kinds words q = spots.kinds s words q ≡ spots.kinds s state.words q

  kinds_else : (cell : Cell) (w : ℕ) (q : ℕ) → IsCell s cell → IsNoRestart cell → Kinds (store s state.words cell w) q
  kinds_else cell w q is none = ap (λ (f : ℕ → Restart). (f q).kind) (restarts_kept s state.words cell w is (restart_not cell none))

  kinds_if : (y : Bool) (cell : Cell) (w : ℕ) (q : ℕ) → IsCell s cell → IsNoRestart cell → Kinds (if y then store s state.words cell w else state.words) q
  kinds_if true cell w q is none = kinds_else cell w q is none
  kinds_if false cell w q is none = refl

  kinds_install : (p : ℕ) (re : Restart) (q : ℕ) → (p ≡ q → ⊥) → p < s.processors → restart_is_there s re ≡ true → Kinds (store s state.words (RestartWord p) (restart_word re)) q
  kinds_install p re q out_ there here =
      ap (λ (f : ℕ → RestartKind). f q) (kinds_put s state.words p re run.lawful.0 there (restart_fits s (few_words s) re here)) ∙ put_else (spots.kinds s state.words) p re.kind q (λ e. out_ (sym e))

  row_kinds : (c v : ℕ) (seat : Seat) (row : Row) (q : ℕ) → stand_of state c ≡ IsWithin seat row → Within s code root input state h forked taken l t run c seat row → (Installing (IsWithin seat row) q → ⊥) → Kinds (words_after state.words (wanted_row s seat v row)) q
  row_kinds c v seat (Now (Load x)) q e w out_ = refl
  row_kinds c v seat (Now (Enter x)) q e w out_ = refl
  row_kinds c v seat (Now Again) q e w out_ = refl
  row_kinds c v seat (Now Broken) q e w out_ = refl
  row_kinds c v seat (Now (Install re)) q e w out_ = kinds_install seat.place re q out_ w.place w.here
  row_kinds c v seat (Now (Fork x)) q e w out_ = kinds_install seat.place (forked_restart seat x) q out_ w.place w.here
  row_kinds c v seat (Now (Begin x f y)) q e w out_ = kinds_install seat.place (begun f y) q out_ w.place w.here
  row_kinds c v seat (Now (Move x)) q e w out_ = kinds_else (CarryWord seat.own) x q (subst (λ (n : ℕ). n < s.processors) (sym w.sits.own) w.sits.carried.lives.there) tt
  row_kinds c v seat (Store cell content next) q e w out_ =
      let pooled : IsPooled s cell = subst (IsPooledAt s) e (pooled s code fair root input state h forked taken l t run joint.agrees c) in
      kinds_else cell (word_of content) q (cell_there s code cell w.here pooled) (stores_no_restart s code root input state h forked taken l t run c seat cell content next w)
  row_kinds c v seat (Exchange cell old new next) q e w out_ =
      let pooled : IsPooled s cell = subst (IsPooledAt s) e (pooled s code fair root input state h forked taken l t run joint.agrees c) in
      kinds_if (read s state.words cell == word_of old) cell (word_of new) q (cell_there s code cell w.here pooled) (exchanges_no_restart s code root input state h forked taken l t run c seat cell old new next w)

  rest_kinds : (c v : ℕ) (seat : Seat) (rest : Rest) (q : ℕ) → stand_of state c ≡ IsRunning seat rest → Runs s code root input state h forked taken l t run c seat rest → (Installing (IsRunning seat rest) q → ⊥) → Kinds (words_after state.words (wanted_rest s seat rest)) q
  rest_kinds c v seat (Loads cell go) q e w out_ = refl
  rest_kinds c v seat Breaks q e w out_ = refl
  rest_kinds c v seat Full q e w out_ = kinds_if (slice_index state.words 0 == 0) FinishWord _ q tt tt
  rest_kinds c v seat (Installs kind) q e w out_ = kinds_install seat.place (record { kind = kind; bottom = seat.restart.bottom }) q out_ w.place w.here
  rest_kinds c v seat (Stores cell content rest) q e w out_ =
      let sees = subst (Sees s (spots.view s state.words) (spots.kinds s state.words) (spots.bottoms s state.words) c) e (run.lawful.1.sees c) in
      let pooled : IsPooled s cell = subst (IsPooledAt s) e (pooled s code fair root input state h forked taken l t run joint.agrees c) in
      kinds_else cell (word_of content) q (cell_there s code cell w.here pooled) (quiet_restart cell sees.2.0)

  pub step_kinds : (c v : ℕ) (x : Standing) (q : ℕ) → stand_of state c ≡ x → (Installing x q → ⊥) → Kinds (acts s code state c (Step v) x).words q
  step_kinds c v (IsWithin seat row) q e out_ = row_kinds c v seat row q e (within s code root input state h forked taken l t run c seat row e) out_
  step_kinds c v (IsRunning seat rest) q e out_ = rest_kinds c v seat rest q e (runs s code root input state h forked taken l t run c seat rest e) out_
  step_kinds c v (IsBroken p) q e out_ = kinds_if (slice_index state.words 0 == 0) FinishWord _ q tt tt
  step_kinds c v IsLost q e out_ = refl
  step_kinds c v (IsPlaced p) q e out_ = refl
  step_kinds c v (IsAt p r) q e out_ = refl
  step_kinds c v IsDone q e out_ = refl

  live_kinds : (c : ℕ) (act : Act) (x : Standing) (q : ℕ) → Kinds (words_after state.words (want_of s code c act x)) q → Kinds (acts s code state c act x).words q
  live_kinds c act IsDone q same = refl
  live_kinds c act IsLost q same = same
  live_kinds c act (IsPlaced p) q same = same
  live_kinds c act (IsAt p r) q same = same
  live_kinds c act (IsWithin seat row) q same = same
  live_kinds c act (IsRunning seat rest) q same = same
  live_kinds c act (IsBroken p) q same = same

  -- who installs is then at its place
  row_at : (c v : ℕ) (seat : Seat) (row : Row) (q : ℕ) → stand_of state c ≡ IsWithin seat row → Installing (IsWithin seat row) q → (re : Restart) × (stand_of (acts s code state c (Step v) (IsWithin seat row)) c ≡ IsAt q (Some re))
  row_at c v seat (Now (Install re)) q e at = (re, stand_own state.stand c _ (λ k. let z = sym e ∙ k in cc) ∙ ap (λ (p : ℕ). IsAt p (Some re)) at)
  row_at c v seat (Now (Fork x)) q e at = (forked_restart seat x, stand_own state.stand c _ (λ k. let z = sym e ∙ k in cc) ∙ ap (λ (p : ℕ). IsAt p (Some (forked_restart seat x))) at)
  row_at c v seat (Now (Begin x f y)) q e at = (begun f y, stand_own state.stand c _ (λ k. let z = sym e ∙ k in cc) ∙ ap (λ (p : ℕ). IsAt p (Some (begun f y))) at)
  row_at c v seat _ q e at = absurd at

  pub installs_at : (c v : ℕ) (x : Standing) (q : ℕ) → stand_of state c ≡ x → Installing x q → (re : Restart) × (stand_of (acts s code state c (Step v) x) c ≡ IsAt q (Some re))
  installs_at c v (IsWithin seat row) q e at = row_at c v seat row q e at
  installs_at c v (IsRunning seat (Installs kind)) q e at = (record { kind = kind; bottom = seat.restart.bottom }, stand_own state.stand c _ (λ k. let z = sym e ∙ k in cc) ∙ ap (λ (p : ℕ). IsAt p (Some (record { kind = kind; bottom = seat.restart.bottom }))) at)
  installs_at c v _ q e at = absurd at

  -- a place in Push1 that fills the entry above its bottom
  record Raises (c q : ℕ) (words : List ℕ) : Type 0 where
    pub seat : Seat
    pub cell : Cell
    pub old : Content
    pub new : Content
    pub next : Then
    pub stand : stand_of state c ≡ IsWithin seat (Exchange cell old new next)
    pub place : seat.place ≡ q
    pub block : ℕ
    pub kind : seat.restart.kind ≡ Push1 block
    pub above : seat.restart.bottom + 1 ≢ s.slots
    pub stays : spots.kinds s words q ≡ Push1 block

  -- each entry that was empty is, or is filled so
  abbrev Tops : (c : ℕ) → List ℕ → Type 0
  Tops c words = (q j : ℕ) → IsEmpty (spots.view s state.words (Slot q j)) → IsEmpty (spots.view s words (Slot q j)) ⊎ Raises c q words

  tops_else : (c : ℕ) (cell : Cell) (w : ℕ) → IsCell s cell → IsNoEntry cell → Tops c (store s state.words cell w)
  tops_else c cell w is none q j e = inl (subst IsEmpty (sym (view_else s state.words cell w (Slot q j) is (λ shown x. subst IsNoEntry (sym x) none))) e)

  tops_if : (c : ℕ) (y : Bool) (cell : Cell) (w : ℕ) → IsCell s cell → IsNoEntry cell → Tops c (if y then store s state.words cell w else state.words)
  tops_if c true cell w is none = tops_else c cell w is none
  tops_if c false cell w is none = λ q j e. inl e

  -- an exchange of an entry that is made
  module _ (c : ℕ) (seat : Seat) (cell : Cell) (old new : Content) (next : Then) (stand : stand_of state c ≡ IsWithin seat (Exchange cell old new next)) (w : Within s code root input state h forked taken l t run c seat (Exchange cell old new next)) (is : IsCell s cell)
      (made : read s state.words cell ≡ word_of old) (a k : ℕ) (at : cell ≡ EntryWord a k) where
    abbrev now : List ℕ
    now = store s state.words cell (word_of new)

    raised_here : (q : ℕ) → q ≡ a → IsEmpty (spots.view s state.words (Slot a k)) → Raises c q now
    raised_here q qa empty =
        let change = subst (λ (x : Cell). MayChange s.takeover x old new) at (changes s code root input state h forked taken l t run c seat cell old new next w) in
        let was = old_entry s.takeover a k old new change in
        let shown = entry_shown s code fair root input state h forked taken l t run joint a k was.0 (subst (λ (x : Cell). is_there s x ≡ true) at w.here) was.2 (subst (λ (x : Cell). read s state.words x ≡ word_of (AnEntry was.0)) at (made ∙ ap word_of was.1)) in
        let void = emptied was.0 (subst IsEmpty shown empty) in
        elim (filler s (spots.with_restarts (spots.view s state.words) (spots.kinds s state.words) (spots.bottoms s state.words)) seat cell old new next w.seen) [
          | inl push ↦
              let shape = push1_shape s seat.own seat.place seat.restart.bottom push.0 (Exchange cell old new next) (spots.with_restarts (spots.view s state.words) (spots.kinds s state.words) (spots.bottoms s state.words))
              (subst (λ (x : RestartKind). HasSeen s (spots.with_restarts (spots.view s state.words) (spots.kinds s state.words) (spots.bottoms s state.words)) (kind_seat seat.own seat.place x seat.restart.bottom) (Exchange cell old new next)) push.1 w.seen) in
              elim shape [
                | inl last ↦ absurd last.1
                | inr high ↦
                    let place : seat.place ≡ q = ap place_told (sym high.1.0 ∙ at) ∙ sym qa in
                    record {
                      seat = seat;
                      cell = cell;
                      old = old;
                      new = new;
                      next = next;
                      stand = stand;
                      place = place;
                      block = push.0;
                      kind = push.1;
                      above = high.0;
                      stays = ap (λ (f : ℕ → Restart). (f q).kind) (restarts_kept s state.words cell (word_of new) is (restart_not cell (subst IsNoRestart (sym at) tt)))
                          ∙ sym (ap (spots.kinds s state.words) place) ∙ w.sits.at.kind ∙ push.1;
                    }
              ]
          | inr (inl quiet) ↦ absurd (subst IsQuietCell at quiet)
          | inr (inr tame) ↦ absurd (subst (TameOld s.takeover no_fills) (was.1 ∙ ap AnEntry void.1) tame)
        ]

    tops_made : Tops c now
    tops_made q j e = elim (cases_eq q a) [
      | inr ne ↦ inl (subst IsEmpty (sym (view_else s state.words cell (word_of new) (Slot q j) is (λ shown x. ne (ap place_told (x ∙ at))))) e)
      | inl qa ↦ elim (cases_eq j k) [
        | inr ne ↦ inl (subst IsEmpty (sym (view_else s state.words cell (word_of new) (Slot q j) is (λ shown x. ne (ap slot_told (x ∙ at))))) e)
        | inl jk ↦ inr (raised_here q qa (subst₂ (λ (x y : ℕ). IsEmpty (spots.view s state.words (Slot x y))) qa jk e))
      ]
    ]

  row_tops : (c v : ℕ) (seat : Seat) (row : Row) → stand_of state c ≡ IsWithin seat row → Within s code root input state h forked taken l t run c seat row → Tops c (words_after state.words (wanted_row s seat v row))
  row_tops c v seat (Now (Load x)) e w = λ q j a. inl a
  row_tops c v seat (Now (Enter x)) e w = λ q j a. inl a
  row_tops c v seat (Now Again) e w = λ q j a. inl a
  row_tops c v seat (Now Broken) e w = λ q j a. inl a
  row_tops c v seat (Now (Install re)) e w = tops_else c (RestartWord seat.place) (restart_word re) w.place tt
  row_tops c v seat (Now (Fork x)) e w = tops_else c (RestartWord seat.place) (restart_word (forked_restart seat x)) w.place tt
  row_tops c v seat (Now (Begin x f y)) e w = tops_else c (RestartWord seat.place) (restart_word (begun f y)) w.place tt
  row_tops c v seat (Now (Move x)) e w = tops_else c (CarryWord seat.own) x (subst (λ (n : ℕ). n < s.processors) (sym w.sits.own) w.sits.carried.lives.there) tt
  row_tops c v seat (Store cell content next) e w =
      let pooled : IsPooled s cell = subst (IsPooledAt s) e (pooled s code fair root input state h forked taken l t run joint.agrees c) in
      tops_else c cell (word_of content) (cell_there s code cell w.here pooled) (stores_no_entry s code root input state h forked taken l t run c seat cell content next w)
  row_tops c v seat (Exchange cell old new next) e w = by (cell_or cell) (read s state.words cell == word_of old) refl
    where
      is : IsCell s cell
      is = cell_there s code cell w.here (subst (IsPooledAt s) e (pooled s code fair root input state h forked taken l t run joint.agrees c))

      by : ((a : ℕ) × (j : ℕ) × (cell ≡ EntryWord a j)) ⊎ IsNoEntry cell → (y : Bool) → (read s state.words cell == word_of old) ≡ y → Tops c (if y then store s state.words cell (word_of new) else state.words)
      by (inr none) y k = tops_if c y cell (word_of new) is none
      by (inl at) true k = tops_made c seat cell old new next e w is (eqb-true (read s state.words cell) (word_of old) k) at.0 at.1 at.2
      by (inl at) false k = λ q j a. inl a

  rest_tops : (c v : ℕ) (seat : Seat) (rest : Rest) → stand_of state c ≡ IsRunning seat rest → Runs s code root input state h forked taken l t run c seat rest → Tops c (words_after state.words (wanted_rest s seat rest))
  rest_tops c v seat (Loads cell go) e w = λ q j a. inl a
  rest_tops c v seat Breaks e w = λ q j a. inl a
  rest_tops c v seat Full e w = tops_if c (slice_index state.words 0 == 0) FinishWord _ tt tt
  rest_tops c v seat (Installs kind) e w = tops_else c (RestartWord seat.place) (restart_word (record { kind = kind; bottom = seat.restart.bottom })) w.place tt
  rest_tops c v seat (Stores cell content rest) e w =
      let sees = subst (Sees s (spots.view s state.words) (spots.kinds s state.words) (spots.bottoms s state.words) c) e (run.lawful.1.sees c) in
      let pooled : IsPooled s cell = subst (IsPooledAt s) e (pooled s code fair root input state h forked taken l t run joint.agrees c) in
      tops_else c cell (word_of content) (cell_there s code cell w.here pooled) (quiet_entry cell sees.2.0)

  step_tops : (c v : ℕ) (x : Standing) → stand_of state c ≡ x → Tops c (acts s code state c (Step v) x).words
  step_tops c v (IsWithin seat row) e = row_tops c v seat row e (within s code root input state h forked taken l t run c seat row e)
  step_tops c v (IsRunning seat rest) e = rest_tops c v seat rest e (runs s code root input state h forked taken l t run c seat rest e)
  step_tops c v (IsBroken p) e = tops_if c (slice_index state.words 0 == 0) FinishWord _ tt tt
  step_tops c v IsLost e = λ q j a. inl a
  step_tops c v (IsPlaced p) e = λ q j a. inl a
  step_tops c v (IsAt p r) e = λ q j a. inl a
  step_tops c v IsDone e = λ q j a. inl a

  live_tops : (c : ℕ) (act : Act) (x : Standing) → Tops c (words_after state.words (want_of s code c act x)) → Tops c (acts s code state c act x).words
  live_tops c act IsDone top = λ q j a. inl a
  live_tops c act IsLost top = top
  live_tops c act (IsPlaced p) top = top
  live_tops c act (IsAt p r) top = top
  live_tops c act (IsWithin seat row) top = top
  live_tops c act (IsRunning seat rest) top = top
  live_tops c act (IsBroken p) top = top

  act_tops : (c : ℕ) → c < s.processors → (act : Act) → Tops c (acts s code state c act (stand_of state c)).words
  act_tops c there (Step v) = step_tops c v (stand_of state c) refl
  act_tops c there Soft = live_tops c Soft (stand_of state c) (λ q j a. inl a)
  act_tops c there Hard = live_tops c Hard (stand_of state c) (tops_else c (DeadWord c) 1 there tt)
  act_tops c there (Quit why) = live_tops c (Quit why) (stand_of state c) (tops_if c (slice_index state.words 0 == 0) FinishWord _ tt tt)

  -- the order word of a place at Push1, as its load finds it
  module _ (c p r : ℕ) (carried : Carried s (spots.view s state.words) c p) (ke : z.kind p ≡ Push1 r) where
    order_read : z.words (BlockWord (r + 1)) ≡ read s state.words (BlockWord (r + 1))
    order_read =
        let can = order_shown (setting s code) fair root input z t run.kept p r ke p carried.place in
        shown (setting s code) root input (places_of s state) l run.apart t run.kept p (carried_away s code root input state h forked taken l t run c p carried) (BlockWord (r + 1)) can.in_use ∙ view_is s state.words (BlockWord (r + 1)) can.cell_is

    held_by : read s state.words (BlockWord (r + 1)) ≡ 3 → HasUnrun Held r t
    held_by three = elim (order_says (setting s code) fair root input z t run.kept p r ke) [
      | inl fresh ↦ absurd (let e : 0 ≡ 3 = sym fresh.1 ∙ order_read ∙ three in omega (arith, e))
      | inr held ↦ held.0
    ]

    held_three : HasUnrun Held r t → read s state.words (BlockWord (r + 1)) ≡ 3
    held_three is = elim (order_says (setting s code) fair root input z t run.kept p r ke) [
      | inl fresh ↦ absurd (not_both s code fair root input state h forked taken l t run joint r fresh.0 is)
      | inr held ↦ sym order_read ∙ held.1
    ]

  -- a step, and what is kept after it
  module _ (c v : ℕ) (apart : (x : ℕ) → count Root (act_with (setting s code) z.words state.words (Step v) (stand_of state c) t) x ≤ 1)
      (born : Births (setting s code) (left (setting s code) l (places_of s (happens s code state (record { processor = c; act = Step v })))) (has (step_by (row_by fork_row) (Step v) (stand_of state c) ++ forked)))
      (none : InheritsNone s.takeover (stand_of state c)) where
    abbrev A : ℕ → Skeleton → (ℕ → Home) → Type 0
    A n u g = Opened s code fair root input state h forked taken l t run joint n u g

    still_here : A 0 t h
    still_here = inl (here s code fair root input state h forked taken l t run joint, refl)

    installs_agree : (seat : Seat) (kind k : RestartKind) → seat.restart.kind ≡ k → stand_of state c ≡ IsRunning seat (Installs kind) → Runs s code root input state h forked taken l t run c seat (Installs kind)
        → Does (setting s code) z.words seat.place k (InRest (Installs kind)) → A (forks_with z.words kind) (by_install (setting s code) z.words seat.place k kind t) h
    installs_agree seat (Bump r) (Run f y) ke e w d =
        let shown = ((turns_show s code state c).0 seat w.holds).1.installs v (Bump r) e w.here in
        let sees = subst (Sees s (spots.view s state.words) (spots.kinds s state.words) (spots.bottoms s state.words) c) e (run.lawful.1.sees c) in
        let away = carried_away s code root input state h forked taken l t run c seat.place sees.0.carried in
        opens_agree s code fair root input state h forked taken l t run joint c (Step v) apart born seat.place f y r (link_at (z.words (BlockWord r))).kind refl (w.kind ∙ ke)
        (kind_away l (places_of s (happens s code state (record { processor = c; act = Step v }))).kind seat.place away ∙ ap (λ (q : State). q.kind seat.place) shown ∙ kept_puts.put_here (places_of s state).kind seat.place (Bump r)) (IsRunning seat (Installs (Bump r))) e refl
        (ap (λ (x : Standing). tree_with (setting s code) z.words state.words x t) e ∙ ap (λ (k : RestartKind). by_install (setting s code) z.words seat.place k (Bump r) t) ke)
    installs_agree seat (Run g n) (Run f y) ke e w d = inl (same s code fair root input state h forked taken l t run joint _ ((unruns s code fair root input state h forked taken l t run joint seat.place).runs f y (Run g n) tt), refl)
    installs_agree seat (Push1 x) (Run f y) ke e w d = inl (same s code fair root input state h forked taken l t run joint _ ((unruns s code fair root input state h forked taken l t run joint seat.place).runs f y (Push1 x) tt), refl)
    installs_agree seat (Push2 x) (Run f y) ke e w d = inl (same s code fair root input state h forked taken l t run joint _ ((unruns s code fair root input state h forked taken l t run joint seat.place).runs f y (Push2 x) tt), refl)
    installs_agree seat (Unwind x) (Run f y) ke e w d = inl (same s code fair root input state h forked taken l t run joint _ ((unruns s code fair root input state h forked taken l t run joint seat.place).runs f y (Unwind x) tt), refl)
    installs_agree seat (Arrive x n) (Run f y) ke e w d = still_here
    installs_agree seat (Join x n) (Run f y) ke e w d = still_here
    installs_agree seat Pop1 (Run f y) ke e w d = still_here
    installs_agree seat (Pop2 x) (Run f y) ke e w d = still_here
    installs_agree seat Seek (Run f y) ke e w d = still_here
    installs_agree seat (Steal x n) (Run f y) ke e w d = still_here
    installs_agree seat (Check x n) (Run f y) ke e w d = still_here
    installs_agree seat (Take x n) (Run f y) ke e w d = still_here
    installs_agree seat (Take2 x) (Run f y) ke e w d = still_here
    installs_agree seat kind _ ke e w d = absurd d

    step_agree : (x : Standing) → stand_of state c ≡ x → InheritsNone s.takeover x → A (opened_by z.words x) (tree_with (setting s code) z.words state.words x t) (by_standing s state.words x h)
    step_agree (IsWithin seat row) e alone = inl (row_agree s code fair root input state h forked taken l t run joint seat.own seat.place seat.restart.bottom seat.restart.kind c row e (within s code root input state h forked taken l t run c seat row e) alone, refl)
    step_agree (IsRunning seat (Installs kind)) e alone =
        let w = runs s code root input state h forked taken l t run c seat (Installs kind) e in
        installs_agree seat kind seat.restart.kind refl e w (subst (λ (k : RestartKind). Does (setting s code) z.words seat.place k (InRest (Installs kind))) w.kind w.does)
    step_agree (IsRunning seat (Loads cell go)) e alone = still_here
    step_agree (IsRunning seat (Stores cell content rest)) e alone = still_here
    step_agree (IsRunning seat Full) e alone = still_here
    step_agree (IsRunning seat Breaks) e alone = still_here
    step_agree IsLost e alone = still_here
    step_agree (IsPlaced p) e alone = still_here
    step_agree (IsAt p r) e alone = still_here
    step_agree (IsBroken p) e alone = still_here
    step_agree IsDone e alone = still_here

  -- after any act
  module _ (c : ℕ) (act : Act) (among : IsTurnAmong s.processors (record { processor = c; act = act })) (none : StepsAlone s.takeover act (stand_of state c))
      (after : IsHalves s code root input (happens s code state (record { processor = c; act = act })) (by_act s state.words act (stand_of state c) h) (forks_of state (record { processor = c; act = act }) ++ forked) (takes_of state (record { processor = c; act = act }) ++ taken) l
      (act_with (setting s code) z.words state.words act (stand_of state c) t)) where
    abbrev turn : Turn
    turn = record { processor = c; act = act }

    abbrev n : RunState
    n = happens s code state turn

    abbrev g : ℕ → Home
    g = by_act s state.words act (stand_of state c) h

    abbrev u : Skeleton
    u = act_with (setting s code) z.words state.words act (stand_of state c) t

    abbrev N : State
    N = left (setting s code) l (places_of s n)

    sees_after : (d : ℕ) (x : Standing) → stand_of n d ≡ x → Sees s (spots.view s n.words) (spots.kinds s n.words) (spots.bottoms s n.words) d x
    sees_after d x e = subst (Sees s (spots.view s n.words) (spots.kinds s n.words) (spots.bottoms s n.words) d) e (after.lawful.1.sees d)

    -- who is in a row at a place
    carried_after : (p : ℕ) (row : Row) (d : Doer (stand_of n) p row) → Carried s (spots.view s n.words) d.processor p
    carried_after p row d = subst (Carried s (spots.view s n.words) d.processor) d.place (sees_after d.processor (IsWithin d.seat row) d.stand).0.carried

    -- the row of a place that is at Push1
    seat_kind : (p r : ℕ) (row : Row) (d : Doer (stand_of n) p row) → N.kind p ≡ Push1 r → d.seat.restart.kind ≡ Push1 r
    seat_kind p r row d ke =
        let seen = sees_after d.processor (IsWithin d.seat row) d.stand in
        let away = carried_away s code root input n g (forks_of state turn ++ forked) (takes_of state turn ++ taken) l u after d.processor p (carried_after p row d) in
        sym seen.0.at.kind ∙ ap (spots.kinds s n.words) d.place ∙ sym (kinds_same s n.words p) ∙ sym (kind_away l (places_of s n).kind p away) ∙ ke

    home_after : (p r : ℕ) (row : Row) (d : Doer (stand_of n) p row) → N.kind p ≡ Push1 r → g r ≡ Pushing p
    home_after p r row d ke = pushing_home s code root input n g (forks_of state turn ++ forked) (takes_of state turn ++ taken) l u after p r
        (not_followed s code root input n g (forks_of state turn ++ forked) (takes_of state turn ++ taken) l u after d.processor p (carried_after p row d)) ke

    -- another's row is as it was
    stood : (d : ℕ) (seat : Seat) (row : Row) → d ≢ c → stand_of n d ≡ IsWithin seat row → stand_of state d ≡ IsWithin seat row
    stood d seat row ne e = sym (stand_else s code state c d act (stand_of state c) ne) ∙ e

    kind_before : (p r : ℕ) (row : Row) (d : Doer (stand_of n) p row) → d.processor ≢ c → N.kind p ≡ Push1 r → z.kind p ≡ Push1 r
    kind_before p r row d ne ke = ap z.kind (sym d.place) ∙ (within s code root input state h forked taken l t run d.processor d.seat row (stood d.processor d.seat row ne d.stand)).kind ∙ seat_kind p r row d ke

    doing_before : (p : ℕ) (row : Row) (d : Doer (stand_of n) p row) → d.processor ≢ c → (places_of s state).doing p ≡ InRow row
    doing_before p row d ne = ap (places_of s state).doing (sym d.place) ∙ (within s code root input state h forked taken l t run d.processor d.seat row (stood d.processor d.seat row ne d.stand)).doing

    -- a place that pushes on is not at its last slot
    pushes_above : (p r : ℕ) (row : Row) (d : Doer (stand_of n) p row) → d.processor ≢ c → N.kind p ≡ Push1 r → PushesOn row → IsAtLast s state.words p → ⊥
    pushes_above p r row d ne ke on last =
        let w = within s code root input state h forked taken l t run d.processor d.seat row (stood d.processor d.seat row ne d.stand) in
        elim (push1_shape s d.seat.own d.seat.place d.seat.restart.bottom r row (spots.with_restarts (spots.view s state.words) (spots.kinds s state.words) (spots.bottoms s state.words))
        (subst (λ (k : RestartKind). HasSeen s (spots.with_restarts (spots.view s state.words) (spots.kinds s state.words) (spots.bottoms s state.words)) (kind_seat d.seat.own d.seat.place k d.seat.restart.bottom) row) (seat_kind p r row d ke) w.seen)) [
          | inl a ↦ last_no_push row a.1 on
          | inr a ↦ a.0 (ap (λ (b : ℕ). b + 1) (sym w.sits.at.bottom) ∙ ap (λ (q : ℕ). spots.bottoms s state.words q + 1) d.place ∙ last)
        ]

    push_kind : (r q : ℕ) → g r ≡ Pushing q → IsPush (spots.kinds s n.words q)
    push_kind r q home = by (spots.kinds s n.words q) _ (subst (λ (x : Home). Carries after.lawful.1.board.ghost (spots.kinds s n.words) (spots.bottoms s n.words) x r) home (after.lawful.1.board.board.real r))
      where
        by : (k : RestartKind) (w : Word) → Pushes k w r → IsPush k
        by (Push1 x) w a = tt
        by (Push2 x) w a = tt
        by _ w a = absurd a

    -- a closed place is at its kind still
    closed_kind : (q : ℕ) → Closed s.takeover (spots.view s n.words) q → Kinds n.words q
    closed_kind q shut = by act refl
      where
        by : (a : Act) → act ≡ a → Kinds n.words q
        by (Step v) e = subst (λ (a : Act). Kinds (acts s code state c a (stand_of state c)).words q) (sym e) (step_kinds c v (stand_of state c) q refl (λ at.
            let to = installs_at c v (stand_of state c) q refl at in
            let sees = sees_after c (IsAt q (Some to.0)) (ap (λ (a : Act). stand_of (acts s code state c a (stand_of state c)) c) e ∙ to.1) in
            open_ s code root input n g (forks_of state turn ++ forked) (takes_of state turn ++ taken) l u after c q sees.0 shut))
        by Soft e = subst (λ (a : Act). Kinds (acts s code state c a (stand_of state c)).words q) (sym e) (live_kinds c Soft (stand_of state c) q refl)
        by Hard e = subst (λ (a : Act). Kinds (acts s code state c a (stand_of state c)).words q) (sym e) (live_kinds c Hard (stand_of state c) q (kinds_else (DeadWord c) 1 q among.processor tt))
        by (Quit why) e = subst (λ (a : Act). Kinds (acts s code state c a (stand_of state c)).words q) (sym e) (live_kinds c (Quit why) (stand_of state c) q (kinds_if (slice_index state.words 0 == 0) FinishWord _ q tt tt))

    -- another that is about to open the block of a closed place does so by its link still
    others_open : AgreeOn s code fair root input state h forked taken l t run joint u g → (d : ℕ) (seat : Seat) (next : Then) (v slot : ℕ) → d ≢ c → stand_of n d ≡ IsWithin seat (Now next) → seat.restart.kind ≡ Check v slot → CarriesOn next
        → (w r : ℕ) → Closed s.takeover (spots.view s n.words) w → IsAway l w → kinds_of s n.words w ≡ Bump r → OpensBlock r next → OpensAs r (link_at (N.words (BlockWord r))).kind (kind_then next)
    others_open all d seat next v slot ne stand ke on w r shut aw kw by =
        let ih = entries_by s.takeover (spots.view s n.words) w shut in
        let was : kinds_of s state.words w ≡ Bump r = kinds_same s state.words w ∙ sym (closed_kind w shut) ∙ sym (kinds_same s n.words w) ∙ kw in
        let kz : z.kind w ≡ Bump r = kind_away l (places_of s state).kind w aw ∙ was in
        let kn : N.kind w ≡ Bump r = kind_away l (places_of s n).kind w aw ∙ kw in
        let before = stood d seat (Now next) ne stand in
        let closed = closed_before s code fair root input state h forked taken l t run joint.agrees ih w r kz d seat next v slot before ke on by in
        let own = owner_of s code fair root input state h forked taken l t run joint.agrees w r kz in
        opens_same r (kind_then next) (link_at (z.words (BlockWord r))).kind (link_at (N.words (BlockWord r))).kind
        (called_or (setting s code) fair root input N u after.kept w r kn)
        (λ f. unrun_linked (setting s code) fair root input N u after.kept Fresh r (all.stays r (unborn s code fair root input state h forked taken l t run joint.agrees w r kz) (fork_fresh s code fair root input state h forked taken l t run joint.agrees w r kz f)))
        (λ f. unrun_linked (setting s code) fair root input z t run.kept Fresh r (elim (all.fresh r (fork_fresh s code fair root input n g (forks_of state turn ++ forked) (takes_of state turn ++ taken) l u after all.agrees w r kn f)) [
          | inl was ↦ was
          | inr new ↦ absurd (let two : Run new.1.0 new.1.1 ≡ Bump r = sym new.1.2 ∙ ap z.kind own ∙ kz in cc)
        ]))
        (joint.opens d seat next v slot before ke on w r closed aw was by)

    -- a place whose branch is held fills no entry
    filled_none : AgreeOn s code fair root input state h forked taken l t run joint u g → s.takeover ≡ ByEntries → (r q : ℕ) → HasUnrun Held r u → g r ≡ Pushing q → Raises c q n.words → ⊥
    filled_none all entries r q held home raise =
        let w = within s code root input state h forked taken l t run c raise.seat (Exchange raise.cell raise.old raise.new raise.next) raise.stand in
        let same : raise.block ≡ r = subst (λ (k : RestartKind). Pushes k (after.lawful.1.board.ghost (Slot q (spots.bottoms s n.words q))) r) raise.stays
        (subst (λ (x : Home). Carries after.lawful.1.board.ghost (spots.kinds s n.words) (spots.bottoms s n.words) x r) home (after.lawful.1.board.board.real r)) in
        let ke : z.kind raise.seat.place ≡ Push1 r = w.kind ∙ raise.kind ∙ ap Push1 same in
        elim (all.held r held) [
          | inl was ↦ joint.unheld entries raise.seat.place r (Exchange raise.cell raise.old raise.new raise.next) ke w.doing tt was
          | inr new ↦
              let was : h r ≡ Pushing raise.seat.place = pushing_home s code root input state h forked taken l t run raise.seat.place r (not_followed s code root input state h forked taken l t run c raise.seat.place w.sits.carried) ke in
              let one : new.0 ≡ raise.seat.place = pushing_place (sym new.1 ∙ was) in
              raise.above (ap (λ (b : ℕ). b + 1) (sym w.sits.at.bottom) ∙ subst (IsAtLast s state.words) one new.2)
        ]

    last_by : (how : Takeover) → s.takeover ≡ how → AgreeOn s code fair root input state h forked taken l t run joint u g → (r q : ℕ) → HasUnrun Held r u → g r ≡ Pushing q → IsCapped how s state.words q → IsCapped how s n.words q
    last_by ByPlaces e all r q held home cap = ap (λ (x : ℕ). x + 1) (act_lows c among.processor act none q (push_kind r q home)) ∙ cap
    last_by ByEntries e all r q held home cap = subst (λ (b : ℕ). IsEmpty (spots.view s n.words (Slot q (b + 1)))) (sym (act_lows c among.processor act none q (push_kind r q home)))
        (elim (act_tops c among.processor act q (spots.bottoms s state.words q + 1) cap) [ inl a ↦ a | inr raise ↦ absurd (filled_none all e r q held home raise) ])

    joined : AgreeOn s code fair root input state h forked taken l t run joint u g
        → ((r f y b : ℕ) (seat : Seat) → stand_of n c ≡ IsWithin seat (Now (Install (record { kind = Run f y; bottom = b }))) → seat.restart.kind ≡ Push1 r → HasUnrun Fresh r t → HasUnrun Held r u)
        → (s.takeover ≡ ByEntries → (r : ℕ) (row : Row) (seat : Seat) → stand_of n c ≡ IsWithin seat row → seat.restart.kind ≡ Push1 r → PushesOn row → HasUnrun Held r u → ⊥)
        → ((seat : Seat) (next : Then) (v slot : ℕ) → stand_of n c ≡ IsWithin seat (Now next) → seat.restart.kind ≡ Check v slot → CarriesOn next
        → (w r : ℕ) → Closed s.takeover (spots.view s n.words) w → IsAway l w → kinds_of s n.words w ≡ Bump r → OpensBlock r next → OpensAs r (link_at (N.words (BlockWord r))).kind (kind_then next))
        → AreJoint s code n g l u
    joined all own unheld opens = record {
      opens = λ d seat next v slot stand ke on w r shut aw kw by. elim (cases_eq d c) [
        | inr ne ↦ others_open all d seat next v slot ne stand ke on w r shut aw kw by
        | inl e ↦ opens seat next v slot (subst (λ (x : ℕ). stand_of n x ≡ IsWithin seat (Now next)) e stand) ke on w r shut aw kw by
      ];
      agrees = all.agrees;
      last = λ r q held home. last_by s.takeover refl all r q held home (all.last r q held home);
      ready = λ p r f y b ke de.
          let d = doer (stand_of n) p (Now (Install (record { kind = Run f y; bottom = b }))) s.processors de in
          let home : g r ≡ Pushing p = home_after p r (Now (Install (record { kind = Run f y; bottom = b }))) d ke in
          elim (all.agrees.to_push r (ap fate_of home)) [
            | inr held ↦ held
            | inl fresh ↦ elim (all.fresh r fresh) [
              | inr un ↦ absurd (let k : Unborn ≡ Pushing p = sym un.0 ∙ home in cc)
              | inl before ↦ elim (cases_eq d.processor c) [
                | inr ne ↦ absurd (not_both s code fair root input state h forked taken l t run joint r before (joint.ready p r f y b (kind_before p r _ d ne ke) (doing_before p _ d ne)))
                | inl e ↦ own r f y b d.seat (subst (λ (x : ℕ). stand_of n x ≡ IsWithin d.seat (Now (Install (record { kind = Run f y; bottom = b })))) e d.stand) (seat_kind p r _ d ke) before
              ]
            ]
          ];
      unheld = λ entries p r row ke de on held.
          let d = doer (stand_of n) p row s.processors de in
          elim (cases_eq d.processor c) [
            | inl e ↦ unheld entries r row d.seat (subst (λ (x : ℕ). stand_of n x ≡ IsWithin d.seat row) e d.stand) (seat_kind p r row d ke) on held
            | inr ne ↦ elim (all.held r held) [
              | inl was ↦ joint.unheld entries p r row (kind_before p r row d ne ke) (doing_before p row d ne) on was
              | inr new ↦
                  let w = within s code root input state h forked taken l t run d.processor d.seat row (stood d.processor d.seat row ne d.stand) in
                  let was : h r ≡ Pushing p = pushing_home s code root input state h forked taken l t run p r (not_followed s code root input state h forked taken l t run d.processor p (subst (Carried s (spots.view s state.words) d.processor) d.place w.sits.carried)) (kind_before p r row d ne ke) in
                  let one : new.0 ≡ p = pushing_place (sym new.1 ∙ was) in
                  pushes_above p r row d ne ke on (subst (IsAtLast s state.words) one new.2)
            ]
          ];
    }

  -- where a processor came to by the step
  step_to : (c v : ℕ) (seat : Seat) (row : Row) (x : Standing) → stand_of state c ≡ x → stand_of (acts s code state c (Step v) x) c ≡ IsWithin seat row → went s code c v (found_in state.words (wanted s c v x)) x ≡ IsWithin seat row
  step_to c v seat row IsDone e to = absurd (let z : IsDone ≡ IsWithin seat row = sym e ∙ to in cc)
  step_to c v seat row IsLost e to = sym (stand_own state.stand c _ (λ k. let z = sym e ∙ k in cc)) ∙ to
  step_to c v seat row (IsPlaced p) e to = sym (stand_own state.stand c _ (λ k. let z = sym e ∙ k in cc)) ∙ to
  step_to c v seat row (IsAt p re) e to = sym (stand_own state.stand c _ (λ k. let z = sym e ∙ k in cc)) ∙ to
  step_to c v seat row (IsWithin o first) e to = sym (stand_own state.stand c _ (λ k. let z = sym e ∙ k in cc)) ∙ to
  step_to c v seat row (IsRunning o rest) e to = sym (stand_own state.stand c _ (λ k. let z = sym e ∙ k in cc)) ∙ to
  step_to c v seat row (IsBroken p) e to = sym (stand_own state.stand c _ (λ k. let z = sym e ∙ k in cc)) ∙ to

  -- where the processor of a step comes to a row of Push1
  module _ (c v r : ℕ) (row : Row) (seat' : Seat) (ke : seat'.restart.kind ≡ Push1 r) where
    abbrev To : Standing → Type 0
    To x = x ≡ IsWithin seat' row

    abbrev After : Standing → Skeleton
    After x = tree_with (setting s code) z.words state.words x t

    abbrev found : Standing → ℕ
    found x = found_in state.words (wanted s c v x)

    out : (x : Standing) → NotWithin x → To x → ⊥
    out x none e = subst NotWithin e none

    own_kind : (seat : Seat) → seat ≡ seat' → seat.restart.kind ≡ Push1 r
    own_kind seat is = ap (λ (o : Seat). o.restart.kind) is ∙ ke

    first_shape : (seat : Seat) (first : Row) → stand_of state c ≡ IsWithin seat first → seat ≡ seat' → ((seat.restart.bottom + 1 ≡ s.slots) × LastSo first) ⊎ ((seat.restart.bottom + 1 ≢ s.slots) × AboveSo s.takeover seat.place seat.restart.bottom r first)
    first_shape seat first e is =
        let w = within s code root input state h forked taken l t run c seat first e in
        push1_shape s seat.own seat.place seat.restart.bottom r first (spots.with_restarts (spots.view s state.words) (spots.kinds s state.words) (spots.bottoms s state.words))
        (subst (λ (k : RestartKind). HasSeen s (spots.with_restarts (spots.view s state.words) (spots.kinds s state.words) (spots.bottoms s state.words)) (kind_seat seat.own seat.place k seat.restart.bottom) first) (own_kind seat is) w.seen)

    kind_here : (seat : Seat) (first : Row) → stand_of state c ≡ IsWithin seat first → seat ≡ seat' → z.kind seat.place ≡ Push1 r
    kind_here seat first e is = (within s code root input state h forked taken l t run c seat first e).kind ∙ own_kind seat is

    loaded_row : (seat : Seat) (point : RowPoint) → To (went s code c v (found (IsWithin seat (Now (Load point)))) (IsWithin seat (Now (Load point))))
        → (seat ≡ seat') × (found_at s seat v point (content_of (reading_at point) (read s state.words (cell_at seat v point))) ≡ row)
    loaded_row seat point to = subst (SameRow seat (found_at s seat v point (content_of (reading_at point) (read s state.words (cell_at seat v point))))) to (stands_same s code seat (found_at s seat v point (content_of (reading_at point) (read s state.words (cell_at seat v point)))))

    then_row : (seat : Seat) (next : Then) → To (stands_then s code seat next) → (seat ≡ seat') × (Now next ≡ row)
    then_row seat next to = subst (SameRow seat (Now next)) to (then_same s code seat next)

    begun_row : (p : ℕ) (re : Option Restart) (w : ℕ) → To (at_finish s code c p re w) → row_of s seat' (Push1 r) ≡ row
    begun_row p re w to = subst (λ (k : RestartKind). row_of s seat' k ≡ row) ke (subst (IsBegun s) to (begins_begun s code c p re w))

    -- the install of the left branch: the right one is held
    module _ (f y b : ℕ) (is : row ≡ Now (Install (record { kind = Run f y; bottom = b }))) (before : HasUnrun Fresh r t) where
      load_held : (seat : Seat) (point : RowPoint) → stand_of state c ≡ IsWithin seat (Now (Load point)) → (seat ≡ seat') × (found_at s seat v point (content_of (reading_at point) (read s state.words (cell_at seat v point))) ≡ row)
          → AbovePoint r point → HasUnrun Held r t
      load_held seat (PushAbove x) e q a = absurd (above_never seat x f y b (content_of (reading_at (PushAbove x)) (read s state.words (cell_at seat v (PushAbove x)))) (q.1 ∙ is))
      load_held seat (PushOrder x) e q a =
          held_by c seat.place r (within s code root input state h forked taken l t run c seat (Now (Load (PushOrder x))) e).sits.carried (kind_here seat (Now (Load (PushOrder x))) e q.0)
          (ap (λ (w : ℕ). read s state.words (BlockWord (w + 1))) (sym a) ∙ order_both seat x f y b (read s state.words (BlockWord (x + 1))) (q.1 ∙ is))
      load_held seat _ e q a = absurd a

      row_held : (seat : Seat) (first : Row) → stand_of state c ≡ IsWithin seat first → To (went s code c v (found (IsWithin seat first)) (IsWithin seat first)) → HasUnrun Held r (After (IsWithin seat first))
      row_held seat (Now (Load point)) e to =
          let q = loaded_row seat point to in
          subst (λ (k : RestartKind). HasUnrun Held r (by_end seat.place k (Load point) t)) (sym (own_kind seat q.0))
          (elim (first_shape seat (Now (Load point)) e q.0) [ inl a ↦ absurd a.1 | inr a ↦ load_held seat point e q a.1 ])
      row_held seat (Now (Install x)) e to = absurd (out _ tt to)
      row_held seat (Now (Fork x)) e to = absurd (out _ tt to)
      row_held seat (Now (Begin x w m)) e to = absurd (out _ tt to)
      row_held seat (Now (Move x)) e to = absurd (out _ tt to)
      row_held seat (Now (Enter x)) e to = absurd (let w = (within s code root input state h forked taken l t run c seat (Now (Enter x)) e).here in cc)
      row_held seat (Now Again) e to = absurd (let w = (within s code root input state h forked taken l t run c seat (Now Again) e).here in cc)
      row_held seat (Now Broken) e to = absurd (let w = (within s code root input state h forked taken l t run c seat (Now Broken) e).here in cc)
      row_held seat (Store cell content next) e to =
          let q = then_row seat next to in
          subst (λ (k : RestartKind). HasUnrun Held r (by_store seat.place k t)) (sym (own_kind seat q.0))
          ((((unruns s code fair root input state h forked taken l t run joint seat.place).pushes r Held tt (inl (kind_here seat (Store cell content next) e q.0)) before).new Held tt).1 refl)
      row_held seat (Exchange cell old new next) e to =
          let q = then_row seat next to in
          elim (first_shape seat (Exchange cell old new next) e q.0) [
            | inl a ↦ absurd a.1
            | inr a ↦ absurd (left_never next a.1.1 (q.1 ∙ is))
          ]
        where
          left_never : (next : Then) → AbovePush seat.restart.bottom r next → Now next ≡ Now (Install (record { kind = Run f y; bottom = b })) → ⊥
          left_never (Install re) a k = let kinds : Push2 r ≡ Run f y = sym a.0 ∙ ap install_kind k in cc
          left_never _ a k = absurd a

      went_held : (x : Standing) → stand_of state c ≡ x → To (went s code c v (found x) x) → HasUnrun Held r (After x)
      went_held IsLost e to = absurd (out _ (placed_out s code (found IsLost)) to)
      went_held (IsPlaced p) e to = absurd (out _ tt to)
      went_held (IsAt p re) e to = absurd (push1_begins s seat' r (record { kind = Run f y; bottom = b }) (begun_row p re (found (IsAt p re)) to ∙ is))
      went_held (IsWithin seat first) e to = row_held seat first e to
      went_held (IsRunning seat rest) e to = absurd (out _ (rest_out s code seat (found (IsRunning seat rest)) rest) to)
      went_held (IsBroken p) e to = absurd (out _ tt to)
      went_held IsDone e to = absurd (out _ tt to)

    -- a row that pushes on: it is not
    module _ (entries : s.takeover ≡ ByEntries) (on : PushesOn row) where
      load_unheld : (seat : Seat) (point : RowPoint) → stand_of state c ≡ IsWithin seat (Now (Load point)) → (seat ≡ seat') × (found_at s seat v point (content_of (reading_at point) (read s state.words (cell_at seat v point))) ≡ row)
          → AbovePoint r point → HasUnrun Held r t → ⊥
      load_unheld seat (PushAbove x) e q a held =
          joint.unheld entries seat.place r (Now (Load (PushAbove x))) (kind_here seat (Now (Load (PushAbove x))) e q.0) (within s code root input state h forked taken l t run c seat (Now (Load (PushAbove x))) e).doing tt held
      load_unheld seat (PushOrder x) e q a held =
          let three = held_three c seat.place r (within s code root input state h forked taken l t run c seat (Now (Load (PushOrder x))) e).sits.carried (kind_here seat (Now (Load (PushOrder x))) e q.0) held in
          subst (λ (w : ℕ). PushesOn (push_by_order seat x w)) (ap (λ (w : ℕ). read s state.words (BlockWord (w + 1))) a ∙ three) (subst PushesOn (sym q.1) on)
      load_unheld seat _ e q a held = absurd a

      row_unheld : (seat : Seat) (first : Row) → stand_of state c ≡ IsWithin seat first → To (went s code c v (found (IsWithin seat first)) (IsWithin seat first)) → HasUnrun Held r (After (IsWithin seat first)) → ⊥
      row_unheld seat (Now (Load point)) e to held =
          let q = loaded_row seat point to in
          elim (first_shape seat (Now (Load point)) e q.0) [
            | inl a ↦ a.1
            | inr a ↦ load_unheld seat point e q a.1 (subst (λ (k : RestartKind). HasUnrun Held r (by_end seat.place k (Load point) t)) (own_kind seat q.0) held)
          ]
      row_unheld seat (Now (Install x)) e to held = out _ tt to
      row_unheld seat (Now (Fork x)) e to held = out _ tt to
      row_unheld seat (Now (Begin x w m)) e to held = out _ tt to
      row_unheld seat (Now (Move x)) e to held = out _ tt to
      row_unheld seat (Now (Enter x)) e to held = let w = (within s code root input state h forked taken l t run c seat (Now (Enter x)) e).here in cc
      row_unheld seat (Now Again) e to held = let w = (within s code root input state h forked taken l t run c seat (Now Again) e).here in cc
      row_unheld seat (Now Broken) e to held = let w = (within s code root input state h forked taken l t run c seat (Now Broken) e).here in cc
      row_unheld seat (Store cell content next) e to held =
          let q = then_row seat next to in
          elim (first_shape seat (Store cell content next) e q.0) [
            | inl a ↦ store_no_push cell content next a.1 (subst PushesOn (sym q.1) on)
            | inr a ↦ a.1
          ]
      row_unheld seat (Exchange cell old new next) e to held =
          let q = then_row seat next to in
          elim (first_shape seat (Exchange cell old new next) e q.0) [
            | inl a ↦ a.1
            | inr a ↦ trade_no_push seat.restart.bottom r next a.1.1 (subst PushesOn (sym q.1) on)
          ]

      went_unheld : (x : Standing) → stand_of state c ≡ x → To (went s code c v (found x) x) → HasUnrun Held r (After x) → ⊥
      went_unheld IsLost e to held = out _ (placed_out s code (found IsLost)) to
      went_unheld (IsPlaced p) e to held = out _ tt to
      went_unheld (IsAt p re) e to held = begins_no_push s seat' r row entries (begun_row p re (found (IsAt p re)) to) on
      went_unheld (IsWithin seat first) e to held = row_unheld seat first e to held
      went_unheld (IsRunning seat rest) e to held = out _ (rest_out s code seat (found (IsRunning seat rest)) rest) to
      went_unheld (IsBroken p) e to held = out _ tt to
      went_unheld IsDone e to held = out _ tt to

  -- where the processor of a step comes to the end of a Check
  module _ (c v : ℕ) (seat' : Seat) (next : Then) (v' slot : ℕ) (ke : seat'.restart.kind ≡ Check v' slot) (on : CarriesOn next) where
    abbrev Comes : Standing → Type 0
    Comes x = went s code c v (found_in state.words (wanted s c v x)) x ≡ IsWithin seat' (Now next)

    -- it does by a load of its row
    record ByLoad : Type 0 where
      pub point : RowPoint
      pub stand : stand_of state c ≡ IsWithin seat' (Now (Load point))
      pub is : found_at s seat' v point (content_of (reading_at point) (read s state.words (cell_at seat' v point))) ≡ Now next

    gone_out : (x : Standing) → NotWithin x → x ≡ IsWithin seat' (Now next) → ⊥
    gone_out x none e = subst NotWithin e none

    checks : (ih : s.takeover ≡ ByEntries) (row : Row) → stand_of state c ≡ IsWithin seat' row → ChecksSo (Closed s.takeover (spots.view s state.words)) (spots.view s state.words) (spots.kinds s state.words) (spots.bottoms s state.words) h run.lawful.1.board seat'.place row
    checks ih row e = heirs_see s code ih state h forked taken run.lawful c seat' row v' slot e ke

    row_loads : (ih : s.takeover ≡ ByEntries) (seat : Seat) (first : Row) → stand_of state c ≡ IsWithin seat first → Comes (IsWithin seat first) → ByLoad
    row_loads ih seat (Now (Load point)) e to =
        let q = subst (SameRow seat (found_at s seat v point (content_of (reading_at point) (read s state.words (cell_at seat v point))))) to (stands_same s code seat (found_at s seat v point (content_of (reading_at point) (read s state.words (cell_at seat v point))))) in
        record { point = point; stand = e ∙ ap (λ (o : Seat). IsWithin o (Now (Load point))) q.0; is = subst (λ (o : Seat). found_at s o v point (content_of (reading_at point) (read s state.words (cell_at o v point))) ≡ Now next) q.0 q.1 }
    row_loads ih seat (Now (Install x)) e to = absurd (gone_out _ tt to)
    row_loads ih seat (Now (Fork x)) e to = absurd (gone_out _ tt to)
    row_loads ih seat (Now (Begin x w m)) e to = absurd (gone_out _ tt to)
    row_loads ih seat (Now (Move x)) e to = absurd (gone_out _ tt to)
    row_loads ih seat (Now (Enter x)) e to = absurd (let w = (within s code root input state h forked taken l t run c seat (Now (Enter x)) e).here in cc)
    row_loads ih seat (Now Again) e to = absurd (let w = (within s code root input state h forked taken l t run c seat (Now Again) e).here in cc)
    row_loads ih seat (Now Broken) e to = absurd (let w = (within s code root input state h forked taken l t run c seat (Now Broken) e).here in cc)
    row_loads ih seat (Store cell content after) e to =
        let q = subst (SameRow seat (Now after)) to (then_same s code seat after) in
        absurd (checks ih (Store cell content after) (e ∙ ap (λ (o : Seat). IsWithin o (Store cell content after)) q.0))
    row_loads ih seat (Exchange cell old new after) e to =
        let q = subst (SameRow seat (Now after)) to (then_same s code seat after) in
        absurd (checks ih (Exchange cell old new after) (e ∙ ap (λ (o : Seat). IsWithin o (Exchange cell old new after)) q.0))

    went_loads : (ih : s.takeover ≡ ByEntries) (x : Standing) → stand_of state c ≡ x → Comes x → ByLoad
    went_loads ih IsLost e to = absurd (gone_out _ (placed_out s code (found_in state.words (wanted s c v IsLost))) to)
    went_loads ih (IsPlaced p) e to = absurd (gone_out _ tt to)
    went_loads ih (IsAt p re) e to = absurd (subst GoesFirst (subst (λ (k : RestartKind). row_of s seat' k ≡ Now next) ke (subst (IsBegun s) to (begins_begun s code c p re (found_in state.words (wanted s c v (IsAt p re)))))) (λ a b. b) tt on)
    went_loads ih (IsWithin seat first) e to = row_loads ih seat first e to
    went_loads ih (IsRunning seat rest) e to = absurd (gone_out _ (rest_out s code seat (found_in state.words (wanted s c v (IsRunning seat rest))) rest) to)
    went_loads ih (IsBroken p) e to = absurd (gone_out _ tt to)
    went_loads ih IsDone e to = absurd (gone_out _ tt to)

    -- the act opens a block by its link
    own_opens : (x : Standing) → stand_of state c ≡ x → Comes x → (w r : ℕ) → Closed s.takeover (spots.view s (acts s code state c (Step v) x).words) w → IsAway l w → kinds_of s (acts s code state c (Step v) x).words w ≡ Bump r → OpensBlock r next
        → OpensAs r (link_at (left_words (setting s code) l (view s (acts s code state c (Step v) x).words) (BlockWord r))).kind (kind_then next)
    own_opens x e to w r shut aw kw by =
        let ih = entries_by s.takeover (spots.view s (acts s code state c (Step v) x).words) w shut in
        let loads = went_loads ih x e to in
        let words : (acts s code state c (Step v) x).words ≡ state.words = ap (λ (y : Standing). (acts s code state c (Step v) y).words) (sym e ∙ loads.stand) in
        let was : kinds_of s state.words w ≡ Bump r = ap (λ (ws : List ℕ). kinds_of s ws w) (sym words) ∙ kw in
        let there : w < s.processors = place_of_bump w r was in
        subst (λ (ws : List ℕ). OpensAs r (link_at (left_words (setting s code) l (view s ws) (BlockWord r))).kind (kind_then next)) (sym words)
        (load_opens s code fair root input state h forked taken l t run joint.agrees ih w r (kind_away l (places_of s state).kind w aw ∙ was) there aw c v seat' next on by loads.point (checks ih (Now (Load loads.point)) loads.stand)
        (within s code root input state h forked taken l t run c seat' (Now (Load loads.point)) loads.stand) loads.is)
      where
        place_of_bump : (w r : ℕ) → kinds_of s state.words w ≡ Bump r → w < s.processors
        place_of_bump w r e = elim (cases_Bool (nat_lt w s.processors)) [
          | inl y ↦ ltb-true w s.processors y
          | inr y ↦ absurd (let k : Seek ≡ Bump r = sym (ap (λ (b : Bool). if b then kind_or (restart_of (read s state.words (RestartWord w))) else Seek) y) ∙ e in cc)
        ]

  -- nobody is in a row after a fault
  fault_out : (c : ℕ) (act : Act) → ((found : ℕ) (x : Standing) → NotWithin (stand_after s code c act found x)) → (seat : Seat) (row : Row) (x : Standing) → stand_of state c ≡ x → stand_of (acts s code state c act x) c ≡ IsWithin seat row → ⊥
  fault_out c act none seat row IsDone e to = let z = sym e ∙ to in cc
  fault_out c act none seat row IsLost e to = subst NotWithin (sym (stand_own state.stand c _ (λ k. let z = sym e ∙ k in cc)) ∙ to) (none _ IsLost)
  fault_out c act none seat row (IsPlaced p) e to = subst NotWithin (sym (stand_own state.stand c _ (λ k. let z = sym e ∙ k in cc)) ∙ to) (none _ (IsPlaced p))
  fault_out c act none seat row (IsAt p re) e to = subst NotWithin (sym (stand_own state.stand c _ (λ k. let z = sym e ∙ k in cc)) ∙ to) (none _ (IsAt p re))
  fault_out c act none seat row (IsWithin o w) e to = subst NotWithin (sym (stand_own state.stand c _ (λ k. let z = sym e ∙ k in cc)) ∙ to) (none _ (IsWithin o w))
  fault_out c act none seat row (IsRunning o w) e to = subst NotWithin (sym (stand_own state.stand c _ (λ k. let z = sym e ∙ k in cc)) ∙ to) (none _ (IsRunning o w))
  fault_out c act none seat row (IsBroken p) e to = subst NotWithin (sym (stand_own state.stand c _ (λ k. let z = sym e ∙ k in cc)) ∙ to) (none _ (IsBroken p))

  -- so many forks an act opens
  acts_open : (c : ℕ) (act : Act) → StepsAlone s.takeover act (stand_of state c)
      → IsHalves s code root input (happens s code state (record { processor = c; act = act })) (by_act s state.words act (stand_of state c) h) (forks_of state (record { processor = c; act = act }) ++ forked) (takes_of state (record { processor = c; act = act }) ++ taken) l
      (act_with (setting s code) z.words state.words act (stand_of state c) t)
      → Opened s code fair root input state h forked taken l t run joint (by_step (opened_by z.words) act (stand_of state c)) (act_with (setting s code) z.words state.words act (stand_of state c) t) (by_act s state.words act (stand_of state c) h)
  acts_open c (Step v) none after = step_agree c v after.kept.apart after.born none (stand_of state c) refl none
  acts_open c Soft none after = inl (here s code fair root input state h forked taken l t run joint, refl)
  acts_open c Hard none after = inl (here s code fair root input state h forked taken l t run joint, refl)
  acts_open c (Quit why) none after = inl (here s code fair root input state h forked taken l t run joint, refl)

  all_joined : (c : ℕ) (act : Act) → IsTurnAmong s.processors (record { processor = c; act = act }) → StepsAlone s.takeover act (stand_of state c)
      → IsHalves s code root input (happens s code state (record { processor = c; act = act })) (by_act s state.words act (stand_of state c) h) (forks_of state (record { processor = c; act = act }) ++ forked) (takes_of state (record { processor = c; act = act }) ++ taken) l
      (act_with (setting s code) z.words state.words act (stand_of state c) t)
      → AreJoint s code (happens s code state (record { processor = c; act = act })) (by_act s state.words act (stand_of state c) h) l (act_with (setting s code) z.words state.words act (stand_of state c) t)
  all_joined c (Step v) among none after = joined c (Step v) among none after (on_opened s code fair root input state h forked taken l t run joint _ _ _ (acts_open c (Step v) none after))
      (λ r f y b seat stand ke before. let row = Now (Install (record { kind = Run f y; bottom = b })) in
      went_held c v r row seat ke f y b refl before (stand_of state c) refl (step_to c v seat row (stand_of state c) refl stand))
      (λ entries r row seat stand ke on held. went_unheld c v r row seat ke entries on (stand_of state c) refl (step_to c v seat row (stand_of state c) refl stand) held)
      (λ seat next v' slot stand ke on w r shut aw kw by. own_opens c v seat next v' slot ke on (stand_of state c) refl (step_to c v seat (Now next) (stand_of state c) refl stand) w r shut aw kw by)
  all_joined c Soft among none after = joined c Soft among none after (agree_on s code fair root input state h forked taken l t run joint t h (here s code fair root input state h forked taken l t run joint))
      (λ r f y b seat stand ke before. absurd (fault_out c Soft (λ found x. tt) seat _ (stand_of state c) refl stand))
      (λ entries r row seat stand ke on held. fault_out c Soft (λ found x. tt) seat _ (stand_of state c) refl stand)
      (λ seat next v' slot stand ke on w r shut aw kw by. absurd (fault_out c Soft (λ found x. tt) seat _ (stand_of state c) refl stand))
  all_joined c Hard among none after = joined c Hard among none after (agree_on s code fair root input state h forked taken l t run joint t h (here s code fair root input state h forked taken l t run joint))
      (λ r f y b seat stand ke before. absurd (fault_out c Hard (λ found x. tt) seat _ (stand_of state c) refl stand))
      (λ entries r row seat stand ke on held. fault_out c Hard (λ found x. tt) seat _ (stand_of state c) refl stand)
      (λ seat next v' slot stand ke on w r shut aw kw by. absurd (fault_out c Hard (λ found x. tt) seat _ (stand_of state c) refl stand))
  all_joined c (Quit why) among none after = joined c (Quit why) among none after (agree_on s code fair root input state h forked taken l t run joint t h (here s code fair root input state h forked taken l t run joint))
      (λ r f y b seat stand ke before. absurd (fault_out c (Quit why) (λ found x. tt) seat _ (stand_of state c) refl stand))
      (λ entries r row seat stand ke on held. fault_out c (Quit why) (λ found x. tt) seat _ (stand_of state c) refl stand)
      (λ seat next v' slot stand ke on w r shut aw kw by. absurd (fault_out c (Quit why) (λ found x. tt) seat _ (stand_of state c) refl stand))

-- so many forks a turn opens
pub turns_open : (s : Shape) (code : CodeParts) (fair : IsFair code) (root : Tree (Frame FrameWord Point) Result) (input : Words) (state : RunState) (h : ℕ → Home) (forked taken : List ℕ) (l : List Followed) (t : Skeleton)
    (run : IsHalves s code root input state h forked taken l t) (joint : AreJoint s code state h l t) (turn : Turn) → StepsAlone s.takeover turn.act (stand_of state turn.processor)
    → IsHalves s code root input (happens s code state turn) (by_act s state.words turn.act (stand_of state turn.processor) h) (forks_of state turn ++ forked) (takes_of state turn ++ taken) l
    (act_with (setting s code) (left (setting s code) l (places_of s state)).words state.words turn.act (stand_of state turn.processor) t)
    → Opened s code fair root input state h forked taken l t run joint (by_step (opened_by (left (setting s code) l (places_of s state)).words) turn.act (stand_of state turn.processor))
    (act_with (setting s code) (left (setting s code) l (places_of s state)).words state.words turn.act (stand_of state turn.processor) t) (by_act s state.words turn.act (stand_of state turn.processor) h)
turns_open s code fair root input state h forked taken l t run joint turn none after = acts_open s code fair root input state h forked taken l t run joint turn.processor turn.act none after

pub joints_stay : JointsStay
joints_stay s code fair root input state h forked taken l t run joint turn among none after = all_joined s code fair root input state h forked taken l t run joint turn.processor turn.act among none after

-- by places that is what `IsRun` says
pub joint_of : (s : Shape) (code : CodeParts) → s.takeover ≡ ByPlaces → (root : Tree (Frame FrameWord Point) Result) (input : Words) (state : RunState) (h : ℕ → Home) (forked taken : List ℕ) (t : Skeleton) → IsRun s code root input state h forked taken t → AreJoint s code state h [] t
joint_of s code places root input state h forked taken t run = record {
  agrees = run.agrees;
  last = λ r p held home. subst (λ (how : Takeover). IsCapped how s state.words p) (sym places) (run.last r p held home);
  ready = run.ready;
  unheld = λ e p r row ke de on held. let two : ByPlaces ≡ ByEntries = sym places ∙ e in cc;
  opens = λ c seat next v slot stand ke on w r shut aw kw by. absurd (let two : ByPlaces ≡ ByEntries = sym places ∙ entries_by s.takeover (spots.view s state.words) w shut in cc);
}

pub alone_by : (how : Takeover) → how ≡ ByPlaces → (act : Act) (x : Standing) → StepsAlone how act x
alone_by how e (Step v) (IsWithin seat row) = inl e
alone_by how e (Step v) IsLost = tt
alone_by how e (Step v) (IsPlaced p) = tt
alone_by how e (Step v) (IsAt p re) = tt
alone_by how e (Step v) (IsRunning seat rest) = tt
alone_by how e (Step v) (IsBroken p) = tt
alone_by how e (Step v) IsDone = tt
alone_by how e Soft x = tt
alone_by how e Hard x = tt
alone_by how e (Quit why) x = tt

pub joins_stay : JoinsStay
joins_stay s code places fair root input state h forked taken t run turn among kept =
    let joint = joints_stay s code fair root input state h forked taken [] t (halves run) (joint_of s code places root input state h forked taken t run) turn among (alone_by s.takeover places turn.act (stand_of state turn.processor)) (record {
      lawful = (turns_go_on s code places fair root input state h forked taken t run).lawful turn among;
      apart = tt;
      gone = tt;
      kept = kept;
      born = births_follow s code places fair root input state h forked taken t run turn among;
    }) in record {
      agrees = joint.agrees;
      last = λ r p held home. subst (λ (how : Takeover). IsCapped how s (happens s code state turn).words p) places (joint.last r p held home);
      ready = joint.ready;
    }
