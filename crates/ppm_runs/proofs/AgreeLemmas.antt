-- What has come of each right branch and the tree agree after each turn by which no place goes on with what it
-- inherited.
use Rattle.std.proofs.Common.{◌≡◌, ◌≢◌, ◌⊎◌, ◌<◌, ◌≤◌, ℕ, ◌+◌, ◌-◌, ◌==◌, Bool, true, false, if◌then◌else◌, cond, List, [], ◌∷◌, ◌++◌, inl, inr, refl, sym, ap, ◌∙◌, subst, subst₂, arith}
use Rattle.std.specs.Prelude.{nat_lt, ◌^◌}
use Rattle.std.proofs.Math.Path.{fun_ext}
use Rattle.std.proofs.lemmas.Bool.{cases_eq, eqb-true, eq-eqb}
use Rattle.ppm_strands.specs.Tree.{Words, Tree}
use Rattle.ppm_cells.specs.Entry.{IsEntry}
use Rattle.ppm_cells.specs.Fields.{Fit}
use Rattle.ppm_cells.specs.Memory.{read}
use Rattle.ppm_cells.specs.Restart.{address_fields}
use Rattle.ppm_cells.specs.declared.restart.Restart.{Restart}
use Rattle.ppm_cells.specs.declared.cell.Cell.{Cell}
use Rattle.ppm_cells.specs.declared.cell.Cell.TheVariants.{FinishWord, CarryWord, RestartWord, RoomCounter, EntryWord, BlockWord, ArrayWord}
use Rattle.ppm_cells.specs.declared.entry.Entry.{Entry}
use Rattle.ppm_cells.specs.declared.entry.Entry.TheVariants as entries
use Rattle.ppm_cells.specs.declared.link.LinkKind.{LinkKind}
use Rattle.ppm_cells.specs.declared.link.LinkKind.TheVariants.{Root, Call as Called, Branch, Fork as Forked}
use Rattle.ppm_cells.specs.declared.restart.RestartKind.{RestartKind}
use Rattle.ppm_cells.specs.declared.restart.RestartKind.TheVariants.{Run, Bump, Push1, Push2, Unwind, Arrive, Join, Pop1, Pop2, Seek, Steal, Check, Take, Take2}
use Rattle.ppm_cells.specs.declared.shape.Shape.{Shape}
use Rattle.ppm_cells.specs.declared.shape.Takeover.{Takeover}
use Rattle.ppm_cells.specs.declared.shape.Takeover.TheVariants.{ByPlaces, ByEntries}
use Rattle.ppm_cells.specs.declared.side.Side.{Side}
use Rattle.ppm_strands.specs.Strand.{Frame}
use Rattle.ppm_code.specs.Strands.{Point, Result}
use Rattle.ppm_code.specs.declared.code.CodeParts.{CodeParts}
use Rattle.ppm_code.specs.declared.location.FrameWord.{FrameWord}
use Rattle.ppm_step.specs.Contents.{content_of, word_of}
use Rattle.ppm_step.specs.There.{is_there}
use Rattle.ppm_step.proofs.ThereLemmas.{restart_fits}
use Rattle.ppm_step.specs.declared.content.Reading.{Reading}
use Rattle.ppm_step.specs.declared.content.Reading.TheVariants.{AsNumber, AsRestart, AsEntry, AsHolder, AsLink, AsFinish}
use Rattle.ppm_step.specs.Rows.{row_of, found_at, raised, push_at}
use Rattle.ppm_step.specs.Standings.{Standing, IsWithin}
use Rattle.ppm_step.specs.State.{State as RunState, stand_of, happens, step_by, row_by, fork_row}
use Rattle.ppm_step.specs.declared.turn.Act.{Act}
use Rattle.ppm_step.specs.declared.turn.Turn.{Turn}
use Rattle.ppm_step.specs.declared.content.Content.{Content}
use Rattle.ppm_step.specs.declared.content.Content.TheVariants.{AnEntry}
use Rattle.ppm_step.specs.declared.row.Point.{Point as RowPoint}
use Rattle.ppm_step.specs.declared.row.Point.TheVariants.{PushBottom, PushAbove, PushOrder}
use Rattle.ppm_step.specs.declared.row.Row.{Row}
use Rattle.ppm_step.specs.declared.row.Row.TheVariants.{Now, Store, Exchange}
use Rattle.ppm_step.specs.declared.row.Seat.{Seat}
use Rattle.ppm_step.specs.declared.row.Then.{Then}
use Rattle.ppm_step.specs.declared.row.Then.TheVariants.{Load, Install, Fork, Begin, Move, Enter, Again, Broken}
use Rattle.ppm_tickets.specs.Along.{by_words, by_row, by_install as home_install}
use Rattle.ppm_tickets.specs.Homes.{Home, Unborn, Pushing, Listed, Popping, Stolen, Inline, Begun}
use Rattle.ppm_tickets.specs.Lawful.{IsLocal, IsEmpty, IsClaim, Pushes, AtBottom, Closed}
use Rattle.ppm_tickets.specs.Saw.{IsQuietCell, IsQuiet, AreFit, Carried, HasSeen, Strand, Looks, IsStrand, rest_of}
use Rattle.ppm_tickets.specs.View as spots
use Rattle.ppm_tickets.specs.View.{content_by}
use Rattle.ppm_tickets.specs.Words.{has, Word, Empty, Local, Job, Taken, Held as HeldBy, Number, Linked, Restarts, Unread, Spot, Slot, put}
use Rattle.ppm_tickets.proofs.EntryLemmas.{MayChange}
use Rattle.ppm_tickets.proofs.EstateLemmas.{as_shown, here as here_gone, own as own_entry}
use Rattle.ppm_tickets.proofs.StepLemmas.{shut_not, last_empty}
use Rattle.ppm_cells.proofs.CellLemmas.{few_words}
use Rattle.ppm_tickets.proofs.QuietLemmas.{begun_quiet, rest_quiet}
use Rattle.ppm_tickets.proofs.ViewLemmas.{shows, again}
use Rattle.ppm_tickets.proofs.WalkLemmas.{Walk, FairRow, found_fair, begun_fair}
use Rattle.ppm_tickets.proofs.WriteLemmas.{put_here, put_else}
use Rattle.ppm_frames.specs.Views.{is_cell}
use Rattle.ppm_frames.specs.Skeletons.{Stand, Who, InPlace, Fresh, Held, Waiting, Came, Inlined, Skeleton, Leaf, Calling, Forking, grow, pushed, over_left, take_in, count}
use Rattle.ppm_kept.specs.Running.{IsFair}
use Rattle.ppm_kept.specs.Kept.{Setting, seat_at, owner, InRow, State, IsKept}
use Rattle.ppm_kept.specs.Kept as kept
use Rattle.ppm_kept.specs.Births.{floor, Births}
use Rattle.ppm_kept.specs.Moves.{by_install, opened}
use Rattle.ppm_frames.specs.Good.{link_at}
use Rattle.ppm_kept.proofs.OwnerLemmas.{owned}
use Rattle.ppm_kept.specs.Fates.{Fate, Agrees, FatesStay}
use Rattle.ppm_kept.specs.Fates as fates
use Rattle.ppm_kept.specs.Branches.{is_taker}
use Rattle.ppm_kept.specs.Others.{IsIdle}
use Rattle.ppm_kept.specs.Places.{places_of}
use Rattle.ppm_kept.specs.Pushing.{kind_seat}
use Rattle.ppm_kept.specs.Steps.{act_with, tree_with, by_end, by_store, by_exchange}
use Rattle.ppm_kept.specs.Left.{Followed, left, LooksOn}
use Rattle.ppm_kept.specs.Takes.{IsCheck}
use Rattle.ppm_kept.proofs.LeftLemmas.{kind_away}
use Rattle.ppm_kept.specs.Laws.{kind_then}
use Rattle.ppm_kept.specs.Returns.{by_unwind}
use Rattle.ppm_kept.specs.Arriving.{by_arrive}
use Rattle.ppm_kept.specs.Joins.{by_join}
use Rattle.ppm_kept.specs.Counting.{is_fork}
use Rattle.ppm_kept.specs.Unruns.{HasUnrun, SameUnruns, OneChanges, IsNone, Is, UnrunsStay}
use Rattle.ppm_kept.proofs.PutLemmas as kept_puts
use Rattle.ppm_kept.proofs.FateLemmas.{fates_stay, fates_show}
use Rattle.ppm_kept.proofs.UnrunLemmas.{unruns_stay}
use Rattle.ppm_kept.proofs.UnwindRow.{unwind_row_keeps}
use Rattle.ppm_kept.proofs.ArriveRow.{arrive_row_keeps}
use Rattle.ppm_kept.proofs.JoinLastRow.{join_row_keeps}
use Rattle.ppm_kept.proofs.LoadLemmas.{bump_exchanges_none}
use Rattle.ppm_kept.proofs.LookLemmas.{LookRow, comes_look, look_begins}
use Rattle.ppm_kept.proofs.StepRows.{came_idle}
use Rattle.ppm_cells.specs.JoinOrder.{both}
use Rattle.ppm_runs.specs.Run.{setting, fate_of, IsAtLast}
use Rattle.ppm_runs.specs.Follow.{IsHalves}
use Rattle.ppm_runs.specs.Joint.{IsCapped, AreJoint}
use Rattle.ppm_runs.proofs.ShownLemmas.{away, Within}
use Rattle.ppm_runs.proofs.TameLemmas.{May, TameThen, TameTrade, TameRow}
use Rattle.ppm_runs.proofs.OrderlyLemmas.{places_row, looked, reached, push_row, forks_new}
use Rattle.ppm_runs.proofs.StandLemmas.{kinds_same}
use Rattle.ppm_runs.proofs.CameLemmas.{came_from}

-- no fork, no begin and no job
abbrev calm : May
calm = record { forks = λ r. ⊥; begins = λ r. ⊥; stores = λ a. Unit {0}; trades = λ a. Unit {0}; jobs = λ r. ⊥; fills = Unit {0}; bids = Unit {0} }

-- and of those, begins alone, or one fork, or one job
abbrev calm_begins : May
calm_begins = record { forks = λ r. ⊥; begins = λ r. Unit {0}; stores = λ a. Unit {0}; trades = λ a. Unit {0}; jobs = λ r. ⊥; fills = Unit {0}; bids = Unit {0} }

abbrev calm_forks : ℕ → May
calm_forks b = record { forks = λ r. r ≡ b; begins = λ r. ⊥; stores = λ a. Unit {0}; trades = λ a. Unit {0}; jobs = λ r. ⊥; fills = Unit {0}; bids = Unit {0} }

abbrev calm_jobs : ℕ → May
calm_jobs b = record { forks = λ r. ⊥; begins = λ r. ⊥; stores = λ a. Unit {0}; trades = λ a. Unit {0}; jobs = λ r. r ≡ b; fills = Unit {0}; bids = Unit {0} }

-- a Check may fork and begin
abbrev calm_checks : May
calm_checks = record { forks = λ r. Unit {0}; begins = λ r. Unit {0}; stores = λ a. Unit {0}; trades = λ a. Unit {0}; jobs = λ r. ⊥; fills = Unit {0}; bids = Unit {0} }

-- spots that are no entries leave all homes
abbrev IsNoSlot : Spot → Type 0
IsNoSlot (Slot v j) = ⊥
IsNoSlot _ = Unit {0}

abbrev pub IsNoEntry : Cell → Type 0
IsNoEntry (EntryWord v j) = ⊥
IsNoEntry _ = Unit {0}

no_slot : (rd : Reading) (cell : Cell) → IsNoEntry cell → IsNoSlot (spots.spot rd cell)
no_slot AsEntry (EntryWord v j) n = absurd n
no_slot AsEntry _ n = tt
no_slot AsNumber FinishWord n = tt
no_slot AsNumber _ n = tt
no_slot AsRestart FinishWord n = tt
no_slot AsRestart _ n = tt
no_slot AsHolder FinishWord n = tt
no_slot AsHolder _ n = tt
no_slot AsLink FinishWord n = tt
no_slot AsLink _ n = tt
no_slot AsFinish FinishWord n = tt
no_slot AsFinish _ n = tt

unmoved : (p : ℕ) (d : Spot) (old new : Word) (h : ℕ → Home) → IsNoSlot d → by_words p d old new h ≡ h
unmoved p (Slot v j) old new h n = absurd n
unmoved p _ old new h n = refl

framed : (s : Shape) (cell : Cell) → is_cell s cell ≡ true → IsNoEntry cell
framed s (EntryWord v j) e = absurd (cc)
framed s _ e = tt

quiet_change : (how : Takeover) (cell : Cell) (old new : Content) → IsQuietCell cell → MayChange how cell old new
quiet_change how FinishWord old new q = tt
quiet_change how (RoomCounter a) old new q = tt
quiet_change how (BlockWord a) old new q = tt
quiet_change how (ArrayWord a) old new q = tt
quiet_change how _ old new q = absurd q

changed_fit : (how : Takeover) (v j : ℕ) (e : Entry) (new : Content) → MayChange how (EntryWord v j) (AnEntry e) new → IsEntry e
changed_fit how v j e (AnEntry n) q = q.1
changed_fit how v j e _ q = absurd q

-- no restart word
abbrev pub IsNoRestart : Cell → Type 0
IsNoRestart (RestartWord p) = ⊥
IsNoRestart _ = Unit {0}

pub quiet_restart : (cell : Cell) → IsQuietCell cell → IsNoRestart cell
quiet_restart (RestartWord p) q = absurd q
quiet_restart _ q = tt

-- no carry word
abbrev pub IsNoCarry : Cell → Type 0
IsNoCarry (CarryWord c) = ⊥
IsNoCarry _ = Unit {0}

pub quiet_carry : (cell : Cell) → IsQuietCell cell → IsNoCarry cell
quiet_carry (CarryWord c) q = absurd q
quiet_carry _ q = tt

pub quiet_entry : (cell : Cell) → IsQuietCell cell → IsNoEntry cell
quiet_entry (EntryWord v j) q = absurd q
quiet_entry _ q = tt

abbrev AnyPut : Cell → Content → Type 0
AnyPut c x = IsNoRestart c × IsNoCarry c × IsNoEntry c

abbrev Changing : Takeover → Cell → (old new : Content) → Type 0
Changing how c old new = MayChange how c old new × IsNoRestart c × IsNoCarry c

any_walk : (how : Takeover) (seat : Seat) → Walk how AnyPut (Changing how) seat
any_walk how seat = record {
  counter = λ x. (tt, tt, tt);
  block = λ a x. (tt, tt, tt);
  message = λ x. (tt, tt, tt);
  finish = λ x y. (tt, tt, tt);
  order = λ a x y. (tt, tt, tt);
  top = λ v x y. (tt, tt, tt);
  entry = λ v j a b law f g. ((law, f, g), tt, tt);
  holder = λ e v x y. (tt, tt, tt);
}

-- what a row that has seen these words exchanges
rest_fair : (s : Shape) (seat : Seat) → seat.place < 64 → (v : ℕ) (row : Row) (ws : List Word) → AreFit ws → FairRow s.takeover AnyPut (Changing s.takeover) row → FairRow s.takeover AnyPut (Changing s.takeover) (rest_of s seat v row ws)
rest_fair s seat small v row [] fit f = f
rest_fair s seat small v (Now (Load point)) (w ∷ ws) fit f = rest_fair s seat small v (found_at s seat v point (content_by w)) ws fit.1 (found_fair s AnyPut (Changing s.takeover) seat (any_walk s.takeover seat) small v point (content_by w) f fit.0)
rest_fair s seat small v (Now (Install x)) (w ∷ ws) fit f = tt
rest_fair s seat small v (Now (Fork x)) (w ∷ ws) fit f = tt
rest_fair s seat small v (Now (Begin x y y')) (w ∷ ws) fit f = tt
rest_fair s seat small v (Now (Move x)) (w ∷ ws) fit f = tt
rest_fair s seat small v (Now (Enter x)) (w ∷ ws) fit f = tt
rest_fair s seat small v (Now Again) (w ∷ ws) fit f = tt
rest_fair s seat small v (Now Broken) (w ∷ ws) fit f = tt
rest_fair s seat small v (Store c x next) (w ∷ ws) fit f = rest_fair s seat small v (Now next) ws fit.1 f.1
rest_fair s seat small v (Exchange c old new next) (w ∷ ws) fit f = rest_fair s seat small v (Now next) ws fit.1 f.1

-- a kind that pushes
abbrev pub IsPush : RestartKind → Type 0
IsPush (Push1 r) = Unit {0}
IsPush (Push2 r) = Unit {0}
IsPush _ = ⊥

-- a kind that runs a frame
abbrev pub IsRunKind : RestartKind → Type 0
IsRunKind (Run f y) = Unit {0}
IsRunKind _ = ⊥

-- the exchange of Push2: the local entry at the bottom becomes the job
record Offers (p b r : ℕ) (cell : Cell) (old new : Content) : Type 0 where
  pub tag : ℕ
  pub low : ℕ
  pub at : cell ≡ EntryWord p b
  pub was : old ≡ AnEntry (entries.Local tag low)
  pub makes : new ≡ AnEntry (entries.Job (tag + 1) r)

abbrev PushesSo : (p b r : ℕ) → Row → Type 0
PushesSo p b r (Exchange cell old new next) = Offers p b r cell old new
PushesSo p b r (Now (Install re)) = IsRunKind re.kind
PushesSo p b r _ = Unit {0}

module _ (s : Shape) (seat : Seat) (v r : ℕ) where
  abbrev So : Row → List Word → Type 0
  So row ws = PushesSo seat.place seat.restart.bottom r (rest_of s seat v row ws)

  left_so : (low : ℕ) (ws : List Word) → So (Now (Install (record { kind = Run (r + 5) 0; bottom = low }))) ws
  left_so low [] = tt
  left_so low (w ∷ ws) = tt

  broken_is : (ws : List Word) → So (Now Broken) ws
  broken_is [] = tt
  broken_is (w ∷ ws) = tt

  push2_so : (ws : List Word) → So (Now (Load (PushBottom r))) ws
  push2_so [] = tt
  push2_so (Local t0 x ∷ ws) = by (nat_lt (t0 + 1) (2 ^ 34)) ws
    where
      by : (y : Bool) (ws : List Word) → So (raised (EntryWord seat.place seat.restart.bottom) (entries.Local t0 x) (entries.Job (t0 + 1) r) (Install (record { kind = Run (r + 5) 0; bottom = seat.restart.bottom + 1 })) y) ws
      by true [] = record { tag = t0; low = x; at = refl; was = refl; makes = refl }
      by true (w ∷ ws) = left_so _ ws
      by false ws = broken_is ws
  push2_so (Empty t0 ∷ ws) = left_so _ ws
  push2_so (Job t0 x ∷ ws) = left_so _ ws
  push2_so (Taken t0 x ∷ ws) = left_so _ ws
  push2_so (Number n ∷ ws) = broken_is ws
  push2_so (HeldBy n y ∷ ws) = broken_is ws
  push2_so (Linked n ∷ ws) = broken_is ws
  push2_so (Restarts n y ∷ ws) = broken_is ws
  push2_so (Unread ∷ ws) = broken_is ws

pub pushing_place : {p q : ℕ} → Pushing p ≡ Pushing q → p ≡ q
pushing_place e = ap place_told e
  where
    place_told : Home → ℕ
    place_told (Pushing p) = p
    place_told _ = 0

-- the row of Push1 at the last slot
abbrev pub LastSo : Row → Type 0
LastSo (Now (Install re)) = IsRunKind re.kind
LastSo (Now (Load x)) = ⊥
LastSo (Exchange cell old new next) = ⊥
LastSo (Store cell content (Install re)) = IsRunKind re.kind
LastSo (Store cell content next) = ⊥
LastSo _ = Unit {0}

-- and at another: it loads the order word or the entry above, and what it installs pushes on; or by entries
-- runs the left branch
abbrev pub AbovePoint : (r : ℕ) → RowPoint → Type 0
AbovePoint r (PushAbove x) = x ≡ r
AbovePoint r (PushOrder x) = x ≡ r
AbovePoint r _ = ⊥

abbrev pub AbovePush : (b r : ℕ) → Then → Type 0
AbovePush b r (Install re) = (re.kind ≡ Push2 r) × (re.bottom ≡ b)
AbovePush b r _ = ⊥

abbrev pub AboveThen : Takeover → (b r : ℕ) → Then → Type 0
AboveThen how b r (Install re) = ((re.kind ≡ Push2 r) × (re.bottom ≡ b)) ⊎ ((how ≡ ByEntries) × IsRunKind re.kind)
AboveThen how b r (Load point) = AbovePoint r point
AboveThen how b r _ = Unit {0}

abbrev pub AboveSo : Takeover → (p b r : ℕ) → Row → Type 0
AboveSo how p b r (Now next) = AboveThen how b r next
AboveSo how p b r (Exchange cell old new next) = (cell ≡ EntryWord p (b + 1)) × AbovePush b r next
AboveSo how p b r (Store cell content next) = ⊥

module _ (s : Shape) (seat : Seat) (v r : ℕ) where
  last_so : (how : Takeover) (ws : List Word) → LastSo (rest_of s seat v (push_at seat how r true) ws)
  last_so how [] = tt
  last_so how (w ∷ []) = tt
  last_so how (w ∷ x ∷ ws) = tt

  abbrev Ab : Row → List Word → Type 0
  Ab row ws = AboveSo s.takeover seat.place seat.restart.bottom r (rest_of s seat v row ws)

  broken_ab : (ws : List Word) → Ab (Now Broken) ws
  broken_ab [] = tt
  broken_ab (w ∷ ws) = tt

  push2_ab : (ws : List Word) → Ab (Now (Install (record { kind = Push2 r; bottom = seat.restart.bottom }))) ws
  push2_ab [] = inl (refl, refl)
  push2_ab (w ∷ ws) = tt

  run_ab : s.takeover ≡ ByEntries → (ws : List Word) → Ab (Now (Install (record { kind = Run (r + 5) 0; bottom = seat.restart.bottom }))) ws
  run_ab e [] = inr (e, tt)
  run_ab e (w ∷ ws) = tt

  above_so : (ws : List Word) → Ab (Now (Load (PushAbove r))) ws
  above_so [] = refl
  above_so (Empty t0 ∷ ws) = by (nat_lt (t0 + 1) (2 ^ 34)) ws
    where
      by : (y : Bool) (ws : List Word) → Ab (raised (EntryWord seat.place (seat.restart.bottom + 1)) (entries.Empty t0) (entries.Local (t0 + 1) 0) (Install (record { kind = Push2 r; bottom = seat.restart.bottom })) y) ws
      by true [] = (refl, (refl, refl))
      by true (w ∷ ws) = push2_ab ws
      by false ws = broken_ab ws
  above_so (Local t0 x ∷ ws) = push2_ab ws
  above_so (Job t0 x ∷ ws) = push2_ab ws
  above_so (Taken t0 x ∷ ws) = push2_ab ws
  above_so (Number n ∷ ws) = broken_ab ws
  above_so (HeldBy n y ∷ ws) = broken_ab ws
  above_so (Linked n ∷ ws) = broken_ab ws
  above_so (Restarts n y ∷ ws) = broken_ab ws
  above_so (Unread ∷ ws) = broken_ab ws

  order_so : s.takeover ≡ ByEntries → (ws : List Word) → Ab (Now (Load (PushOrder r))) ws
  order_so e [] = refl
  order_so e (Number n ∷ ws) = by (n == both) ws
    where
      by : (y : Bool) (ws : List Word) → Ab (if y then Now (Install (record { kind = Run (r + 5) 0; bottom = seat.restart.bottom })) else Now (Load (PushAbove r))) ws
      by true ws = run_ab e ws
      by false ws = above_so ws
  order_so e (Empty t0 ∷ ws) = broken_ab ws
  order_so e (Local t0 x ∷ ws) = broken_ab ws
  order_so e (Job t0 x ∷ ws) = broken_ab ws
  order_so e (Taken t0 x ∷ ws) = broken_ab ws
  order_so e (HeldBy n y ∷ ws) = broken_ab ws
  order_so e (Linked n ∷ ws) = broken_ab ws
  order_so e (Restarts n y ∷ ws) = broken_ab ws
  order_so e (Unread ∷ ws) = broken_ab ws

-- how a row of Push1 has come about
pub push1_shape : (s : Shape) (own p b r : ℕ) (row : Row) (m : Spot → Word) → HasSeen s m (kind_seat own p (Push1 r) b) row → ((b + 1 ≡ s.slots) × LastSo row) ⊎ ((b + 1 ≢ s.slots) × AboveSo s.takeover p b r row)
push1_shape s own p b r row m (Strand is quiet) = absurd is
push1_shape s own p b r row m (Looks v ws fit is saw) = by (b + 1 == s.slots) refl s.takeover refl is
  where
    by : (y : Bool) → (b + 1 == s.slots) ≡ y → (how : Takeover) → s.takeover ≡ how → rest_of s (kind_seat own p (Push1 r) b) v (push_at (kind_seat own p (Push1 r) b) how r y) ws ≡ row → ((b + 1 ≡ s.slots) × LastSo row) ⊎ ((b + 1 ≢ s.slots) × AboveSo s.takeover p b r row)
    by true e how k is = inl (eqb-true (b + 1) s.slots e, subst LastSo is (last_so s (kind_seat own p (Push1 r) b) v r how ws))
    by false e ByPlaces k is = inr (λ same. let y = sym e ∙ eq-eqb (b + 1) s.slots same in cc, subst (AboveSo s.takeover p b r) is (above_so s (kind_seat own p (Push1 r) b) v r ws))
    by false e ByEntries k is = inr (λ same. let y = sym e ∙ eq-eqb (b + 1) s.slots same in cc, subst (AboveSo s.takeover p b r) is (order_so s (kind_seat own p (Push1 r) b) v r k ws))

-- a leaf that stays what it is
stays_leaf : (p q : ℕ) (st : Stand) (f n : ℕ) → grow p (λ st f n. Leaf (InPlace p) st f n) (Leaf (InPlace q) st f n) ≡ Leaf (InPlace q) st f n
stays_leaf p q st f n = by (q == p) refl
  where
    by : (y : Bool) → (q == p) ≡ y → cond y (Leaf (InPlace p) st f n) (Leaf (InPlace q) st f n) ≡ Leaf (InPlace q) st f n
    by true e = ap (λ (x : ℕ). Leaf (InPlace x) st f n) (sym (eqb-true q p e))
    by false e = refl

grow_none : (p : ℕ) (t : Skeleton) → grow p (λ st f n. Leaf (InPlace p) st f n) t ≡ t
grow_none p (Leaf (InPlace q) st f n) = stays_leaf p q st f n
grow_none p (Leaf Fresh st f n) = refl
grow_none p (Leaf Waiting st f n) = refl
grow_none p (Leaf Held st f n) = refl
grow_none p (Leaf Came st f n) = refl
grow_none p (Leaf Inlined st f n) = refl
grow_none p (Calling f n y t) = ap (Calling f n y) (grow_none p t)
grow_none p (Forking f n y r a b) = (λ j. Forking f n y r (grow_none p a j) (grow_none p b j))

empty_local : (w : Word) → IsEmpty w → IsLocal w → ⊥
empty_local (Empty t) a d = d
empty_local _ a d = absurd a

-- what goes on with nothing inherited looks on
looks_idle : (k : RestartKind) (re : Restart) → IsCheck k → LooksOn k (Now (Install re)) → IsIdle re.kind
looks_idle (Check v x) re is on = on
looks_idle _ re is on = absurd is

pub home_or : (x : Home) → (x ≡ Unborn) ⊎ (x ≢ Unborn)
home_or Unborn = inl refl
home_or _ = inr (λ e. cc)

module _ (s : Shape) (code : CodeParts) (root : Tree (Frame FrameWord Point) Result) (input : Words) (state : RunState) (h : ℕ → Home) (forked taken : List ℕ) (l : List Followed) (t : Skeleton) (run : IsHalves s code root input state h forked taken l t) where
  -- what rows that have seen words store and exchange
  row_fair : (c : ℕ) (seat : Seat) (row : Row) → Within s code root input state h forked taken l t run c seat row → (v : ℕ) (ws : List Word) → AreFit ws → rest_of s seat v (row_of s seat seat.restart.kind) ws ≡ row → FairRow s.takeover AnyPut (Changing s.takeover) row
  row_fair c seat row w v ws fit is =
      let small : seat.place < 64 = let lt = w.place in let few = s.within.processors_most in omega (arith, lt, few) in
      let first = begun_fair s AnyPut (Changing s.takeover) seat (any_walk s.takeover seat) small seat.restart.kind
      (λ block k. (subst (λ (x : RestartKind). Fit (address_fields x)) k (restart_fits s (few_words s) seat.restart w.sits.there).0).0) in
      subst (FairRow s.takeover AnyPut (Changing s.takeover)) is (rest_fair s seat small v (row_of s seat seat.restart.kind) ws fit first)

  changing : (c : ℕ) (seat : Seat) (cell : Cell) (old new : Content) (next : Then) → Within s code root input state h forked taken l t run c seat (Exchange cell old new next) → Changing s.takeover cell old new
  changing c seat cell old new next w = by w.seen
    where
      by : HasSeen s (spots.with_restarts (spots.view s state.words) (spots.kinds s state.words) (spots.bottoms s state.words)) seat (Exchange cell old new next) → Changing s.takeover cell old new
      by (Strand is quiet) = (quiet_change s.takeover cell old new quiet.0, quiet_restart cell quiet.0, quiet_carry cell quiet.0)
      by (Looks v ws fit is saw) = (row_fair c seat (Exchange cell old new next) w v ws fit is).0

  pub changes : (c : ℕ) (seat : Seat) (cell : Cell) (old new : Content) (next : Then) → Within s code root input state h forked taken l t run c seat (Exchange cell old new next) → MayChange s.takeover cell old new
  changes c seat cell old new next w = (changing c seat cell old new next w).0

  pub exchanges_no_restart : (c : ℕ) (seat : Seat) (cell : Cell) (old new : Content) (next : Then) → Within s code root input state h forked taken l t run c seat (Exchange cell old new next) → IsNoRestart cell
  exchanges_no_restart c seat cell old new next w = (changing c seat cell old new next w).1

  pub stores_no_restart : (c : ℕ) (seat : Seat) (cell : Cell) (x : Content) (next : Then) → Within s code root input state h forked taken l t run c seat (Store cell x next) → IsNoRestart cell
  stores_no_restart c seat cell x next w = by w.seen
    where
      by : HasSeen s (spots.with_restarts (spots.view s state.words) (spots.kinds s state.words) (spots.bottoms s state.words)) seat (Store cell x next) → IsNoRestart cell
      by (Strand is quiet) = quiet_restart cell quiet.0
      by (Looks v ws fit is saw) = (row_fair c seat (Store cell x next) w v ws fit is).0.0

  pub exchanges_no_carry : (c : ℕ) (seat : Seat) (cell : Cell) (old new : Content) (next : Then) → Within s code root input state h forked taken l t run c seat (Exchange cell old new next) → IsNoCarry cell
  exchanges_no_carry c seat cell old new next w = (changing c seat cell old new next w).2

  pub stores_no_carry : (c : ℕ) (seat : Seat) (cell : Cell) (x : Content) (next : Then) → Within s code root input state h forked taken l t run c seat (Store cell x next) → IsNoCarry cell
  stores_no_carry c seat cell x next w = by w.seen
    where
      by : HasSeen s (spots.with_restarts (spots.view s state.words) (spots.kinds s state.words) (spots.bottoms s state.words)) seat (Store cell x next) → IsNoCarry cell
      by (Strand is quiet) = quiet_carry cell quiet.0
      by (Looks v ws fit is saw) = (row_fair c seat (Store cell x next) w v ws fit is).0.1

  pub stores_no_entry : (c : ℕ) (seat : Seat) (cell : Cell) (x : Content) (next : Then) → Within s code root input state h forked taken l t run c seat (Store cell x next) → IsNoEntry cell
  stores_no_entry c seat cell x next w = by w.seen
    where
      by : HasSeen s (spots.with_restarts (spots.view s state.words) (spots.kinds s state.words) (spots.bottoms s state.words)) seat (Store cell x next) → IsNoEntry cell
      by (Strand is quiet) = quiet_entry cell quiet.0
      by (Looks v ws fit is saw) = (row_fair c seat (Store cell x next) w v ws fit is).0.2

  -- a place that a processor carries is not followed, and its entries are as they would be
  pub open_ : (c p : ℕ) → Carried s (spots.view s state.words) c p → Closed s.takeover (spots.view s state.words) p → ⊥
  open_ c p carried = shut_not s.takeover (spots.view s state.words) c p carried.home carried.lives.alive

  pub not_followed : (c p : ℕ) → Carried s (spots.view s state.words) c p → run.lawful.1.board.gone p ≡ false
  not_followed c p carried = here_gone run.lawful.1.board p (open_ c p carried)

  -- a place that pushes has the branch
  pub pushing_home : (p r : ℕ) → run.lawful.1.board.gone p ≡ false → (left (setting s code) l (places_of s state)).kind p ≡ Push1 r → h r ≡ Pushing p
  pushing_home p r stays e =
      let kind : spots.kinds s state.words p ≡ Push1 r = sym (kinds_same s state.words p) ∙ sym (kind_away l (places_of s state).kind p (away l run.lawful.1.board.gone p run.gone stays)) ∙ e in
      run.lawful.1.board.board.only (Pushing p) r tt stays (subst (λ (k : RestartKind). Pushes k (run.lawful.1.board.ghost (Slot p (spots.bottoms s state.words p))) r) (sym kind) refl)

module _ (s : Shape) (code : CodeParts) (fair : IsFair code) (root : Tree (Frame FrameWord Point) Result) (input : Words) (state : RunState) (h : ℕ → Home) (forked taken : List ℕ) (l : List Followed) (t : Skeleton) (run : IsHalves s code root input state h forked taken l t)
    (joint : AreJoint s code state h l t) where
  abbrev i : Setting
  i = setting s code

  abbrev z : State
  z = left i l (places_of s state)

  abbrev law : IsKept i root input z t
  law = run.kept

  abbrev fate : ℕ → Fate
  fate = λ r. fate_of (h r)

  -- the place whose pool has a block runs, so it may open that
  abbrev pub Opening : ℕ → Type 0
  Opening r = (f : ℕ) × (y : ℕ) × (z.kind (owner i r) ≡ Run f y)

  -- what a step is to show: the fates agree; one that is held and pushed is of a place that can't push; none is
  -- new but an unborn one of which O says so, none is newly held but by a place at its last slot, and an unborn
  -- one stays
  pub record AgreeBy (O : ℕ → Type 0) (u : Skeleton) (g : ℕ → Home) : Type 0 where
    pub agrees : Agrees u (λ r. fate_of (g r))
    pub last : (r q : ℕ) → HasUnrun Held r u → g r ≡ Pushing q → IsCapped s.takeover s state.words q
    pub fresh : (r : ℕ) → HasUnrun Fresh r u → HasUnrun Fresh r t ⊎ ((g r ≡ Unborn) × O r)
    pub held : (r : ℕ) → HasUnrun Held r u → HasUnrun Held r t ⊎ ((q : ℕ) × (h r ≡ Pushing q) × IsAtLast s state.words q)
    pub stays : (r : ℕ) → h r ≡ Unborn → HasUnrun Fresh r t → HasUnrun Fresh r u

  -- where none is new, and where one may be
  abbrev pub Agree : Skeleton → (ℕ → Home) → Type 0
  Agree u g = AgreeBy (λ r. ⊥) u g

  abbrev pub AgreeOn : Skeleton → (ℕ → Home) → Type 0
  AgreeOn u g = AgreeBy Opening u g

  pub agree_on : (u : Skeleton) (g : ℕ → Home) → Agree u g → AgreeOn u g
  agree_on u g a = record {
    agrees = a.agrees;
    last = a.last;
    fresh = λ r f. elim (a.fresh r f) [ inl was ↦ inl was | inr new ↦ absurd new.1 ];
    held = a.held;
    stays = a.stays;
  }

  -- by the forks that a step opens: none, or one, of a block that was not forked before
  abbrev pub Opened : ℕ → Skeleton → (ℕ → Home) → Type 0
  Opened n u g = (Agree u g × (n ≡ 0)) ⊎ ((r : ℕ) × (h r ≡ Unborn) × OneChanges r IsNone (Is Fresh) t u × AgreeOn u g × (n ≡ 1))

  pub on_opened : (n : ℕ) (u : Skeleton) (g : ℕ → Home) → Opened n u g → AgreeOn u g
  on_opened n u g (inl a) = agree_on u g a.0
  on_opened n u g (inr a) = a.3

  -- a place at its last slot can't push, and above one that can't nothing is
  capped_by : (how : Takeover) (p : ℕ) → IsAtLast s state.words p → IsCapped how s state.words p
  capped_by ByPlaces p a = a
  capped_by ByEntries p a = last_empty s code state.words p (spots.bottoms s state.words p + 1) a

  capped_empty : (how : Takeover) (p : ℕ) → IsCapped how s state.words p → IsEmpty (spots.view s state.words (Slot p (spots.bottoms s state.words p + 1)))
  capped_empty ByPlaces p a = last_empty s code state.words p (spots.bottoms s state.words p + 1) a
  capped_empty ByEntries p a = a

  pub here : Agree t h
  here = record { agrees = joint.agrees; last = joint.last; fresh = λ r f. inl f; held = λ r f. inl f; stays = λ r e f. f }

  stay : (u : Skeleton) (r : ℕ) → FatesStay t u fate r
  stay u r = fates_stay t u fate r law.apart joint.agrees

  pub unruns : (p : ℕ) → UnrunsStay i z t p
  unruns p = unruns_stay i fair root input z t law p

  pub same : (u : Skeleton) → SameUnruns t u → Agree u h
  same u e = record {
    agrees = (stay u 0).same e;
    last = λ r q held home. joint.last r q (e.back Held tt r held) home;
    fresh = λ r f. inl (e.back Fresh tt r f);
    held = λ r f. inl (e.back Held tt r f);
    stays = λ r un f. e.on Fresh tt r f;
  }

  -- a home that is moved
  fates_moved : (u : Skeleton) (r : ℕ) (x : Home) → Agrees u (kept.put fate r (fate_of x)) → Agrees u (λ q. fate_of (put h r x q))
  fates_moved u r x a = subst (Agrees u) (fun_ext each) a
    where
      each : (q : ℕ) → kept.put fate r (fate_of x) q ≡ fate_of (put h r x q)
      each q = elim (cases_eq q r) [
        | inl e ↦ ap (kept.put fate r (fate_of x)) e ∙ kept_puts.put_here fate r (fate_of x) ∙ sym (ap fate_of (ap (put h r x) e ∙ put_here h r x))
        | inr ne ↦ kept_puts.put_else fate r (fate_of x) q ne ∙ sym (ap fate_of (put_else h r x q ne))
      ]

  -- in the same tree
  moved_here : (r : ℕ) (x : Home) → ((q : ℕ) → x ≡ Pushing q → HasUnrun Held r t → ⊥) → Agrees t (λ q. fate_of (put h r x q)) → Agree t (put h r x)
  moved_here r x none a = record {
    agrees = a;
    last = λ y q held home. elim (cases_eq y r) [
      | inl e ↦ absurd (none q (sym (ap (put h r x) e ∙ put_here h r x) ∙ home) (subst (λ (n : ℕ). HasUnrun Held n t) e held))
      | inr ne ↦ joint.last y q held (sym (put_else h r x y ne) ∙ home)
    ];
    fresh = λ y f. inl f;
    held = λ y f. inl f;
    stays = λ y e f. f;
  }

  -- and in one in which the branch has changed
  moved : (u : Skeleton) (r : ℕ) (x : Home) (was now : Who → Type 0) → ((q : ℕ) → x ≢ Pushing q) → (now Fresh → ⊥) → (now Held → ⊥) → (h r ≡ Unborn → was Fresh → ⊥) → OneChanges r was now t u → Agrees u (kept.put fate r (fate_of x)) → Agree u (put h r x)
  moved u r x was now none old no_held born one a = record {
    agrees = fates_moved u r x a;
    last = λ y q held home. elim (cases_eq y r) [
      | inl e ↦ absurd (none q (sym (ap (put h r x) e ∙ put_here h r x) ∙ home))
      | inr ne ↦ joint.last y q ((one.others Held tt y ne).1 held) (sym (put_else h r x y ne) ∙ home)
    ];
    fresh = λ y f. elim (cases_eq y r) [
      | inl e ↦ absurd (old ((one.new Fresh tt).0 (subst (λ (n : ℕ). HasUnrun Fresh n u) e f)))
      | inr ne ↦ inl ((one.others Fresh tt y ne).1 f)
    ];
    held = λ y f. elim (cases_eq y r) [
      | inl e ↦ absurd (no_held ((one.new Held tt).0 (subst (λ (n : ℕ). HasUnrun Held n u) e f)))
      | inr ne ↦ inl ((one.others Held tt y ne).1 f)
    ];
    stays = λ y un f. elim (cases_eq y r) [
      | inl e ↦ absurd (born (ap h (sym e) ∙ un) ((one.old Fresh tt).0 (subst (λ (n : ℕ). HasUnrun Fresh n t) e f)))
      | inr ne ↦ (one.others Fresh tt y ne).0 f
    ];
  }

  -- one is held now
  held_now : (u : Skeleton) (r p : ℕ) → OneChanges r (Is Fresh) (Is Held) t u → h r ≡ Pushing p → IsAtLast s state.words p → Agree u h
  held_now u r p one home at = record {
    agrees = (stay u r).holds one (ap fate_of home);
    last = λ y q held is. elim (cases_eq y r) [
      | inl e ↦ let same_place : Pushing p ≡ Pushing q = sym home ∙ ap h (sym e) ∙ is in subst (IsCapped s.takeover s state.words) (pushing_place same_place) (capped_by s.takeover p at)
      | inr ne ↦ joint.last y q ((one.others Held tt y ne).1 held) is
    ];
    fresh = λ y f. elim (cases_eq y r) [
      | inl e ↦ absurd (let k : Held ≡ Fresh = (one.new Fresh tt).0 (subst (λ (n : ℕ). HasUnrun Fresh n u) e f) in cc)
      | inr ne ↦ inl ((one.others Fresh tt y ne).1 f)
    ];
    held = λ y f. elim (cases_eq y r) [
      | inl e ↦ inr (p, ap h e ∙ home, at)
      | inr ne ↦ inl ((one.others Held tt y ne).1 f)
    ];
    stays = λ y un f. elim (cases_eq y r) [
      | inl e ↦ absurd (let k : Unborn ≡ Pushing p = sym un ∙ ap h e ∙ home in cc)
      | inr ne ↦ (one.others Fresh tt y ne).0 f
    ];
  }

  -- one is opened
  opened_now : (u : Skeleton) (r : ℕ) → OneChanges r IsNone (Is Fresh) t u → h r ≡ Unborn → Opening r → AgreeOn u h
  opened_now u r one home opening = record {
    agrees = (stay u r).opens one (ap fate_of home);
    last = λ y q held is. elim (cases_eq y r) [
      | inl e ↦ absurd (let k : Unborn ≡ Pushing q = sym home ∙ ap h (sym e) ∙ is in cc)
      | inr ne ↦ joint.last y q ((one.others Held tt y ne).1 held) is
    ];
    fresh = λ y f. elim (cases_eq y r) [
      | inl e ↦ inr (ap h e ∙ home, subst Opening (sym e) opening)
      | inr ne ↦ inl ((one.others Fresh tt y ne).1 f)
    ];
    held = λ y f. elim (cases_eq y r) [
      | inl e ↦ absurd (let k : Fresh ≡ Held = (one.new Held tt).0 (subst (λ (n : ℕ). HasUnrun Held n u) e f) in cc)
      | inr ne ↦ inl ((one.others Held tt y ne).1 f)
    ];
    stays = λ y un f. elim (cases_eq y r) [
      | inl e ↦ absurd ((one.old Fresh tt).0 (subst (λ (n : ℕ). HasUnrun Fresh n t) e f))
      | inr ne ↦ (one.others Fresh tt y ne).0 f
    ];
  }

  -- of which nothing new has come
  still : (r : ℕ) (x : Home) → ((q : ℕ) → x ≢ Pushing q) → fate_of x ≡ fate r → Agree t (put h r x)
  still r x none e = moved_here r x (λ q k held. none q k) (subst (Agrees t) (fun_ext each) joint.agrees)
    where
      each : (q : ℕ) → fate q ≡ fate_of (put h r x q)
      each q = elim (cases_eq q r) [
        | inl k ↦ ap fate k ∙ sym e ∙ sym (ap fate_of (ap (put h r x) k ∙ put_here h r x))
        | inr ne ↦ sym (ap fate_of (put_else h r x q ne))
      ]

  -- an entry of a deque, by its word
  pub entry_shown : (v j : ℕ) (e : Entry) → is_there s (EntryWord v j) ≡ true → IsEntry e → read s state.words (EntryWord v j) ≡ word_of (AnEntry e) → spots.view s state.words (Slot v j) ≡ spots.word_as (AnEntry e)
  entry_shown v j e there fit is = shows s state.words (Slot v j) there ∙ ap (λ (n : ℕ). spots.word_as (content_of AsEntry n)) is ∙ ap spots.word_as (again (AnEntry e) tt fit)

  job_offered : (v j t0 x : ℕ) → is_there s (EntryWord v j) ≡ true → IsEntry (entries.Job t0 x) → read s state.words (EntryWord v j) ≡ word_of (AnEntry (entries.Job t0 x)) → fate x ≡ fates.Offered
  job_offered v j t0 x there fit is =
      let shown : spots.view s state.words (Slot v j) ≡ Job t0 x = entry_shown v j (entries.Job t0 x) there fit is in
      ap fate_of (run.lawful.1.board.board.only (Listed v j t0) x tt tt (as_shown (run.lawful.1.board.covers.slots v j) (λ d. subst IsClaim shown d) ∙ shown))

  -- an exchange of an entry that makes no job: a job stays offered
  abbrev Made : Cell → Content → Type 0
  Made cell old = (v j t0 x : ℕ) → cell ≡ EntryWord v j → old ≡ AnEntry (entries.Job t0 x) → fate x ≡ fates.Offered

  entry_made : (may : May) (none : (x : ℕ) → may.jobs x → ⊥) (p v j : ℕ) (old new : Content) → Made (EntryWord v j) old → TameTrade s.takeover may (EntryWord v j) new → Agree t (by_words p (spots.spot (spots.reading_by new) (EntryWord v j)) (spots.word_as old) (spots.word_as new) h)
  entry_made may none p v j old (AnEntry (entries.Job t0 x)) made nj = absurd (none x nj)
  entry_made may none p v j (AnEntry (entries.Job t1 y)) (AnEntry (entries.Taken t0 x)) made nj = still y (Stolen p) (λ q e. cc) (sym (made v j t1 y refl refl))
  entry_made may none p v j (AnEntry (entries.Job t1 y)) (AnEntry (entries.Local t0 x)) made nj = still y (Popping p) (λ q e. cc) (sym (made v j t1 y refl refl))
  entry_made may none p v j _ _ made nj = here

  entry_or : (c : Cell) → ((a : ℕ) × (j : ℕ) × (c ≡ EntryWord a j)) ⊎ IsNoEntry c
  entry_or (EntryWord a j) = inl (a, j, refl)
  entry_or _ = inr tt

  abbrev In : (own p b : ℕ) → RestartKind → ℕ → Row → Type 0
  In own p b k c row = Within s code root input state h forked taken l t run c (kind_seat own p k b) row

  -- an exchange that makes no job
  trade_agree : (may : May) (none : (x : ℕ) → may.jobs x → ⊥) (own p b : ℕ) (k : RestartKind) (c : ℕ) (cell : Cell) (old new : Content) (next : Then) → In own p b k c (Exchange cell old new next) → TameTrade s.takeover may cell new → Agree t (by_row s state.words (kind_seat own p k b) (Exchange cell old new next) h)
  trade_agree may none own p b k c cell old new next w nj = by (read s state.words cell == word_of old) refl
    where
      done : read s state.words cell ≡ word_of old → ((a : ℕ) × (j : ℕ) × (cell ≡ EntryWord a j)) ⊎ IsNoEntry cell → Agree t (by_words p (spots.spot (spots.reading_by new) cell) (spots.word_as old) (spots.word_as new) h)
      done e (inr free) = subst (Agree t) (sym (unmoved p (spots.spot (spots.reading_by new) cell) (spots.word_as old) (spots.word_as new) h (no_slot (spots.reading_by new) cell free))) here
      done e (inl at) =
          let change = subst (λ (x : Cell). MayChange s.takeover x old new) at.2 (changes s code root input state h forked taken l t run c (kind_seat own p k b) cell old new next w) in
          let here = subst (λ (x : Cell). is_there s x ≡ true) at.2 w.here in
          let is = subst (λ (x : Cell). read s state.words x ≡ word_of old) at.2 e in
          subst (λ (x : Cell). Agree t (by_words p (spots.spot (spots.reading_by new) x) (spots.word_as old) (spots.word_as new) h)) (sym at.2)
          (entry_made may none p at.0 at.1 old new (λ v j t0 x ce oe.
          let two : EntryWord at.0 at.1 ≡ EntryWord v j = ce in
          job_offered v j t0 x (subst (λ (x : Cell). is_there s x ≡ true) two here)
          (changed_fit s.takeover v j (entries.Job t0 x) new (subst₂ (λ (x : Cell) (y : Content). MayChange s.takeover x y new) two oe change))
          (subst₂ (λ (x : Cell) (y : Content). read s state.words x ≡ word_of y) two oe is))
          (subst (λ (x : Cell). TameTrade s.takeover may x new) at.2 nj))

      by : (y : Bool) → (read s state.words cell == word_of old) ≡ y → Agree t (if y then by_words p (spots.spot (spots.reading_by new) cell) (spots.word_as old) (spots.word_as new) h else h)
      by true e = done (eqb-true (read s state.words cell) (word_of old) e) (entry_or cell)
      by false e = here

  -- and of a cell that is no entry
  trade_same : (own p b : ℕ) (k : RestartKind) (cell : Cell) (old new : Content) (next : Then) → IsNoEntry cell → by_row s state.words (kind_seat own p k b) (Exchange cell old new next) h ≡ h
  trade_same own p b k cell old new next free = by (read s state.words cell == word_of old)
    where
      by : (y : Bool) → (if y then by_words p (spots.spot (spots.reading_by new) cell) (spots.word_as old) (spots.word_as new) h else h) ≡ h
      by true = unmoved p (spots.spot (spots.reading_by new) cell) (spots.word_as old) (spots.word_as new) h (no_slot (spots.reading_by new) cell free)
      by false = refl

  absurd_job : (x : ℕ) → ⊥ → ⊥
  absurd_job x e = e

  -- where a row ends without a fork or a begin
  end_same : (own p b : ℕ) (k : RestartKind) (next : Then) → ((re : Restart) → home_install p k re.kind h ≡ h) → TameThen s.takeover calm next → by_row s state.words (kind_seat own p k b) (Now next) h ≡ h
  end_same own p b k (Load x) f q = refl
  end_same own p b k (Install re) f q = f re
  end_same own p b k (Fork x) f q = absurd q
  end_same own p b k (Begin x g y) f q = absurd q
  end_same own p b k (Move x) f q = refl
  end_same own p b k (Enter x) f q = refl
  end_same own p b k Again f q = refl
  end_same own p b k Broken f q = refl

  abbrev Goal : (own p b : ℕ) → RestartKind → Row → Type 0
  Goal own p b k row = Agree (tree_with i z.words state.words (IsWithin (kind_seat own p k b) row) t) (by_row s state.words (kind_seat own p k b) row h)

  abbrev At : (own p b : ℕ) → RestartKind → ℕ → Row → Type 0
  At own p b k c row = stand_of state c ≡ IsWithin (kind_seat own p k b) row

  with_homes : (u : Skeleton) (g : ℕ → Home) → g ≡ h → Agree u h → Agree u g
  with_homes u g e a = subst (Agree u) (sym e) a

  run_row : (own p b f y c : ℕ) (row : Row) → In own p b (Run f y) c row → Goal own p b (Run f y) row
  run_row own p b f y c row w = subst (Goal own p b (Run f y)) (sym w.does) here

  -- no fork was made before
  unborn : (c : ℕ) (seat : Seat) (x : ℕ) → stand_of state c ≡ IsWithin seat (Now (Fork x)) → h x ≡ Unborn
  unborn c seat x e = elim (home_or (h x)) [
    | inl is ↦ is
    | inr ne ↦ absurd (let a = sym (run.lawful.1.counts.listed x ne) ∙ forks_new s code fair root input state h forked taken l t run joint.agrees c seat x e in cc)
  ]

  unborn_held : (x : ℕ) → h x ≡ Unborn → HasUnrun Held x t → ⊥
  unborn_held x e held = elim (joint.agrees.held x held) [
    | inl k ↦ let y : fates.Unborn ≡ fates.ToPush = sym (ap fate_of e) ∙ k in cc
    | inr k ↦ let y : fates.Unborn ≡ fates.Inline = sym (ap fate_of e) ∙ k in cc
  ]

  bump_row : (own p b r c : ℕ) (row : Row) → At own p b (Bump r) c row → In own p b (Bump r) c row → Goal own p b (Bump r) row
  bump_row own p b r c row e w = by row e w (reached s code fair root input state h forked taken l t run joint.agrees (calm_forks r) (seat_at p (Bump r) w.does.0) w.does.1 (row_of s (seat_at p (Bump r) w.does.0) (Bump r)) row refl w.does.2)
    where
      by : (row : Row) → At own p b (Bump r) c row → In own p b (Bump r) c row → TameRow s.takeover (calm_forks r) row → Goal own p b (Bump r) row
      by (Now (Fork x)) e w q = moved_here x (Pushing p) (λ q k held. unborn_held x (unborn c (kind_seat own p (Bump r) b) x e) held)
          (fates_moved t x (Pushing p) ((stay t x).forks ((fates_show i fair root input z t law fate joint.agrees).forks p r x w.kind w.doing) (ap fate_of (unborn c (kind_seat own p (Bump r) b) x e))))
      by (Now (Begin x f y)) e w q = absurd q
      by (Now (Load x)) e w q = here
      by (Now (Install x)) e w q = here
      by (Now (Move x)) e w q = here
      by (Now (Enter x)) e w q = here
      by (Now Again) e w q = here
      by (Now Broken) e w q = here
      by (Store cell content next) e w q = here
      by (Exchange cell old new next) e w q = absurd (bump_exchanges_none i fair root input z t law p w.place r w.kind cell old new next w.doing)

  unwind_row : (own p b f c : ℕ) (row : Row) → In own p b (Unwind f) c row → Goal own p b (Unwind f) row
  unwind_row own p b f c row w = by row w (reached s code fair root input state h forked taken l t run joint.agrees calm (seat_at p (Unwind f) w.does.0) w.does.1 (row_of s (seat_at p (Unwind f) w.does.0) (Unwind f)) row (λ a. tt) w.does.2)
    where
      by : (row : Row) → In own p b (Unwind f) c row → TameRow s.takeover calm row → Goal own p b (Unwind f) row
      by (Now next) w q = with_homes (by_unwind p (kind_then next) t) _ (end_same own p b (Unwind f) next (λ re. refl) q) (same (by_unwind p (kind_then next) t) ((unruns p).unwinds (kind_then next)))
      by (Store cell content next) w q = here
      by (Exchange cell old new next) w q = with_homes t _ (trade_same own p b (Unwind f) cell old new next (framed s cell ((unwind_row_keeps i fair root input z t law p w.place f w.kind).exchange_cells cell old new next w.doing))) here

  arrive_row : (own p b r : ℕ) (d : Side) (c : ℕ) (row : Row) → In own p b (Arrive r d) c row → Goal own p b (Arrive r d) row
  arrive_row own p b r d c row w = by row w (reached s code fair root input state h forked taken l t run joint.agrees calm (seat_at p (Arrive r d) w.does.0) w.does.1 (row_of s (seat_at p (Arrive r d) w.does.0) (Arrive r d)) row (tt, tt, tt) w.does.2)
    where
      by : (row : Row) → In own p b (Arrive r d) c row → TameRow s.takeover calm row → Goal own p b (Arrive r d) row
      by (Now next) w q = with_homes t _ (end_same own p b (Arrive r d) next (λ re. refl) q) here
      by (Store cell content next) w q = here
      by (Exchange cell old new next) w q = with_homes (by_arrive z.words p r t) _ (trade_same own p b (Arrive r d) cell old new next (framed s cell ((arrive_row_keeps i fair root input z t law p w.place r d w.kind).cells cell old new next w.doing))) (same (by_arrive z.words p r t) ((unruns p).arrives r))

  join_row : (own p b r : ℕ) (d : Side) (c : ℕ) (row : Row) → In own p b (Join r d) c row → Goal own p b (Join r d) row
  join_row own p b r d c row w = by row w (elim w.does [
    | inl u ↦ reached s code fair root input state h forked taken l t run joint.agrees calm_begins (seat_at p (Join r d) u.0) u.1 (row_of s (seat_at p (Join r d) u.0) (Join r d)) row (tt, λ a. tt) u.2
    | inr g ↦ subst (TameRow s.takeover calm_begins) (sym g.is) tt
  ])
    where
      by : (row : Row) → In own p b (Join r d) c row → TameRow s.takeover calm_begins row → Goal own p b (Join r d) row
      by (Now (Fork x)) w q = absurd q
      by (Now (Begin x f y)) w q =
          let a = (unruns p).begins r d x f y w.kind w.doing in
          let u = by_join p (Begin x f y) t in
          moved u x Begun (Is Held) IsNone (λ q e. cc) (λ e. e) (λ e. e) (λ un e. let k : Held ≡ Fresh = e in cc) (subst (λ (n : ℕ). OneChanges n (Is Held) IsNone t u) (sym a.0) a.2) (subst (λ (n : ℕ). Agrees u (kept.put fate n fates.Begun)) (sym a.0) ((stay u r).goes_on a.2))
      by (Now (Install re)) w q = same (by_join p (Install re) t) ((unruns p).joins r d re w.kind w.doing)
      by (Now (Load x)) w q = here
      by (Now (Move x)) w q = here
      by (Now (Enter x)) w q = here
      by (Now Again) w q = here
      by (Now Broken) w q = here
      by (Store cell content next) w q = here
      by (Exchange cell old new next) w q = absurd ((join_row_keeps i fair root input z t law p w.place r d w.kind).exchanges_none cell old new next w.doing)

  pub not_both : (r : ℕ) → HasUnrun Fresh r t → HasUnrun Held r t → ⊥
  not_both r fresh held = let e = (fates_show i fair root input z t law fate joint.agrees).once r Fresh Held fresh held in cc

  store_last : (own p b r c : ℕ) (cell : Cell) (content : Content) (next : Then) → In own p b (Push1 r) c (Store cell content next) → IsAtLast s state.words p
  store_last own p b r c cell content next w = elim (push1_shape s own p b r (Store cell content next) _ w.seen) [
    | inl a ↦ ap (λ (n : ℕ). n + 1) w.sits.at.bottom ∙ a.0
    | inr a ↦ absurd a.1
  ]

  -- what Push2 installs runs a frame
  push2_install : (own p b r c : ℕ) (re : Restart) → In own p b (Push2 r) c (Now (Install re)) → IsRunKind re.kind
  push2_install own p b r c re w = by w.seen
    where
      by : HasSeen s (spots.with_restarts (spots.view s state.words) (spots.kinds s state.words) (spots.bottoms s state.words)) (kind_seat own p (Push2 r) b) (Now (Install re)) → IsRunKind re.kind
      by (Strand is quiet) = absurd is
      by (Looks v ws fit is saw) = subst (PushesSo p b r) is (push2_so s (kind_seat own p (Push2 r) b) v r ws)

  push1_row : (own p b r c : ℕ) (row : Row) → In own p b (Push1 r) c row → Goal own p b (Push1 r) row
  push1_row own p b r c row w = by row w (looked s code fair root input state h forked taken l t run joint.agrees calm c (kind_seat own p (Push1 r) b) row (Push1 r) tt refl (push_row s code fair root input state h forked taken l t run joint.agrees calm (kind_seat own p (Push1 r) b) r tt tt) w)
    where
      install : (k : RestartKind) (low : ℕ) → In own p b (Push1 r) c (Now (Install (record { kind = k; bottom = low }))) → Agree t (home_install p (Push1 r) k h)
      install (Run f y) low w = moved_here r Inline (λ q e held. cc) (fates_moved t r Inline ((stay t r).leaves (joint.ready p r f y low w.kind w.doing)))
      install _ low w = here

      by : (row : Row) → In own p b (Push1 r) c row → TameRow s.takeover calm row → Goal own p b (Push1 r) row
      by (Now (Fork x)) w q = absurd q
      by (Now (Begin x f y)) w q = absurd q
      by (Now (Install re)) w q = install re.kind re.bottom w
      by (Now (Load x)) w q = here
      by (Now (Move x)) w q = here
      by (Now (Enter x)) w q = here
      by (Now Again) w q = here
      by (Now Broken) w q = here
      by (Store cell content next) w q =
          let pushing : h r ≡ Pushing p = pushing_home s code root input state h forked taken l t run p r (not_followed s code root input state h forked taken l t run c p w.sits.carried) w.kind in
          let u = over_left p (pushed Held) t in
          elim (joint.agrees.to_push r (ap fate_of pushing)) [
            | inl fresh ↦ held_now u r p ((unruns p).pushes r Held tt (inl w.kind) fresh) pushing (store_last own p b r c cell content next w)
            | inr held ↦ subst (λ (v : Skeleton). Agree v h) (sym ((unruns p).pushed_before r Held (inl w.kind) (λ fresh. not_both r fresh held))) here
          ]
      by (Exchange cell old new next) w q = trade_agree calm absurd_job own p b (Push1 r) c cell old new next w q.0

  abbrev pub low_of : ℕ → ℕ
  low_of p = spots.bottoms s state.words p

  -- at Push2 the entry above is local, so a place that can't push is not there
  not_capped : (c p r : ℕ) → Carried s (spots.view s state.words) c p → spots.kinds s state.words p ≡ Push2 r → IsCapped s.takeover s state.words p → ⊥
  not_capped c p r carried ke cap =
      let estate = run.lawful.1.board in
      let high = (subst (λ (k : RestartKind). AtBottom k (estate.ghost (Slot p ((low_of p) - 1))) (estate.ghost (Slot p (low_of p))) (estate.ghost (Slot p ((low_of p) + 1)))) ke (estate.board.deque p).here).2 in
      empty_local (spots.view s state.words (Slot p ((low_of p) + 1))) (capped_empty s.takeover p cap)
      (subst IsLocal (own_entry estate p ((low_of p) + 1) (open_ s code root input state h forked taken l t run c p carried)) high)

  offers_of : (own p b r c : ℕ) (cell : Cell) (old new : Content) (next : Then) → In own p b (Push2 r) c (Exchange cell old new next) → Offers p b r cell old new
  offers_of own p b r c cell old new next w = by w.seen
    where
      by : HasSeen s (spots.with_restarts (spots.view s state.words) (spots.kinds s state.words) (spots.bottoms s state.words)) (kind_seat own p (Push2 r) b) (Exchange cell old new next) → Offers p b r cell old new
      by (Strand is quiet) = absurd is
      by (Looks v ws fit is saw) = subst (PushesSo p b r) is (push2_so s (kind_seat own p (Push2 r) b) v r ws)

  push2_trade : (own p b r c : ℕ) (cell : Cell) (old new : Content) (next : Then) → In own p b (Push2 r) c (Exchange cell old new next) → Goal own p b (Push2 r) (Exchange cell old new next)
  push2_trade own p b r c cell old new next w = by (read s state.words cell == word_of old) refl
    where
      made : read s state.words cell ≡ word_of old → Offers p b r cell old new → Agree (over_left p (pushed Waiting) t) (by_words p (spots.spot (spots.reading_by new) cell) (spots.word_as old) (spots.word_as new) h)
      made e o =
          let change = subst₂ (λ (x : Cell) (y : Content). MayChange s.takeover x y new) o.at o.was (changes s code root input state h forked taken l t run c (kind_seat own p (Push2 r) b) cell old new next w) in
          let here = subst (λ (x : Cell). is_there s x ≡ true) o.at w.here in
          let is = subst₂ (λ (x : Cell) (y : Content). read s state.words x ≡ word_of y) o.at o.was e in
          let shown = entry_shown p b (entries.Local o.tag o.low) here (changed_fit s.takeover p b (entries.Local o.tag o.low) new change) is in
          let low = spots.bottoms s state.words p in
          let local : IsLocal (run.lawful.1.board.ghost (Slot p low)) = subst IsLocal (sym (own_entry run.lawful.1.board p low (open_ s code root input state h forked taken l t run c p w.sits.carried) ∙ ap (λ (n : ℕ). spots.view s state.words (Slot p n)) w.sits.at.bottom ∙ shown)) tt in
          let home : h r ≡ Pushing p = run.lawful.1.board.board.only (Pushing p) r tt (not_followed s code root input state h forked taken l t run c p w.sits.carried)
          (subst (λ (k : RestartKind). Pushes k (run.lawful.1.board.ghost (Slot p low)) r) (sym w.sits.at.kind) (refl, local)) in
          let fresh : HasUnrun Fresh r t = elim (joint.agrees.to_push r (ap fate_of home)) [
            | inl f ↦ f
            | inr held ↦ absurd (not_capped c p r w.sits.carried w.sits.at.kind (joint.last r p held home))
          ] in
          let same_homes : by_words p (spots.spot (spots.reading_by new) cell) (spots.word_as old) (spots.word_as new) h ≡ put h r (Listed p b (o.tag + 1)) =
          ap (λ (x : Content). by_words p (spots.spot (spots.reading_by x) cell) (spots.word_as old) (spots.word_as x) h) o.makes
          ∙ ap (λ (x : Cell). by_words p (spots.spot AsEntry x) (spots.word_as old) (Job (o.tag + 1) r) h) o.at in
          subst (Agree (over_left p (pushed Waiting) t)) (sym same_homes) (moved (over_left p (pushed Waiting) t) r (Listed p b (o.tag + 1)) (Is Fresh) (Is Waiting) (λ q e. cc) (λ e. cc) (λ e. let k : Waiting ≡ Held = e in cc) (λ un e. let k : Unborn ≡ Pushing p = sym un ∙ home in cc) ((unruns p).pushes r Waiting tt (inr w.kind) fresh) ((stay (over_left p (pushed Waiting) t) r).offers ((unruns p).pushes r Waiting tt (inr w.kind) fresh)))

      by : (y : Bool) → (read s state.words cell == word_of old) ≡ y → Agree (by_exchange z.words p (Push2 r) y t) (if y then by_words p (spots.spot (spots.reading_by new) cell) (spots.word_as old) (spots.word_as new) h else h)
      by true e = made (eqb-true (read s state.words cell) (word_of old) e) (offers_of own p b r c cell old new next w)
      by false e = here

  push2_row : (own p b r c : ℕ) (row : Row) → In own p b (Push2 r) c row → Goal own p b (Push2 r) row
  push2_row own p b r c row w = by row w (looked s code fair root input state h forked taken l t run joint.agrees (calm_jobs r) c (kind_seat own p (Push2 r) b) row (Push2 r) tt refl refl w)
    where
      by : (row : Row) → In own p b (Push2 r) c row → TameRow s.takeover (calm_jobs r) row → Goal own p b (Push2 r) row
      by (Now (Fork x)) w q = absurd q
      by (Now (Begin x f y)) w q = absurd q
      by (Now (Install re)) w q = here
      by (Now (Load x)) w q = here
      by (Now (Move x)) w q = here
      by (Now (Enter x)) w q = here
      by (Now Again) w q = here
      by (Now Broken) w q = here
      by (Store cell content next) w q = here
      by (Exchange cell old new next) w q = push2_trade own p b r c cell old new next w

  -- kinds that only look for work
  plain_row : (own p b : ℕ) (k : RestartKind) (c : ℕ) (row : Row) → In own p b k c row → TameRow s.takeover calm row → by_store p k t ≡ t → ((y : Bool) → by_exchange z.words p k y t ≡ t) → ((next : Then) → by_end p k next t ≡ t) → ((re : Restart) → home_install p k re.kind h ≡ h)
      → Goal own p b k row
  plain_row own p b k c (Now next) w q st ex en inst = subst (λ (u : Skeleton). Agree u (by_row s state.words (kind_seat own p k b) (Now next) h)) (sym (en next)) (with_homes t _ (end_same own p b k next inst q) here)
  plain_row own p b k c (Store cell content next) w q st ex en inst = subst (λ (u : Skeleton). Agree u h) (sym st) here
  plain_row own p b k c (Exchange cell old new next) w q st ex en inst =
      subst (λ (u : Skeleton). Agree u (by_row s state.words (kind_seat own p k b) (Exchange cell old new next) h)) (sym (ex (read s state.words cell == word_of old))) (trade_agree calm absurd_job own p b k c cell old new next w q.0)

  take_begin : (p r f y : ℕ) → is_taker (z.kind p) ≡ true → z.doing p ≡ InRow (Now (Begin r f y)) → Agree (take_in r p t) (put h r Begun)
  take_begin p r f y taker doing = let one = (unruns p).takes r f (law.aims p r f y taker doing) in moved (take_in r p t) r Begun (Is Waiting) IsNone (λ q e. cc) (λ e. e) (λ e. e) (λ un e. let k : Waiting ≡ Fresh = e in cc) one ((stay (take_in r p t) r).takes one)

  pop2_row : (own p b q c : ℕ) (row : Row) → In own p b (Pop2 q) c row → Goal own p b (Pop2 q) row
  pop2_row own p b q c row w = by row w (looked s code fair root input state h forked taken l t run joint.agrees calm_begins c (kind_seat own p (Pop2 q) b) row (Pop2 q) tt refl tt w)
    where
      by : (row : Row) → In own p b (Pop2 q) c row → TameRow s.takeover calm_begins row → Goal own p b (Pop2 q) row
      by (Now (Fork x)) w l = absurd l
      by (Now (Begin x f y)) w l = take_begin p x f y (ap is_taker w.kind) w.doing
      by (Now (Install re)) w l = here
      by (Now (Load x)) w l = here
      by (Now (Move x)) w l = here
      by (Now (Enter x)) w l = here
      by (Now Again) w l = here
      by (Now Broken) w l = here
      by (Store cell content next) w l = here
      by (Exchange cell old new next) w l = trade_agree calm_begins absurd_job own p b (Pop2 q) c cell old new next w l.0

  -- by what a row goes on with that it inherited: with nothing
  abbrev pub Alone : RestartKind → Row → Type 0
  Alone k row = (s.takeover ≡ ByPlaces) ⊎ LooksOn k row

  not_entries : s.takeover ≡ ByPlaces → s.takeover ≡ ByEntries → ⊥
  not_entries places e = let x : ByPlaces ≡ ByEntries = sym places ∙ e in cc

  came_to : (own p b : ℕ) (k : RestartKind) (c : ℕ) (row : Row) → IsIdle k → In own p b k c row → LookRow s k row
  came_to own p b k c row idle w =
      let came = came_idle s (kind_seat own p k b) k row idle (came_from s (kind_seat own p k b) row _ w.here w.seen) in
      comes_look s (kind_seat own p k b) k came.0 (row_of s (kind_seat own p k b) k) row (look_begins s (kind_seat own p k b) k idle) came.1

  check_row : (own p b v y c : ℕ) (row : Row) → In own p b (Check v y) c row → Alone (Check v y) row → Goal own p b (Check v y) row
  check_row own p b v y c row w alone = by row w alone (looked s code fair root input state h forked taken l t run joint.agrees calm_checks c (kind_seat own p (Check v y) b) row (Check v y) tt refl (λ r. tt, inr (λ r. tt)) w)
    where
      idle_install : (k : RestartKind) → IsIdle k → home_install p (Check v y) k h ≡ h
      idle_install (Push1 r) idle = absurd idle
      idle_install _ idle = refl

      forks_none : (x : ℕ) → In own p b (Check v y) c (Now (Fork x)) → Alone (Check v y) (Now (Fork x)) → ⊥
      forks_none x w (inl places) = looked s code fair root input state h forked taken l t run joint.agrees calm_begins c (kind_seat own p (Check v y) b) (Now (Fork x)) (Check v y) tt refl (λ r. tt, inl places) w
      forks_none x w (inr on) = on

      by : (row : Row) → In own p b (Check v y) c row → Alone (Check v y) row → TameRow s.takeover calm_checks row → Goal own p b (Check v y) row
      by (Now (Fork x)) w alone q = absurd (forks_none x w alone)
      by (Now (Begin x f n)) w alone q = take_begin p x f n (ap is_taker w.kind) w.doing
      by (Now (Install re)) w alone q = elim (came_to own p b (Check v y) c (Now (Install re)) tt w) [
        | inl idle ↦ with_homes t _ (idle_install re.kind idle) here
        | inr follows ↦ elim alone [
          | inl places ↦ absurd (not_entries places follows.0)
          | inr on ↦ with_homes t _ (idle_install re.kind on) here
        ]
      ]
      by (Now (Load x)) w alone q = here
      by (Now (Move x)) w alone q = here
      by (Now (Enter x)) w alone q = here
      by (Now Again) w alone q = here
      by (Now Broken) w alone q = here
      by (Store cell content next) w alone q = here
      by (Exchange cell old new next) w alone q = trade_agree calm_checks absurd_job own p b (Check v y) c cell old new next w q.0

  -- an install leaves the bottom, or is of a kind that does not push
  abbrev pub Keeps : (b : ℕ) → Restart → Type 0
  Keeps b re = (re.bottom ≡ b) ⊎ (IsPush re.kind → ⊥)

  pub installs_low : (own p b : ℕ) (k : RestartKind) (c : ℕ) (re : Restart) → In own p b k c (Now (Install re)) → Alone k (Now (Install re)) → Keeps b re
  installs_low own p b k c re w alone = by k w alone w.seen
    where
      run_only : (k : RestartKind) → IsRunKind k → IsPush k → ⊥
      run_only (Run f y) a q = q
      run_only _ a q = a

      idle_only : (k : RestartKind) → IsIdle k → IsPush k → ⊥
      idle_only (Push1 r) a q = a
      idle_only (Push2 r) a q = a
      idle_only _ a q = q

      idle : (k : RestartKind) → IsIdle k → In own p b k c (Now (Install re)) → Alone k (Now (Install re)) → Keeps b re
      idle k is w alone = elim (came_to own p b k c (Now (Install re)) is w) [
        | inl a ↦ inr (idle_only re.kind a)
        | inr follows ↦ elim alone [
          | inl places ↦ absurd (not_entries places follows.0)
          | inr on ↦ inr (idle_only re.kind (looks_idle k re follows.1 on))
        ]
      ]

      quiet : (k : RestartKind) → IsStrand k → HasSeen s (spots.with_restarts (spots.view s state.words) (spots.kinds s state.words) (spots.bottoms s state.words)) (kind_seat own p k b) (Now (Install re)) → Keeps b re
      quiet k strand (Strand is q) = inl q.1
      quiet k strand (Looks v ws fit is saw) =
          let all = subst (IsQuiet (kind_seat own p k b)) is (rest_quiet (kind_seat own p k b) s v (row_of s (kind_seat own p k b) k) ws (begun_quiet (kind_seat own p k b) s k refl strand)) in
          inl all.1

      by : (k : RestartKind) → In own p b k c (Now (Install re)) → Alone k (Now (Install re)) → HasSeen s (spots.with_restarts (spots.view s state.words) (spots.kinds s state.words) (spots.bottoms s state.words)) (kind_seat own p k b) (Now (Install re)) → Keeps b re
      by (Push1 r) w alone seen = elim (push1_shape s own p b r (Now (Install re)) _ seen) [
        | inl a ↦ inr (run_only re.kind a.1)
        | inr a ↦ elim a.1 [ inl push ↦ inl push.1 | inr runs ↦ inr (run_only re.kind runs.1) ]
      ]
      by (Push2 r) w alone seen = inr (run_only re.kind (push2_install own p b r c re w))
      by Pop1 w alone seen = idle Pop1 tt w alone
      by (Pop2 q) w alone seen = idle (Pop2 q) tt w alone
      by Seek w alone seen = idle Seek tt w alone
      by (Steal v x) w alone seen = idle (Steal v x) tt w alone
      by (Check v x) w alone seen = idle (Check v x) tt w alone
      by (Take v x) w alone seen = idle (Take v x) tt w alone
      by (Take2 v) w alone seen = idle (Take2 v) tt w alone
      by (Run f y) w alone seen = quiet (Run f y) tt seen
      by (Bump r) w alone seen = quiet (Bump r) tt seen
      by (Unwind f) w alone seen = quiet (Unwind f) tt seen
      by (Arrive r d) w alone seen = quiet (Arrive r d) tt seen
      by (Join r d) w alone seen = quiet (Join r d) tt seen

  pub row_agree : (own p b : ℕ) (k : RestartKind) (c : ℕ) (row : Row) → At own p b k c row → In own p b k c row → Alone k row → Goal own p b k row
  row_agree own p b (Run f y) c row e w alone = run_row own p b f y c row w
  row_agree own p b (Bump r) c row e w alone = bump_row own p b r c row e w
  row_agree own p b (Push1 r) c row e w alone = push1_row own p b r c row w
  row_agree own p b (Push2 r) c row e w alone = push2_row own p b r c row w
  row_agree own p b (Unwind f) c row e w alone = unwind_row own p b f c row w
  row_agree own p b (Arrive r d) c row e w alone = arrive_row own p b r d c row w
  row_agree own p b (Join r d) c row e w alone = join_row own p b r d c row w
  row_agree own p b Pop1 c row e w alone = plain_row own p b Pop1 c row w (looked s code fair root input state h forked taken l t run joint.agrees calm c (kind_seat own p Pop1 b) row Pop1 tt refl tt w) refl (λ y. refl) (λ n. refl) (λ re. refl)
  row_agree own p b (Pop2 q) c row e w alone = pop2_row own p b q c row w
  row_agree own p b Seek c row e w alone = plain_row own p b Seek c row w (looked s code fair root input state h forked taken l t run joint.agrees calm c (kind_seat own p Seek b) row Seek tt refl tt w) refl (λ y. refl) (λ n. refl) (λ re. refl)
  row_agree own p b (Steal v x) c row e w alone = plain_row own p b (Steal v x) c row w (looked s code fair root input state h forked taken l t run joint.agrees calm c (kind_seat own p (Steal v x) b) row (Steal v x) tt refl tt w) refl (λ y. refl) (λ n. refl) (λ re. refl)
  row_agree own p b (Check v x) c row e w alone = check_row own p b v x c row w alone
  row_agree own p b (Take v x) c row e w alone = plain_row own p b (Take v x) c row w (looked s code fair root input state h forked taken l t run joint.agrees calm c (kind_seat own p (Take v x) b) row (Take v x) tt refl (places_row s.takeover s.takeover calm _ tt) w) refl (λ y. refl) (λ n. refl) (λ re. refl)
  row_agree own p b (Take2 v) c row e w alone = plain_row own p b (Take2 v) c row w (looked s code fair root input state h forked taken l t run joint.agrees calm c (kind_seat own p (Take2 v) b) row (Take2 v) tt refl (places_row s.takeover s.takeover calm _ tt) w) refl (λ y. refl) (λ n. refl) (λ re. refl)

  -- a turn, and what is kept after it
  module _ (c : ℕ) (act : Act) (apart : (x : ℕ) → count Root (act_with i z.words state.words act (stand_of state c) t) x ≤ 1)
      (born : Births i (left i l (places_of s (happens s code state (record { processor = c; act = act })))) (has (step_by (row_by fork_row) act (stand_of state c) ++ forked))) where
    abbrev turn : Turn
    turn = record { processor = c; act = act }

    abbrev next_state : State
    next_state = left i l (places_of s (happens s code state turn))

    -- a block that is opened was not forked, and is one of its place's pool
    not_forked : (p r : ℕ) (x : Standing) → stand_of state c ≡ x → step_by (row_by fork_row) act x ≡ [] → next_state.kind p ≡ Bump r → (h r ≡ Unborn) × (owner i r ≡ p)
    not_forked p r x e none ke =
        let bears : Births i next_state (has forked) = subst (λ (b : List ℕ). Births i next_state (has (b ++ forked))) (ap (step_by (row_by fork_row) act) e ∙ none) born in
        let home = bears.homes p r ke in
        let own = owned i p r home.0 home.1 in (
          elim (home_or (h r)) [
            | inl is ↦ is
            | inr ne ↦
                let below = subst (λ (q : ℕ). r < floor next_state.words q (next_state.kind q)) own (bears.below r (run.lawful.1.counts.listed r ne)) in
                absurd (let low = subst (λ (a : RestartKind). r < floor next_state.words p a) ke below in omega (arith, low))
          ],
          own,
        )

    -- so many forks are opened: none, or that of a block that was not forked before
    pub opens_agree : (p f y r : ℕ) (k : LinkKind) → (link_at (z.words (BlockWord r))).kind ≡ k → z.kind p ≡ Run f y → next_state.kind p ≡ Bump r → (x : Standing) → stand_of state c ≡ x → step_by (row_by fork_row) act x ≡ []
        → act_with i z.words state.words act (stand_of state c) t ≡ by_install i z.words p (Run f y) (Bump r) t → Opened (is_fork k) (by_install i z.words p (Run f y) (Bump r) t) h
    opens_agree p f y r (Called g v) le ke be x e none te = inl (same (by_install i z.words p (Run f y) (Bump r) t) ((unruns p).calls f y r g v le), refl)
    opens_agree p f y r (Forked g v) le ke be x e none te =
        let once = subst (λ (u : Skeleton). (x : ℕ) → count Root u x ≤ 1) te apart in
        let new = not_forked p r x e none be in
        let one = (unruns p).opens f y r g v ke le once in
        inr (r, new.0, one, opened_now (by_install i z.words p (Run f y) (Bump r) t) r one new.0 (f, y, ap z.kind new.1 ∙ ke), refl)
    opens_agree p f y r Root le ke be x e none te = inl (subst (λ (u : Skeleton). Agree u h) (sym (ap (λ (k : LinkKind). grow p (opened i z.words p r k) t) le ∙ grow_none p t)) here, refl)
    opens_agree p f y r (Branch d v) le ke be x e none te = inl (subst (λ (u : Skeleton). Agree u h) (sym (ap (λ (k : LinkKind). grow p (opened i z.words p r k) t) le ∙ grow_none p t)) here, refl)
