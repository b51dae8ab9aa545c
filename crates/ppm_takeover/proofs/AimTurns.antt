-- A processor that lives never bids for a place that it holds already, and a place to which it has still to go has no message of it. So each turn
-- leaves it, and who has taken over no place comes to take one over by a new bid alone.
use Rattle.std.proofs.Common.{◌≡◌, ◌≢◌, ◌⊎◌, ◌≤◌, ◌<◌, ◌+◌, ◌==◌, if◌then◌else◌, ℕ, zero, suc, Bool, true, false, List, Option, Some, None, inl, inr, refl}
use Rattle.std.proofs.Common.{sym, ap, ◌∙◌, subst, arith}
use Rattle.std.specs.Prelude.{nat_lt, slice_get, slice_set, ◌^◌}
use Rattle.std.proofs.lemmas.Bool.{cases_eq, eq-eqb, lt-ltb, true≢false}
use Rattle.ppm_strands.specs.Tree.{Words, Tree}
use Rattle.ppm_cells.specs.Memory.{read, write as store}
use Rattle.ppm_cells.specs.declared.cell.Cell.TheVariants.{CarryWord, HolderWord}
use Rattle.ppm_cells.specs.declared.entry.Entry.{Entry}
use Rattle.ppm_cells.specs.declared.entry.Entry.TheVariants as entries
use Rattle.ppm_cells.specs.declared.holder.Holder.{Holder as AHold}
use Rattle.ppm_cells.specs.declared.restart.Restart.{Restart}
use Rattle.ppm_cells.specs.declared.restart.RestartKind.{RestartKind}
use Rattle.ppm_cells.specs.declared.restart.RestartKind.TheVariants.{Run, Bump, Push1, Push2, Unwind, Arrive, Join, Pop1, Pop2, Seek, Steal, Check, Take, Take2}
use Rattle.ppm_cells.specs.declared.shape.Shape.{Shape}
use Rattle.ppm_cells.specs.declared.shape.Takeover.{Takeover}
use Rattle.ppm_cells.specs.declared.shape.Takeover.TheVariants.{ByPlaces, ByEntries}
use Rattle.ppm_strands.specs.Strand.{Frame}
use Rattle.ppm_code.specs.Strands.{Point, Result}
use Rattle.ppm_code.specs.declared.code.Capsule.{Capsule}
use Rattle.ppm_code.specs.declared.code.CodeParts.{CodeParts}
use Rattle.ppm_code.specs.declared.location.FrameWord.{FrameWord}
use Rattle.ppm_step.specs.Among.{IsTurnAmong, IsActAmong}
use Rattle.ppm_step.specs.Contents.{content_of}
use Rattle.ppm_step.specs.Frames.{Rest, Loads, Stores, Full, Installs, Breaks}
use Rattle.ppm_step.specs.Points.{cell_at, reading_at}
use Rattle.ppm_step.specs.Rows.{on_holder, on_number, on_entry, seek_by, seek_held, seek_holder, bids, seek_dead, seek_top, seek_entry, passes_by, local_by}
use Rattle.ppm_step.specs.Rows.{found_at, row_of}
use Rattle.ppm_step.specs.Standings.{Standing, IsLost, IsPlaced, IsAt, IsWithin, IsRunning, IsBroken, IsDone, row_is_there, rest_is_there, then_is_there}
use Rattle.ppm_step.specs.Standings.{within_if, running_if, enters, stands_then, stands, begins_if, placed, at_finish, went_rest}
use Rattle.ppm_step.specs.State.{State as RunState, stand_in, stand_of, found_in, want_of, stand_after, acts, happens}
use Rattle.ppm_step.specs.There.{restart_is_there}
use Rattle.ppm_step.specs.declared.content.Content.{Content}
use Rattle.ppm_step.specs.declared.content.Content.TheVariants.{ANumber, ARestart, AnEntry, AHolder, ALink, AFinish, Unreadable}
use Rattle.ppm_step.specs.declared.row.Point.{Point as RowPoint}
use Rattle.ppm_step.specs.declared.row.Point.TheVariants.{SeekHolder, SeekDead, SeekTop, SeekEntry}
use Rattle.ppm_step.specs.declared.row.Row.{Row}
use Rattle.ppm_step.specs.declared.row.Row.TheVariants.{Now, Store, Exchange}
use Rattle.ppm_step.specs.declared.row.Seat.{Seat}
use Rattle.ppm_step.specs.declared.row.Then.{Then}
use Rattle.ppm_step.specs.declared.row.Then.TheVariants.{Load, Install, Fork, Begin, Move, Enter, Again, Broken}
use Rattle.ppm_step.specs.declared.turn.Act.{Act}
use Rattle.ppm_step.specs.declared.turn.Act.TheVariants.{Step, Soft, Hard, Quit}
use Rattle.ppm_step.specs.declared.turn.Turn.{Turn}
use Rattle.ppm_tickets.specs.Homes.{Home}
use Rattle.ppm_tickets.specs.Lawful.{IsAlive, IsDead, Names, Dooms, tag}
use Rattle.ppm_tickets.specs.Saw.{IsStrand, Sees, IsBidThere}
use Rattle.ppm_tickets.specs.View as spots
use Rattle.ppm_tickets.specs.View.{content_by}
use Rattle.ppm_tickets.specs.Words.{Word, Number, Spot, Bid, Holder, Carry, Dead}
use Rattle.ppm_tickets.proofs.StepLemmas.{stand_own}
use Rattle.ppm_tickets.proofs.ViewLemmas.{shows_content, view_here}
use Rattle.ppm_frames.specs.Skeletons.{Skeleton}
use Rattle.ppm_kept.specs.Running.{IsFair}
use Rattle.ppm_kept.specs.Fates.{Agrees}
use Rattle.ppm_kept.specs.Left.{Followed}
use Rattle.ppm_runs.specs.Run.{fate_of}
use Rattle.ppm_runs.specs.Follow.{IsHalves}
use Rattle.ppm_runs.proofs.JoinLemmas.{stand_else}
use Rattle.ppm_runs.proofs.ShownLemmas.{names_one, Within, within}
use Rattle.ppm_progress.proofs.MomentLemmas.{number_of}
use Rattle.ppm_progress.proofs.RestartLemmas.{restart_goes_on}
use Rattle.ppm_progress.proofs.SpotLemmas.{Made, alive_was, carry_goes, bid_goes, holder_goes}
use Rattle.ppm_progress.proofs.WriteLemmas.{Gives, MovesTo, StoresAt, Wrote, turn_wrote}
use Rattle.ppm_takeover.specs.Lost.{BidsFor, IsBidder, TookOver}
use Rattle.ppm_takeover.proofs.AimRows.{seek_row, move_row, BidsSo, bids_so}
use Rattle.ppm_takeover.proofs.MoveRows.{moves_after_bid}
use Rattle.ppm_takeover.proofs.StandRows.{names_content, stores_no_bid}

-- where a row that seeks work leads: the place for which it is about to bid is not held by its processor, and it doesn't look yet whether a bid stands
abbrev pub Clear : (Spot → Word) → (o : ℕ) → Then → Type 0
Clear m o (Load SeekHolder) = Unit {0}
Clear m o (Load (SeekDead v h)) = Names (m (Holder v)) o → ⊥
Clear m o (Load (SeekTop v)) = Unit {0}
Clear m o (Load (SeekEntry v i)) = Unit {0}
Clear m o (Install re) = ((p : ℕ) → BidsFor re.kind p → Names (m (Holder p)) o → ⊥) × (IsBidder re.kind → ⊥)
Clear m o Again = Unit {0}
Clear m o Broken = Unit {0}
Clear m o _ = ⊥

abbrev next_in : Row → Then
next_in (Now next) = next
next_in (Store cell x next) = next
next_in (Exchange cell old new next) = next

abbrev pub AimsClear : (Spot → Word) → (o : ℕ) → Seat → Row → Type 0
AimsClear m o seat row = seat.restart.kind ≡ Seek → Clear m o (next_in row)

abbrev pub AimsClearAt : (Spot → Word) → (o : ℕ) → Standing → Type 0
AimsClearAt m o (IsWithin seat row) = AimsClear m o seat row
AimsClearAt m o x = Unit {0}

-- the message of place p stands for place w, or may come to do so
abbrev pub MayStand : (Spot → Word) → (p w : ℕ) → Type 0
MayStand m p w = (m (Bid p) ≡ m (Holder w)) ⊎ (tag (m (Holder w)) < tag (m (Bid p)))

-- A place of a processor that lives is held by it. A place that bids does so for a place that is there, with a message that isn't of the processor of
-- that place, and whose tag is the next one at most. If the message is of one that lives, and may stand, then that one holds the place that bids, and
-- has still to go to no place that has such a message. After a renewal there may be messages of others, but they come too late.
pub record AreApart (s : Shape) (state : RunState) : Type 0 where
  pub rows : (o : ℕ) → AimsClearAt (spots.view s state.words) o (stand_of state o)
  pub home : (v : ℕ) → IsAlive (spots.view s state.words) v → Names (spots.view s state.words (Holder v)) v
  pub late : (p w : ℕ) → BidsFor (spots.kinds s state.words p) w
      → (w < s.processors) × (tag (spots.view s state.words (Bid p)) < tag (spots.view s state.words (Holder w)) + 2)
  pub away : (p w : ℕ) → BidsFor (spots.kinds s state.words p) w → Names (spots.view s state.words (Bid p)) w → ⊥
  pub own : (p c w : ℕ) → IsAlive (spots.view s state.words) c → BidsFor (spots.kinds s state.words p) w → Names (spots.view s state.words (Bid p)) c
      → MayStand (spots.view s state.words) p w → Names (spots.view s state.words (Holder p)) c
  pub apart : (c v w : ℕ) → IsAlive (spots.view s state.words) c → TookOver (spots.view s state.words) (spots.kinds s state.words) c v
      → Names (spots.view s state.words (Holder v)) c → BidsFor (spots.kinds s state.words v) w → Names (spots.view s state.words (Bid v)) c
      → MayStand (spots.view s state.words) v w → ⊥

-- a place that is about to bid: its message has the next tag at most
dooms_late : (s : Shape) (m : Spot → Word) (p w : ℕ) (k : RestartKind) → BidsFor k w → (IsBidder k → ⊥) → Dooms m p k → IsBidThere s k
    → (w < s.processors) × (tag (m (Bid p)) < tag (m (Holder w)) + 2)
dooms_late s m p w (Take v h) bids_ new doom there = (
  subst (λ (z : ℕ). z < s.processors) bids_ there,
  let told = ap tag doom.2 in
      let low = doom.3 in
      let same = ap (λ (z : ℕ). tag (m (Holder z))) bids_ in
      omega (arith, told, low, same),
)
dooms_late s m p w (Take2 v) bids_ new doom there = absurd (new tt)
dooms_late s m p w _ bids_ new doom there = absurd bids_

-- where no more places are held
clear_on : (m n : Spot → Word) (o : ℕ) → ((p : ℕ) → Names (n (Holder p)) o → Names (m (Holder p)) o) → (next : Then) → Clear m o next → Clear n o next
clear_on m n o back (Load SeekHolder) a = tt
clear_on m n o back (Load (SeekDead v h)) a = λ names. a (back v names)
clear_on m n o back (Load (SeekTop v)) a = tt
clear_on m n o back (Load (SeekEntry v i)) a = tt
clear_on m n o back (Install re) a = (λ p bids_ names. a.0 p bids_ (back p names), a.1)
clear_on m n o back Again a = tt
clear_on m n o back Broken a = tt
clear_on m n o back _ a = absurd a

-- what the loads of a row that seeks work lead to
module _ (s : Shape) (plain : s.takeover ≡ ByPlaces) (m : Spot → Word) (seat : Seat) (o : ℕ) (own : seat.own ≡ o) where
  abbrev Leads : Row → Type 0
  Leads row = Clear m o (next_in row)

  held_clear : (v : ℕ) (w : Content) → content_by (m (Holder v)) ≡ w → Leads (on_holder w (seek_holder s seat v))
  held_clear v (AHolder h) is = by (v == seat.place)
    where
      one : (y : Bool) → (h.processor == seat.own) ≡ y → Leads (seek_held s seat v h y)
      one true e = tt
      one false e = λ names.
          let same = names_content (m (Holder v)) h o is names in
          absurd (true≢false (sym (eq-eqb h.processor seat.own (same ∙ sym own)) ∙ e))

      how_by : (how : Takeover) → how ≡ ByPlaces → Leads (seek_by s seat v h how)
      how_by ByPlaces e = one (h.processor == seat.own) refl
      how_by ByEntries e = tt

      by : (y : Bool) → Leads (if y then Now Again else seek_by s seat v h s.takeover)
      by true = tt
      by false = how_by s.takeover plain
  held_clear v (ANumber x) is = tt
  held_clear v (ARestart x) is = tt
  held_clear v (AnEntry x) is = tt
  held_clear v (ALink x) is = tt
  held_clear v (AFinish x) is = tt
  held_clear v Unreadable is = tt

  dead_clear : (v : ℕ) (h : AHold) → (Names (m (Holder v)) o → ⊥) → (w : Content) → Leads (on_number w (seek_dead seat v h))
  dead_clear v h free (ANumber n) = by (n == 1)
    where
      rise : (y : Bool) → Leads (bids seat v h y)
      rise true = (λ p is names. free (subst (λ (q : ℕ). Names (m (Holder q)) o) (sym is) names), λ z. z)
      rise false = tt

      by : (y : Bool) → Leads (if y then bids seat v h (nat_lt (h.tag + 1) (2 ^ 58)) else Now (Load (SeekTop v)))
      by true = rise (nat_lt (h.tag + 1) (2 ^ 58))
      by false = tt
  dead_clear v h free (AHolder x) = tt
  dead_clear v h free (ARestart x) = tt
  dead_clear v h free (AnEntry x) = tt
  dead_clear v h free (ALink x) = tt
  dead_clear v h free (AFinish x) = tt
  dead_clear v h free Unreadable = tt

  top_clear : (v : ℕ) (w : Content) → Leads (on_number w (seek_top s v))
  top_clear v (ANumber n) = by (nat_lt n s.slots)
    where
      by : (y : Bool) → Leads (if y then Now (Load (SeekEntry v n)) else Now Broken)
      by true = tt
      by false = tt
  top_clear v (AHolder x) = tt
  top_clear v (ARestart x) = tt
  top_clear v (AnEntry x) = tt
  top_clear v (ALink x) = tt
  top_clear v (AFinish x) = tt
  top_clear v Unreadable = tt

  local_clear : (how : Takeover) → how ≡ ByPlaces → (v i : ℕ) (entry : Entry) → Leads (local_by v i entry how)
  local_clear ByPlaces e v i entry = tt
  local_clear ByEntries e v i entry = absurd (cc)

  passes_clear : (how : Takeover) → how ≡ ByPlaces → (v i : ℕ) → Leads (passes_by s v i how)
  passes_clear ByPlaces e v i = tt
  passes_clear ByEntries e v i = absurd (cc)

  entry_clear : (v i : ℕ) (w : Content) → Leads (on_entry w (seek_entry s seat v i))
  entry_clear v i (AnEntry (entries.Empty t)) = tt
  entry_clear v i (AnEntry (entries.Local t x)) = local_clear s.takeover plain v i (entries.Local t x)
  entry_clear v i (AnEntry (entries.Job t x)) = (λ p a. absurd a, λ z. z)
  entry_clear v i (AnEntry (entries.Taken t x)) = passes_clear s.takeover plain v i
  entry_clear v i (ANumber x) = tt
  entry_clear v i (AHolder x) = tt
  entry_clear v i (ARestart x) = tt
  entry_clear v i (ALink x) = tt
  entry_clear v i (AFinish x) = tt
  entry_clear v i Unreadable = tt

  found_clear : (v : ℕ) (point : RowPoint) (w : Content) → (content_by (m (Holder v)) ≡ w ⊎ (point ≡ SeekHolder → ⊥)) → Clear m o (Load point)
      → Leads (found_at s seat v point w)
  found_clear v SeekHolder w (inl is) a = held_clear v w is
  found_clear v SeekHolder w (inr none) a = absurd (none refl)
  found_clear v (SeekDead x h) w is a = dead_clear x h a w
  found_clear v (SeekTop x) w is a = top_clear x w
  found_clear v (SeekEntry x i) w is a = entry_clear x i w
  found_clear v _ w is a = absurd a

-- where processors stand
module _ (s : Shape) (code : CodeParts) (m : Spot → Word) (o : ℕ) where
  within_clear : (seat : Seat) (row : Row) (y : Bool) → AimsClear m o seat row → AimsClearAt m o (within_if seat row y)
  within_clear seat row true a = a
  within_clear seat row false a = tt

  runs_clear : (seat : Seat) (rest : Rest) (y : Bool) → AimsClearAt m o (running_if seat rest y)
  runs_clear seat rest true = tt
  runs_clear seat rest false = tt

  enters_clear : (seat : Seat) (k : RestartKind) (capsule : Option Capsule) → AimsClearAt m o (enters s code seat k capsule)
  enters_clear seat (Run f y) (Some capsule) = runs_clear seat _ _
  enters_clear seat (Run f y) None = tt
  enters_clear seat (Bump r) capsule = tt
  enters_clear seat (Push1 r) capsule = tt
  enters_clear seat (Push2 r) capsule = tt
  enters_clear seat (Unwind f) capsule = tt
  enters_clear seat (Arrive r d) capsule = tt
  enters_clear seat (Join r d) capsule = tt
  enters_clear seat Pop1 capsule = tt
  enters_clear seat (Pop2 r) capsule = tt
  enters_clear seat Seek capsule = tt
  enters_clear seat (Steal v i) capsule = tt
  enters_clear seat (Check v i) capsule = tt
  enters_clear seat (Take v d) capsule = tt
  enters_clear seat (Take2 v) capsule = tt

  then_clear : (seat : Seat) (next : Then) → AimsClear m o seat (Now next) → AimsClearAt m o (stands_then s code seat next)
  then_clear seat (Enter capsule) a = enters_clear seat seat.restart.kind (slice_get code.capsules capsule)
  then_clear seat Again a = tt
  then_clear seat (Load point) a = within_clear seat (Now (Load point)) (then_is_there s seat (Load point)) a
  then_clear seat (Install re) a = within_clear seat (Now (Install re)) (then_is_there s seat (Install re)) a
  then_clear seat (Fork r) a = within_clear seat (Now (Fork r)) (then_is_there s seat (Fork r)) a
  then_clear seat (Begin r f b) a = within_clear seat (Now (Begin r f b)) (then_is_there s seat (Begin r f b)) a
  then_clear seat (Move p) a = within_clear seat (Now (Move p)) (then_is_there s seat (Move p)) a
  then_clear seat Broken a = within_clear seat (Now Broken) (then_is_there s seat Broken) a

  stands_clear : (seat : Seat) (row : Row) → AimsClear m o seat row → AimsClearAt m o (stands s code seat row)
  stands_clear seat (Now next) a = then_clear seat next a
  stands_clear seat (Store cell x next) a = within_clear seat (Store cell x next) (row_is_there s seat (Store cell x next)) a
  stands_clear seat (Exchange cell old new next) a =
      within_clear seat (Exchange cell old new next) (row_is_there s seat (Exchange cell old new next)) a

  finish_clear : (own p : ℕ) (re : Option Restart) (found : ℕ) → AimsClearAt m o (at_finish s code own p re found)
  finish_clear own p re (suc found) = tt
  finish_clear own p None zero = tt
  finish_clear own p (Some re) zero = by (restart_is_there s re)
    where
      begins : AimsClear m o (record { own = own; place = p; restart = re }) (row_of s (record { own = own; place = p; restart = re }) re.kind)
      begins = λ is. subst (λ (k : RestartKind). Clear m o (next_in (row_of s (record { own = own; place = p; restart = re }) k))) (sym is) tt

      by : (y : Bool) → AimsClearAt m o (begins_if s code (record { own = own; place = p; restart = re }) y)
      by true =
          stands_clear (record { own = own; place = p; restart = re }) (row_of s (record { own = own; place = p; restart = re }) re.kind) begins
      by false = tt

  placed_clear : (found : ℕ) → AimsClearAt m o (placed s found)
  placed_clear found = by (nat_lt found s.processors)
    where
      by : (y : Bool) → AimsClearAt m o (if y then IsPlaced found else IsBroken 64)
      by true = tt
      by false = tt

  rest_clear : (seat : Seat) (found : ℕ) (rest : Rest) → AimsClearAt m o (went_rest s seat found rest)
  rest_clear seat found (Loads cell go) = runs_clear seat (go found) (rest_is_there s seat (go found))
  rest_clear seat found (Stores cell x rest) = runs_clear seat rest (rest_is_there s seat rest)
  rest_clear seat found Full = tt
  rest_clear seat found (Installs kind) = tt
  rest_clear seat found Breaks = tt

-- a processor that has taken over no place to which it has still to go
abbrev pub IsSettled : Shape → RunState → (d : ℕ) → Type 0
IsSettled s state d =
    (v : ℕ) → TookOver (spots.view s state.words) (spots.kinds s state.words) d v → Names (spots.view s state.words (Holder v)) d → ⊥

abbrev IsInstall : Standing → Type 0
IsInstall (IsWithin seat (Now (Install re))) = Unit {0}
IsInstall _ = ⊥

abbrev IsMove : Standing → Type 0
IsMove (IsWithin seat (Now (Move r))) = Unit {0}
IsMove _ = ⊥

abbrev seat_in : Seat → Standing → Seat
seat_in d (IsWithin seat row) = seat
seat_in d _ = d

seek_or_take : (k : RestartKind) (p d : ℕ) → k ≡ Seek → k ≡ Take p d → ⊥
seek_or_take k p d one two = let e : Seek ≡ Take p d = sym one ∙ two in cc

module _ (s : Shape) (code : CodeParts) (plain : s.takeover ≡ ByPlaces) (fair : IsFair code) (root : Tree (Frame FrameWord Point) Result) (input : Words)
    (state : RunState) (h : ℕ → Home) (forked taken : List ℕ) (l : List Followed) (t : Skeleton)
    (run : IsHalves s code root input state h forked taken l t) (agrees : Agrees t (λ r. fate_of (h r)))
    (turn : Turn) (among : IsTurnAmong s.processors turn) (was : AreApart s state) where
  abbrev c : ℕ
  c = turn.processor

  abbrev x : Standing
  x = stand_of state c

  abbrev ws : List ℕ
  ws = state.words

  abbrev next : RunState
  next = happens s code state turn

  abbrev now : List ℕ
  now = (happens s code state turn).words

  abbrev m : Spot → Word
  m = spots.view s ws

  abbrev n : Spot → Word
  n = spots.view s now

  abbrev K : ℕ → RestartKind
  K = spots.kinds s ws

  abbrev K' : ℕ → RestartKind
  K' = spots.kinds s now

  abbrev M : Spot → Word
  M = spots.with_restarts m K (spots.bottoms s ws)

  wrote : Wrote s code ws turn.act x now
  wrote = turn_wrote s code fair root input state h forked taken l t run agrees turn among.processor

  abbrev In : Seat → Row → Type 0
  In seat row = Within s code root input state h forked taken l t run c seat row

  in_row : (seat : Seat) (row : Row) → x ≡ IsWithin seat row → In seat row
  in_row seat row e = within s code root input state h forked taken l t run c seat row e

  one_carries : (p d e : ℕ) → IsAlive m d → m (Carry d) ≡ Number p → IsAlive m e → m (Carry e) ≡ Number p → d ≡ e
  one_carries p d e live_d at_d live_e at_e =
      let held = run.lawful.1.holding.held in names_one (m (Holder p)) d e (held d p live_d at_d) (held e p live_e at_e)

  -- a bid that is made
  module _ (p : ℕ) (bid : Made s ws x now p) where
    made_in : In bid.seat (Exchange (HolderWord p) bid.old bid.new bid.next)
    made_in = in_row bid.seat (Exchange (HolderWord p) bid.old bid.new bid.next) bid.at

    made_own : (d : ℕ) → Names (n (Holder p)) d → d ≡ c
    made_own d names =
        let own : bid.seat.own ≡ d = subst (λ (z : Word). Names z d) bid.new_is names in
        sym own ∙ made_in.sits.own

    -- it is for a place that a dead processor holds
    made_dead : (d : ℕ) → Names (m (Holder p)) d → IsDead (m (Dead d))
    made_dead d names =
        let doom : Dooms m bid.seat.place (Take p bid.was) =
        subst (Dooms m bid.seat.place) bid.here (run.lawful.1.holding.doomed bid.seat.place) in
        let own : bid.was ≡ d = subst (λ (z : Word). Names z d) bid.old_is names in
        let stands : tag (m (Holder p)) ≡ bid.before = ap tag bid.old_is in
        let told : bid.before + 1 ≡ doom.0 + 1 = ap tag (sym bid.told ∙ doom.2) in
        elim doom.4 [
          | inl dead ↦ subst (λ (q : ℕ). IsDead (m (Dead q))) own dead
          | inr late ↦ absurd (omega (arith, late, stands, told))
        ]

    made_stays : (act : Act) (d q : ℕ) → MovesTo act x d q → ⊥
    made_stays (Step v) d q moves = subst (λ (z : Standing). MovesTo (Step v) z d q) bid.at moves
    made_stays act d q moves = moves

    made_gives : (act : Act) (q : ℕ) (re : Restart) → Gives act x q re → ⊥
    made_gives (Step v) q re gives = subst (λ (z : Standing). Gives (Step v) z q re) bid.at gives
    made_gives act q re gives = gives

  holder_now : (p : ℕ) → (n (Holder p) ≡ m (Holder p)) ⊎ Made s ws x now p
  holder_now p = holder_goes s code ws run.lawful.0 turn.act x now wrote p

  carry_now : (d : ℕ) → (n (Carry d) ≡ m (Carry d)) ⊎ ((q : ℕ) × MovesTo turn.act x d q × (n (Carry d) ≡ Number q))
  carry_now d = carry_goes s code ws run.lawful.0 turn.act x now wrote d

  lived : (d : ℕ) → IsAlive n d → IsAlive m d
  lived d alive = alive_was s code ws run.lawful.0 turn.act x now wrote d alive

  -- who lives and holds a place holds it still
  holds_on : (p d : ℕ) → IsAlive m d → Names (m (Holder p)) d → Names (n (Holder p)) d
  holds_on p d alive names = elim (holder_now p) [
    | inl same ↦ subst (λ (w : Word). Names w d) (sym same) names
    | inr bid ↦ absurd (alive (made_dead p bid d names))
  ]

  tags_up : (v : ℕ) → tag (m (Holder v)) ≤ tag (n (Holder v))
  tags_up v = elim (holder_now v) [
    | inl same ↦ let e = ap tag same in omega (arith, e)
    | inr made ↦ let old = ap tag made.old_is in let new = ap tag made.new_is in omega (arith, old, new)
  ]

  -- a message that may stand after the turn might do so before
  might_stand : (p v : ℕ) → n (Bid p) ≡ m (Bid p) → MayStand n p v → MayStand m p v
  might_stand p v bid (inl stands) = elim (holder_now v) [
    | inl same ↦ inl (sym bid ∙ stands ∙ same)
    | inr made ↦
        let old = ap tag made.old_is in
        let new = ap tag made.new_is in
        let is = ap tag (sym bid ∙ stands) in
        inr (omega (arith, old, new, is))
  ]
  might_stand p v bid (inr up) = let rise = tags_up v in let is = ap tag bid in inr (omega (arith, up, rise, is))

  -- rows
  module _ (seat : Seat) (row : Row) (e : x ≡ IsWithin seat row) (kind : seat.restart.kind ≡ Seek) where
    none_made : (p : ℕ) → Made s ws x now p → ⊥
    none_made p bid =
        let one : seat ≡ bid.seat = ap (seat_in seat) (sym e ∙ bid.at) in
        seek_or_take seat.restart.kind p bid.was kind (ap (λ (z : Seat). z.restart.kind) one ∙ bid.kind)

    back : (p : ℕ) → Names (n (Holder p)) c → Names (m (Holder p)) c
    back p names = elim (holder_now p) [
      | inl same ↦ subst (λ (w : Word). Names w c) same names
      | inr bid ↦ absurd (none_made p bid)
    ]

    here_clear : Clear m c (next_in row)
    here_clear = subst (AimsClearAt m c) e (was.rows c) kind

  point_or : (v : ℕ) → v < s.processors → (seat : Seat) (point : RowPoint)
      → (content_by (m (Holder v)) ≡ content_of (reading_at point) (read s ws (cell_at seat v point))) ⊎ (point ≡ SeekHolder → ⊥)
  point_or v lt seat SeekHolder = inl (shows_content s ws (Holder v) (lt-ltb v s.processors lt))
  point_or v lt seat _ = inr (λ z. cc)

  row_clear : (v : ℕ) → v < s.processors → (seat : Seat) (row : Row) → x ≡ IsWithin seat row
      → AimsClearAt n c (stand_after s code c (Step v) (found_in ws (want_of s code c (Step v) (IsWithin seat row))) (IsWithin seat row))
  row_clear v lt seat (Now (Load point)) e =
      let w = content_of (reading_at point) (read s ws (cell_at seat v point)) in
      stands_clear s code n c seat (found_at s seat v point w) (λ kind.
      clear_on m n c (back seat (Now (Load point)) e kind) (next_in (found_at s seat v point w))
      (found_clear s plain m seat c (in_row seat (Now (Load point)) e).sits.own v point w (point_or v lt seat point)
      (here_clear seat (Now (Load point)) e kind)))
  row_clear v lt seat (Now (Install re)) e = tt
  row_clear v lt seat (Now (Fork r)) e = tt
  row_clear v lt seat (Now (Begin r f b)) e = tt
  row_clear v lt seat (Now (Move p)) e = tt
  row_clear v lt seat (Now (Enter y)) e = enters_clear s code n c seat seat.restart.kind (slice_get code.capsules y)
  row_clear v lt seat (Now Again) e = tt
  row_clear v lt seat (Now Broken) e = then_clear s code n c seat Broken (λ kind. tt)
  row_clear v lt seat (Store cell y then_) e =
      then_clear s code n c seat then_
      (λ kind. clear_on m n c (back seat (Store cell y then_) e kind) then_ (here_clear seat (Store cell y then_) e kind))
  row_clear v lt seat (Exchange cell old new then_) e =
      then_clear s code n c seat then_
      (λ kind. clear_on m n c (back seat (Exchange cell old new then_) e kind) then_ (here_clear seat (Exchange cell old new then_) e kind))

  after_clear : (act : Act) → IsActAmong s.processors act → (y : Standing) → x ≡ y
      → AimsClearAt n c (stand_after s code c act (found_in ws (want_of s code c act y)) y)
  after_clear (Step v) lt IsLost e = placed_clear s code n c _
  after_clear (Step v) lt (IsPlaced p) e = tt
  after_clear (Step v) lt (IsAt p re) e = finish_clear s code n c c p re _
  after_clear (Step v) lt (IsWithin seat row) e = row_clear v lt seat row e
  after_clear (Step v) lt (IsRunning seat rest) e = rest_clear s code n c seat _ rest
  after_clear (Step v) lt (IsBroken p) e = tt
  after_clear (Step v) lt IsDone e = tt
  after_clear Soft lt y e = tt
  after_clear Hard lt y e = tt
  after_clear (Quit why) lt y e = tt

  stood : (y z : Standing) → x ≡ y → y ≢ IsDone → (acts s code state c turn.act y).stand ≡ slice_set state.stand c z → stand_of next c ≡ z
  stood y z e alive stand =
      ap (λ (k : Standing). stand_of (acts s code state c turn.act k) c) e ∙ ap (λ (k : List Standing). stand_in (slice_get k c)) stand
      ∙ stand_own state.stand c z (λ k. alive (sym e ∙ k))

  own_clear : (y : Standing) → x ≡ y → AimsClearAt n c (stand_of next c)
  own_clear IsLost e = subst (AimsClearAt n c) (sym (stood IsLost _ e (λ z. cc) refl)) (after_clear turn.act among.act IsLost e)
  own_clear (IsPlaced p) e = subst (AimsClearAt n c) (sym (stood (IsPlaced p) _ e (λ z. cc) refl)) (after_clear turn.act among.act (IsPlaced p) e)
  own_clear (IsAt p re) e = subst (AimsClearAt n c) (sym (stood (IsAt p re) _ e (λ z. cc) refl)) (after_clear turn.act among.act (IsAt p re) e)
  own_clear (IsWithin seat row) e =
      subst (AimsClearAt n c) (sym (stood (IsWithin seat row) _ e (λ z. cc) refl)) (after_clear turn.act among.act (IsWithin seat row) e)
  own_clear (IsRunning seat rest) e =
      subst (AimsClearAt n c) (sym (stood (IsRunning seat rest) _ e (λ z. cc) refl)) (after_clear turn.act among.act (IsRunning seat rest) e)
  own_clear (IsBroken p) e = subst (AimsClearAt n c) (sym (stood (IsBroken p) _ e (λ z. cc) refl)) (after_clear turn.act among.act (IsBroken p) e)
  own_clear IsDone e = subst (AimsClearAt n c) (sym (ap (λ (k : Standing). stand_of (acts s code state c turn.act k) c) e ∙ e)) tt

  other_clear : (o : ℕ) → o ≢ c → (y : Standing) → AimsClearAt m o y → AimsClearAt n o y
  other_clear o ne (IsWithin seat row) a = λ kind. clear_on m n o back_ (next_in row) (a kind)
    where
      back_ : (p : ℕ) → Names (n (Holder p)) o → Names (m (Holder p)) o
      back_ p names = elim (holder_now p) [
        | inl same ↦ subst (λ (w : Word). Names w o) same names
        | inr bid ↦ absurd (ne (made_own p bid o names))
      ]
  other_clear o ne IsLost a = tt
  other_clear o ne (IsPlaced p) a = tt
  other_clear o ne (IsAt p re) a = tt
  other_clear o ne (IsRunning seat rest) a = tt
  other_clear o ne (IsBroken p) a = tt
  other_clear o ne IsDone a = tt

  pub rows_now : (o : ℕ) → AimsClearAt n o (stand_of next o)
  rows_now o = elim (cases_eq o c) [
    | inr ne ↦ subst (AimsClearAt n o) (sym (stand_else s code state c o turn.act x ne)) (other_clear o ne (stand_of state o) (was.rows o))
    | inl own ↦ subst (λ (q : ℕ). AimsClearAt n q (stand_of next q)) (sym own) (own_clear x refl)
  ]

  -- what a place goes on with, where it bids then
  strand_not : (k : RestartKind) (v : ℕ) → IsStrand k → BidsFor k v → ⊥
  strand_not (Run f y) v is a = a
  strand_not (Bump r) v is a = a
  strand_not (Unwind f) v is a = a
  strand_not (Arrive r d) v is a = a
  strand_not (Join r d) v is a = a
  strand_not _ v is a = is

  record Given (p v : ℕ) : Type 0 where
    seat : Seat
    re : Restart
    at : x ≡ IsWithin seat (Now (Install re))
    place : seat.place ≡ p
    bids : BidsFor re.kind v
    so : BidsSo seat.restart.kind v
    now_is : K' p ≡ re.kind

  given : (act : Act) (y : Standing) (p : ℕ) (re : Restart) (v : ℕ) → x ≡ y → Gives act y p re → BidsFor re.kind v → K' p ≡ re.kind → Given p v
  given (Step u) (IsWithin seat (Now (Install r))) p re v e gives bids_ is =
      let mine : BidsFor r.kind v = subst (λ (z : Restart). BidsFor z.kind v) (sym gives.1) bids_ in
      record {
        seat = seat;
        re = r;
        at = e;
        place = gives.0;
        bids = mine;
        so = bids_so s plain M seat.own seat.place seat.restart.bottom r seat.restart.kind (in_row seat (Now (Install r)) e).seen v mine;
        now_is = is ∙ ap (λ (z : Restart). z.kind) (sym gives.1);
      }
  given (Step u) (IsWithin seat (Now (Fork r))) p re v e gives bids_ is = absurd (subst (λ (z : Restart). BidsFor z.kind v) (sym gives.1) bids_)
  given (Step u) (IsWithin seat (Now (Begin r f b))) p re v e gives bids_ is = absurd (subst (λ (z : Restart). BidsFor z.kind v) (sym gives.1) bids_)
  given (Step u) (IsRunning seat (Installs kind)) p re v e gives bids_ is =
      let sees = subst (Sees s m K (spots.bottoms s ws) c) e (run.lawful.1.sees c) in
      absurd (strand_not kind v sees.2 (subst (λ (z : Restart). BidsFor z.kind v) (sym gives.1) bids_))
  given act _ p re v e gives bids_ is = absurd gives

  bids_now : (p v : ℕ) → BidsFor (K' p) v → BidsFor (K p) v ⊎ Given p v
  bids_now p v bids_ = elim (restart_goes_on s code ws run.lawful.0 turn.act x now wrote p) [
    | inl same ↦ inl (subst (λ (z : Restart). BidsFor z.kind v) same bids_)
    | inr new ↦ inr (given turn.act x p new.0 v refl new.1 (subst (λ (z : Restart). BidsFor z.kind v) new.2 bids_) (ap (λ (z : Restart). z.kind) new.2))
  ]

  -- the message of a place that bids stays as it is
  no_store : (p v : ℕ) (y : Standing) → x ≡ y → StoresAt y p → BidsFor (K p) v → ⊥
  no_store p v (IsWithin seat (Store cell w then_)) e at bids_ =
      let is = (in_row seat (Store cell w then_) e).sits.at.kind in
      stores_no_bid s code root input state h forked taken l t run c seat cell w then_ e v
      (subst (λ (k : RestartKind). BidsFor k v) is (subst (λ (q : ℕ). BidsFor (K q) v) (sym at) bids_))
  no_store p v _ e at bids_ = absurd at

  bid_kept : (p v : ℕ) → BidsFor (K p) v → n (Bid p) ≡ m (Bid p)
  bid_kept p v bids_ = elim (bid_goes s code ws run.lawful.0 turn.act x now wrote p) [ inl same ↦ same | inr at ↦ absurd (no_store p v x refl at bids_) ]

  module _ (p v : ℕ) (g : Given p v) where
    given_in : In g.seat (Now (Install g.re))
    given_in = in_row g.seat (Now (Install g.re)) g.at

    given_bid : n (Bid p) ≡ m (Bid p)
    given_bid = elim (bid_goes s code ws run.lawful.0 turn.act x now wrote p) [
      | inl same ↦ same
      | inr at ↦ absurd (subst (λ (z : Standing). StoresAt z p) g.at at)
    ]

    given_unmade : (q : ℕ) → Made s ws x now q → ⊥
    given_unmade q bid = subst (λ (z : Standing). IsInstall z) bid.at (subst (λ (z : Standing). IsInstall z) (sym g.at) tt)

    given_stays : (act : Act) (d q : ℕ) → MovesTo act x d q → ⊥
    given_stays (Step u) d q moves = subst (λ (z : Standing). MovesTo (Step u) z d q) g.at moves
    given_stays act d q moves = moves

    given_same : (q : ℕ) → n (Holder q) ≡ m (Holder q)
    given_same q = elim (holder_now q) [ inl same ↦ same | inr bid ↦ absurd (given_unmade q bid) ]

    -- its processor carries the place, and holds it
    given_carry : m (Carry c) ≡ Number p
    given_carry = given_in.sits.carried.carry ∙ ap Number g.place

    given_alive : IsAlive m c
    given_alive = given_in.sits.carried.lives.alive

    given_holds : Names (m (Holder p)) c
    given_holds = run.lawful.1.holding.held c p given_alive given_carry

    given_kind : K p ≡ g.seat.restart.kind
    given_kind = ap K (sym g.place) ∙ given_in.sits.at.kind

    take_bids : (d : ℕ) → g.seat.restart.kind ≡ Take v d → BidsFor (K p) v
    take_bids d e = subst (λ (k : RestartKind). BidsFor k v) (sym (given_kind ∙ e)) refl

    -- where it seeks work the message is its own
    told_own : g.seat.restart.kind ≡ Seek → Names (m (Bid p)) c
    told_own seek =
        let a = seek_row s plain M g.seat (Now (Install g.re)) seek given_in.seen v g.bids in
        let there = subst (λ (z : ℕ). Names (m (Bid z)) g.seat.own) g.place a in
        subst (Names (m (Bid p))) given_in.sits.own there

  -- who moves had taken the place over
  pub record HasMoved (d q : ℕ) : Type 0 where
    pub took : TookOver m K d q
    pub names : Names (m (Holder q)) d
    pub own : d ≡ c

  pub moves : (act : Act) (y : Standing) (d q : ℕ) → x ≡ y → MovesTo act y d q → HasMoved d q
  moves (Step u) (IsWithin seat (Now (Move r))) d q e mv =
      let w = in_row seat (Now (Move r)) e in
      let kind = moves_after_bid s plain M seat r w.seen in
      let so = move_row s M seat (Now (Move r)) r kind w.seen in
      let own : d ≡ c = sym mv.0 ∙ w.sits.own in
      let there : HasMoved d r = record {
        took = record {
          from = seat.place;
          carried = subst (λ (o : ℕ). m (Carry o) ≡ Number seat.place) (sym own) w.sits.carried.carry;
          bids = subst (λ (k : RestartKind). BidsFor k r) (sym (w.sits.at.kind ∙ kind)) refl;
          stands = so.0;
        };
        names = subst (Names (m (Holder r))) mv.0 so.1;
        own = own;
      } in
      subst (HasMoved d) mv.1 there
  moves act _ d q e mv = absurd mv

  -- who has taken a place over had done so before, or has just moved, or bids now
  record Had (d v from : ℕ) : Type 0 where
    took : TookOver m K d v
    names : Names (m (Holder v)) d
    same : took.from ≡ from

  abbrev Was : (d v from : ℕ) → Type 0
  Was d v from = Had d v from ⊎ (HasMoved d from ⊎ Made s ws x now v)

  module _ (d v : ℕ) (alive : IsAlive n d) (took : TookOver n K' d v) (names : Names (n (Holder v)) d) where
    abbrev q : ℕ
    q = took.from

    had_so : m (Carry d) ≡ Number q → BidsFor (K q) v → n (Bid q) ≡ m (Bid q) → n (Holder v) ≡ m (Holder v) → Was d v q
    had_so at bids_ bid same = inl (record {
      took = record { from = q; carried = at; bids = bids_; stands = sym bid ∙ took.stands ∙ same };
      names = subst (λ (w : Word). Names w d) same names;
      same = refl;
    })

    given_so : m (Carry d) ≡ Number q → Given q v → Was d v q
    given_so at g =
        let own : d ≡ c = one_carries q d c (lived d alive) at (given_alive q v g) (given_carry q v g) in
        let same = given_same q v g v in
        elim g.so [
          | inl seek ↦
              let mine = subst (Names (m (Holder v))) own (subst (λ (w : Word). Names w d) same names) in
              absurd ((here_clear g.seat (Now (Install g.re)) g.at seek).0 v g.bids mine)
          | inr take ↦ had_so at (take_bids q v g take.0 take.1) (given_bid q v g) same
        ]

    took_was : Was d v q
    took_was = elim (carry_now d) [
      | inr away ↦
          let place : away.0 ≡ q = ap number_of (sym away.2 ∙ took.carried) in
          inr (inl (subst (HasMoved d) place (moves turn.act x d away.0 refl away.1)))
      | inl same ↦
          let at : m (Carry d) ≡ Number q = sym same ∙ took.carried in
          elim (bids_now q v took.bids) [
            | inr g ↦ given_so at g
            | inl bids_ ↦ elim (holder_now v) [
              | inl held ↦ had_so at bids_ (bid_kept q v bids_) held
              | inr made ↦ inr (inr made)
            ]
          ]
    ]

    -- where it has moved, the place that it has come to had no message of its own
    moved_not : HasMoved d q → ⊥
    moved_not moved = elim (bids_now q v took.bids) [
      | inl bids_ ↦
          let told = subst (λ (w : Word). Names w d) (bid_kept q v bids_) (subst (λ (w : Word). Names w d) (sym took.stands) names) in
          was.apart d q v (lived d alive) moved.took moved.names bids_ told (might_stand q v (bid_kept q v bids_) (inl took.stands))
      | inr g ↦
          let own = names_one (m (Holder q)) d c moved.names (given_holds q v g) in
          let at = ap number_of (sym moved.took.carried ∙ subst (λ (o : ℕ). m (Carry o) ≡ Number q) (sym own) (given_carry q v g)) in
          let bids_ = subst (λ (z : ℕ). BidsFor (K z) q) at moved.took.bids in
          let told = subst (λ (w : Word). Names w d) (given_bid q v g) (subst (λ (w : Word). Names w d) (sym took.stands) names) in
          was.apart d q q (lived d alive) moved.took moved.names bids_ told
          (inl (subst (λ (z : ℕ). m (Bid z) ≡ m (Holder q)) at moved.took.stands))
    ]

  own_now : (p d w : ℕ) → IsAlive n d → BidsFor (K' p) w → Names (n (Bid p)) d → MayStand n p w → Names (n (Holder p)) d
  own_now p d w alive bids_ told may = elim (bids_now p w bids_) [
    | inl still ↦ held still (subst (λ (z : Word). Names z d) (bid_kept p w still) told) (might_stand p w (bid_kept p w still) may)
    | inr g ↦
        let told_ = subst (λ (z : Word). Names z d) (given_bid p w g) told in
        elim g.so [
          | inr take ↦ held (take_bids p w g take.0 take.1) told_ (might_stand p w (given_bid p w g) may)
          | inl seek ↦
              let own : d ≡ c = names_one (m (Bid p)) d c told_ (told_own p w g seek) in
              holds_on p d (lived d alive) (subst (Names (m (Holder p))) (sym own) (given_holds p w g))
        ]
  ]
    where
      held : BidsFor (K p) w → Names (m (Bid p)) d → MayStand m p w → Names (n (Holder p)) d
      held b told may = holds_on p d (lived d alive) (was.own p d w (lived d alive) b told may)

  home_now : (v : ℕ) → IsAlive n v → Names (n (Holder v)) v
  home_now v alive = holds_on v v (lived v alive) (was.home v (lived v alive))

  abbrev IsLate : (p w : ℕ) → Type 0
  IsLate p w = (w < s.processors) × (tag (n (Bid p)) < tag (n (Holder w)) + 2)

  late_now : ((p : ℕ) → Dooms n p (K' p)) → ((p : ℕ) → IsBidThere s (K' p)) → (p w : ℕ) → BidsFor (K' p) w → IsLate p w
  late_now doomed there p w bids_ = elim (bids_now p w bids_) [
    | inl still ↦ had still (bid_kept p w still)
    | inr g ↦ elim g.so [
      | inr take ↦ had (take_bids p w g take.0 take.1) (given_bid p w g)
      | inl seek ↦
          dooms_late s n p w g.re.kind g.bids (here_clear g.seat (Now (Install g.re)) g.at seek).1 (subst (Dooms n p) g.now_is (doomed p))
          (subst (IsBidThere s) g.now_is (there p))
    ]
  ]
    where
      had : BidsFor (K p) w → n (Bid p) ≡ m (Bid p) → IsLate p w
      had b same =
          let low = was.late p w b in
          (low.0, let was_ = low.1 in let up = tags_up w in let is = ap tag same in omega (arith, was_, up, is))

  away_now : (p w : ℕ) → BidsFor (K' p) w → Names (n (Bid p)) w → ⊥
  away_now p w bids_ told = elim (bids_now p w bids_) [
    | inl still ↦ was.away p w still (subst (λ (z : Word). Names z w) (bid_kept p w still) told)
    | inr g ↦
        let told_ = subst (λ (z : Word). Names z w) (given_bid p w g) told in
        elim g.so [
          | inr take ↦ was.away p w (take_bids p w g take.0 take.1) told_
          | inl seek ↦
              let own : w ≡ c = names_one (m (Bid p)) w c told_ (told_own p w g seek) in
              let mine = subst (λ (z : ℕ). Names (m (Holder z)) c) (sym own) (was.home c (given_alive p w g)) in
              (here_clear g.seat (Now (Install g.re)) g.at seek).0 w g.bids mine
        ]
  ]

  apart_now : (d v w : ℕ) → IsAlive n d → TookOver n K' d v → Names (n (Holder v)) d → BidsFor (K' v) w → Names (n (Bid v)) d → MayStand n v w → ⊥
  apart_now d v w alive took names bids_ told may = elim (took_was d v alive took names) [
    | inr (inl moved) ↦ moved_not d v alive took names moved
    | inr (inr made) ↦ elim (bids_now v w bids_) [
      | inr g ↦ given_unmade v w g v made
      | inl still ↦
          let kept = bid_kept v w still in
          let own = was.own v d w (lived d alive) still (subst (λ (z : Word). Names z d) kept told) (might_stand v w kept may) in
          lived d alive (made_dead v made d own)
    ]
    | inl had ↦ elim (bids_now v w bids_) [
      | inl still ↦
          let kept = bid_kept v w still in
          was.apart d v w (lived d alive) had.took had.names still (subst (λ (z : Word). Names z d) kept told) (might_stand v w kept may)
      | inr g ↦
          let own = names_one (m (Holder v)) d c had.names (given_holds v w g) in
          let at = ap number_of (sym had.took.carried ∙ subst (λ (o : ℕ). m (Carry o) ≡ Number v) (sym own) (given_carry v w g)) in
          let b = subst (λ (z : ℕ). BidsFor (K z) v) at had.took.bids in
          let stands = subst (λ (z : ℕ). m (Bid z) ≡ m (Holder v)) at had.took.stands in
          was.apart d v v (lived d alive) had.took had.names b (subst (λ (z : Word). Names z d) (given_bid v w g) told) (inl stands)
    ]
  ]

  pub apart_after : ((p : ℕ) → Dooms n p (K' p)) → ((p : ℕ) → IsBidThere s (K' p)) → AreApart s (happens s code state turn)
  apart_after doomed there = record {
    rows = rows_now;
    home = home_now;
    late = late_now doomed there;
    away = away_now;
    own = own_now;
    apart = apart_now;
  }

  -- who has taken over no place has done so after the turn by a bid alone
  pub settled_on : (d : ℕ) → IsAlive n d → IsSettled s state d → ((v : ℕ) → Made s ws x now v → ⊥) → IsSettled s (happens s code state turn) d
  settled_on d alive settled none v took names = elim (took_was d v alive took names) [
    | inl had ↦ settled v had.took had.names
    | inr (inl moved) ↦ settled took.from moved.took moved.names
    | inr (inr made) ↦ none v made
  ]

  -- who moves has no other place to go to then
  pub moved_settles : (u : ℕ) (seat : Seat) (r : ℕ) → turn.act ≡ Step u → x ≡ IsWithin seat (Now (Move r)) → IsAlive n c
      → IsSettled s (happens s code state turn) c
  moved_settles u seat r act e alive v took names = elim (took_was c v alive took names) [
    | inr (inl moved) ↦ moved_not c v alive took names moved
    | inr (inr made) ↦ subst (λ (z : Standing). IsMove z) made.at (subst (λ (z : Standing). IsMove z) (sym e) tt)
    | inl had ↦
        let w = in_row seat (Now (Move r)) e in
        let moved = moves (Step u) x c r refl (subst (λ (z : Standing). MovesTo (Step u) z c r) (sym e) (w.sits.own, refl)) in
        let words : now ≡ store s ws (CarryWord seat.own) r =
        ap (λ (a : Act). (acts s code state c a x).words) act ∙ ap (λ (z : Standing). (acts s code state c (Step u) z).words) e in
        let own_there = subst (λ (o : ℕ). o < s.processors) (sym w.sits.own) among.processor in
        let carry : n (Carry seat.own) ≡ Number r =
        ap (λ (l : List ℕ). spots.view s l (Carry seat.own)) words
        ∙ view_here s ws (Carry seat.own) r run.lawful.0 (lt-ltb seat.own s.processors own_there) in
        let there : took.from ≡ r = ap number_of (sym took.carried ∙ ap (λ (o : ℕ). n (Carry o)) (sym w.sits.own) ∙ carry) in
        let from : had.took.from ≡ moved.took.from = ap number_of (sym had.took.carried ∙ moved.took.carried) in
        let at : moved.took.from ≡ r = sym from ∙ had.same ∙ there in
        let b = subst (λ (z : ℕ). BidsFor (K z) r) at moved.took.bids in
        let told = subst (λ (z : Word). Names z c) (sym (ap (λ (z : ℕ). m (Bid z)) (sym at) ∙ moved.took.stands)) moved.names in
        was.apart c r r (lived c alive) moved.took moved.names b told (inl (subst (λ (z : ℕ). m (Bid z) ≡ m (Holder r)) at moved.took.stands))
  ]
