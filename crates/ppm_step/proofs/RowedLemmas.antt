-- A processor comes to be within a capsule of a frame after the load of its header alone.
use Rattle.std.proofs.Common.{◌≡◌, ◌⊎◌, inl, inr, refl, sym, subst, ℕ, zero, suc, Bool, true, false, Option, Some, None}
use Rattle.std.specs.Prelude.{if◌then◌else◌, nat_lt, slice_get}
use Rattle.ppm_cells.specs.declared.restart.Restart.{Restart}
use Rattle.ppm_cells.specs.declared.restart.RestartKind.{RestartKind}
use Rattle.ppm_cells.specs.declared.restart.RestartKind.TheVariants.{Run}
use Rattle.ppm_cells.specs.declared.shape.Shape.{Shape}
use Rattle.ppm_code.specs.Capsules.{capsule_of}
use Rattle.ppm_code.specs.declared.code.Capsule.{Capsule}
use Rattle.ppm_code.specs.declared.code.CodeParts.{CodeParts}
use Rattle.ppm_step.specs.declared.frame.Home.{Home}
use Rattle.ppm_step.specs.declared.row.Seat.{Seat}
use Rattle.ppm_step.specs.declared.row.Point.TheVariants.{Header}
use Rattle.ppm_step.specs.declared.row.Then.{Then}
use Rattle.ppm_step.specs.declared.row.Then.TheVariants.{Load, Install, Fork, Begin, Move, Enter, Again, Broken}
use Rattle.ppm_step.specs.declared.row.Row.{Row}
use Rattle.ppm_step.specs.declared.row.Row.TheVariants.{Now, Store, Exchange}
use Rattle.ppm_step.specs.declared.turn.Act.{Act}
use Rattle.ppm_step.specs.declared.turn.Act.TheVariants.{Step, Soft, Hard, Quit}
use Rattle.ppm_step.specs.Contents.{content_of}
use Rattle.ppm_step.specs.Frames.{Rest, Loads, Stores, Full, Installs, Breaks, rest_of}
use Rattle.ppm_step.specs.Points.{reading_at}
use Rattle.ppm_step.specs.Rows.{found_at, row_of}
use Rattle.ppm_step.specs.There.{restart_is_there}
use Rattle.ppm_step.specs.Standings.{Standing, IsLost, IsPlaced, IsAt, IsWithin, IsRunning, IsBroken, IsDone, unknown_place, then_is_there}
use Rattle.ppm_step.specs.Standings.{row_is_there, rest_is_there, within_if, running_if, running, enters, stands_then, stands, begins_if}
use Rattle.ppm_step.specs.Standings.{went_then, went_row, went_rest, placed, at_finish, went}
use Rattle.ppm_step.specs.State.{stand_after}
use Rattle.ppm_step.proofs.ContentLemmas.{content_fits}
use Rattle.ppm_step.proofs.HeaderLemmas.{IsPlain as IsPlainThen, PlainRow, found_plain, begun_plain}

module _ (s : Shape) (code : CodeParts) where
  -- before the load of the header of the frame that the restart names
  pub record IsAtHeader (seat : Seat) (row : Row) : Type 0 where
    pub frame : ℕ
    pub copy : ℕ
    pub row_is : row ≡ Now (Load (Header frame copy))
    pub named : seat.restart.kind ≡ Run frame copy

  -- within a row there, or within one that enters no capsule
  abbrev pub Rowed : Standing → Type 0
  Rowed IsLost = Unit {0}
  Rowed (IsPlaced place) = Unit {0}
  Rowed (IsAt place restart) = Unit {0}
  Rowed (IsWithin seat row) = PlainRow row ⊎ IsAtHeader seat row
  Rowed (IsRunning seat rest) = Unit {0}
  Rowed (IsBroken place) = Unit {0}
  Rowed IsDone = Unit {0}

  -- and not at once within a capsule
  abbrev pub NotIn : Standing → Type 0
  NotIn (IsRunning seat rest) = ⊥
  NotIn standing = Unit {0}

  abbrev pub Both : Standing → Type 0
  Both standing = Rowed standing × NotIn standing

  within_rowed : (seat : Seat) (row : Row) (b : Bool) → PlainRow row ⊎ IsAtHeader seat row → Both (within_if seat row b)
  within_rowed seat row true h = (h, tt)
  within_rowed seat row false h = (tt, tt)

  if_rowed : (seat : Seat) (rest : Rest) (b : Bool) → Rowed (running_if seat rest b)
  if_rowed seat rest true = tt
  if_rowed seat rest false = tt

  entered : (seat : Seat) (kind : RestartKind) (o : Option Capsule) → Rowed (enters s code seat kind o)
  entered seat (Run frame copy) (Some c) =
      let rest : Rest = rest_of s code seat.place (record { frame = frame; copy = copy; block = 0 }) (capsule_of s.arrays c.instrs) in
      if_rowed seat rest (rest_is_there s seat rest)
  entered seat kind None = broken kind
    where
      broken : (kind : RestartKind) → Rowed (enters s code seat kind None)
      broken (Run frame copy) = tt
      broken kind = tt
  entered seat kind (Some c) = tt

  then_rowed : (seat : Seat) (next : Then) → IsPlainThen next → Both (stands_then s code seat next)
  then_rowed seat (Enter number) h = absurd h
  then_rowed seat Again h = (tt, tt)
  then_rowed seat (Load point) h = within_rowed seat (Now (Load point)) (then_is_there s seat (Load point)) (inl h)
  then_rowed seat (Install restart) h = within_rowed seat (Now (Install restart)) (then_is_there s seat (Install restart)) (inl tt)
  then_rowed seat (Fork block) h = within_rowed seat (Now (Fork block)) (then_is_there s seat (Fork block)) (inl tt)
  then_rowed seat (Begin block frame bottom) h =
      within_rowed seat (Now (Begin block frame bottom)) (then_is_there s seat (Begin block frame bottom)) (inl tt)
  then_rowed seat (Move place) h = within_rowed seat (Now (Move place)) (then_is_there s seat (Move place)) (inl tt)
  then_rowed seat Broken h = within_rowed seat (Now Broken) (then_is_there s seat Broken) (inl tt)

  stands_rowed : (seat : Seat) (row : Row) → PlainRow row → Both (stands s code seat row)
  stands_rowed seat (Now next) h = then_rowed seat next h
  stands_rowed seat (Store cell content next) h =
      within_rowed seat (Store cell content next) (row_is_there s seat (Store cell content next)) (inl h)
  stands_rowed seat (Exchange cell old new next) h =
      within_rowed seat (Exchange cell old new next) (row_is_there s seat (Exchange cell old new next)) (inl h)

  begun_rowed : (seat : Seat) (kind : RestartKind) → seat.restart.kind ≡ kind → Both (stands s code seat (row_of s seat kind))
  begun_rowed seat (Run frame copy) e =
      within_rowed seat (Now (Load (Header frame copy))) (then_is_there s seat (Load (Header frame copy)))
      (inr (record { frame = frame; copy = copy; row_is = refl; named = e }))
  begun_rowed seat kind e = stands_rowed seat (row_of s seat kind) (begun_plain s seat kind tt)

  pub at_rowed : (own place : ℕ) (restart : Option Restart) (found : ℕ) → Both (at_finish s code own place restart found)
  at_rowed own place restart (suc found) = (tt, tt)
  at_rowed own place None zero = (tt, tt)
  at_rowed own place (Some restart) zero = by (restart_is_there s restart)
    where
      seat : Seat
      seat = record { own = own; place = place; restart = restart }

      by : (b : Bool) → Both (begins_if s code seat b)
      by true = begun_rowed seat restart.kind refl
      by false = (tt, tt)

  -- after what enters no capsule
  plain_went : (seat : Seat) (victim found : ℕ) (next : Then) → IsPlainThen next → Both (went_then s code seat victim found next)
  plain_went seat victim found (Load point) h =
      stands_rowed seat (found_at s seat victim point (content_of (reading_at point) found))
      (found_plain s seat victim point (content_of (reading_at point) found) (content_fits (reading_at point) found) h)
  plain_went seat victim found (Install restart) h = (tt, tt)
  plain_went seat victim found (Fork block) h = (tt, tt)
  plain_went seat victim found (Begin block frame bottom) h = (tt, tt)
  plain_went seat victim found (Move place) h = (tt, tt)
  plain_went seat victim found (Enter capsule) h = absurd h
  plain_went seat victim found Again h = (tt, tt)
  plain_went seat victim found Broken h = then_rowed seat Broken tt

  pub plain_row : (seat : Seat) (victim found : ℕ) (row : Row) → PlainRow row → Both (went_row s code seat victim found row)
  plain_row seat victim found (Now next) h = plain_went seat victim found next h
  plain_row seat victim found (Store cell content next) h = then_rowed seat next h
  plain_row seat victim found (Exchange cell old new next) h = then_rowed seat next h

  row_rowed : (seat : Seat) (victim found : ℕ) (row : Row) → PlainRow row ⊎ IsAtHeader seat row → Rowed (went_row s code seat victim found row)
  row_rowed seat victim found row (inl h) = (plain_row seat victim found row h).0
  row_rowed seat victim found row (inr at) =
      subst (λ (r : Row). Rowed (went_row s code seat victim found r)) (sym at.row_is)
      (entered seat seat.restart.kind (slice_get code.capsules found))

  rest_rowed : (seat : Seat) (found : ℕ) (rest : Rest) → Rowed (went_rest s seat found rest)
  rest_rowed seat found (Loads cell go) = if_rowed seat (go found) (rest_is_there s seat (go found))
  rest_rowed seat found (Stores cell content rest) = if_rowed seat rest (rest_is_there s seat rest)
  rest_rowed seat found Full = tt
  rest_rowed seat found (Installs kind) = tt
  rest_rowed seat found Breaks = tt

  pub placed_rowed : (found : ℕ) → Both (placed s found)
  placed_rowed found = by (nat_lt found s.processors)
    where
      by : (b : Bool) → Both (if b then IsPlaced found else IsBroken unknown_place)
      by true = (tt, tt)
      by false = (tt, tt)

  went_rowed : (own victim found : ℕ) (standing : Standing) → Rowed standing → Rowed (went s code own victim found standing)
  went_rowed own victim found IsLost h = (placed_rowed found).0
  went_rowed own victim found (IsPlaced place) h = tt
  went_rowed own victim found (IsAt place restart) h = (at_rowed own place restart found).0
  went_rowed own victim found (IsWithin seat row) h = row_rowed seat victim found row h
  went_rowed own victim found (IsRunning seat rest) h = rest_rowed seat found rest
  went_rowed own victim found (IsBroken place) h = tt
  went_rowed own victim found IsDone h = tt

  pub act_rowed : (own : ℕ) (act : Act) (found : ℕ) (standing : Standing) → Rowed standing → Rowed (stand_after s code own act found standing)
  act_rowed own (Step victim) found standing h = went_rowed own victim found standing h
  act_rowed own Soft found standing h = tt
  act_rowed own Hard found standing h = tt
  act_rowed own (Quit why) found standing h = tt
