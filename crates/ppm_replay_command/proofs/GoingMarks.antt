-- What the marks of a turn tell of faults, and of a processor that goes on as a thief, as an heir or at another place.
use Rattle.std.proofs.Common.{◌≡◌, ◌≢◌, ◌∙◌, ℕ, zero, suc, ◌+◌, ◌==◌, nat_lt, Bool, true, false, if◌then◌else◌, List, [], ◌∷◌, refl, ap, arith}
use Rattle.ppm_cells.specs.Entry.{entry_of}
use Rattle.ppm_cells.specs.Memory.{read}
use Rattle.ppm_cells.specs.declared.cell.Cell.{Cell}
use Rattle.ppm_cells.specs.declared.cell.Cell.TheVariants as cell
use Rattle.ppm_cells.specs.declared.entry.Entry.{Entry}
use Rattle.ppm_cells.specs.declared.entry.Entry.TheVariants as entry
use Rattle.ppm_cells.specs.declared.restart.RestartKind.{RestartKind}
use Rattle.ppm_cells.specs.declared.restart.RestartKind.TheVariants as kind
use Rattle.ppm_cells.specs.declared.shape.Shape.{Shape}
use Rattle.ppm_code.specs.declared.code.CodeParts.{CodeParts}
use Rattle.ppm_lines.specs.Marks.{marked_if, exchange_marks, cell_marks, tries, going_on, going_at, is_local, checked, check_marks, joined, join_marks, bid_marks, plain_marks, then_marks, learns, has, row_marks, ending, rest_marks, step_marks, act_marks, marks_at}
use Rattle.ppm_lines.specs.declared.mark.Mark.{Mark}
use Rattle.ppm_lines.specs.declared.mark.Mark.TheVariants as mark
use Rattle.ppm_step.specs.Contents.{word_of}
use Rattle.ppm_step.specs.Frames.{Rest, Loads, Stores, Full, Installs, Breaks}
use Rattle.ppm_step.specs.Standings.{Standing, IsLost, IsPlaced, IsAt, IsWithin, IsRunning, IsBroken, IsDone}
use Rattle.ppm_step.specs.declared.content.Content.{Content}
use Rattle.ppm_step.specs.declared.content.Content.TheVariants as content
use Rattle.ppm_step.specs.declared.row.Row.{Row}
use Rattle.ppm_step.specs.declared.row.Row.TheVariants.{Now, Store, Exchange}
use Rattle.ppm_step.specs.declared.row.Seat.{Seat}
use Rattle.ppm_step.specs.declared.row.Then.{Then}
use Rattle.ppm_step.specs.declared.row.Then.TheVariants.{Load, Install, Fork, Begin, Move, Enter, Again, Broken}
use Rattle.ppm_step.specs.declared.turn.Act.{Act}
use Rattle.ppm_step.specs.declared.turn.Act.TheVariants.{Step, Soft, Hard, Quit}
use Rattle.ppm_table.specs.Counting.{is_hard, is_soft}
use Rattle.ppm_trace.specs.Counts.{all_marked, marked}
use Rattle.ppm_trace.specs.declared.counts.Counts.{Counts}
use Rattle.ppm_replay_command.proofs.GoneOnLemmas.{goes_at, goes_checked, goes_row, goes_step, goes_then}

-- how many faults there are, and how many processors go on so
pub record Told : Type 0 where
  pub soft : ℕ
  pub hard : ℕ
  pub going : ℕ

abbrev pub goes : ℕ → Told
goes n = record { soft = 0; hard = 0; going = n }

abbrev pub both : Told → Told → Told
both a b = record { soft = a.soft + b.soft; hard = a.hard + b.hard; going = a.going + b.going }

abbrev pub told_by : Mark → Told
told_by mark.Soft = record { soft = 1; hard = 0; going = 0 }
told_by mark.Hard = record { soft = 0; hard = 1; going = 0 }
told_by mark.Won = goes 1
told_by mark.Heir = goes 1
told_by mark.Carries = goes 1
told_by _ = goes 0

abbrev pub told_in : List Mark → Told
told_in [] = goes 0
told_in (m ∷ ms) = both (told_by m) (told_in ms)

-- a mark where something holds that tells none of it
if_end : (b : Bool) → told_in (marked_if mark.End b) ≡ goes 0
if_end true = refl
if_end false = refl

if_push : (b : Bool) → told_in (marked_if mark.Push b) ≡ goes 0
if_push true = refl
if_push false = refl

if_pop : (b : Bool) → told_in (marked_if mark.Pop b) ≡ goes 0
if_pop true = refl
if_pop false = refl

-- what a thief proposes
if_tries : (b : Bool) → told_in ((if b then mark.Try else mark.Inherit) ∷ []) ≡ goes 0
if_tries true = refl
if_tries false = refl

tried : (proposed : Content) → told_in (tries proposed ∷ []) ≡ goes 0
tried (content.AnEntry (entry.Empty tag)) = refl
tried (content.AnEntry (entry.Local tag block)) = refl
tried (content.AnEntry (entry.Job tag block)) = refl
tried (content.AnEntry (entry.Taken tag taker)) = if_tries (nat_lt taker 64)
tried (content.ANumber n) = refl
tried (content.ARestart restart) = refl
tried (content.AHolder holder) = refl
tried (content.ALink link) = refl
tried (content.AFinish finish) = refl
tried content.Unreadable = refl

-- an exchange
exchanged : (row : RestartKind) (proposed : Content) (made : Bool) → told_in (exchange_marks row proposed made) ≡ goes 0
exchanged (kind.Run frame copy) proposed made = refl
exchanged (kind.Bump block) proposed made = refl
exchanged (kind.Push1 block) proposed made = refl
exchanged (kind.Push2 block) proposed made = if_push made
exchanged (kind.Unwind frame) proposed made = refl
exchanged (kind.Arrive block side) proposed made = refl
exchanged (kind.Join block side) proposed made = refl
exchanged kind.Pop1 proposed made = if_pop made
exchanged (kind.Pop2 block) proposed made = refl
exchanged kind.Seek proposed made = refl
exchanged (kind.Steal victim slot) proposed made = tried proposed
exchanged (kind.Check victim slot) proposed made = refl
exchanged (kind.Take victim dead) proposed made = refl
exchanged (kind.Take2 victim) proposed made = refl

at_cell : (row : RestartKind) (at : Cell) (proposed : Content) (made : Bool) → told_in (cell_marks row at proposed made) ≡ goes 0
at_cell row cell.FinishWord proposed made = if_end made
at_cell row (cell.CarryWord processor) proposed made = exchanged row proposed made
at_cell row (cell.DeadWord processor) proposed made = exchanged row proposed made
at_cell row (cell.RestartWord place) proposed made = exchanged row proposed made
at_cell row (cell.MessageWord place) proposed made = exchanged row proposed made
at_cell row (cell.HolderWord place) proposed made = exchanged row proposed made
at_cell row (cell.Top place) proposed made = exchanged row proposed made
at_cell row (cell.RoomCounter place) proposed made = exchanged row proposed made
at_cell row (cell.EntryWord place slot) proposed made = exchanged row proposed made
at_cell row (cell.BlockWord address) proposed made = exchanged row proposed made
at_cell row (cell.ArrayWord index) proposed made = exchanged row proposed made

-- Check: as a thief or as an heir
goes_as : (heir : Bool) → told_in (going_on heir ∷ []) ≡ goes 1
goes_as true = refl
goes_as false = refl

forks_as : (heir : Bool) → told_in (mark.Fork ∷ going_on heir ∷ []) ≡ goes 1
forks_as true = refl
forks_as false = refl

takes_as : (heir : Bool) → told_in (going_on heir ∷ mark.Take ∷ []) ≡ goes 1
takes_as true = refl
takes_as false = refl

checks_as : (heir : Bool) (installed : RestartKind) → told_in (checked (going_on heir) installed ∷ []) ≡ goes (goes_checked installed)
checks_as heir (kind.Run frame copy) = goes_as heir
checks_as heir (kind.Bump block) = goes_as heir
checks_as heir (kind.Push1 block) = goes_as heir
checks_as heir (kind.Push2 block) = goes_as heir
checks_as heir (kind.Unwind frame) = goes_as heir
checks_as heir (kind.Arrive block side) = goes_as heir
checks_as heir (kind.Join block side) = goes_as heir
checks_as heir kind.Pop1 = goes_as heir
checks_as heir (kind.Pop2 block) = goes_as heir
checks_as heir kind.Seek = refl
checks_as heir (kind.Steal victim slot) = goes_as heir
checks_as heir (kind.Check victim slot) = goes_as heir
checks_as heir (kind.Take victim dead) = goes_as heir
checks_as heir (kind.Take2 victim) = goes_as heir

-- Join
joins : (installed : RestartKind) → told_in (joined installed ∷ []) ≡ goes 0
joins (kind.Run frame copy) = refl
joins (kind.Bump block) = refl
joins (kind.Push1 block) = refl
joins (kind.Push2 block) = refl
joins (kind.Unwind frame) = refl
joins (kind.Arrive block side) = refl
joins (kind.Join block side) = refl
joins kind.Pop1 = refl
joins (kind.Pop2 block) = refl
joins kind.Seek = refl
joins (kind.Steal victim slot) = refl
joins (kind.Check victim slot) = refl
joins (kind.Take victim dead) = refl
joins (kind.Take2 victim) = refl

-- what follows in a row of each kind
follows : (heir : Bool) (row : RestartKind) (next : Then) → told_in (then_marks (going_on heir) row next) ≡ goes (goes_then row next)
follows heir (kind.Run frame copy) (Load at) = refl
follows heir (kind.Run frame copy) (Install restart) = refl
follows heir (kind.Run frame copy) (Fork forked) = refl
follows heir (kind.Run frame copy) (Begin taken right bottom) = refl
follows heir (kind.Run frame copy) (Move place) = refl
follows heir (kind.Run frame copy) (Enter capsule) = refl
follows heir (kind.Run frame copy) Again = refl
follows heir (kind.Run frame copy) Broken = refl
follows heir (kind.Bump block) (Load at) = refl
follows heir (kind.Bump block) (Install restart) = refl
follows heir (kind.Bump block) (Fork forked) = refl
follows heir (kind.Bump block) (Begin taken right bottom) = refl
follows heir (kind.Bump block) (Move place) = refl
follows heir (kind.Bump block) (Enter capsule) = refl
follows heir (kind.Bump block) Again = refl
follows heir (kind.Bump block) Broken = refl
follows heir (kind.Push1 block) (Load at) = refl
follows heir (kind.Push1 block) (Install restart) = refl
follows heir (kind.Push1 block) (Fork forked) = refl
follows heir (kind.Push1 block) (Begin taken right bottom) = refl
follows heir (kind.Push1 block) (Move place) = refl
follows heir (kind.Push1 block) (Enter capsule) = refl
follows heir (kind.Push1 block) Again = refl
follows heir (kind.Push1 block) Broken = refl
follows heir (kind.Push2 block) (Load at) = refl
follows heir (kind.Push2 block) (Install restart) = refl
follows heir (kind.Push2 block) (Fork forked) = refl
follows heir (kind.Push2 block) (Begin taken right bottom) = refl
follows heir (kind.Push2 block) (Move place) = refl
follows heir (kind.Push2 block) (Enter capsule) = refl
follows heir (kind.Push2 block) Again = refl
follows heir (kind.Push2 block) Broken = refl
follows heir (kind.Unwind frame) (Load at) = refl
follows heir (kind.Unwind frame) (Install restart) = refl
follows heir (kind.Unwind frame) (Fork forked) = refl
follows heir (kind.Unwind frame) (Begin taken right bottom) = refl
follows heir (kind.Unwind frame) (Move place) = refl
follows heir (kind.Unwind frame) (Enter capsule) = refl
follows heir (kind.Unwind frame) Again = refl
follows heir (kind.Unwind frame) Broken = refl
follows heir (kind.Arrive block side) (Load at) = refl
follows heir (kind.Arrive block side) (Install restart) = refl
follows heir (kind.Arrive block side) (Fork forked) = refl
follows heir (kind.Arrive block side) (Begin taken right bottom) = refl
follows heir (kind.Arrive block side) (Move place) = refl
follows heir (kind.Arrive block side) (Enter capsule) = refl
follows heir (kind.Arrive block side) Again = refl
follows heir (kind.Arrive block side) Broken = refl
follows heir (kind.Join block side) (Load at) = refl
follows heir (kind.Join block side) (Install restart) = joins restart.kind
follows heir (kind.Join block side) (Fork forked) = refl
follows heir (kind.Join block side) (Begin taken right bottom) = refl
follows heir (kind.Join block side) (Move place) = refl
follows heir (kind.Join block side) (Enter capsule) = refl
follows heir (kind.Join block side) Again = refl
follows heir (kind.Join block side) Broken = refl
follows heir kind.Pop1 (Load at) = refl
follows heir kind.Pop1 (Install restart) = refl
follows heir kind.Pop1 (Fork forked) = refl
follows heir kind.Pop1 (Begin taken right bottom) = refl
follows heir kind.Pop1 (Move place) = refl
follows heir kind.Pop1 (Enter capsule) = refl
follows heir kind.Pop1 Again = refl
follows heir kind.Pop1 Broken = refl
follows heir (kind.Pop2 block) (Load at) = refl
follows heir (kind.Pop2 block) (Install restart) = refl
follows heir (kind.Pop2 block) (Fork forked) = refl
follows heir (kind.Pop2 block) (Begin taken right bottom) = refl
follows heir (kind.Pop2 block) (Move place) = refl
follows heir (kind.Pop2 block) (Enter capsule) = refl
follows heir (kind.Pop2 block) Again = refl
follows heir (kind.Pop2 block) Broken = refl
follows heir kind.Seek (Load at) = refl
follows heir kind.Seek (Install restart) = refl
follows heir kind.Seek (Fork forked) = refl
follows heir kind.Seek (Begin taken right bottom) = refl
follows heir kind.Seek (Move place) = refl
follows heir kind.Seek (Enter capsule) = refl
follows heir kind.Seek Again = refl
follows heir kind.Seek Broken = refl
follows heir (kind.Steal victim slot) (Load at) = refl
follows heir (kind.Steal victim slot) (Install restart) = refl
follows heir (kind.Steal victim slot) (Fork forked) = refl
follows heir (kind.Steal victim slot) (Begin taken right bottom) = refl
follows heir (kind.Steal victim slot) (Move place) = refl
follows heir (kind.Steal victim slot) (Enter capsule) = refl
follows heir (kind.Steal victim slot) Again = refl
follows heir (kind.Steal victim slot) Broken = refl
follows heir (kind.Check victim slot) (Load at) = refl
follows heir (kind.Check victim slot) (Install restart) = checks_as heir restart.kind
follows heir (kind.Check victim slot) (Fork forked) = forks_as heir
follows heir (kind.Check victim slot) (Begin taken right bottom) = takes_as heir
follows heir (kind.Check victim slot) (Move place) = refl
follows heir (kind.Check victim slot) (Enter capsule) = refl
follows heir (kind.Check victim slot) Again = refl
follows heir (kind.Check victim slot) Broken = refl
follows heir (kind.Take victim dead) (Load at) = refl
follows heir (kind.Take victim dead) (Install restart) = refl
follows heir (kind.Take victim dead) (Fork forked) = refl
follows heir (kind.Take victim dead) (Begin taken right bottom) = refl
follows heir (kind.Take victim dead) (Move place) = refl
follows heir (kind.Take victim dead) (Enter capsule) = refl
follows heir (kind.Take victim dead) Again = refl
follows heir (kind.Take victim dead) Broken = refl
follows heir (kind.Take2 victim) (Load at) = refl
follows heir (kind.Take2 victim) (Install restart) = refl
follows heir (kind.Take2 victim) (Fork forked) = refl
follows heir (kind.Take2 victim) (Begin taken right bottom) = refl
follows heir (kind.Take2 victim) (Move place) = refl
follows heir (kind.Take2 victim) (Enter capsule) = refl
follows heir (kind.Take2 victim) Again = refl
follows heir (kind.Take2 victim) Broken = refl

-- a processor that finds a finish word
learnt : (finish : ℕ) → told_in (learns finish) ≡ goes 0
learnt zero = refl
learnt (suc finish) = refl

module _ (s : Shape) (code : CodeParts) (words : List ℕ) where
  in_row : (seat : Seat) (row : Row) → told_in (row_marks s code words seat row) ≡ goes (goes_row seat.restart.kind row)
  in_row seat (Now next) = follows (is_local (entry_of (read s words (cell.MessageWord seat.place)))) seat.restart.kind next
  in_row seat (Store at written next) = refl
  in_row seat (Exchange at old new next) = at_cell seat.restart.kind at new (has s code words at (word_of old))

  ends : told_in (ending s code words) ≡ goes 0
  ends = if_end (has s code words cell.FinishWord 0)

  in_rest : (rest : Rest) → told_in (rest_marks s code words rest) ≡ goes 0
  in_rest (Loads at go) = refl
  in_rest (Stores at written rest) = refl
  in_rest Full = ends
  in_rest (Installs row) = refl
  in_rest Breaks = refl

  in_step : (standing : Standing) → told_in (step_marks s code words standing) ≡ goes (goes_step standing)
  in_step IsLost = refl
  in_step (IsPlaced place) = refl
  in_step (IsAt place restart) = learnt (read s words cell.FinishWord)
  in_step (IsWithin seat row) = in_row seat row
  in_step (IsRunning seat rest) = in_rest rest
  in_step (IsBroken place) = ends
  in_step IsDone = refl

  -- an act
  abbrev pub act_tells : Act → Standing → Told
  act_tells act standing = record { soft = if is_soft act then 1 else 0; hard = if is_hard act then 1 else 0; going = goes_at act standing }

  in_act : (act : Act) (standing : Standing) → told_in (act_marks s code words act standing) ≡ act_tells act standing
  in_act (Step victim) standing = in_step standing
  in_act Soft standing = refl
  in_act Hard standing = refl
  in_act (Quit why) standing = ends

  -- of a processor that isn't done
  pub in_turn : (act : Act) (standing : Standing) → standing ≢ IsDone → told_in (marks_at s code words act standing) ≡ act_tells act standing
  in_turn act IsLost lives = in_act act IsLost
  in_turn act (IsPlaced place) lives = in_act act (IsPlaced place)
  in_turn act (IsAt place restart) lives = in_act act (IsAt place restart)
  in_turn act (IsWithin seat row) lives = in_act act (IsWithin seat row)
  in_turn act (IsRunning seat rest) lives = in_act act (IsRunning seat rest)
  in_turn act (IsBroken place) lives = in_act act (IsBroken place)
  in_turn act IsDone lives = absurd (lives refl)

-- counts with so much more
pub record Grows (c d : Counts) (t : Told) : Type 0 where
  pub soft : d.soft ≡ c.soft + t.soft
  pub hard : d.hard ≡ c.hard + t.hard
  pub going : d.won + d.takeovers ≡ c.won + c.takeovers + t.going

one_grows : (c : Counts) (m : Mark) → Grows c (marked c m) (told_by m)
one_grows c mark.Fork = record { soft = omega arith; hard = omega arith; going = omega arith }
one_grows c mark.Push = record { soft = omega arith; hard = omega arith; going = omega arith }
one_grows c mark.Pop = record { soft = omega arith; hard = omega arith; going = omega arith }
one_grows c mark.Try = record { soft = omega arith; hard = omega arith; going = omega arith }
one_grows c mark.Inherit = record { soft = omega arith; hard = omega arith; going = omega arith }
one_grows c mark.Won = record { soft = omega arith; hard = omega arith; going = omega arith }
one_grows c mark.Heir = record { soft = omega arith; hard = omega arith; going = omega arith }
one_grows c mark.Lost = record { soft = omega arith; hard = omega arith; going = omega arith }
one_grows c mark.Take = record { soft = omega arith; hard = omega arith; going = omega arith }
one_grows c mark.First = record { soft = omega arith; hard = omega arith; going = omega arith }
one_grows c mark.Last = record { soft = omega arith; hard = omega arith; going = omega arith }
one_grows c mark.Inline = record { soft = omega arith; hard = omega arith; going = omega arith }
one_grows c mark.Bid = record { soft = omega arith; hard = omega arith; going = omega arith }
one_grows c mark.Carries = record { soft = omega arith; hard = omega arith; going = omega arith }
one_grows c mark.Outbid = record { soft = omega arith; hard = omega arith; going = omega arith }
one_grows c mark.Soft = record { soft = omega arith; hard = omega arith; going = omega arith }
one_grows c mark.Hard = record { soft = omega arith; hard = omega arith; going = omega arith }
one_grows c mark.End = record { soft = omega arith; hard = omega arith; going = omega arith }
one_grows c mark.Done = record { soft = omega arith; hard = omega arith; going = omega arith }

pub all_grow : (c : Counts) (ms : List Mark) → Grows c (all_marked c ms) (told_in ms)
all_grow c [] = record { soft = omega arith; hard = omega arith; going = omega arith }
all_grow c (m ∷ ms) =
    let one = one_grows c m in
    let more = all_grow (marked c m) ms in
    record {
      soft = let a = one.soft in let b = more.soft in omega (arith, a, b);
      hard = let a = one.hard in let b = more.hard in omega (arith, a, b);
      going = let a = one.going in let b = more.going in omega (arith, a, b);
    }
