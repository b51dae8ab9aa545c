-- What a turn adds to the thefts and takeovers that a processor has counted together.
use Rattle.std.proofs.Common.{◌≡◌, ◌≤◌, ℕ, ◌^◌, ◌-◌, Bool, true, false, refl, arith}
use Rattle.ppm_cells.specs.declared.restart.RestartKind.{RestartKind}
use Rattle.ppm_cells.specs.declared.restart.RestartKind.TheVariants as kind
use Rattle.ppm_step.specs.declared.row.Point.{Point}
use Rattle.ppm_step.specs.declared.row.Point.TheVariants as point
use Rattle.ppm_step.specs.declared.row.Row.{Row}
use Rattle.ppm_step.specs.declared.row.Row.TheVariants.{Now, Store, Exchange}
use Rattle.ppm_step.specs.declared.row.Then.{Then}
use Rattle.ppm_step.specs.declared.row.Then.TheVariants.{Load, Install, Fork, Begin, Move, Enter, Again, Broken}
use Rattle.ppm_step.specs.declared.turn.Act.{Act}
use Rattle.ppm_step.specs.declared.turn.Act.TheVariants.{Step, Soft, Hard, Quit}
use Rattle.ppm_step.specs.Standings.{Standing, IsLost, IsPlaced, IsAt, IsWithin, IsRunning, IsBroken, IsDone}
use Rattle.ppm_step.specs.State.{is_work_turn}
use Rattle.ppm_table.specs.declared.act_counts.ActCounts.{ActCounts}
use Rattle.ppm_table.specs.Counting.{act_counts, checked, counted, gains, gains_in, installed_in, looks_at, moved_in, one_more, row_counts, step_counts, then_counts, together, work_counts}

-- thefts that were won, and takeovers
abbrev pub gone_on : ActCounts → ℕ
gone_on t = together t.stolen t.takeovers

-- whether a row of a kind goes on with what its thief was after, once it has its fork or its right branch
abbrev pub goes_in : RestartKind → ℕ
goes_in (kind.Check victim slot) = 1
goes_in _ = 0

-- a restart that it installs: it seeks again, or goes on
abbrev pub goes_checked : (installed : RestartKind) → ℕ
goes_checked kind.Seek = 0
goes_checked _ = 1

abbrev pub goes_installed : RestartKind → (installed : RestartKind) → ℕ
goes_installed (kind.Check victim slot) installed = goes_checked installed
goes_installed _ installed = 0

-- a row that moves to the place of a dead processor
abbrev pub goes_moved : RestartKind → ℕ
goes_moved (kind.Take2 victim) = 1
goes_moved _ = 0

abbrev pub goes_then : RestartKind → Then → ℕ
goes_then row (Install restart) = goes_installed row restart.kind
goes_then row (Fork block) = goes_in row
goes_then row (Begin block frame bottom) = goes_in row
goes_then row (Move place) = goes_moved row
goes_then row _ = 0

abbrev pub goes_row : RestartKind → Row → ℕ
goes_row row (Now next) = goes_then row next
goes_row row (Store cell content next) = 0
goes_row row (Exchange cell old new next) = 0

abbrev pub goes_step : Standing → ℕ
goes_step (IsWithin seat row) = goes_row seat.restart.kind row
goes_step _ = 0

-- how many processors go on so with an act: one, or none
abbrev pub goes_at : Act → Standing → ℕ
goes_at (Step victim) standing = goes_step standing
goes_at act standing = 0

abbrev most : ℕ
most = 2 ^ 64 - 1

pub few_gone : (t : ActCounts) → gone_on t ≤ most
few_gone t = omega arith

-- nothing more
still : (t : ActCounts) → gone_on t ≡ together (gone_on t) 0
still t = omega arith

-- one more
gains_add : (inherits : Bool) (t : ActCounts) → gone_on (gains inherits t) ≡ together (gone_on t) 1
gains_add true t = omega arith
gains_add false t = omega arith

in_adds : (row : RestartKind) (t : ActCounts) → gone_on (gains_in row t) ≡ together (gone_on t) (goes_in row)
in_adds (kind.Run frame copy) t = still t
in_adds (kind.Bump block) t = still t
in_adds (kind.Push1 block) t = still t
in_adds (kind.Push2 block) t = still t
in_adds (kind.Unwind frame) t = still t
in_adds (kind.Arrive block side) t = still t
in_adds (kind.Join block side) t = still t
in_adds kind.Pop1 t = still t
in_adds (kind.Pop2 block) t = still t
in_adds kind.Seek t = still t
in_adds (kind.Steal victim slot) t = still t
in_adds (kind.Check victim slot) t = gains_add t.inherits t
in_adds (kind.Take victim dead) t = still t
in_adds (kind.Take2 victim) t = still t

checked_adds : (installed : RestartKind) (t : ActCounts) → gone_on (checked installed t) ≡ together (gone_on t) (goes_checked installed)
checked_adds (kind.Run frame copy) t = gains_add t.inherits t
checked_adds (kind.Bump block) t = gains_add t.inherits t
checked_adds (kind.Push1 block) t = gains_add t.inherits t
checked_adds (kind.Push2 block) t = gains_add t.inherits t
checked_adds (kind.Unwind frame) t = gains_add t.inherits t
checked_adds (kind.Arrive block side) t = gains_add t.inherits t
checked_adds (kind.Join block side) t = gains_add t.inherits t
checked_adds kind.Pop1 t = gains_add t.inherits t
checked_adds (kind.Pop2 block) t = gains_add t.inherits t
checked_adds kind.Seek t = still t
checked_adds (kind.Steal victim slot) t = gains_add t.inherits t
checked_adds (kind.Check victim slot) t = gains_add t.inherits t
checked_adds (kind.Take victim dead) t = gains_add t.inherits t
checked_adds (kind.Take2 victim) t = gains_add t.inherits t

installed_adds : (row installed : RestartKind) (t : ActCounts) → gone_on (installed_in row installed t) ≡ together (gone_on t) (goes_installed row installed)
installed_adds (kind.Run frame copy) installed t = still t
installed_adds (kind.Bump block) installed t = still t
installed_adds (kind.Push1 block) installed t = still t
installed_adds (kind.Push2 block) installed t = still t
installed_adds (kind.Unwind frame) installed t = still t
installed_adds (kind.Arrive block side) installed t = still t
installed_adds (kind.Join block side) installed t = still t
installed_adds kind.Pop1 installed t = still t
installed_adds (kind.Pop2 block) installed t = still t
installed_adds kind.Seek installed t = still t
installed_adds (kind.Steal victim slot) installed t = still t
installed_adds (kind.Check victim slot) installed t = checked_adds installed t
installed_adds (kind.Take victim dead) installed t = still t
installed_adds (kind.Take2 victim) installed t = still t

moved_adds : (row : RestartKind) (t : ActCounts) → gone_on (moved_in row t) ≡ together (gone_on t) (goes_moved row)
moved_adds (kind.Run frame copy) t = still t
moved_adds (kind.Bump block) t = still t
moved_adds (kind.Push1 block) t = still t
moved_adds (kind.Push2 block) t = still t
moved_adds (kind.Unwind frame) t = still t
moved_adds (kind.Arrive block side) t = still t
moved_adds (kind.Join block side) t = still t
moved_adds kind.Pop1 t = still t
moved_adds (kind.Pop2 block) t = still t
moved_adds kind.Seek t = still t
moved_adds (kind.Steal victim slot) t = still t
moved_adds (kind.Check victim slot) t = still t
moved_adds (kind.Take victim dead) t = still t
moved_adds (kind.Take2 victim) t = omega arith

looks_add : (at : Point) (t : ActCounts) → gone_on (looks_at at t) ≡ together (gone_on t) 0
looks_add (point.Header frame copy) t = still t
looks_add (point.BumpLink block) t = still t
looks_add (point.PushOrder block) t = still t
looks_add (point.PushAbove block) t = still t
looks_add (point.PushBottom block) t = still t
looks_add (point.UnwindLink frame) t = still t
looks_add (point.UnwindOutcome frame link) t = still t
looks_add (point.Target frame to copy right_of) t = still t
looks_add (point.GivenValue frame to copy target right_of) t = still t
looks_add (point.JoinOrder block side) t = still t
looks_add (point.JoinLink block) t = still t
looks_add (point.JoinLeft block to copy) t = still t
looks_add (point.JoinRight block to copy left) t = still t
looks_add (point.RightFrame block to copy) t = still t
looks_add (point.Offset block bottom) t = still t
looks_add point.PopBelow t = still t
looks_add (point.PopAgain block) t = still t
looks_add (point.PopAbove block) t = still t
looks_add point.SeekHolder t = still t
looks_add (point.SeekDead victim holder) t = still t
looks_add (point.SeekTop victim) t = still t
looks_add (point.SeekEntry victim slot) t = still t
looks_add (point.SeekClosed victim slot entry) t = still t
looks_add (point.StealMessage victim slot) t = still t
looks_add (point.TakenMessage by victim slot) t = still t
looks_add (point.TakenEntry by victim slot message) t = still t
looks_add (point.ClosedRestart victim slot block) t = still t
looks_add (point.ClosedLink block) t = still t
looks_add (point.ClosedBottom victim slot block) t = still t
looks_add (point.BidMessage victim dead) t = still t
looks_add (point.BidAgain victim) t = still t
looks_add (point.BidHolder victim message) t = still t

then_adds : (row : RestartKind) (next : Then) (t : ActCounts) → gone_on (then_counts row next t) ≡ together (gone_on t) (goes_then row next)
then_adds row (Load at) t = looks_add at t
then_adds row (Install restart) t = installed_adds row restart.kind t
then_adds row (Fork block) t = in_adds row (record t { forks = one_more t.forks })
then_adds row (Begin block frame bottom) t = in_adds row (record t { takes = one_more t.takes })
then_adds row (Move place) t = moved_adds row t
then_adds row (Enter capsule) t = still t
then_adds row Again t = still t
then_adds row Broken t = still t

row_adds : (kind : RestartKind) (row : Row) (t : ActCounts) → gone_on (row_counts kind row t) ≡ together (gone_on t) (goes_row kind row)
row_adds kind (Now next) t = then_adds kind next t
row_adds kind (Store cell content next) t = still t
row_adds kind (Exchange cell old new next) t = still t

step_adds : (standing : Standing) (t : ActCounts) → gone_on (step_counts standing t) ≡ together (gone_on t) (goes_step standing)
step_adds IsLost t = still t
step_adds (IsPlaced place) t = still t
step_adds (IsAt place restart) t = still t
step_adds (IsWithin seat row) t = row_adds seat.restart.kind row t
step_adds (IsRunning seat rest) t = still t
step_adds (IsBroken place) t = still t
step_adds IsDone t = still t

act_adds : (act : Act) (standing : Standing) (t : ActCounts) → gone_on (act_counts act standing t) ≡ together (gone_on t) (goes_at act standing)
act_adds (Step victim) standing t = step_adds standing t
act_adds Soft standing t = still t
act_adds Hard standing t = still t
act_adds (Quit why) standing t = still t

-- an act more
pub counted_goes : (act : Act) (standing : Standing) (t : ActCounts) → gone_on (counted act standing t) ≡ together (gone_on t) (goes_at act standing)
counted_goes act standing t = by (is_work_turn act standing)
  where
    by : (work : Bool) → gone_on (act_counts act standing (work_counts work t)) ≡ together (gone_on t) (goes_at act standing)
    by true = act_adds act standing (work_counts true t)
    by false = act_adds act standing (work_counts false t)
