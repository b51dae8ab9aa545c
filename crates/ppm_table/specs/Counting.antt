-- What is counted of a processor's acts, each by where it stood before the act. A count goes up to 2^64 - 1, and stays there.
use Rattle.std.specs.Prelude.{◌≡◌, ℕ, zero, suc, ◌+◌, ◌-◌, ◌^◌, min, if◌then◌else◌, Bool, true, false, List, [], ◌∷◌, length}
use Rattle.ppm_cells.specs.declared.restart.RestartKind.{RestartKind}
use Rattle.ppm_cells.specs.declared.restart.RestartKind.TheVariants as kind
use Rattle.ppm_cells.specs.declared.shape.Shape.{Shape}
use Rattle.ppm_code.specs.declared.code.CodeParts.{CodeParts}
use Rattle.ppm_step.specs.declared.row.Point.{Point}
use Rattle.ppm_step.specs.declared.row.Point.TheVariants.{ClosedRestart}
use Rattle.ppm_step.specs.declared.row.Row.{Row}
use Rattle.ppm_step.specs.declared.row.Row.TheVariants.{Now, Store, Exchange}
use Rattle.ppm_step.specs.declared.row.Then.{Then}
use Rattle.ppm_step.specs.declared.row.Then.TheVariants.{Load, Install, Fork, Begin, Move}
use Rattle.ppm_step.specs.declared.turn.Act.{Act}
use Rattle.ppm_step.specs.declared.turn.Act.TheVariants.{Step, Soft, Hard, Quit}
use Rattle.ppm_step.specs.declared.turn.Turn.{Turn}
use Rattle.ppm_step.specs.Standings.{Standing, IsLost, IsAt, IsWithin}
use Rattle.ppm_step.specs.State.{along, forks_of, is_work_turn, takes_of, work_of}
use Rattle.ppm_table.specs.declared.act_counts.ActCounts.{ActCounts}
use Rattle.ppm_table.specs.declared.view.Deed.{Deed}
use Rattle.ppm_table.specs.declared.view.Opening.{Opening}
use Rattle.ppm_table.specs.Run.{act_by, behind, deeds_in_run, start, AllTold}

-- nothing yet
abbrev pub none_counted : ActCounts
none_counted = record {
  acts = 0;
  work = 0;
  forks = 0;
  takes = 0;
  stolen = 0;
  takeovers = 0;
  soft = 0;
  hard = 0;
  inherits = false;
}

-- together, and one more
abbrev pub together : (some more : ℕ) → ℕ
together some more = min (some + more) (2 ^ 64 - 1)

abbrev pub one_more : ℕ → ℕ
one_more n = together n 1

-- a theft was won, or the strand of a closed place was taken over, if the row has looked where that place went on
abbrev pub gains : (inherits : Bool) → ActCounts → ActCounts
gains false t = record t { stolen = one_more t.stolen }
gains true t = record t { takeovers = one_more t.takeovers }

-- a row of this kind that forks, or begins a right branch: that of Check also goes on with what its thief was after
abbrev pub gains_in : RestartKind → ActCounts → ActCounts
gains_in (kind.Check victim slot) t = gains t.inherits t
gains_in _ t = t

-- a restart that Check installs: its thief seeks again, or goes on so too
abbrev pub checked : (installed : RestartKind) → ActCounts → ActCounts
checked kind.Seek t = t
checked _ t = gains t.inherits t

abbrev pub installed_in : RestartKind → (installed : RestartKind) → ActCounts → ActCounts
installed_in (kind.Check victim slot) installed t = checked installed t
installed_in _ installed t = t

-- another place is carried on: that of a dead processor, after a bid
abbrev pub moved_in : RestartKind → ActCounts → ActCounts
moved_in (kind.Take2 victim) t = record t { takeovers = one_more t.takeovers }
moved_in _ t = t

-- a row that loads where a closed place went on inherits, if it goes on
abbrev pub looks_at : Point → ActCounts → ActCounts
looks_at (ClosedRestart victim slot block) t = record t { inherits = true }
looks_at _ t = t

-- the step with which a row of this kind comes to an end, or a load
abbrev pub then_counts : RestartKind → Then → ActCounts → ActCounts
then_counts row (Load point) t = looks_at point t
then_counts row (Install restart) t = installed_in row restart.kind t
then_counts row (Fork block) t = gains_in row (record t { forks = one_more t.forks })
then_counts row (Begin block frame bottom) t = gains_in row (record t { takes = one_more t.takes })
then_counts row (Move place) t = moved_in row t
then_counts row _ t = t

abbrev pub row_counts : RestartKind → Row → ActCounts → ActCounts
row_counts row (Now next) t = then_counts row next t
row_counts row (Store cell content next) t = t
row_counts row (Exchange cell old new next) t = t

-- a step; the one before a row begins it
abbrev pub step_counts : Standing → ActCounts → ActCounts
step_counts (IsAt place restart) t = record t { inherits = false }
step_counts (IsWithin seat row) t = row_counts seat.restart.kind row t
step_counts _ t = t

abbrev pub act_counts : Act → Standing → ActCounts → ActCounts
act_counts (Step victim) standing t = step_counts standing t
act_counts Soft standing t = record t { soft = one_more t.soft }
act_counts Hard standing t = record t { hard = one_more t.hard }
act_counts (Quit why) standing t = t

-- an act that is work, or is none
abbrev pub work_counts : (work : Bool) → ActCounts → ActCounts
work_counts true t = record t { acts = one_more t.acts; work = one_more t.work }
work_counts false t = record t { acts = one_more t.acts }

-- an act more, of a processor that stood there
abbrev pub counted : Act → Standing → ActCounts → ActCounts
counted act standing t = act_counts act standing (work_counts (is_work_turn act standing) t)

-- those of its deeds
module _ (s : Shape) (code : CodeParts) (own : ℕ) where
  abbrev pub counts_along : ActCounts → Standing → List Deed → ActCounts
  counts_along t standing [] = t
  counts_along t standing (deed ∷ deeds) = counts_along (counted (act_by s standing deed) standing t) (behind s code own standing deed) deeds

abbrev pub counts_by : Opening → (own : ℕ) → List Deed → ActCounts
counts_by k own deeds = counts_along k.shape k.code own none_counted IsLost deeds

-- those of two; no row is under way
abbrev pub both_counts : ActCounts → ActCounts → ActCounts
both_counts t u = record {
  acts = together t.acts u.acts;
  work = together t.work u.work;
  forks = together t.forks u.forks;
  takes = together t.takes u.takes;
  stolen = together t.stolen u.stolen;
  takeovers = together t.takeovers u.takeovers;
  soft = together t.soft u.soft;
  hard = together t.hard u.hard;
  inherits = false;
}

-- those of so many processors in a run: of what each does there
abbrev pub counts_below : Opening → List Turn → (count : ℕ) → ActCounts
counts_below k turns zero = none_counted
counts_below k turns (suc c) = both_counts (counts_below k turns c) (counts_by k c (deeds_in_run k c turns))

-- of all its processors
abbrev pub all_counts : Opening → List Turn → ActCounts
all_counts k turns = counts_below k turns k.shape.processors

-- how many turns have such an act
abbrev pub acts_of_kind : (Act → Bool) → List Turn → ℕ
acts_of_kind is [] = 0
acts_of_kind is (turn ∷ turns) = (if is turn.act then 1 else 0) + acts_of_kind is turns

abbrev pub is_soft : Act → Bool
is_soft Soft = true
is_soft act = false

abbrev pub is_hard : Act → Bool
is_hard Hard = true
is_hard act = false

-- a number as counts keep it: up to 2^64 - 1
abbrev pub kept : ℕ → ℕ
kept n = min n (2 ^ 64 - 1)

-- Counts have the numbers of these turns: of all of them, of work turns, of forks and of takes, and of faults.
pub record TellsTurns (k : Opening) (turns : List Turn) (counts : ActCounts) : Type 0 where
  pub acts : counts.acts ≡ kept (length turns)
  pub work : counts.work ≡ kept (length (along k.shape k.code work_of (start k) turns))
  pub forks : counts.forks ≡ kept (length (along k.shape k.code forks_of (start k) turns))
  pub takes : counts.takes ≡ kept (length (along k.shape k.code takes_of (start k) turns))
  pub soft : counts.soft ≡ kept (acts_of_kind is_soft turns)
  pub hard : counts.hard ≡ kept (acts_of_kind is_hard turns)

-- what is counted in a run has the numbers of its turns, each of which is that of a processor that isn't done
abbrev pub ActCountsTellTurns : Type 0
ActCountsTellTurns = (k : Opening) (turns : List Turn) → AllTold k.shape k.code (start k) turns → TellsTurns k turns (all_counts k turns)
