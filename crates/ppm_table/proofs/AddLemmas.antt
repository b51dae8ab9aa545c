-- What an act adds to each number of counts.
use Rattle.std.proofs.Common.{◌≡◌, ◌≤◌, ℕ, ◌-◌, ◌^◌, Bool, true, false, if◌then◌else◌, length, refl, arith}
use Rattle.ppm_cells.specs.declared.restart.RestartKind.{RestartKind}
use Rattle.ppm_cells.specs.declared.restart.RestartKind.TheVariants as kind
use Rattle.ppm_step.specs.declared.row.Point.{Point}
use Rattle.ppm_step.specs.declared.row.Point.TheVariants as point
use Rattle.ppm_step.specs.declared.row.Row.{Row}
use Rattle.ppm_step.specs.declared.row.Row.TheVariants.{Now, Store, Exchange}
use Rattle.ppm_step.specs.declared.row.Then.{Then}
use Rattle.ppm_step.specs.declared.row.Then.TheVariants.{Load, Install, Fork, Begin, Move, Enter, Again, Broken}
use Rattle.ppm_step.specs.declared.turn.Act.{Act}
use Rattle.ppm_step.specs.declared.turn.Act.TheVariants.{Step, Soft, Hard, Quit}
use Rattle.ppm_step.specs.Standings.{Standing, IsLost, IsPlaced, IsAt, IsWithin, IsRunning, IsBroken, IsDone}
use Rattle.ppm_step.specs.State.{fork_row, is_work_turn, row_by, step_by, take_row}
use Rattle.ppm_table.specs.declared.act_counts.ActCounts.{ActCounts}
use Rattle.ppm_table.specs.Counting.{act_counts, checked, gains, gains_in, installed_in, is_hard, is_soft, looks_at, moved_in, one_more, row_counts, step_counts}
use Rattle.ppm_table.specs.Counting.{counted, then_counts, together, work_counts}

abbrev pub most : ℕ
most = 2 ^ 64 - 1

-- the numbers of which turns tell stay
pub record Keeps (t u : ActCounts) : Type 0 where
  pub acts : u.acts ≡ t.acts
  pub work : u.work ≡ t.work
  pub forks : u.forks ≡ t.forks
  pub takes : u.takes ≡ t.takes
  pub soft : u.soft ≡ t.soft
  pub hard : u.hard ≡ t.hard

same : (t : ActCounts) → Keeps t t
same t = record { acts = refl; work = refl; forks = refl; takes = refl; soft = refl; hard = refl }

-- who goes on as a thief or as an heir changes none of them
gains_keep : (inherits : Bool) (t : ActCounts) → Keeps t (gains inherits t)
gains_keep true t = record { acts = refl; work = refl; forks = refl; takes = refl; soft = refl; hard = refl }
gains_keep false t = record { acts = refl; work = refl; forks = refl; takes = refl; soft = refl; hard = refl }

gains_in_keep : (row : RestartKind) (t : ActCounts) → Keeps t (gains_in row t)
gains_in_keep (kind.Run frame copy) t = same t
gains_in_keep (kind.Bump block) t = same t
gains_in_keep (kind.Push1 block) t = same t
gains_in_keep (kind.Push2 block) t = same t
gains_in_keep (kind.Unwind frame) t = same t
gains_in_keep (kind.Arrive block side) t = same t
gains_in_keep (kind.Join block side) t = same t
gains_in_keep kind.Pop1 t = same t
gains_in_keep (kind.Pop2 block) t = same t
gains_in_keep kind.Seek t = same t
gains_in_keep (kind.Steal victim slot) t = same t
gains_in_keep (kind.Check victim slot) t = gains_keep t.inherits t
gains_in_keep (kind.Take victim dead) t = same t
gains_in_keep (kind.Take2 victim) t = same t

checked_keep : (installed : RestartKind) (t : ActCounts) → Keeps t (checked installed t)
checked_keep (kind.Run frame copy) t = gains_keep t.inherits t
checked_keep (kind.Bump block) t = gains_keep t.inherits t
checked_keep (kind.Push1 block) t = gains_keep t.inherits t
checked_keep (kind.Push2 block) t = gains_keep t.inherits t
checked_keep (kind.Unwind frame) t = gains_keep t.inherits t
checked_keep (kind.Arrive block side) t = gains_keep t.inherits t
checked_keep (kind.Join block side) t = gains_keep t.inherits t
checked_keep kind.Pop1 t = gains_keep t.inherits t
checked_keep (kind.Pop2 block) t = gains_keep t.inherits t
checked_keep kind.Seek t = same t
checked_keep (kind.Steal victim slot) t = gains_keep t.inherits t
checked_keep (kind.Check victim slot) t = gains_keep t.inherits t
checked_keep (kind.Take victim dead) t = gains_keep t.inherits t
checked_keep (kind.Take2 victim) t = gains_keep t.inherits t

installed_keep : (row installed : RestartKind) (t : ActCounts) → Keeps t (installed_in row installed t)
installed_keep (kind.Run frame copy) installed t = same t
installed_keep (kind.Bump block) installed t = same t
installed_keep (kind.Push1 block) installed t = same t
installed_keep (kind.Push2 block) installed t = same t
installed_keep (kind.Unwind frame) installed t = same t
installed_keep (kind.Arrive block side) installed t = same t
installed_keep (kind.Join block side) installed t = same t
installed_keep kind.Pop1 installed t = same t
installed_keep (kind.Pop2 block) installed t = same t
installed_keep kind.Seek installed t = same t
installed_keep (kind.Steal victim slot) installed t = same t
installed_keep (kind.Check victim slot) installed t = checked_keep installed t
installed_keep (kind.Take victim dead) installed t = same t
installed_keep (kind.Take2 victim) installed t = same t

moved_keep : (row : RestartKind) (t : ActCounts) → Keeps t (moved_in row t)
moved_keep (kind.Run frame copy) t = same t
moved_keep (kind.Bump block) t = same t
moved_keep (kind.Push1 block) t = same t
moved_keep (kind.Push2 block) t = same t
moved_keep (kind.Unwind frame) t = same t
moved_keep (kind.Arrive block side) t = same t
moved_keep (kind.Join block side) t = same t
moved_keep kind.Pop1 t = same t
moved_keep (kind.Pop2 block) t = same t
moved_keep kind.Seek t = same t
moved_keep (kind.Steal victim slot) t = same t
moved_keep (kind.Check victim slot) t = same t
moved_keep (kind.Take victim dead) t = same t
moved_keep (kind.Take2 victim) t = record { acts = refl; work = refl; forks = refl; takes = refl; soft = refl; hard = refl }

looks_keep : (at : Point) (t : ActCounts) → Keeps t (looks_at at t)
looks_keep (point.Header frame copy) t = same t
looks_keep (point.BumpLink block) t = same t
looks_keep (point.PushOrder block) t = same t
looks_keep (point.PushAbove block) t = same t
looks_keep (point.PushBottom block) t = same t
looks_keep (point.UnwindLink frame) t = same t
looks_keep (point.UnwindOutcome frame link) t = same t
looks_keep (point.Target frame to copy right_of) t = same t
looks_keep (point.GivenValue frame to copy target right_of) t = same t
looks_keep (point.JoinOrder block side) t = same t
looks_keep (point.JoinLink block) t = same t
looks_keep (point.JoinLeft block to copy) t = same t
looks_keep (point.JoinRight block to copy left) t = same t
looks_keep (point.RightFrame block to copy) t = same t
looks_keep (point.Offset block bottom) t = same t
looks_keep point.PopBelow t = same t
looks_keep (point.PopAgain block) t = same t
looks_keep (point.PopAbove block) t = same t
looks_keep point.SeekHolder t = same t
looks_keep (point.SeekDead victim holder) t = same t
looks_keep (point.SeekTop victim) t = same t
looks_keep (point.SeekEntry victim slot) t = same t
looks_keep (point.SeekClosed victim slot entry) t = same t
looks_keep (point.StealMessage victim slot) t = same t
looks_keep (point.TakenMessage by victim slot) t = same t
looks_keep (point.TakenEntry by victim slot message) t = same t
looks_keep (point.ClosedRestart victim slot block) t = record { acts = refl; work = refl; forks = refl; takes = refl; soft = refl; hard = refl }
looks_keep (point.ClosedLink block) t = same t
looks_keep (point.ClosedBottom victim slot block) t = same t
looks_keep (point.BidMessage victim dead) t = same t
looks_keep (point.BidAgain victim) t = same t
looks_keep (point.BidHolder victim message) t = same t

-- each number is one that counts keep
pub record Fits (t : ActCounts) : Type 0 where
  pub acts : t.acts ≤ most
  pub work : t.work ≤ most
  pub forks : t.forks ≤ most
  pub takes : t.takes ≤ most
  pub soft : t.soft ≤ most
  pub hard : t.hard ≤ most

-- so many forks, takes and faults more
pub record Adds (t u : ActCounts) (forks takes soft hard : ℕ) : Type 0 where
  pub acts_stay : u.acts ≡ t.acts
  pub work_stays : u.work ≡ t.work
  pub forks_are : u.forks ≡ together t.forks forks
  pub takes_are : u.takes ≡ together t.takes takes
  pub soft_are : u.soft ≡ together t.soft soft
  pub hard_are : u.hard ≡ together t.hard hard

none : (a b : ℕ) → a ≤ most → b ≡ a → b ≡ together a 0
none a b h e = omega (arith, h, e)

still : (t u : ActCounts) → Fits t → Keeps t u → Adds t u 0 0 0 0
still t u h k = record {
  acts_stay = k.acts;
  work_stays = k.work;
  forks_are = none t.forks u.forks h.forks k.forks;
  takes_are = none t.takes u.takes h.takes k.takes;
  soft_are = none t.soft u.soft h.soft k.soft;
  hard_are = none t.hard u.hard h.hard k.hard;
}

-- a fork, a take
forked : (row : RestartKind) (t : ActCounts) → Fits t → Adds t (gains_in row (record t { forks = one_more t.forks })) 1 0 0 0
forked row t h =
    let k = gains_in_keep row (record t { forks = one_more t.forks }) in
    record {
      acts_stay = k.acts;
      work_stays = k.work;
      forks_are = k.forks;
      takes_are = none t.takes _ h.takes k.takes;
      soft_are = none t.soft _ h.soft k.soft;
      hard_are = none t.hard _ h.hard k.hard;
    }

taken : (row : RestartKind) (t : ActCounts) → Fits t → Adds t (gains_in row (record t { takes = one_more t.takes })) 0 1 0 0
taken row t h =
    let k = gains_in_keep row (record t { takes = one_more t.takes }) in
    record {
      acts_stay = k.acts;
      work_stays = k.work;
      forks_are = none t.forks _ h.forks k.forks;
      takes_are = k.takes;
      soft_are = none t.soft _ h.soft k.soft;
      hard_are = none t.hard _ h.hard k.hard;
    }

then_adds : (row : RestartKind) (next : Then) (t : ActCounts) → Fits t
    → Adds t (then_counts row next t) (length (fork_row (Now next))) (length (take_row (Now next))) 0 0
then_adds row (Load at) t h = still t _ h (looks_keep at t)
then_adds row (Install restart) t h = still t _ h (installed_keep row restart.kind t)
then_adds row (Fork block) t h = forked row t h
then_adds row (Begin block frame bottom) t h = taken row t h
then_adds row (Move place) t h = still t _ h (moved_keep row t)
then_adds row (Enter capsule) t h = still t t h (same t)
then_adds row Again t h = still t t h (same t)
then_adds row Broken t h = still t t h (same t)

row_adds : (kind : RestartKind) (row : Row) (t : ActCounts) → Fits t → Adds t (row_counts kind row t) (length (fork_row row)) (length (take_row row)) 0 0
row_adds kind (Now next) t h = then_adds kind next t h
row_adds kind (Store cell content next) t h = still t t h (same t)
row_adds kind (Exchange cell old new next) t h = still t t h (same t)

step_adds : (standing : Standing) (t : ActCounts) → Fits t
    → Adds t (step_counts standing t) (length (row_by fork_row standing)) (length (row_by take_row standing)) 0 0
step_adds IsLost t h = still t t h (same t)
step_adds (IsPlaced place) t h = still t t h (same t)
step_adds (IsAt place restart) t h = still t _ h (record { acts = refl; work = refl; forks = refl; takes = refl; soft = refl; hard = refl })
step_adds (IsWithin seat row) t h = row_adds seat.restart.kind row t h
step_adds (IsRunning seat rest) t h = still t t h (same t)
step_adds (IsBroken place) t h = still t t h (same t)
step_adds IsDone t h = still t t h (same t)

abbrev pub one_if : Bool → ℕ
one_if b = if b then 1 else 0

abbrev pub forks_at : Act → Standing → ℕ
forks_at act standing = length (step_by (row_by fork_row) act standing)

abbrev pub takes_at : Act → Standing → ℕ
takes_at act standing = length (step_by (row_by take_row) act standing)

act_adds : (act : Act) (standing : Standing) (t : ActCounts) → Fits t
    → Adds t (act_counts act standing t) (forks_at act standing) (takes_at act standing) (one_if (is_soft act)) (one_if (is_hard act))
act_adds (Step victim) standing t h = step_adds standing t h
act_adds Soft standing t h = record {
  acts_stay = refl;
  work_stays = refl;
  forks_are = none t.forks t.forks h.forks refl;
  takes_are = none t.takes t.takes h.takes refl;
  soft_are = refl;
  hard_are = none t.hard t.hard h.hard refl;
}
act_adds Hard standing t h = record {
  acts_stay = refl;
  work_stays = refl;
  forks_are = none t.forks t.forks h.forks refl;
  takes_are = none t.takes t.takes h.takes refl;
  soft_are = none t.soft t.soft h.soft refl;
  hard_are = refl;
}
act_adds (Quit why) standing t h = still t t h (same t)

-- an act more
pub record AddsAct (t u : ActCounts) (work forks takes soft hard : ℕ) : Type 0 where
  pub acts : u.acts ≡ together t.acts 1
  pub work_is : u.work ≡ together t.work work
  pub forks_are : u.forks ≡ together t.forks forks
  pub takes_are : u.takes ≡ together t.takes takes
  pub soft_are : u.soft ≡ together t.soft soft
  pub hard_are : u.hard ≡ together t.hard hard

pub counted_adds : (act : Act) (standing : Standing) (t : ActCounts) → Fits t
    → AddsAct t (counted act standing t) (one_if (is_work_turn act standing)) (forks_at act standing) (takes_at act standing) (one_if (is_soft act))
    (one_if (is_hard act))
counted_adds act standing t h = by (is_work_turn act standing)
  where
    by : (work : Bool)
        → AddsAct t (act_counts act standing (work_counts work t)) (one_if work) (forks_at act standing) (takes_at act standing) (one_if (is_soft act))
        (one_if (is_hard act))
    by true =
        let a = act_adds act standing (work_counts true t) (record {
          acts = omega arith;
          work = omega arith;
          forks = h.forks;
          takes = h.takes;
          soft = h.soft;
          hard = h.hard;
        }) in
        record { acts = a.acts_stay; work_is = a.work_stays; forks_are = a.forks_are; takes_are = a.takes_are; soft_are = a.soft_are; hard_are = a.hard_are }
    by false =
        let a = act_adds act standing (work_counts false t) (record {
          acts = omega arith;
          work = h.work;
          forks = h.forks;
          takes = h.takes;
          soft = h.soft;
          hard = h.hard;
        }) in
        record {
          acts = a.acts_stay;
          work_is = none t.work _ h.work a.work_stays;
          forks_are = a.forks_are;
          takes_are = a.takes_are;
          soft_are = a.soft_are;
          hard_are = a.hard_are;
        }

few : (a b c : ℕ) → c ≡ together a b → c ≤ most
few a b c e = omega (arith, e)

pub fits_on : (act : Act) (standing : Standing) (t : ActCounts) → Fits t → Fits (counted act standing t)
fits_on act standing t h =
    let a = counted_adds act standing t h in
    record {
      acts = few _ _ _ a.acts;
      work = few _ _ _ a.work_is;
      forks = few _ _ _ a.forks_are;
      takes = few _ _ _ a.takes_are;
      soft = few _ _ _ a.soft_are;
      hard = few _ _ _ a.hard_are;
    }
