-- What is counted in a run: each number as a function of the machine before it and of its turns.
use Rattle.std.specs.Prelude.{◌≡◌, ℕ, ◌+◌, ◌-◌, List, length}
use Rattle.ppm_answers.specs.declared.run_counts.RunCounts.{RunCounts}
use Rattle.ppm_core.specs.Situation.{Situation, run_on}
use Rattle.ppm_following.specs.Room.{most_given}
use Rattle.ppm_step.specs.State.{along, forks_of, takes_of, work_of}
use Rattle.ppm_step.specs.declared.turn.Turn.{Turn}
use Rattle.ppm_trace.specs.Counts.{no_counts}
use Rattle.ppm_trace.specs.Trace.{counts_along}
use Rattle.ppm_trace.specs.declared.counts.Counts.{Counts}

-- The counts of a run that is counted so, from a machine that had made so much work, to this one, in which so many faults were ordered. Acts, forks,
-- takes, faults and takeovers are those of the tail of its trace. A theft is stolen where it is won there. A look is an act that is no work turn. A
-- fault is missed that was ordered and that no act was.
abbrev pub counts_of : Counts → (work_before : ℕ) → (after : Situation) → (ordered : ℕ) → RunCounts
counts_of c work_before after ordered = record {
  acts = c.acts;
  work = after.work - work_before;
  looks = c.acts - (after.work - work_before);
  forks = c.forks;
  takes = c.takes;
  stolen = c.won;
  takeovers = c.takeovers;
  soft = c.soft;
  hard = c.hard;
  missed = ordered - c.soft - c.hard;
  room = most_given after.shape after.state.words after.shape.processors;
}

-- those of these turns
abbrev pub run_counts : (ordered : ℕ) → Situation → List Turn → RunCounts
run_counts ordered m turns = counts_of (counts_along 0 no_counts m turns) m.work (run_on m turns) ordered

module _ (ordered : ℕ) (m : Situation) (turns : List Turn) where
  -- each turn is an act, and is work or a look; the forks and takes are those that the turns tell
  pub record IsOfTurns : Type 0 where
    pub acts : (run_counts ordered m turns).acts ≡ length turns
    pub work : (run_counts ordered m turns).work ≡ length (along m.shape m.code work_of m.state turns)
    pub each : (run_counts ordered m turns).work + (run_counts ordered m turns).looks ≡ (run_counts ordered m turns).acts
    pub forks : (run_counts ordered m turns).forks ≡ length (along m.shape m.code forks_of m.state turns)
    pub takes : (run_counts ordered m turns).takes ≡ length (along m.shape m.code takes_of m.state turns)

-- in all runs the counts are those of the turns
abbrev pub CountsAreOfTurns : Type 0
CountsAreOfTurns = (ordered : ℕ) (m : Situation) (turns : List Turn) → IsOfTurns ordered m turns
