-- The law that joins the counts of processors to those of a trace.
use Rattle.std.specs.Prelude.{◌≡◌, ℕ, ◌+◌, List}
use Rattle.ppm_answers.specs.declared.run_counts.RunCounts.{RunCounts}
use Rattle.ppm_cells.specs.declared.shape.Shape.{Shape}
use Rattle.ppm_code.specs.declared.code.CodeParts.{CodeParts}
use Rattle.ppm_core.specs.Situation.{loaded}
use Rattle.ppm_trace.specs.RunCounts.{run_counts}
use Rattle.ppm_step.specs.State.{opening}
use Rattle.ppm_step.specs.declared.turn.Turn.{Turn}
use Rattle.ppm_table.specs.declared.act_counts.ActCounts.{ActCounts}
use Rattle.ppm_table.specs.Counting.{all_counts, kept, together}
use Rattle.ppm_table.specs.Run.{AllTold}

-- What the processors of a run have counted together, and what a trace of the run counts: the same acts, work turns, forks, takes and faults, each up
-- to 2^64 - 1; and as many processors that go on as a thief, as an heir or at a dead processor's place.
pub record AreAsTraced (counts : ActCounts) (traced : RunCounts) : Type 0 where
  pub acts : counts.acts ≡ kept traced.acts
  pub work : counts.work ≡ kept traced.work
  pub forks : counts.forks ≡ kept traced.forks
  pub takes : counts.takes ≡ kept traced.takes
  pub soft : counts.soft ≡ kept traced.soft
  pub hard : counts.hard ≡ kept traced.hard
  pub gone_on : together counts.stolen counts.takeovers ≡ kept (traced.stolen + traced.takeovers)

-- the counts of processors are a trace's in all runs from words in which each turn is one of a processor that isn't done, and names a victim where
-- one is due alone
abbrev pub CountsAreAsTraced : Type 0
CountsAreAsTraced = (ordered : ℕ) (s : Shape) (code : CodeParts) (array_lengths words : List ℕ) (turns : List Turn)
    → AllTold s code (opening words s.processors) turns
    → AreAsTraced (all_counts (record { shape = s; code = code; words = words }) turns) (run_counts ordered (loaded s code array_lengths words) turns)
