-- What is counted in a run on threads: each number as a function of its turns, of the words after them and of the plan.
use Rattle.std.specs.Prelude.{◌≡◌, ℕ, ◌-◌, List}
use Rattle.ppm_answers.specs.declared.run_counts.RunCounts.{RunCounts}
use Rattle.ppm_cells.specs.declared.shape.Shape.{Shape}
use Rattle.ppm_core.specs.Situation.{Situation}
use Rattle.ppm_step.specs.declared.turn.Turn.{Turn}
use Rattle.ppm_table.specs.declared.act_counts.ActCounts.{ActCounts}
use Rattle.ppm_table.specs.Counting.{TellsTurns, all_counts}
use Rattle.ppm_following.specs.Room.{most_given}
use Rattle.ppm_outcomes.specs.RunOf.{table_of, words_behind}

-- The counts of a run in which the processors together counted so much, with these words after it, and a plan with faults for so many turns. A look is
-- an act that is no work turn. A fault is missed that the plan has and that no act was.
abbrev pub counts_told : ActCounts → (planned : ℕ) → Shape → (words : List ℕ) → RunCounts
counts_told c planned s words = record {
  acts = c.acts;
  work = c.work;
  looks = c.acts - c.work;
  forks = c.forks;
  takes = c.takes;
  stolen = c.stolen;
  takeovers = c.takeovers;
  soft = c.soft;
  hard = c.hard;
  missed = planned - c.soft - c.hard;
  room = most_given s words s.processors;
}

-- those of these turns of a machine: what each processor does in them, together
abbrev pub made_counts : (planned : ℕ) → Situation → List Turn → RunCounts
made_counts planned m turns = counts_told (all_counts (table_of m) turns) planned m.shape (words_behind m turns)

-- The counts of a run, whose plan has faults for so many turns, are those of its turns. Acts, work turns, forks, takes and faults are as many as its
-- turns have.
pub record AreOfRun (planned : ℕ) (m : Situation) (turns : List Turn) (counts : RunCounts) : Type 0 where
  pub are : counts ≡ made_counts planned m turns
  pub numbers : TellsTurns (table_of m) turns (all_counts (table_of m) turns)
