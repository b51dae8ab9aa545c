-- The run of a machine whose processors obey a plan and limits, and what is answered after it: one definition for all commands that have a plan.
use Rattle.std.specs.Prelude.{ℕ, List}
use Rattle.ppm_ports.specs.Outside.{ToldLists}
use Rattle.ppm_cells.specs.Memory.{read}
use Rattle.ppm_cells.specs.declared.cell.Cell.TheVariants.{FinishWord}
use Rattle.ppm_plan.specs.Schedules.{Planned}
use Rattle.ppm_step.specs.declared.turn.Turn.{Turn}
use Rattle.ppm_step.specs.State.{after}
use Rattle.ppm_core.specs.Situation.{Situation}
use Rattle.ppm_choice.specs.declared.limits.Limits.{Limits}
use Rattle.ppm_answers.specs.declared.answer.Answer.{Answer}
use Rattle.ppm_choice.specs.Finishes.{Finishes}
use Rattle.ppm_choice.specs.Obeying.{ObeyAll}
use Rattle.ppm_table.specs.declared.view.Opening.{Opening}
use Rattle.ppm_threads.specs.Driven.{WasRefused}
use Rattle.ppm_outcomes.specs.Watchers.{OthersKeep}

-- the words after turns of a machine, and the finish word
abbrev pub words_behind : Situation → List Turn → List ℕ
words_behind m turns = (after m.shape m.code m.state turns).words

abbrev pub finish_behind : Situation → List Turn → ℕ
finish_behind m turns = read m.shape (words_behind m turns) FinishWord

-- The answer of a run from a machine: turns in which each processor obeys, of which the watchers were told so much; the finish word after
-- them has a cause in them; and the answer is what the words after them say.
pub record RunOf (plan : Planned) (limits : Limits) (start : Situation) (IsTold : List Turn → Type 0) (IsSaid : List ℕ → Answer → Type 0)
    (answer : Answer) : Type 0 where
  pub turns : List Turn
  pub obey : ObeyAll plan limits start.shape start.code start.state turns
  pub finished : Finishes start.shape start.code limits start.state turns (finish_behind start turns)
  pub told : IsTold turns
  pub says : IsSaid (words_behind start turns) answer

-- the table with a machine's code and words
abbrev pub table_of : Situation → Opening
table_of m = record { shape = m.shape; code = m.code; words = m.state.words }

-- A run from a machine that was given up. Each processor obeys in its turns, and its list has its record of them; or it gave up before an event:
-- up to that event the list has its record, and up to that act it obeys. One processor at least gave up. Watchers without a processor were told
-- nothing.
pub record RunGivenUp (plan : Planned) (limits : Limits) (start : Situation) (before now : ToldLists) : Type 0 where
  pub in_part : WasRefused (λ list. list) plan limits (table_of start) before now
  pub others : OthersKeep start.shape.processors before now
