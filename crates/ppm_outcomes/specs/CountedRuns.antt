-- What `run` answers where what is counted in its run is told, and when it may: what it answers without the counts, and these.
use Rattle.std.specs.Prelude.{◌≡◌, ℕ, List, []}
use Rattle.ppm_words.specs.declared.named_array.NamedArray.{NamedArray}
use Rattle.ppm_ports.specs.Ports.{Port}
use Rattle.ppm_text.specs.Limits.{text_limit}
use Rattle.ppm_tree.specs.Tree.{ProgramTree}
use Rattle.ppm_tree.specs.Program.{initial_arrays}
use Rattle.ppm_cut_code.specs.Routines.{code_of}
use Rattle.ppm_code.specs.declared.code.CodeParts.{CodeParts}
use Rattle.ppm_plan.specs.declared.plan_item.PlanItem.{PlanItem}
use Rattle.ppm_plan.specs.Forms.{plan_form}
use Rattle.ppm_answers.specs.declared.answer.Answer.{Answer}
use Rattle.ppm_answers.specs.declared.answer.Answer.TheVariants as answers
use Rattle.ppm_answers.specs.declared.ran.Ran.{Ran}
use Rattle.ppm_answers.specs.declared.ran.Ran.TheVariants as ran
use Rattle.ppm_answers.specs.declared.run_counts.RunCounts.{RunCounts}
use Rattle.ppm_answers.specs.Reading.{AreOne, FrontsDecide}
use Rattle.ppm_cli.specs.declared.run.RunOptions.{RunOptions}
use Rattle.ppm_loading.specs.Planned.{PlannedHas, PlannedMay}
use Rattle.ppm_loading.specs.Programs as programs
use Rattle.ppm_outcomes.specs.RunCounts.{AreOfRun}
use Rattle.ppm_outcomes.specs.Runs as plain
use Rattle.ppm_outcomes.specs.Strikes.{fault_count}

-- the answer of a run that came to this, without its counts
abbrev pub answer_of : Ran → Answer
answer_of (ran.Ended arrays) = answers.Ended arrays
answer_of (ran.Trapped trap line) = answers.Trapped trap line
answer_of (ran.OutOfTurns processor) = answers.OutOfTurns processor
answer_of (ran.OutOfRoom place) = answers.OutOfRoom place
answer_of (ran.Broken place) = answers.Broken place

-- The run of a code on an input by the items of a plan comes to this, and so much is counted in it: what it came to is the answer without counts of a
-- run in which each processor obeys; and the counts are those of the turns of this very run, from the machine with which it begins.
pub record IsCounted (options : RunOptions) (items : List PlanItem) (code : CodeParts) (input : List NamedArray) (r : Ran) (counts : RunCounts)
    : Type 0 where
  pub has : plain.CodeHas options 0 [] [] items code input (answer_of r)
  pub counted : AreOfRun (fault_count items) has.start has.run.turns counts

-- the answer of a code on an input by the items of a plan; no other answer is one of a code
abbrev pub CodeHas : RunOptions → List PlanItem → CodeParts → List NamedArray → Answer → Type 0
CodeHas options items code input (answers.RanWith r counts) = IsCounted options items code input r counts
CodeHas options items code input answer = ⊥

-- that of a program: of its code on the arrays that it starts with
abbrev pub ProgramHas : RunOptions → List PlanItem → ProgramTree → Answer → Type 0
ProgramHas options items t answer = CodeHas options items (code_of t) (initial_arrays t) answer

-- that of a text: its program's, or its refusal
abbrev pub TextHas : RunOptions → List PlanItem → List ℕ → Answer → Type 0
TextHas options items text answer = programs.TextHas (ProgramHas options items) text answer

-- the answer of a text with such options and such a plan: that the plan is refused, or that by its items
abbrev pub CountedRunHas : RunOptions → (plan : List ℕ) → List ℕ → Answer → Type 0
CountedRunHas options plan text answer = PlannedHas plan_form plan options.processors (TextHas options) text answer

-- the answers of such a `run` with such options and such a plan
abbrev pub CountedRunMay : RunOptions → (plan : List ℕ) → Port → Answer → Type 0
CountedRunMay options plan source answer = PlannedMay plan_form plan options.processors (TextHas options) text_limit source answer

-- With all plans two answers of a text are one where there is one processor, and what stands after more bytes than a text may have changes none.
pub record CountedAnswersAreOne : Type 0 where
  pub one : (options : RunOptions) (plan : List ℕ) → options.processors ≡ 1 → AreOne (CountedRunHas options plan)
  pub front : (options : RunOptions) (plan : List ℕ) → FrontsDecide text_limit (CountedRunHas options plan)
