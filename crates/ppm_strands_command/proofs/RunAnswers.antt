-- The answers of runs: which there are, and that runs which are alike have one.
use Rattle.std.proofs.Common.{◌≡◌, ◌++◌, ℕ, List, Option, Some, None, refl, ap, ◌∙◌}
use Rattle.ppm_words.specs.declared.named_array.NamedArray.{NamedArray}
use Rattle.ppm_depth.specs.declared.frame.Finish.{Finish}
use Rattle.ppm_depth.specs.declared.frame.Finish.TheVariants as finish
use Rattle.ppm_interleaving.specs.Shows.{finish_in}
use Rattle.ppm_strand_runs.specs.Correct.{AreAlike}
use Rattle.ppm_strand_runs.specs.declared.done.Done.{Done}
use Rattle.ppm_strand_runs.specs.declared.done.Fall.{Fall}
use Rattle.ppm_strand_runs.specs.declared.run.StrandRun.{StrandRun}
use Rattle.ppm_cli.specs.declared.strands.StrandsForm.{StrandsForm}
use Rattle.ppm_cli.specs.declared.strands.StrandsForm.TheVariants as form
use Rattle.ppm_answers.specs.declared.sweep.Came.{Came}
use Rattle.ppm_answers.specs.declared.sweep.Came.TheVariants as came
use Rattle.ppm_answers.specs.declared.answer.Answer.{Answer}
use Rattle.ppm_answers.specs.declared.answer.Answer.TheVariants as answers
use Rattle.ppm_strands_command.specs.Lines.{done_lines}
use Rattle.ppm_strands_command.specs.Strands.{answer_by, came_by, came_of, lines_of, run_answer}

-- what a run of strands may come to
abbrev pub IsEnd : Came → Type 0
IsEnd (came.Ended arrays) = Unit {0}
IsEnd (came.Trapped t line) = Unit {0}
IsEnd (came.Unfinished turns) = Unit {0}
IsEnd c = ⊥

-- the answers of a run of strands, and that a store is not tidy
abbrev pub IsOfRun : Answer → Type 0
IsOfRun (answers.Untidy s) = Unit {0}
IsOfRun (answers.Stood lines c) = IsEnd c
IsOfRun (answers.Fell lines c fall) = Unit {0}
IsOfRun answer = ⊥

ends : (input : List NamedArray) (words : List ℕ) (turns : ℕ) (f : Option Finish) → IsEnd (came_by input words turns f)
ends input words turns (Some (finish.Gave value)) = tt
ends input words turns (Some (finish.Trapped t line)) = tt
ends input words turns None = tt

pub by_is : (lines : List ℕ) (input : List NamedArray) (run : StrandRun) (fall : Option Fall) → IsOfRun (answer_by lines (came_of input run) input fall)
by_is lines input run None = ends input run.machine.words.items run.turns (finish_in run.machine.strands.items 0)
by_is lines input run (Some f) = tt

-- the lines of runs with the same deeds are the same
same_lines : (f : StrandsForm) (input : List NamedArray) (a b : StrandRun) → a.done.items ≡ b.done.items → lines_of f input a ≡ lines_of f input b
same_lines form.Arrays input a b e = refl
same_lines form.Text input a b e = ap (λ (done : List Done). done_lines input done) e

same_came : (input : List NamedArray) (a b : StrandRun) → AreAlike a b → came_of input a ≡ came_of input b
same_came input a b alike =
    ap (λ (words : List ℕ). came_by input words a.turns (finish_in a.machine.strands.items 0)) alike.words
    ∙ ap (λ (n : ℕ). came_by input b.machine.words.items n (finish_in a.machine.strands.items 0)) alike.turns
    ∙ ap (λ (f : Option Finish). came_by input b.machine.words.items b.turns f) alike.finish

-- runs that are alike have one answer
pub one_answer : (front : List ℕ) (f : StrandsForm) (input : List NamedArray) (a b : StrandRun) → AreAlike a b
    → run_answer front f input a ≡ run_answer front f input b
one_answer front f input a b alike =
    ap (λ (lines : List ℕ). answer_by (front ++ lines) (came_of input a) input a.fall) (same_lines f input a b alike.done)
    ∙ ap (λ (c : Came). answer_by (front ++ lines_of f input b) c input a.fall) (same_came input a b alike)
    ∙ ap (λ (fall : Option Fall). answer_by (front ++ lines_of f input b) (came_of input b) input fall) alike.fall
