use Rattle.std.proofs.Common.{List, ℕ, ap, ◌∙◌, arith}
use Rattle.ppm_depth.proofs.EndLemmas.{length_words}
use Rattle.ppm_strands_command.specs.Strands.{run_answer}
use Rattle.ppm_strands_command.proofs.strands.schedule_answer.Goals as goal

-- the words of the run are those of the arrays
pub run_told-requires : goal.run_told-requires
run_told-requires c =
    let many = c.in_ok-run.ensures.come.shows.word_count in
    let same = length_words c.args.input.now in
    omega (arith, many, same)

-- the answer of the run
pub returns : goal.returns
returns c = record {
  run = c.in_ok-run.run';
  is = c.in_ok-run.ensures;
  tells = c.in_ok-answer.ensures ∙ ap (λ (front : List ℕ). run_answer front c.args.options.form c.args.input.now c.in_ok-run.run') c.new-front.ensures.items;
}
