use Rattle.std.proofs.Common.{◌+◌, ◌∙◌, ap, ap₂, arith}
use Rattle.ppm_depth.proofs.EndLemmas.{length_words}
use Rattle.ppm_plan.specs.Draws.{seeded}
use Rattle.ppm_strand_runs.specs.Draws.{steps_drawn}
use Rattle.ppm_strands_command.specs.Lines.{drawn_line as line_of_drawn}
use Rattle.ppm_strands_command.specs.Strands.{run_answer}
use Rattle.ppm_strands_command.proofs.drawn.drawn_told.Goals as goal

-- the words of the run are those of the arrays
pub run_told-requires : goal.run_told-requires
run_told-requires c =
    let many = c.requires.run.come.shows.word_count in
    let same = length_words c.args.input.now in
    omega (arith, many, same)

-- the answer comes after the line of the schedule that was drawn
pub returns : goal.returns
returns c =
    let seed = ap₂ (λ a b. a + b) c.from.ensures c.from-2.ensures in
    let drawn = ap (λ s. steps_drawn c.args.options.strands c.args.options.steps (seeded s)) seed in
    let items = c.deref.ensures.value ∙ c.in_ok-items.ensures.drawn ∙ drawn in
    c.in_ok-answer.ensures
    ∙ ap (λ line. run_answer line c.args.options.form c.args.input.now c.args.drawn.now.run)
    (c.in_ok-line.ensures ∙ ap₂ line_of_drawn seed items)
