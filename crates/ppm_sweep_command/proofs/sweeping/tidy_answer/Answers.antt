use Rattle.std.proofs.Common.{refl, sym, ◌∙◌}
use Rattle.ppm_sweep_command.proofs.SweepingLemmas.{goes_on, is_within}
use Rattle.ppm_sweep_command.proofs.sweeping.tidy_answer.Goals as goal

-- the run takes more capsules
pub returns-then-goes_on : goal.returns-then-goes_on
returns-then-goes_on c = (
  refl,
  goes_on c.args.code.now c.args.input.now c.args.options.capsules c.in_ok-depth.depth c.requires.tidy c.in_ok-depth.ensures.run
      (sym c.goes_on.ensures ∙ c.if-goes_on.true),
)

-- or it comes to an outcome
pub swept_all-requires-clause-within : goal.swept_all-requires-clause-within
swept_all-requires-clause-within c =
    is_within c.args.code.now c.args.input.now c.args.options.capsules c.in_ok-depth.depth c.in_ok-depth.ensures.run
    (sym c.goes_on.ensures ∙ c.if-goes_on.false)
