use Rattle.std.proofs.Common.{◌∙◌, sym}
use Rattle.ppm_choice.specs.Course.{InRound}
use Rattle.ppm_following.proofs.AheadLemmas.{steps_are_rounds, in_round}
use Rattle.ppm_following.proofs.following.go_ahead.Goals as goal

-- it is alone: a round is its step
pub returns-clause-does : goal.returns-clause-does
returns-clause-does c =
    steps_are_rounds c.step_ahead.result (sym c.processors.ensures.value ∙ c.if-processors-ne1.false)
    (c.step_ahead.ensures.does (InRound 0) (in_round 0))
