use Rattle.std.proofs.Common.{arith, ◌-◌, ◌∙◌, ap, ◌++◌, ◌∷◌, []}
use Rattle.ppm_strand_runs.proofs.DrawLemmas.{one_more}
use Rattle.ppm_strand_runs.proofs.drawn.draw.Goals as goal

-- one step more
pub loop-left-preserved : goal.loop-left-preserved
loop-left-preserved c =
    one_more c.args.strands c.loop-left.left (c.loop-left.left - 1) c.loop-left.words c.next_word-word.new.self c.next_word-word.result
    c.loop-left.items.items c.push.new.self.items _ (omega (arith, c.loop-left-test.true)) c.next_word-word.ensures
    (c.in_ok-push.ensures.items ∙ ap (λ i. c.loop-left.items.items ++ i ∷ []) c.step_of.ensures) c.loop-left.invariant
