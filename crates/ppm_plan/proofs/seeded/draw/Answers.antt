use Rattle.std.proofs.Common.{arith, ◌-◌, ◌∙◌, ap, ◌++◌, ◌∷◌, []}
use Rattle.ppm_plan.proofs.DrawLemmas.{one_more}
use Rattle.ppm_plan.proofs.seeded.draw.Goals as goal

-- one item more
pub loop-left-preserved : goal.loop-left-preserved
loop-left-preserved c =
    one_more c.args.processors c.loop-left.left (c.loop-left.left - 1) c.loop-left.words c.next_word-u.new.self c.next_word-v.new.self
    c.next_word-z.new.self c.next_word-u.result c.next_word-v.result c.next_word-z.result c.loop-left.items.items c.push.new.self.items _
    (omega (arith, c.loop-left-test.true)) c.next_word-u.ensures c.next_word-v.ensures c.next_word-z.ensures
    (c.in_ok-push.ensures.items ∙ ap (λ i. c.loop-left.items.items ++ i ∷ []) c.item_of.ensures) c.loop-left.invariant
