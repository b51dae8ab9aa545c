use Rattle.std.proofs.Common.{arith, sym, ap, ◌-◌, ◌∙◌, ◌++◌, ◌∷◌, []}
use Rattle.ppm_plan.specs.Draws.{seeded}
use Rattle.ppm_sweep.proofs.DrawLemmas.{acts_drawn, drawn_is, none_drawn, one_more}
use Rattle.ppm_sweep.proofs.FoundLemmas.{no_more}
use Rattle.ppm_sweep.proofs.drawing.draw.Goals as goal

-- nothing is drawn yet
pub loop-left-init : goal.loop-left-init
loop-left-init c =
    let words = c.seed_from_u64-words.ensures ∙ ap seeded c.from.ensures in
    (λ i. c.new-windows.ensures.items i ++ acts_drawn c.args.from c.args.among c.args.draws.runs (words i))

-- one act more
pub loop-left-preserved : goal.loop-left-preserved
loop-left-preserved c =
    one_more c.args.from c.args.among c.loop-left.left (c.loop-left.left - 1) c.loop-left.words c.next_word-word.new.self c.next_word-word.result
    c.loop-left.windows.items c.push.new.self.items _ (omega (arith, c.loop-left-test.true)) c.next_word-word.ensures
    (c.in_ok-push.ensures.items ∙ ap (λ w. c.loop-left.windows.items ++ w ∷ []) c.one_act.ensures) c.loop-left.invariant

-- all are drawn
pub returns : goal.returns
returns c =
    sym (no_more c.loop-left.windows.items)
    ∙ sym (ap (λ l. c.loop-left.windows.items ++ l) (none_drawn c.args.from c.args.among c.loop-left.left c.loop-left.words (omega (arith, c.loop-left-test.false))))
    ∙ c.loop-left.invariant ∙ sym (drawn_is c.args.from c.args.among c.args.draws c.requires.some)
