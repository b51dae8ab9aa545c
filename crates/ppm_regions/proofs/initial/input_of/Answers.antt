use Rattle.std.proofs.Common.{◌≡◌, arith, sym, ◌∙◌}
use Rattle.ppm_regions.proofs.Inputs.{input_here, input_not_here}
use Rattle.ppm_regions.proofs.initial.input_of.Goals as goal

-- this is the first one with the name
pub returns-then-is : goal.returns-then-is
returns-then-is c =
    c.as_slice.ensures
    ∙ sym (input_here c.args.name.now c.args.inputs.now c.loop-input.input-index c.input-item.result c.loop-input-test.true c.input-item.is
    (grind (arith, c.is.ensures, c.if-is.true)))
    ∙ c.loop-input.invariant

-- this one has another name
pub loop-input-preserved : goal.loop-input-preserved
loop-input-preserved c =
    input_not_here c.args.name.now c.args.inputs.now c.loop-input.input-index c.input-item.result c.loop-input-test.true c.input-item.is
    (λ e. grind (arith, c.is.ensures, c.if-is.false, e))
    ∙ c.loop-input.invariant
