use Rattle.std.proofs.Common.{◌≡◌, arith, sym, ◌∙◌}
use Rattle.ppm_regions.proofs.Names.{found_here, not_here}
use Rattle.ppm_regions.proofs.program.array_named.Goals as goal

-- this is the first one with the name
pub returns-then-is : goal.returns-then-is
returns-then-is c =
    let same : c.array-item.result.name.name ≡ c.args.name.now.name = grind (arith, c.is.ensures, c.if-is.true) in
    sym c.loop-array.invariant
    ∙ found_here (λ a. a.name.name) c.args.name.now.name c.as_slice-array-items.result.now c.loop-array.array-index c.array-item.result c.loop-array-test.true c.array-item.is same

-- this one has another name
pub loop-array-preserved : goal.loop-array-preserved
loop-array-preserved c =
    not_here (λ a. a.name.name) c.args.name.now.name c.as_slice-array-items.result.now c.loop-array.array-index c.array-item.result c.loop-array-test.true c.array-item.is
    (λ e. grind (arith, c.is.ensures, c.if-is.false, e))
    ∙ c.loop-array.invariant
