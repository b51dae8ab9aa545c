use Rattle.std.proofs.Common.{ap, arith}
use Rattle.ppm_cut_code.specs.Layout.{slot_of}
use Rattle.ppm_cut.proofs.Slotting.{slot_here, slot_later}
use Rattle.ppm_cut.proofs.layout.Layout.slot.Goals as goal

pub returns-then-is : goal.returns-then-is
returns-then-is c =
    let e = slot_here c.as_slice-mention-items.result.now c.loop-mention.mention-index c.mention-item.result c.args.name.now c.loop-mention-test.true c.mention-item.is c.name.result.now c.name.ensures c.is.result c.is.ensures c.if-is.true in
    omega (arith, e, ap (λ l. slot_of l c.args.name.now) c.as_slice-mention-items.ensures)

pub loop-mention-preserved : goal.loop-mention-preserved
loop-mention-preserved c =
    let e = slot_later c.as_slice-mention-items.result.now c.loop-mention.mention-index c.mention-item.result c.args.name.now c.loop-mention-test.true c.mention-item.is c.name.result.now c.name.ensures c.is.result c.is.ensures c.if-is.false in
    (omega arith, omega (arith, e))
