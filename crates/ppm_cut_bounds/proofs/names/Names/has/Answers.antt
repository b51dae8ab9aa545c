use Rattle.std.proofs.Common.{◌≡◌, ◌↔◌, IsTrue, sym, ap, subst, ◌∙◌}
use Rattle.ppm_cut_bounds.specs.Catching.{has}
use Rattle.ppm_cut_bounds.proofs.Members.{has_here, has_later}
use Rattle.ppm_cut_bounds.proofs.names.Names.has.Goals as goal

-- this is the name
pub returns-then-is : goal.returns-then-is
returns-then-is c =
    let is = subst (λ y. IsTrue c.is.result ↔ (c.args.name.now ≡ y)) c.name.ensures c.is.ensures in
    sym (has_here c.as_slice-mention-items.result.now c.loop-mention.mention-index c.mention-item.result c.args.name.now
    c.loop-mention-test.true c.mention-item.is c.is.result is c.if-is.true)
    ∙ c.loop-mention.invariant ∙ ap (λ l. has l c.args.name.now) c.as_slice-mention-items.ensures

-- this is another one
pub loop-mention-preserved : goal.loop-mention-preserved
loop-mention-preserved c =
    let is = subst (λ y. IsTrue c.is.result ↔ (c.args.name.now ≡ y)) c.name.ensures c.is.ensures in
    has_later c.as_slice-mention-items.result.now c.loop-mention.mention-index c.mention-item.result c.args.name.now
    c.loop-mention-test.true c.mention-item.is c.is.result is c.if-is.false
    ∙ c.loop-mention.invariant
