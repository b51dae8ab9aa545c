use Rattle.std.proofs.Common.{sym, ◌∙◌, arith}
use Rattle.std.proofs.lemmas.Result.{IfOk-weaker}
use Rattle.ppm_expected.proofs.StepLemmas.{advanced, advanced_over, advanced_none}
use Rattle.ppm_expected.proofs.stack.advance.Goals as goal

-- the item on top can begin so
pub returns-then-begins : goal.returns-then-begins
returns-then-begins c =
    IfOk-weaker c.enter.result _ _
    (λ r e. c.items.invariant _
    (advanced c.items.stack.items c.pop.new.self.items c.in-Some.item c.in-Some.ensures.items (sym c.if-begins.true ∙ c.begins.ensures) e)) c.enter.ensures

-- it cannot, and is passed over
pub items-preserved : goal.items-preserved
items-preserved c = λ new a.
    c.items.invariant new
    (advanced_over c.items.stack.items c.pop.new.self.items c.in-Some.item c.in-Some.ensures.items (sym c.if-begins.false ∙ c.begins.ensures) a)

-- nothing is on the stack
pub returns : goal.returns
returns c =
    c.items.invariant _ (advanced_none c.items.stack.items _ _ (omega (arith, c.items.stack.ok.0, c.in_default.ensures.cases.0)))
