use Rattle.std.proofs.Common.{sym, ◌∙◌}
use Rattle.ppm_expected.proofs.StepLemmas.{read_none, read_on}
use Rattle.ppm_expected.proofs.expected.after.Goals as goal

-- a whole text is to come
pub tokens-init : goal.tokens-init
tokens-init c = read_none _ _ _ c.new-stack.ensures.items c.in_ok-push.ensures.items

-- the token can come
pub tokens-preserved : goal.tokens-preserved
tokens-preserved c =
    read_on c.tokens.stack.items c.deref.result.now c.advance.new.stack.items c.in-Some.token.now c.tokens.invariant
    c.in-Some.ensures.cases.0 c.deref.ensures.value c.of-kind.ensures (sym c.if-not-can_come.false ∙ c.can_come.ensures)
    c.in_ok-advance.ensures
