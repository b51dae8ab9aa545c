use Rattle.std.proofs.Common.{refl, sym, ◌∙◌}
use Rattle.ppm_expected.proofs.FollowLemmas.{collects_none, collects_one, collects_other, collects_all}
use Rattle.ppm_expected.proofs.expected.first_terminals.Goals as goal

-- nothing is found yet
pub terminals-init : goal.terminals-init
terminals-init c = collects_none _ _ _ c.new-all.ensures.items refl

-- the kind can come first
pub terminals-preserved-in_ok-push : goal.terminals-preserved-in_ok-push
terminals-preserved-in_ok-push c =
    collects_one _ _ _ _ _ c.terminals.invariant c.in-Some.ensures.cases.0 (sym c.if-can_come.true ∙ c.can_come.ensures) c.in_ok-push.ensures.items

-- it cannot
pub terminals-preserved : goal.terminals-preserved
terminals-preserved c = collects_other _ _ _ _ c.terminals.invariant c.in-Some.ensures.cases.0 (sym c.if-can_come.false ∙ c.can_come.ensures)

-- none is left
pub returns : goal.returns
returns c = collects_all _ _ c.terminals.invariant c.in_default.ensures.cases
