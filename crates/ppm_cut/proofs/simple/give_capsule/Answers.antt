use Rattle.std.proofs.Common.{sym, ap, ◌∙◌}
use Rattle.ppm_cut.proofs.Growing.{then, made}
use Rattle.ppm_tree.specs.Tree.{give_of}
use Rattle.ppm_cut_code.specs.Statements.{give_code}
use Rattle.ppm_cut.proofs.simple.give_capsule.Goals as goal

pub returns-in_ok-push_finish-in-None : goal.returns-in_ok-push_finish-in-None
returns-in_ok-push_finish-in-None c =
    made c.new-body.ensures.items c.in_ok-push_finish-in-None.ensures ∙ ap (λ g. give_code c.args.layout.now (give_of g)) (sym c.in-None.is)

pub returns-in_ok-push_finish-in-Some : goal.returns-in_ok-push_finish-in-Some
returns-in_ok-push_finish-in-Some c =
    made c.new-body.ensures.items (then c.in_ok-push_expression-in-Some.ensures (then c.in_ok-push_give-in-Some.ensures c.in_ok-push_finish-in-Some.ensures))
    ∙ ap (λ g. give_code c.args.layout.now (give_of g)) (sym c.in-Some.is)
