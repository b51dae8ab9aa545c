use Rattle.std.proofs.Common.{map, sym, ap, ◌∙◌}
use Rattle.std.proofs.lemmas.Result.{on_ok_weaker}
use Rattle.ppm_tree.specs.Tree.{statement_of, expression_of}
use Rattle.ppm_cut_bounds.specs.Names.{used_by}
use Rattle.ppm_cut_bounds.specs.Catching.{names_in}
use Rattle.ppm_cut_bounds.proofs.Notes.{then_noted, noted_same}
use Rattle.ppm_cut_bounds.proofs.Used.{used_by_call, used_by_fork}
use Rattle.ppm_excess.proofs.walk.Walk.used.Goals as goal

-- the target, and then the arguments
pub returns-in_ok-target-in-Call : goal.returns-in_ok-target-in-Call
returns-in_ok-target-in-Call c =
    on_ok_weaker c.arguments.result (λ n.
    noted_same (used_by_call c.in-Call.side ∙ ap (λ s. used_by (statement_of s)) (sym c.in-Call.is))
    (then_noted c.in_ok-target-in-Call.ensures (noted_same (ap (λ l. names_in (map (λ a. expression_of a.value) l)) c.as_slice.ensures) n))) c.arguments.ensures

-- both targets, and then the arguments of both sides
pub returns-in_ok-arguments-in-Fork : goal.returns-in_ok-arguments-in-Fork
returns-in_ok-arguments-in-Fork c =
    on_ok_weaker c.arguments-in-Fork-2.result (λ n.
    noted_same (used_by_fork c.in-Fork.left c.in-Fork.right ∙ ap (λ s. used_by (statement_of s)) (sym c.in-Fork.is))
    (then_noted (then_noted (then_noted c.in_ok-target-in-Fork.ensures c.in_ok-target-in-Fork-2.ensures)
    (noted_same (ap (λ l. names_in (map (λ a. expression_of a.value) l)) c.as_slice-in-Fork.ensures) c.in_ok-arguments-in-Fork.ensures))
    (noted_same (ap (λ l. names_in (map (λ a. expression_of a.value) l)) c.as_slice-in-Fork-2.ensures) n))) c.arguments-in-Fork-2.ensures
