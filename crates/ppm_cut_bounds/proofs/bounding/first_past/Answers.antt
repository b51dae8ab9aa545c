use Rattle.std.proofs.Common.{◌+◌, map, true≢false, sym, ap, subst, ◌∙◌}
use Rattle.ppm_tree.specs.Tree.{procedure_of}
use Rattle.ppm_cut_bounds.specs.Refusals.{IsFirstPast}
use Rattle.ppm_cut_bounds.proofs.First.{first_here, first_later, all_later}
use Rattle.ppm_cut_bounds.proofs.bounding.first_past.Goals as goal

-- this is the first one that doesn't keep the bound
pub returns-then-not-branch : goal.returns-then-not-branch
returns-then-not-branch c =
    subst (IsFirstPast c.args.bound (map procedure_of c.args.procedures.now)) (sym c.loop-procedure.invariant.0)
    (first_here c.args.bound c.args.procedures.now c.loop-procedure.procedure-index c.procedure-item.result c.loop-procedure-test.true c.procedure-item.is
    (map procedure_of c.args.procedures.now) (λ h. true≢false (sym (c.in_ok-keeps.ensures.1 h) ∙ c.if-not-branch.true)) c.loop-procedure.invariant.2)

-- one more keeps the bound
pub loop-procedure-preserved : goal.loop-procedure-preserved
loop-procedure-preserved c =
    let kept = c.in_ok-keeps.ensures.0 c.if-not-branch.false in (
      ap (λ n. n + 1) c.loop-procedure.invariant.0,
      all_later c.args.bound c.args.procedures.now c.loop-procedure.procedure-index c.procedure-item.result c.loop-procedure-test.true c.procedure-item.is
          (map procedure_of c.args.procedures.now) kept c.loop-procedure.invariant.1,
      first_later c.args.bound c.args.procedures.now c.loop-procedure.procedure-index c.procedure-item.result c.loop-procedure-test.true c.procedure-item.is
          (map procedure_of c.args.procedures.now) kept c.loop-procedure.invariant.2,
    )
