use Rattle.std.proofs.Common.{refl}
use Rattle.ppm_regions.specs.Deciding.{IsNamedMain}
use Rattle.ppm_regions.proofs.Elements.{contains_at, none_more, none_all, none_first}
use Rattle.ppm_regions.proofs.program.has_main.Goals as goal

pub loop-procedure-init : goal.loop-procedure-init
loop-procedure-init c = none_first IsNamedMain c.args.procedures.now

-- this one is not `main`
pub loop-procedure-preserved : goal.loop-procedure-preserved
loop-procedure-preserved c =
    none_more IsNamedMain c.args.procedures.now c.loop-procedure.procedure-index c.procedure-item.result c.loop-procedure-test.true c.procedure-item.is
    c.loop-procedure.invariant (λ h. let told = c.is_main.ensures.1 h in absurd (cc))

-- this one is
pub returns-then-is_main : goal.returns-then-is_main
returns-then-is_main c = (
  λ t. (
    c.procedure-item.result,
    contains_at c.args.procedures.now c.loop-procedure.procedure-index c.procedure-item.result c.loop-procedure-test.true c.procedure-item.is,
    c.is_main.ensures.0 (cc),
  ),
  λ one. refl,
)

-- none is
pub returns : goal.returns
returns c = (λ t. absurd (cc), λ one. absurd (none_all IsNamedMain c.args.procedures.now c.loop-procedure.procedure-index c.loop-procedure-test.false c.loop-procedure.invariant one))
