use Rattle.std.proofs.Common.{◌<◌, ◌+◌, ◌-◌, ◌++◌, arith, ap, ◌∙◌}
use Rattle.ppm_cut_code.specs.Statements.{names_code}
use Rattle.ppm_cut.proofs.Storing.{names_step}
use Rattle.ppm_cut.proofs.arguments.push_loads.Goals as goal

pub loop-left-preserved : goal.loop-left-preserved
loop-left-preserved c =
    let l = c.loop-left in
    let some : 0 < l.left = omega arith in (
      λ rest. l.invariant.0 rest ∙ ap (λ x. l.body.items ++ x) (names_step l.at l.to l.left some rest)
          ∙ c.in_ok-push_load.ensures.whole (names_code (l.at + 1) (l.to + 1) (l.left - 1) rest),
      omega arith,
      omega arith,
    )
