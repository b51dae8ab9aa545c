use Rattle.std.proofs.Common.{◌<◌, ◌+◌, ◌-◌, ◌++◌, arith, ap, ◌∙◌}
use Rattle.ppm_cut_code.specs.Statements.{stores_code}
use Rattle.ppm_cut.proofs.Storing.{stores_step}
use Rattle.ppm_cut.proofs.arguments.push_stores.Goals as goal

pub loop-left-preserved : goal.loop-left-preserved
loop-left-preserved c =
    let l = c.loop-left in
    let some : 0 < l.left = omega arith in (
      λ rest. l.invariant.0 rest ∙ ap (λ x. l.body.items ++ x) (stores_step l.word l.from l.left some rest)
          ∙ c.in_ok-push_store_new.ensures.whole (stores_code (l.word + 1) (l.from + 1) (l.left - 1) rest),
      omega arith,
      omega arith,
    )
