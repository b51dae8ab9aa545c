use Rattle.std.proofs.Common.{◌≡◌, subst, ℤ, to_z-of_z}
use Rattle.std.specs.Prelude.{OnOk}
use Rattle.ppm_by_name.specs.Frames.{with_bound}
use Rattle.ppm_by_name.proofs.FrameLemmas.{delivered_is}
use Rattle.ppm_by_name.proofs.frame.Frame.deliver.Goals as goal

pub returns-in-Some-clause-frame : goal.returns-in-Some-clause-frame
returns-in-Some-clause-frame c =
    delivered_is c.args.self.now c.set.new.self c.args.target.now c.in-Some.target c.args.value c.set.result c.in-Some.is
    (subst (λ (v : ℤ). OnOk c.set.result (c.set.new.self ≡ with_bound c.args.self.now c.in-Some.target.name v)) (to_z-of_z c.ranges.value) c.set.ensures)
