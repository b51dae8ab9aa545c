use Rattle.std.proofs.Common.{◌≡◌, ◌∙◌}
use Rattle.ppm_regions.proofs.Index.{called}
use Rattle.ppm_regions.proofs.procedures.Procedures.callee.Goals as goal

pub returns : goal.returns
returns c =
    called c.self.inside.by_name c.args.self.now c.self.inside.tree.now c.args.name.now c.as_bytes.result.now c.copied.result c.self.invariant c.self.view_is
    c.as_bytes.ensures.value (c.copied.ensures ∙ c.get.ensures.value)
