use Rattle.std.proofs.Common.{◌≡◌, ◌∙◌, ap, refl, rules, to_z, of_z, w64}
use Rattle.ppm_tree.specs.Tree.{block_of, expression_of}
use Rattle.ppm_by_name.specs.Frames.{with_bound}
use Rattle.ppm_standing.specs.Shown.{run_of}
use Rattle.ppm_standing.proofs.RunLemmas.{set_done}
use Rattle.ppm_standing.proofs.run.Run.set.Goals as goal

pub returns : goal.returns
returns c =
    let r : to_z w64 (of_z w64 c.in_ok-value.value) ≡ c.in_ok-value.value = search rules in
    set_done c.args.name.now (expression_of c.args.e.now) (block_of c.args.rest.now) (run_of c.args.self.now) (run_of c.go_on.new.self) c.in_ok-value.value
    c.args.self.now.frame c.set.new.self refl c.in_ok-value.ensures (c.in_ok-set.ensures ∙ ap (with_bound c.args.self.now.frame c.args.name.now.name) r) c.go_on.ensures
