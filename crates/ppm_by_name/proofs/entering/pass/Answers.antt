use Rattle.std.proofs.Common.{◌≡◌, ◌∙◌, ap, rules, sym, to_z, of_z, w64}
use Rattle.ppm_tree.specs.Tree.{expression_of}
use Rattle.ppm_by_name.specs.Frames.{frame_of, with_bound}
use Rattle.ppm_by_name.proofs.FrameLemmas.{passed_number}
use Rattle.ppm_by_name.proofs.entering.pass.Goals as goal

pub returns-in_ok-set-in-Ok : goal.returns-in_ok-set-in-Ok
returns-in_ok-set-in-Ok c =
    let r : to_z w64 (of_z w64 c.in-Ok.value) ≡ c.in-Ok.value = search rules in
    passed_number (frame_of c.args.frame.now) c.args.store.now c.args.parameter.now.mode c.args.parameter.now.name.name (expression_of c.args.e.now)
    c.args.callee.now c.set.new.self c.in-Ok.value c.in-Int.is (sym c.in-Ok.ensures) (c.in_ok-set-in-Ok.ensures ∙ ap (with_bound c.args.callee.now c.args.parameter.now.name.name) r)
