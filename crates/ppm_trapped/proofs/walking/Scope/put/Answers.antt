use Rattle.std.proofs.Common.{◌≡◌, ◌∙◌, ap, rules, map, set, ℤ, to_z, of_z, w64}
use Rattle.ppm_tree.specs.State.{array_at}
use Rattle.ppm_tree.specs.Tree.{expression_of, procedure_of}
use Rattle.ppm_tree.specs.Tree as tree
use Rattle.ppm_by_name.specs.Frames.{frame_of, region_of}
use Rattle.ppm_trapped.specs.Sites.{Does, Itself}
use Rattle.ppm_trapped.proofs.WalkLemmas.{exit_walks, halt_at, put_ends}
use Rattle.ppm_by_name.proofs.FrameLemmas.{put_is}
use Rattle.ppm_trapped.proofs.walking.Scope.put.Goals as goal

pub returns-in_err-at : goal.returns-in_err-at
returns-in_err-at c =
    let s = tree.Put c.args.name.now (expression_of c.args.index.now) (expression_of c.args.e.now) in
    exit_walks (map procedure_of c.args.self.now.procedures.now) _ _ c.in_err-at.field-0.0 c.from_residual.result c.from_residual.ensures.1
    (halt_at (map procedure_of c.args.self.now.procedures.now) (procedure_of c.args.self.now.procedure.now) (Does s) (frame_of c.args.frame.now) c.args.store.now _
    c.in_err-at.field-0.0 (Itself (procedure_of c.args.self.now.procedure.now) s (frame_of c.args.frame.now) c.args.store.now) c.in_err-at.ensures.value)

pub returns : goal.returns
returns c =
    let r : to_z w64 (of_z w64 c.in_ok-at.value) ≡ c.in_ok-at.value = search rules in
    put_ends (map procedure_of c.args.self.now.procedures.now) (procedure_of c.args.self.now.procedure.now) c.args.name.now (expression_of c.args.index.now)
    (expression_of c.args.e.now) c.args.frame.now c.args.store.now c.put.new.self (c.in_ok-at.at, c.in_ok-at.value) c.in_ok-at.ensures.value
    (put_is c.args.store.now c.put.new.self (region_of c.args.frame.now.regions c.args.name.now.name) c.region-region.result c.array.result c.place.result
    c.in_ok-at.at c.in_ok-at.value c.region-region.ensures c.array.ensures c.place.ensures
    (c.put.ensures ∙ ap (λ (v : ℤ). set c.args.store.now c.array.result (set (array_at c.args.store.now c.array.result) c.place.result v)) r))
