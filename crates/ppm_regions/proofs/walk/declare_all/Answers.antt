use Rattle.std.proofs.Common.{[], ◌∷◌, ◌++◌, map, refl, sym}
use Rattle.std.proofs.lemmas.List.{append-nil}
use Rattle.ppm_regions.specs.Scope.{of_parameter}
use Rattle.ppm_regions.specs.Kept.{seen}
use Rattle.ppm_regions.specs.Uses.{declaration_sites}
use Rattle.ppm_regions.proofs.KeptLemmas.{becomes_next, becomes_same, stays}
use Rattle.ppm_regions.proofs.Least.{least_empty}
use Rattle.ppm_regions.proofs.Loops.{loop_step, declared_more_of, declared_scope_of}
use Rattle.ppm_regions.proofs.walk.declare_all.Goals as goal

-- none so far
pub loop-parameter-init : goal.loop-parameter-init
loop-parameter-init c = record { least = λ t. least_empty t; scope = becomes_same _ _ _ _ (λ s. sym (append-nil s)) (stays c.args.scope.now) }

-- the parameters so far and one more
pub loop-parameter-preserved : goal.loop-parameter-preserved
loop-parameter-preserved c =
    let start = seen c.args.scope.now in
    let i = c.loop-parameter.parameter-index in
    let ps = c.args.parameters.now in
    let p = c.parameter-item.result in
    record {
      least = λ t.
          rw c.earlier-found.ensures
          (loop_step t (λ ps. declaration_sites start (map of_parameter ps)) (λ ps p. declaration_sites (start ++ map of_parameter ps) (of_parameter p ∷ []))
          (declared_more_of of_parameter start) ps i p _ _ c.loop-parameter-test.true c.parameter-item.is (c.loop-parameter.invariant.least t)
          (rw (c.plain.ensures, c.loop-parameter.invariant.scope.scope) at c.in_ok-twice.ensures.least t));
      scope =
          becomes_next _ _ _ _ _ _ c.loop-parameter.invariant.scope c.in_ok-twice.ensures.scope
          (λ s. declared_scope_of of_parameter s ps i p _ _ _ c.loop-parameter-test.true c.parameter-item.is refl c.plain.ensures refl);
    }
