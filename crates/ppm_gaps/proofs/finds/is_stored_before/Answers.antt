use Rattle.std.proofs.Common.{arith, refl, ◌+◌}
use Rattle.ppm_code.specs.Paths.{Any}
use Rattle.ppm_gaps.specs.Finds.{IsStoredAt}
use Rattle.ppm_war.proofs.ConflictLemmas.{is_false, none_below}
use Rattle.ppm_war.proofs.MarkLemmas.{path_forward}
use Rattle.ppm_gaps.proofs.finds.is_stored_before.Goals as goal

-- none is below the first place
pub loop-store-init : goal.loop-store-init
loop-store-init c = λ k less x. omega (arith, less)

-- this is one
pub returns-then-is_stored_at : goal.returns-then-is_stored_at
returns-then-is_stored_at c = (λ t. (c.loop-store.store, c.is_stored_at.ensures.0 c.if-is_stored_at.true), λ h. refl)

-- nor is this one
pub loop-store-preserved : goal.loop-store-preserved
loop-store-preserved c = none_below (IsStoredAt c.args.instrs.now c.args.slot c.args.at) c.loop-store.store c.loop-store.invariant
    (λ x. is_false c.is_stored_at.result c.if-is_stored_at.false (c.is_stored_at.ensures.1 x))

-- a store lies before the place
pub returns : goal.returns
returns c = (
  λ f. cc,
  λ h. absurd (c.loop-store.invariant h.0
      (omega (arith, c.loop-store-test.false, path_forward c.args.instrs.now Any (h.0 + 1) c.args.at h.1.between)) h.1),
)
