use Rattle.std.proofs.Common.{ℕ, List, length, sym, ap, ◌∙◌, subst, arith}
use Rattle.ppm_code.specs.declared.code.Capsule.{Capsule}
use Rattle.ppm_code.specs.declared.code.CodeParts.{CodeParts}
use Rattle.ppm_war.specs.Conflicts.{HasNoConflictIn, IsFirstConflictIn}
use Rattle.ppm_war.proofs.CodeLemmas.{all_free, and_here}
use Rattle.ppm_war.proofs.checked.check.Goals as goal

-- no earlier capsule has one
pub returns-in-Some : goal.returns-in-Some
returns-in-Some c = record {
  earlier = λ number less. c.loop-number.invariant number (omega (arith, less, c.in-Some.ensures.capsule));
  first = subst (λ (n : ℕ). IsFirstConflictIn c.args.code.now n c.in-Some.conflict) (sym c.in-Some.ensures.capsule) c.in-Some.ensures;
}

-- nor has this one
pub loop-number-preserved : goal.loop-number-preserved
loop-number-preserved c = and_here (HasNoConflictIn c.args.code.now) c.loop-number.number c.loop-number.invariant c.in_default.ensures

-- all capsules were met
pub invariant_of-result : goal.invariant_of-result
invariant_of-result c =
    let all = ap (λ (cs : List Capsule). length cs) (c.as_slice-count.ensures ∙ ap (λ (p : CodeParts). p.capsules) c.parts.ensures.value) in
    record { free = all_free c.args.code.now c.loop-number.number (omega (arith, all, c.loop-number-test.false)) c.loop-number.invariant }
