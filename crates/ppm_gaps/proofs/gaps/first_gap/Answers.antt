use Rattle.std.proofs.Common.{ℕ, List, length, sym, ap, ◌∙◌, subst, arith}
use Rattle.ppm_code.specs.declared.code.Capsule.{Capsule}
use Rattle.ppm_code.specs.declared.code.CodeParts.{CodeParts}
use Rattle.ppm_gaps.specs.Gaps.{IsFilledIn, IsFirstGapIn}
use Rattle.ppm_war.proofs.CodeLemmas.{and_here}
use Rattle.ppm_gaps.proofs.CodeLemmas.{all_filled}
use Rattle.ppm_gaps.proofs.gaps.first_gap.Goals as goal

-- no earlier capsule has one
pub returns-in-Some : goal.returns-in-Some
returns-in-Some c = record {
  earlier = λ number less. c.loop-number.invariant number (omega (arith, less, c.in-Some.ensures.capsule));
  first = subst (λ (n : ℕ). IsFirstGapIn c.args.code.now n c.in-Some.gap) (sym c.in-Some.ensures.capsule) c.in-Some.ensures;
}

-- nor has this one
pub loop-number-preserved : goal.loop-number-preserved
loop-number-preserved c = and_here (IsFilledIn c.args.code.now) c.loop-number.number c.loop-number.invariant c.in_default.ensures

-- all capsules were met
pub returns : goal.returns
returns c =
    let all = ap (λ (cs : List Capsule). length cs) (c.as_slice-count.ensures ∙ ap (λ (p : CodeParts). p.capsules) c.parts.ensures.value) in
    all_filled c.args.code.now c.loop-number.number (omega (arith, all, c.loop-number-test.false)) c.loop-number.invariant
