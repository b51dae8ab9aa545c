use Rattle.std.proofs.Common.{ℕ, List, length, sym, ap, ◌∙◌, subst, arith}
use Rattle.ppm_racy.specs.declared.code.RacyCapsule.{RacyCapsule}
use Rattle.ppm_racy.specs.declared.code.RacyParts.{RacyParts}
use Rattle.ppm_racy.specs.Code.{instrs_of}
use Rattle.ppm_war.proofs.CodeLemmas.{and_here}
use Rattle.ppm_racy_gaps.specs.Repeats.{HasNoRepeat, IsFirstRepeatIn}
use Rattle.ppm_racy_gaps.proofs.CodeLemmas.{all_without}
use Rattle.ppm_racy_gaps.proofs.repeats.first_repeat.Goals as goal

-- no earlier capsule has one
pub returns-in-Some : goal.returns-in-Some
returns-in-Some c = record {
  earlier = λ number less. c.loop-number.invariant number (omega (arith, less, c.in-Some.ensures.capsule));
  first = subst (λ (n : ℕ). IsFirstRepeatIn c.args.code.now n c.in-Some.repeat) (sym c.in-Some.ensures.capsule) c.in-Some.ensures;
}

-- nor has this one
pub loop-number-preserved : goal.loop-number-preserved
loop-number-preserved c =
    and_here (λ n. HasNoRepeat (instrs_of c.args.code.now n)) c.loop-number.number c.loop-number.invariant c.in_default.ensures

-- all capsules were met
pub returns : goal.returns
returns c =
    let all = ap (λ (cs : List RacyCapsule). length cs) (c.as_slice-count.ensures ∙ ap (λ (p : RacyParts). p.capsules) c.parts.ensures.value) in
    all_without c.args.code.now c.loop-number.number (omega (arith, all, c.loop-number-test.false)) c.loop-number.invariant
