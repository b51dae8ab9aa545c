use Rattle.std.proofs.Common.{ℕ, List, length, sym, ap, ◌∙◌, subst, arith}
use Rattle.ppm_code.specs.declared.code.Capsule.{Capsule}
use Rattle.ppm_code.specs.declared.code.CodeParts.{CodeParts}
use Rattle.ppm_war.specs.Stores.{IsTidyIn}
use Rattle.ppm_war.specs.Untidy.{IsFirstUntidyIn}
use Rattle.ppm_war.proofs.CodeLemmas.{and_here}
use Rattle.ppm_war.proofs.TidyLemmas.{all_tidy}
use Rattle.ppm_war.proofs.untidy_store.untidy.Goals as goal

-- no earlier capsule has one
pub returns-in-Some : goal.returns-in-Some
returns-in-Some c = record {
  earlier = λ number less. c.loop-number.invariant number (omega (arith, less, c.in-Some.ensures.capsule));
  first = subst (λ (n : ℕ). IsFirstUntidyIn c.args.code.now n c.in-Some.store) (sym c.in-Some.ensures.capsule) c.in-Some.ensures;
}

-- nor has this one
pub loop-number-preserved : goal.loop-number-preserved
loop-number-preserved c = and_here (IsTidyIn c.args.code.now) c.loop-number.number c.loop-number.invariant c.in_default.ensures

-- all capsules were met
pub returns : goal.returns
returns c =
    let all = ap (λ (cs : List Capsule). length cs) (c.as_slice-count.ensures ∙ ap (λ (p : CodeParts). p.capsules) c.parts.ensures.value) in
    all_tidy c.args.code.now c.loop-number.number (omega (arith, all, c.loop-number-test.false)) c.loop-number.invariant
