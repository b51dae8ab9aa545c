use Rattle.std.proofs.Common.{arith, subst, sym, ◌∙◌}
use Rattle.ppm_listing_reader.specs.declared.place.Place.TheVariants.{AtVersion}
use Rattle.ppm_listing_reader.specs.Faults.{IsLeastRule}
use Rattle.ppm_listing_reader.proofs.FirstLemmas.{passed_step, breaks_first, ends_now, counted-next}
use Rattle.ppm_listing_reader.proofs.first.first_fault.Goals as goal

-- the line breaks a rule, and none before it
pub returns-in-Some : goal.returns-in-Some
returns-in-Some c =
    breaks_first c.args.code.now AtVersion c.loop-left.place c.args.lines.now c.loop-left.left.now c.loop-left.number c.line-item.result _
    c.in-Some.fault c.in-len1-up.len_at_least c.line-item.is c.loop-left.invariant.passed (omega (arith, c.loop-left.invariant.length))
    (subst (IsLeastRule c.args.code.now c.loop-left.place c.line-item.result) c.in-Some.is c.line_fault.ensures)

-- it breaks none
pub loop-left-preserved : goal.loop-left-preserved
loop-left-preserved c =
    let rule = subst (IsLeastRule c.args.code.now c.loop-left.place c.line-item.result) c.in_default-line_fault.is c.line_fault.ensures in
    let next = passed_step c.args.code.now AtVersion c.loop-left.place c.args.lines.now c.loop-left.left.now c.loop-left.number c.line-item.result _
    c.in-len1-up.len_at_least c.line-item.is c.loop-left.invariant.passed rule.none in
    rw c.next-place.ensures (record {
      passed = next;
      length = omega (arith, c.loop-left.invariant.length, c.in-len1-up.len_at_least);
      counted = omega (arith, counted-next c.loop-left.place c.line-item.result, c.loop-left.invariant.counted);
    })

-- no capsule has come
pub returns-then-ends_early : goal.returns-then-ends_early
returns-then-ends_early c =
    ends_now c.args.code.now AtVersion c.loop-left.place c.args.lines.now c.loop-left.left.now c.loop-left.number c.in_default.len_below
    c.loop-left.invariant.passed (omega (arith, c.loop-left.invariant.length)) (sym c.ends_early.ensures ∙ c.if-ends_early.true)
