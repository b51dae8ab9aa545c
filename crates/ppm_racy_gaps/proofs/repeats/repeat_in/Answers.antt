use Rattle.std.proofs.Common.{ℕ, arith}
use Rattle.ppm_war.proofs.CodeLemmas.{and_here}
use Rattle.ppm_racy_gaps.specs.Repeats.{IsRepeat}
use Rattle.ppm_racy_gaps.proofs.RepeatLemmas.{first_repeat, none_here, within}
use Rattle.ppm_racy_gaps.proofs.repeats.repeat_in.Goals as goal

-- no exchange before this one
pub returns-in-Some : goal.returns-in-Some
returns-in-Some c = first_repeat c.args.instrs.now c.loop-at.at c.in-Some.write c.loop-at.invariant c.in-Some.ensures

-- nor is this one
pub loop-at-preserved : goal.loop-at-preserved
loop-at-preserved c = and_here (λ (k : ℕ). (write : ℕ) → IsRepeat c.args.instrs.now k write → ⊥) c.loop-at.at c.loop-at.invariant
    (none_here c.args.instrs.now c.loop-at.at c.in_default.ensures)

-- all were met
pub returns : goal.returns
returns c = λ exchange write h.
    c.loop-at.invariant exchange (omega (arith, c.loop-at-test.false, within c.args.instrs.now exchange write h)) write h
