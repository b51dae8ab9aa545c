use Rattle.std.proofs.Common.{sym, refl, ◌∙◌, arith}
use Rattle.ppm_code.specs.declared.act.Act.TheVariants.{Sets, Passes, Jumps, Steps, Ends}
use Rattle.ppm_code.proofs.CapsuleLemmas.{worked, past_end}
use Rattle.ppm_code.proofs.work.reach.Goals as goal

-- a register is set
pub loop-at-preserved-in-Sets : goal.loop-at-preserved-in-Sets
loop-at-preserved-in-Sets c = record {
  left = rw c.from.ensures (worked c.args.array_words c.loop-at.at c.args.instrs.now c.loop-at.registers c.index-instrs-at.result
      (Sets c.in-Sets.to c.in-Sets.word) _ c.loop-at-test.true c.index-instrs-at.is c.in-Sets.ensures c.loop-at.invariant.left);
  further = omega arith;
}

-- nothing is done
pub loop-at-preserved-in-Passes : goal.loop-at-preserved-in-Passes
loop-at-preserved-in-Passes c = record {
  left = worked c.args.array_words c.loop-at.at c.args.instrs.now c.loop-at.registers c.index-instrs-at.result
      Passes _ c.loop-at-test.true c.index-instrs-at.is c.in-Passes.ensures c.loop-at.invariant.left;
  further = omega arith;
}

-- an instruction further on follows
pub loop-at-preserved : goal.loop-at-preserved
loop-at-preserved c = record {
  left = rw c.max-at.ensures (worked c.args.array_words c.loop-at.at c.args.instrs.now c.loop-at.registers c.index-instrs-at.result
      (Jumps c.in-Jumps.target) _ c.loop-at-test.true c.index-instrs-at.is c.in-Jumps.ensures c.loop-at.invariant.left);
  further = omega arith;
}

-- a step is come to
pub returns-in-Steps-clause-left : goal.returns-in-Steps-clause-left
returns-in-Steps-clause-left c =
    sym c.loop-at.invariant.left ∙ sym (worked c.args.array_words c.loop-at.at c.args.instrs.now c.loop-at.registers c.index-instrs-at.result
    (Steps c.in-Steps.step) _ c.loop-at-test.true c.index-instrs-at.is c.in-Steps.ensures refl)

-- an end is come to
pub returns-in-Ends-clause-left : goal.returns-in-Ends-clause-left
returns-in-Ends-clause-left c =
    sym c.loop-at.invariant.left ∙ sym (worked c.args.array_words c.loop-at.at c.args.instrs.now c.loop-at.registers c.index-instrs-at.result
    (Ends c.in-Ends.end) _ c.loop-at-test.true c.index-instrs-at.is c.in-Ends.ensures refl)

-- or the instructions are over
pub returns-clause-left : goal.returns-clause-left
returns-clause-left c = sym c.loop-at.invariant.left ∙ past_end c.args.array_words c.loop-at.at c.args.instrs.now c.loop-at.registers c.loop-at-test.false
