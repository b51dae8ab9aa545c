use Rattle.std.proofs.Common.{sym, refl, ap, ◌∙◌}
use Rattle.ppm_code.specs.declared.act.Act.TheVariants.{Sets, Passes, Jumps, Steps, Ends}
use Rattle.ppm_code.specs.declared.act.Step.TheVariants.{Loads, Stores, Asks}
use Rattle.ppm_racy.specs.declared.instr.RacyAct.TheVariants.{Plain, Exchanges}
use Rattle.ppm_racy.proofs.CapsuleLemmas.{worked, past_end, decoded}
use Rattle.ppm_racy.proofs.touch.reach.Goals as goal

-- a register is set
pub loop-at-preserved-in-Sets : goal.loop-at-preserved-in-Sets
loop-at-preserved-in-Sets c = λ block. rw c.from.ensures
    (worked block c.args.array_words c.loop-at.at c.args.instrs.now c.loop-at.registers c.index-instrs-at.result
    (Plain (Sets c.in-Sets.to c.in-Sets.word)) _ c.loop-at-test.true c.index-instrs-at.is
    (decoded c.act-act.result _ c.in-Plain.plain (Sets c.in-Sets.to c.in-Sets.word) c.act-act.ensures c.in-Plain.is (c.in-Sets.is))
    (c.loop-at.invariant block))

-- nothing is done
pub loop-at-preserved-in-Passes : goal.loop-at-preserved-in-Passes
loop-at-preserved-in-Passes c = λ block.
    (worked block c.args.array_words c.loop-at.at c.args.instrs.now c.loop-at.registers c.index-instrs-at.result
    (Plain (Passes)) _ c.loop-at-test.true c.index-instrs-at.is
    (decoded c.act-act.result _ c.in-Plain.plain (Passes) c.act-act.ensures c.in-Plain.is (c.in-Passes.is))
    (c.loop-at.invariant block))

-- an instruction further on follows
pub loop-at-preserved-in-Jumps : goal.loop-at-preserved-in-Jumps
loop-at-preserved-in-Jumps c = λ block. rw c.max-at.ensures
    (worked block c.args.array_words c.loop-at.at c.args.instrs.now c.loop-at.registers c.index-instrs-at.result
    (Plain (Jumps c.in-Jumps.target)) _ c.loop-at-test.true c.index-instrs-at.is
    (decoded c.act-act.result _ c.in-Plain.plain (Jumps c.in-Jumps.target) c.act-act.ensures c.in-Plain.is (c.in-Jumps.is))
    (c.loop-at.invariant block))

-- room is asked for
pub loop-at-preserved : goal.loop-at-preserved
loop-at-preserved c = λ block.
    (worked block c.args.array_words c.loop-at.at c.args.instrs.now c.loop-at.registers c.index-instrs-at.result
    (Plain (Steps (Asks c.in-Asks.field-0))) _ c.loop-at-test.true c.index-instrs-at.is
    (decoded c.act-act.result _ c.in-Plain.plain (Steps (Asks c.in-Asks.field-0)) c.act-act.ensures c.in-Plain.is (c.in-Steps.is ∙ ap Steps c.in-Asks.is))
    (c.loop-at.invariant block))

-- a word is exchanged
pub returns-in-Exchanges-clause-left : goal.returns-in-Exchanges-clause-left
returns-in-Exchanges-clause-left c = λ block. sym (c.loop-at.invariant block) ∙ sym
    (worked block c.args.array_words c.loop-at.at c.args.instrs.now c.loop-at.registers c.index-instrs-at.result
    (Exchanges c.in-Exchanges.word c.in-Exchanges.old c.in-Exchanges.new) _ c.loop-at-test.true c.index-instrs-at.is
    (sym c.in-Exchanges.is ∙ c.act-act.ensures) refl)

-- a word is loaded
pub returns-in-Loads-clause-left : goal.returns-in-Loads-clause-left
returns-in-Loads-clause-left c = λ block. sym (c.loop-at.invariant block) ∙ sym
    (worked block c.args.array_words c.loop-at.at c.args.instrs.now c.loop-at.registers c.index-instrs-at.result
    (Plain (Steps (Loads c.in-Loads.location c.in-Loads.to))) _ c.loop-at-test.true c.index-instrs-at.is
    (decoded c.act-act.result _ c.in-Plain.plain (Steps (Loads c.in-Loads.location c.in-Loads.to))
    c.act-act.ensures c.in-Plain.is (c.in-Steps.is ∙ ap Steps c.in-Loads.is)) refl)

-- or stored
pub returns-in-Stores-clause-left : goal.returns-in-Stores-clause-left
returns-in-Stores-clause-left c = λ block. sym (c.loop-at.invariant block) ∙ sym
    (worked block c.args.array_words c.loop-at.at c.args.instrs.now c.loop-at.registers c.index-instrs-at.result
    (Plain (Steps (Stores c.in-Stores.location c.in-Stores.word))) _ c.loop-at-test.true c.index-instrs-at.is
    (decoded c.act-act.result _ c.in-Plain.plain (Steps (Stores c.in-Stores.location c.in-Stores.word))
    c.act-act.ensures c.in-Plain.is (c.in-Steps.is ∙ ap Steps c.in-Stores.is)) refl)

-- an end is come to
pub returns-in-Ends-clause-left : goal.returns-in-Ends-clause-left
returns-in-Ends-clause-left c = λ block. sym (c.loop-at.invariant block) ∙ sym
    (worked block c.args.array_words c.loop-at.at c.args.instrs.now c.loop-at.registers c.index-instrs-at.result
    (Plain (Ends c.in-Ends.end)) _ c.loop-at-test.true c.index-instrs-at.is
    (decoded c.act-act.result _ c.in-Plain.plain (Ends c.in-Ends.end) c.act-act.ensures c.in-Plain.is (c.in-Ends.is)) refl)

-- or the instructions are over
pub returns-clause-left : goal.returns-clause-left
returns-clause-left c = λ block. sym (c.loop-at.invariant block)
    ∙ past_end block c.args.array_words c.loop-at.at c.args.instrs.now c.loop-at.registers c.loop-at-test.false
