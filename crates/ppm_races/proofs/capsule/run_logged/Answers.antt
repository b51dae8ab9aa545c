use Rattle.std.proofs.Common.{◌≡◌, ◌+◌, length, sym, ◌∙◌, ap, arith, ℕ, List, subst}
use Rattle.ppm_code.specs.declared.act.Act.TheVariants.{Sets, Passes, Jumps, Steps, Ends}
use Rattle.ppm_code.specs.declared.act.End.TheVariants.{Finish}
use Rattle.ppm_code.specs.declared.instr.Instr.{Instr}
use Rattle.ppm_code.specs.Capsules.{capsule_from}
use Rattle.ppm_code.specs.Sizes.{slots_at}
use Rattle.ppm_depth.specs.Whole.{block_at}
use Rattle.ppm_depth.proofs.RestLemmas.{IsStepWithin, stepped, step_keeps, step_keeps_words, step_there}
use Rattle.ppm_depth.proofs.WholeLemmas.{act_fits, act_left, asked_few, past_left, place_laid, step_within, whole_ends}
use Rattle.ppm_races.specs.Touches.{AreThere, touches_by, touches_from, touches_of}
use Rattle.ppm_races.specs.declared.touch.Touch.{Touch}
use Rattle.ppm_races.proofs.LogLemmas.{notes_step, notes_act, notes_past, log_whole, there_more, step_noted}
use Rattle.ppm_races.proofs.capsule.run_logged.Goals as goal

-- a register is set
pub loop-at-preserved-in-Sets : goal.loop-at-preserved-in-Sets
loop-at-preserved-in-Sets c =
    let inv = c.loop-at.invariant in
    record {
      left = λ m s. rw c.from.ensures (act_left _ _ _ _ m _ _ _ (length c.as_slice.result.now) c.loop-at.at c.instrs_of-instrs.result.now
          c.loop-at.registers c.index-instrs-at.result (Sets c.in-Sets.to c.in-Sets.word) c.loop-at-test.true c.index-instrs-at.is c.in-Sets.ensures
          (inv.left m s));
      kept = inv.kept;
      words = inv.words;
      asked = inv.asked;
      noted = λ m s. rw c.from.ensures (notes_act _ _ _ _ c.loop-at.store.blocks.items c.loop-at.store.words.items c.loop-at.log.items
          (length c.as_slice.result.now) c.loop-at.at
          c.instrs_of-instrs.result.now c.loop-at.registers c.index-instrs-at.result (Sets c.in-Sets.to c.in-Sets.word) c.loop-at-test.true
          c.index-instrs-at.is c.in-Sets.ensures (inv.noted m s));
      there = inv.there;
      first = λ e. absurd (omega (arith, e));
    }

-- nothing is done
pub loop-at-preserved-in-Passes : goal.loop-at-preserved-in-Passes
loop-at-preserved-in-Passes c =
    let inv = c.loop-at.invariant in
    record {
      left = λ m s. act_left _ _ _ _ m _ _ _ (length c.as_slice.result.now) c.loop-at.at c.instrs_of-instrs.result.now
          c.loop-at.registers c.index-instrs-at.result Passes c.loop-at-test.true c.index-instrs-at.is c.in-Passes.ensures (inv.left m s);
      kept = inv.kept;
      words = inv.words;
      asked = inv.asked;
      noted = λ m s. notes_act _ _ _ _ c.loop-at.store.blocks.items c.loop-at.store.words.items c.loop-at.log.items (length c.as_slice.result.now) c.loop-at.at
          c.instrs_of-instrs.result.now c.loop-at.registers c.index-instrs-at.result (Passes) c.loop-at-test.true c.index-instrs-at.is c.in-Passes.ensures
          (inv.noted m s);
      there = inv.there;
      first = λ e. absurd (omega (arith, e));
    }

-- an instruction further on follows
pub loop-at-preserved-in-Jumps : goal.loop-at-preserved-in-Jumps
loop-at-preserved-in-Jumps c =
    let inv = c.loop-at.invariant in
    record {
      left = λ m s. rw c.max-at.ensures (act_left _ _ _ _ m _ _ _ (length c.as_slice.result.now) c.loop-at.at c.instrs_of-instrs.result.now
          c.loop-at.registers c.index-instrs-at.result (Jumps c.in-Jumps.target) c.loop-at-test.true c.index-instrs-at.is c.in-Jumps.ensures (inv.left m s));
      kept = inv.kept;
      words = inv.words;
      asked = inv.asked;
      noted = λ m s. rw c.max-at.ensures (notes_act _ _ _ _ c.loop-at.store.blocks.items c.loop-at.store.words.items c.loop-at.log.items
          (length c.as_slice.result.now) c.loop-at.at
          c.instrs_of-instrs.result.now c.loop-at.registers c.index-instrs-at.result (Jumps c.in-Jumps.target) c.loop-at-test.true c.index-instrs-at.is
          c.in-Jumps.ensures (inv.noted m s));
      there = inv.there;
      first = λ e. absurd (let far = c.max-at.ensures in omega (arith, e, far));
    }

-- the step is within the frame, the block and the words
pub step-asked-requires : goal.step-asked-requires
step-asked-requires c =
    let inv = c.loop-at.invariant in
    let code = c.args.code.now in
    let fits = act_fits code c.instrs_of-instrs.ensures.code c.requires.tidy c.args.number c.requires.there (length c.as_slice.result.now)
    c.instrs_of-instrs.result.now c.loop-at.at c.index-instrs-at.result c.loop-at.registers (Steps c.in-Steps.step) c.instrs_of-instrs.ensures.value
    c.loop-at-test.true c.index-instrs-at.is c.in-Steps.ensures in
    let words : length c.as_slice.result.now ≡ length c.loop-at.store.words.items = ap (λ (xs : List ℕ). length xs) c.as_slice.ensures.value ∙ sym inv.words in
    step_there (slots_at code c.args.number) _ c.args.place c.in-Steps.step c.loop-at.store.blocks.items c.loop-at.store.words.items
    (place_laid code c.args.number c.args.place _ _ c.requires.place inv.kept)
    (step_within code c.instrs_of-instrs.ensures.code c.requires.tidy c.args.number c.requires.there (length c.as_slice.result.now) c.loop-at.at
    c.in-Steps.step c.args.place c.loop-at.store.words.items words fits)

-- what was asked for is little
pub overflow_add-asked : goal.overflow_add-asked
overflow_add-asked c =
    let inv = c.loop-at.invariant in
    let code = c.args.code.now in
    let fits = act_fits code c.instrs_of-instrs.ensures.code c.requires.tidy c.args.number c.requires.there (length c.as_slice.result.now)
    c.instrs_of-instrs.result.now c.loop-at.at c.index-instrs-at.result c.loop-at.registers (Steps c.in-Steps.step) c.instrs_of-instrs.ensures.value
    c.loop-at-test.true c.index-instrs-at.is c.in-Steps.ensures in
    let few = asked_few code c.instrs_of-instrs.ensures.code c.requires.tidy c.args.number c.requires.there (length c.as_slice.result.now)
    c.loop-at.at c.in-Steps.step c.loop-at.asked c.step-asked.result fits c.step-asked.ensures.asked inv.asked inv.first in
    omega (arith, few)

-- a step is made
pub loop-at-preserved : goal.loop-at-preserved
loop-at-preserved c =
    let inv = c.loop-at.invariant in
    let code = c.args.code.now in
    let fits = act_fits code c.instrs_of-instrs.ensures.code c.requires.tidy c.args.number c.requires.there (length c.as_slice.result.now)
    c.instrs_of-instrs.result.now c.loop-at.at c.index-instrs-at.result c.loop-at.registers (Steps c.in-Steps.step) c.instrs_of-instrs.ensures.value
    c.loop-at-test.true c.index-instrs-at.is c.in-Steps.ensures in
    let words : length c.as_slice.result.now ≡ length c.loop-at.store.words.items = ap (λ (xs : List ℕ). length xs) c.as_slice.ensures.value ∙ sym inv.words in
    let within = step_within code c.instrs_of-instrs.ensures.code c.requires.tidy c.args.number c.requires.there (length c.as_slice.result.now)
    c.loop-at.at c.in-Steps.step c.args.place c.loop-at.store.words.items words fits in
    record {
      left = λ m s. stepped _ _ _ _ m c.in-Steps.step (λ t h. capsule_from (length c.as_slice.result.now) 0 t c.instrs_of-instrs.result.now h)
          (c.loop-at.at + 1)
          c.loop-at.asked c.step-asked.result c.loop-at.store.blocks.items c.loop-at.store.words.items c.loop-at.registers
          c.step-asked.new.self.blocks.items c.step-asked.new.self.words.items c.step-asked.new.registers
          (place_laid code c.args.number c.args.place _ _ c.requires.place inv.kept) within
          c.step-asked.ensures.asked c.step-asked.ensures.blocks c.step-asked.ensures.words c.step-asked.ensures.registers
          (act_left _ _ _ _ m _ _ _ (length c.as_slice.result.now) c.loop-at.at c.instrs_of-instrs.result.now
          c.loop-at.registers c.index-instrs-at.result (Steps c.in-Steps.step) c.loop-at-test.true c.index-instrs-at.is c.in-Steps.ensures (inv.left m s));
      kept = rw c.step-asked.ensures.blocks (step_keeps (slots_at code c.args.number) _ c.args.place c.in-Steps.step _ c.loop-at.store.blocks.items
          c.loop-at.store.words.items within inv.kept);
      words = ap (λ (xs : List ℕ). length xs) c.step-asked.ensures.words
          ∙ step_keeps_words (slots_at code c.args.number) (block_at code c.args.number) c.args.place c.in-Steps.step c.loop-at.store.words.items ∙ inv.words;
      asked = asked_few code c.instrs_of-instrs.ensures.code c.requires.tidy c.args.number c.requires.there (length c.as_slice.result.now)
          c.loop-at.at c.in-Steps.step c.loop-at.asked c.step-asked.result fits c.step-asked.ensures.asked inv.asked inv.first;
      noted = λ m s. notes_step _ _ _ _ c.in-Steps.step c.loop-at.at
          (λ t h n. touches_from (length c.as_slice.result.now) 0 t c.instrs_of-instrs.result.now h n) (c.loop-at.at + 1)
          c.loop-at.store.blocks.items c.loop-at.store.words.items c.loop-at.registers
          c.step-asked.new.self.blocks.items c.step-asked.new.self.words.items c.step-asked.new.registers c.loop-at.log.items c.note.new.log.items
          (place_laid code c.args.number c.args.place _ _ c.requires.place inv.kept) within
          c.step-asked.ensures.blocks c.step-asked.ensures.words c.step-asked.ensures.registers c.in_ok-note-in-Steps.ensures
          (notes_act _ _ _ _ c.loop-at.store.blocks.items c.loop-at.store.words.items c.loop-at.log.items (length c.as_slice.result.now) c.loop-at.at
          c.instrs_of-instrs.result.now c.loop-at.registers c.index-instrs-at.result (Steps c.in-Steps.step) c.loop-at-test.true c.index-instrs-at.is
          c.in-Steps.ensures (inv.noted m s));
      there = subst (λ (log : List Touch). AreThere (length c.args.store.now.words.items) log) (sym c.in_ok-note-in-Steps.ensures)
          (there_more _ c.loop-at.log.items (touches_by c.in-Steps.step c.loop-at.at) inv.there
          (step_noted (slots_at code c.args.number) (block_at code c.args.number) c.args.place _ c.in-Steps.step c.loop-at.at
          (subst (λ (n : ℕ). IsStepWithin (slots_at code c.args.number) (block_at code c.args.number) c.args.place n c.in-Steps.step) inv.words within)));
      first = λ e. absurd (omega (arith, e));
    }

-- the end is come to
pub returns-in-Ends-clause-whole : goal.returns-in-Ends-clause-whole
returns-in-Ends-clause-whole c =
    let inv = c.loop-at.invariant in
    let words : length c.as_slice.result.now ≡ length c.loop-at.store.words.items = ap (λ (xs : List ℕ). length xs) c.as_slice.ensures.value ∙ sym inv.words in
    λ m s. whole_ends c.args.code.now c.args.number c.args.place m c.loop-at.asked _ _ (length c.as_slice.result.now) c.instrs_of-instrs.result.now
    c.in-Ends.end
    c.instrs_of-instrs.ensures.value words
    (act_left _ _ _ _ m _ _ _ (length c.as_slice.result.now) c.loop-at.at c.instrs_of-instrs.result.now c.loop-at.registers c.index-instrs-at.result
    (Ends c.in-Ends.end) c.loop-at-test.true c.index-instrs-at.is c.in-Ends.ensures (inv.left m s))

-- and fits
pub returns-in-Ends-clause-end : goal.returns-in-Ends-clause-end
returns-in-Ends-clause-end c = act_fits c.args.code.now c.instrs_of-instrs.ensures.code c.requires.tidy c.args.number c.requires.there
    (length c.as_slice.result.now) c.instrs_of-instrs.result.now c.loop-at.at c.index-instrs-at.result c.loop-at.registers (Ends c.in-Ends.end)
    c.instrs_of-instrs.ensures.value c.loop-at-test.true c.index-instrs-at.is c.in-Ends.ensures

-- or the instructions are over
pub returns-clause-whole : goal.returns-clause-whole
returns-clause-whole c =
    let inv = c.loop-at.invariant in
    let words : length c.as_slice.result.now ≡ length c.loop-at.store.words.items = ap (λ (xs : List ℕ). length xs) c.as_slice.ensures.value ∙ sym inv.words in
    λ m s. whole_ends c.args.code.now c.args.number c.args.place m c.loop-at.asked _ _ (length c.as_slice.result.now) c.instrs_of-instrs.result.now Finish
    c.instrs_of-instrs.ensures.value words
    (past_left _ _ _ _ m _ _ _ (length c.as_slice.result.now) c.loop-at.at c.instrs_of-instrs.result.now c.loop-at.registers c.loop-at-test.false
    (inv.left m s))

-- the log is whole at the end
pub returns-in-Ends-clause-log : goal.returns-in-Ends-clause-log
returns-in-Ends-clause-log c =
    let inv = c.loop-at.invariant in
    let words : length c.as_slice.result.now ≡ length c.args.store.now.words.items = ap (λ (xs : List ℕ). length xs) c.as_slice.ensures.value in
    λ m s. log_whole _ _ _ _ c.loop-at.store.blocks.items c.loop-at.store.words.items c.loop-at.log.items
    (notes_act _ _ _ _ c.loop-at.store.blocks.items c.loop-at.store.words.items c.loop-at.log.items (length c.as_slice.result.now) c.loop-at.at
    c.instrs_of-instrs.result.now c.loop-at.registers c.index-instrs-at.result (Ends c.in-Ends.end) c.loop-at-test.true c.index-instrs-at.is
    c.in-Ends.ensures (inv.noted m s))
    ∙ ap (λ (n : ℕ). touches_of n c.instrs_of-instrs.result.now m) words
    ∙ ap (λ (is : List Instr). touches_of (length c.args.store.now.words.items) is m) c.instrs_of-instrs.ensures.value

pub returns-clause-log : goal.returns-clause-log
returns-clause-log c =
    let inv = c.loop-at.invariant in
    let words : length c.as_slice.result.now ≡ length c.args.store.now.words.items = ap (λ (xs : List ℕ). length xs) c.as_slice.ensures.value in
    λ m s. log_whole _ _ _ _ c.loop-at.store.blocks.items c.loop-at.store.words.items c.loop-at.log.items
    (notes_past _ _ _ _ c.loop-at.store.blocks.items c.loop-at.store.words.items c.loop-at.log.items (length c.as_slice.result.now) c.loop-at.at
    c.instrs_of-instrs.result.now c.loop-at.registers c.loop-at-test.false (inv.noted m s))
    ∙ ap (λ (n : ℕ). touches_of n c.instrs_of-instrs.result.now m) words
    ∙ ap (λ (is : List Instr). touches_of (length c.args.store.now.words.items) is m) c.instrs_of-instrs.ensures.value
