use Rattle.std.proofs.Common.{◌++◌, replicate, length, List, ℕ, refl, sym, ap, ◌∙◌, subst₂, arith}
use Rattle.ppm_strands.specs.Run.{plus}
use Rattle.ppm_depth.specs.Order.{StepsInOrder}
use Rattle.ppm_code.specs.declared.instr.Instr.{Instr}
use Rattle.ppm_code.specs.Code.{room_of}
use Rattle.ppm_depth.specs.Moves.{counts_by}
use Rattle.ppm_depth.specs.Start.{words_of}
use Rattle.ppm_depth.specs.Turns.{counts_of, strands_over}
use Rattle.ppm_depth.specs.Whole.{kept_of}
use Rattle.ppm_depth.specs.declared.strand.Counts.{Counts}
use Rattle.ppm_depth.proofs.AdvanceLemmas.{advanced, pending_after}
use Rattle.ppm_depth.proofs.strand.Strand.advance.Goals as goal

-- a capsule is a step in turn
pub returns-clause-turn : goal.returns-clause-turn
returns-clause-turn c = λ t shown.
    let stack = c.args.self.now.store.blocks in
    let done = c.run_capsule-done.result in
    let turn = advanced c.args.code.now c.instrs_of.ensures.code c.args.frame c.len-block.result stack.items c.open_block.new.self.blocks.items
    c.run_capsule-done.new.store.blocks.items c.open_block.new.self.words.items c.run_capsule-done.new.store.words.items done
    (omega (arith, c.len-block.ensures, stack.ok.0))
    (c.in_ok-open_block.ensures.blocks ∙ ap (λ (n : ℕ). stack.items ++ replicate n 0)
    (c.block_words-words.ensures ∙ ap (λ (is : List Instr). kept_of (room_of is)) c.instrs_of.ensures.value))
    c.run_capsule-done.ensures.whole c.run_capsule-done.ensures.kept c.run_capsule-done.ensures.words c.run_capsule-done.ensures.end
    c.args.self.now.waiting.items t shown in
    record {
      counts = counts_by done;
      next = turn.0;
      steps = subst₂ (λ (xs ys : List ℕ). StepsInOrder (strands_over c.args.code.now (length xs)) (counts_by done) t (words_of xs) turn.0 (words_of ys))
          c.in_ok-open_block.ensures.words (sym c.in_ok-now.ensures.words) turn.1;
      shown = rw (c.in_ok-now.ensures.now, c.in_ok-now.ensures.blocks, c.in_ok-now.ensures.waiting) turn.2;
      counted = c.counted-self.ensures.value ∙ ap (λ (k : Counts). plus (counts_of k) (counts_by done)) c.in_ok-now.ensures.counts;
      capsules = refl;
    }

-- what waits then
pub returns-clause-pending : goal.returns-clause-pending
returns-clause-pending c = rw c.in_ok-now.ensures.waiting (pending_after c.args.code.now c.args.frame c.len-block.result c.args.self.now.waiting.items
    c.run_capsule-done.result.end)
