use Rattle.std.proofs.Common.{◌≡◌, ◌+◌, ◌++◌, replicate, length, List, ℕ, refl, sym, ap, ◌∙◌, subst, subst₂, arith}
use Rattle.ppm_strands.specs.Run.{Counts, plus}
use Rattle.ppm_code.specs.declared.instr.Instr.{Instr}
use Rattle.ppm_code.specs.Code.{room_of}
use Rattle.ppm_depth.specs.Moves.{counts_by}
use Rattle.ppm_depth.specs.Order.{StepsInOrder}
use Rattle.ppm_depth.specs.Start.{words_of}
use Rattle.ppm_depth.specs.Turns.{counts_of, strands_over}
use Rattle.ppm_depth.specs.Whole.{kept_of}
use Rattle.ppm_depth.specs.declared.strand.Counts.{Counts as Counted}
use Rattle.ppm_depth.proofs.AdvanceLemmas.{advanced, pending_after}
use Rattle.ppm_stamps.specs.Moments.{Comes}
use Rattle.ppm_races.specs.Beside.{AreInOrder, stands_beside, stamps_of, NoneMeets, IsFirstMet, AreMarked}
use Rattle.ppm_races.specs.Touches.{AreThere}
use Rattle.ppm_races.specs.Walks.{rise, stamps_in, IsLogged, IsMeetingOf}
use Rattle.ppm_races.specs.declared.stamps.Mark.{Mark}
use Rattle.ppm_races.specs.declared.touch.Touch.{Touch}
use Rattle.ppm_races.proofs.WalkLemmas.{has_met, has_logged, above_then, leaf_then, forks_then, shown_then, come_then, marks_then}
use Rattle.ppm_races.proofs.walk.Walk.advance.Goals as goal

-- what was noted are array words
pub first_met-requires-clause-wrote : goal.first_met-requires-clause-wrote
first_met-requires-clause-wrote c =
    let n : length c.open_block.new.self.words.items ≡ length c.args.self.now.visits.wrote.items =
    ap (λ (xs : List ℕ). length xs) c.in_ok-open_block.ensures.words ∙ sym c.requires.seen.wrote in
    subst (λ (log : List Touch). AreThere (length c.args.self.now.visits.wrote.items) log) (sym c.deref-2.ensures.value)
    (subst (λ (k : ℕ). AreThere k c.run_logged.new.log.items) n c.in_ok-done.ensures.there)

pub first_met-requires-clause-touched : goal.first_met-requires-clause-touched
first_met-requires-clause-touched c =
    let n : length c.open_block.new.self.words.items ≡ length c.args.self.now.visits.touched.items =
    ap (λ (xs : List ℕ). length xs) c.in_ok-open_block.ensures.words ∙ sym c.requires.seen.touched in
    subst (λ (log : List Touch). AreThere (length c.args.self.now.visits.touched.items) log) (sym c.deref-2.ensures.value)
    (subst (λ (k : ℕ). AreThere k c.run_logged.new.log.items) n c.in_ok-done.ensures.there)

pub leave_marks-requires-clause-wrote : goal.leave_marks-requires-clause-wrote
leave_marks-requires-clause-wrote c =
    let n : length c.open_block.new.self.words.items ≡ length c.args.self.now.visits.wrote.items =
    ap (λ (xs : List ℕ). length xs) c.in_ok-open_block.ensures.words ∙ sym c.requires.seen.wrote in
    subst (λ (log : List Touch). AreThere (length c.args.self.now.visits.wrote.items) log) (sym c.deref-4.ensures.value)
    (subst (λ (k : ℕ). AreThere k c.run_logged.new.log.items) n c.in_ok-done.ensures.there)

pub leave_marks-requires-clause-touched : goal.leave_marks-requires-clause-touched
leave_marks-requires-clause-touched c =
    let n : length c.open_block.new.self.words.items ≡ length c.args.self.now.visits.touched.items =
    ap (λ (xs : List ℕ). length xs) c.in_ok-open_block.ensures.words ∙ sym c.requires.seen.touched in
    subst (λ (log : List Touch). AreThere (length c.args.self.now.visits.touched.items) log) (sym c.deref-4.ensures.value)
    (subst (λ (k : ℕ). AreThere k c.run_logged.new.log.items) n c.in_ok-done.ensures.there)

-- the forks stand in order
pub first_met-requires-clause-sorted : goal.first_met-requires-clause-sorted
first_met-requires-clause-sorted c = subst (λ (ms : List Mark). AreInOrder ms) (sym c.deref.ensures.value) c.requires.sorted

pub leave_marks-requires-clause-sorted : goal.leave_marks-requires-clause-sorted
leave_marks-requires-clause-sorted c = subst (λ (ms : List Mark). AreInOrder ms) (sym c.deref-3.ensures.value) c.requires.sorted

-- nothing that is beside is now
pub leave_marks-requires-clause-now : goal.leave_marks-requires-clause-now
leave_marks-requires-clause-now c =
    ap (λ (ms : List Mark). stands_beside ms (c.args.self.now.strand.counts.capsules + 1)) c.deref-3.ensures.value ∙ c.requires.now

-- a touch meets something
pub returns-in-Some-clause-turn : goal.returns-in-Some-clause-turn
returns-in-Some-clause-turn c = λ root input at.
    let code = c.args.code.now in
    let walk = c.args.self.now in
    let stack = walk.strand.store.blocks in
    let done = c.in_ok-done.done in
    let block_is : c.len-block.result ≡ length stack.items = omega (arith, c.len-block.ensures, stack.ok.0) in
    let opens_block = c.in_ok-open_block.ensures.blocks ∙ ap (λ (n : ℕ). stack.items ++ replicate n 0)
    (c.block_words-words.ensures ∙ ap (λ (is : List Instr). kept_of (room_of is)) c.instrs_of.ensures.value) in
    let come = subst (λ (ws : List ℕ). Comes (strands_over code (length ws)) root input (rise at.above at.forks) at.leaf (words_of ws) (stamps_in walk))
    (sym c.in_ok-open_block.ensures.words) at.come in
    let first = subst₂ (λ (ms : List Mark) (log : List Touch). IsFirstMet ms walk.visits.wrote.items walk.visits.touched.items log c.in-Some.met)
    c.deref.ensures.value c.deref-2.ensures.value c.in-Some.ensures.some in (
      subst (λ (ws : List ℕ). IsMeetingOf code root input (length ws)
          (record { run = walk.strand.counts.capsules + 1; capsule = c.args.frame.capsule; met = c.in-Some.met })) c.in_ok-open_block.ensures.words
          (has_met code c.instrs_of.ensures.code c.args.frame c.len-block.result stack.items c.open_block.new.self.blocks.items
          c.run_logged.new.store.blocks.items c.open_block.new.self.words.items c.run_logged.new.store.words.items done
          block_is opens_block c.in_ok-done.ensures.whole c.in_ok-done.ensures.kept c.in_ok-done.ensures.words c.in_ok-done.ensures.end
          c.run_logged.new.log.items c.in_ok-done.ensures.log (walk.strand.counts.capsules + 1) walk.visits.wrote.items walk.visits.touched.items
          walk.visits.wrote.items walk.visits.touched.items walk.marks.items root input walk.strand.waiting.items at.above at.leaf at.forks at.shown come at.marks
          c.in-Some.met c.in_ok-done.ensures.there first),
      refl,
    )

pub returns-in-Some-clause-log : goal.returns-in-Some-clause-log
returns-in-Some-clause-log c = λ root input at.
    let code = c.args.code.now in
    let walk = c.args.self.now in
    let stack = walk.strand.store.blocks in
    let done = c.in_ok-done.done in
    let block_is : c.len-block.result ≡ length stack.items = omega (arith, c.len-block.ensures, stack.ok.0) in
    let opens_block = c.in_ok-open_block.ensures.blocks ∙ ap (λ (n : ℕ). stack.items ++ replicate n 0)
    (c.block_words-words.ensures ∙ ap (λ (is : List Instr). kept_of (room_of is)) c.instrs_of.ensures.value) in
    let come = subst (λ (ws : List ℕ). Comes (strands_over code (length ws)) root input (rise at.above at.forks) at.leaf (words_of ws) (stamps_in walk))
    (sym c.in_ok-open_block.ensures.words) at.come in
    subst (λ (ws : List ℕ). IsLogged code root input (length ws) (walk.strand.counts.capsules + 1) c.args.frame.capsule c.run_logged.new.log.items)
    c.in_ok-open_block.ensures.words
    (has_logged code c.instrs_of.ensures.code c.args.frame c.len-block.result stack.items c.open_block.new.self.blocks.items
    c.run_logged.new.store.blocks.items c.open_block.new.self.words.items c.run_logged.new.store.words.items done
    block_is opens_block c.in_ok-done.ensures.whole c.in_ok-done.ensures.kept c.in_ok-done.ensures.words c.in_ok-done.ensures.end
    c.run_logged.new.log.items c.in_ok-done.ensures.log (walk.strand.counts.capsules + 1) walk.visits.wrote.items walk.visits.touched.items
    walk.visits.wrote.items walk.visits.touched.items walk.marks.items root input walk.strand.waiting.items at.above at.leaf at.forks at.shown come at.marks)

pub returns-in-Some-clause-kept : goal.returns-in-Some-clause-kept
returns-in-Some-clause-kept c = c.in_ok-done.ensures.words ∙ ap (λ (xs : List ℕ). length xs) c.in_ok-open_block.ensures.words

pub returns-clause-log : goal.returns-clause-log
returns-clause-log c = λ root input at.
    let code = c.args.code.now in
    let walk = c.args.self.now in
    let stack = walk.strand.store.blocks in
    let done = c.in_ok-done.done in
    let block_is : c.len-block.result ≡ length stack.items = omega (arith, c.len-block.ensures, stack.ok.0) in
    let opens_block = c.in_ok-open_block.ensures.blocks ∙ ap (λ (n : ℕ). stack.items ++ replicate n 0)
    (c.block_words-words.ensures ∙ ap (λ (is : List Instr). kept_of (room_of is)) c.instrs_of.ensures.value) in
    let come = subst (λ (ws : List ℕ). Comes (strands_over code (length ws)) root input (rise at.above at.forks) at.leaf (words_of ws) (stamps_in walk))
    (sym c.in_ok-open_block.ensures.words) at.come in
    subst (λ (ws : List ℕ). IsLogged code root input (length ws) (walk.strand.counts.capsules + 1) c.args.frame.capsule c.run_logged.new.log.items)
    c.in_ok-open_block.ensures.words
    (has_logged code c.instrs_of.ensures.code c.args.frame c.len-block.result stack.items c.open_block.new.self.blocks.items
    c.run_logged.new.store.blocks.items c.open_block.new.self.words.items c.run_logged.new.store.words.items done
    block_is opens_block c.in_ok-done.ensures.whole c.in_ok-done.ensures.kept c.in_ok-done.ensures.words c.in_ok-done.ensures.end
    c.run_logged.new.log.items c.in_ok-done.ensures.log (walk.strand.counts.capsules + 1) walk.visits.wrote.items walk.visits.touched.items
    walk.visits.wrote.items walk.visits.touched.items walk.marks.items root input walk.strand.waiting.items at.above at.leaf at.forks at.shown come at.marks)

-- a capsule is a step in turn
pub returns-clause-chain : goal.returns-clause-chain
returns-clause-chain c = λ t shown.
    let stack = c.args.self.now.strand.store.blocks in
    let done = c.in_ok-done.done in
    let turn = advanced c.args.code.now c.instrs_of.ensures.code c.args.frame c.len-block.result stack.items c.open_block.new.self.blocks.items
    c.run_logged.new.store.blocks.items c.open_block.new.self.words.items c.run_logged.new.store.words.items done
    (omega (arith, c.len-block.ensures, stack.ok.0))
    (c.in_ok-open_block.ensures.blocks ∙ ap (λ (n : ℕ). stack.items ++ replicate n 0)
    (c.block_words-words.ensures ∙ ap (λ (is : List Instr). kept_of (room_of is)) c.instrs_of.ensures.value))
    c.in_ok-done.ensures.whole c.in_ok-done.ensures.kept c.in_ok-done.ensures.words c.in_ok-done.ensures.end
    c.args.self.now.strand.waiting.items t shown in
    record {
      counts = counts_by done;
      next = turn.0;
      steps = subst₂ (λ (xs ys : List ℕ). StepsInOrder (strands_over c.args.code.now (length xs)) (counts_by done) t (words_of xs) turn.0 (words_of ys))
          c.in_ok-open_block.ensures.words (sym c.in_ok-now.ensures.words) turn.1;
      shown = rw (c.in_ok-now.ensures.now, c.in_ok-now.ensures.blocks, c.in_ok-now.ensures.waiting) turn.2;
      counted = c.counted-self.ensures.value ∙ ap (λ (k : Counted). plus (counts_of k) (counts_by done)) c.in_ok-now.ensures.counts;
      capsules = refl;
    }

-- or the strand goes on
pub returns-clause-turn : goal.returns-clause-turn
returns-clause-turn c = λ root input at.
    let code = c.args.code.now in
    let walk = c.args.self.now in
    let stack = walk.strand.store.blocks in
    let done = c.in_ok-done.done in
    let block_is : c.len-block.result ≡ length stack.items = omega (arith, c.len-block.ensures, stack.ok.0) in
    let opens_block = c.in_ok-open_block.ensures.blocks ∙ ap (λ (n : ℕ). stack.items ++ replicate n 0)
    (c.block_words-words.ensures ∙ ap (λ (is : List Instr). kept_of (room_of is)) c.instrs_of.ensures.value) in
    let come = subst (λ (ws : List ℕ). Comes (strands_over code (length ws)) root input (rise at.above at.forks) at.leaf (words_of ws) (stamps_in walk))
    (sym c.in_ok-open_block.ensures.words) at.come in
    let visits = c.leave_marks.new.visits in
    let none = subst₂ (λ (ms : List Mark) (log : List Touch). NoneMeets (stands_beside ms) walk.visits.wrote.items walk.visits.touched.items log)
    c.deref.ensures.value c.deref-2.ensures.value c.in_default.ensures.none in
    let marked = subst₂ (λ (ms : List Mark) (log : List Touch). AreMarked (stands_beside ms) walk.visits.wrote.items walk.visits.touched.items
    (walk.strand.counts.capsules + 1) log visits.wrote.items visits.touched.items)
    c.deref-3.ensures.value c.deref-4.ensures.value c.leave_marks.ensures in
    let then_above = above_then code c.instrs_of.ensures.code c.args.frame c.len-block.result stack.items c.open_block.new.self.blocks.items
    c.run_logged.new.store.blocks.items c.open_block.new.self.words.items c.run_logged.new.store.words.items done
    block_is opens_block c.in_ok-done.ensures.whole c.in_ok-done.ensures.kept c.in_ok-done.ensures.words c.in_ok-done.ensures.end
    c.run_logged.new.log.items c.in_ok-done.ensures.log (walk.strand.counts.capsules + 1) walk.visits.wrote.items walk.visits.touched.items
    visits.wrote.items visits.touched.items walk.marks.items root input walk.strand.waiting.items at.above at.leaf at.forks at.shown come at.marks none marked
    in
    let then_leaf = leaf_then code c.instrs_of.ensures.code c.args.frame c.len-block.result stack.items c.open_block.new.self.blocks.items
    c.run_logged.new.store.blocks.items c.open_block.new.self.words.items c.run_logged.new.store.words.items done
    block_is opens_block c.in_ok-done.ensures.whole c.in_ok-done.ensures.kept c.in_ok-done.ensures.words c.in_ok-done.ensures.end
    c.run_logged.new.log.items c.in_ok-done.ensures.log (walk.strand.counts.capsules + 1) walk.visits.wrote.items walk.visits.touched.items
    visits.wrote.items visits.touched.items walk.marks.items root input walk.strand.waiting.items at.above at.leaf at.forks at.shown come at.marks none marked
    in
    let then_forks = forks_then code c.instrs_of.ensures.code c.args.frame c.len-block.result stack.items c.open_block.new.self.blocks.items
    c.run_logged.new.store.blocks.items c.open_block.new.self.words.items c.run_logged.new.store.words.items done
    block_is opens_block c.in_ok-done.ensures.whole c.in_ok-done.ensures.kept c.in_ok-done.ensures.words c.in_ok-done.ensures.end
    c.run_logged.new.log.items c.in_ok-done.ensures.log (walk.strand.counts.capsules + 1) walk.visits.wrote.items walk.visits.touched.items
    visits.wrote.items visits.touched.items walk.marks.items root input walk.strand.waiting.items at.above at.leaf at.forks at.shown come at.marks none marked
    in
    let same_counts = c.counted-self.ensures.value ∙ ap (λ (k : Counted). plus (counts_of k) (counts_by done)) c.in_ok-now.ensures.counts in
    let capsules : c.counted-self.result.capsules ≡ walk.strand.counts.capsules + 1 = ap (λ (k : Counts). k.capsules) same_counts in
    record {
      above = then_above;
      leaf = then_leaf;
      forks = then_forks;
      shown = rw (c.in_ok-now.ensures.now, c.in_ok-now.ensures.blocks, c.in_ok-now.ensures.waiting)
          (shown_then code c.instrs_of.ensures.code c.args.frame c.len-block.result stack.items c.open_block.new.self.blocks.items
          c.run_logged.new.store.blocks.items c.open_block.new.self.words.items c.run_logged.new.store.words.items done
          block_is opens_block c.in_ok-done.ensures.whole c.in_ok-done.ensures.kept c.in_ok-done.ensures.words c.in_ok-done.ensures.end
          c.run_logged.new.log.items c.in_ok-done.ensures.log (walk.strand.counts.capsules + 1) walk.visits.wrote.items walk.visits.touched.items
          visits.wrote.items visits.touched.items walk.marks.items root input walk.strand.waiting.items at.above at.leaf at.forks at.shown come at.marks none
          marked);
      come = subst (λ (ws : List ℕ). Comes (strands_over code (length ws)) root input (rise then_above then_forks) then_leaf (words_of ws)
          (stamps_of (c.counted-self.result.capsules + 1) visits.wrote.items visits.touched.items)) (sym c.in_ok-now.ensures.words)
          (subst (λ (n : ℕ). Comes (strands_over code (length c.run_logged.new.store.words.items)) root input (rise then_above then_forks) then_leaf
          (words_of c.run_logged.new.store.words.items) (stamps_of (n + 1) visits.wrote.items visits.touched.items)) (sym capsules)
          (come_then code c.instrs_of.ensures.code c.args.frame c.len-block.result stack.items c.open_block.new.self.blocks.items
          c.run_logged.new.store.blocks.items c.open_block.new.self.words.items c.run_logged.new.store.words.items done
          block_is opens_block c.in_ok-done.ensures.whole c.in_ok-done.ensures.kept c.in_ok-done.ensures.words c.in_ok-done.ensures.end
          c.run_logged.new.log.items c.in_ok-done.ensures.log (walk.strand.counts.capsules + 1) walk.visits.wrote.items walk.visits.touched.items
          visits.wrote.items visits.touched.items walk.marks.items root input walk.strand.waiting.items at.above at.leaf at.forks at.shown come at.marks none
          marked));
      marks = c.in_ok-open_fork.ensures ∙ marks_then code c.instrs_of.ensures.code c.args.frame c.len-block.result stack.items
          c.open_block.new.self.blocks.items
          c.run_logged.new.store.blocks.items c.open_block.new.self.words.items c.run_logged.new.store.words.items done
          block_is opens_block c.in_ok-done.ensures.whole c.in_ok-done.ensures.kept c.in_ok-done.ensures.words c.in_ok-done.ensures.end
          c.run_logged.new.log.items c.in_ok-done.ensures.log (walk.strand.counts.capsules + 1) walk.visits.wrote.items walk.visits.touched.items
          visits.wrote.items visits.touched.items walk.marks.items root input walk.strand.waiting.items at.above at.leaf at.forks at.shown come at.marks none
          marked;
    }

-- what is kept
pub returns-clause-kept : goal.returns-clause-kept
returns-clause-kept c =
    let walk = c.args.self.now in
    let done = c.in_ok-done.done in
    let words = ap (λ (xs : List ℕ). length xs) c.in_ok-now.ensures.words ∙ c.in_ok-done.ensures.words
    ∙ ap (λ (xs : List ℕ). length xs) c.in_ok-open_block.ensures.words in
    let same_counts = c.counted-self.ensures.value ∙ ap (λ (k : Counted). plus (counts_of k) (counts_by done)) c.in_ok-now.ensures.counts in
    record {
      seen = record {
        wrote = c.leave_marks.ensures.wrote_length ∙ c.requires.seen.wrote ∙ sym words;
        touched = c.leave_marks.ensures.touched_length ∙ c.requires.seen.touched ∙ sym words;
      };
      words = words;
      capsules = ap (λ (k : Counts). k.capsules) same_counts;
      few = c.counted-self.ensures.few;
      pending = rw c.in_ok-now.ensures.waiting (pending_after c.args.code.now c.args.frame c.len-block.result walk.strand.waiting.items done.end);
    }
