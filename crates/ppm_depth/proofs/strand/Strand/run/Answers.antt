use Rattle.std.proofs.Common.{◌≡◌, ◌+◌, length, List, ℕ, refl, ap, ◌∙◌, subst, arith}
use Rattle.ppm_depth.specs.Order.{StepsInOrder}
use Rattle.ppm_depth.specs.Moves.{pending, pending_for, turns_of}
use Rattle.ppm_depth.specs.Stack.{Strands, IsShown}
use Rattle.ppm_depth.specs.Start.{words_of}
use Rattle.ppm_depth.specs.Turns.{ShowsTree, counts_of, strands_over}
use Rattle.ppm_depth.specs.declared.frame.Now.{Now}
use Rattle.ppm_depth.specs.declared.frame.Now.TheVariants.{Over as IsOver}
use Rattle.ppm_depth.specs.declared.frame.Waiting.{Waiting}
use Rattle.ppm_depth.specs.declared.strand.Counts.{Counts}
use Rattle.ppm_depth.proofs.AdvanceLemmas.{pending_push}
use Rattle.ppm_depth.proofs.LoopLemmas.{none_few, none_within, no_steps, more_steps, free_steps, frame_there, strand_there, tree_over, smaller}
use Rattle.ppm_depth.proofs.ResumeLemmas.{resumed_turn, slots_there, resumed_less}
use Rattle.ppm_depth.proofs.strand.Strand.run.Goals as goal

-- at the beginning nothing is run
pub loop-now-init : goal.loop-now-init
loop-now-init c = record {
  run = λ t shown. record { next = t; steps = no_steps c.args.code.now _ c.args.self.now.counts t _ c.requires.counts; shown = shown };
  words = refl;
  few = none_few c.args.self.now.counts c.requires.counts;
  within = none_within c.args.self.now.counts c.args.limit c.requires.counts;
}

-- the frame is there
pub advance-requires-clause-there : goal.advance-requires-clause-there
advance-requires-clause-there c =
    let run = c.loop-now.invariant.run c.requires.shown.0 c.requires.shown.1 in
    (frame_there c.args.code.now _ _ c.in-At.frame run.next (subst (λ (n : Now). ShowsTree c.args.code.now c.loop-now.self n run.next) c.in-At.is run.shown)).0

pub advance-requires-clause-stack : goal.advance-requires-clause-stack
advance-requires-clause-stack c =
    let run = c.loop-now.invariant.run c.requires.shown.0 c.requires.shown.1 in
    (frame_there c.args.code.now _ _ c.in-At.frame run.next (subst (λ (n : Now). ShowsTree c.args.code.now c.loop-now.self n run.next) c.in-At.is run.shown)).1

-- a capsule more
pub loop-now-preserved-in-At : goal.loop-now-preserved-in-At
loop-now-preserved-in-At c =
    let inv = c.loop-now.invariant in
    let ensured = c.in_ok-now-in-At.ensures in
    record {
      run = λ t shown.
          let run = inv.run t shown in
          let turn = ensured.turn run.next (subst (λ (n : Now). ShowsTree c.args.code.now c.loop-now.self n run.next) c.in-At.is run.shown) in
          record {
            next = turn.next;
            steps = more_steps c.args.code.now _ _ c.loop-now.self.counts c.advance.new.self.counts turn.counts t run.next turn.next _ _ _
                inv.words turn.counted run.steps turn.steps;
            shown = turn.shown;
          };
      words = ensured.words ∙ inv.words;
      few = ensured.counts.1;
      within = let one = ensured.counts.0 in omega (arith, one, inv.within, c.if-self-limit.false);
    }

-- so many are run, and one more is to be
pub returns-then-self-limit-clause-come : goal.returns-then-self-limit-clause-come
returns-then-self-limit-clause-come c = λ t shown.
    let run = c.loop-now.invariant.run t shown in
    let there = strand_there c.args.code.now _ _ c.in-At.frame run.next
    (subst (λ (n : Now). ShowsTree c.args.code.now c.loop-now.self n run.next) c.in-At.is run.shown) in (
      there.0,
      there.1,
      subst (λ (u : Strands). StepsInOrder (strands_over c.args.code.now (length c.args.self.now.store.words.items)) (counts_of c.loop-now.self.counts) t
          (words_of c.args.self.now.store.words.items) u (words_of c.loop-now.self.store.words.items)) there.2 run.steps,
      c.if-self-limit.true,
    )

-- what waits is there
pub resume-requires-clause-block : goal.resume-requires-clause-block
resume-requires-clause-block c =
    let run = c.loop-now.invariant.run c.requires.shown.0 c.requires.shown.1 in
    let shown = subst (λ (n : Now). ShowsTree c.args.code.now c.loop-now.self n run.next) c.in-Over.is run.shown in
    (slots_there c.args.code.now 0 c.pop.new.self.items c.in-Some.waiting c.in-Over.finish c.loop-now.self.store.blocks.items run.next
    (subst (λ (ws : List Waiting). IsShown c.args.code.now c.loop-now.self.store.blocks.items ws (IsOver c.in-Over.finish) run.next)
    c.in-Some.ensures.items shown)).0

pub resume-requires-clause-slots : goal.resume-requires-clause-slots
resume-requires-clause-slots c =
    let run = c.loop-now.invariant.run c.requires.shown.0 c.requires.shown.1 in
    let shown = subst (λ (n : Now). ShowsTree c.args.code.now c.loop-now.self n run.next) c.in-Over.is run.shown in
    (slots_there c.args.code.now 0 c.pop.new.self.items c.in-Some.waiting c.in-Over.finish c.loop-now.self.store.blocks.items run.next
    (subst (λ (ws : List Waiting). IsShown c.args.code.now c.loop-now.self.store.blocks.items ws (IsOver c.in-Over.finish) run.next)
    c.in-Some.ensures.items shown)).1

-- less is left to do
pub loop-now-smaller : goal.loop-now-smaller
loop-now-smaller c =
    let w = c.in-Some.waiting in
    let ws = c.pop.new.self.items in
    let ensured = c.in_ok-now-in-Some.ensures in
    let less = resumed_less w w.on c.in-Over.finish ws in
    let waited : pending c.loop-now.self.waiting.items ≡ pending ws + pending_for w.on =
    ap (λ (xs : List Waiting). pending xs) c.in-Some.ensures.items ∙ pending_push ws w in
    let waits = ap (λ (xs : List Waiting). pending xs) ensured.waiting in
    let was = ap (λ (n : Now). turns_of n) c.in-Over.is in
    let is = ap (λ (n : Now). turns_of n) ensured.now in
    smaller c.args.limit c.resume.new.self.counts.capsules c.loop-now.self.counts.capsules (pending c.resume.new.self.waiting.items)
    (pending c.loop-now.self.waiting.items) (turns_of c.in_ok-now-in-Some.now) (turns_of c.loop-now.now)
    (ap (λ (k : Counts). k.capsules) ensured.counts) (omega (arith, less, waited, waits, was, is))

-- a return, the beginning of a right branch, or a join
pub loop-now-preserved : goal.loop-now-preserved
loop-now-preserved c =
    let inv = c.loop-now.invariant in
    let ensured = c.in_ok-now-in-Some.ensures in
    record {
      run = λ t shown.
          let run = inv.run t shown in
          let over = subst (λ (n : Now). ShowsTree c.args.code.now c.loop-now.self n run.next) c.in-Over.is run.shown in
          let turn = resumed_turn c.args.code.now (length c.loop-now.self.store.words.items) c.pop.new.self.items c.in-Some.waiting c.in-Over.finish
          c.loop-now.self.store.blocks.items (words_of c.loop-now.self.store.words.items) run.next
          (subst (λ (ws : List Waiting). IsShown c.args.code.now c.loop-now.self.store.blocks.items ws (IsOver c.in-Over.finish) run.next)
          c.in-Some.ensures.items over) in
          record {
            next = turn.0;
            steps = free_steps c.args.code.now _ _ c.loop-now.self.counts c.resume.new.self.counts t run.next turn.0 _ _ _
                inv.words ensured.counts (ap (λ (ws : List ℕ). words_of ws) ensured.words) run.steps turn.1;
            shown = rw (ensured.now, ensured.blocks, ensured.waiting) turn.2;
          };
      words = ap (λ (ws : List ℕ). length ws) ensured.words ∙ inv.words;
      few = rw ensured.counts inv.few;
      within = rw ensured.counts inv.within;
    }

-- nothing waits: the tree is over
pub returns-in-None-clause-come : goal.returns-in-None-clause-come
returns-in-None-clause-come c = λ t shown.
    let run = c.loop-now.invariant.run t shown in
    let over = subst (λ (n : Now). ShowsTree c.args.code.now c.loop-now.self n run.next) c.in-Over.is run.shown in
    let empty : length c.loop-now.self.waiting.items ≡ 0 = omega (arith, c.in-None.ensures.cases.0, c.loop-now.self.waiting.ok.0) in
    subst (λ (u : Strands). StepsInOrder (strands_over c.args.code.now (length c.args.self.now.store.words.items)) (counts_of c.loop-now.self.counts) t
    (words_of c.args.self.now.store.words.items) u (words_of c.loop-now.self.store.words.items))
    (tree_over c.args.code.now _ _ c.in-Over.finish run.next over empty) run.steps
