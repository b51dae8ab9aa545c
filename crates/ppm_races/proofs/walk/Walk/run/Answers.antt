use Rattle.std.proofs.Common.{◌≡◌, ◌<◌, ◌+◌, length, List, ℕ, refl, sym, ap, ◌∙◌, subst, arith}
use Rattle.ppm_depth.specs.Moves.{pending, pending_for, turns_of}
use Rattle.ppm_depth.specs.Order.{StepsInOrder}
use Rattle.ppm_depth.specs.Stack.{Strands, result_of, tree_at, IsShown, IsShownAt}
use Rattle.ppm_depth.specs.Start.{words_of}
use Rattle.ppm_depth.specs.Turns.{AreFew, ShowsTree, counts_of, strands_over}
use Rattle.ppm_depth.specs.declared.frame.Now.{Now}
use Rattle.ppm_depth.specs.declared.frame.Now.TheVariants.{At, Over as IsOver}
use Rattle.ppm_depth.specs.declared.frame.Waiting.{Waiting}
use Rattle.ppm_depth.specs.declared.strand.Counts.{Counts}
use Rattle.ppm_depth.proofs.AdvanceLemmas.{pending_push}
use Rattle.ppm_depth.proofs.LoopLemmas.{none_few, none_within, no_steps, more_steps, free_steps, tree_over, smaller}
use Rattle.ppm_depth.proofs.ResumeLemmas.{resumed_turn, slots_there, resumed_less}
use Rattle.ppm_races.specs.Walks.{rise, stamps_in, Chains, IsAt, IsMeetingOf, KeptBy, TurnedTo}
use Rattle.ppm_races.specs.declared.stamps.Visits.{Visits}
use Rattle.ppm_races.specs.declared.walk.Turn.{Turn}
use Rattle.ppm_races.proofs.MarkLemmas.{now_clear, now_sorted}
use Rattle.ppm_races.proofs.ReturnLemmas.{over_root, few_turns, smaller_at}
use Rattle.ppm_races.proofs.walk.Walk.run.Goals as goal

-- at the beginning nothing is run
pub loop-now-init : goal.loop-now-init
loop-now-init c = record {
  run = λ tree input at. at;
  chain = λ t shown. record { next = t; steps = no_steps c.args.code.now _ c.args.self.now.strand.counts t _ c.requires.counts; shown = shown };
  seen = c.requires.seen;
  words = refl;
  few = none_few c.args.self.now.strand.counts c.requires.counts;
  within = none_within c.args.self.now.strand.counts c.args.limit c.requires.counts;
}

-- the limit is run, and one more is to be
pub returns-then-self-limit-clause-told : goal.returns-then-self-limit-clause-told
returns-then-self-limit-clause-told c = λ tree input at.
    let inv = c.loop-now.invariant in
    record {
      at = subst (λ (n : Now). IsAt c.args.code.now tree input c.loop-now.self n) c.in-At.is (inv.run tree input at);
      all = c.if-self-limit.true;
      seen = inv.seen;
      few = inv.few;
    }

pub returns-then-self-limit-clause-chain : goal.returns-then-self-limit-clause-chain
returns-then-self-limit-clause-chain c = λ t shown. tt

-- the frame is there
pub advance-requires-clause-there : goal.advance-requires-clause-there
advance-requires-clause-there c =
    let began = c.requires.began in
    let it = subst (λ (n : Now). IsAt c.args.code.now began.0 began.1.0 c.loop-now.self n) c.in-At.is (c.loop-now.invariant.run began.0 began.1.0 began.1.1) in
    it.shown.at.2.there

pub advance-requires-clause-stack : goal.advance-requires-clause-stack
advance-requires-clause-stack c =
    let began = c.requires.began in
    let it = subst (λ (n : Now). IsAt c.args.code.now began.0 began.1.0 c.loop-now.self n) c.in-At.is (c.loop-now.invariant.run began.0 began.1.0 began.1.1) in
    it.shown.at.3

pub advance-requires-clause-now : goal.advance-requires-clause-now
advance-requires-clause-now c =
    let began = c.requires.began in
    let walk = c.loop-now.self in
    let it = c.loop-now.invariant.run began.0 began.1.0 began.1.1 in
    now_clear (strands_over c.args.code.now (length walk.strand.store.words.items)) began.0 began.1.0 walk.marks.items (rise it.above it.forks) it.leaf
    (words_of walk.strand.store.words.items) (stamps_in walk) it.marks it.come

pub advance-requires-clause-sorted : goal.advance-requires-clause-sorted
advance-requires-clause-sorted c =
    let began = c.requires.began in
    let walk = c.loop-now.self in
    let it = c.loop-now.invariant.run began.0 began.1.0 began.1.1 in
    now_sorted (strands_over c.args.code.now (length walk.strand.store.words.items)) began.0 began.1.0 walk.marks.items (rise it.above it.forks) it.leaf
    (words_of walk.strand.store.words.items) (stamps_in walk) it.marks it.come

pub advance-requires-clause-capsules : goal.advance-requires-clause-capsules
advance-requires-clause-capsules c = omega (arith, c.loop-now.invariant.within, c.if-self-limit.false, c.requires.limit)

-- a capsule more
pub loop-now-preserved-in-Goes : goal.loop-now-preserved-in-Goes
loop-now-preserved-in-Goes c =
    let inv = c.loop-now.invariant in
    let code = c.args.code.now in
    let turn = c.in_ok-turn-in-At in
    let kept = subst (λ (t : Turn). KeptBy c.loop-now.self c.advance.new.self t) c.in-Goes.is turn.ensures.kept in
    record {
      run = λ tree input at. subst (λ (t : Turn). TurnedTo code tree input c.loop-now.self c.advance.new.self t) c.in-Goes.is
          (turn.ensures.turn tree input (subst (λ (n : Now). IsAt code tree input c.loop-now.self n) c.in-At.is (inv.run tree input at)));
      chain = λ t shown.
          let run = inv.chain t shown in
          let one = subst (λ (u : Turn). Chains code c.loop-now.self c.advance.new.self (At c.in-At.frame) u) c.in-Goes.is turn.ensures.chain run.next
          (subst (λ (n : Now). ShowsTree code c.loop-now.self.strand n run.next) c.in-At.is run.shown) in
          record {
            next = one.next;
            steps = more_steps code _ _ c.loop-now.self.strand.counts c.advance.new.self.strand.counts one.counts t run.next one.next _ _ _
                inv.words one.counted run.steps one.steps;
            shown = one.shown;
          };
      seen = kept.seen;
      words = kept.words ∙ inv.words;
      few = kept.few;
      within = let one = kept.capsules in omega (arith, one, inv.within, c.if-self-limit.false);
    }

pub loop-now-smaller-in-Goes : goal.loop-now-smaller-in-Goes
loop-now-smaller-in-Goes c =
    let kept = subst (λ (t : Turn). KeptBy c.loop-now.self c.advance.new.self t) c.in-Goes.is c.in_ok-turn-in-At.ensures.kept in
    let less : c.loop-now.self.strand.counts.capsules < c.args.limit = omega (arith, c.loop-now.invariant.within, c.if-self-limit.false) in
    smaller_at c.args.limit c.advance.new.self.strand.counts.capsules c.loop-now.self.strand.counts.capsules
    (pending c.advance.new.self.strand.waiting.items) (pending c.loop-now.self.strand.waiting.items) (turns_of c.in-Goes.next) (turns_of c.loop-now.now)
    kept.capsules less kept.pending (few_turns c.in-Goes.next) (ap (λ (n : Now). turns_of n) c.in-At.is)

-- a capsule meets another one
pub returns-in-Meets-clause-told : goal.returns-in-Meets-clause-told
returns-in-Meets-clause-told c = λ tree input at.
    let code = c.args.code.now in
    let inv = c.loop-now.invariant in
    let turn = c.in_ok-turn-in-At in
    let kept = subst (λ (t : Turn). KeptBy c.loop-now.self c.advance.new.self t) c.in-Meets.is turn.ensures.kept in
    let it = subst (λ (t : Turn). TurnedTo code tree input c.loop-now.self c.advance.new.self t) c.in-Meets.is
    (turn.ensures.turn tree input (subst (λ (n : Now). IsAt code tree input c.loop-now.self n) c.in-At.is (inv.run tree input at))) in
    let number = it.1 in (
      subst (λ (n : ℕ). IsMeetingOf code tree input n c.in-Meets.meeting) (sym kept) it.0,
      omega (arith, number, inv.within, c.if-self-limit.false),
    )

pub returns-in-Meets-clause-chain : goal.returns-in-Meets-clause-chain
returns-in-Meets-clause-chain c = λ t shown. tt

pub returns-in-Meets-clause-words : goal.returns-in-Meets-clause-words
returns-in-Meets-clause-words c =
    subst (λ (t : Turn). KeptBy c.loop-now.self c.advance.new.self t) c.in-Meets.is c.in_ok-turn-in-At.ensures.kept ∙ c.loop-now.invariant.words

-- what waits is there
pub resume-requires-clause-block : goal.resume-requires-clause-block
resume-requires-clause-block c =
    let began = c.requires.began in
    let code = c.args.code.now in
    let blocks = c.loop-now.self.strand.store.blocks.items in
    let it = subst (λ (n : Now). IsAt code began.0 began.1.0 c.loop-now.self n) c.in-Over.is (c.loop-now.invariant.run began.0 began.1.0 began.1.1) in
    let shown : IsShown code blocks c.loop-now.self.strand.waiting.items (IsOver c.in-Over.finish) (tree_at it.above it.leaf) =
    record { above = it.above; waits = it.shown.waits; leaf = it.leaf; tree = refl; at = it.shown.at } in
    (slots_there code 0 c.pop.new.self.items c.in-Some.waiting c.in-Over.finish blocks (tree_at it.above it.leaf)
    (subst (λ (ws : List Waiting). IsShown code blocks ws (IsOver c.in-Over.finish) (tree_at it.above it.leaf)) c.in-Some.ensures.items shown)).0

pub resume-requires-clause-slots : goal.resume-requires-clause-slots
resume-requires-clause-slots c =
    let began = c.requires.began in
    let code = c.args.code.now in
    let blocks = c.loop-now.self.strand.store.blocks.items in
    let it = subst (λ (n : Now). IsAt code began.0 began.1.0 c.loop-now.self n) c.in-Over.is (c.loop-now.invariant.run began.0 began.1.0 began.1.1) in
    let shown : IsShown code blocks c.loop-now.self.strand.waiting.items (IsOver c.in-Over.finish) (tree_at it.above it.leaf) =
    record { above = it.above; waits = it.shown.waits; leaf = it.leaf; tree = refl; at = it.shown.at } in
    (slots_there code 0 c.pop.new.self.items c.in-Some.waiting c.in-Over.finish blocks (tree_at it.above it.leaf)
    (subst (λ (ws : List Waiting). IsShown code blocks ws (IsOver c.in-Over.finish) (tree_at it.above it.leaf)) c.in-Some.ensures.items shown)).1

pub resume-requires-clause-few : goal.resume-requires-clause-few
resume-requires-clause-few c = omega (arith, c.loop-now.invariant.within, c.requires.limit)

-- a return, the beginning of a right branch, or a join
pub loop-now-preserved : goal.loop-now-preserved
loop-now-preserved c =
    let inv = c.loop-now.invariant in
    let code = c.args.code.now in
    let walk = c.loop-now.self in
    let ens = c.in_ok-now-in-Some.ensures in
    let kept = ens.kept in
    record {
      run = λ tree input at.
          let it = subst (λ (n : Now). IsAt code tree input walk n) c.in-Over.is (inv.run tree input at) in
          ens.now code tree input (record {
            above = it.above;
            leaf = it.leaf;
            forks = it.forks;
            shown = subst (λ (ws : List Waiting). IsShownAt code walk.strand.store.blocks.items ws (IsOver c.in-Over.finish) it.above it.leaf)
                c.in-Some.ensures.items it.shown;
            come = it.come;
            marks = it.marks;
          });
      chain = λ t shown.
          let run = inv.chain t shown in
          let over = subst (λ (n : Now). ShowsTree code walk.strand n run.next) c.in-Over.is run.shown in
          let turn = resumed_turn code (length walk.strand.store.words.items) c.pop.new.self.items c.in-Some.waiting c.in-Over.finish
          walk.strand.store.blocks.items (words_of walk.strand.store.words.items) run.next
          (subst (λ (ws : List Waiting). IsShown code walk.strand.store.blocks.items ws (IsOver c.in-Over.finish) run.next)
          c.in-Some.ensures.items over) in
          record {
            next = turn.0;
            steps = free_steps code _ _ walk.strand.counts c.resume.new.self.strand.counts t run.next turn.0 _ _ _
                inv.words kept.counts (ap (λ (ws : List ℕ). words_of ws) kept.words) run.steps turn.1;
            shown = rw (kept.now, kept.blocks, kept.waiting) turn.2;
          };
      seen = record {
        wrote = ap (λ (v : Visits). length v.wrote.items) kept.visits ∙ inv.seen.wrote ∙ sym (ap (λ (ws : List ℕ). length ws) kept.words);
        touched = ap (λ (v : Visits). length v.touched.items) kept.visits ∙ inv.seen.touched ∙ sym (ap (λ (ws : List ℕ). length ws) kept.words);
      };
      words = ap (λ (ws : List ℕ). length ws) kept.words ∙ inv.words;
      few = subst (λ (k : Counts). AreFew k) (sym kept.counts) inv.few;
      within = let same = ap (λ (k : Counts). k.capsules) kept.counts in omega (arith, same, inv.within);
    }

pub loop-now-smaller : goal.loop-now-smaller
loop-now-smaller c =
    let w = c.in-Some.waiting in
    let ws = c.pop.new.self.items in
    let kept = c.in_ok-now-in-Some.ensures.kept in
    let less = resumed_less w w.on c.in-Over.finish ws in
    let waited : pending c.loop-now.self.strand.waiting.items ≡ pending ws + pending_for w.on =
    ap (λ (xs : List Waiting). pending xs) c.in-Some.ensures.items ∙ pending_push ws w in
    let waits = ap (λ (xs : List Waiting). pending xs) kept.waiting in
    let was = ap (λ (n : Now). turns_of n) c.in-Over.is in
    let is = ap (λ (n : Now). turns_of n) kept.now in
    smaller c.args.limit c.resume.new.self.strand.counts.capsules c.loop-now.self.strand.counts.capsules (pending c.resume.new.self.strand.waiting.items)
    (pending c.loop-now.self.strand.waiting.items) (turns_of c.in_ok-now-in-Some.now) (turns_of c.loop-now.now)
    (ap (λ (k : Counts). k.capsules) kept.counts) (omega (arith, less, waited, waits, was, is))

-- nothing waits: all is over
pub returns-in-None-clause-told : goal.returns-in-None-clause-told
returns-in-None-clause-told c = λ tree input at.
    let code = c.args.code.now in
    let walk = c.loop-now.self in
    let it = subst (λ (n : Now). IsAt code tree input walk n) c.in-Over.is (c.loop-now.invariant.run tree input at) in
    let empty : length walk.strand.waiting.items ≡ 0 = omega (arith, c.in-None.ensures.cases.0, walk.strand.waiting.ok.0) in (
      result_of c.in-Over.finish,
      words_of walk.strand.store.words.items,
      stamps_in walk,
      over_root (strands_over code (length walk.strand.store.words.items)) tree input walk.strand.waiting.items it.above it.forks it.leaf
          (words_of walk.strand.store.words.items) (stamps_in walk) (result_of c.in-Over.finish) it.shown.waits empty it.shown.at.0 it.come,
      let few = c.loop-now.invariant.within in omega (arith, few),
    )

pub returns-in-None-clause-chain : goal.returns-in-None-clause-chain
returns-in-None-clause-chain c = λ t shown.
    let code = c.args.code.now in
    let walk = c.loop-now.self in
    let inv = c.loop-now.invariant in
    let run = inv.chain t shown in
    let over = subst (λ (n : Now). ShowsTree code walk.strand n run.next) c.in-Over.is run.shown in
    let empty : length walk.strand.waiting.items ≡ 0 = omega (arith, c.in-None.ensures.cases.0, walk.strand.waiting.ok.0) in (
      subst (λ (u : Strands). StepsInOrder (strands_over code (length c.args.self.now.strand.store.words.items)) (counts_of walk.strand.counts) t
          (words_of c.args.self.now.strand.store.words.items) u (words_of walk.strand.store.words.items))
          (tree_over code _ _ c.in-Over.finish run.next over empty) run.steps,
      inv.few,
      inv.within,
    )
