use Rattle.std.proofs.Common.{◌∙◌, ℕ, ◌+◌, List, Option, Some, None, sym, ap, subst, arith}
use Rattle.ppm_saved_reader.proofs.LoopLemmas.{RunsSoFar, no_runs, run_within, run_more, run_same, run_large, run_none, runs_end, empty_is, some_is}
use Rattle.ppm_saved_reader.proofs.repeated.read_runs.Goals as goal

-- no run was read yet
pub loop-read-init : goal.loop-read-init
loop-read-init c =
    subst (λ (l : List ℕ). RunsSoFar c.args.text.now c.args.line c.args.count l None c.args.line c.args.text.now) (sym c.in_ok-words.ensures.items)
    (no_runs c.args.text.now c.args.line c.args.count c.requires.bound c.requires.count)

-- a word of more than 64 bits
pub returns-in_default-read-clause-err : goal.returns-in_default-read-clause-err
returns-in_default-read-clause-err c =
    run_large c.loop-read.invariant c.in-Some.times c.in-Some.rest.now
    (c.in-Some.ensures.says ∙ ap (λ (r : Option ℕ). Some ((r, c.in-Some.times), c.in-Some.rest.now)) c.in_default-read.is)

-- the word of the line before
pub returns-then-is_last-clause-err : goal.returns-then-is_last-clause-err
returns-then-is_last-clause-err c =
    run_same c.loop-read.invariant c.in-Some-read.word c.in-Some.times c.in-Some.rest.now
    (c.in-Some.ensures.says ∙ ap (λ (r : Option ℕ). Some ((r, c.in-Some.times), c.in-Some.rest.now)) c.in-Some-read.is)
    (sym c.is_last.ensures ∙ c.if-is_last.true)

-- no more words than there are
pub push_run-requires : goal.push_run-requires
push_run-requires c =
    let within = run_within c.loop-read.invariant c.in-Some.read c.in-Some.times c.in-Some.rest.now c.in-Some.ensures.says in
    omega (arith, within, c.requires.few)

-- one run more
pub loop-read-preserved : goal.loop-read-preserved
loop-read-preserved c =
    let more = run_more c.loop-read.invariant c.in-Some-read.word c.in-Some.times c.in-Some.rest.now
    (c.in-Some.ensures.says ∙ ap (λ (r : Option ℕ). Some ((r, c.in-Some.times), c.in-Some.rest.now)) c.in-Some-read.is)
    (sym c.is_last.ensures ∙ c.if-is_last.false) in
    subst (λ (l : List ℕ). RunsSoFar c.args.text.now c.args.line c.args.count l (Some c.in-Some-read.word) (c.loop-read.number + 1) c.in-Some.rest.now)
    (sym c.in_ok-push_run.ensures.ok) more

-- all were read
pub returns-then-is_empty-clause-ok : goal.returns-then-is_empty-clause-ok
returns-then-is_empty-clause-ok c = runs_end c.loop-read.invariant (empty_is c.loop-read.left.now c.if-is_empty.ensures)

-- a line of another form, or bytes after the last line feed
pub returns-else-is_empty-clause-err : goal.returns-else-is_empty-clause-err
returns-else-is_empty-clause-err c =
    run_none c.loop-read.invariant (some_is c.loop-read.left.now c.if-is_empty.ensures) c.in_default.ensures.says
