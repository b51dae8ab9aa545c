use Rattle.std.proofs.Common.{arith}
use Rattle.std.proofs.lemmas.Option.{slice_get_within}
use Rattle.ppm_war.specs.Stores.{IsTidyAt}
use Rattle.ppm_war.proofs.CodeLemmas.{and_here}
use Rattle.ppm_war.proofs.ConflictLemmas.{is_false}
use Rattle.ppm_war.proofs.UntidyLemmas.{untidy_at}
use Rattle.ppm_war.proofs.untidy_store.first_untidy.Goals as goal

-- this store is not tidy
pub returns-then-not-is_tidy_at : goal.returns-then-not-is_tidy_at
returns-then-not-is_tidy_at c = record {
  untidy = untidy_at c.args.code.now c.args.instrs.now c.loop-at.at (λ tidy. is_false c.is_tidy_at.result c.if-not-is_tidy_at.true (c.is_tidy_at.ensures.1 tidy));
  earlier = c.loop-at.invariant;
}

-- this one is
pub loop-at-preserved : goal.loop-at-preserved
loop-at-preserved c = and_here (IsTidyAt c.args.code.now c.args.instrs.now) c.loop-at.at c.loop-at.invariant (c.is_tidy_at.ensures.0 c.if-not-is_tidy_at.false)

-- all were met
pub returns : goal.returns
returns c = λ at word from one. c.loop-at.invariant at (omega (arith, c.loop-at-test.false, slice_get_within c.args.instrs.now at _ one)) word from one
