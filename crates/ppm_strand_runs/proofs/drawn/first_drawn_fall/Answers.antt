-- Run by run.
use Rattle.std.proofs.Common.{rules, ◌≡◌, ◌∙◌, List, arith, sym, subst}
use Rattle.ppm_plan.specs.declared.strand_item.StrandItem.{StrandItem}
use Rattle.ppm_strand_runs.specs.Draws.{schedule_drawn}
use Rattle.ppm_strand_runs.specs.Run.{IsRunOf}
use Rattle.ppm_strand_runs.proofs.DrawLemmas.{none_yet, one_stood, not_some}
use Rattle.ppm_strand_runs.proofs.drawn.first_drawn_fall.Goals as goal

-- none yet
pub loop-number-init : goal.loop-number-init
loop-number-init c =
    (omega arith, none_yet c.args.code.now c.args.input.now c.args.draws.seed c.args.draws.strands c.args.draws.steps c.args.turns)

-- something falls
pub returns-then-is_some : goal.returns-then-is_some
returns-then-is_some c =
    let drawn : c.deref.result.now
    ≡ schedule_drawn c.args.code.now c.args.input.now c.args.draws.seed c.args.draws.strands c.args.draws.steps c.args.turns c.loop-number.number =
    search rules in (
      c.loop-number-test.true,
      subst (λ (l : List StrandItem). IsRunOf c.args.code.now c.args.input.now l c.args.turns c.in_ok-run.run') drawn c.in_ok-run.ensures,
      sym c.is_some.ensures ∙ c.if-is_some.true,
      c.loop-number.invariant.1,
    )

-- a run more
pub loop-number-preserved : goal.loop-number-preserved
loop-number-preserved c =
    let drawn : c.deref.result.now
    ≡ schedule_drawn c.args.code.now c.args.input.now c.args.draws.seed c.args.draws.strands c.args.draws.steps c.args.turns c.loop-number.number =
    search rules in (
      omega (arith, c.loop-number-test.true),
      one_stood c.args.code.now c.args.input.now c.args.draws.seed c.args.draws.strands c.args.draws.steps c.args.turns c.loop-number.number
          c.deref.result.now c.in_ok-run.run' c.loop-number.invariant.1 drawn c.in_ok-run.ensures
          (not_some c.in_ok-run.run'.fall (sym c.is_some.ensures ∙ c.if-is_some.false)),
    )

-- nothing fell
pub returns : goal.returns
returns c = λ k less. c.loop-number.invariant.1 k (omega (arith, less, c.loop-number-test.false))
