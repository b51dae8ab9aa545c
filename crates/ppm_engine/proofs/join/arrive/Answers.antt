use Rattle.std.proofs.Common.{ap, sym, ℕ, ◌+◌, ◌∙◌}
use Rattle.ppm_step.specs.declared.row.Row.{Row}
use Rattle.ppm_step.specs.Standings.{stands}
use Rattle.ppm_cells.specs.declared.restart.RestartKind.TheVariants.{Join}
use Rattle.ppm_step.specs.declared.content.Content.TheVariants.{ANumber}
use Rattle.ppm_step.specs.declared.row.Row.TheVariants.{Exchange}
use Rattle.ppm_step.specs.Points.{order_word}
use Rattle.ppm_step.specs.Rows.{with_kind}
use Rattle.ppm_engine.proofs.MakingLemmas.{moved}
use Rattle.ppm_engine.proofs.join.arrive.Goals as goal

pub exchange_then-requires-clause-stands : goal.exchange_then-requires-clause-stands
exchange_then-requires-clause-stands g c κs within =
    let m = c.args.memory.now in
    let s = g.M.Memory.shape m in
    let code = g.M.Memory.code m in
    let place = c.args.seat.now in
    let led = g.M.Memory.led m place.own in (
      c.requires.stands.0,
      moved led c.requires.stands.0
          (ap (λ (r : Row). stands s code place r)
          (ap (λ (n : ℕ). Exchange (order_word c.args.block) (ANumber 0) (ANumber n) (with_kind place (Join c.args.block c.args.side)))
          (sym (c.from.ensures ∙ ap (λ (n : ℕ). 1 + n) c.number.ensures)))) (c.requires.stands.1),
    )

pub returns-clause-came : goal.returns-clause-came
returns-clause-came g c = λ first l.
    let m = c.args.memory.now in
    let s = g.M.Memory.shape m in
    let code = g.M.Memory.code m in
    let place = c.args.seat.now in
    let led = g.M.Memory.led m place.own in
    c.exchange_then.ensures.came first
    (moved led first (ap (λ (r : Row). stands s code place r)
    (ap (λ (n : ℕ). Exchange (order_word c.args.block) (ANumber 0) (ANumber n) (with_kind place (Join c.args.block c.args.side)))
    (sym (c.from.ensures ∙ ap (λ (n : ℕ). 1 + n) c.number.ensures)))) (l))
