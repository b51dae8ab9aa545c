use Rattle.std.proofs.Common.{◌∙◌, sym, ap, arith}
use Rattle.ppm_sweep.specs.Ahead.{Left, first_of}
use Rattle.ppm_sweep.proofs.LeftLemmas.{new_round, no_processors}
use Rattle.ppm_sweep.proofs.ahead.Ahead.processor.Goals as goal

-- a new round begins
pub returns-then-self-gt0-2-clause-value : goal.returns-then-self-gt0-2-clause-value
returns-then-self-gt0-2-clause-value c =
    let i = c.self.inside in
    sym (ap (λ (l : Left). first_of l.later) (sym c.self.view_is)
    ∙ ap first_of (new_round i.next i.processors i.count (omega (arith, c.if-self.false)) (omega (arith, c.if-self-gt0.true)) (omega (arith, c.if-self-gt0-2.true))))

-- there is no processor
pub returns-else-self-gt0-2-clause-value : goal.returns-else-self-gt0-2-clause-value
returns-else-self-gt0-2-clause-value c =
    let i = c.self.inside in
    sym (ap (λ (l : Left). first_of l.later) (sym c.self.view_is)
    ∙ ap first_of (no_processors i.next i.processors i.count (omega (arith, c.if-self-gt0-2.false))))
