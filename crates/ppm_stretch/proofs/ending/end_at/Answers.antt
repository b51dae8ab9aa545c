use Rattle.std.proofs.Common.{◌+◌, ◌∙◌, sym, ap}
use Rattle.ppm_cells.specs.declared.restart.RestartKind.{RestartKind}
use Rattle.ppm_step.specs.Frames.{Rest, Installs, ending}
use Rattle.ppm_step.specs.Standings.{running}
use Rattle.ppm_stretch.proofs.ending.end_at.Goals as goal

pub put_at-requires-clause-stands : goal.put_at-requires-clause-stands
put_at-requires-clause-stands g c κs within = record {
  rest = ending c.args.code.now c.args.home.now c.args.end (c.args.n + 1);
  stands = c.requires.stands ∙ ap (λ (r : Rest). running c.args.shape.now c.args.place.now r) c.in-Some.ensures.next;
}

pub install_at-requires-clause-stands : goal.install_at-requires-clause-stands
install_at-requires-clause-stands g c κs within =
    c.requires.stands ∙ ap (λ (r : Rest). running c.args.shape.now c.args.place.now r) c.in-None.ensures.next
    ∙ ap (λ (kind : RestartKind). running c.args.shape.now c.args.place.now (Installs kind)) (sym c.installed.ensures)

pub returns-in-Some-clause-ended : goal.returns-in-Some-clause-ended
returns-in-Some-clause-ended g c =
    c.put_at.ensures.ended (ending c.args.code.now c.args.home.now c.args.end (c.args.n + 1))
    (c.requires.stands ∙ ap (λ (r : Rest). running c.args.shape.now c.args.place.now r) c.in-Some.ensures.next)

pub returns-in-None-clause-ended : goal.returns-in-None-clause-ended
returns-in-None-clause-ended g c = c.install_at.ensures.ended (ending c.args.code.now c.args.home.now c.args.end (c.args.n + 1))
