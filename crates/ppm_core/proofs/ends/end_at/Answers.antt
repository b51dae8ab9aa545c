use Rattle.std.proofs.Common.{◌∙◌, sym, ap, subst}
use Rattle.ppm_cells.specs.declared.restart.RestartKind.{RestartKind}
use Rattle.ppm_step.specs.Frames.{Rest, Installs, ending}
use Rattle.ppm_core.specs.Ends.{HasEnded, made_by}
use Rattle.ppm_core.proofs.ends.end_at.Goals as goal

pub returns-in-Some-clause-ended : goal.returns-in-Some-clause-ended
returns-in-Some-clause-ended c =
    let left = ending c.args.code.now c.args.home.now c.args.end in
    let step = c.put_at.result in
    subst (λ (r : Rest). HasEnded c.args.shape.now c.args.code.now c.args.seat.now left r c.args.words.now.items c.put_at.new.words.items (made_by step) step)
    (sym c.in-Some.ensures.next) (c.put_at.ensures.ended left)

pub returns-in-None-clause-ended : goal.returns-in-None-clause-ended
returns-in-None-clause-ended c =
    let left = ending c.args.code.now c.args.home.now c.args.end in
    let step = c.install_at.result in
    subst (λ (r : Rest). HasEnded c.args.shape.now c.args.code.now c.args.seat.now left r c.args.words.now.items c.install_at.new.words.items (made_by step) step)
    (sym (c.in-None.ensures.next ∙ ap (λ (kind : RestartKind). Installs kind) (sym c.installed.ensures))) (c.install_at.ensures.ended left)
