use Rattle.std.proofs.Common.{◌∙◌, ◌≤◌, Some, refl, sym, arith}
use Rattle.std.specs.Prelude.{slice_set}
use Rattle.ppm_cells.specs.Cells.{word_count}
use Rattle.ppm_cells.specs.declared.restart.Restart.{Restart}
use Rattle.ppm_step.specs.Frames.{Installs}
use Rattle.ppm_step.specs.Standings.{IsAt}
use Rattle.ppm_step.proofs.ThereLemmas.{restart_fits}
use Rattle.ppm_core.proofs.EndLemmas.{stands_gone, step_made}
use Rattle.ppm_core.proofs.ends.install_at.Goals as goal

pub returns-then-not-restart_there-clause-ended : goal.returns-then-not-restart_there-clause-ended
returns-then-not-restart_there-clause-ended c = λ left.
    stands_gone c.args.shape.now c.args.code.now c.args.seat.now c.args.words.now.items (Installs c.args.kind) c.if-not-restart_there.ensures

pub returns-clause-ended : goal.returns-clause-ended
returns-clause-ended c = λ left.
    let words = c.args.words.now.items in
    let seat = c.args.seat.now in
    let restart : Restart = record { kind = c.args.kind; bottom = seat.restart.bottom } in
    let few : word_count c.args.shape.now ≤ 75497921 = omega (arith, c.word_count.ensures.value, c.word_count.ensures.bound) in (
      step_made c.args.shape.now c.args.code.now seat words c.store.new.words.items (Installs c.args.kind) (IsAt seat.place (Some restart)) c.requires.finish
          c.if-not-restart_there.ensures (c.store.ensures.words ∙ (λ i. slice_set words (c.address-at.ensures.value i) (c.restart_word-word.ensures i))) refl,
      restart_fits c.args.shape.now few _ (sym c.if-not-restart_there.ensures),
    )
