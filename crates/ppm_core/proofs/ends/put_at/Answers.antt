use Rattle.std.proofs.Common.{◌∙◌, refl}
use Rattle.std.specs.Prelude.{slice_set}
use Rattle.ppm_step.specs.Frames.{Stores}
use Rattle.ppm_step.specs.Standings.{running}
use Rattle.ppm_core.proofs.EndLemmas.{stands_gone, step_made}
use Rattle.ppm_core.proofs.ends.put_at.Goals as goal

pub returns-then-not-cell_is_there-clause-ended : goal.returns-then-not-cell_is_there-clause-ended
returns-then-not-cell_is_there-clause-ended c = λ left.
    stands_gone c.args.shape.now c.args.code.now c.args.seat.now c.args.words.now.items (Stores c.args.put.cell c.args.put.content (left c.args.next)) c.if-not-cell_is_there.ensures

pub returns-clause-ended : goal.returns-clause-ended
returns-clause-ended c = λ left.
    let words = c.args.words.now.items in
    step_made c.args.shape.now c.args.code.now c.args.seat.now words c.store.new.words.items (Stores c.args.put.cell c.args.put.content (left c.args.next))
    (running c.args.shape.now c.args.seat.now (left c.args.next)) c.requires.finish c.if-not-cell_is_there.ensures
    (c.store.ensures.words ∙ (λ i. slice_set words (c.address-at.ensures.value i) (c.word.ensures i))) refl
