use Rattle.ppm_core.specs.Machine.{seen}
use Rattle.ppm_core.specs.Situation.{finish_in}
use Rattle.ppm_step.specs.State.{seeks_holder, stand_of}
use Rattle.ppm_locked.proofs.RunLemmas.{has_made, notes_the_end}
use Rattle.ppm_locked.proofs.held.Held.turn.Goals as goal

pub returns-clause-made : goal.returns-clause-made
returns-clause-made g c =
    has_made g.L.Keeping.first g.L.Keeping.most c.args.self.now.history c.make-told.new.self.history c.args.act (seen c.make-told.new.self.machine)
    c.args.seat.now c.make-told.new.seat c.note.new.seat c.make-told.result
    c.make-told.ensures.told c.make-told.ensures.run c.make-told.ensures.goes_on c.make-told.ensures.seat c.note.ensures.seat

pub returns-clause-ended : goal.returns-clause-ended
returns-clause-ended g c = λ some done soft.
    let n = seen c.make-told.new.self.machine in
    notes_the_end c.make-told.new.seat c.note.new.seat (finish_in n) (seeks_holder (stand_of n.state c.make-told.new.seat.processor)) c.note.ensures.seat
    (c.make-told.ensures.ended some done soft)
