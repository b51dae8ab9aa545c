use Rattle.ppm_locked.proofs.locked.Locked.turn.Goals as goal

pub returns-clause-turn : goal.returns-clause-turn
returns-clause-turn g c = (c.deref_mut.result.now.history, c.turn.ensures.made)
