use Rattle.ppm_outcomes.specs.Resumes.{state_of}
use Rattle.ppm_legs.proofs.SavedStopLemmas.{by_places, stop_reads}
use Rattle.ppm_legs.proofs.stop_saved.stopped.Goals as goal

-- the machine takes over by places
pub write_saved-requires : goal.write_saved-requires
write_saved-requires c = record {
  by_places = by_places c.requires.there.0 (state_of c.args.saved) c.requires.there.1 c.args.schedule.now.items c.args.options.after _
      c.in_ok-gone.ensures.leg _ c.shape.ensures;
}

-- the text is that of the machine after the leg, and is read back
pub returns : goal.returns
returns c =
    stop_reads c.args.options c.args.schedule.now.items (state_of c.args.saved) c.faults_tell_saved_texts.ensures.law c.requires.there.0
    c.requires.there.1 _ c.in_ok-gone.ensures.leg c.requires.stands _ _ _ _ _ c.in_ok-gone.ensures.names c.shape.ensures c.code-capsules.ensures
    c.words.ensures c.in_ok-text.ensures.text c.in_ok-text.ensures.fits
