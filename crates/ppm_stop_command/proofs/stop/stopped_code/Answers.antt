use Rattle.std.proofs.Common.{sym, subst}
use Rattle.ppm_loading.specs.Loading.{AreSizes}
use Rattle.ppm_stop_command.proofs.ReadBackLemmas.{read_back}
use Rattle.ppm_stop_command.proofs.StopLemmas.{code_reads, stopped_sizes, takes_over_by_places}
use Rattle.ppm_stop_command.proofs.stop.stopped_code.Goals as goal

-- the options say sizes of a machine
pub load_code-requires-clause-sizes : goal.load_code-requires-clause-sizes
load_code-requires-clause-sizes c = subst AreSizes (sym c.sizes_of.ensures) (stopped_sizes c.args.options c.requires.options)

-- the machine takes over by places
pub write_saved-requires : goal.write_saved-requires
write_saved-requires c = record {
  by_places = takes_over_by_places c.args.options _ _ _ _ _ _ c.args.schedule.now.items c.args.options.after _ c.sizes_of.ensures
      c.in_ok-machine.ensures c.follow.ensures c.shape.ensures;
}

-- the text is that of the machine after the run, and is read back, if the code may be resumed
pub returns : goal.returns
returns c =
    code_reads c.args.options c.args.schedule.now.items c.args.code c.args.input.now _ _ _ _ _ _ _ _ _ _ c.sizes_of.ensures c.keeper.ensures.keeper
    c.in_ok-machine.ensures c.follow.ensures c.arrays.ensures.value c.in_ok-names.ensures c.shape.ensures c.code-capsules.ensures c.words.ensures
    c.in_ok-text.ensures.text c.in_ok-text.ensures.fits
    (λ opens fits. read_back c.saved_texts_tell_states.ensures.law c.args.code c.args.input.now c.parts.ensures.code c.requires.arrays c.args.options c.requires.options
    _ _ opens c.args.schedule.now.items fits)
