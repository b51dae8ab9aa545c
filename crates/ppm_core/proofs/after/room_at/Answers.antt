use Rattle.std.proofs.Common.{◌∙◌, ℕ, sym, ap}
use Rattle.std.specs.Prelude.{slice_index}
use Rattle.ppm_core.proofs.AfterLemmas.{room_so}
use Rattle.ppm_core.proofs.after.room_at.Goals as goal

pub returns : goal.returns
returns c =
    room_so c.args.shape.now c.args.place c.args.words.now.items c.found_by-counter.result c.args.asked c.block_at.result
    (sym c.finish_word.ensures ∙ c.if-finish_word-ne0.false)
    (c.found_by-counter.ensures ∙ ap (λ (at : ℕ). slice_index c.args.words.now.items at) c.address-at.ensures.value) c.block_at.ensures
