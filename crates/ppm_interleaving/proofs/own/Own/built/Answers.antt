-- The frame of a procedure in the block.
use Rattle.std.proofs.Common.{◌∙◌, ◌+◌, get_or, ap}
use Rattle.ppm_interleaving.specs.Owns.{slots_from}
use Rattle.ppm_interleaving.proofs.OwnLemmas.{built_frame}
use Rattle.ppm_interleaving.proofs.own.Own.built.Goals as goal

pub returns : goal.returns
returns c = λ o shows.
    built_frame c.args.self.now _ o c.args.slots c.args.frame shows
    (c.in_ok-slots.ensures ∙ ap (λ ws. slots_from ws (c.args.frame + 6) c.args.slots) c.deref.ensures.value)
    (c.word_at.ensures ∙ ap (λ ws. get_or ws (c.args.frame + 4) 0) c.deref-2.ensures.value) c.new.ensures.items
