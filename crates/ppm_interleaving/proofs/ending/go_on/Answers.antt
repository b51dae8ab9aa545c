-- With the value in its slot.
use Rattle.std.proofs.Common.{[], ◌∷◌, sym, subst}
use Rattle.ppm_code.specs.Strands.{with_value}
use Rattle.ppm_filled.specs.Racing.{At, frame_words_in, rejoining}
use Rattle.ppm_interleaving.specs.declared.strand.Branches.TheVariants.{Callee}
use Rattle.ppm_interleaving.specs.Steps.{BeginsFrame, point_by, result_of}
use Rattle.ppm_interleaving.proofs.OpenLemmas.{begins_standing}
use Rattle.ppm_interleaving.proofs.ending.go_on.Goals as goal

pub returns-in_ok-take_in-in-Gave : goal.returns-in_ok-take_in-in-Gave
returns-in_ok-take_in-in-Gave c = λ code o shows.
    subst (λ f. BeginsFrame c.new.result (rejoining code o (At (point_by c.args.capsule (Callee c.args.to))) (result_of f ∷ []))) (sym c.in-Gave.is)
    (begins_standing c.args.capsule c.take_in.new.own c.new.result (with_value c.args.to c.in-Gave.value (frame_words_in o)) c.new.ensures
    (c.in_ok-take_in-in-Gave.ensures (frame_words_in o) (c.without_block-own.ensures o shows)))
