-- As after the right branch alone.
use Rattle.std.proofs.Common.{[], ◌∷◌, sym, subst}
use Rattle.ppm_code.specs.Strands.{with_value}
use Rattle.ppm_filled.specs.Racing.{At, framed, frame_words_in, rejoining}
use Rattle.ppm_interleaving.specs.declared.strand.Branches.TheVariants.{Both}
use Rattle.ppm_interleaving.specs.Steps.{GoesOnAs, point_by, result_of}
use Rattle.ppm_interleaving.proofs.OpenLemmas.{joins_right}
use Rattle.ppm_interleaving.proofs.ReachLemmas.{if_ok}
use Rattle.ppm_interleaving.proofs.ending.join.Goals as goal

pub returns-in_ok-take_in-in-Gave : goal.returns-in_ok-take_in-in-Gave
returns-in_ok-take_in-in-Gave c =
    if_ok _ _ c.go_on.result (λ x goes code o shows.
    subst (λ l. GoesOnAs x (rejoining code o (At (point_by c.args.capsule (Both c.args.slots.0 c.args.slots.1))) (result_of l ∷ result_of c.args.right ∷ [])))
    (sym c.in-Gave.is) (joins_right code o c.args.capsule c.in-Gave.value c.args.slots.0 c.args.slots.1 c.args.right x
    (goes code (framed (with_value c.args.slots.0 c.in-Gave.value (frame_words_in o)))
    (c.in_ok-take_in-in-Gave.ensures (frame_words_in o) (c.without_block-own.ensures o shows))))) c.go_on.ensures
