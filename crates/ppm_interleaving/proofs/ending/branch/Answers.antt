-- The frame in the block.
use Rattle.std.proofs.Common.{subst}
use Rattle.ppm_code.specs.Strands.{built, entry_of}
use Rattle.ppm_code.specs.Sizes.{slots_of}
use Rattle.ppm_filled.specs.Racing.{framed, block_in}
use Rattle.ppm_racy.specs.Code.{plain_code}
use Rattle.ppm_interleaving.specs.Owns.{ShowsOwn}
use Rattle.ppm_interleaving.proofs.OpenLemmas.{begins_standing}
use Rattle.ppm_interleaving.proofs.ending.branch.Goals as goal

pub returns : goal.returns
returns c = λ o shows.
    begins_standing (entry_of (plain_code c.args.code.now) c.args.procedure) c.in_ok-built.built c.begun.result
    (built (slots_of (plain_code c.args.code.now) c.args.procedure) c.args.frame (block_in o)) c.begun.ensures
    (subst (λ n. ShowsOwn c.in_ok-built.built (framed (built n c.args.frame (block_in o)))) c.slots_of.ensures (c.in_ok-built.ensures o shows))
