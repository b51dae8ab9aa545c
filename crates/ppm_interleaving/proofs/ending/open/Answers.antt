-- Frames begin and wait as the words have them.
use Rattle.std.proofs.Common.{◌≡◌, ◌+◌, refl, ap, subst, arith}
use Rattle.ppm_code.specs.Sizes.{slots_of}
use Rattle.ppm_code.specs.Strands.{at_capsule, built}
use Rattle.ppm_filled.specs.Racing.{beginning, block_in, frame_words_in, opening, standing}
use Rattle.ppm_racy.specs.Code.{plain_code}
use Rattle.ppm_interleaving.specs.declared.strand.Branches.TheVariants.{Callee, Both}
use Rattle.ppm_interleaving.specs.Steps.{BeginsFrame, point_by}
use Rattle.ppm_interleaving.proofs.OpenLemmas.{begins_standing}
use Rattle.ppm_interleaving.proofs.ending.open.Goals as goal

pub returns-in-Next : goal.returns-in-Next
returns-in-Next c = λ o shows. (
  standing (frame_words_in o) (at_capsule c.in-Next.capsule),
  ap (λ e. opening (plain_code c.args.code.now) e o) c.in-Next.is,
  begins_standing c.in-Next.capsule c.without_block.result c.new.result (frame_words_in o) c.new.ensures (c.without_block.ensures o shows),
)

pub returns-in_ok-callee-in-Call : goal.returns-in_ok-callee-in-Call
returns-in_ok-callee-in-Call c = λ o shows.
    let code = plain_code c.args.code.now in (
      beginning code c.in-Call.procedure (built (slots_of code c.in-Call.procedure) 0 (block_in o)),
      standing (frame_words_in o) (point_by c.in-Call.capsule (Callee c.in-Call.to)),
      ap (λ e. opening code e o) c.in-Call.is,
      c.in_ok-callee-in-Call.ensures o shows,
      record { own = c.without_block-in-Call.ensures o shows; point = refl; branches = refl },
      refl,
    )

pub returns-in_ok-right_frame-in-Fork : goal.returns-in_ok-right_frame-in-Fork
returns-in_ok-right_frame-in-Fork c = λ o shows.
    let code = plain_code c.args.code.now in
    let place : 11 + c.slots_of.result ≡ 5 + (6 + slots_of code c.in-Fork.left) = omega (arith, c.slots_of.ensures) in (
      beginning code c.in-Fork.left (built (slots_of code c.in-Fork.left) 5 (block_in o)),
      beginning code c.in-Fork.right (built (slots_of code c.in-Fork.right) (5 + (6 + slots_of code c.in-Fork.left)) (block_in o)),
      standing (frame_words_in o) (point_by c.in-Fork.capsule (Both c.in-Fork.left_to c.in-Fork.right_to)),
      ap (λ e. opening code e o) c.in-Fork.is,
      c.in_ok-left_frame-in-Fork.ensures o shows,
      subst (λ n. BeginsFrame c.in_ok-right_frame-in-Fork.right_frame (beginning code c.in-Fork.right (built (slots_of code c.in-Fork.right) n (block_in o))))
          place (c.in_ok-right_frame-in-Fork.ensures o shows),
      record { own = c.without_block-in-Fork.ensures o shows; point = refl; branches = refl },
      refl,
    )
