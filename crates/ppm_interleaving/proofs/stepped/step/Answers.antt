-- By where the strand is.
use Rattle.std.proofs.Common.{sym, subst}
use Rattle.ppm_interleaving.specs.Stepping.{MakesStep}
use Rattle.ppm_interleaving.specs.declared.stepped.Stepped.TheVariants.{Goes, Closes}
use Rattle.ppm_interleaving.specs.declared.strand.Strand.TheVariants.{Over}
use Rattle.ppm_interleaving.proofs.WaitLemmas.{tells_it, stays_over}
use Rattle.ppm_interleaving.proofs.stepped.step.Goals as goal

pub returns-in_ok-wait-in-Waiting : goal.returns-in_ok-wait-in-Waiting
returns-in_ok-wait-in-Waiting c =
    let words = c.args.words.now.items in
    subst (λ x. MakesStep c.args.code.now x c.args.strands.now words (Goes c.in_ok-wait-in-Waiting.field-0) words) (sym c.in-Waiting.is)
    (c.in_ok-wait-in-Waiting.ensures c.args.code.now words)

pub returns-in-Tells : goal.returns-in-Tells
returns-in-Tells c =
    let words = c.args.words.now.items in
    subst (λ x. MakesStep c.args.code.now x c.args.strands.now words (Closes c.in-Tells.finish) words) (sym c.in-Tells.is)
    (tells_it c.args.code.now c.in-Tells.finish c.args.strands.now words)

pub returns-in-Over : goal.returns-in-Over
returns-in-Over c =
    let words = c.args.words.now.items in
    subst (λ x. MakesStep c.args.code.now x c.args.strands.now words (Goes (Over c.in-Over.finish)) words) (sym c.in-Over.is)
    (stays_over c.args.code.now c.in-Over.finish c.args.strands.now words)
