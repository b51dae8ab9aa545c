-- The strand is taken out, makes its step, and is put back.
use Rattle.std.proofs.Common.{◌∙◌, refl, subst}
use Rattle.ppm_depth.specs.declared.frame.Finish.TheVariants.{Gave}
use Rattle.ppm_interleaving.specs.declared.strand.Strand.TheVariants.{Tells}
use Rattle.ppm_interleaving.specs.Stepping.{PutsBack}
use Rattle.ppm_interleaving.proofs.PutLemmas.{if_ok_then, same_step, steps_back}
use Rattle.ppm_interleaving.proofs.machine.Machine.step.Goals as goal

pub returns : goal.returns
returns c =
    if_ok_then _ _ _ c.put_back.result (λ tells back words root arrays.
    steps_back c.args.code.now c.args.self.now c.put_back.new.self c.args.strand c.take-taken.result (Tells (Gave 0)) c.take-taken.ensures.there
    c.requires.there c.requires.not_over refl root arrays c.in_ok-stepped.stepped tells
    (same_step c.args.code.now c.take-taken.result c.in_ok-stepped.stepped _ _ _ _ _ _ (c.deref.ensures.value ∙ c.take-taken.ensures.strands)
    c.take-taken.ensures.words words c.in_ok-stepped.ensures)
    (subst (λ xs. PutsBack xs c.args.strand c.in_ok-stepped.stepped tells c.put_back.new.self.strands.items) c.take-taken.ensures.strands back))
    c.put_back.ensures.strands c.put_back.ensures.words
