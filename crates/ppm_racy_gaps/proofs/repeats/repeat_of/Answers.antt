use Rattle.std.proofs.Common.{List, refl, subst}
use Rattle.ppm_racy.specs.declared.instr.RacyInstr.{RacyInstr}
use Rattle.ppm_racy_gaps.specs.Repeats.{HasNoRepeat, IsFirstRepeat}
use Rattle.ppm_racy_gaps.proofs.CodeLemmas.{racy_instrs_read}
use Rattle.ppm_racy_gaps.proofs.repeats.repeat_of.Goals as goal

-- the instructions that were read are the capsule's
pub returns-in-Some : goal.returns-in-Some
returns-in-Some c =
    let same = racy_instrs_read c.args.code.now c.parts.result.now c.as_slice.result.now c.args.number c.index-as_slice-number.result c.as_slice-3.result.now
    c.parts.ensures.value c.as_slice.ensures c.requires.there c.index-as_slice-number.is c.as_slice-3.ensures in
    record { capsule = refl; class = refl; first = subst (λ (is : List RacyInstr). IsFirstRepeat is c.in-Some.repeat) same c.in-Some.ensures }

-- and so they are where there is none
pub returns-in-None : goal.returns-in-None
returns-in-None c =
    let same = racy_instrs_read c.args.code.now c.parts.result.now c.as_slice.result.now c.args.number c.index-as_slice-number.result c.as_slice-3.result.now
    c.parts.ensures.value c.as_slice.ensures c.requires.there c.index-as_slice-number.is c.as_slice-3.ensures in
    subst (λ (is : List RacyInstr). HasNoRepeat is) same c.in-None.ensures
