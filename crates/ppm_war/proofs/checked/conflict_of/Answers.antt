use Rattle.std.proofs.Common.{refl, subst, List}
use Rattle.ppm_code.specs.declared.instr.Instr.{Instr}
use Rattle.ppm_code.specs.Paths.{HasNoConflict}
use Rattle.ppm_war.specs.Conflicts.{IsFirstConflict}
use Rattle.ppm_war.proofs.CodeLemmas.{instrs_read}
use Rattle.ppm_war.proofs.checked.conflict_of.Goals as goal

-- the first conflict of the instructions that were read, which are the capsule's
pub returns-in-Some : goal.returns-in-Some
returns-in-Some c =
    let same = instrs_read c.args.code.now c.parts-parts.result.now c.as_slice.result.now c.args.number c.index-as_slice-number.result c.as_slice-2.result.now
    c.parts-parts.ensures.value c.as_slice.ensures c.requires c.index-as_slice-number.is c.as_slice-2.ensures in
    record { capsule = refl; first = subst (λ (is : List Instr). IsFirstConflict is c.in-Some.found) same c.in-Some.ensures }

-- or they have none
pub returns-in-None : goal.returns-in-None
returns-in-None c =
    let same = instrs_read c.args.code.now c.parts-parts.result.now c.as_slice.result.now c.args.number c.index-as_slice-number.result c.as_slice-2.result.now
    c.parts-parts.ensures.value c.as_slice.ensures c.requires c.index-as_slice-number.is c.as_slice-2.ensures in
    subst (λ (is : List Instr). HasNoConflict is) same c.in-None.ensures
