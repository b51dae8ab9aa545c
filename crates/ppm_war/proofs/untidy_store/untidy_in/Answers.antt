use Rattle.std.proofs.Common.{List, refl, subst}
use Rattle.ppm_code.specs.declared.instr.Instr.{Instr}
use Rattle.ppm_code.specs.Tidy.{IsTidyCapsule}
use Rattle.ppm_war.specs.Untidy.{IsFirstUntidy}
use Rattle.ppm_war.proofs.CodeLemmas.{instrs_read}
use Rattle.ppm_war.proofs.untidy_store.untidy_in.Goals as goal

-- the instructions that were read are the capsule's
pub returns-in-Some : goal.returns-in-Some
returns-in-Some c =
    let same = instrs_read c.args.code.now c.parts-parts.result.now c.as_slice.result.now c.args.number c.index-as_slice-number.result c.as_slice-2.result.now
    c.parts-parts.ensures.value c.as_slice.ensures c.requires c.index-as_slice-number.is c.as_slice-2.ensures in
    record { capsule = refl; first = subst (λ (is : List Instr). IsFirstUntidy c.args.code.now is c.in-Some.at) same c.in-Some.ensures }

-- and so they are where all are tidy
pub returns-in-None : goal.returns-in-None
returns-in-None c =
    let same = instrs_read c.args.code.now c.parts-parts.result.now c.as_slice.result.now c.args.number c.index-as_slice-number.result c.as_slice-2.result.now
    c.parts-parts.ensures.value c.as_slice.ensures c.requires c.index-as_slice-number.is c.as_slice-2.ensures in
    subst (λ (is : List Instr). IsTidyCapsule c.args.code.now is) same c.in-None.ensures
