-- Copies of codes.
use Rattle.std.proofs.Common.{◌≡◌, ◌∙◌, sym, subst, ℕ, List}
use Rattle.ppm_code.specs.Code.{IsCode}
use Rattle.ppm_code.specs.declared.code.Capsule.{Capsule}
use Rattle.ppm_code.specs.declared.code.CodeParts.{CodeParts}
use Rattle.ppm_code.specs.declared.code.Procedure.{Procedure}

-- a record of the same parts is of the same code
pub copied : (code parts : CodeParts) (arrays : List ℕ) (procedures : List Procedure) (capsules : List Capsule) → parts ≡ code → arrays ≡ parts.arrays
    → procedures ≡ parts.procedures → capsules ≡ parts.capsules → IsCode code
    → IsCode (record { root = parts.root; arrays = arrays; procedures = procedures; capsules = capsules })
copied code parts arrays procedures capsules same a p k is =
    let parts_are : record { root = parts.root; arrays = arrays; procedures = procedures; capsules = capsules } ≡ parts
    = λ i. record { root = parts.root; arrays = a i; procedures = p i; capsules = k i } in
    subst IsCode (sym (parts_are ∙ same)) is
