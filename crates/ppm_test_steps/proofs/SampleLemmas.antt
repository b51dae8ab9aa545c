-- The code that the rows are tried with: one procedure, with a capsule for each end but that which goes on with another capsule.
use Rattle.std.proofs.Common.{◌≡◌, ◌<◌, ◌≤◌, ℕ, zero, suc, List, [], ◌∷◌, refl, subst, arith, Some, None}
use Rattle.std.proofs.lemmas.List.Elements.{All-from_recursion}
use Rattle.std.specs.Prelude.{slice_get, IfSome}
use Rattle.std.specs.List.{All}
use Rattle.ppm_words.specs.declared.trap.Trap.TheVariants.{DivZero}
use Rattle.ppm_code.specs.declared.act.End.{End}
use Rattle.ppm_code.specs.declared.act.End.TheVariants.{Finish, Trap, Call, Fork}
use Rattle.ppm_code.specs.declared.code.Capsule.{Capsule}
use Rattle.ppm_code.specs.declared.code.CodeParts.{CodeParts}
use Rattle.ppm_code.specs.declared.code.Procedure.{Procedure}
use Rattle.ppm_code.specs.declared.instr.Instr.{Instr}
use Rattle.ppm_code.specs.declared.instr.Instr.TheVariants.{Ends, Room}
use Rattle.ppm_code.specs.Limits.{slot_limit}
use Rattle.ppm_words.specs.Limits.{array_limit}
use Rattle.ppm_code.specs.Code.{IsCode, IsCapsule, IsCapsuleOf, Fits, EndFits}
use Rattle.ppm_code.proofs.NumberedLemmas.{each_numbered}

abbrev ending : End → Capsule
ending end = record { procedure = 0; instrs = Ends end ∷ [] }

abbrev building : (words : ℕ) → End → Capsule
building words end = record { procedure = 0; instrs = Room words ∷ Ends end ∷ [] }

-- the capsules from each one on
abbrev from_trap : List Capsule
from_trap = ending (Trap DivZero 3) ∷ []

abbrev from_fork_to : List Capsule
from_fork_to = building 19 (Fork 0 0 3 (Some 0) None) ∷ from_trap

abbrev from_fork : List Capsule
from_fork = building 19 (Fork 0 0 3 None None) ∷ from_fork_to

abbrev from_call_to : List Capsule
from_call_to = building 7 (Call 0 3 (Some 0)) ∷ from_fork

abbrev from_call : List Capsule
from_call = building 7 (Call 0 3 None) ∷ from_call_to

abbrev pub sample_code : CodeParts
sample_code = record { root = 0; arrays = []; procedures = record { slots = 1; entry = 5 } ∷ []; capsules = ending Finish ∷ from_call }

ends : (end : End) → EndFits sample_code 0 (Ends end ∷ []) end → IsCapsule sample_code (ending end)
ends end fits = record {
  procedure = omega arith;
  most = omega arith;
  last = ([], end, refl);
  each = each_numbered (λ at i. Fits sample_code 0 (Ends end ∷ []) at i) (Ends end ∷ []) (fits, tt);
}

builds : (words : ℕ) (end : End) → 1 ≤ words → words ≤ 1048576 → EndFits sample_code 0 (Room words ∷ Ends end ∷ []) end
    → IsCapsule sample_code (building words end)
builds words end some most fits = record {
  procedure = omega arith;
  most = omega arith;
  last = (Room words ∷ [], end, refl);
  each = each_numbered (λ at i. Fits sample_code 0 (Room words ∷ Ends end ∷ []) at i) (Room words ∷ Ends end ∷ []) ((refl, some, most), (fits, tt));
}

-- the capsule that comes next
after : IsCapsuleOf sample_code 0 3
after = (refl, omega arith)

entries : (procedure : ℕ) → IfSome (slice_get sample_code.procedures procedure) (λ p. IsCapsuleOf sample_code procedure p.entry)
entries zero = (refl, omega arith)
entries (suc n) = tt

pub sample_is_code : IsCode sample_code
sample_is_code = record {
  root = omega arith;
  root_slots = omega arith;
  arrays = All-from_recursion (λ (a : ℕ). a < array_limit) [] tt;
  procedures_most = omega arith;
  capsules_most = omega arith;
  slots_most = All-from_recursion (λ (p : Procedure). p.slots ≤ slot_limit) sample_code.procedures (omega arith, tt);
  entries = entries;
  capsules = All-from_recursion (IsCapsule sample_code) sample_code.capsules (
    ends Finish tt,
    (
      builds 7 (Call 0 3 None) (omega arith) (omega arith) (omega arith, after, tt, refl),
      (
        builds 7 (Call 0 3 (Some 0)) (omega arith) (omega arith) (omega arith, after, omega arith, refl),
        (
          builds 19 (Fork 0 0 3 None None) (omega arith) (omega arith) (omega arith, omega arith, after, tt, tt, refl),
          (
            builds 19 (Fork 0 0 3 (Some 0) None) (omega arith) (omega arith) (omega arith, omega arith, after, omega arith, tt, refl),
            (ends (Trap DivZero 3) (omega arith, omega arith), tt),
          ),
        ),
      ),
    ),
  );
}
