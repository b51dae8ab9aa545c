-- The code of the tests: one capsule, which stores into the frame of its own procedure and calls that.
use Rattle.std.proofs.Common.{◌≡◌, ◌<◌, ◌≤◌, ℕ, zero, suc, List, [], ◌∷◌, refl, subst, arith, Some, None}
use Rattle.std.proofs.lemmas.List.Elements.{All-from_recursion}
use Rattle.std.specs.Prelude.{slice_get, IfSome}
use Rattle.std.specs.List.{All}
use Rattle.ppm_code.specs.declared.act.End.TheVariants.{Call}
use Rattle.ppm_code.specs.declared.code.CodeParts.{CodeParts}
use Rattle.ppm_code.specs.declared.code.Procedure.{Procedure}
use Rattle.ppm_code.specs.declared.instr.Instr.{Instr}
use Rattle.ppm_code.specs.declared.instr.Instr.TheVariants.{Room, StoreNew, Ends}
use Rattle.ppm_code.specs.declared.register.Register.{Register}
use Rattle.ppm_code.specs.Limits.{slot_limit}
use Rattle.ppm_code.specs.Code.{IsCode, IsCapsule, IsCapsuleOf, Fits}
use Rattle.ppm_words.specs.Limits.{array_limit}
use Rattle.ppm_code.proofs.NumberedLemmas.{each_numbered}

abbrev pub sample_instrs : (from : Register) (offset : ℕ) → List Instr
sample_instrs from offset = Room 7 ∷ StoreNew offset from ∷ Ends (Call 0 0 None) ∷ []

abbrev pub sample_code : (from : Register) (offset : ℕ) → CodeParts
sample_code from offset = record {
  root = 0;
  arrays = [];
  procedures = record { slots = 1; entry = 0 } ∷ [];
  capsules = record { procedure = 0; instrs = sample_instrs from offset } ∷ [];
}

module _ (from : Register) (offset : ℕ) (less : offset < 7) where
  sample_capsule : IsCapsule (sample_code from offset) (record { procedure = 0; instrs = sample_instrs from offset })
  sample_capsule = record {
    procedure = omega arith;
    most = omega arith;
    last = (Room 7 ∷ StoreNew offset from ∷ [], Call 0 0 None, refl);
    each = each_numbered (λ at i. Fits (sample_code from offset) 0 (sample_instrs from offset) at i) (sample_instrs from offset)
        ((refl, omega arith, omega arith), ((7, refl, less), ((omega arith, (refl, omega arith), tt, refl), tt)));
  }

  entries : (procedure : ℕ)
      → IfSome (slice_get (sample_code from offset).procedures procedure) (λ p. IsCapsuleOf (sample_code from offset) procedure p.entry)
  entries zero = (refl, omega arith)
  entries (suc n) = tt

  pub sample_is_code : IsCode (sample_code from offset)
  sample_is_code = record {
    root = omega arith;
    root_slots = omega arith;
    arrays = All-from_recursion (λ (a : ℕ). a < array_limit) [] tt;
    procedures_most = omega arith;
    capsules_most = omega arith;
    slots_most = All-from_recursion (λ (p : Procedure). p.slots ≤ slot_limit) (sample_code from offset).procedures (omega arith, tt);
    entries = entries;
    capsules = All-from_recursion (IsCapsule (sample_code from offset)) (sample_code from offset).capsules (sample_capsule, tt);
  }
