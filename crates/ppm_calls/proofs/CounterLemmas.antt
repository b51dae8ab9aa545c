-- The counter keeps the rules of a code.
use Rattle.std.proofs.Common.{◌<◌, ◌≤◌, ℕ, zero, suc, [], ◌∷◌, refl, arith, pos}
use Rattle.std.proofs.lemmas.List.Elements.{All-from_recursion}
use Rattle.std.specs.Prelude.{slice_get, IfSome}
use Rattle.ppm_words.specs.Limits.{array_limit}
use Rattle.ppm_code.specs.declared.act.End.TheVariants.{Next, Finish}
use Rattle.ppm_code.specs.declared.code.Procedure.{Procedure}
use Rattle.ppm_code.specs.declared.instr.Instr.TheVariants.{Add, Const, Get, LoadSlot, Put, StoreCur}
use Rattle.ppm_code.specs.Limits.{slot_limit}
use Rattle.ppm_code.specs.Code.{IsCode, IsCapsule, IsCapsuleOf, Fits}
use Rattle.ppm_code.proofs.NumberedLemmas.{each_numbered}
use Rattle.ppm_calls.specs.Counter.{add_instrs, counter_code, read_instrs}
use Rattle.ppm_cut_code.specs.Layout.{register}

reads : IsCapsule counter_code (record { procedure = 0; instrs = read_instrs })
reads = record {
  procedure = omega arith;
  most = omega arith;
  last = (LoadSlot (register 0) 0 ∷ Const (register 1) (pos 0) ∷ Get (register 2) (register 0) (register 1) 1 ∷ StoreCur 1 (register 2) ∷ [], Next 1, refl);
  each = each_numbered (λ at i. Fits counter_code 0 read_instrs at i) read_instrs
      (omega arith, (tt, ((omega arith, omega arith), (omega arith, ((refl, omega arith), tt)))));
}

adds : IsCapsule counter_code (record { procedure = 0; instrs = add_instrs })
adds = record {
  procedure = omega arith;
  most = omega arith;
  last = (
    LoadSlot (register 0) 0 ∷ Const (register 1) (pos 0) ∷ LoadSlot (register 2) 1 ∷ Const (register 3) (pos 1) ∷ Add (register 2) (register 2) (register 3) 2 ∷ Put (register 0) (register 1) (register 2) 2 ∷ [],
    Finish,
    refl,
  );
  each = each_numbered (λ at i. Fits counter_code 0 add_instrs at i) add_instrs
      (omega arith, (tt, (omega arith, (tt, ((omega arith, omega arith), ((omega arith, omega arith), (tt, tt)))))));
}

entries : (procedure : ℕ) → IfSome (slice_get counter_code.procedures procedure) (λ p. IsCapsuleOf counter_code procedure p.entry)
entries zero = (refl, omega arith)
entries (suc n) = tt

pub counter_is_code : IsCode counter_code
counter_is_code = record {
  root = omega arith;
  root_slots = omega arith;
  arrays = All-from_recursion (λ (a : ℕ). a < array_limit) counter_code.arrays (omega arith, tt);
  procedures_most = omega arith;
  capsules_most = omega arith;
  slots_most = All-from_recursion (λ (p : Procedure). p.slots ≤ slot_limit) counter_code.procedures (omega arith, tt);
  entries = entries;
  capsules = All-from_recursion (IsCapsule counter_code) counter_code.capsules (reads, (adds, tt));
}
