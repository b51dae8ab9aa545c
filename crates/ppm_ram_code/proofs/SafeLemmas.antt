-- No capsule of a RAM's code reads and writes one class of words, and none stores into a new block.
use Rattle.std.proofs.Common.{◌≡◌, ◌∙◌, ℕ, zero, suc, ◌==◌, Bool, true, false, not, ◌||◌, nat_lt, List, [], ◌∷◌, Some, None, refl, sym, ap, subst}
use Rattle.std.specs.Prelude.{slice_get}
use Rattle.std.specs.List.{AllByRecursion}
use Rattle.std.proofs.lemmas.Bool.{both_ways}
use Rattle.std.proofs.lemmas.List.Elements.{All-from_recursion}
use Rattle.ppm_code.specs.declared.class.Class.{Class}
use Rattle.ppm_code.specs.declared.class.Class.TheVariants.{Slot, New, Value, Room, Array}
use Rattle.ppm_code.specs.declared.class.May.{May}
use Rattle.ppm_code.specs.declared.class.May.TheVariants as mays
use Rattle.ppm_code.specs.declared.code.Capsule.{Capsule}
use Rattle.ppm_code.specs.declared.code.CodeParts.{CodeParts}
use Rattle.ppm_code.specs.declared.instr.Instr.{Instr}
use Rattle.ppm_code.specs.declared.instr.Instr.TheVariants as instr
use Rattle.ppm_code.specs.declared.register.Register.{Register}
use Rattle.ppm_code.specs.Free.{IsFree}
use Rattle.ppm_code.specs.Paths.{may, HasNoConflict}
use Rattle.ppm_code.specs.Strands.{instrs_in, instrs_of}
use Rattle.ppm_code.specs.Tidy.{IsTidy, IsTidyOne, IsTidyCapsule}
use Rattle.ppm_ram.specs.declared.instruction.Instruction.{Instruction}
use Rattle.ppm_ram.specs.declared.instruction.Instruction.TheVariants as instruction
use Rattle.ppm_ram.specs.declared.instruction.Operation.{Operation}
use Rattle.ppm_ram.specs.declared.instruction.Operation.TheVariants as operation
use Rattle.ppm_ram.specs.declared.ram.RamParts.{RamParts}
use Rattle.ppm_ram_code.specs.declared.bank.Bank.{Bank}
use Rattle.ppm_ram_code.specs.declared.bank.Bank.TheVariants.{First, Second}
use Rattle.ppm_ram_code.specs.Code.{operation_instr, instrs_for, capsule_for, capsules_from, code_of}
use Rattle.ppm_ram_code.specs.Correct.{StandsAlone}
use Rattle.ppm_ram_code.proofs.ListLemmas.{all_at, all_capsules}

-- whether an instruction of a capsule that may read these classes may stand in it: it writes none of them, and no new block
abbrev allows : (Class → Bool) → May → Bool
allows reads (mays.Read c) = reads c
allows reads (mays.Write (New o)) = false
allows reads (mays.Write (Slot i)) = not (reads (Slot i))
allows reads (mays.Write Value) = not (reads Value)
allows reads (mays.Write Room) = not (reads Room)
allows reads (mays.Write Array) = not (reads Array)
allows reads mays.Work = true
allows reads (mays.Branch t) = true
allows reads mays.Stop = true

abbrev AreAllowed : (Class → Bool) → List Instr → Type 0
AreAllowed reads is = AllByRecursion (λ i. allows reads (may i) ≡ true) is

-- one copy of the registers, the region and the memory; or all slots
abbrev copy_reads : Bank → Class → Bool
copy_reads First (Slot i) = nat_lt i 9
copy_reads Second (Slot i) = i == 0 || nat_lt 8 i
copy_reads b Array = true
copy_reads b (New o) = false
copy_reads b Value = false
copy_reads b Room = false

abbrev slots_read : Class → Bool
slots_read (Slot i) = true
slots_read Array = false
slots_read (New o) = false
slots_read Value = false
slots_read Room = false

-- what an instruction writes is not read
not_read : (reads : Class → Bool) (c : Class) → allows reads (mays.Write c) ≡ true → reads c ≡ true → ⊥
not_read reads (Slot i) h r = both_ways (not (reads (Slot i))) (ap not r) h
not_read reads (New o) h r = both_ways false refl h
not_read reads Value h r = both_ways (not (reads Value)) (ap not r) h
not_read reads Room h r = both_ways (not (reads Room)) (ap not r) h
not_read reads Array h r = both_ways (not (reads Array)) (ap not r) h

-- instructions of which the capsule may be stopped anywhere, and stores into no new block
record IsSafe (is : List Instr) : Type 0 where
  pub free : HasNoConflict is
  pub old : (at word : ℕ) (from : Register) → slice_get is at ≡ Some (instr.StoreNew word from) → ⊥

safe : (reads : Class → Bool) (is : List Instr) → AreAllowed reads is → IsSafe is
safe reads is all = record {
  free = λ read write c h.
      let r = h.exposed.reads in
      let w = h.writes in
      let one = all_at (λ i. allows reads (may i) ≡ true) is all read r.0 r.1 in
      let two = all_at (λ i. allows reads (may i) ≡ true) is all write w.0 w.1 in
      not_read reads c (subst (λ m. allows reads m ≡ true) w.2 two) (subst (λ m. allows reads m ≡ true) r.2 one);
  old = λ at word from e. both_ways false refl (all_at (λ i. allows reads (may i) ≡ true) is all at (instr.StoreNew word from) e);
}

work : (reads : Class → Bool) (o : Operation) (d a b : Register) (line : ℕ) → allows reads (may (operation_instr o d a b line)) ≡ true
work reads operation.Add d a b line = refl
work reads operation.Sub d a b line = refl
work reads operation.Mul d a b line = refl
work reads operation.Div d a b line = refl
work reads operation.Rem d a b line = refl
work reads operation.Less d a b line = refl

-- the instructions after what is done with the registers
allowed : (n : ℕ) (b : Bank) (i : Instruction) → (reads : Class → Bool) × AreAllowed reads (instrs_for n b i)
allowed n First (instruction.Set to z) = (
  copy_reads First,
  (refl, (refl, (refl, (refl, (refl, (refl, (refl, (refl, (refl, (refl, (refl, (refl, (refl, (refl, (refl, (refl, (refl, (refl, tt)))))))))))))))))),
)
allowed n Second (instruction.Set to z) = (
  copy_reads Second,
  (refl, (refl, (refl, (refl, (refl, (refl, (refl, (refl, (refl, (refl, (refl, (refl, (refl, (refl, (refl, (refl, (refl, (refl, tt)))))))))))))))))),
)
allowed n First (instruction.Compute o to x y) = (
  copy_reads First,
  (refl, (refl, (refl, (refl, (refl, (refl, (refl, (refl, (work (copy_reads First) o _ _ _ _, (refl, (refl, (refl, (refl, (refl, (refl, (refl, (refl, (refl, tt)))))))))))))))))),
)
allowed n Second (instruction.Compute o to x y) = (
  copy_reads Second,
  (refl, (refl, (refl, (refl, (refl, (refl, (refl, (refl, (work (copy_reads Second) o _ _ _ _, (refl, (refl, (refl, (refl, (refl, (refl, (refl, (refl, (refl, tt)))))))))))))))))),
)
allowed n First (instruction.Load to x) = (
  copy_reads First,
  (refl, (refl, (refl, (refl, (refl, (refl, (refl, (refl, (refl, (refl, (refl, (refl, (refl, (refl, (refl, (refl, (refl, (refl, (refl, tt))))))))))))))))))),
)
allowed n Second (instruction.Load to x) = (
  copy_reads Second,
  (refl, (refl, (refl, (refl, (refl, (refl, (refl, (refl, (refl, (refl, (refl, (refl, (refl, (refl, (refl, (refl, (refl, (refl, (refl, tt))))))))))))))))))),
)
allowed n b (instruction.Store x y) = (slots_read, (refl, (refl, (refl, (refl, (refl, tt))))))
allowed n b (instruction.JumpIfZero x target) = (slots_read, (refl, (refl, (refl, (refl, tt)))))
allowed n b (instruction.Jump target) = (slots_read, (refl, tt))
allowed n b instruction.Halt = (slots_read, (refl, tt))

abbrev IsSafeCapsule : Capsule → Type 0
IsSafeCapsule c = IsSafe c.instrs

all_safe : (is : List Instruction) (n : ℕ) → AllByRecursion IsSafeCapsule (capsules_from n is)
all_safe is n =
    all_capsules IsSafeCapsule (λ n i. Unit {0}) (λ n b i u. let a = allowed n b i in safe a.0 (instrs_for n b i) a.1) is n (λ k i e. tt)

-- the capsules of a code are safe, and where there is none there are no instructions
none_safe : IsSafe []
none_safe = safe slots_read [] tt

safe_at : (cs : List Capsule) → AllByRecursion IsSafeCapsule cs → (number : ℕ) → IsSafe (instrs_in (slice_get cs number))
safe_at [] all number = none_safe
safe_at (c ∷ cs) all zero = all.0
safe_at (c ∷ cs) all (suc number) = safe_at cs all.1 number

tidy_all : (code : CodeParts) (cs : List Capsule) → AllByRecursion IsSafeCapsule cs → AllByRecursion (IsTidyOne code) cs
tidy_all code [] all = tt
tidy_all code (c ∷ cs) all = (λ at word from e. absurd (all.0.old at word from e), tidy_all code cs all.1)

pub stands_alone : (r : RamParts) → StandsAlone r
stands_alone r = record {
  tidy = All-from_recursion (IsTidyOne (code_of r)) (capsules_from 0 r.instructions)
      (tidy_all (code_of r) (capsules_from 0 r.instructions) (all_safe r.instructions 0));
  free = λ number. (safe_at (capsules_from 0 r.instructions) (all_safe r.instructions 0) number).free;
}
