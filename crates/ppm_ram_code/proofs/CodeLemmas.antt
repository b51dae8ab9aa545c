-- The code of a RAM keeps all rules of a code.
use Rattle.std.proofs.Common.{◌≡◌, ◌∙◌, ◌<◌, ◌≤◌, ℕ, zero, suc, ◌+◌, ◌*◌, ◌^◌, Bool, true, false, List, [], ◌∷◌, ◌++◌, length, Some, None, IfSome, refl, sym, ap, subst, arith}
use Rattle.std.specs.Prelude.{slice_get}
use Rattle.std.specs.List.{AllByRecursion, All}
use Rattle.std.proofs.lemmas.Bool.{ltb-true}
use Rattle.std.proofs.lemmas.List.Elements.{All-from_recursion}
use Rattle.ppm_code.specs.declared.act.End.{End}
use Rattle.ppm_code.specs.declared.act.End.TheVariants.{Next, Finish}
use Rattle.ppm_code.specs.declared.code.Capsule.{Capsule}
use Rattle.ppm_code.specs.declared.code.CodeParts.{CodeParts}
use Rattle.ppm_code.specs.declared.code.Procedure.{Procedure}
use Rattle.ppm_code.specs.Limits.{slot_limit}
use Rattle.ppm_words.specs.Limits.{array_limit}
use Rattle.ppm_code.specs.declared.instr.Instr.{Instr}
use Rattle.ppm_code.specs.declared.instr.Instr.TheVariants as instr
use Rattle.ppm_code.specs.declared.register.Register.{Register}
use Rattle.ppm_code.specs.Code.{IsLine, IsCapsuleOf, Fits, IsCapsule, IsCode}
use Rattle.ppm_code.proofs.NumberedLemmas.{AllNumbered, each_numbered}
use Rattle.ppm_ram.specs.declared.instruction.Instruction.{Instruction}
use Rattle.ppm_ram.specs.declared.instruction.Instruction.TheVariants as instruction
use Rattle.ppm_ram.specs.declared.instruction.Operation.{Operation}
use Rattle.ppm_ram.specs.declared.instruction.Operation.TheVariants as operation
use Rattle.ppm_ram.specs.declared.ram.RamParts.{RamParts}
use Rattle.ppm_ram.specs.Limits.{instruction_limit, line_of}
use Rattle.ppm_ram.specs.Program.{IsRam, has_target, is_final}
use Rattle.ppm_ram_code.specs.declared.bank.Bank.{Bank}
use Rattle.ppm_ram_code.specs.declared.bank.Bank.TheVariants.{First, Second}
use Rattle.ppm_ram_code.specs.Code.{other, slot_of, frame_slots, capsule_at, register, region, own, loads, stored_in, stores, onward, operation_instr}
use Rattle.ppm_ram_code.specs.Code.{instrs_for, capsule_for, capsules_from, code_of}
use Rattle.ppm_ram_code.proofs.ListLemmas.{all_at, some_at, next_there, first_there, capsule_there, capsule_count, all_capsules}

-- the last instruction is an end
abbrev IsEnd : Instr → Type 0
IsEnd (instr.Ends e) = Unit {0}
IsEnd _ = ⊥

abbrev IsEnded : List Instr → Type 0
IsEnded [] = ⊥
IsEnded (i ∷ []) = IsEnd i
IsEnded (i ∷ j ∷ is) = IsEnded (j ∷ is)

last_one : (i : Instr) → IsEnd i → (e : End) × (i ≡ instr.Ends e)
last_one (instr.Ends e) h = (e, refl)
last_one _ h = absurd h

ends_last : (is : List Instr) → IsEnded is → (front : List Instr) × (e : End) × (is ≡ front ++ (instr.Ends e ∷ []))
ends_last [] h = absurd h
ends_last (i ∷ []) h = let (e, is) = last_one i h in ([], e, ap (λ (i : Instr). i ∷ []) is)
ends_last (i ∷ j ∷ is) h = let (front, e, same) = ends_last (j ∷ is) h in (i ∷ front, e, ap (λ (l : List Instr). i ∷ l) same)

slot_low : (b : Bank) (k : ℕ) → k < 8 → slot_of b k < 17
slot_low First k h = omega (arith, h)
slot_low Second k h = omega (arith, h)

module _ (r : RamParts) (is : IsRam r) where
  abbrev code : CodeParts
  code = code_of r

  -- an instruction fits wherever it stands
  abbrev Good : Instr → Type 0
  Good i = (all : List Instr) (at : ℕ) → Fits code 0 all at i

  slot_good : (b : Bank) (k : ℕ) → k < 8 → (d : Register) → Good (instr.LoadSlot d (slot_of b k))
  slot_good b k low d all at = slot_low b k low

  store_good : (b : Bank) (k : ℕ) → k < 8 → (d : Register) → Good (instr.StoreCur (slot_of b k) d)
  store_good b k low d all at = slot_low b k low

  loads_good : (b : Bank) (rest : List Instr) → AllByRecursion Good rest → AllByRecursion Good (loads b rest)
  loads_good b rest h = (
    slot_good b 0 (omega arith) (register 0),
    (
      slot_good b 1 (omega arith) (register 1),
      (
        slot_good b 2 (omega arith) (register 2),
        (
          slot_good b 3 (omega arith) (register 3),
          (
            slot_good b 4 (omega arith) (register 4),
            (
              slot_good b 5 (omega arith) (register 5),
              (
                slot_good b 6 (omega arith) (register 6),
                (slot_good b 7 (omega arith) (register 7), h),
              ),
            ),
          ),
        ),
      ),
    ),
  )

  -- a capsule of an instruction is there
  capsule_is : (k : ℕ) (b : Bank) → k < length r.instructions → IsCapsuleOf code 0 (capsule_at k b)
  capsule_is k b low =
      let (i, found) = some_at r.instructions k low in
      let there = capsule_there r.instructions 0 k b i found in
      let count = capsule_count r.instructions 0 in
      (subst (λ c. IfSome c (λ c. c.procedure ≡ 0)) (sym there) refl, place b count)
    where
      place : (b : Bank) → length (capsules_from 0 r.instructions) ≡ 2 * length r.instructions → capsule_at k b < length (capsules_from 0 r.instructions)
      place First count = omega (arith, count, low)
      place Second count = omega (arith, count, low)

  onward_good : (k : ℕ) (b : Bank) → k < length r.instructions → Good (instr.Ends (Next (capsule_at k b)))
  onward_good k b low all at = capsule_is k b low

  stores_good : (k : ℕ) (b : Bank) → k < length r.instructions → AllByRecursion Good (stores k b)
  stores_good k b low = (
    store_good b 0 (omega arith) (register 0),
    (
      store_good b 1 (omega arith) (register 1),
      (
        store_good b 2 (omega arith) (register 2),
        (
          store_good b 3 (omega arith) (register 3),
          (
            store_good b 4 (omega arith) (register 4),
            (
              store_good b 5 (omega arith) (register 5),
              (
                store_good b 6 (omega arith) (register 6),
                (store_good b 7 (omega arith) (register 7), (onward_good k b low, tt)),
              ),
            ),
          ),
        ),
      ),
    ),
  )

  line_is : (n : ℕ) → n < length r.instructions → IsLine (line_of n)
  line_is n low = let few = is.few in (omega arith, omega (arith, low, few))

  operation_good : (o : Operation) (d a b : Register) (n : ℕ) → n < length r.instructions → Good (operation_instr o d a b (line_of n))
  operation_good operation.Add d a b n low all at = line_is n low
  operation_good operation.Sub d a b n low all at = line_is n low
  operation_good operation.Mul d a b n low all at = line_is n low
  operation_good operation.Div d a b n low all at = line_is n low
  operation_good operation.Rem d a b n low all at = line_is n low
  operation_good operation.Less d a b n low all at = tt

  -- the capsules of an instruction that is there
  module _ (n : ℕ) (i : Instruction) (found : slice_get r.instructions n ≡ Some i) where
    there : n < length r.instructions
    there = within r.instructions n found
      where
        within : (xs : List Instruction) (n : ℕ) → slice_get xs n ≡ Some i → n < length xs
        within [] n e = absurd (cc)
        within (x ∷ xs) zero e = omega arith
        within (x ∷ xs) (suc n) e = let h = within xs n e in omega (arith, h)

    on : is_final i ≡ false → n + 1 < length r.instructions
    on = next_there r.instructions is.end n i found

    target : has_target (length r.instructions) i ≡ true
    target = all_at (λ i. has_target (length r.instructions) i ≡ true) r.instructions is.targets n i found

  from_all : (n : ℕ) (b : Bank) (i : Instruction) → IsEnded (instrs_for n b i) → length (instrs_for n b i) ≤ 160 → AllByRecursion Good (instrs_for n b i)
      → IsCapsule code (capsule_for n b i)
  from_all n b i end most good = record {
    procedure = omega arith;
    most = most;
    last = ends_last (instrs_for n b i) end;
    each = λ at j e. all_at Good (instrs_for n b i) good at j e (instrs_for n b i) at;
  }

  each_is : (n : ℕ) (b : Bank) (i : Instruction) → slice_get r.instructions n ≡ Some i → IsCapsule code (capsule_for n b i)
  each_is n b (instruction.Set to z) e =
      from_all n b (instruction.Set to z) tt (omega arith) (loads_good b (instr.Const (own to) z ∷ stores (n + 1) (other b)) (λ all at. tt, stores_good (n + 1) (other b) (on n _ e refl)))
  each_is n b (instruction.Compute o to x y) e =
      from_all n b (instruction.Compute o to x y) tt (omega arith)
      (loads_good b (operation_instr o (own to) (own x) (own y) (line_of n) ∷ stores (n + 1) (other b)) (operation_good o (own to) (own x) (own y) n (there n _ e), stores_good (n + 1) (other b) (on n _ e refl)))
  each_is n b (instruction.Load to x) e =
      from_all n b (instruction.Load to x) tt (omega arith)
      (loads_good b (instr.LoadSlot region 0 ∷ instr.Get (own to) region (own x) (line_of n) ∷ stores (n + 1) (other b))
      (λ all at. omega arith, (λ all at. line_is n (there n _ e), stores_good (n + 1) (other b) (on n _ e refl))))
  each_is n b (instruction.Store x y) e =
      from_all n b (instruction.Store x y) tt (omega arith) (
        λ all at. omega arith,
        (
          slot_good b x.index x.in_range (register 0),
          (
            slot_good b y.index y.in_range (register 1),
            (λ all at. line_is n (there n _ e), (onward_good (n + 1) b (on n _ e refl), tt)),
          ),
        ),
      )
  each_is n b (instruction.JumpIfZero x t) e =
      let low = ltb-true t (length r.instructions) (target n _ e) in
      let instrs = instrs_for n b (instruction.JumpIfZero x t) in
      record {
        procedure = omega arith;
        most = omega arith;
        last = ends_last instrs tt;
        each = each_numbered (λ at j. Fits code 0 instrs at j) instrs
            (slot_low b x.index x.in_range, ((omega arith, omega arith), (capsule_is t b low, (capsule_is (n + 1) b (on n _ e refl), tt))));
      }
  each_is n b (instruction.Jump t) e =
      from_all n b (instruction.Jump t) tt (omega arith) (onward_good t b (ltb-true t (length r.instructions) (target n _ e)), tt)
  each_is n b instruction.Halt e = from_all n b instruction.Halt tt (omega arith) (λ all at. tt, tt)

  pub code_is : IsCode code
  code_is = record {
    root = omega arith;
    root_slots = omega arith;
    arrays = All-from_recursion (λ (a : ℕ). a < array_limit) (0 ∷ []) (omega arith, tt);
    procedures_most = omega arith;
    capsules_most = (let count = capsule_count r.instructions 0 in let few = is.few in omega (arith, count, few));
    slots_most = All-from_recursion (λ (p : Procedure). p.slots ≤ slot_limit) code.procedures (omega arith, tt);
    entries = entries;
    capsules = All-from_recursion (IsCapsule code) (capsules_from 0 r.instructions)
        (all_capsules (IsCapsule code) (λ n i. slice_get r.instructions n ≡ Some i) each_is r.instructions 0
        (λ k i e. let same : k ≡ 0 + k = omega arith in subst (λ (n : ℕ). slice_get r.instructions n ≡ Some i) same e));
  }
    where
      entries : (procedure : ℕ) → IfSome (slice_get code.procedures procedure) (λ p. IsCapsuleOf code procedure p.entry)
      entries zero = capsule_is 0 First (first_there r.instructions is.end)
      entries (suc k) = tt
