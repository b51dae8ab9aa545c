-- The numbers of a code's listing are small.
use Rattle.std.proofs.Common.{◌≡◌, ℕ, zero, suc, ◌+◌, ◌<◌, ◌≤◌, List, [], ◌∷◌, ◌++◌, map, length, slice_get, IfSome, Option, Some, None, refl, subst, arith}
use Rattle.std.specs.List.{All, AllByRecursion}
use Rattle.ppm_words.specs.declared.trap.Trap.{Trap}
use Rattle.ppm_words.specs.declared.trap.Trap.TheVariants.{Overflow, DivZero, Index, Split}
use Rattle.ppm_words.specs.Limits.{array_limit}
use Rattle.ppm_code.specs.declared.act.End.{End}
use Rattle.ppm_code.specs.declared.act.End.TheVariants.{Next, Finish, Trap as Trapping, Call, Fork}
use Rattle.ppm_code.specs.declared.code.Capsule.{Capsule}
use Rattle.ppm_code.specs.declared.code.Procedure.{Procedure}
use Rattle.ppm_code.specs.declared.code.CodeParts.{CodeParts}
use Rattle.ppm_code.specs.declared.instr.Instr.{Instr}
use Rattle.ppm_code.specs.declared.instr.Instr.TheVariants.{Const, Move, Add, Sub, Mul, Div, Rem, Equal, NotEqual, Less, AtMost, Len, CutLeft, CutRight}
use Rattle.ppm_code.specs.declared.instr.Instr.TheVariants.{LoadSlot, StoreCur, Give, Get, Put, BranchZero, BranchNonZero, Room, StoreNew, Ends}
use Rattle.ppm_code.specs.Limits.{procedure_limit, capsule_limit, instr_limit, slot_limit, room_limit, line_limit}
use Rattle.ppm_code.specs.Sizes.{slots_in, slots_of}
use Rattle.ppm_code.specs.Code.{room_of, IsSlot, IsCapsuleOf, EndFits, Fits, IsCapsule, IsCode}
use Rattle.ppm_listing.specs.Listing.{number, trap_number, end_line, instr_line, procedure_lines, capsule_lines, lines_of}
use Rattle.ppm_listing_reader.proofs.FormLemmas.{IsBelow, IsLineBelow}

-- a fact of each element is one of the list
by_recursion : {X : Type 0} (P : X → Type 0) (xs : List X) → ((k : ℕ) (x : X) → slice_get xs k ≡ Some x → P x) → AllByRecursion P xs
by_recursion P [] f = tt
by_recursion P (x ∷ xs) f = (f 0 x refl, by_recursion P xs (λ k. f (suc k)))

-- of all elements, so of one that is got
got : {X : Type 0} (P : X → Type 0) (xs : List X) (k : ℕ) (x : X) → All P xs → slice_get xs k ≡ Some x → P x
got P [] k x all h = cc
got P (y ∷ xs) zero x all h = let same : y ≡ x = cc in subst P same (all 0 y (omega arith))
got P (y ∷ xs) (suc k) x all h = got P xs k x (λ j d l. all (suc j) d (omega (arith, l))) h

append_all : {X : Type 0} (P : X → Type 0) (xs ys : List X) → AllByRecursion P xs → AllByRecursion P ys → AllByRecursion P (xs ++ ys)
append_all P [] ys f g = g
append_all P (x ∷ xs) ys f g = (f.0, append_all P xs ys f.1 g)

map_all : {X Y : Type 0} (P : Y → Type 0) (f : X → Y) (xs : List X) → AllByRecursion (λ x. P (f x)) xs → AllByRecursion P (map f xs)
map_all P f [] h = tt
map_all P f (x ∷ xs) h = (h.0, map_all P f xs h.1)

-- the room of a capsule is within its limit
room_bound : (code : CodeParts) (procedure : ℕ) (is : List Instr) → ((at : ℕ) (i : Instr) → slice_get is at ≡ Some i → Fits code procedure is at i)
    → (words : ℕ) → room_of is ≡ Some words → words ≤ room_limit
room_bound limit_of procedure [] each words h = cc
room_bound limit_of procedure (Room n ∷ is) each words h = let same : n ≡ words = cc in let (at, some, most) = each 0 (Room n) refl in omega (arith, most, same)
room_bound code procedure ((Const d n) ∷ is) each words h = cc
room_bound code procedure ((Move d a) ∷ is) each words h = cc
room_bound code procedure ((Add d a b l) ∷ is) each words h = cc
room_bound code procedure ((Sub d a b l) ∷ is) each words h = cc
room_bound code procedure ((Mul d a b l) ∷ is) each words h = cc
room_bound code procedure ((Div d a b l) ∷ is) each words h = cc
room_bound code procedure ((Rem d a b l) ∷ is) each words h = cc
room_bound code procedure ((Equal d a b) ∷ is) each words h = cc
room_bound code procedure ((NotEqual d a b) ∷ is) each words h = cc
room_bound code procedure ((Less d a b) ∷ is) each words h = cc
room_bound code procedure ((AtMost d a b) ∷ is) each words h = cc
room_bound code procedure ((Len d a) ∷ is) each words h = cc
room_bound code procedure ((CutLeft d a b l) ∷ is) each words h = cc
room_bound code procedure ((CutRight d a b l) ∷ is) each words h = cc
room_bound code procedure ((LoadSlot d s) ∷ is) each words h = cc
room_bound code procedure ((StoreCur s a) ∷ is) each words h = cc
room_bound code procedure ((Give a) ∷ is) each words h = cc
room_bound code procedure ((Get d a b l) ∷ is) each words h = cc
room_bound code procedure ((Put a b s l) ∷ is) each words h = cc
room_bound code procedure ((BranchZero a t) ∷ is) each words h = cc
room_bound code procedure ((BranchNonZero a t) ∷ is) each words h = cc
room_bound code procedure ((StoreNew o a) ∷ is) each words h = cc
room_bound code procedure ((Ends e) ∷ is) each words h = cc

module _ (code : CodeParts) (is : IsCode code) (limit : ℕ) (large : line_limit < limit) where
  pub slots_bound : (procedure : ℕ) → slots_of code procedure ≤ slot_limit
  slots_bound procedure = go (slice_get code.procedures procedure) refl
    where
      go : (o : Option Procedure) → slice_get code.procedures procedure ≡ o → slots_in o ≤ slot_limit
      go None e = omega arith
      go (Some p) e = got (λ (q : Procedure). q.slots ≤ slot_limit) code.procedures procedure p is.slots_most e

  slot_small : (procedure slot : ℕ) → IsSlot code procedure slot → slot < limit
  slot_small procedure slot h = omega (arith, h, slots_bound procedure, large)

  procedure_small : (procedure : ℕ) → procedure < length code.procedures → procedure < limit
  procedure_small procedure h = omega (arith, h, is.procedures_most, large)

  capsule_small : (capsule : ℕ) → capsule < length code.capsules → capsule < limit
  capsule_small capsule h = omega (arith, h, is.capsules_most, large)

  line_small : (line : ℕ) → line ≤ line_limit → line < limit
  line_small line h = omega (arith, h, large)

  trap_small : (x : Trap) → trap_number x < limit
  trap_small Overflow = omega (arith, large)
  trap_small DivZero = omega (arith, large)
  trap_small Index = omega (arith, large)
  trap_small Split = omega (arith, large)

  end_small : (procedure : ℕ) (instrs : List Instr) (e : End) → EndFits code procedure instrs e → IsLineBelow limit (end_line e)
  end_small procedure instrs (Next k) f = (capsule_small k f.1, tt)
  end_small procedure instrs Finish f = tt
  end_small procedure instrs (Trapping x line) f = (trap_small x, (line_small line f.1, tt))
  end_small procedure instrs (Call q k None) (there, next, slot, room) = (procedure_small q there, (capsule_small k next.1, tt))
  end_small procedure instrs (Call q k (Some t)) (there, next, slot, room) = (
    procedure_small q there,
    (capsule_small k next.1, (slot_small procedure t slot, tt)),
  )
  end_small procedure instrs (Fork q p k None None) (left, right, next, a, b, room) =
      (procedure_small q left, (procedure_small p right, (capsule_small k next.1, tt)))
  end_small procedure instrs (Fork q p k None (Some u)) (left, right, next, a, b, room) =
      (procedure_small q left, (procedure_small p right, (capsule_small k next.1, (tt, (slot_small procedure u b, tt)))))
  end_small procedure instrs (Fork q p k (Some t) None) (left, right, next, a, b, room) =
      (procedure_small q left, (procedure_small p right, (capsule_small k next.1, (slot_small procedure t a, (tt, tt)))))
  end_small procedure instrs (Fork q p k (Some t) (Some u)) (left, right, next, a, b, room) =
      (procedure_small q left, (procedure_small p right, (capsule_small k next.1, (slot_small procedure t a, (slot_small procedure u b, tt)))))

  module _ (procedure : ℕ) (instrs : List Instr) (most : length instrs ≤ instr_limit)
      (room : (words : ℕ) → room_of instrs ≡ Some words → words ≤ room_limit) where
    target_small : (t : ℕ) → t < length instrs → t < limit
    target_small t h = omega (arith, h, most, large)

    instr_small : (at : ℕ) (i : Instr) → Fits code procedure instrs at i → IsLineBelow limit (instr_line i)
    instr_small at (Const d n) f = (tt, (tt, tt))
    instr_small at (Move d a) f = (tt, (tt, tt))
    instr_small at (Add d a b l) f = (tt, (tt, (tt, (line_small l f.1, tt))))
    instr_small at (Sub d a b l) f = (tt, (tt, (tt, (line_small l f.1, tt))))
    instr_small at (Mul d a b l) f = (tt, (tt, (tt, (line_small l f.1, tt))))
    instr_small at (Div d a b l) f = (tt, (tt, (tt, (line_small l f.1, tt))))
    instr_small at (Rem d a b l) f = (tt, (tt, (tt, (line_small l f.1, tt))))
    instr_small at (Equal d a b) f = (tt, (tt, (tt, tt)))
    instr_small at (NotEqual d a b) f = (tt, (tt, (tt, tt)))
    instr_small at (Less d a b) f = (tt, (tt, (tt, tt)))
    instr_small at (AtMost d a b) f = (tt, (tt, (tt, tt)))
    instr_small at (Len d a) f = (tt, (tt, tt))
    instr_small at (CutLeft d a b l) f = (tt, (tt, (tt, (line_small l f.1, tt))))
    instr_small at (CutRight d a b l) f = (tt, (tt, (tt, (line_small l f.1, tt))))
    instr_small at (LoadSlot d s) f = (tt, (slot_small procedure s f, tt))
    instr_small at (StoreCur s a) f = (slot_small procedure s f, (tt, tt))
    instr_small at (Give a) f = (tt, tt)
    instr_small at (Get d a b l) f = (tt, (tt, (tt, (line_small l f.1, tt))))
    instr_small at (Put a b s l) f = (tt, (tt, (tt, (line_small l f.1, tt))))
    instr_small at (BranchZero a t) f = (tt, (target_small t f.1, tt))
    instr_small at (BranchNonZero a t) f = (tt, (target_small t f.1, tt))
    instr_small at (Room n) (first, some, few) = (omega (arith, few, large), tt)
    instr_small at (StoreNew o a) (words, e, h) = (omega (arith, room words e, h, large), (tt, tt))
    instr_small at (Ends e) f = end_small procedure instrs e f

  numbers_small : (ns : List ℕ) → All (λ a. a < array_limit) ns → AllByRecursion (IsBelow limit) (map number ns)
  numbers_small [] h = tt
  numbers_small (n ∷ ns) h = (omega (arith, h 0 0 (omega arith), large), numbers_small ns (λ k d l. h (suc k) d (omega (arith, l))))

  procedures_small : (first : ℕ) (ps : List Procedure) → first + length ps ≤ procedure_limit → AllByRecursion (λ (p : Procedure). p.slots ≤ slot_limit) ps
      → AllByRecursion (λ (p : Procedure). p.entry < length code.capsules) ps → AllByRecursion (IsLineBelow limit) (procedure_lines first ps)
  procedures_small first [] most slots entries = tt
  procedures_small first (p ∷ ps) most slots entries = (
    (omega (arith, most, large), (tt, (omega (arith, slots.0, large), (tt, (capsule_small p.entry entries.0, tt))))),
    procedures_small (first + 1) ps (omega (arith, most)) slots.1 entries.1,
  )

  capsules_small : (first : ℕ) (cs : List Capsule) → first + length cs ≤ capsule_limit → AllByRecursion (IsCapsule code) cs
      → AllByRecursion (IsLineBelow limit) (capsule_lines first cs)
  capsules_small first [] most each = tt
  capsules_small first (c ∷ cs) most each = (
    (omega (arith, most, large), (tt, (procedure_small c.procedure each.0.procedure, tt))),
    append_all (IsLineBelow limit) (map instr_line c.instrs) (capsule_lines (first + 1) cs)
        (map_all (IsLineBelow limit) instr_line c.instrs (by_recursion (λ i. IsLineBelow limit (instr_line i)) c.instrs
        (λ k i h. instr_small c.procedure c.instrs each.0.most (room_bound code c.procedure c.instrs each.0.each) k i (each.0.each k i h))))
        (capsules_small (first + 1) cs (omega (arith, most)) each.1),
  )

  pub lines_small : AllByRecursion (IsLineBelow limit) (lines_of code)
  lines_small = (
    (omega (arith, large), tt),
    (
      (procedure_small code.root is.root, numbers_small code.arrays is.arrays),
      append_all (IsLineBelow limit) (procedure_lines 0 code.procedures) (capsule_lines 0 code.capsules)
          (procedures_small 0 code.procedures (omega (arith, is.procedures_most))
          (by_recursion (λ (p : Procedure). p.slots ≤ slot_limit) code.procedures
          (λ k p h. got (λ (q : Procedure). q.slots ≤ slot_limit) code.procedures k p is.slots_most h))
          (by_recursion (λ (p : Procedure). p.entry < length code.capsules) code.procedures (λ k p h. entry_there k p h)))
          (capsules_small 0 code.capsules (omega (arith, is.capsules_most))
          (by_recursion (IsCapsule code) code.capsules (λ k c h. got (IsCapsule code) code.capsules k c is.capsules h))),
    ),
  )
    where
      entry_there : (k : ℕ) (p : Procedure) → slice_get code.procedures k ≡ Some p → p.entry < length code.capsules
      entry_there k p h = (subst (λ o. IfSome o (λ q. IsCapsuleOf code k q.entry)) h (is.entries k)).1
