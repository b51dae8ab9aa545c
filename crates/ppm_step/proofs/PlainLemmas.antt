-- A capsule of a code asks for no room, writes no word of a new block and builds none; or it asks for room first, and never again.
use Rattle.std.proofs.Common.{◌≡◌, ℕ, zero, suc, ◌+◌, ◌-◌, ◌==◌, max, Bool, true, false, List, [], ◌∷◌, refl, ap, subst, arith, slice_set, Option, Some, None}
use Rattle.std.specs.Prelude.{◌^◌, ℤ, ◌+ℤ◌, ◌-ℤ◌, ◌*ℤ◌, int_div, int_rem, nat_lt, nat_le, if◌then◌else◌, ◌&&◌, slice_get, replicate}
use Rattle.std.proofs.lemmas.Option.{slice_get_within, get_or_from_slice_get}
use Rattle.ppm_strands.specs.Capsule.{Capsule, Reads, Writes, Asks as AsksFor, Ends as EndsAt}
use Rattle.ppm_strands.specs.Strand.{Own, New as NewWord, Shared}
use Rattle.ppm_words.specs.TwosComplement.{value_of, word_of}
use Rattle.ppm_words.specs.declared.trap.Trap.TheVariants.{Overflow, DivZero, Split}
use Rattle.ppm_code.specs.Acts.{does, held, fits, is_zero, whole, divided, element_of, at_element, length_of, start_of, traps}
use Rattle.ppm_code.specs.Capsules.{capsule_from, capsule_of, at_act}
use Rattle.ppm_code.specs.Code.{Fits, EndFits, IsCode, IsCapsule, room_of}
use Rattle.ppm_code.specs.Locations.{Where, location_of}
use Rattle.ppm_code.specs.declared.act.Act.{Act}
use Rattle.ppm_code.specs.declared.act.Act.TheVariants.{Sets, Passes, Jumps, Steps, Ends as Stops}
use Rattle.ppm_code.specs.declared.act.Step.TheVariants.{Loads, Stores, Asks}
use Rattle.ppm_code.specs.declared.act.End.{End}
use Rattle.ppm_code.specs.declared.act.End.TheVariants.{Next, Finish, Trap, Call, Fork}
use Rattle.ppm_code.specs.declared.code.Capsule.{Capsule as CodeCapsule}
use Rattle.ppm_code.specs.declared.code.CodeParts.{CodeParts}
use Rattle.ppm_code.specs.declared.instr.Instr.{Instr}
use Rattle.ppm_code.specs.declared.instr.Instr.TheVariants.{Const, Move, Add, Sub, Mul, Div, Rem, Equal, NotEqual, Less, AtMost, Len, CutLeft}
use Rattle.ppm_code.specs.declared.instr.Instr.TheVariants.{CutRight}
use Rattle.ppm_code.specs.declared.instr.Instr.TheVariants.{LoadSlot, StoreCur, Give, Get, Put, BranchZero, BranchNonZero, Room, StoreNew, Ends}
use Rattle.ppm_code.specs.declared.location.Location.TheVariants.{Array}
use Rattle.ppm_code.specs.declared.register.Register.{Register}

module _ (Built : Type 0) where
  -- words of a new block only where this may be built
  abbrev pub IsOld : Where → Type 0
  IsOld (Own k) = Unit {0}
  IsOld (NewWord offset) = Built
  IsOld (Shared index) = Unit {0}

  -- a block is built only then
  abbrev pub EndsPlainly : End → Type 0
  EndsPlainly (Call procedure capsule to) = Built
  EndsPlainly (Fork left right capsule left_to right_to) = Built
  EndsPlainly _ = Unit {0}

  -- a capsule that asks for no room, stores into old words alone, and ends plainly
  abbrev pub IsPlain : Capsule Where End → Type 0
  IsPlain (Reads location go) = (word : ℕ) → IsPlain (go word)
  IsPlain (Writes location word go) = IsOld location × IsPlain go
  IsPlain (AsksFor words go) = ⊥
  IsPlain (EndsAt e) = EndsPlainly e

  -- an instruction, and what it does
  abbrev pub IsPlainInstr : Instr → Type 0
  IsPlainInstr (Room n) = ⊥
  IsPlainInstr (StoreNew offset from) = Built
  IsPlainInstr (Ends e) = EndsPlainly e
  IsPlainInstr _ = Unit {0}

  abbrev ActsPlainly : Act → Type 0
  ActsPlainly (Stops e) = EndsPlainly e
  ActsPlainly (Steps (Stores l v)) = IsOld (location_of l)
  ActsPlainly (Steps (Asks n)) = ⊥
  ActsPlainly _ = Unit {0}

  either : (b : Bool) (x y : Act) → ActsPlainly x → ActsPlainly y → ActsPlainly (if b then x else y)
  either true x y p q = p
  either false x y p q = q

  whole_plain : (line : ℕ) (d : Register) (z : ℤ) → ActsPlainly (whole line d z)
  whole_plain line d z = either (fits z) (Sets d (word_of z)) (traps Overflow line) tt tt

  divided_plain : (line : ℕ) (d : Register) (left right z : ℤ) → ActsPlainly (divided line d left right z)
  divided_plain line d left right z =
      either (is_zero right) (traps DivZero line) (if fits (int_div left right) then Sets d (word_of z) else traps Overflow line) tt
      (either (fits (int_div left right)) (Sets d (word_of z)) (traps Overflow line) tt tt)

  load_plain : (line : ℕ) (d : Register) (o : Option ℕ) → ActsPlainly (at_element line o (λ x. Loads (Array x) d))
  load_plain line d None = tt
  load_plain line d (Some x) = tt

  store_plain : (line v : ℕ) (o : Option ℕ) → ActsPlainly (at_element line o (λ x. Stores (Array x) v))
  store_plain line v None = tt
  store_plain line v (Some x) = tt

  cut_plain : (b : Bool) (d : Register) (v line : ℕ) → ActsPlainly (if b then Sets d v else traps Split line)
  cut_plain true d v line = tt
  cut_plain false d v line = tt

  does_plain : (words : ℕ) (i : Instr) (g : List ℕ) → IsPlainInstr i → ActsPlainly (does words i g)
  does_plain words (Const d n) g h = tt
  does_plain words (Move d a) g h = tt
  does_plain words (Add d a b line) g h = whole_plain line d (value_of (held g a) +ℤ value_of (held g b))
  does_plain words (Sub d a b line) g h = whole_plain line d (value_of (held g a) -ℤ value_of (held g b))
  does_plain words (Mul d a b line) g h = whole_plain line d (value_of (held g a) *ℤ value_of (held g b))
  does_plain words (Div d a b line) g h =
      divided_plain line d (value_of (held g a)) (value_of (held g b)) (int_div (value_of (held g a)) (value_of (held g b)))
  does_plain words (Rem d a b line) g h =
      divided_plain line d (value_of (held g a)) (value_of (held g b)) (int_rem (value_of (held g a)) (value_of (held g b)))
  does_plain words (Equal d a b) g h = tt
  does_plain words (NotEqual d a b) g h = tt
  does_plain words (Less d a b) g h = tt
  does_plain words (AtMost d a b) g h = tt
  does_plain words (Len d a) g h = tt
  does_plain words (CutLeft d a b line) g h = cut_plain (nat_le (held g b) (length_of (held g a))) d _ line
  does_plain words (CutRight d a b line) g h =
      cut_plain (nat_le (held g b) (length_of (held g a)) && nat_lt (start_of (held g a) + held g b) (2 ^ 32)) d _ line
  does_plain words (LoadSlot d slot) g h = tt
  does_plain words (StoreCur slot a) g h = tt
  does_plain words (Give a) g h = tt
  does_plain words (Get d a b line) g h = load_plain line d (element_of words (held g a) (held g b))
  does_plain words (Put a b s line) g h = store_plain line (held g s) (element_of words (held g a) (held g b))
  does_plain words (BranchZero a t) g h = either (held g a == 0) (Jumps t) Passes tt tt
  does_plain words (BranchNonZero a t) g h = either (held g a == 0) Passes (Jumps t) tt tt
  does_plain words (Room n) g h = absurd h
  does_plain words (StoreNew o a) g h = h
  does_plain words (Ends e) g h = h

  act_plain : (go : ℕ → List ℕ → Capsule Where End) → ((t : ℕ) (h : List ℕ) → IsPlain (go t h))
      → (next : ℕ) (a : Act) (g : List ℕ) → ActsPlainly a → IsPlain (at_act go next a g)
  act_plain go on next (Sets d v) g h = on next (slice_set g d.index v)
  act_plain go on next Passes g h = on next g
  act_plain go on next (Jumps t) g h = on (max t next) g
  act_plain go on next (Steps (Loads location d)) g h = λ v. on next (slice_set g d.index v)
  act_plain go on next (Steps (Stores location v)) g h = (h, on next g)
  act_plain go on next (Steps (Asks n)) g h = absurd h
  act_plain go on next (Stops e) g h = h

  -- the capsule of such instructions
  pub from_plain : (words here skip : ℕ) (is : List Instr) (g : List ℕ)
      → ((at : ℕ) (i : Instr) → slice_get is at ≡ Some i → IsPlainInstr i) → IsPlain (capsule_from words here skip is g)
  from_plain words here skip [] g each = tt
  from_plain words here (suc skip) (i ∷ is) g each = from_plain words (here + 1) skip is g (λ at j e. each (suc at) j e)
  from_plain words here zero (i ∷ is) g each =
      act_plain (λ t h. capsule_from words (here + 1) (t - (here + 1)) is h)
      (λ t h. from_plain words (here + 1) (t - (here + 1)) is h (λ at j e. each (suc at) j e))
      (here + 1) (does words i g) g (does_plain words i g (each 0 i refl))

-- where no room is asked for, nothing of a new block fits
no_room : (o : Option ℕ) (words : ℕ) → o ≡ None → o ≡ Some words → ⊥
no_room o words none some = cc

end_fits : (code : CodeParts) (p : ℕ) (all : List Instr) (e : End) → room_of all ≡ None → EndFits code p all e → EndsPlainly ⊥ e
end_fits code p all (Next capsule) none h = tt
end_fits code p all Finish none h = tt
end_fits code p all (Trap trap line) none h = tt
end_fits code p all (Call procedure capsule to) none h = no_room (room_of all) _ none h.3
end_fits code p all (Fork left right capsule left_to right_to) none h = no_room (room_of all) _ none h.5

-- nor is room asked for after the first instruction
room_first : (all : List Instr) (n : ℕ) → slice_get all 0 ≡ Some (Room n) → room_of all ≡ Some n
room_first [] n e = cc
room_first (i ∷ is) n e = let same : i ≡ Room n = cc in ap (λ j. room_of (j ∷ is)) same

instr_fits : (code : CodeParts) (p : ℕ) (all : List Instr) (at : ℕ) (i : Instr) → room_of all ≡ None → slice_get all at ≡ Some i
    → Fits code p all at i → IsPlainInstr ⊥ i
instr_fits code p all at (Room n) none e h =
    no_room (room_of all) n none (room_first all n (subst (λ k. slice_get all k ≡ Some (Room n)) h.0 e))
instr_fits code p all at (StoreNew offset from) none e h = no_room (room_of all) h.0 none h.1
instr_fits code p all at (Ends i) none e h = end_fits code p all i none h
instr_fits code p all at i none e h = tt

instr_behind : (code : CodeParts) (p : ℕ) (all : List Instr) (at : ℕ) (i : Instr) → Fits code p all (suc at) i → IsPlainInstr (Unit {0}) i
instr_behind code p all at (Room n) h = omega (arith, h.0)
instr_behind code p all at (StoreNew offset from) h = tt
instr_behind code p all at (Ends (Next capsule)) h = tt
instr_behind code p all at (Ends Finish) h = tt
instr_behind code p all at (Ends (Trap trap line)) h = tt
instr_behind code p all at (Ends (Call procedure capsule to)) h = tt
instr_behind code p all at (Ends (Fork left right capsule left_to right_to)) h = tt
instr_behind code p all at i h = tt

-- a capsule asks for no room, or begins with it
pub data IsSimple (is : List Instr) (c : Capsule Where End) : Type 0 where
  Plain : IsPlain ⊥ c → IsSimple is c
  Asking : (n : ℕ) (go : Capsule Where End) → room_of is ≡ Some n → c ≡ AsksFor n go → IsPlain (Unit {0}) go → IsSimple is c

from_first : (code : CodeParts) (p words : ℕ) (is : List Instr) (g : List ℕ)
    → ((at : ℕ) (i : Instr) → slice_get is at ≡ Some i → Fits code p is at i) → IsSimple is (capsule_from words 0 0 is g)
from_first code p words [] g each = Plain tt
from_first code p words (Room n ∷ is) g each =
    Asking n (capsule_from words (0 + 1) ((0 + 1) - (0 + 1)) is g) refl refl
    (from_plain (Unit {0}) words (0 + 1) ((0 + 1) - (0 + 1)) is g (λ at j e. instr_behind code p (Room n ∷ is) at j (each (suc at) j e)))
from_first code p words (i ∷ is) g each =
    Plain (from_plain ⊥ words 0 0 (i ∷ is) g (λ at j e. instr_fits code p (i ∷ is) at j refl e (each at j e)))

-- a capsule of a code
pub capsule_simple : (code : CodeParts) (words number : ℕ) (c : CodeCapsule) → IsCode code → slice_get code.capsules number ≡ Some c
    → IsSimple c.instrs (capsule_of words c.instrs)
capsule_simple code words number c is one =
    let here = get_or_from_slice_get code.capsules number c c one in
    let kept : IsCapsule code c =
    subst (IsCapsule code) here (is.capsules number c (slice_get_within code.capsules number c one)) in
    from_first code c.procedure words c.instrs (replicate 64 0) kept.each
