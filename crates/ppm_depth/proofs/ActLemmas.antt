-- What an instruction of a code does lies within its frame, its new block and the words of the arrays.
use Rattle.std.proofs.Common.{◌≡◌, ◌<◌, ◌≤◌, ℕ, ◌+◌, Bool, true, false, List, refl, Some, None, cond, nat_lt}
use Rattle.std.specs.Prelude.{◌==◌, ◌&&◌, ℤ, ◌+ℤ◌, ◌-ℤ◌, ◌*ℤ◌, int_div, int_rem}
use Rattle.std.proofs.lemmas.Bool.{ltb-true}
use Rattle.ppm_words.specs.declared.trap.Trap.{Trap}
use Rattle.ppm_words.specs.declared.trap.Trap.TheVariants.{Overflow, DivZero, Split}
use Rattle.ppm_words.specs.TwosComplement.{value_of, word_of}
use Rattle.ppm_code.specs.declared.act.Act.{Act}
use Rattle.ppm_code.specs.declared.act.Act.TheVariants.{Sets, Passes, Jumps, Steps, Ends as Stops}
use Rattle.ppm_code.specs.declared.act.Step.{Step}
use Rattle.ppm_code.specs.declared.act.Step.TheVariants.{Loads, Stores, Asks}
use Rattle.ppm_code.specs.declared.code.CodeParts.{CodeParts}
use Rattle.ppm_code.specs.declared.instr.Instr.{Instr}
use Rattle.ppm_code.specs.declared.instr.Instr.TheVariants.{Const, Move, Add, Sub, Mul, Div, Rem, Equal, NotEqual, Less, AtMost, Len, CutLeft, CutRight}
use Rattle.ppm_code.specs.declared.instr.Instr.TheVariants.{LoadSlot, StoreCur, Give, Get, Put, BranchZero, BranchNonZero, Room, StoreNew, Ends}
use Rattle.ppm_code.specs.declared.location.Location.TheVariants.{Array}
use Rattle.ppm_code.specs.declared.register.Register.{Register}
use Rattle.ppm_code.specs.Acts.{does, held, traps, element_of, at_element, divided, fits, is_zero, start_of, length_of}
use Rattle.ppm_code.specs.Code.{EndFits, Fits, IsLine}
use Rattle.ppm_code.specs.Limits.{room_limit}
use Rattle.ppm_code.specs.Sizes.{slots_of}
use Rattle.ppm_depth.specs.Store.{IsWithin}

module _ (code : CodeParts) (q : ℕ) (is : List Instr) (array_words size at : ℕ) where
  -- a step within its frame, its block and the words; room is asked for at the beginning
  abbrev pub StepFits : Step → Type 0
  StepFits (Loads location to) = IsWithin (slots_of code q) size array_words location
  StepFits (Stores location word) = IsWithin (slots_of code q) size array_words location
  StepFits (Asks count) = (at ≡ 0) × (count ≤ room_limit)

  -- and an act
  abbrev pub ActFits : Act → Type 0
  ActFits (Sets to word) = Unit {0}
  ActFits Passes = Unit {0}
  ActFits (Jumps target) = Unit {0}
  ActFits (Steps step) = StepFits step
  ActFits (Stops e) = EndFits code q is e

  -- a result, or a trap at a line
  set_fits : (t : Bool) (line : ℕ) (trap : Trap) (d : Register) (v : ℕ) → IsLine line → ActFits (cond t (Sets d v) (traps trap line))
  set_fits true line trap d v h = tt
  set_fits false line trap d v h = h

  divided_fits : (line : ℕ) (d : Register) (x y z : ℤ) → IsLine line → ActFits (divided line d x y z)
  divided_fits line d x y z h = by (is_zero y)
    where
      by : (t : Bool) → ActFits (cond t (traps DivZero line) (cond (fits (int_div x y)) (Sets d (word_of z)) (traps Overflow line)))
      by true = h
      by false = set_fits (fits (int_div x y)) line Overflow d (word_of z) h

  element_fits : (line region index : ℕ) (step : ℕ → Step) → IsLine line → ((x : ℕ) → x < array_words → StepFits (step x))
      → ActFits (at_element line (element_of array_words region index) step)
  element_fits line region index step h each = by (nat_lt index (length_of region)) (nat_lt (start_of region + index) array_words) refl
    where
      by : (b t : Bool) → nat_lt (start_of region + index) array_words ≡ t
          → ActFits (at_element line (cond (b && t) (Some (start_of region + index)) None) step)
      by true true e = each (start_of region + index) (ltb-true (start_of region + index) array_words e)
      by true false e = h
      by false t e = h

  branch_fits : (b : Bool) (x y : Act) → ActFits x → ActFits y → ActFits (cond b x y)
  branch_fits true x y p r = p
  branch_fits false x y p r = r

  -- what an instruction that fits does
  pub does_fits : (i : Instr) (g : List ℕ) → Fits code q is at i → ((word : ℕ) (from : Register) → i ≡ StoreNew word from → word < size)
      → ActFits (does array_words i g)
  does_fits (Const d v) g h new = tt
  does_fits (Move d r) g h new = tt
  does_fits (Add d r s l) g h new = set_fits (fits (value_of (held g r) +ℤ value_of (held g s))) l Overflow d _ h
  does_fits (Sub d r s l) g h new = set_fits (fits (value_of (held g r) -ℤ value_of (held g s))) l Overflow d _ h
  does_fits (Mul d r s l) g h new = set_fits (fits (value_of (held g r) *ℤ value_of (held g s))) l Overflow d _ h
  does_fits (Div d r s l) g h new = divided_fits l d (value_of (held g r)) (value_of (held g s)) (int_div (value_of (held g r)) (value_of (held g s))) h
  does_fits (Rem d r s l) g h new = divided_fits l d (value_of (held g r)) (value_of (held g s)) (int_rem (value_of (held g r)) (value_of (held g s))) h
  does_fits (Equal d r s) g h new = tt
  does_fits (NotEqual d r s) g h new = tt
  does_fits (Less d r s) g h new = tt
  does_fits (AtMost d r s) g h new = tt
  does_fits (Len d r) g h new = tt
  does_fits (CutLeft d r s l) g h new = set_fits _ l Split d _ h
  does_fits (CutRight d r s l) g h new = set_fits _ l Split d _ h
  does_fits (LoadSlot d slot) g h new = h
  does_fits (StoreCur slot r) g h new = h
  does_fits (Give r) g h new = tt
  does_fits (Get d r s l) g h new = element_fits l (held g r) (held g s) (λ x. Loads (Array x) d) h (λ x less. less)
  does_fits (Put r s f l) g h new = element_fits l (held g r) (held g s) (λ x. Stores (Array x) (held g f)) h (λ x less. less)
  does_fits (BranchZero r t) g h new = branch_fits (held g r == 0) (Jumps t) Passes tt tt
  does_fits (BranchNonZero r t) g h new = branch_fits (held g r == 0) Passes (Jumps t) tt tt
  does_fits (Room n) g h new = (h.0, h.2)
  does_fits (StoreNew o r) g h new = new o r refl
  does_fits (Ends e) g h new = h
