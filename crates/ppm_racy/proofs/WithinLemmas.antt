-- What an instruction does touches no word past the arrays.
use Rattle.std.proofs.Common.{◌≡◌, ◌<◌, ℕ, ◌+◌, Bool, true, false, List, refl, Some, None, cond, nat_lt}
use Rattle.std.specs.Prelude.{◌==◌, ◌&&◌, ℤ, ◌+ℤ◌, ◌-ℤ◌, ◌*ℤ◌, int_div, int_rem}
use Rattle.std.proofs.lemmas.Bool.{ltb-true}
use Rattle.ppm_words.specs.declared.trap.Trap.{Trap}
use Rattle.ppm_words.specs.declared.trap.Trap.TheVariants.{Overflow, DivZero, Split}
use Rattle.ppm_words.specs.TwosComplement.{value_of, word_of}
use Rattle.ppm_code.specs.declared.act.Act.{Act}
use Rattle.ppm_code.specs.declared.act.Act.TheVariants.{Sets, Passes, Jumps, Steps, Ends as Stops}
use Rattle.ppm_code.specs.declared.act.Step.{Step}
use Rattle.ppm_code.specs.declared.act.Step.TheVariants.{Loads, Stores, Asks}
use Rattle.ppm_code.specs.declared.instr.Instr.{Instr}
use Rattle.ppm_code.specs.declared.instr.Instr.TheVariants.{Const, Move, Add, Sub, Mul, Div, Rem, Equal, NotEqual, Less, AtMost, Len, CutLeft, CutRight}
use Rattle.ppm_code.specs.declared.instr.Instr.TheVariants.{LoadSlot, StoreCur, Give, Get, Put, BranchZero, BranchNonZero, Room, StoreNew, Ends}
use Rattle.ppm_code.specs.declared.location.Location.TheVariants.{Array}
use Rattle.ppm_code.specs.declared.register.Register.{Register}
use Rattle.ppm_code.specs.Acts.{does as plainly, held, traps, element_of, at_element, divided, fits, is_zero, start_of, length_of}
use Rattle.ppm_racy.specs.declared.instr.RacyInstr.{RacyInstr}
use Rattle.ppm_racy.specs.declared.instr.RacyInstr.TheVariants.{Plain, Cam}
use Rattle.ppm_racy.specs.declared.instr.RacyAct.{RacyAct}
use Rattle.ppm_racy.specs.declared.instr.RacyAct.TheVariants.{Plain as Acts, Exchanges}
use Rattle.ppm_racy.specs.Acts.{does, exchanging}
use Rattle.ppm_racy.specs.Capsules.{IsWithin}

module _ (array_words : ℕ) where
  -- a step, an act of a code, and one with exchanges
  abbrev pub StepWithin : Step → Type 0
  StepWithin (Loads l d) = IsWithin array_words l
  StepWithin (Stores l v) = IsWithin array_words l
  StepWithin (Asks n) = Unit {0}

  abbrev pub PlainWithin : Act → Type 0
  PlainWithin (Sets d v) = Unit {0}
  PlainWithin Passes = Unit {0}
  PlainWithin (Jumps t) = Unit {0}
  PlainWithin (Steps s) = StepWithin s
  PlainWithin (Stops e) = Unit {0}

  abbrev pub ActWithin : RacyAct → Type 0
  ActWithin (Acts a) = PlainWithin a
  ActWithin (Exchanges x old new) = x < array_words

  either : (b : Bool) (x y : Act) → PlainWithin x → PlainWithin y → PlainWithin (cond b x y)
  either true x y p q = p
  either false x y p q = q

  divided_within : (line : ℕ) (d : Register) (x y z : ℤ) → PlainWithin (divided line d x y z)
  divided_within line d x y z =
      either (is_zero y) (traps DivZero line) (cond (fits (int_div x y)) (Sets d (word_of z)) (traps Overflow line)) tt
      (either (fits (int_div x y)) (Sets d (word_of z)) (traps Overflow line) tt tt)

  -- an element is within the words
  at_element_within : (line region index : ℕ) (step : ℕ → Step) → ((x : ℕ) → x < array_words → StepWithin (step x))
      → PlainWithin (at_element line (element_of array_words region index) step)
  at_element_within line region index step each = by (nat_lt index (length_of region)) (nat_lt (start_of region + index) array_words) refl
    where
      by : (b t : Bool) → nat_lt (start_of region + index) array_words ≡ t
          → PlainWithin (at_element line (cond (b && t) (Some (start_of region + index)) None) step)
      by true true e = each (start_of region + index) (ltb-true (start_of region + index) array_words e)
      by true false e = tt
      by false t e = tt

  plainly_within : (i : Instr) (g : List ℕ) → PlainWithin (plainly array_words i g)
  plainly_within (Const d v) g = tt
  plainly_within (Move d r) g = tt
  plainly_within (Add d r s l) g = either (fits (value_of (held g r) +ℤ value_of (held g s))) (Sets d _) (traps Overflow l) tt tt
  plainly_within (Sub d r s l) g = either (fits (value_of (held g r) -ℤ value_of (held g s))) (Sets d _) (traps Overflow l) tt tt
  plainly_within (Mul d r s l) g = either (fits (value_of (held g r) *ℤ value_of (held g s))) (Sets d _) (traps Overflow l) tt tt
  plainly_within (Div d r s l) g = divided_within l d (value_of (held g r)) (value_of (held g s)) (int_div (value_of (held g r)) (value_of (held g s)))
  plainly_within (Rem d r s l) g = divided_within l d (value_of (held g r)) (value_of (held g s)) (int_rem (value_of (held g r)) (value_of (held g s)))
  plainly_within (Equal d r s) g = tt
  plainly_within (NotEqual d r s) g = tt
  plainly_within (Less d r s) g = tt
  plainly_within (AtMost d r s) g = tt
  plainly_within (Len d r) g = tt
  plainly_within (CutLeft d r s l) g = either _ (Sets d _) (traps Split l) tt tt
  plainly_within (CutRight d r s l) g = either _ (Sets d _) (traps Split l) tt tt
  plainly_within (LoadSlot d slot) g = tt
  plainly_within (StoreCur slot r) g = tt
  plainly_within (Give r) g = tt
  plainly_within (Get d r s l) g = at_element_within l (held g r) (held g s) (λ x. Loads (Array x) d) (λ x less. less)
  plainly_within (Put r s f l) g = at_element_within l (held g r) (held g s) (λ x. Stores (Array x) (held g f)) (λ x less. less)
  plainly_within (BranchZero r t) g = either (held g r == 0) (Jumps t) Passes tt tt
  plainly_within (BranchNonZero r t) g = either (held g r == 0) Passes (Jumps t) tt tt
  plainly_within (Room n) g = tt
  plainly_within (StoreNew o r) g = tt
  plainly_within (Ends e) g = tt

  -- a put that is exchanged for
  exchanged : (old line new region index : ℕ)
      → ActWithin (exchanging old (at_element line (element_of array_words region index) (λ x. Stores (Array x) new)))
  exchanged old line new region index = by (nat_lt index (length_of region)) (nat_lt (start_of region + index) array_words) refl
    where
      by : (b t : Bool) → nat_lt (start_of region + index) array_words ≡ t
          → ActWithin (exchanging old (at_element line (cond (b && t) (Some (start_of region + index)) None) (λ x. Stores (Array x) new)))
      by true true e = ltb-true (start_of region + index) array_words e
      by true false e = tt
      by false t e = tt

  pub within : (i : RacyInstr) (g : List ℕ) → ActWithin (does array_words i g)
  within (Plain i) g = plainly_within i g
  within (Cam region index old new line) g = exchanged (held g old) line (held g new) (held g region) (held g index)
