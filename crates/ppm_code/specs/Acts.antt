-- What each instruction does with the registers, which hold words.
use Rattle.std.specs.Prelude.{ℕ, zero, suc, ◌+◌, ◌-◌, ◌*◌, ◌/◌, ◌%◌, ◌^◌, ◌==◌, nat_lt, nat_le, int_lt, int_le, int_div, int_rem, if◌then◌else◌}
use Rattle.std.specs.Prelude.{ℤ, pos, negsuc, ◌+ℤ◌, ◌-ℤ◌, ◌*ℤ◌, Bool, true, false, ◌&&◌, List, slice_index, Option, Some, None}
use Rattle.ppm_words.specs.TwosComplement.{word_of, value_of}
use Rattle.ppm_words.specs.declared.trap.Trap.{Trap}
use Rattle.ppm_words.specs.declared.trap.Trap.TheVariants.{Overflow, DivZero, Index, Split}
use Rattle.ppm_code.specs.declared.register.Register.{Register}
use Rattle.ppm_code.specs.declared.location.FrameWord.TheVariants.{Slot, Value}
use Rattle.ppm_code.specs.declared.location.Location.TheVariants.{Frame, New, Array}
use Rattle.ppm_code.specs.declared.act.Step.{Step}
use Rattle.ppm_code.specs.declared.act.Step.TheVariants.{Loads, Stores, Asks}
use Rattle.ppm_code.specs.declared.act.End.TheVariants.{Trap as Trapped}
use Rattle.ppm_code.specs.declared.act.Act.{Act}
use Rattle.ppm_code.specs.declared.act.Act.TheVariants.{Sets, Passes, Jumps, Steps, Ends as Stops}
use Rattle.ppm_code.specs.declared.instr.Instr.{Instr}
use Rattle.ppm_code.specs.declared.instr.Instr.TheVariants.{Const, Move, Add, Sub, Mul, Div, Rem, Equal, NotEqual, Less, AtMost, Len, CutLeft, CutRight}
use Rattle.ppm_code.specs.declared.instr.Instr.TheVariants.{LoadSlot, StoreCur, Give, Get, Put, BranchZero, BranchNonZero, Room, StoreNew, Ends}

-- the word in a register
abbrev pub held : List ℕ → Register → ℕ
held g r = slice_index g r.index

-- whether a number is 0
abbrev pub is_zero : ℤ → Bool
is_zero (pos zero) = true
is_zero (pos (suc n)) = false
is_zero (negsuc n) = false

-- whether a number fits 64 bits
abbrev pub fits : ℤ → Bool
fits (pos n) = nat_lt n (2 ^ 63)
fits (negsuc n) = nat_lt n (2 ^ 63)

-- a trap at a line
abbrev pub traps : Trap → ℕ → Act
traps trap line = Stops (Trapped trap line)

-- the number if it fits, else Overflow at the line
abbrev pub whole : ℕ → Register → ℤ → Act
whole line d z = if fits z then Sets d (word_of z) else traps Overflow line

-- a quotient or remainder where the divisor is not 0 and the quotient fits, else DivZero or Overflow
abbrev pub divided : ℕ → Register → (left right z : ℤ) → Act
divided line d left right z =
    if is_zero right then traps DivZero line else if fits (int_div left right) then Sets d (word_of z) else traps Overflow line

abbrev pub quotient_of : ℕ → Register → ℤ → ℤ → Act
quotient_of line d left right = divided line d left right (int_div left right)

abbrev pub remainder_of : ℕ → Register → ℤ → ℤ → Act
remainder_of line d left right = divided line d left right (int_rem left right)

-- what an operation found, else Overflow
abbrev pub kept : ℕ → Register → Option ℤ → Act
kept line d None = traps Overflow line
kept line d (Some z) = Sets d (word_of z)

-- the first array word of a region word, and how many it has
abbrev pub start_of : ℕ → ℕ
start_of region = region / 2 ^ 32

abbrev pub length_of : ℕ → ℕ
length_of region = region % 2 ^ 32

-- the two parts of a region cut at a place, else Split at the line; a negative place is a large word
abbrev pub cut_left_of : ℕ → Register → (region at : ℕ) → Act
cut_left_of line d region at =
    if nat_le at (length_of region) then Sets d (start_of region * 2 ^ 32 + at) else traps Split line

abbrev pub cut_right_of : ℕ → Register → (region at : ℕ) → Act
cut_right_of line d region at =
    if nat_le at (length_of region) && nat_lt (start_of region + at) (2 ^ 32) then Sets d ((start_of region + at) * 2 ^ 32 + (length_of region - at))
    else traps Split line

-- the array word of an index of a region, where it is in both; a negative index is a large word
abbrev pub element_of : (array_words region index : ℕ) → Option ℕ
element_of array_words region index =
    if nat_lt index (length_of region) && nat_lt (start_of region + index) array_words then Some (start_of region + index) else None

-- a step at an element, or Index at the line
abbrev pub at_element : ℕ → Option ℕ → (ℕ → Step) → Act
at_element line None step = traps Index line
at_element line (Some x) step = Steps (step x)

-- what an instruction does where the registers hold these words and there are so many array words
abbrev pub does : (array_words : ℕ) → Instr → List ℕ → Act
does array_words (Const d n) g = Sets d (word_of n)
does array_words (Move d a) g = Sets d (held g a)
does array_words (Add d a b line) g = whole line d (value_of (held g a) +ℤ value_of (held g b))
does array_words (Sub d a b line) g = whole line d (value_of (held g a) -ℤ value_of (held g b))
does array_words (Mul d a b line) g = whole line d (value_of (held g a) *ℤ value_of (held g b))
does array_words (Div d a b line) g = quotient_of line d (value_of (held g a)) (value_of (held g b))
does array_words (Rem d a b line) g = remainder_of line d (value_of (held g a)) (value_of (held g b))
does array_words (Equal d a b) g = Sets d (if held g a == held g b then 1 else 0)
does array_words (NotEqual d a b) g = Sets d (if held g a == held g b then 0 else 1)
does array_words (Less d a b) g = Sets d (if int_lt (value_of (held g a)) (value_of (held g b)) then 1 else 0)
does array_words (AtMost d a b) g = Sets d (if int_le (value_of (held g a)) (value_of (held g b)) then 1 else 0)
does array_words (Len d a) g = Sets d (length_of (held g a))
does array_words (CutLeft d a b line) g = cut_left_of line d (held g a) (held g b)
does array_words (CutRight d a b line) g = cut_right_of line d (held g a) (held g b)
does array_words (LoadSlot d i) g = Steps (Loads (Frame (Slot i)) d)
does array_words (StoreCur i a) g = Steps (Stores (Frame (Slot i)) (held g a))
does array_words (Give a) g = Steps (Stores (Frame Value) (held g a))
does array_words (Get d a b line) g = at_element line (element_of array_words (held g a) (held g b)) (λ x. Loads (Array x) d)
does array_words (Put a b s line) g = at_element line (element_of array_words (held g a) (held g b)) (λ x. Stores (Array x) (held g s))
does array_words (BranchZero a t) g = if held g a == 0 then Jumps t else Passes
does array_words (BranchNonZero a t) g = if held g a == 0 then Passes else Jumps t
does array_words (Room n) g = Steps (Asks n)
does array_words (StoreNew o a) g = Steps (Stores (New o) (held g a))
does array_words (Ends e) g = Stops e
