-- What comes of a find, as rows of bits, and one step of it.
use Rattle.std.specs.Prelude.{◌≡◌, ◌⊎◌, ◌<◌, ℕ, false, true, Bool, IsTrue, List, [], ◌∷◌, Option, Some, None, get_or}
use Rattle.std.specs.Int.{bit_at}
use Rattle.ppm_strands.specs.Capsule.{In}
use Rattle.ppm_code.specs.declared.class.May.TheVariants.{Branch}
use Rattle.ppm_code.specs.declared.instr.Instr.{Instr}
use Rattle.ppm_code.specs.declared.register.Register.{Register}
use Rattle.ppm_code.specs.Paths.{may}
use Rattle.ppm_filled.specs.Filled.{Mark, Word, Way, operands_of, target_of, traps_by}
use Rattle.ppm_gaps.specs.declared.hanging.Hanging.{Hanging}
use Rattle.ppm_gaps.specs.declared.operands.Operands.{Operands}

-- the registers that are named
abbrev pub with_first : Option Register → List Register → List Register
with_first None rest = rest
with_first (Some r) rest = r ∷ rest

abbrev pub listed : Operands → List Register
listed o = with_first o.first (with_first o.second (with_first o.third []))

-- the word in a register comes of a find, if one is named; in one of a list; in an operand
abbrev pub HasBit : ℕ → Option Register → Type 0
HasBit words None = ⊥
HasBit words (Some r) = bit_at words r.index ≡ 1

abbrev pub HasOperandIn : ℕ → List Register → Type 0
HasOperandIn words registers = (a : Register) × In a registers × (bit_at words a.index ≡ 1)

abbrev pub HasOperand : ℕ → Instr → Type 0
HasOperand words i = HasOperandIn words (operands_of i)

-- in one by which an instruction traps
abbrev pub HasTrapping : ℕ → Instr → Type 0
HasTrapping words i = HasOperandIn words (traps_by i)

-- the word in register r comes of a find after an instruction: it sets that one by what does, or leaves it as it is
abbrev pub IsWordBehind : ℕ → Bool → Option Register → ℕ → Type 0
IsWordBehind words hung to r =
    ((d : Register) × (to ≡ Some d) × (d.index ≡ r) × IsTrue hung)
    ⊎ ((bit_at words r ≡ 1) × ((d : Register) → to ≡ Some d → d.index ≡ r → ⊥))

-- an instruction is a branch
pub record IsBranch (i : Instr) : Type 0 where
  pub target : ℕ
  pub branches : may i ≡ Branch target

-- a register that there is
abbrev pub IsInRange : Mark → Type 0
IsInRange (Word r) = r < 64
IsInRange Way = Unit {0}

-- nothing comes of a find
abbrev pub nothing : Hanging
nothing = record { words = 0; way = false }

-- this comes of a find, as a row says, and as that at a place
abbrev pub Has : Hanging → Mark → Type 0
Has row (Word r) = bit_at row.words r ≡ 1
Has row Way = row.way ≡ true

abbrev pub HasAt : List Hanging → ℕ → Mark → Type 0
HasAt rows at m = Has (get_or rows at nothing) m

-- this comes of a find after an instruction, by what does before it, and whether it is one: the word that it sets, a word that it leaves as it is,
-- or the way, by a branch or as before
abbrev pub Behind : (Mark → Type 0) → (finds : Type 0) → Instr → Mark → Type 0
Behind has finds i (Word r) =
    ((d : Register) × (target_of i ≡ Some d) × (d.index ≡ r) × (finds ⊎ ((a : Register) × In a (operands_of i) × has (Word a.index))))
    ⊎ (has (Word r) × ((d : Register) → target_of i ≡ Some d → d.index ≡ r → ⊥))
Behind has finds i Way = has Way ⊎ ((a : Register) × (t : ℕ) × In a (operands_of i) × has (Word a.index) × (may i ≡ Branch t))
