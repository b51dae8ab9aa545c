-- Exchanges after which array words are written again: the conflicts that a code has not with puts in place of its exchanges.
use Rattle.std.specs.Prelude.{◌≡◌, ◌<◌, ◌≤◌, ℕ, ◌+◌, true, List, map, Some, slice_get}
use Rattle.ppm_code.specs.declared.class.Class.TheVariants.{Array}
use Rattle.ppm_code.specs.Paths.{Any, Path}
use Rattle.ppm_war.specs.declared.checked.Conflict.{Conflict}
use Rattle.ppm_war.specs.Search.{LeadsToWrite}
use Rattle.ppm_racy.specs.declared.code.RacyParts.{RacyParts}
use Rattle.ppm_racy.specs.declared.instr.RacyInstr.{RacyInstr}
use Rattle.ppm_racy.specs.Acts.{plain_of}
use Rattle.ppm_racy.specs.Code.{instrs_of}
use Rattle.ppm_racy_gaps.specs.declared.repeats.Repeat.{Repeat}
use Rattle.ppm_racy_gaps.specs.Conflicts.{is_exchange}

module _ (is : List RacyInstr) where
  -- an exchange to which a path comes, and after it a put or an exchange
  pub record IsRepeat (exchange write : ℕ) : Type 0 where
    pub instr : RacyInstr
    pub there : slice_get is exchange ≡ Some instr
    pub exchanges : is_exchange instr ≡ true
    pub before : Path (map plain_of is) Any 0 exchange
    pub leads : LeadsToWrite (map plain_of is) Array (exchange + 1) write

  abbrev pub HasNoRepeat : Type 0
  HasNoRepeat = (exchange write : ℕ) → IsRepeat exchange write → ⊥

  -- of the least exchange the least write
  pub record IsFirstRepeat (f : Repeat) : Type 0 where
    pub repeat : IsRepeat f.exchange f.write
    pub least_exchange : (exchange write : ℕ) → IsRepeat exchange write → f.exchange ≤ exchange
    pub least_write : (write : ℕ) → IsRepeat f.exchange write → f.write ≤ write

-- that of the capsule with a number, as a conflict
pub record IsFirstRepeatIn (code : RacyParts) (number : ℕ) (c : Conflict) : Type 0 where
  pub capsule : c.capsule ≡ number
  pub class : c.class ≡ Array
  pub first : IsFirstRepeat (instrs_of code number) (record { exchange = c.read_at; write = c.write_at })

abbrev pub AreWithoutRepeats : RacyParts → Type 0
AreWithoutRepeats code = (number : ℕ) → HasNoRepeat (instrs_of code number)

-- that of a code: of the least capsule that has one
pub record IsFirstRepeatOf (code : RacyParts) (c : Conflict) : Type 0 where
  pub earlier : (number : ℕ) → number < c.capsule → HasNoRepeat (instrs_of code number)
  pub first : IsFirstRepeatIn code c.capsule c
