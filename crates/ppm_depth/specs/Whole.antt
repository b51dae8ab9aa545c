-- A capsule that is run whole in the stack: where it lies, what it comes to, and what it leaves alone.
use Rattle.std.specs.Prelude.{◌≡◌, ◌⊎◌, ◌<◌, ◌≤◌, ℕ, ◌+◌, min, List, Option, Some, None, get_or, length}
use Rattle.ppm_strands.specs.Capsule.{Memory, ending, leaves, asked}
use Rattle.ppm_code.specs.declared.code.CodeParts.{CodeParts}
use Rattle.ppm_code.specs.Capsules.{capsule_of}
use Rattle.ppm_code.specs.Code.{room_of}
use Rattle.ppm_code.specs.Locations.{Where, code_locations}
use Rattle.ppm_code.specs.Sizes.{slots_at, size_at}
use Rattle.ppm_code.specs.Strands.{instrs_of}
use Rattle.ppm_depth.specs.Store.{Shows}
use Rattle.ppm_depth.specs.declared.capsule.Done.{Done}
use Rattle.ppm_depth.specs.declared.store.Place.{Place}

-- the words of the largest block: a fork of two procedures of 25 slots
abbrev pub block_limit : ℕ
block_limit = 67

-- the words of a new block that are kept, by the room that is asked for
abbrev pub kept_of : Option ℕ → ℕ
kept_of None = 0
kept_of (Some words) = min words block_limit

module _ (code : CodeParts) where
  -- the words of its new block that are kept
  abbrev pub block_at : ℕ → ℕ
  block_at number = kept_of (room_of (instrs_of code number))

  -- the stack has its frame, and after that its new block as the last
  pub record IsPlace (number : ℕ) (p : Place) (blocks : List ℕ) : Type 0 where
    pub frame : p.frame + size_at code number ≤ p.block
    pub block : p.block + block_at number ≡ length blocks

  -- the capsule with a number, from a memory, has come to its end
  pub record IsWhole (number : ℕ) (p : Place) (blocks words : List ℕ) (m : Memory Where) (done : Done) : Type 0 where
    pub end : done.end ≡ ending code_locations (capsule_of (length words) (instrs_of code number)) m
    pub asks : done.asked ≡ asked code_locations (capsule_of (length words) (instrs_of code number)) m
    pub shows : Shows (slots_at code number) (block_at number) p blocks words (leaves code_locations (capsule_of (length words) (instrs_of code number)) m)

-- but for a frame's own words and a block at its end the stack is as it was
pub record Keeps (p : Place) (size : ℕ) (old new : List ℕ) : Type 0 where
  pub length : length new ≡ length old
  pub others : (x : ℕ) → (x < p.frame) ⊎ (p.frame + size ≤ x) → x < p.block → get_or new x 0 ≡ get_or old x 0
