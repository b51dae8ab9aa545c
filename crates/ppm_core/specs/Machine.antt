-- What a machine holds, and what always holds of it.
use Rattle.std.specs.Prelude.{◌≡◌, ℕ, ◌≤◌, List, length, map, Some, slice_get}
use Rattle.std.specs.List.{sum}
use Rattle.ppm_cells.specs.Memory.{AreWordsOf}
use Rattle.ppm_cells.specs.declared.shape.Shape.{Shape}
use Rattle.ppm_code.specs.declared.code.CodeParts.{CodeParts}
use Rattle.ppm_step.specs.declared.local.Local.{Local}
use Rattle.ppm_step.specs.Locals.{IsLocal, standing_of}
use Rattle.ppm_core.specs.Situation.{Situation}

-- the sizes, the code, the lengths of the arrays, the words, each processor's own state, and the counts of forks, takes, work turns
-- and turns
pub record Holding : Type 0 where
  pub shape : Shape
  pub code : CodeParts
  pub array_lengths : List ℕ
  pub words : List ℕ
  pub locals : List Local
  pub forks : ℕ
  pub takes : ℕ
  pub work : ℕ
  pub turns : ℕ

-- as the rules of turns see it: of a processor's own state they know where it stands
abbrev pub seen : Holding → Situation
seen m = record {
  shape = m.shape;
  code = m.code;
  array_lengths = m.array_lengths;
  state = record { words = m.words; stand = map (standing_of m.shape m.code) m.locals };
  forks = m.forks;
  takes = m.takes;
  work = m.work;
  turns = m.turns;
}

-- a processor's own state, with its number
pub record IsLocalOf (s : Shape) (code : CodeParts) (number : ℕ) (local : Local) : Type 0 where
  pub holds : IsLocal s code local
  pub own : local.own ≡ number

-- those of all processors
pub record AreLocals (s : Shape) (code : CodeParts) (locals : List Local) : Type 0 where
  pub count : length locals ≡ s.processors
  pub each : (number : ℕ) (local : Local) → slice_get locals number ≡ Some local → IsLocalOf s code number local

-- forks, takes and work turns are turns
pub record AreCounts (forks takes work turns : ℕ) : Type 0 where
  pub forks_at_most : forks ≤ turns
  pub takes_at_most : takes ≤ turns
  pub work_at_most : work ≤ turns

-- the words and lengths fit the shape
pub record AreStores (s : Shape) (array_lengths words : List ℕ) : Type 0 where
  pub words_are : AreWordsOf s words
  pub arrays_are : sum array_lengths ≡ s.arrays
