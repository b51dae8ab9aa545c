-- How a run begins and ends: the frame of `main`, and the arrays with their names.
use Rattle.std.specs.Prelude.{◌≡◌, ℕ, ℤ, List, [], ◌∷◌, Option, Some, None, slice_get}
use Rattle.ppm_words.specs.declared.named_array.NamedArray.{NamedArray}
use Rattle.ppm_tree.specs.declared.tree.Parameter.{Parameter}
use Rattle.ppm_tree.specs.declared.tree.Array.{Array}
use Rattle.ppm_tree.specs.declared.tree.Proc.{Proc}
use Rattle.ppm_tree.specs.Tree.{ProgramTree, procedure_of}
use Rattle.ppm_tree.specs.Program.{whole_from}
use Rattle.ppm_serial.specs.declared.run.Run.{Run}
use Rattle.ppm_serial.specs.Slots.{Slots, fresh, with_region_at}
use Rattle.ppm_serial.specs.Names.{Slotted, slot_in, names_of}
use Rattle.ppm_serial.specs.Code.{Laid, routine_at}
use Rattle.ppm_serial.specs.Running.{Starts}

-- what is lent to `main`, from its last parameter to its first
abbrev pub lent_to : Slotted → List Array → List Parameter → Slots → Slots
lent_to n arrays [] s = s
lent_to n arrays (p ∷ ps) s = with_region_at (lent_to n arrays ps s) (slot_in n.regions p.name.name) (whole_from 0 arrays p.name.name)

-- the frame of the procedure at a place, if there is one
abbrev pub IsLentTo : ProgramTree → Option Proc → Slots → Slots → Type 0
IsLentTo t None s f = f ≡ s
IsLentTo t (Some p) s f = f ≡ lent_to (names_of (procedure_of p)) t.arrays (procedure_of p).parameters s

-- the frame of the procedure at a place, as that of `main`
abbrev pub IsMainFrame : Laid → ProgramTree → List Proc → ℕ → Slots → Type 0
IsMainFrame c t procedures place f = IsLentTo t (slice_get procedures place) (fresh (routine_at c place).locals (routine_at c place).regions) f

-- a run before its entry, with so many turns
pub record IsBegun (t : ProgramTree) (turns : ℕ) (s : Run) : Type 0 where
  pub starts : Starts t s
  pub left : s.left ≡ turns

-- arrays with their names, as many as there are values
abbrev pub named_by : List Array → List (List ℤ) → List NamedArray
named_by [] values = []
named_by (a ∷ arrays) [] = []
named_by (a ∷ arrays) (v ∷ values) = record { name = a.name.name; values = v } ∷ named_by arrays values
