-- What a program means: the arrays in the end, or its first trap, within a number of turns.
use Rattle.std.specs.Prelude.{◌≤◌, ◌<◌, ℕ, suc, ◌-◌, ℤ, pos, List, [], ◌∷◌, ◌++◌, map, length, replicate, codes, if◌then◌else◌}
use Rattle.std.specs.Str.{bytes_eq}
use Rattle.ppm_words.specs.declared.named_array.NamedArray.{NamedArray}
use Rattle.ppm_words.specs.declared.outcome.Outcome.{Outcome}
use Rattle.ppm_words.specs.declared.outcome.Outcome.TheVariants as outcome
use Rattle.ppm_tree.specs.Tree.{Array, ArrayInput, Parameter, ProgramTree, Procedure}
use Rattle.ppm_tree.specs.State.{Region, nowhere, Frame, empty_frame, with_region, Arrays, procedure_named}
use Rattle.ppm_tree.specs.Meaning.{Form, Plain, Counts, End, Ended, Trapped, Enters}

-- the values that an array has in front; an admitted program has at most one input for it
abbrev pub input_of : List ArrayInput → List ℕ → List ℤ
input_of [] x = []
input_of (i ∷ inputs) x = if bytes_eq i.name.name x then i.values else input_of inputs x

-- an array as it starts: the input's values in front, then 0 in each word
abbrev pub initial_array : List ArrayInput → Array → NamedArray
initial_array inputs a = record {
  name = a.name.name;
  values = input_of inputs a.name.name ++ replicate (a.words - length (input_of inputs a.name.name)) (pos 0);
}

-- the arrays that a program starts with
abbrev pub initial_arrays : ProgramTree → List NamedArray
initial_arrays t = map (initial_array t.inputs) t.arrays

-- the values of arrays, without their names
abbrev pub values_of : List NamedArray → Arrays
values_of arrays = map (λ a. a.values) arrays

-- the arrays with their names, in the order of the program
abbrev pub with_names : List NamedArray → Arrays → List NamedArray
with_names [] values = []
with_names (a ∷ arrays) [] = []
with_names (a ∷ arrays) (v ∷ values) = record { name = a.name; values = v } ∷ with_names arrays values

-- the whole of the array with the name, at the place k or after it
abbrev pub whole_from : ℕ → List Array → List ℕ → Region
whole_from k [] x = nowhere
whole_from k (a ∷ arrays) x = if bytes_eq a.name.name x then record { array = k; start = 0; length = a.words } else whole_from (suc k) arrays x

-- the frame of `main`: each parameter is the whole of the array with its name
abbrev pub main_frame : List Array → List Parameter → Frame
main_frame arrays [] = empty_frame
main_frame arrays (p ∷ parameters) = with_region (main_frame arrays parameters) p.name.name (whole_from 0 arrays p.name.name)

-- the procedure `main`; an admitted program has one
abbrev pub main_of : ProgramTree → Procedure
main_of t = procedure_named t.procedures (codes "main")

-- a program, from values of its arrays: what its run spends and begins, and how it ends
abbrev pub Means : Form → ProgramTree → Arrays → Counts → End ℤ → Type 0
Means form t arrays k z = Enters form t.procedures (main_of t) (main_frame t.arrays (main_of t).parameters) arrays k z

-- the outcome that the end of a run is
abbrev pub outcome_of : List NamedArray → End ℤ → Outcome
outcome_of arrays (Ended v values) = outcome.Ended (with_names arrays values)
outcome_of arrays (Trapped stop values) = outcome.Trapped stop.0 stop.1

-- the outcome within so many turns: that of its end, or none where more would be spent
pub data Serial (t : ProgramTree) (turns : ℕ) : Outcome → Type 0 where
  Within : (k : Counts) (z : End ℤ) → Means Plain t (values_of (initial_arrays t)) k z → k.turns ≤ turns → Serial t turns (outcome_of (initial_arrays t) z)
  NotWithin : ((k : Counts) (z : End ℤ) → Means Plain t (values_of (initial_arrays t)) k z → turns < k.turns) → Serial t turns outcome.NotWithin
