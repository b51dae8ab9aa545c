-- The theorem on a RAM's code: with every memory it is sound, and it ends, run depth first, exactly where the RAM ends.
use Rattle.std.specs.Prelude.{◌≡◌, ℕ, ◌+◌, ℤ, true, List, [], ◌∷◌, length, Some, None, slice_get}
use Rattle.std.specs.List.{AllByRecursion}
use Rattle.ppm_strands.specs.Run.{Counts, End}
use Rattle.ppm_code.specs.Code.{IsCode, room_of}
use Rattle.ppm_code.specs.declared.code.Capsule.{Capsule}
use Rattle.ppm_code.specs.Free.{IsFree}
use Rattle.ppm_code.specs.Sizes.{frame_size}
use Rattle.ppm_code.specs.Strands.{Result}
use Rattle.ppm_code.specs.Tidy.{IsTidy}
use Rattle.ppm_depth.specs.Run.{ComesTo, said_of as said_of_words, pool_words}
use Rattle.ppm_depth.specs.Sound.{IsSound}
use Rattle.ppm_depth.specs.Start.{NamesArrays}
use Rattle.ppm_tree.specs.Values.{fits}
use Rattle.ppm_words.specs.Inputs.{IsInput}
use Rattle.ppm_words.specs.declared.named_array.NamedArray.{NamedArray}
use Rattle.ppm_ram.specs.declared.ram.RamParts.{RamParts}
use Rattle.ppm_ram.specs.Program.{IsRam, memory_of}
use Rattle.ppm_ram.specs.Meaning.{EndsIn, End as RamEnd, begins, as_array, said_of}
use Rattle.ppm_ram_code.specs.Code.{code_of}

-- the numbers are a memory of the RAM: as many as it has words, and each a value
pub record IsMemoryOf (r : RamParts) (memory : List ℤ) : Type 0 where
  pub size : length memory ≡ r.memory
  pub values : AllByRecursion (λ v. fits v ≡ true) memory

-- the memory as the input of the code
abbrev pub input_of : List ℤ → List NamedArray
input_of memory = as_array memory ∷ []

-- The code keeps all rules of a code, and none of its capsules asks for room. The memory with which the RAM begins is one of its memories, and an
-- input of the code.
pub record KeepsRules (r : RamParts) : Type 0 where
  pub code : IsCode (code_of r)
  pub roomless : (number : ℕ) (c : Capsule) → slice_get (code_of r).capsules number ≡ Some c → room_of c.instrs ≡ None
  pub memory : IsMemoryOf r (memory_of r)
  pub input : IsInput (input_of (memory_of r))
  pub names : NamesArrays (code_of r) (input_of (memory_of r))

-- the code of every RAM keeps all rules of a code, and none of its capsules asks for room
abbrev pub CodeKeepsRules : Type 0
CodeKeepsRules = (r : RamParts) → IsRam r → KeepsRules r

-- the code is tidy, and no path of any of its capsules has a conflict
pub record StandsAlone (r : RamParts) : Type 0 where
  pub tidy : IsTidy (code_of r)
  pub free : IsFree (code_of r)

abbrev pub CodeStandsAlone : Type 0
CodeStandsAlone = (r : RamParts) → StandsAlone r

-- with every memory it is sound
abbrev pub CodeIsSound : Type 0
CodeIsSound = (r : RamParts) → IsRam r → (memory : List ℤ) → IsMemoryOf r memory → IsSound (code_of r) (input_of memory)

-- so many capsules were run, a step each; nothing was forked, and of the pools no more was taken than the root's frame
pub record HasCounts (r : RamParts) (steps : ℕ) (k : Counts) : Type 0 where
  pub capsules : k.capsules ≡ steps
  pub forks : k.forks ≡ 0
  pub pool : pool_words (code_of r) k ≡ frame_size (code_of r) 0

-- an end of the depth-first run tells the end of the RAM after so many steps
pub record IsToldBy (r : RamParts) (memory : List ℤ) (steps : ℕ) (e : RamEnd) (d : End Result) : Type 0 where
  pub told : said_of_words (input_of memory) d.words d.outcome ≡ said_of e
  pub counts : HasCounts r steps d.counts

-- the depth-first run of a RAM's code ends exactly where the RAM ends, with the same memory or trap, after as many capsules as steps
pub record EndsAsRam (r : RamParts) (memory : List ℤ) : Type 0 where
  pub ends : (steps : ℕ) (e : RamEnd) → EndsIn r (begins memory) steps e
      → (d : End Result) × ComesTo (code_of r) (input_of memory) d × IsToldBy r memory steps e d
  pub only : (d : End Result) → ComesTo (code_of r) (input_of memory) d
      → (steps : ℕ) × (e : RamEnd) × EndsIn r (begins memory) steps e × IsToldBy r memory steps e d

abbrev pub CodeEndsAsRam : Type 0
CodeEndsAsRam = (r : RamParts) → IsRam r → (memory : List ℤ) → IsMemoryOf r memory → EndsAsRam r memory
