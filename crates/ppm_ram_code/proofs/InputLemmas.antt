-- The memory of a RAM as an input.
use Rattle.std.proofs.Common.{◌≡◌, ◌∙◌, ◌≤◌, ℕ, ◌+◌, ◌-◌, true, ℤ, pos, List, [], ◌∷◌, ◌++◌, length, replicate, length-append, refl, sym, ap, subst, arith}
use Rattle.std.specs.List.{AllByRecursion}
use Rattle.std.proofs.lemmas.List.{length-replicate}
use Rattle.ppm_words.specs.Inputs.{IsInput, value_count}
use Rattle.ppm_words.specs.declared.named_array.NamedArray.{NamedArray}
use Rattle.ppm_tree.specs.Values.{fits}
use Rattle.ppm_ram.specs.declared.ram.RamParts.{RamParts}
use Rattle.ppm_ram.specs.Program.{IsRam, memory_of}
use Rattle.ppm_ram.specs.Meaning.{as_array}
use Rattle.ppm_ram_code.specs.Correct.{IsMemoryOf, input_of}

-- as many words as the RAM has
pub memory_length : (r : RamParts) → IsRam r → length (memory_of r) ≡ r.memory
memory_length r is =
    let rest = length-replicate (r.memory - length r.values) (pos 0) in
    let all = length-append r.values (replicate (r.memory - length r.values) (pos 0)) in
    let few = is.few_values in
    omega (arith, all, rest, few)

one_count : (memory : List ℤ) → value_count (input_of memory) ≡ length memory
one_count memory = omega arith

-- it is an input
pub input_is : (r : RamParts) → IsRam r → (arrays : List NamedArray) → arrays ≡ input_of (memory_of r) → IsInput arrays
input_is r is arrays e =
    let size = memory_length r is in
    let count = one_count (memory_of r) in
    let limit = is.memory in
    subst IsInput (sym e) (record { arrays_bound = omega arith; values_bound = omega (arith, count, size, limit) })
