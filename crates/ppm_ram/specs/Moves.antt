-- What a step leaves in the registers and the memory of a machine.
use Rattle.std.specs.Prelude.{ℕ, ℤ, List}
use Rattle.ppm_ram.specs.declared.run.Next.{Next}
use Rattle.ppm_ram.specs.declared.run.Next.TheVariants as next
use Rattle.ppm_ram.specs.Limits.{line_of}
use Rattle.ppm_ram.specs.Meaning.{State, Move, GoesOn, Stops, Halted, Trapped}

-- the state with this instruction next, these registers and this memory
abbrev pub state : (at : ℕ) → (registers memory : List ℤ) → State
state at registers memory = record { at = at; registers = registers; memory = memory }

-- what was made of a step at an instruction, with the registers and the memory then
abbrev pub shown : (at : ℕ) → (registers memory : List ℤ) → Next → Move
shown at registers memory (next.To target) = GoesOn (state target registers memory)
shown at registers memory next.Halted = Stops (Halted memory)
shown at registers memory (next.Trapped trap) = Stops (Trapped trap (line_of at))
