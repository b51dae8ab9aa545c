use Rattle.ppm_ram.specs.Moves.{state}
use Rattle.ppm_ram.proofs.RunLemmas.{HasCome}
use Rattle.ppm_ram.proofs.run.ram_run.Given as goal

-- the RAM has come to the state at hand
abbrev pub invariant-loop : goal.invariant-loop
invariant-loop l = HasCome l.ram l.counter (state l.at l.registers l.memory.items)
