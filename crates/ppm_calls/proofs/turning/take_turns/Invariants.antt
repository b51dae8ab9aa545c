use Rattle.std.proofs.Common.{◌≡◌, ℕ, ◌<◌, ◌≤◌}
use Rattle.ppm_core.specs.Machine.{seen}
use Rattle.ppm_core.specs.Situation.{finish_in, run_on}
use Rattle.ppm_calls.specs.Turns.{steps_in_turn}
use Rattle.ppm_calls.proofs.turning.take_turns.Given as goal

-- so many steps were made, and before each of them the finish word was 0
abbrev pub invariant-loop-number : goal.invariant-loop-number
invariant-loop-number l =
    (seen l.machine ≡ run_on (seen l.initial.machine) (steps_in_turn l.processors l.number))
    × ((k : ℕ) → k < l.number → finish_in (run_on (seen l.initial.machine) (steps_in_turn l.processors k)) ≡ 0)
    × (l.machine.turns ≡ l.number) × (l.processors ≡ l.machine.shape.processors) × (1 ≤ l.processors)
