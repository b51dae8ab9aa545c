use Rattle.std.proofs.Common.{◌≡◌, ◌++◌, length}
use Rattle.std.specs.List.{flat_map, AllByRecursion}
use Rattle.ppm_saved.specs.Correct.{RunFits}
use Rattle.ppm_saved.specs.Runs.{runs_of}
use Rattle.ppm_saved.specs.Text.{run_line}
use Rattle.ppm_saved.proofs.writing.push_runs.Given as goal

-- what is written, and what is left
abbrev pub invariant-loop-run : goal.invariant-loop-run
invariant-loop-run l =
    (l.text.items ++ flat_map run_line (runs_of l.left) ≡ l.fn.text.items ++ flat_map run_line (runs_of l.words))
    × (AllByRecursion RunFits (runs_of l.left) → AllByRecursion RunFits (runs_of l.words))

abbrev pub decreases-loop-run : goal.decreases-loop-run
decreases-loop-run l = length l.left
