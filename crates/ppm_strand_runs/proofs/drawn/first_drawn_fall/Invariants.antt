use Rattle.std.proofs.Common.{◌≤◌, ◌-◌}
use Rattle.ppm_strand_runs.proofs.DrawLemmas.{HaveStood}
use Rattle.ppm_strand_runs.proofs.drawn.first_drawn_fall.Given as goal

-- nothing fell so far
abbrev pub invariant-loop-number : goal.invariant-loop-number
invariant-loop-number l = (l.number ≤ l.draws.runs) × HaveStood l.code l.input l.draws.seed l.draws.strands l.draws.steps l.turns l.number

abbrev pub decreases-loop-number : goal.decreases-loop-number
decreases-loop-number l = l.draws.runs - l.number
