use Rattle.std.proofs.Common.{◌≡◌, ◌++◌}
use Rattle.ppm_layout.specs.Sequence.{places}
use Rattle.ppm_layout.proofs.start.Start.push_places.Given as goal

-- the places so far
abbrev pub invariant-loop-place : goal.invariant-loop-place
invariant-loop-place l =
    l.words.items ≡ l.fn.words.items ++ places l.self.shape l.self.keeper l.self.root.size l.self.root.frame.items l.place
