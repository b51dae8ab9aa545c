use Rattle.std.proofs.Common.{◌≡◌, ◌≤◌, ◌+◌, ◌-◌, ◌*◌, length}
use Rattle.ppm_depth.specs.Moves.{pending, turns_of}
use Rattle.ppm_depth.specs.Stack.{Strands}
use Rattle.ppm_depth.specs.Start.{words_of}
use Rattle.ppm_depth.specs.Turns.{AreFew, HasRun, ShowsTree}
use Rattle.ppm_depth.specs.declared.frame.Now.TheVariants.{At}
use Rattle.ppm_depth.proofs.strand.Strand.run.Given as goal

-- the strand has come to what it shows, within the limit
abbrev pub invariant-loop-now : goal.invariant-loop-now
invariant-loop-now l = record {
  run : (t : Strands) → ShowsTree l.code l.fn.self (At l.fn.root) t
      → HasRun l.code (length l.fn.self.store.words.items) t (words_of l.fn.self.store.words.items) l.self l.now;
  words : length l.self.store.words.items ≡ length l.fn.self.store.words.items;
  few : AreFew l.self.counts;
  within : l.self.counts.capsules ≤ l.limit;
}

abbrev pub decreases-loop-now : goal.decreases-loop-now
decreases-loop-now l = 5 * (l.limit - l.self.counts.capsules) + pending l.self.waiting.items + turns_of l.now
