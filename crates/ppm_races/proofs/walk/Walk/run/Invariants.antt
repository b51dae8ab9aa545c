use Rattle.std.proofs.Common.{◌≡◌, ◌≤◌, ◌+◌, ◌-◌, ◌*◌, length}
use Rattle.ppm_strands.specs.Tree.{Words}
use Rattle.ppm_depth.specs.Moves.{pending, turns_of}
use Rattle.ppm_depth.specs.Stack.{Strands}
use Rattle.ppm_depth.specs.Start.{words_of}
use Rattle.ppm_depth.specs.Turns.{AreFew, HasRun, ShowsTree}
use Rattle.ppm_depth.specs.declared.frame.Now.TheVariants.{At}
use Rattle.ppm_races.specs.Walks.{AreSeen, IsAt}
use Rattle.ppm_races.proofs.walk.Walk.run.Given as goal

-- the run has come to what it shows, within the limit
abbrev pub invariant-loop-now : goal.invariant-loop-now
invariant-loop-now l = record {
  run : (tree : Strands) (input : Words) → IsAt l.code tree input l.fn.self (At l.fn.root) → IsAt l.code tree input l.self l.now;
  chain : (t : Strands) → ShowsTree l.code l.fn.self.strand (At l.fn.root) t
      → HasRun l.code (length l.fn.self.strand.store.words.items) t (words_of l.fn.self.strand.store.words.items) l.self.strand l.now;
  seen : AreSeen l.self;
  words : length l.self.strand.store.words.items ≡ length l.fn.self.strand.store.words.items;
  few : AreFew l.self.strand.counts;
  within : l.self.strand.counts.capsules ≤ l.limit;
}

abbrev pub decreases-loop-now : goal.decreases-loop-now
decreases-loop-now l = 5 * (l.limit - l.self.strand.counts.capsules) + pending l.self.strand.waiting.items + turns_of l.now
