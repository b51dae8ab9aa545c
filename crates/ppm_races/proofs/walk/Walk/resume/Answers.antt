use Rattle.std.proofs.Common.{◌+◌, length, List, ℕ, sym, subst}
use Rattle.ppm_depth.specs.Start.{words_of}
use Rattle.ppm_depth.specs.Turns.{strands_over}
use Rattle.ppm_depth.specs.declared.strand.Counts.{Counts}
use Rattle.ppm_stamps.specs.Moments.{Comes}
use Rattle.ppm_races.specs.Beside.{stamps_of}
use Rattle.ppm_races.specs.Walks.{rise, stamps_in}
use Rattle.ppm_races.proofs.ReturnLemmas.{resumed_then}
use Rattle.ppm_races.proofs.walk.Walk.resume.Goals as goal

-- a return, the beginning of a right branch, or a join
pub returns-clause-now : goal.returns-clause-now
returns-clause-now c = λ code root input at.
    let walk = c.args.self.now in
    let words = walk.strand.store.words.items in
    let it = resumed_then code (length words) root input walk.strand.waiting.items c.args.waiting c.args.finish walk.strand.store.blocks.items
    walk.marks.items c.resume_marks.new.marks.items (words_of words) (stamps_in walk)
    (record { above = at.above; leaf = at.leaf; forks = at.forks; shown = at.shown; come = at.come; marks_are = at.marks }) c.in_ok-resume_marks.ensures in
    record {
      above = it.above;
      leaf = it.leaf;
      forks = it.forks;
      shown = rw (c.in_ok-now.ensures.now, c.in_ok-now.ensures.blocks, c.in_ok-now.ensures.waiting) it.shown;
      come = subst (λ (k : Counts). Comes (strands_over code (length c.resume.new.self.store.words.items)) root input (rise it.above it.forks) it.leaf
          (words_of c.resume.new.self.store.words.items) (stamps_of (k.capsules + 1) walk.visits.wrote.items walk.visits.touched.items))
          (sym c.in_ok-now.ensures.counts)
          (subst (λ (ws : List ℕ). Comes (strands_over code (length ws)) root input (rise it.above it.forks) it.leaf (words_of ws) (stamps_in walk))
          (sym c.in_ok-now.ensures.words) it.come);
      marks = it.marks_are;
    }
