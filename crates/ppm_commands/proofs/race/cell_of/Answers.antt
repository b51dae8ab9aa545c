use Rattle.std.proofs.Common.{ℤ, List, length, ap}
use Rattle.ppm_commands.proofs.WordLemmas.{passed_by}
use Rattle.ppm_commands.proofs.race.cell_of.Goals as goal

-- the word is not in the first of the arrays that are left
pub loop-left-preserved : goal.loop-left-preserved
loop-left-preserved c =
    passed_by c.args.arrays.now c.args.word c.loop-left.left.now c.first-item.result c.loop-left.array c.loop-left.index (length c.as_slice.result.now)
    c.loop-left.invariant c.in-len1-up.len_at_least c.first-item.is (ap (λ (vs : List ℤ). length vs) c.as_slice.ensures) c.if-index-length.false
