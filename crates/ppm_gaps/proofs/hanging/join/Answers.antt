use Rattle.ppm_gaps.proofs.HangingLemmas.{joined}
use Rattle.ppm_gaps.proofs.hanging.join.Goals as goal

-- a word, or the way
pub returns : goal.returns
returns c = joined c.args.a c.args.b c.union-words.result c.either-way.result c.union-words.ensures c.either-way.ensures
