use Rattle.ppm_gaps.proofs.HangingLemmas.{is_behind}
use Rattle.ppm_gaps.proofs.hanging.behind.Goals as goal

-- a word, or the way
pub returns : goal.returns
returns c = is_behind c.args.row c.args.finds c.args.instr.now c.has_operand-hung.result c.either-sets.result c.parts-parted.result
    c.words_behind-words.result c.either-way.result c.target.result c.target.ensures c.has_operand-hung.ensures c.either-sets.ensures c.parts-parted.ensures
    c.words_behind-words.ensures c.either-way.ensures
