use Rattle.ppm_unseen.proofs.FillingLemmas.{filling_is_needed, blocks_are_to_be_filled}
use Rattle.ppm_unseen.proofs.NeededLemmas.{order_is_needed, standing_is_needed}
use Rattle.ppm_unseen.proofs.laws.each_condition_is_needed.Goals as goal

-- it counts twice
pub returns-clause-order : goal.returns-clause-order
returns-clause-order c = order_is_needed

-- both words are kept
pub returns-clause-filling : goal.returns-clause-filling
returns-clause-filling c = filling_is_needed

-- what was left over is told
pub returns-clause-blocks : goal.returns-clause-blocks
returns-clause-blocks c = blocks_are_to_be_filled

-- the first exchange happens twice
pub returns-clause-standing : goal.returns-clause-standing
returns-clause-standing c = standing_is_needed
