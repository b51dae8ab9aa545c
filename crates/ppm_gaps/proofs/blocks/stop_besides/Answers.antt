use Rattle.ppm_gaps.proofs.BlockLemmas.{first_beside, no_stop}
use Rattle.ppm_gaps.proofs.blocks.stop_besides.Goals as goal

-- some path stops elsewhere
pub returns-in-Some : goal.returns-in-Some
returns-in-Some c = first_beside c.args.instrs.now c.args.other c.args.block c.requires.builds c.requires.closed c.in-Some.stop c.in-Some.ensures

-- or none does
pub returns-in-None : goal.returns-in-None
returns-in-None c = no_stop c.args.instrs.now c.args.other c.args.block c.requires.builds c.requires.closed c.in-None.ensures
