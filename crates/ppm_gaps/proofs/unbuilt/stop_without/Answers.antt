use Rattle.ppm_gaps.proofs.UnbuiltLemmas.{first_without, no_stop}
use Rattle.ppm_gaps.proofs.unbuilt.stop_without.Goals as goal

-- some path stops without
pub returns-in-Some : goal.returns-in-Some
returns-in-Some c = first_without c.args.instrs.now c.args.write c.args.word c.requires.writes c.requires.closed c.in-Some.stop c.in-Some.ensures

-- or none does
pub returns-in-None : goal.returns-in-None
returns-in-None c = no_stop c.args.instrs.now c.args.write c.args.word c.requires.writes c.requires.closed c.in-None.ensures
