use Rattle.ppm_threads.proofs.ActLemmas.{gives_way}
use Rattle.ppm_threads.proofs.going.give_way.Goals as goal

-- it has given up, if it wasn't done
pub returns-clause-gave_up : goal.returns-clause-gave_up
returns-clause-gave_up c =
    gives_way c.args.crew.now.shared c.args.processor.now c.turn.new.self c.turn.result c.requires.of c.turn.ensures.acted c.turn.ensures.made_none
