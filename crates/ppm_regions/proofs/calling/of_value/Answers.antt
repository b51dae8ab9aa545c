use Rattle.std.proofs.Common.{ap}
use Rattle.ppm_tree.specs.Tree.{give_of, procedure_of, tree_of}
use Rattle.ppm_regions.proofs.CallLemmas.{delivers_none}
use Rattle.ppm_regions.proofs.calling.of_value.Goals as goal

-- the procedure gives none
pub returns-in-None-give : goal.returns-in-None-give
returns-in-None-give c = λ s.
    delivers_none (tree_of c.args.procedures.now) s c.args.name.now (procedure_of c.in-Some.procedure.now) (c.in-Some.ensures) (ap give_of c.in-None-give.is)
