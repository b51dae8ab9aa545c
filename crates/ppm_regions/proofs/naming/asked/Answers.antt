use Rattle.std.proofs.Common.{sym, ◌∙◌}
use Rattle.ppm_regions.specs.Kept.{seen}
use Rattle.ppm_regions.proofs.UseLemmas.{asks_unknown, asks_declared}
use Rattle.ppm_regions.proofs.naming.asked.Goals as goal

-- the name is not declared
pub returns-in-None : goal.returns-in-None
returns-in-None c = λ t. asks_unknown t (seen c.args.scope.now) c.args.ask c.args.name.now (sym c.declared.ensures ∙ c.in-None.is)

-- the name is declared
pub returns-in-Some : goal.returns-in-Some
returns-in-Some c = λ t.
    rw c.of_declared.ensures (asks_declared t (seen c.args.scope.now) c.args.ask c.args.name.now c.in-Some.declaration (sym c.declared.ensures ∙ c.in-Some.is))
