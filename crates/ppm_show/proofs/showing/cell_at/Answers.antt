use Rattle.std.proofs.Common.{◌∙◌, sym, ap, subst}
use Rattle.ppm_cells.specs.Cells.{IsCell}
use Rattle.ppm_naming.specs.Addresses.{addressed}
use Rattle.ppm_show.proofs.showing.cell_at.Goals as goal

-- each address below the count is that of a cell of the shape
pub returns-clause-there : goal.returns-clause-there
returns-clause-there c =
    let s = c.args.scene.now.shape in
    subst (λ d. IsCell s d) (sym (c.addressed.ensures ∙ ap (λ t. addressed t c.args.at) c.shape.ensures))
    ((c.addresses_name_cells.ensures.law s).there c.args.at c.requires).0
