use Rattle.ppm_gaps.proofs.HangingLemmas.{goes_on}
use Rattle.ppm_gaps.proofs.hanging.pass.Goals as goal

-- what comes of a find after the instruction goes on
pub returns : goal.returns
returns c = λ to m less range. goes_on c.args.rows.now c.go_on.new.rows c.args.at to m range c.row_at.result c.behind-row.result c.args.finds c.args.instr.now
    c.may.result c.may.ensures c.row_at.ensures (c.behind-row.ensures m range) (c.go_on.ensures to m less)
