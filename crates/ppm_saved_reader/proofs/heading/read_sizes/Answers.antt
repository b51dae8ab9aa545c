use Rattle.std.proofs.Common.{◌∙◌, sym}
use Rattle.ppm_saved_reader.proofs.HeadLemmas.{sizes_read, sizes_large, sizes_other, sizes_none}
use Rattle.ppm_saved_reader.proofs.heading.read_sizes.Goals as goal

-- sizes within their ranges
pub returns-then-sizes_fit-clause-ok : goal.returns-then-sizes_fit-clause-ok
returns-then-sizes_fit-clause-ok c =
    sizes_read c.args.text.now c.in-Some.line.now c.in-Some.rest.now c.in-Some.ensures.halves c.in-Some-sizes_in.sizes (sym c.in-Some-sizes_in.ensures)
    (sym c.sizes_fit.ensures ∙ c.if-sizes_fit.true)

-- others, another line, or none
pub returns-else-sizes_fit-clause-err : goal.returns-else-sizes_fit-clause-err
returns-else-sizes_fit-clause-err c =
    sizes_large c.args.text.now c.in-Some.line.now c.in-Some.rest.now c.in-Some.ensures.halves c.in-Some-sizes_in.sizes (sym c.in-Some-sizes_in.ensures)
    (sym c.sizes_fit.ensures ∙ c.if-sizes_fit.false)

pub returns-in-None-sizes_in-clause-err : goal.returns-in-None-sizes_in-clause-err
returns-in-None-sizes_in-clause-err c =
    sizes_other c.args.text.now c.in-Some.line.now c.in-Some.rest.now c.in-Some.ensures.halves (sym c.in-None-sizes_in.ensures)

pub returns-in-None-clause-err : goal.returns-in-None-clause-err
returns-in-None-clause-err c = sizes_none c.args.text.now c.in-None.ensures.halves
