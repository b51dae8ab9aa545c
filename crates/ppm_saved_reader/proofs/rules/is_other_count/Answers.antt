use Rattle.std.proofs.Common.{◌∙◌, sym}
use Rattle.ppm_saved_reader.specs.Lines.{run_in}
use Rattle.ppm_saved_reader.proofs.CountLemmas.{count_line, count_past, count_none}
use Rattle.ppm_saved_reader.proofs.FrontLemmas.{no_run}
use Rattle.ppm_saved_reader.proofs.LineLemmas.{split_some, first_line_back}
use Rattle.ppm_saved_reader.proofs.rules.is_other_count.Goals as goal

-- a run that is too long ends the count
pub returns-then-times-rest_count : goal.returns-then-times-rest_count
returns-then-times-rest_count c =
    let (line, says, cut) = first_line_back run_in c.loop-times.left.now c.in-Some.rest.now (c.in-Some.field-0-0-0, c.in-Some.times) c.in-Some.ensures.says in
    sym (sym c.loop-times.invariant ∙ count_past c.loop-times.rest_count c.loop-times.left.now line c.in-Some.rest.now
    c.in-Some.field-0-0-0 c.in-Some.times (split_some 10 c.loop-times.left.now line c.in-Some.rest.now cut) says c.if-times-rest_count.true)

-- after another one there is the rest
pub loop-times-preserved : goal.loop-times-preserved
loop-times-preserved c =
    let (line, says, cut) = first_line_back run_in c.loop-times.left.now c.in-Some.rest.now (c.in-Some.field-0-0-0, c.in-Some.times) c.in-Some.ensures.says in
    sym (count_line c.loop-times.rest_count c.loop-times.left.now line c.in-Some.rest.now c.in-Some.field-0-0-0 c.in-Some.times
    (split_some 10 c.loop-times.left.now line c.in-Some.rest.now cut) says c.if-times-rest_count.false) ∙ c.loop-times.invariant

-- a line that is no run ends the count
pub returns-in-Some-split_once : goal.returns-in-Some-split_once
returns-in-Some-split_once c =
    let line = c.in-Some-split_once.field-0.0.now in
    let rest = c.in-Some-split_once.field-0.1.now in
    sym (sym c.loop-times.invariant ∙ count_none c.loop-times.rest_count c.loop-times.left.now line rest c.in-Some-split_once.ensures.pieces
    (no_run c.loop-times.left.now line rest c.in_default.ensures.says c.in-Some-split_once.ensures.halves))
