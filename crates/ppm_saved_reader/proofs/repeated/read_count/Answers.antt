use Rattle.std.proofs.Common.{◌∙◌, sym}
use Rattle.ppm_saved_reader.proofs.HeadLemmas.{count_none, count_missing, count_differs, count_untrue, count_read}
use Rattle.ppm_saved_reader.proofs.repeated.read_count.Goals as goal

-- there is no line of a count
pub returns-in_default-clause-err : goal.returns-in_default-clause-err
returns-in_default-clause-err c = λ whole z arrays code for read. count_none c.args.text.now c.in_default.ensures.halves read

pub returns-in_default-count_in-clause-err : goal.returns-in_default-count_in-clause-err
returns-in_default-count_in-clause-err c = λ whole z arrays code for read.
    count_missing c.args.text.now c.in-Some.bytes.now c.in-Some.rest.now c.in-Some.ensures.halves read (sym c.in_default-count_in.ensures)

-- it is another one
pub returns-then-said-count-clause-err : goal.returns-then-said-count-clause-err
returns-then-said-count-clause-err c = λ whole z arrays code for read.
    count_differs c.args.text.now c.in-Some.bytes.now c.in-Some.rest.now c.in-Some.ensures.halves read c.in-Some-count_in.said c.args.count
    (sym c.in-Some-count_in.ensures) for c.if-said-count.true

-- other words follow
pub returns-then-is_other_count-clause-err : goal.returns-then-is_other_count-clause-err
returns-then-is_other_count-clause-err c = λ whole z arrays code for read.
    count_untrue c.args.text.now c.in-Some.bytes.now c.in-Some.rest.now c.in-Some.ensures.halves read c.in-Some-count_in.said c.args.count
    (sym c.in-Some-count_in.ensures) for c.if-said-count.false (sym c.is_other_count.ensures ∙ c.if-is_other_count.true)

-- or as many
pub returns-clause-ok : goal.returns-clause-ok
returns-clause-ok c = λ whole z arrays code for read.
    count_read c.args.text.now c.in-Some.bytes.now c.in-Some.rest.now c.in-Some.ensures.halves read c.in-Some-count_in.said c.args.count
    (sym c.in-Some-count_in.ensures) for c.if-said-count.false (sym c.is_other_count.ensures ∙ c.if-is_other_count.false)
