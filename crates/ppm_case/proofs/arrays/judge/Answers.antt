use Rattle.std.proofs.Common.{◌∙◌, sym}
use Rattle.ppm_case.proofs.JudgeLemmas.{no_head, no_form, past_range, named_again, too_many, next_is}
use Rattle.ppm_case.proofs.OptionLemmas.{not_true, not_false}
use Rattle.ppm_case.proofs.arrays.judge.Goals as goal

-- the line has no name and numbers
pub returns-in_default-clause-err : goal.returns-in_default-clause-err
returns-in_default-clause-err c = λ text rest cut begins. no_head c.args.arrays.now c.args.line.now text rest cut begins c.in_default.ensures

-- the numbers have no form
pub returns-in_default-numbers_in-clause-err : goal.returns-in_default-numbers_in-clause-err
returns-in_default-numbers_in-clause-err c = λ text rest cut begins.
    no_form c.args.arrays.now c.args.line.now text rest cut c.in-Some.head.name.now c.in-Some.head.numbers.now c.in-Some.ensures begins
    (sym c.in_default-numbers_in.ensures)

-- one is out of its range
pub returns-then-not-numbers-clause-err : goal.returns-then-not-numbers-clause-err
returns-then-not-numbers-clause-err c = λ text rest cut begins.
    past_range c.args.arrays.now c.args.line.now text rest cut c.in-Some.head.name.now c.in-Some.head.numbers.now c.in-Some.ensures
    c.in-Some-numbers_in.numbers (sym c.in-Some-numbers_in.ensures) (not_true c.in-Some-numbers_in.numbers.fits c.if-not-numbers.true)

-- the name was there
pub returns-then-is_named-clause-err : goal.returns-then-is_named-clause-err
returns-then-is_named-clause-err c = λ text rest cut begins.
    named_again c.args.arrays.now c.args.line.now text rest cut c.in-Some.head.name.now c.in-Some.head.numbers.now c.in-Some.ensures
    c.in-Some-numbers_in.numbers (sym c.in-Some-numbers_in.ensures) (not_false c.in-Some-numbers_in.numbers.fits c.if-not-numbers.false) (sym c.is_named.ensures ∙ c.if-is_named.true)

-- it is one too many
pub returns-then-is_past-clause-err : goal.returns-then-is_past-clause-err
returns-then-is_past-clause-err c = λ text rest cut begins.
    too_many c.args.arrays.now c.args.line.now text rest cut c.in-Some.head.name.now c.in-Some.head.numbers.now c.in-Some.ensures
    c.in-Some-numbers_in.numbers (sym c.in-Some-numbers_in.ensures) (not_false c.in-Some-numbers_in.numbers.fits c.if-not-numbers.false) (sym c.is_named.ensures ∙ c.if-is_named.false)
    (sym c.is_past.ensures ∙ c.if-is_past.true)

-- or all is well
pub returns-clause-ok : goal.returns-clause-ok
returns-clause-ok c =
    next_is c.args.arrays.now c.args.line.now c.in-Some.head.name.now c.in-Some.head.numbers.now c.in-Some-numbers_in.numbers c.in-Some.ensures
    (sym c.in-Some-numbers_in.ensures) (not_false c.in-Some-numbers_in.numbers.fits c.if-not-numbers.false) (sym c.is_named.ensures ∙ c.if-is_named.false) (sym c.is_past.ensures ∙ c.if-is_past.false)
