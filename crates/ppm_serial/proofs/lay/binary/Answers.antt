-- An operator at two locals, at a local and a number, and at any operands.
use Rattle.std.proofs.Common.{rules, to_z-of_z}
use Rattle.ppm_serial.specs.declared.code.Value.TheViews.{the_lemmas as value_lemmas}
use Rattle.ppm_serial.proofs.LayLemmas.{worth_locals, worth_number}
use Rattle.ppm_serial.proofs.lay.binary.Goals as goal

pub returns-in-Some-local_in : goal.returns-in-Some-local_in
returns-in-Some-local_in c s a =
    worth_locals c.args.operator c.args.line c.in-Some.slot c.in-Some-local_in.other c.args.left c.args.right c.in-Some.ensures c.in-Some-local_in.ensures s a

pub returns-in-Some-number_in : goal.returns-in-Some-number_in
returns-in-Some-number_in c s a = rw (to_z-of_z c.in-Some-number_in.ensures.in_range)
    (worth_number c.args.operator c.args.line c.in-Some.slot c.in-Some-number_in.number c.args.left c.args.right c.in-Some.ensures c.in-Some-number_in.ensures.value s a)

pub returns : goal.returns
returns c = search (rules, value_lemmas)
