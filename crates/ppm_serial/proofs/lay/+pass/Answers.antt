-- Nothing is passed, or the first argument and then the others.
use Rattle.std.proofs.Common.{arith}
use Rattle.ppm_serial.proofs.ProgramLemmas.{none_passed, none_given, first_passed}
use Rattle.ppm_serial.proofs.lay.+pass.Goals as goal

pub returns-in-empty : goal.returns-in-empty
returns-in-empty t c = let l = c.in-empty.len_below in
    none_passed c.args.names.now c.args.callee.now c.args.parameters.now _ c.args.all.now.items (omega (arith, l))

pub returns-in-empty-arguments : goal.returns-in-empty-arguments
returns-in-empty-arguments t c = let l = c.in-empty-arguments.len_below in
    none_given c.args.names.now c.args.callee.now c.args.parameters.now c.args.arguments.now c.args.all.now.items (omega (arith, l))

pub returns-in_ok-push-in-len1-up-arguments : goal.returns-in_ok-push-in-len1-up-arguments
returns-in_ok-push-in-len1-up-arguments t c =
    first_passed c.args.names.now c.args.callee.now c.args.parameters.now c.args.arguments.now c.parameter-item.result c.argument-item.result c.in_ok-one-in-len1-up-arguments.one
    c.args.all.now.items _ c.pass.new.all.items (let l = c.in-len1-up.len_at_least in omega (arith, l)) (let l = c.in-len1-up-arguments.len_at_least in omega (arith, l))
    c.parameter-item.is c.argument-item.is c.in_ok-one-in-len1-up-arguments.ensures c.in_ok-push-in-len1-up-arguments.ensures.items c.pass.result c.pass.ensures
