-- No procedure is left, or the first one is laid out and then the others.
use Rattle.std.proofs.Common.{arith, map}
use Rattle.ppm_tree.specs.Tree.{procedure_of}
use Rattle.ppm_serial.proofs.ProgramLemmas.{none_laid, first_laid}
use Rattle.ppm_serial.proofs.lay.+lay_all.Goals as goal

pub returns-in-empty : goal.returns-in-empty
returns-in-empty t c = let l = c.in-empty.len_below in
    none_laid (map procedure_of c.args.procedures.now) c.args.left.now c.args.blocks.now c.args.routines.now.items (omega (arith, l))

pub returns-in_ok-push-in-len1-up : goal.returns-in_ok-push-in-len1-up
returns-in_ok-push-in-len1-up t c =
    first_laid (map procedure_of c.args.procedures.now) c.args.left.now c.first-item.result c.args.blocks.now c.lay_one.new.blocks c.lay_all.new.blocks
    c.args.routines.now.items _ c.lay_all.new.routines.items c.in_ok-routine-in-len1-up.routine (let l = c.in-len1-up.len_at_least in omega (arith, l))
    c.first-item.is c.in_ok-routine-in-len1-up.ensures c.in_ok-push-in-len1-up.ensures.items c.lay_all.result c.lay_all.ensures
