-- The names, the body and what is given are the procedure's.
use Rattle.std.proofs.Common.{◌∙◌, ap, subst, map, List, length}
use Rattle.ppm_tree.specs.declared.tree.Stmt.{Stmt}
use Rattle.ppm_tree.specs.Tree.{procedure_of, block_of, give_of}
use Rattle.ppm_serial.specs.Names.{Slotted}
use Rattle.ppm_serial.specs.Laying.{LaysBlock, IsGive}
use Rattle.ppm_serial.proofs.ProgramLemmas.{lays_routine}
use Rattle.ppm_serial.proofs.lay.lay_one.Goals as goal

pub returns : goal.returns
returns c =
    lays_routine (map procedure_of c.args.procedures.now) (procedure_of c.args.procedure.now) c.args.blocks.now c.block.new.blocks
    (record { locals = c.len.result; regions = c.len-2.result; body = c.in_ok-body.body; give = c.in_ok-give.give })
    (c.len.ensures ∙ ap length c.locals.ensures ∙ ap (λ (n : Slotted). length n.locals) c.in_ok-names.ensures)
    (c.len-2.ensures ∙ ap length c.regions.ensures ∙ ap (λ (n : Slotted). length n.regions) c.in_ok-names.ensures)
    (subst (λ (n : Slotted). LaysBlock (map procedure_of c.args.procedures.now) n (procedure_of c.args.procedure.now).body c.args.blocks.now c.block.new.blocks c.in_ok-body.body) c.in_ok-names.ensures
    (subst (λ (xs : List Stmt). LaysBlock (map procedure_of c.args.procedures.now) c.in_ok-names.names (block_of xs) c.args.blocks.now c.block.new.blocks c.in_ok-body.body) c.deref.ensures.value
    c.in_ok-body.ensures))
    (subst (λ (n : Slotted). IsGive n (give_of c.args.procedure.now.give) c.in_ok-give.give) c.in_ok-names.ensures c.in_ok-give.ensures)
