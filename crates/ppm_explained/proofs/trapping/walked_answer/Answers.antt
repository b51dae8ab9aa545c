use Rattle.std.proofs.Common.{subst, ◌∙◌}
use Rattle.ppm_tree.specs.Tree.{tree_of}
use Rattle.ppm_trapped.specs.Walks.{IsToldOfRun}
use Rattle.ppm_explained.proofs.TrapLemmas.{explained, not_ended}
use Rattle.ppm_explained.proofs.trapping.walked_answer.Goals as goal

-- the walk comes to the trap of the outcome
pub returns-in-Ok : goal.returns-in-Ok
returns-in-Ok c =
    explained (tree_of c.args.program.now) c.args.turns c.have_one_end.ensures.law c.trap_points_trap.ensures.law c.args.text.now c.args.trap c.args.line
    c.from_vec.result c.requires.has c.requires.traps c.in-Ok-Some.told
    (subst (λ told. IsToldOfRun (tree_of c.args.program.now) told) c.in-Ok-Some.field-0-is c.in-Ok-Some.ensures)
    (c.from_vec.ensures ∙ c.in-Ok.ensures)

-- a program that traps does not end
pub unreachable-requires : goal.unreachable-requires
unreachable-requires c =
    not_ended (tree_of c.args.program.now) c.args.turns c.have_one_end.ensures.law c.args.trap c.args.line c.requires.traps
    (subst (λ told. IsToldOfRun (tree_of c.args.program.now) told) c.in-Ok-None.field-0-is c.in-Ok-None.ensures)
