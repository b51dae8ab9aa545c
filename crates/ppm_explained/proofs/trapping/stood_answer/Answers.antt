use Rattle.std.proofs.Common.{refl, subst, ◌∙◌}
use Rattle.ppm_tree.specs.Tree.{tree_of}
use Rattle.ppm_standing.specs.Stood.{IsStandOf}
use Rattle.ppm_explained.proofs.StandAnswers.{stand_explained, not_nowhere}
use Rattle.ppm_explained.proofs.trapping.stood_answer.Goals as goal

-- what is told of the place where the run stands
pub returns-in-Ok : goal.returns-in-Ok
returns-in-Ok c = (
  refl,
  stand_explained (tree_of c.args.program.now) c.args.turns c.args.text.now c.from_vec.result c.requires.has c.requires.later c.in-Ok-Some.stood
      (subst (IsStandOf (tree_of c.args.program.now) c.args.turns) c.in-Ok-Some.field-0-is c.in-Ok-Some.ensures)
      (c.from_vec.ensures ∙ c.in-Ok.ensures),
)

-- a run that takes more turns stands somewhere
pub unreachable-requires : goal.unreachable-requires
unreachable-requires c =
    not_nowhere (tree_of c.args.program.now) c.args.turns c.spend_their_turns.ensures.law c.stand_where_later.ensures.law c.requires.later
    (subst (IsStandOf (tree_of c.args.program.now) c.args.turns) c.in-Ok-None.field-0-is c.in-Ok-None.ensures)
