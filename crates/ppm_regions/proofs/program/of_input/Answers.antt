use Rattle.std.proofs.Common.{◌≡◌, [], length, ap, arith}
use Rattle.ppm_tree.specs.Tree.{tree_of}
use Rattle.ppm_regions.proofs.MainLemmas.{fills_none, fills_past}
use Rattle.ppm_regions.proofs.program.of_input.Goals as goal

-- no array has the name
pub returns-in_default : goal.returns-in_default
returns-in_default c = fills_none (tree_of c.args.tree.now) [] c.args.input.now (c.in_default.ensures)

-- more values than words
pub returns-then-array-as_slice : goal.returns-then-array-as_slice
returns-then-array-as_slice c =
    let lengths = ap length c.as_slice.ensures in
    fills_past (tree_of c.args.tree.now) [] c.args.input.now c.in-Some.array.now (c.in-Some.ensures) (omega (arith, c.if-array-as_slice.true, lengths))
