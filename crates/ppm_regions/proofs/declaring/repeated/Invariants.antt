use Rattle.std.proofs.Common.{◌≡◌, ◌++◌, [], map, take}
use Rattle.ppm_tree.specs.Tree.{ProgramTree}
use Rattle.ppm_tree.specs.declared.mode.Mode.TheVariants as mode
use Rattle.ppm_regions.specs.Scope.{plain}
use Rattle.ppm_regions.specs.Kept.{seen}
use Rattle.ppm_regions.specs.Uses.{sites_of_names}
use Rattle.ppm_regions.specs.Deciding.{IsLeast}
use Rattle.ppm_regions.proofs.declaring.repeated.Given as goal

-- the names so far are declared, and their first fault is found
abbrev pub invariant-loop-item : goal.invariant-loop-item
invariant-loop-item g l = record {
  least : (t : ProgramTree) → IsLeast t (sites_of_names (map g.T.Item.name_of (take l.item-index l.items))) l.found;
  scope : seen l.scope ≡ map (plain mode.Int) (map g.T.Item.name_of (take l.item-index l.items));
}
