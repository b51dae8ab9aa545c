-- The words of all arrays, after one of them was written.
use Rattle.std.proofs.Common.{arith}
use Rattle.std.proofs.lemmas.Grind.{common_steps}
use Rattle.std.proofs.lemmas.List.{map-set, get_or-map}
use Rattle.ppm_by_name.proofs.store.Store.put.Goals as goal

pub returns-then-at-len : goal.returns-then-at-len
returns-then-at-len c = grind (arith, common_steps, map-set, get_or-map)
