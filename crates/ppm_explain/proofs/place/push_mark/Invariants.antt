use Rattle.std.proofs.Common.{◌≡◌, ◌++◌, take, map, codes}
use Rattle.ppm_explain.specs.Places.{under}
use Rattle.ppm_explain.proofs.place.push_mark.Given as goal

abbrev pub invariant-loop-byte : goal.invariant-loop-byte
invariant-loop-byte l = l.text.items ≡ l.fn.text.items ++ codes "  " ++ map under (take l.byte-index l.before)
