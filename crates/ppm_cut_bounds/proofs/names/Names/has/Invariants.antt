use Rattle.std.proofs.Common.{◌≡◌, drop}
use Rattle.ppm_cut_bounds.specs.Catching.{has}
use Rattle.ppm_cut_bounds.proofs.names.Names.has.Given as goal

-- the rest has the name exactly where all have it
abbrev pub invariant-loop-mention : goal.invariant-loop-mention
invariant-loop-mention l = has (drop l.mention-index l.mention-items) l.name ≡ has l.mention-items l.name
