use Rattle.std.proofs.Common.{drop}
use Rattle.ppm_cut_bounds.proofs.Notes.{InNames}
use Rattle.ppm_cut_bounds.proofs.walk.Walk.note_all.Given as goal

-- the names that follow are still to come
abbrev pub invariant-loop-mention : goal.invariant-loop-mention
invariant-loop-mention l = InNames l.mention-items (drop l.mention-index l.mention-items) l.initial.self l.self
