use Rattle.std.proofs.Common.{◌≡◌, ◌+◌, drop}
use Rattle.ppm_cut_code.specs.Layout.{slot_of}
use Rattle.ppm_cut.proofs.layout.Layout.slot.Given as goal

-- the slot among those that are left, after those so far
abbrev pub invariant-loop-mention : goal.invariant-loop-mention
invariant-loop-mention l = (l.slot ≡ l.mention-index) × (l.slot + slot_of (drop l.mention-index l.mention-items) l.name ≡ slot_of l.mention-items l.name)
