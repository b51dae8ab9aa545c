use Rattle.std.proofs.Common.{arith, ◌∙◌}
use Rattle.ppm_serial.proofs.NameLemmas.{noted_index}
use Rattle.ppm_serial.proofs.names.Table.note.Goals as goal

-- the map has the slot of the new name too
pub invariant_of-self-2 : goal.invariant_of-self-2
invariant_of-self-2 c =
    noted_index c.self.inside.slots c.self.inside.names.items c.args.self.now c.in_ok-bytes.bytes.items c.args.name.now c.self.invariant c.self.view_is
    (c.in_ok-bytes.ensures.items ∙ c.as_bytes.ensures.value) c.insert.new.self c.reserve.new.self.items c.push_reserved.new.self.items c.in_ok-copy.copy
    c.slot.result c.len.result c.len-slot.result c.slot.ensures (omega (arith, c.len.ensures)) (omega (arith, c.if-slot-len.false)) c.reserve.ensures.items c.push_reserved.ensures.items
    c.in_ok-copy.ensures (omega (arith, c.len-slot.ensures)) c.in_ok-insert.ensures.updates
