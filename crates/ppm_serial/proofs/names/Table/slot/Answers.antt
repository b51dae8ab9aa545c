use Rattle.std.proofs.Common.{arith}
use Rattle.ppm_serial.proofs.NameLemmas.{slot_found, slot_missed}
use Rattle.ppm_serial.proofs.names.Table.slot.Goals as goal

-- the map has the slot of the name
pub returns-in-Some : goal.returns-in-Some
returns-in-Some c =
    slot_found c.self.inside.slots c.self.inside.names.items c.args.self.now c.as_bytes.result.now c.args.name.now c.self.invariant c.self.view_is c.as_bytes.ensures.value
    c.in-Some.slot.now c.in-Some.ensures.value

-- there is no such name
pub returns-in-None : goal.returns-in-None
returns-in-None c =
    slot_missed c.self.inside.slots c.self.inside.names.items c.args.self.now c.as_bytes.result.now c.args.name.now c.self.invariant c.self.view_is c.as_bytes.ensures.value
    c.len.result (omega (arith, c.len.ensures)) c.in-None.ensures.value
