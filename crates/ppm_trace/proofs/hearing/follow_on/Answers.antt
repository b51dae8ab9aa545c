use Rattle.ppm_core.specs.Machine.{seen}
use Rattle.ppm_trace.proofs.HearingLemmas.{list_and_rounds}
use Rattle.ppm_trace.specs.Hearing.{hearing}
use Rattle.ppm_trace.proofs.hearing.follow_on.Goals as goal

-- the list, and after it the rounds
pub returns : goal.returns
returns g c = record {
  hears = list_and_rounds (g.L.Listener.heard c.args.listener.now) (g.met.L.Listener.on c.args.listener.now) c.args.items.now c.args.way.now.left
      (hearing (seen c.args.machine.now) c.args.way.now c.args.notes.now)
      (hearing (seen c.list.new.machine) c.list.new.way c.list.new.notes)
      (hearing (seen c.go_on.new.machine) c.go_on.new.way c.go_on.new.notes)
      c.in_ok-list.ensures.hears c.in_ok-go_on.ensures.hears;
}
