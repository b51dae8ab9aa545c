use Rattle.std.proofs.Common.{subst, sym}
use Rattle.ppm_core.specs.Machine.{seen}
use Rattle.ppm_following.proofs.ReadyLemmas.{ready_first}
use Rattle.ppm_following.specs.Following.{IsReady}
use Rattle.ppm_trace.proofs.HearingLemmas.{run_heard, run_is}
use Rattle.ppm_trace.proofs.hearing.follow_heard.Goals as goal

-- the turns are few
pub follow_on-requires-clause-is : goal.follow_on-requires-clause-is
follow_on-requires-clause-is g c = record {
  ready = subst (IsReady (seen c.args.machine.now)) (sym c.first-way.ensures)
      (ready_first (seen c.args.machine.now) c.args.acts c.requires.few c.requires.acts);
  can = c.requires.listens;
}

-- the run, and nothing after it
pub returns-clause-made : goal.returns-clause-made
returns-clause-made g c =
    run_is (g.L.Listener.heard c.args.listener.now) (seen c.args.machine.now) (seen c.follow_on.new.machine) c.first-way.result
    c.follow_on.new.way c.args.notes.now c.follow_on.new.notes c.items.result.now c.args.schedule.now.items c.args.acts
    c.items.ensures.items c.first-way.ensures c.in_ok-follow_on.ensures.hears

-- its turns were heard
pub returns-clause-heard : goal.returns-clause-heard
returns-clause-heard g c =
    run_heard (g.L.Listener.heard c.args.listener.now) (seen c.args.machine.now) (seen c.follow_on.new.machine) c.first-way.result
    c.follow_on.new.way c.args.notes.now c.follow_on.new.notes c.items.result.now c.args.schedule.now.items c.args.acts
    c.items.ensures.items c.first-way.ensures c.in_ok-follow_on.ensures.hears
