use Rattle.ppm_core.specs.Machine.{seen}
use Rattle.ppm_calls.specs.HeardLaws.{one_heard}
use Rattle.ppm_calls.proofs.recorder.ActRecorderListener.hear.Goals as goal

-- one act more
pub returns-clause-heard : goal.returns-clause-heard
returns-clause-heard c =
    one_heard c.args.notes.now.items c.push.new.self.items c.act_of-act.result (seen c.args.machine.now) c.args.turn c.in_ok-push.ensures.items
    c.act_of-act.ensures
