use Rattle.std.proofs.Common.{subst, sym}
use Rattle.ppm_step.specs.Stages.{IsStage}
use Rattle.ppm_step.proofs.EndLemmas.{reached_end}
use Rattle.ppm_step.proofs.running.Running.go_on.Goals as goal

-- the end that was come to is one of the code's
pub begin_end-there-requires-in-AtEnd : goal.begin_end-there-requires-in-AtEnd
begin_end-there-requires-in-AtEnd c = record {
  home = c.requires.home;
  end = reached_end c.args.code.now c.parts.ensures.code c.args.self.now.capsule c.in-Some.capsule.now c.in-Some.ensures
      c.from.result c.args.self.now.next c.reach-stop.result.next c.as_slice.result.now c.args.registers.now c.reach-stop.new.registers
      c.reach-stop.result.what c.in-AtEnd.end c.as_slice.ensures c.reach-stop.ensures.left c.in-AtEnd.is;
}

pub returns-in-AtEnd-clause-stage : goal.returns-in-AtEnd-clause-stage
returns-in-AtEnd-clause-stage c =
    subst IsStage (sym c.begin_end-there-in-AtEnd.ensures.stage)
    (reached_end c.args.code.now c.parts.ensures.code c.args.self.now.capsule c.in-Some.capsule.now c.in-Some.ensures
    c.from.result c.args.self.now.next c.reach-stop.result.next c.as_slice.result.now c.args.registers.now c.reach-stop.new.registers
    c.reach-stop.result.what c.in-AtEnd.end c.as_slice.ensures c.reach-stop.ensures.left c.in-AtEnd.is)

-- the store of the header that is not in use is there, or is not
pub returns-in-AtEnd-Next-clause-there : goal.returns-in-AtEnd-Next-clause-there
returns-in-AtEnd-Next-clause-there c = c.next_is_there.ensures c.args.code.now c.in-AtEnd-Next.capsule
