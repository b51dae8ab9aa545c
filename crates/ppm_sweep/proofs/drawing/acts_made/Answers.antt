use Rattle.std.proofs.Common.{◌≡◌, ◌∙◌, arith}
use Rattle.ppm_core.specs.Machine.{seen}
use Rattle.ppm_following.specs.Followed.{followed}
use Rattle.ppm_choice.proofs.SkipLemmas.{makes_no_more}
use Rattle.ppm_sweep.specs.Windows.{act_count}
use Rattle.ppm_sweep.proofs.SpotLemmas.{turns_made}
use Rattle.ppm_sweep.proofs.drawing.acts_made.Goals as goal

-- as many turns as the schedule has
pub returns-clause-acts : goal.returns-clause-acts
returns-clause-acts c =
    c.turns.ensures
    ∙ turns_made (seen c.args.machine.now) (seen c.follow.new.machine) c.args.schedule.now.items c.args.turns c.requires.fresh
    (c.follow.ensures ∙ (λ i. followed (seen (c.in_ok-machine.ensures i)) c.args.schedule.now.items c.args.turns))

-- no more than it may
pub returns-clause-few : goal.returns-clause-few
returns-clause-few c =
    let m = seen c.args.machine.now in
    let items = c.args.schedule.now.items in
    let acts : c.turns.result ≡ act_count m items c.args.turns = returns-clause-acts c in
    omega (arith, acts, makes_no_more m.shape m.code m.state items c.args.turns)
