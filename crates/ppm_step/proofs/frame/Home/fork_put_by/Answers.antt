use Rattle.std.proofs.Common.{◌≡◌, ◌+◌, ℕ, Option, None, slice_get, subst}
use Rattle.ppm_code.specs.Sizes.{frame_size}
use Rattle.ppm_step.specs.Frames.{fork_to_puts, target_of}
use Rattle.ppm_step.proofs.frame.Home.fork_put_by.Goals as goal

-- with a right target alone
pub returns-in-None-Some-clause-value : goal.returns-in-None-Some-clause-value
returns-in-None-Some-clause-value c =
    let left = subst (λ (o : Option ℕ). c.fork_to_put.result
    ≡ slice_get (fork_to_puts c.args.code.now c.args.self.now c.args.procedures.0 c.args.procedures.1 c.args.capsule
    (c.args.self.now.block + (5 + frame_size c.args.code.now c.args.procedures.0)) (target_of o) (target_of c.args.targets.1)) c.args.n)
    c.in-None-Some.is-0 c.fork_to_put.ensures.value in
    let both = subst (λ (o : Option ℕ). c.fork_to_put.result
    ≡ slice_get (fork_to_puts c.args.code.now c.args.self.now c.args.procedures.0 c.args.procedures.1 c.args.capsule
    (c.args.self.now.block + (5 + frame_size c.args.code.now c.args.procedures.0)) (target_of None) (target_of o)) c.args.n)
    c.in-None-Some.is-1 left in
    rw c.in-None-Some.is-0 (rw c.in-None-Some.is-1 both)
