use Rattle.ppm_program.proofs.Stops.{bound_stops}
use Rattle.ppm_program.proofs.judging.program_of.Goals as goal

-- the tree passes a bound
pub returns-in-Err-clause-refused : goal.returns-in-Err-clause-refused
returns-in-Err-clause-refused c =
    rw c.from.ensures (bound_stops c.args.text.now _ (λ given. record {
      tree = _;
      admitted = c.in_ok-admitted.ensures.admitted;
      fault = rw c.program.ensures.value at c.in-Err.ensures.refused;
      given = given;
    }))
