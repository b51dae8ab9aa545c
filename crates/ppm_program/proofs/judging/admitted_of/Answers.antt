use Rattle.std.proofs.lemmas.Result.{err_from_is_err_and}
use Rattle.ppm_program.proofs.Stops.{region_stops}
use Rattle.ppm_program.proofs.judging.admitted_of.Goals as goal

-- the tree has a fault of its names and regions
pub returns-in_err-admitted-clause-refused : goal.returns-in_err-admitted-clause-refused
returns-in_err-admitted-clause-refused c =
    let p = err_from_is_err_and c.from_residual-in_err-admitted.result c.from_residual-in_err-admitted.ensures.1 in
    rw (p.1, p.2) (region_stops c.args.text.now _ (λ given.
    record { tree = _; derived = c.in_ok-program.ensures.tree; fault = c.in_err-admitted.ensures.refused; given = given }))
