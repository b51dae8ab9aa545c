use Rattle.std.proofs.lemmas.Result.{err_from_is_err_and}
use Rattle.ppm_program.proofs.Stops.{text_stops, syntax_stops}
use Rattle.ppm_program.proofs.judging.derived_of.Goals as goal

-- the text has a fault of its bytes
pub returns-in_err-all-clause-refused : goal.returns-in_err-all-clause-refused
returns-in_err-all-clause-refused c =
    let p = err_from_is_err_and c.from_residual.result c.from_residual.ensures.1 in
    rw (p.1, p.2) (text_stops c.args.text.now _ c.in_err-all.ensures.refused)

-- its tokens have a fault
pub returns-in_err-program-clause-refused : goal.returns-in_err-program-clause-refused
returns-in_err-program-clause-refused c =
    let p = err_from_is_err_and c.from_residual-in_err-program.result c.from_residual-in_err-program.ensures.1 in
    rw (p.1, p.2) (syntax_stops c.args.text.now _ (λ given. record {
      tokens = c.in_ok-all.all.tokens;
      lexed = record { short = c.in_ok-all.ensures.within; lexed = c.in_ok-all.ensures.read };
      fault = rw c.in_ok-all.ensures.len at c.in_err-program.ensures.fault;
      given = given;
    }))
