use Rattle.std.proofs.Common.{arith, ap, ◌∙◌, sym, option_and_then}
use Rattle.std.specs.Str.Parse.{ParsesUnsigned, ExplainsUnsignedError, HasUnsignedDigitsIfOk}
use Rattle.clap.specs.Words.{found_of}
use Rattle.ppm_cli.specs.Values.{kept_in}
use Rattle.ppm_cli.proofs.OptionLemmas.{number_read}
use Rattle.ppm_cli.proofs.getters.number_of.Goals as goal

-- the getter read none
pub returns-in_err-number-clause-value : goal.returns-in_err-number-clause-value
returns-in_err-number-clause-value c =
    c.from_residual.ensures
    ∙ ap (option_and_then (kept_in c.args.option.low c.args.option.high)) (sym c.in_err-number.was)
    ∙ number_read _ (λ bs r. ParsesUnsigned 32 10 bs r × ExplainsUnsignedError 10 bs r × HasUnsignedDigitsIfOk bs r) (λ u x g. g.0)
    c.args.option.low c.args.option.high (omega (arith, c.well_formed)) (found_of c.args.matches.now) c.args.option.name.now
    c.get_one.result c.get_one.ensures.none c.get_one.ensures.value

-- the getter read a number, and it is kept where it is in the range
pub returns-clause-value : goal.returns-clause-value
returns-clause-value c =
    c.kept_in.ensures.value
    ∙ ap (option_and_then (kept_in c.args.option.low c.args.option.high)) (sym c.in_ok-number.was)
    ∙ number_read _ (λ bs r. ParsesUnsigned 32 10 bs r × ExplainsUnsignedError 10 bs r × HasUnsignedDigitsIfOk bs r) (λ u x g. g.0)
    c.args.option.low c.args.option.high (omega (arith, c.well_formed)) (found_of c.args.matches.now) c.args.option.name.now
    c.get_one.result c.get_one.ensures.none c.get_one.ensures.value
