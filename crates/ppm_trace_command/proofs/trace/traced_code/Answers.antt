use Rattle.std.proofs.Common.{sym, subst}
use Rattle.ppm_loading.specs.Loading.{AreSizes}
use Rattle.ppm_trace_command.proofs.TraceLemmas.{code_tells, traced_sizes}
use Rattle.ppm_trace_command.proofs.trace.traced_code.Goals as goal

-- the options say sizes of a machine
pub load_code-requires-clause-sizes : goal.load_code-requires-clause-sizes
load_code-requires-clause-sizes c = subst AreSizes (sym c.sizes_of.ensures) (traced_sizes c.args.options c.requires.options)

-- what is told is the code's answer
pub returns : goal.returns
returns c =
    code_tells c.args.options c.args.schedule.now.items c.args.names.now c.args.code c.args.input.now _ _ c.keeper.ensures.keeper _ _ _
    c.sizes_of.ensures c.form_by-form.ensures c.in_ok-machine.ensures c.in_ok-text.ensures.text
