use Rattle.std.proofs.Common.{◌≡◌, ◌++◌, OnOk, subst, sym}
use Rattle.ppm_core.specs.Machine.{seen}
use Rattle.ppm_trace.specs.Json.{written_as}
use Rattle.ppm_trace.proofs.tale.push_written.Goals as goal

-- in lines
pub returns-in-Lines : goal.returns-in-Lines
returns-in-Lines c =
    subst (λ form. OnOk c.push_if_shown.result (c.push_if_shown.new.text.items
    ≡ c.args.text.now.items ++ written_as c.args.names.now form c.args.from (seen c.args.machine.now) c.args.turn))
    (sym c.in-Lines.is) (c.push_if_shown.ensures c.args.from)
