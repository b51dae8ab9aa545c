-- The run of `main` is that of the program.
use Rattle.std.proofs.Common.{rules}
use Rattle.ppm_by_name.specs.Frames.{frame_of}
use Rattle.ppm_trapped.proofs.ProgramLemmas.{told_none}
use Rattle.ppm_trapped.proofs.program.walk_main.Goals as goal

pub returns-in-Ok : goal.returns-in-Ok
returns-in-Ok c named =
    told_none c.args.tree.now c.as_slice.result.now c.args.main.now (frame_of c.in_ok-frame.frame) c.in_ok-store.store c.body.new.store c.in-Ok.field-0
    c.as_slice.ensures named c.in_ok-frame.ensures c.in_ok-store.ensures (let e = c.new-scope.ensures in let f = c.in-Ok.ensures in search (rules, e, f))
