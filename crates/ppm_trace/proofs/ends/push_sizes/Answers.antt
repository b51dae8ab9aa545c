use Rattle.std.specs.Prelude.{◌++◌, codes}
use Rattle.ppm_trace.proofs.TextLemmas.{and_then}
use Rattle.ppm_trace.specs.Trace.{named, takeover_text}
use Rattle.ppm_trace.proofs.ends.push_sizes.Goals as goal

-- size by size
pub returns : goal.returns
returns c =
    let text = c.args.text.now.items in
    let s = c.args.shape.now in
    let one = named (codes "processors ") s.processors in
    let two = named (codes " room ") s.room in
    let three = named (codes " slots ") s.slots in
    and_then text (one ++ two ++ three) (takeover_text s.takeover)
    (and_then text (one ++ two) three
    (and_then text one two c.in_ok-push_size.ensures c.in_ok-push_size-2.ensures)
    c.in_ok-push_size-3.ensures)
    c.in_ok-push_takeover.ensures
