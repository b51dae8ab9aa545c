use Rattle.std.specs.Prelude.{[], ◌∷◌, ◌++◌, codes}
use Rattle.ppm_trace.proofs.TextLemmas.{and_then}
use Rattle.ppm_trace.specs.Trace.{columns, named, sizes_text}
use Rattle.ppm_trace.proofs.ends.push_head.Goals as goal

-- three lines
pub returns : goal.returns
returns c =
    let text = c.args.text.now.items in
    let one = codes "ppm trace 1" ++ 10 ∷ [] in
    let two = sizes_text c.args.shape.now in
    let three = named (codes " from ") c.args.from in
    let first = and_then text (codes "ppm trace 1") (10 ∷ []) c.in_ok-push_word.ensures c.in_ok-push.ensures.items in
    let second =
    and_then text (one ++ two ++ three) (10 ∷ [])
    (and_then text (one ++ two) three (and_then text one two first c.in_ok-push_sizes.ensures) c.in_ok-push_named.ensures)
    c.in_ok-push-2.ensures.items in
    and_then text (one ++ two ++ three ++ 10 ∷ [] ++ columns) (10 ∷ [])
    (and_then text (one ++ two ++ three ++ 10 ∷ []) columns second c.in_ok-push_columns.ensures)
    c.in_ok-push-3.ensures.items
