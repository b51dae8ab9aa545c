use Rattle.std.proofs.Common.{◌≡◌, ◌∙◌, ℕ, List, length, drop, sym, ap, arith}
use Rattle.std.proofs.lemmas.List.{length-drop}
use Rattle.std.specs.Slots.{slots_items, slots_counts}
use Rattle.ppm_cells.specs.Cells.{word_count}
use Rattle.ppm_table.specs.Closed.{Closing}
use Rattle.ppm_table.specs.Run.{padding}
use Rattle.ppm_table.proofs.closed.Closed.word_count.Goals as goal

-- the padding is no part of them
pub returns-clause-words : goal.returns-clause-words
returns-clause-words c =
    let items = slots_items c.self.inside.table.words in
    let is : drop padding items ≡ c.args.self.now.words = ap (λ (x : Closing). x.words) c.self.view_is in
    let same = ap (λ (x : Closing). word_count x.shape) c.self.view_is in
    let counts = (slots_counts c.self.inside.table.words).0 in
    let wide = c.self.invariant.1 in
    let cut = length-drop padding items in
    ap length (sym is) ∙ (let e : length (drop padding items) ≡ word_count c.args.self.now.shape = omega (arith, cut, counts, wide, same) in e)
