use Rattle.std.proofs.Common.{◌≡◌, ◌∙◌, ◌<◌, ◌+◌, ℕ, List, [], ◌∷◌, ◌++◌, length, take, drop, sym, ap, arith}
use Rattle.std.proofs.lemmas.List.{length-drop}
use Rattle.ppm_table.proofs.ListLemmas.{part_more}
use Rattle.ppm_table.proofs.closed.Closed.part.Goals as goal

-- one word more
pub loop-i-preserved : goal.loop-i-preserved
loop-i-preserved c =
    let ws = c.args.self.now.words in
    let start = c.args.start in
    let i = c.loop-i.i in
    let rest = length-drop start ws in
    let less : i < length (drop start ws) = omega (arith, rest, c.word_count.ensures.words, c.requires, c.loop-i-test.true) in
    c.in_ok-push.ensures.items
    ∙ ap (λ (l : List ℕ). l ++ c.word.result ∷ []) c.loop-i.invariant
    ∙ ap (λ (w : ℕ). take i (drop start ws) ++ w ∷ []) c.word.ensures
    ∙ sym (part_more ws start i less)
