-- A word more.
use Rattle.std.proofs.Common.{rules, ◌≡◌, ◌∙◌, ◌+◌, ◌++◌, ◌∷◌, [], get_or, sym, ap}
use Rattle.ppm_interleaving.proofs.OwnLemmas.{slot_more}
use Rattle.ppm_interleaving.proofs.own.words_from.Goals as goal

pub loop-at-preserved : goal.loop-at-preserved
loop-at-preserved c =
    let pushed : c.push.new.self.items ≡ c.loop-at.found.items ++ get_or c.args.words.now (c.args.place + c.loop-at.at) 0 ∷ [] = search rules in
    pushed ∙ ap (λ l. l ++ get_or c.args.words.now (c.args.place + c.loop-at.at) 0 ∷ []) c.loop-at.invariant
    ∙ sym (slot_more c.args.words.now c.args.place c.loop-at.at)
