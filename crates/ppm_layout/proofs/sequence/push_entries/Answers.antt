use Rattle.std.proofs.lemmas.Result.{on_ok_weaker}
use Rattle.ppm_layout.proofs.PoolLemmas.{entries_pushed}
use Rattle.ppm_layout.proofs.sequence.push_entries.Goals as goal

-- two entries, and zeros for the others
pub returns : goal.returns
returns c =
    on_ok_weaker c.push_zeros.result
    (λ zeros. entries_pushed c.args.words.now.items c.push.new.self.items c.push-2.new.self.items c.push_zeros.new.words.items c.pack.result
    c.pack-2.result c.args.slots c.in_ok-push.ensures.items c.in_ok-push-2.ensures.items zeros c.pack.ensures c.pack-2.ensures c.requires)
    c.push_zeros.ensures
