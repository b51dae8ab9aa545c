use Rattle.std.proofs.Common.{◌≤◌, ◌++◌, length, sym, ap, ◌∙◌, arith}
use Rattle.std.proofs.lemmas.Result.{on_ok_weaker}
use Rattle.ppm_layout.proofs.PoolLemmas.{other_pool}
use Rattle.ppm_layout.proofs.start.Start.push_pool.Goals as goal

-- the root's frame is in the keeper's pool alone
pub returns-else-place-self : goal.returns-else-place-self
returns-else-place-self c =
    let start = c.args.self.now in
    let frame = start.root.frame.items in
    let short : length frame ≤ start.shape.room = omega (arith, start.frame_fits, start.shape.within.room_least) in
    on_ok_weaker c.push_zeros.result
    (λ zeros. zeros ∙ ap (λ ws. c.args.words.now.items ++ ws) (sym (other_pool start.shape start.keeper frame short c.args.place c.if-place-self.false)))
    c.push_zeros.ensures
