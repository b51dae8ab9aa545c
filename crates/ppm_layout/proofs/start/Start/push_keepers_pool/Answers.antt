use Rattle.std.proofs.Common.{◌≡◌, ◌≤◌, vec_len, ◌-◌, ◌++◌, length, replicate, ap, ◌∙◌, arith}
use Rattle.std.proofs.lemmas.Result.{on_ok_weaker}
use Rattle.ppm_cells.specs.Cells.{pool_at}
use Rattle.ppm_layout.specs.Sequence.{block_words}
use Rattle.ppm_layout.proofs.PoolLemmas.{keepers_pool, frame_pushed}
use Rattle.ppm_layout.proofs.start.Start.push_keepers_pool.Goals as goal

-- the frame, and zeros after it
pub returns : goal.returns
returns c =
    let start = c.args.self.now in
    let frame = start.root.frame.items in
    let old = c.args.words.now.items in
    let room = start.shape.room in
    let front = c.extend_from_slice.new.self.items in
    let short : length frame ≤ room = omega (arith, start.frame_fits, start.shape.within.room_least) in
    let long : vec_len start.root.frame ≡ length frame = omega (arith, start.root.frame.ok.0) in
    on_ok_weaker c.push_zeros.result
    (λ zeros. frame_pushed old front c.push_zeros.new.words.items frame (block_words start.shape start.keeper frame (pool_at start.shape start.keeper) room)
    (room - length frame) (c.in_ok-extend_from_slice.ensures.items ∙ ap (λ ws. old ++ ws) c.as_slice.ensures.value)
    (zeros ∙ ap (λ n. front ++ replicate (room - n) 0) (c.len.ensures ∙ long)) (keepers_pool start.shape start.keeper frame short))
    c.push_zeros.ensures
