use Rattle.std.proofs.Common.{arith, ℕ, length-take, ◌≤◌, ◌+◌, ◌++◌, take, length, length-append}
use Rattle.std.proofs.KnownBytes.{Consumes-trans}
use Rattle.ppm_ports.proofs.reading.read_whole.Goals as goal

-- the last piece was read, but found no memory
pub returns-in_err-extend_from_slice-clause-front :
    goal.returns-in_err-extend_from_slice-clause-front
returns-in_err-extend_from_slice-clause-front g c =
    let piece = take c.in_ok-count.count c.read.new.buf in
    let short : length (c.loop-buf.text.items ++ piece) ≤ c.args.limit + 1 =
    omega (arith, length-append c.loop-buf.text.items piece, length-take {A = ℕ}, c.in_ok-count.ensures.bound) in
    (c.loop-buf.text.items ++ piece, short, Consumes-trans _ _ _ _ _ c.loop-buf.invariant.front c.in_ok-count.ensures.bytes.0)
