-- No place gives out more than the depth-first run takes.
use Rattle.std.proofs.Common.{◌≡◌, ◌+◌, ap, arith}
use Rattle.ppm_strands.specs.Run.{End}
use Rattle.ppm_code.specs.Strands.{Result}
use Rattle.ppm_kept.specs.Rooms.{RoomIsBounded}

pub room_is_bounded : RoomIsBounded
room_is_bounded i root input s t law end ends p =
    let left = (law.ahead.1.ends end).0 ends in
    let counts : end.counts.block_words ≡ law.ahead.0.block_words + left.0.counts.block_words = ap (λ (e : End Result). e.counts.block_words) left.2 in
    let paid = law.paid p in omega (arith, paid, counts)
