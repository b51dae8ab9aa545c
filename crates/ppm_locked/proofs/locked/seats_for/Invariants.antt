use Rattle.std.proofs.Common.{◌≡◌, ◌+◌, map}
use Rattle.std.specs.List.{range_with_len}
use Rattle.ppm_locked.specs.Held.{unused}
use Rattle.ppm_locked.proofs.locked.seats_for.Given as goal

abbrev pub invariant-loop-own : goal.invariant-loop-own
invariant-loop-own g l = (l.rest.parts + l.own ≡ l.fn.rest.parts) × (l.rest.amount ≡ 0) × (l.rest_of_ends.parts + l.own ≡ l.fn.rest_of_ends.parts) × (l.rest_of_ends.amount ≡ 0)
    × (l.seats.items ≡ map unused (range_with_len 0 l.own))
