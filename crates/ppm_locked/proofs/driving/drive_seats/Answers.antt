use Rattle.std.proofs.Common.{◌≡◌, ◌<◌, ◌∙◌, ℕ, List, length, map, get_or, sym, ap, subst, arith}
use Rattle.std.specs.List.{range_with_len}
use Rattle.std.proofs.lemmas.List.{length-map}
use Rattle.std.proofs.lemmas.List.FromFn.{length-range_with_len, get_or-map-range_with_len}
use Rattle.std.proofs.lemmas.Option.{slice_get-get_or}
use Rattle.ppm_plan.specs.Forms.{plan_form}
use Rattle.ppm_plan.specs.Refusals.{IsKeeper}
use Rattle.ppm_locked.specs.Held.{Seated, unused}
use Rattle.ppm_locked.proofs.driving.drive_seats.Goals as goal

-- so many seats were given
seat_count : (n : ℕ) (seats : List Seated) → seats ≡ map unused (range_with_len 0 n) → length seats ≡ n
seat_count n seats e = ap (λ (l : List Seated). length l) e ∙ length-map (range_with_len 0 n) unused ∙ length-range_with_len 0 n

pub close-requires-clause-seats : goal.close-requires-clause-seats
close-requires-clause-seats g c =
    let count = seat_count g.L.Keeping.first.shape.processors c.args.seats.items c.requires.seats in
    let length_is = c.args.seats.ok.0 in
    omega (arith, c.in_ok-back.ensures.len, length_is, count)

-- the keeper's seat has found the run ended
pub returns-clause-finish : goal.returns-clause-finish
returns-clause-finish g c =
    let n = g.L.Keeping.first.shape.processors in
    let items = c.args.plan.now.items in
    let keeper = c.keeper.result in
    let below : keeper < n = subst (λ (k : ℕ). keeper < k) c.requires.plan c.keeper.ensures.below in
    let d = unused 0 in
    let count = seat_count n c.args.seats.items c.requires.seats in
    let own : (get_or c.args.seats.items keeper d).processor ≡ keeper =
    ap (λ (l : List Seated). (get_or l keeper d).processor) c.requires.seats
    ∙ ap (λ s. s.processor) (get_or-map-range_with_len unused 0 n keeper keeper d below (omega arith)) in
    let there : keeper < length c.args.seats.items = subst (λ (k : ℕ). keeper < k) (sym count) below in
    let ended = c.in_ok-back.ensures.keeper keeper d there (subst (λ (k : ℕ). IsKeeper plan_form items k) (sym own) c.keeper.ensures.keeper) in
    let back = c.in_ok-back.back.items in
    let length_is = c.args.seats.ok.0 in
    let length_back = c.in_ok-back.back.ok.0 in
    let there_back : keeper < length back = omega (arith, c.in_ok-back.ensures.len, length_is, length_back, count, below) in
    c.close.ensures.ended keeper (get_or back keeper d) (slice_get-get_or back keeper d there_back) ended

pub returns-clause-run : goal.returns-clause-run
returns-clause-run g c = (c.close.ensures.run.0, c.close.ensures.run.1.0)
