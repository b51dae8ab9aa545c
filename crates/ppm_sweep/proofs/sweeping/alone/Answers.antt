use Rattle.std.proofs.Common.{◌≡◌, ◌∙◌, sym, subst, ◌+◌, ◌++◌, nat_le, length, OnOk}
use Rattle.std.proofs.lemmas.Bool.{both_ways}
use Rattle.ppm_plan.specs.Refusals.{item_limit}
use Rattle.ppm_core.specs.Machine.{seen}
use Rattle.ppm_sweep.specs.Spots.{place_of}
use Rattle.ppm_sweep.proofs.AloneLemmas.{alone_comes, alone_differs, too_many}
use Rattle.ppm_sweep.proofs.PlaceLemmas.{whole_from}
use Rattle.ppm_sweep.proofs.SpotLemmas.{turns_made}
use Rattle.ppm_sweep.proofs.sweeping.alone.Goals as goal

-- it has too many items
pub returns-then-not-are_few : goal.returns-then-not-are_few
returns-then-not-are_few c = λ m fresh came.
    let spot = c.args.spot.now in
    let rest = c.as_slice-left.ensures.value ∙ c.in_ok-rest.ensures.rest in
    let many = sym (c.are_few.ensures ∙ (λ i. nat_le (length (c.as_slice-front.ensures.value i) + length (rest i)) item_limit)) ∙ c.if-not-are_few.true in
    too_many m c.args.turns c.args.wanted.now spot.faults (place_of spot) many c.args.tally.now _ c.leave_out.result c.leave_out.ensures.left
    c.leave_out.ensures.others c.leave_out.ensures.stops

-- it comes to something else
pub returns-then-not-meets : goal.returns-then-not-meets
returns-then-not-meets c = λ m fresh came.
    let spot = c.args.spot.now in
    let rest = c.as_slice-left.ensures.value ∙ c.in_ok-rest.ensures.rest in
    let few = sym (c.are_few.ensures ∙ (λ i. nat_le (length (c.as_slice-front.ensures.value i) + length (rest i)) item_limit)) ∙ c.if-not-are_few.false in
    let is = whole_from m c.args.turns spot c.in_ok-machine.machine c.as_slice-left.result.now came c.in_ok-machine.ensures rest c.follow_on.ensures.does in
    alone_differs m c.args.turns c.args.wanted.now spot.faults (place_of spot) few _
    (c.in_ok-items.ensures ∙ (λ i. c.as_slice-front.ensures.value i ++ rest i)) is
    (λ h. both_ways c.meets.result c.if-not-meets.true (c.meets.ensures.1 h)) c.args.tally.now c.args.tally.now

-- it comes to the outcome
pub returns : goal.returns
returns c = λ m fresh came.
    let spot = c.args.spot.now in
    let rest = c.as_slice-left.ensures.value ∙ c.in_ok-rest.ensures.rest in
    let few = sym (c.are_few.ensures ∙ (λ i. nat_le (length (c.as_slice-front.ensures.value i) + length (rest i)) item_limit)) ∙ c.if-not-are_few.false in
    let is = whole_from m c.args.turns spot c.in_ok-machine.machine c.as_slice-left.result.now came c.in_ok-machine.ensures rest c.follow_on.ensures.does in
    alone_comes m c.args.turns c.args.wanted.now spot.faults (place_of spot) few (seen c.follow_on.new.machine) is (c.meets.ensures.0 c.if-not-meets.false)
    (turns_made m (seen c.follow_on.new.machine) (spot.front.items ++ spot.ahead.rest) c.args.turns fresh is) c.args.tally.now _ c.count.result c.count.ensures.runs c.count.ensures.met
    (subst (λ n. OnOk c.count.result (c.count.new.self.acts ≡ c.args.tally.now.acts + n)) c.turns.ensures c.count.ensures.acts)
    c.count.ensures.left c.count.ensures.stops
