use Rattle.std.proofs.Common.{◌+◌, ◌≡◌, ◌≤◌, ◌^◌, ◌-◌, suc, arith}
use Rattle.ppm_test_laws.proofs.SampleLemmas.{at_most, thrice, three_pos, not_many, fork_made}
use Rattle.ppm_test_laws.proofs.sample.+run.Goals as goal

-- a smaller run counts no more than 2 to the 47
pub with_counts-requires : goal.with_counts-requires
with_counts-requires t c =
    let few : 3 ^ (c.args.bound - 1) ≤ 2 ^ 48 = let h = not_many c.args.bound c.requires.shallow in omega arith in
    record { few = (at_most _ _ _ few c.in_ok-rest-in-Strand.ensures.few, at_most 1 _ _ (omega arith) c.counts_of_capsule.ensures.few) }

pub with_counts-requires-in-Call : goal.with_counts-requires-in-Call
with_counts-requires-in-Call t c =
    let few : 3 ^ (c.args.bound - 1) ≤ 2 ^ 48 = let h = not_many c.args.bound c.requires.shallow in omega arith in
    record { few = (at_most _ _ _ few c.in_ok-rest-in-Call.ensures.few, at_most _ _ _ few c.in_ok-callee_end-in-Call.ensures.few) }

pub with_counts-requires-in-Fork : goal.with_counts-requires-in-Fork
with_counts-requires-in-Fork t c =
    let few : 3 ^ (c.args.bound - 1) ≤ 2 ^ 48 = let h = not_many c.args.bound c.requires.shallow in omega arith in
    record { few = (at_most _ _ _ few c.in_ok-rest-in-Fork.ensures.few, at_most _ _ _ few c.in_ok-right_end-in-Fork.ensures.few) }

pub with_counts-requires-in-Fork-2 : goal.with_counts-requires-in-Fork-2
with_counts-requires-in-Fork-2 t c =
    let few : 3 ^ (c.args.bound - 1) ≤ 2 ^ 48 = let h = not_many c.args.bound c.requires.shallow in omega arith in
    let twice : 3 ^ (c.args.bound - 1) + 3 ^ (c.args.bound - 1) ≤ 2 ^ 48 = let h = not_many c.args.bound c.requires.shallow in omega arith in
    let both = c.with_counts-in-Fork.ensures.few _ _ c.in_ok-rest-in-Fork.ensures.few c.in_ok-right_end-in-Fork.ensures.few in
    record { few = (at_most _ _ _ twice both, at_most _ _ _ few c.in_ok-left_end-in-Fork.ensures.few) }

-- one capsule more than a smaller run
pub returns-in_ok-rest-in-Strand-clause-few : goal.returns-in_ok-rest-in-Strand-clause-few
returns-in_ok-rest-in-Strand-clause-few t c =
    let le : 3 ^ (c.args.bound - 1) + 1 ≤ 3 ^ c.args.bound =
    let e = thrice c.args.bound c.if-bound-eq0.false in
    let pos = three_pos (c.args.bound - 1) in
    omega arith in
    at_most _ _ _ le (c.with_counts.ensures.few _ _ c.in_ok-rest-in-Strand.ensures.few c.counts_of_capsule.ensures.few)

-- two smaller runs
pub returns-in_ok-rest-in-Call-clause-few : goal.returns-in_ok-rest-in-Call-clause-few
returns-in_ok-rest-in-Call-clause-few t c =
    let le : 3 ^ (c.args.bound - 1) + 3 ^ (c.args.bound - 1) ≤ 3 ^ c.args.bound = let e = thrice c.args.bound c.if-bound-eq0.false in omega arith in
    at_most _ _ _ le (c.with_counts-in-Call.ensures.few _ _ c.in_ok-rest-in-Call.ensures.few c.in_ok-callee_end-in-Call.ensures.few)

-- left, right, and the frame
pub returns-in_ok-rest-in-Fork-clause-depth_first :
    goal.returns-in_ok-rest-in-Fork-clause-depth_first
returns-in_ok-rest-in-Fork-clause-depth_first t c =
    let n = c.args.bound - 1 in
    let is : c.args.bound ≡ suc (c.args.bound - 1) = let ne = c.if-bound-eq0.false in omega arith in
    rw c.in-Fork.is (fork_made c.args.table.now c.args.bound n c.in-Fork.frame c.in-Fork.left c.in-Fork.right c.args.words
    c.in_ok-left_end-in-Fork.left_end c.in_ok-right_end-in-Fork.right_end c.in_ok-rest-in-Fork.rest
    c.with_counts-in-Fork.result c.with_counts-in-Fork-2.result c.joined-outcome.result _ is
    c.in_ok-left_end-in-Fork.ensures.depth_first c.in_ok-right_end-in-Fork.ensures.depth_first c.joined-outcome.ensures.value
    c.resumed-in-Fork.ensures.value c.in_ok-rest-in-Fork.ensures.depth_first c.with_counts-in-Fork.ensures.value c.with_counts-in-Fork-2.ensures.value)

-- three smaller runs
pub returns-in_ok-rest-in-Fork-clause-few : goal.returns-in_ok-rest-in-Fork-clause-few
returns-in_ok-rest-in-Fork-clause-few t c =
    let le : 3 ^ (c.args.bound - 1) + 3 ^ (c.args.bound - 1) + 3 ^ (c.args.bound - 1) ≤ 3 ^ c.args.bound =
    let e = thrice c.args.bound c.if-bound-eq0.false in omega arith in
    let both = c.with_counts-in-Fork.ensures.few _ _ c.in_ok-rest-in-Fork.ensures.few c.in_ok-right_end-in-Fork.ensures.few in
    at_most _ _ _ le (c.with_counts-in-Fork-2.ensures.few _ _ both c.in_ok-left_end-in-Fork.ensures.few)
