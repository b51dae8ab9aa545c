use Rattle.std.proofs.Common.{subst, sym, ◌+◌}
use Rattle.ppm_code.specs.Paths.{Does}
use Rattle.ppm_code.specs.declared.class.May.{May}
use Rattle.ppm_war.specs.Search.{Is, IsAnswer, IsReadBelow}
use Rattle.ppm_war.proofs.ConflictLemmas.{answer_of_fewer, earlier_answer, no_class_more, nothing_read, one_class_more}
use Rattle.ppm_war.proofs.DecodedLemmas.{does_at, in_front}
use Rattle.ppm_war.proofs.conflict.with_class_at.Goals as goal

-- the class is one of those below
pub returns-then-is_read_before : goal.returns-then-is_read_before
returns-then-is_read_before c = λ is d so_far.
    let reads = subst (λ (m : May). Does is c.args.place m) c.in-Some.ensures (does_at is c.args.mays.now c.args.place _ d c.requires.there) in
    let known = in_front is c.args.mays.now c.args.place _ d (c.is_read_before.ensures.0 c.if-is_read_before.true) in
    answer_of_fewer (IsReadBelow is c.args.place) (IsReadBelow is (c.args.place + 1)) is
    (λ k more. no_class_more is c.args.place c.in-Some.class k reads known more) c.args.found so_far

-- or it comes to them
pub returns-else-is_read_before : goal.returns-else-is_read_before
returns-else-is_read_before c = λ is d so_far.
    let reads = subst (λ (m : May). Does is c.args.place m) c.in-Some.ensures (does_at is c.args.mays.now c.args.place _ d c.requires.there) in
    subst (IsAnswer (IsReadBelow is (c.args.place + 1)) is) (sym c.earlier.ensures)
    (earlier_answer (IsReadBelow is c.args.place) (Is c.in-Some.class) (IsReadBelow is (c.args.place + 1)) is
    (λ k more. one_class_more is c.args.place c.in-Some.class k reads more) c.args.found c.conflict_of.result so_far (c.conflict_of.ensures is d))

-- nothing is read here
pub returns-in-None : goal.returns-in-None
returns-in-None c = λ is d so_far.
    let does = does_at is c.args.mays.now c.args.place _ d c.requires.there in
    answer_of_fewer (IsReadBelow is c.args.place) (IsReadBelow is (c.args.place + 1)) is
    (λ k more. nothing_read is c.args.place _ k does c.in-None.ensures more) c.args.found so_far
