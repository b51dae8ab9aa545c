use Rattle.std.proofs.Common.{arith, subst, ◌+◌}
use Rattle.ppm_code.specs.Paths.{Does, IsConflict}
use Rattle.ppm_code.specs.declared.class.Class.{Class}
use Rattle.ppm_code.specs.declared.class.May.TheVariants.{Read, Write}
use Rattle.ppm_war.proofs.ConflictLemmas.{first_of_class, is_false, none_so_far}
use Rattle.ppm_war.proofs.DecodedLemmas.{among, decoded_length, does_below}
use Rattle.ppm_war.proofs.conflict.conflict_of.Goals as goal

-- no instruction writes the class
pub returns-then-not-is_written : goal.returns-then-not-is_written
returns-then-not-is_written c = λ is d read write k same x.
    is_false c.is_written.result c.if-not-is_written.true
    (c.is_written.ensures.1 (among is c.args.mays.now write (Write c.args.class) d (subst (λ (k : Class). Does is write (Write k)) same x.writes)))

pub loop-read_at-init : goal.loop-read_at-init
loop-read_at-init c = λ is d read write less x. omega (arith, less)

-- no lesser read has one
pub returns-in-Some : goal.returns-in-Some
returns-in-Some c = λ is d.
    let exposed = c.places_from-before.ensures is c.loop-read_at.read_at d (omega (arith, decoded_length is c.args.mays.now d, c.loop-read_at-test.true)) in
    let first = c.write_after.ensures is d exposed (c.first_writes-firsts.ensures is (c.loop-read_at.read_at + 1) d) in
    first_of_class is c.args.class c.loop-read_at.read_at (c.loop-read_at.invariant is d) c.in-Some.write_at c.write_after.result c.in-Some.is first

-- nor has this read
pub loop-read_at-preserved : goal.loop-read_at-preserved
loop-read_at-preserved c = λ is d.
    let exposed = c.places_from-before.ensures is c.loop-read_at.read_at d (omega (arith, decoded_length is c.args.mays.now d, c.loop-read_at-test.true)) in
    let first = c.write_after.ensures is d exposed (c.first_writes-firsts.ensures is (c.loop-read_at.read_at + 1) d) in
    none_so_far is c.args.class c.loop-read_at.read_at (c.loop-read_at.invariant is d) c.write_after.result c.in_default.is first

-- all reads were met
pub returns : goal.returns
returns c = λ is d read write k same x.
    let less = does_below is read (Read k) x.exposed.reads in
    c.loop-read_at.invariant is d read write (omega (arith, c.loop-read_at-test.false, decoded_length is c.args.mays.now d, less))
    (subst (λ (k : Class). IsConflict is read write k) same x)
