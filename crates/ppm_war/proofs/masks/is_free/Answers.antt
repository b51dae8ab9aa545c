use Rattle.std.proofs.Common.{arith, ℕ, ◌+◌}
use Rattle.ppm_code.specs.Paths.{Any, IsConflict}
use Rattle.ppm_code.specs.declared.class.Class.{Class}
use Rattle.ppm_code.specs.declared.class.May.TheVariants.{Read}
use Rattle.ppm_war.proofs.ConflictLemmas.{is_false, none_below}
use Rattle.ppm_war.proofs.DecodedLemmas.{decoded_length, does_at, does_below}
use Rattle.ppm_war.proofs.MarkLemmas.{same_what}
use Rattle.ppm_war.proofs.MaskLemmas.{leads_behind}
use Rattle.ppm_war.proofs.masks.is_free.Goals as goal

-- nor is this one
pub loop-at-preserved : goal.loop-at-preserved
loop-at-preserved c = λ is read write k d less x.
    none_below (λ r. (w : ℕ) × (k : Class) × IsConflict is r w k) c.loop-at.at (λ j small h. c.loop-at.invariant is j h.0 h.1 d small h.2)
    (λ h.
    let does = does_at is c.args.mays.now c.loop-at.at _ d c.loop-at-test.true in
    let reads = same_what is Any c.loop-at.at (Read h.1) _ h.2.exposed.reads does in
    let before = c.exposed-before.ensures is h.1 c.loop-at.at d (omega (arith, decoded_length is c.args.mays.now d, c.loop-at-test.true)) h.2.exposed.before in
    let after = c.written-after.ensures is h.1 (c.loop-at.at + 1) h.0 d (leads_behind is h.1 c.loop-at.at h.0 h.2) in
    is_false c.may_conflict.result c.if-may_conflict.false (c.may_conflict.ensures h.1 reads before after))
    read less (write, k, x)

-- all were met
pub returns : goal.returns
returns c = λ is d t read write k x.
    let less = does_below is read (Read k) x.exposed.reads in
    c.loop-at.invariant is read write k d (omega (arith, c.loop-at-test.false, decoded_length is c.args.mays.now d, less)) x
