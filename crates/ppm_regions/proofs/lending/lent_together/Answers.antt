use Rattle.std.proofs.Common.{[], ◌∷◌}
use Rattle.ppm_regions.specs.Uses.{Lends, sites_at, lent_together}
use Rattle.ppm_regions.proofs.Loops.{loop_step, loop_end, lent_more}
use Rattle.ppm_regions.proofs.lending.lent_together.Goals as goal

-- the regions so far and one more
pub loop-at-preserved : goal.loop-at-preserved
loop-at-preserved c = λ t s.
    rw c.earlier-found.ensures
    (loop_step t (λ ls. sites_at s (lent_together [] ls)) (λ ls l. sites_at s (Lends ls l ∷ [])) (lent_more [] s) c.args.lendings.now c.loop-at.at
    c.index-lendings-at.result _ _ c.loop-at-test.true c.index-lendings-at.is (c.loop-at.invariant t s) (c.beside.ensures t s))

-- all regions
pub returns : goal.returns
returns c = λ t s.
    loop_end t (λ ls. sites_at s (lent_together [] ls)) (λ ls l. sites_at s (Lends ls l ∷ [])) (lent_more [] s) c.args.lendings.now c.loop-at.at _
    c.loop-at-test.false (c.loop-at.invariant t s)
