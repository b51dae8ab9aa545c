use Rattle.std.proofs.Common.{refl, length, arith}
use Rattle.std.proofs.lemmas.Option.{slice_get_read}
use Rattle.ppm_war.proofs.CodeLemmas.{and_here}
use Rattle.ppm_war.proofs.ConflictLemmas.{is_false}
use Rattle.ppm_war.proofs.TidyLemmas.{FollowsAt, leads, follows_one}
use Rattle.ppm_war.proofs.tidiness.leads_to_build.Goals as goal

-- a path comes to an instruction that may not follow
pub returns-then-not-is_clear : goal.returns-then-not-is_clear
returns-then-not-is_clear c =
    let is = c.args.instrs.now in
    let one = slice_get_read is (length is) c.loop-at.at c.index-instrs-at.result refl c.loop-at-test.true c.index-instrs-at.is in (
      λ f. cc,
      λ all. absurd (is_false c.is_clear.result c.if-not-is_clear.true (c.is_clear.ensures.1 (λ marked.
          all c.loop-at.at c.index-instrs-at.result ((c.all_places_from-marks.ensures c.loop-at.at c.loop-at-test.true).0 marked) one))),
    )

-- this instruction may follow, if a path comes to it
pub loop-at-preserved : goal.loop-at-preserved
loop-at-preserved c =
    let is = c.args.instrs.now in
    let one = slice_get_read is (length is) c.loop-at.at c.index-instrs-at.result refl c.loop-at-test.true c.index-instrs-at.is in
    and_here (FollowsAt c.args.code.now is c.args.from c.args.word) c.loop-at.at c.loop-at.invariant
    (follows_one c.args.code.now is c.args.from c.args.word c.loop-at.at c.index-instrs-at.result one (λ p.
    c.is_clear.ensures.0 c.if-not-is_clear.false ((c.all_places_from-marks.ensures c.loop-at.at c.loop-at-test.true).1 p)))

-- all were met
pub returns : goal.returns
returns c = (
  λ t. leads c.args.code.now c.args.instrs.now c.args.from c.args.word c.loop-at.at (omega (arith, c.loop-at-test.false)) c.loop-at.invariant,
  λ all. refl,
)
