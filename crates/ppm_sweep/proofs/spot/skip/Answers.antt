use Rattle.std.proofs.Common.{refl, sym, subst, IfSome}
use Rattle.ppm_sweep.specs.Ahead.{Passes}
use Rattle.ppm_sweep.proofs.PlaceLemmas.{Skips, left_out}
use Rattle.ppm_sweep.proofs.spot.skip.Goals as goal

-- an act of the list is written
pub returns-in_ok-write_act-in-Listed : goal.returns-in_ok-write_act-in-Listed
returns-in_ok-write_act-in-Listed c =
    let old = c.args.spot.now in
    left_out old _ c.args.coming c.requires.done
    (subst (λ k. Skips k old.front.items c.write_act.new.items.items) (sym c.in-Listed.is) c.in_ok-write_act-in-Listed.ensures) refl refl
    (subst (λ o. IfSome o (λ due. Passes due old.ahead c.pass.new.self)) c.requires.first c.pass.ensures.passes)
    c.pass.ensures.processors refl refl

-- a step of a round is not
pub returns-in-InRound : goal.returns-in-InRound
returns-in-InRound c =
    let old = c.args.spot.now in
    left_out old _ c.args.coming c.requires.done
    (subst (λ k. Skips k old.front.items old.front.items) (sym c.in-InRound.is) refl) refl refl
    (subst (λ o. IfSome o (λ due. Passes due old.ahead c.pass-in-InRound.new.self)) c.requires.first c.pass-in-InRound.ensures.passes)
    c.pass-in-InRound.ensures.processors refl refl
