use Rattle.std.proofs.Common.{◌∙◌, refl, ap, subst, [], ◌∷◌, IfSome}
use Rattle.ppm_core.specs.Machine.{seen}
use Rattle.ppm_choice.specs.Course.{Listed}
use Rattle.ppm_following.specs.Following.{Does}
use Rattle.ppm_sweep.specs.Ahead.{Passes}
use Rattle.ppm_sweep.specs.Sweep.{with_act}
use Rattle.ppm_sweep.proofs.PlaceLemmas.{advanced}
use Rattle.ppm_sweep.proofs.spot.advance.Goals as goal

-- it was made and written
pub returns : goal.returns
returns c =
    let old = c.args.spot.now in
    advanced old _ c.args.coming c.requires.more c.requires.lives (
      c.in_ok-write_act.ensures ∙ ap (with_act old.front.items) c.act-act.ensures,
      subst (λ a. Does (Listed a ∷ []) (seen old.machine) old.way (seen c.make.new.machine) c.make.new.way) c.act-act.ensures c.make.ensures.does,
      c.make.ensures.ready,
    )
    (subst (λ o. IfSome o (λ due. Passes due old.ahead c.pass.new.self)) c.requires.first c.pass.ensures.passes)
    c.pass.ensures.processors c.in_ok-number.ensures refl
