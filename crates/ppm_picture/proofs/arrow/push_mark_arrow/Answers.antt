use Rattle.std.proofs.Common.{◌≡◌, ◌++◌, OnOk, subst, sym}
use Rattle.ppm_picture.specs.Arrows.{mark_arrow}
use Rattle.ppm_picture.proofs.arrow.push_mark_arrow.Goals as goal

-- a takeover of a place
pub returns-in-Carries : goal.returns-in-Carries
returns-in-Carries c =
    subst (λ mark. OnOk c.push_takeover.result (c.push_takeover.new.text.items ≡ c.args.text.now.items ++ mark_arrow c.args.x c.args.source c.args.target mark))
    (sym c.in-Carries.is) c.push_takeover.ensures
