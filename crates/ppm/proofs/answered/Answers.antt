use Rattle.std.proofs.Common.{refl, sym, subst}
use Rattle.ppm.specs.Ending.{AreWords}
use Rattle.ppm.proofs.SilentLemmas.{are_silent, ends_answered}
use Rattle.ppm.proofs.answered.Goals as goal

-- the words were answered, with watchers of which nothing is known
pub returns-in-Ok : goal.returns-in-Ok
returns-in-Ok g c =
    ends_answered c.args.given _ _ _ _ _ _ _ _ (are_silent _ _ c.in-Ok.ensures.watchers) (are_silent _ _ c.ppm.ensures.watchers)
    (subst (AreWords c.args.given) (sym c.deref.ensures.value) c.in-Ok.ensures.words) c.ppm.ensures.answers c.ppm.ensures.rows refl
