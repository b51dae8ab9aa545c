use Rattle.std.proofs.Common.{ap, subst, sym}
use Rattle.ppm_regions.specs.Kept.{AreWithin, Kept}
use Rattle.ppm_regions.proofs.KeptLemmas.{places_take, within_both}
use Rattle.ppm_regions.proofs.scope.Scope.truncate.Goals as goal

-- the first of a name stays the first
pub invariant_of-self : goal.invariant_of-self
invariant_of-self c =
    let items = c.self.inside.items.items in
    let veils = c.self.inside.veils.items in
    let below = subst (AreWithin c.args.count) (ap (λ (k : Kept). k.veils) (sym c.self.view_is)) c.requires.within in
    rw c.truncate.ensures.items
    (places_take c.self.inside.places c.args.count items c.self.invariant.0, within_both c.args.count items veils below c.self.invariant.1)
