use Rattle.std.proofs.Common.{◌∙◌, ap, map, refl}
use Rattle.ppm_listing_reader.specs.Outlines.{blank}
use Rattle.ppm_listing_reader.proofs.OutlineLemmas.{head_longer}
use Rattle.ppm_listing_reader.proofs.outline.lengthen.Goals as goal

-- the last head comes back with one line more
pub returns-in_ok-push-in-Some : goal.returns-in_ok-push-in-Some
returns-in_ok-push-in-Some c =
    ap (map blank) c.in_ok-push-in-Some.ensures.items
    ∙ head_longer c.args.heads.now.items c.pop.new.self.items c.in-Some.head _ c.in-Some.ensures.items refl refl
