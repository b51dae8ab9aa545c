use Rattle.std.proofs.Common.{◌∙◌, sym, ap, refl}
use Rattle.ppm_tree.specs.Tree.{block_of}
use Rattle.ppm_cut_bounds.specs.Sought.{has_each}
use Rattle.ppm_cut_bounds.proofs.NoEach.{none_keeps}
use Rattle.ppm_cut_bounds.proofs.eaches.keeps.Goals as goal

-- it has no `each`
pub returns-then-not-has_each : goal.returns-then-not-has_each
returns-then-not-has_each c =
    let none = sym (ap has_each (ap block_of c.deref.ensures.value)) ∙ sym c.has_each.ensures ∙ c.if-not-has_each.true in
    (λ t. record { own = c.own_keeps.ensures.0 c.if-not-own_keeps.false; hidden = none_keeps c.args.bound _ none }, λ k. refl)
