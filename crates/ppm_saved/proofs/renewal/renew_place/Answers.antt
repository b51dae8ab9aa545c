use Rattle.std.proofs.Common.{◌≡◌, ◌∙◌, ◌+◌, ℕ, List, sym, ap, subst}
use Rattle.ppm_cells.specs.Holder.{holder_word, holder_of}
use Rattle.ppm_cells.specs.Memory.{write}
use Rattle.ppm_cells.specs.declared.cell.Cell.TheVariants.{CarryWord, DeadWord, HolderWord}
use Rattle.ppm_saved.specs.Renewal.{holder_behind, AreRenewedBelow}
use Rattle.ppm_saved.proofs.RenewalLemmas.{place_renewed}
use Rattle.ppm_saved.proofs.renewal.renew_place.Goals as goal

-- by its three stores
pub returns : goal.returns
returns c = λ saved before.
    let s = c.args.shape.now in
    let p = c.args.place in
    let old = c.args.words.now.items in
    let carried : List ℕ = write s old (CarryWord p) p in
    let alive : List ℕ = write s carried (DeadWord p) 0 in
    let holder = c.next_holder-holder.ensures ∙ ap (λ w. holder_word (holder_behind p (holder_of w))) c.get.ensures in
    let first : c.put.new.words.items ≡ carried = c.put.ensures ∙ ap (λ w. write s old (CarryWord p) w) c.from.ensures in
    let second : c.put-2.new.words.items ≡ alive = c.put-2.ensures ∙ ap (λ ws. write s ws (DeadWord p) 0) first in
    let third = c.put-3.ensures ∙ ap (λ ws. write s ws (HolderWord p) c.next_holder-holder.result) second
    ∙ ap (λ w. write s alive (HolderWord p) w) holder in
    subst (λ ws. AreRenewedBelow s saved (p + 1) ws) (sym third) (place_renewed s saved old p c.requires.place before)
