-- The slot of a name, name by name.
use Rattle.std.proofs.Common.{◌≡◌, ◌↔◌, ◌<◌, ◌≤◌, ◌+◌, ℕ, suc, arith, not, Bool, true, false, IsTrue, List, drop, length, get_or, refl, sym, ap, ◌∙◌}
use Rattle.std.specs.Bool.{if◌then◌else◌}
use Rattle.std.specs.Str.{bytes_eq}
use Rattle.ppm_cut_bounds.proofs.Blocks.{ahead}
use Rattle.ppm_cut_bounds.proofs.Members.{test_is}
use Rattle.std.proofs.lemmas.List.Filters.{length-filter_both}
use Rattle.std.specs.Set.{is_member}
use Rattle.ppm_tree.specs.Tree.{Block}
use Rattle.ppm_cut_bounds.specs.Names.{free_names}
use Rattle.ppm_cut_code.specs.Layout.{Layout, slot_of, caught}

module _ (xs : List (List ℕ)) (k : ℕ) (x q : List ℕ) (in' : k < length xs) (at : x ≡ get_or xs k x) (y : List ℕ) (same : y ≡ x)
    (b : Bool) (is : IsTrue b ↔ (y ≡ q)) where
  slot_ahead : slot_of (drop k xs) q ≡ (if b then 0 else suc (slot_of (drop (k + 1) xs) q))
  slot_ahead = ap (λ l. slot_of l q) (ahead xs k x in' at) ∙ ap (λ c. if c then 0 else suc (slot_of (drop (k + 1) xs) q)) (ap (λ z. bytes_eq z q) (sym same) ∙ sym (test_is b y q is))

  pub slot_here : b ≡ true → slot_of (drop k xs) q ≡ 0
  slot_here e = slot_ahead ∙ ap (λ c. if c then 0 else suc (slot_of (drop (k + 1) xs) q)) e

  pub slot_later : b ≡ false → slot_of (drop k xs) q ≡ suc (slot_of (drop (k + 1) xs) q)
  slot_later e = slot_ahead ∙ ap (λ c. if c then 0 else suc (slot_of (drop (k + 1) xs) q)) e

-- no more names are caught than there are
pub caught_few : (layout : Layout) (block : Block) → length (caught layout block) ≤ length layout
caught_few layout block =
    let p = is_member bytes_eq (free_names block) in
    let both = length-filter_both p (λ x. not (p x)) (λ x. refl) layout in
    omega (arith, both)
