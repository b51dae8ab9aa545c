-- Lists of words after a padding, and parts of them.
use Rattle.std.proofs.Common.{◌≡◌, ℕ, zero, suc, ◌+◌, ◌<◌, ◌≤◌, List, [], ◌∷◌, ◌++◌, length, take, drop, get_or, set, sym, refl, ap, ◌∙◌, arith}
use Rattle.std.specs.Prelude.{slice_index, slice_set}
use Rattle.std.proofs.lemmas.List.{get_or-drop, drop-set-add}
use mathlib.Core.Option.{some, some-injective, some-ne-none}
use lib.ListN.{get_elem?}

-- a word after the padding
pub behind : (n : ℕ) (ws : List ℕ) (i : ℕ) → slice_index (drop n ws) i ≡ slice_index ws (n + i)
behind n ws i = get_or-drop n ws i 0

pub set_behind : (n : ℕ) (ws : List ℕ) (i w : ℕ) → drop n (slice_set ws (n + i) w) ≡ slice_set (drop n ws) i w
set_behind n ws i w = drop-set-add n ws i w

here : (ws : List ℕ) (i w : ℕ) → get_elem? ws i ≡ some w → slice_index ws i ≡ w
here [] i w e = absurd (some-ne-none w (sym e))
here (x ∷ ws) zero w e = some-injective x w e
here (x ∷ ws) (suc i) w e = here ws i w e

pub found_behind : (n : ℕ) (ws : List ℕ) (i w : ℕ) → get_elem? ws (n + i) ≡ some w → w ≡ slice_index (drop n ws) i
found_behind n ws i w e = sym (behind n ws i ∙ here ws (n + i) w e)

-- one word more of a part
next : (ws : List ℕ) (i : ℕ) → i < length ws → take (suc i) ws ≡ take i ws ++ slice_index ws i ∷ []
next [] i less = absurd (omega (arith, less))
next (w ∷ ws) zero less = refl
next (w ∷ ws) (suc i) less = ap (λ (l : List ℕ). w ∷ l) (next ws i (omega (arith, less)))

pub part_more : (ws : List ℕ) (start i : ℕ) → i < length (drop start ws) → take (i + 1) (drop start ws) ≡ take i (drop start ws) ++ slice_index ws (start + i) ∷ []
part_more ws start i less =
    ap (λ (n : ℕ). take n (drop start ws)) (let e : i + 1 ≡ suc i = omega arith in e)
    ∙ next (drop start ws) i less
    ∙ ap (λ (w : ℕ). take i (drop start ws) ++ w ∷ []) (behind start ws i)

-- a word more after the padding, and none
pub drop_more : (n : ℕ) (ws : List ℕ) (w : ℕ) → n ≤ length ws → drop n (ws ++ w ∷ []) ≡ drop n ws ++ w ∷ []
drop_more zero ws w few = refl
drop_more (suc n) [] w few = absurd (omega (arith, few))
drop_more (suc n) (x ∷ ws) w few = drop_more n ws w (omega (arith, few))

pub drop_all : (n : ℕ) (ws : List ℕ) → length ws ≤ n → drop n ws ≡ []
drop_all zero [] few = refl
drop_all zero (x ∷ ws) few = absurd (omega (arith, few))
drop_all (suc n) [] few = refl
drop_all (suc n) (x ∷ ws) few = drop_all n ws (omega (arith, few))
