-- Whether a name is one of a list.
use Rattle.std.proofs.Common.{◌≡◌, ◌↔◌, ◌<◌, ◌+◌, ◌||◌, ◌&&◌, not, Bool, true, false, ℕ, IsTrue, List, ◌++◌, drop, length, get_or, refl, sym, ap, ◌∙◌}
use Rattle.std.specs.Str.{bytes_eq}
use Rattle.std.specs.Cmp.{IsEquivalence}
use Rattle.std.proofs.lemmas.List.Folds.{list_any-append}
use Rattle.std.proofs.lemmas.Map.Made.{is_member-filter}
use Rattle.std.proofs.lemmas.Slice.Eq.{bytes_eq-Decides}
use Rattle.ppm_cut_bounds.specs.Names.{without}
use Rattle.ppm_cut_bounds.specs.Catching.{has}
use Rattle.ppm_cut_bounds.proofs.Blocks.{ahead}

pub same_bytes : (x y : List ℕ) → bytes_eq x y ≡ true → x ≡ y
same_bytes x y e = (bytes_eq-Decides x y).0 e

bytes_same : (x y : List ℕ) → x ≡ y → bytes_eq x y ≡ true
bytes_same x y e = (bytes_eq-Decides x y).1 e

-- two tests of which each is so where the other is
alike : (a b : Bool) → (a ≡ true → b ≡ true) → (b ≡ true → a ≡ true) → a ≡ b
alike true b f g = sym (f refl)
alike false true f g = g refl
alike false false f g = refl

-- what a test of two names answers
pub test_is : (b : Bool) (x y : List ℕ) → (IsTrue b ↔ (x ≡ y)) → b ≡ bytes_eq x y
test_is b x y h = alike b (bytes_eq x y) (λ e. bytes_same x y (h.0 e)) (λ e. h.1 (same_bytes x y e))

pub bytes_laws : IsEquivalence bytes_eq
bytes_laws = record {
  refl = λ x. bytes_same x x refl;
  symm = λ x y. alike (bytes_eq x y) (bytes_eq y x) (λ e. bytes_same y x (sym (same_bytes x y e))) (λ e. bytes_same x y (sym (same_bytes y x e)));
  congr = λ x y z e. ap (λ w. bytes_eq w z) (same_bytes x y e);
}

-- names of which some are left out have the others
pub has-without : (names from : List (List ℕ)) (q : List ℕ) → has (without names from) q ≡ (has from q && not (has names q))
has-without names from q =
    is_member-filter bytes_laws (λ x. not (has names x)) q (λ x e. ap (λ w. not (has names w)) (same_bytes q x e)) from

pub has-append : (xs ys : List (List ℕ)) (q : List ℕ) → has (xs ++ ys) q ≡ (has xs q || has ys q)
has-append xs ys q = list_any-append (bytes_eq q) xs ys

-- a loop over names has come to one that is the name, or isn't
module _ (xs : List (List ℕ)) (k : ℕ) (x q : List ℕ) (in' : k < length xs) (at : x ≡ get_or xs k x) (b : Bool) (is : IsTrue b ↔ (q ≡ x)) where
  has_ahead : has (drop k xs) q ≡ (b || has (drop (k + 1) xs) q)
  has_ahead = ap (λ l. has l q) (ahead xs k x in' at) ∙ ap (λ c. c || has (drop (k + 1) xs) q) (sym (test_is b q x is))

  pub has_here : b ≡ true → has (drop k xs) q ≡ true
  has_here e = has_ahead ∙ ap (λ c. c || has (drop (k + 1) xs) q) e

  pub has_later : b ≡ false → has (drop (k + 1) xs) q ≡ has (drop k xs) q
  has_later e = sym (has_ahead ∙ ap (λ c. c || has (drop (k + 1) xs) q) e)
