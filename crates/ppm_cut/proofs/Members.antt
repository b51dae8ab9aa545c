-- Whether a name is one of those that a block names of outside.
use Rattle.std.proofs.Common.{◌≡◌, ◌↔◌, ◌||◌, ◌&&◌, not, Bool, true, false, ℕ, IsTrue, List, [], ◌∷◌, ◌++◌, refl, sym, ap, ◌∙◌}
use Rattle.std.specs.Str.{bytes_eq}
use Rattle.ppm_tree.specs.Tree.{Statement, Block, Then}
use Rattle.ppm_cut_bounds.specs.Names.{without, used_by, free_within, free_names, lets_of}
use Rattle.ppm_cut_bounds.specs.Catching.{has}
use Rattle.ppm_cut_bounds.proofs.Members.{has-append, has-without, test_is}

module _ (x y q : List ℕ) (from : List (List ℕ)) where
  split : has (without (x ∷ y ∷ []) from) q ≡ (has from q && not (bytes_eq q x || (bytes_eq q y || false)))
  split = has-without (x ∷ y ∷ []) from q

  none : (a c : Bool) → (a && not (true || c)) ≡ false
  none true c = refl
  none false c = refl

  last : (a b : Bool) → (a && not (b || true)) ≡ false
  last true true = refl
  last true false = refl
  last false b = refl

  all : (a : Bool) → (a && not (false || (false || false))) ≡ a
  all true = refl
  all false = refl

  -- the name is declared first, or second
  pub under_first : (b : Bool) → (IsTrue b ↔ (q ≡ x)) → b ≡ true → false ≡ has (without (x ∷ y ∷ []) from) q
  under_first b is e =
      sym (split ∙ ap (λ w. has from q && not (w || (bytes_eq q y || false))) (sym (test_is b q x is) ∙ e) ∙ none (has from q) (bytes_eq q y || false))

  pub under_second : (b : Bool) → (IsTrue b ↔ (q ≡ y)) → b ≡ true → false ≡ has (without (x ∷ y ∷ []) from) q
  under_second b is e =
      sym (split ∙ ap (λ w. has from q && not (bytes_eq q x || (w || false))) (sym (test_is b q y is) ∙ e) ∙ last (has from q) (bytes_eq q x))

  -- or neither
  pub under_neither : (b c : Bool) → (IsTrue b ↔ (q ≡ x)) → b ≡ false → (IsTrue c ↔ (q ≡ y)) → c ≡ false → has from q ≡ has (without (x ∷ y ∷ []) from) q
  under_neither b c is e js f =
      sym (split ∙ ap (λ w. has from q && not (w || (bytes_eq q y || false))) (sym (test_is b q x is) ∙ e)
      ∙ ap (λ w. has from q && not (false || (w || false))) (sym (test_is c q y js) ∙ f) ∙ all (has from q))

-- a name of the first of two lists, or only of the second
pub in_first : (xs ys : List (List ℕ)) (q : List ℕ) → has xs q ≡ true → true ≡ has (xs ++ ys) q
in_first xs ys q e = sym (has-append xs ys q ∙ ap (λ w. w || has ys q) e)

pub in_second : (xs ys : List (List ℕ)) (q : List ℕ) → has xs q ≡ false → has ys q ≡ has (xs ++ ys) q
in_second xs ys q e = sym (has-append xs ys q ∙ ap (λ w. w || has ys q) e)

-- a name that is another
pub not_name : (b : Bool) (q x : List ℕ) → (IsTrue b ↔ (q ≡ x)) → b ≡ false → has (x ∷ []) q ≡ false
not_name b q x is e = ap (λ w. w || false) (sym (test_is b q x is) ∙ e)

-- in a block: it is used by the first statement, or within, or declared there, or else it is as it is after that
module _ (block : Block) (s : Statement) (rest : Block) (q : List ℕ) (is : block ≡ Then s rest) where
  parts : has (free_names block) q ≡ ((has (used_by s) q || has (free_within s) q) || (has (free_names rest) q && not (has (lets_of s) q)))
  parts =
      ap (λ b. has (free_names b) q) is ∙ has-append (used_by s ++ free_within s) (without (lets_of s) (free_names rest)) q
      ∙ ap (λ w. w || has (without (lets_of s) (free_names rest)) q) (has-append (used_by s) (free_within s) q)
      ∙ ap (λ w. (has (used_by s) q || has (free_within s) q) || w) (has-without (lets_of s) (free_names rest) q)

  pub here_used : has (used_by s) q ≡ true → has (free_names block) q ≡ true
  here_used e = parts ∙ ap (λ w. (w || has (free_within s) q) || (has (free_names rest) q && not (has (lets_of s) q))) e

  either : (a : Bool) (c : Bool) → ((a || true) || c) ≡ true
  either true c = refl
  either false c = refl

  pub here_within : has (free_within s) q ≡ true → has (free_names block) q ≡ true
  here_within e = parts ∙ ap (λ w. (has (used_by s) q || w) || (has (free_names rest) q && not (has (lets_of s) q))) e ∙ either (has (used_by s) q) _

  neither : has (used_by s) q ≡ false → has (free_within s) q ≡ false → has (free_names block) q ≡ (has (free_names rest) q && not (has (lets_of s) q))
  neither e f =
      parts ∙ ap (λ w. (w || has (free_within s) q) || (has (free_names rest) q && not (has (lets_of s) q))) e
      ∙ ap (λ w. (false || w) || (has (free_names rest) q && not (has (lets_of s) q))) f

  hides : (a : Bool) → (a && not true) ≡ false
  hides true = refl
  hides false = refl

  keeps : (a : Bool) → (a && not false) ≡ a
  keeps true = refl
  keeps false = refl

  pub here_let : has (used_by s) q ≡ false → has (free_within s) q ≡ false → has (lets_of s) q ≡ true → has (free_names block) q ≡ false
  here_let e f g = neither e f ∙ ap (λ w. has (free_names rest) q && not w) g ∙ hides (has (free_names rest) q)

  pub later : has (used_by s) q ≡ false → has (free_within s) q ≡ false → has (lets_of s) q ≡ false → has (free_names block) q ≡ has (free_names rest) q
  later e f g = neither e f ∙ ap (λ w. has (free_names rest) q && not w) g ∙ keeps (has (free_names rest) q)
