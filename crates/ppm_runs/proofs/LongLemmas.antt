-- Lists of blocks that have the same ones, none twice, are as long.
use Rattle.std.proofs.Common.{◌≡◌, ℕ, Bool, true, false, ◌||◌, if◌then◌else◌, List, [], ◌∷◌, length, refl, sym, ap, ◌∙◌}
use Rattle.std.specs.Prelude.{nat_eq}
use Rattle.std.specs.List.{AllByRecursion, IsDistinct, list_any}
use Rattle.std.proofs.lemmas.Bool.{both_ways}
use Rattle.std.proofs.lemmas.Cmp.{nat_eq_equiv}
use Rattle.std.proofs.lemmas.Map.Made.{length-from_same_keys}
use Rattle.ppm_tickets.specs.Homes.{Once}
use Rattle.ppm_tickets.specs.Words.{has}

-- a list has a number as std says it
first_or : (b c : Bool) → (b || c) ≡ (if b then true else c)
first_or true c = refl
first_or false c = refl

member_is : (l : List ℕ) (r : ℕ) → list_any (nat_eq r) l ≡ has l r
member_is [] r = refl
member_is (x ∷ l) r =
    first_or (nat_eq r x) (list_any (nat_eq r) l) ∙ ap (λ (b : Bool). if b then true else list_any (nat_eq r) l) (nat_eq_equiv.symm r x)
    ∙ ap (λ (c : Bool). if nat_eq x r then true else c) (member_is l r)

apart : (l : List ℕ) (x : ℕ) → has l x ≡ false → AllByRecursion (λ y. nat_eq x y ≡ false) l
apart [] x h = tt
apart (y ∷ l) x h = go (nat_eq y x) refl h (apart l x)
  where
    go : (b : Bool) → nat_eq y x ≡ b → (if b then true else has l x) ≡ false
        → (has l x ≡ false → AllByRecursion (λ z. nat_eq x z ≡ false) l) → AllByRecursion (λ z. nat_eq x z ≡ false) (y ∷ l)
    go true e k more = absurd (both_ways true k refl)
    go false e k more = (nat_eq_equiv.symm x y ∙ e, more k)

distinct : (l : List ℕ) → Once l → IsDistinct nat_eq l
unfolding IsDistinct
distinct [] once = tt
distinct (x ∷ l) once = (apart l x once.0, distinct l once.1)

pub as_long : (a b : List ℕ) → Once a → Once b → ((r : ℕ) → has a r ≡ has b r) → length a ≡ length b
as_long a b one other same =
    length-from_same_keys nat_eq_equiv a b (distinct a one) (distinct b other) (λ r. member_is a r ∙ same r ∙ sym (member_is b r))
