-- Options and tests by their parts.
use Rattle.std.proofs.Common.{◌≡◌, ◌∙◌, Bool, true, false, not, ◌||◌, ◌&&◌, Option, Some, None, is_some, is_none, refl, sym, ap}
use Rattle.std.proofs.lemmas.Bool.{both_ways}

abbrev pub or_else : {A : Type 0} → A → Option A → A
or_else d None = d
or_else d (Some a) = a

-- what is there is one
pub some_same : {A : Type 0} {a b : A} → Some a ≡ Some b → a ≡ b
some_same {A} {a = a} e = ap (λ (o : Option A). or_else a o) e

-- and is not missing
pub not_both : {A : Type 0} {a : A} {o : Option A} → o ≡ None → o ≡ Some a → ⊥
not_both {A} e f = both_ways false refl (ap (λ (o : Option A). is_some o) (sym e ∙ f))

pub none_of : {A : Type 0} (o : Option A) → is_none o ≡ true → o ≡ None
none_of None h = refl
none_of (Some a) h = absurd (both_ways false refl h)

pub some_of : {A : Type 0} (o : Option A) → is_some o ≡ true → (a : A) × (o ≡ Some a)
some_of None h = absurd (both_ways false refl h)
some_of (Some a) h = (a, refl)

-- one of two tests is passed
pub or_left : (a b : Bool) → a ≡ true → (a || b) ≡ true
or_left true b h = refl
or_left false b h = absurd (both_ways false refl h)

pub or_right : (a b : Bool) → b ≡ true → (a || b) ≡ true
or_right true b h = refl
or_right false b h = h

-- three tests
pub and_group : (a b c : Bool) → (a && (b && c)) ≡ ((a && b) && c)
and_group true b c = refl
and_group false b c = refl

pub and_true : (a : Bool) → (a && true) ≡ a
and_true true = refl
and_true false = refl

pub not_true : (a : Bool) → not a ≡ true → a ≡ false
not_true true h = absurd (both_ways false refl h)
not_true false h = refl

pub not_false : (a : Bool) → not a ≡ false → a ≡ true
not_false true h = refl
not_false false h = absurd (both_ways true h refl)
