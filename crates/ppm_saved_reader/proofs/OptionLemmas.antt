-- Options and pairs by their parts.
use Rattle.std.proofs.Common.{◌≡◌, ◌∙◌, false, Option, Some, None, is_some, refl, sym, ap}
use Rattle.std.proofs.lemmas.Bool.{both_ways}

abbrev pub or_else : {A : Type 0} → A → Option A → A
or_else d None = d
or_else d (Some a) = a

-- what is there is one
pub some_same : {A : Type 0} {a b : A} → Some a ≡ Some b → a ≡ b
some_same {A} {a = a} e = ap (λ (o : Option A). or_else a o) e

pub some_one : {A : Type 0} {a b : A} {o : Option A} → o ≡ Some a → o ≡ Some b → a ≡ b
some_one {A} {a = a} e f = ap (λ (o : Option A). or_else a o) (sym e ∙ f)

-- and is not missing
pub not_both : {A : Type 0} {a : A} {o : Option A} → o ≡ None → o ≡ Some a → ⊥
not_both {A} e f = both_ways false refl (ap (λ (o : Option A). is_some o) (sym e ∙ f))

pub first_part : {A B : Type 0} {a b : A × B} → a ≡ b → a.0 ≡ b.0
first_part {A} {B} e = ap (λ (k : A × B). k.0) e

pub second_part : {A B : Type 0} {a b : A × B} → a ≡ b → a.1 ≡ b.1
second_part {A} {B} e = ap (λ (k : A × B). k.1) e
