-- The declaration of a name, in longer scopes and in those of blocks.
use Rattle.std.proofs.Common.{◌≡◌, ◌≢◌, ◌⊎◌, inl, inr, cond, Bool, true, false, ℕ, List, [], ◌∷◌, ◌++◌, Option, Some, None, map, refl, sym, ap, ◌∙◌}
use Rattle.std.specs.Str.{bytes_eq}
use Rattle.std.proofs.lemmas.Slice.Eq.{bytes_eq-Decides}
use Rattle.std.specs.Option.{option_map}
use Rattle.ppm_regions.specs.Scope.{Declaration, Scope, declared}

pub names_same : (x y : List ℕ) → x ≡ y → bytes_eq x y ≡ true
names_same x y e = (bytes_eq-Decides x y).1 e

pub same_names : (x y : List ℕ) → bytes_eq x y ≡ true → x ≡ y
same_names x y e = (bytes_eq-Decides x y).0 e

pub other_names : (x y : List ℕ) → bytes_eq x y ≡ false → x ≢ y
other_names x y e same = let t = names_same x y same in cc

pub names_other : (x y : List ℕ) → x ≢ y → bytes_eq x y ≡ false
names_other x y h = go (bytes_eq x y) refl
  where
    go : (b : Bool) → bytes_eq x y ≡ b → bytes_eq x y ≡ false
    go true e = absurd (h (same_names x y e))
    go false e = e

-- something is found or nothing is
pub found_cases : {A : Type 0} (o : Option A) → (o ≡ None) ⊎ ((x : A) × (o ≡ Some x))
found_cases None = inl refl
found_cases (Some x) = inr (x, refl)

pub none_and_some : {A : Type 0} {o : Option A} {x : A} → o ≡ None → o ≡ Some x → ⊥
none_and_some p q = cc

pub some_same : {A : Type 0} {o : Option A} {x y : A} → o ≡ Some x → o ≡ Some y → x ≡ y
some_same p q = cc

module _ (x : List ℕ) where
  pub declared_in_front : (scope more : Scope) (d : Declaration) → declared scope x ≡ Some d → declared (scope ++ more) x ≡ Some d
  declared_in_front [] more d h = absurd (cc)
  declared_in_front (c ∷ scope) more d h = go (declared_in_front scope more d) (bytes_eq c.name.name x) h
    where
      go : (declared scope x ≡ Some d → declared (scope ++ more) x ≡ Some d) → (b : Bool) → cond b (Some c) (declared scope x) ≡ Some d
          → cond b (Some c) (declared (scope ++ more) x) ≡ Some d
      go on true h = h
      go on false h = on h

  pub declared_behind : (scope more : Scope) → declared scope x ≡ None → declared (scope ++ more) x ≡ declared more x
  declared_behind [] more h = refl
  declared_behind (c ∷ scope) more h = go (declared_behind scope more) (bytes_eq c.name.name x) h
    where
      go : (declared scope x ≡ None → declared (scope ++ more) x ≡ declared more x) → (b : Bool) → cond b (Some c) (declared scope x) ≡ None
          → cond b (Some c) (declared (scope ++ more) x) ≡ declared more x
      go on true h = absurd (none_and_some h refl)
      go on false h = on h

  -- what is declared has the name
  pub declared_name : (scope : Scope) (d : Declaration) → declared scope x ≡ Some d → d.name.name ≡ x
  declared_name [] d h = absurd (cc)
  declared_name (c ∷ scope) d h = go (declared_name scope d) (bytes_eq c.name.name x) refl h
    where
      go : (declared scope x ≡ Some d → d.name.name ≡ x) → (b : Bool) → bytes_eq c.name.name x ≡ b → cond b (Some c) (declared scope x) ≡ Some d
          → d.name.name ≡ x
      go on true e h = ap (λ (d : Declaration). d.name.name) (sym (some_same {o = Some c} refl h)) ∙ same_names c.name.name x e
      go on false e h = on h

  -- in the image of a scope under what keeps the names, a declaration is the image of one
  pub declared_map : (g : Declaration → Declaration) → ((d : Declaration) → (g d).name.name ≡ d.name.name) → (scope : Scope)
      → declared (map g scope) x ≡ option_map g (declared scope x)
  declared_map g same [] = refl
  declared_map g same (c ∷ scope) =
      ap (λ (n : List ℕ). cond (bytes_eq n x) (Some (g c)) (declared (map g scope) x)) (same c) ∙ go (declared_map g same scope) (bytes_eq c.name.name x)
    where
      go : declared (map g scope) x ≡ option_map g (declared scope x) → (b : Bool)
          → cond b (Some (g c)) (declared (map g scope) x) ≡ option_map g (cond b (Some c) (declared scope x))
      go on true = refl
      go on false = on

-- an image is the image of something
pub image_of : {A B : Type 0} (g : A → B) (o : Option A) (y : B) → option_map g o ≡ Some y → (x : A) × (o ≡ Some x) × (g x ≡ y)
image_of g None y h = absurd (none_and_some refl h)
image_of g (Some x) y h = (x, refl, some_same {o = Some (g x)} refl h)
