-- Own words of two tries of a capsule: the same where nothing is kept, and where both have kept them.
use Rattle.std.proofs.Common.{◌≡◌, ℕ, cond, Bool, true, false, List, ◌∷◌, ◌⊎◌, inl, inr, sym, ap, ◌∙◌, subst}
use Rattle.std.proofs.lemmas.Bool.{cases_Bool, cond-false, cond-true, true≢false}
use Rattle.ppm_strands.specs.Capsule.{Equality, Memory, In, store}

-- own words that agree where w were kept
abbrev pub AreSameOn : {A : Type 0} → List A → Memory A → Memory A → Type 0
AreSameOn {A} w q f = (x : A) → In x w → q x ≡ f x

-- own words that agree where nothing is kept
abbrev pub AreSameOff : {A : Type 0} → (A → Bool) → Memory A → Memory A → Type 0
AreSameOff {A} out o f = (x : A) → out x ≡ false → f x ≡ o x

module _ {A : Type 0} (eq : Equality A) where
  -- what differs is tested to differ
  pub ne_same : (x y : A) → (x ≡ y → ⊥) → eq.same x y ≡ false
  ne_same x y ne = elim (cases_Bool (eq.same x y)) [
    | inl is ↦ absurd (ne (eq.is_one x y is))
    | inr isnt ↦ isnt
  ]

  -- what is one is tested to be one
  pub eq_same : (x y : A) → x ≡ y → eq.same x y ≡ true
  eq_same x y e = subst (λ (z : A). eq.same x z ≡ true) e (eq.is_self x)

  -- the word there is what was stored
  pub store_at : (f : Memory A) (x : A) (v : ℕ) (y : A) → y ≡ x → store eq f x v y ≡ v
  store_at f x v y e = cond-true (eq.same y x) v (f y) (eq_same y x e)

  -- and each other word stays
  pub store_else : (f : Memory A) (x : A) (v : ℕ) (y : A) → (y ≡ x → ⊥) → store eq f x v y ≡ f y
  store_else f x v y ne = cond-false (eq.same y x) v (f y) (ne_same y x ne)

  -- what both keep is the same then
  pub store_same_on : (w : List A) (q f : Memory A) (x : A) (v : ℕ) → AreSameOn w q f → AreSameOn (x ∷ w) (store eq q x v) (store eq f x v)
  store_same_on w q f x v h y (inl e) = store_at q x v y e ∙ sym (store_at f x v y e)
  store_same_on w q f x v h y (inr i) = ap (λ (u : ℕ). cond (eq.same y x) v u) (h y i)

  -- what is kept changes nothing where nothing is kept
  pub store_same_off : (out : A → Bool) (o f : Memory A) (x : A) (v : ℕ) → out x ≡ true → AreSameOff out o f → AreSameOff out o (store eq f x v)
  store_same_off out o f x v is h y off =
      store_else f x v y (λ e. true≢false (sym is ∙ ap out (sym e) ∙ off)) ∙ h y off

-- an own word that may be loaded is the same
pub found : {A : Type 0} (out : A → Bool) (o q f : Memory A) (w : List A) (x : A) → AreSameOff out o q → AreSameOff out o f → AreSameOn w q f
    → (out x ≡ false) ⊎ In x w → q x ≡ f x
found out o q f w x hq hf h (inl off) = hq x off ∙ sym (hf x off)
found out o q f w x hq hf h (inr i) = h x i
