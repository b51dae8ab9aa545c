-- Locations are one or two; a location is in a list or not; the words after a store.
use Rattle.std.proofs.Common.{◌≡◌, ℕ, Bool, true, false, List, [], ◌∷◌, ◌⊎◌, inl, inr, refl, sym, ◌∙◌, subst}
use Rattle.std.proofs.lemmas.Bool.{cond-false, cond-true}
use Rattle.ppm_strands.specs.Capsule.{Equality, Memory, In, AgreeOn, is_in, store}

-- a test comes out one way
true_or_false : (b : Bool) → (b ≡ true) ⊎ (b ≡ false)
true_or_false true = inl refl
true_or_false false = inr refl

true_is_not_false : true ≡ false → ⊥
true_is_not_false h = cc

module _ {L : Type 0} (eq : Equality L) where
  -- one location, or two
  pub decide : (a b : L) → (a ≡ b) ⊎ ((a ≡ b → ⊥) × (eq.same a b ≡ false))
  decide a b = elim (true_or_false (eq.same a b)) [
    | inl h ↦ inl (eq.is_one a b h)
    | inr h ↦ inr (λ e. true_is_not_false (sym (subst (λ (c : L). eq.same a c ≡ true) e (eq.is_self a)) ∙ h), h)
  ]

  -- the word that is stored, and the others
  pub store_at : (m : Memory L) (l : L) (v : ℕ) → store eq m l v l ≡ v
  store_at m l v = cond-true (eq.same l l) v (m l) (eq.is_self l)

  pub store_else : (m : Memory L) (l : L) (v : ℕ) (k : L) → eq.same k l ≡ false → store eq m l v k ≡ m k
  store_else m l v k ne = cond-false (eq.same k l) v (m k) ne

  -- in a list, or not
  pub in_or_not : (l : L) (ls : List L) → (In l ls × (is_in eq l ls ≡ true)) ⊎ ((In l ls → ⊥) × (is_in eq l ls ≡ false))
  in_or_not l [] = inr (λ h. h, refl)
  in_or_not l (k ∷ ls) = elim (decide l k) [
    | inl e ↦ inl (inl e, cond-true (eq.same l k) true (is_in eq l ls) (subst (λ (j : L). eq.same l j ≡ true) e (eq.is_self l)))
    | inr ne ↦ elim (in_or_not l ls) [
      | inl h ↦ inl (inr h.0, cond-false (eq.same l k) true (is_in eq l ls) ne.1 ∙ h.1)
      | inr h ↦ inr (λ i. elim i [ inl e ↦ ne.0 e | inr j ↦ h.0 j ], cond-false (eq.same l k) true (is_in eq l ls) ne.1 ∙ h.1)
    ]
  ]

  -- words that were the same at a location are so after the same store
  pub store_same : (m n : Memory L) (l : L) (v : ℕ) (k : L) → n k ≡ m k → store eq n l v k ≡ store eq m l v k
  store_same m n l v k e = elim (decide k l) [
    | inl i ↦ subst (λ (j : L). store eq n l v j ≡ store eq m l v j) (sym i) (store_at n l v ∙ sym (store_at m l v))
    | inr ne ↦ store_else n l v k ne.1 ∙ e ∙ sym (store_else m l v k ne.1)
  ]

  -- and at the location that is stored, whatever they were
  pub agree_store : (w : List L) (m n : Memory L) (l : L) (v : ℕ) → AgreeOn w m n → AgreeOn (l ∷ w) (store eq m l v) (store eq n l v)
  agree_store w m n l v h k (inl e) = subst (λ (j : L). store eq n l v j ≡ store eq m l v j) (sym e) (store_at n l v ∙ sym (store_at m l v))
  agree_store w m n l v h k (inr i) = store_same m n l v k (h k i)
