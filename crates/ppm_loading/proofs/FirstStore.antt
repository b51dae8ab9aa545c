-- A code has one first store that is not tidy.
use Rattle.std.proofs.Common.{◌≡◌, ◌<◌, ℕ, List, length, sym, ◌∙◌, ap, subst, arith}
use Rattle.ppm_words.specs.declared.named_array.NamedArray.{NamedArray}
use Rattle.ppm_code.specs.declared.code.CodeParts.{CodeParts}
use Rattle.ppm_code.specs.Strands.{instrs_of}
use Rattle.ppm_code.specs.Tidy.{IsTidy}
use Rattle.ppm_war.specs.declared.untidy_store.UntidyStore.{UntidyStore}
use Rattle.ppm_war.specs.Untidy.{IsFirstUntidyOf, IsUntidyAt}
use Rattle.ppm_war.proofs.UntidyLemmas.{not_tidy}
use Rattle.ppm_answers.specs.declared.case.UntidyStore.{UntidyStore as ToldStore}
use Rattle.ppm_loading.specs.Telling.{IsUntidy, store_told}

same_number : (m n : ℕ) → (m < n → ⊥) → (n < m → ⊥) → m ≡ n
same_number m n f g = omega (arith, f, g)

-- a store by its parts
store_path : (s t : UntidyStore) → s.capsule ≡ t.capsule → s.at ≡ t.at → s ≡ t
store_path s t capsule at = λ i. record { capsule = capsule i; at = at i }

module _ (code : CodeParts) where
  -- the store that is first is not tidy
  is_untidy : (s : UntidyStore) → IsFirstUntidyOf code s → IsUntidyAt code (instrs_of code s.capsule) s.at
  is_untidy s f = f.first.first.untidy

  -- of two first stores neither is in an earlier capsule
  not_earlier : (s t : UntidyStore) → IsFirstUntidyOf code s → IsFirstUntidyOf code t → t.capsule < s.capsule → ⊥
  not_earlier s t f g less = let u = is_untidy t g in u.untidy (f.earlier t.capsule less t.at u.word u.from u.stores)

  -- nor, in one capsule, before the other
  not_before : (s t : UntidyStore) → IsFirstUntidyOf code s → IsFirstUntidyOf code t → s.capsule ≡ t.capsule → t.at < s.at → ⊥
  not_before s t f g same less =
      let u = subst (λ n. IsUntidyAt code (instrs_of code n) t.at) (sym same) (is_untidy t g) in
      u.untidy (f.first.first.earlier t.at less u.word u.from u.stores)

  one_store : (s t : UntidyStore) → IsFirstUntidyOf code s → IsFirstUntidyOf code t → s ≡ t
  one_store s t f g =
      let capsule : s.capsule ≡ t.capsule = same_number s.capsule t.capsule (not_earlier t s g f) (not_earlier s t f g) in
      store_path s t capsule (same_number s.at t.at (not_before t s g f (sym capsule)) (not_before s t f g capsule))

  module _ (input : List NamedArray) where
    -- two that are told are one
    pub one_told : (s t : ToldStore) → IsUntidy code input s → IsUntidy code input t → s ≡ t
    one_told s t f g = f.tells ∙ ap (store_told (length input) code) (one_store f.store g.store f.first g.first) ∙ sym g.tells

    -- a tidy code has none
    pub none_told : (s : ToldStore) → IsUntidy code input s → IsTidy code → ⊥
    none_told s f tidy = not_tidy code f.store f.first tidy
