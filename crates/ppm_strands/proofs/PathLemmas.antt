-- No conflict on any path is none from any words.
use Rattle.std.proofs.Common.{List, [], ◌∷◌, ◌⊎◌, inl, inr, sym, subst}
use Rattle.std.proofs.lemmas.Bool.{cond-false, cond-true}
use Rattle.ppm_strands.specs.Capsule.{Equality, Capsule, Reads, Writes, Asks, Ends, Memory, In, is_in, store, written, exposed_past}
use Rattle.ppm_strands.specs.Paths.{IsFreePast, IsFreeOnPaths, ReadsOnly, WritesOnly, PathsSayWhere}
use Rattle.ppm_strands.specs.Stopped.{IsConflictFree}
use Rattle.ppm_strands.proofs.LocationLemmas.{in_or_not}

module _ {L E : Type 0} (eq : Equality L) where
  -- a read of what is written already is not exposed
  not_exposed : (w : List L) (p : Capsule L E) (m : Memory L) (l : L) → In l w → In l (exposed_past eq w p m) → ⊥
  not_exposed w (Ends e) m l i h = h
  not_exposed w (Asks n go) m l i h = not_exposed w go m l i h
  not_exposed w (Writes k v go) m l i h = not_exposed (k ∷ w) go (store eq m k v) l (inr i) h
  not_exposed w (Reads k go) m l i h = elim (in_or_not eq k w) [
    | inl j ↦ not_exposed w (go (m k)) m l i (subst (λ (ls : List L). In l ls) (cond-true (is_in eq k w) _ _ j.1) h)
    | inr out ↦ elim (subst (λ (ls : List L). In l ls) (cond-false (is_in eq k w) _ _ out.1) h) [
      | inl e ↦ out.0 (subst (λ (j : L). In j w) e i)
      | inr j ↦ not_exposed w (go (m k)) m l i j
    ]
  ]

  -- on the path that the words take
  clash : (r w : List L) (p : Capsule L E) (m : Memory L) (l : L) → IsFreePast eq r w p → In l r ⊎ In l (exposed_past eq w p m)
      → In l (written eq p m) → ⊥
  clash r w (Ends e) m l free h i = i
  clash r w (Asks n go) m l free h i = clash r w go m l free h i
  clash r w (Writes k v go) m l free h i = elim h [
    | inl j ↦ elim i [
      | inl e ↦ free.0 (subst (λ (z : L). In z r) e j)
      | inr n ↦ clash r (k ∷ w) go (store eq m k v) l free.1 (inl j) n
    ]
    | inr j ↦ elim i [
      | inl e ↦ not_exposed (k ∷ w) go (store eq m k v) l (inl e) j
      | inr n ↦ clash r (k ∷ w) go (store eq m k v) l free.1 (inr j) n
    ]
  ]
  clash r w (Reads k go) m l free h i = elim (in_or_not eq k w) [
    | inl j ↦
        let now = subst (λ (rs : List L). IsFreePast eq rs w (go (m k))) (cond-true (is_in eq k w) r (k ∷ r) j.1) (free (m k)) in
        clash r w (go (m k)) m l now (elim h [
          | inl x ↦ inl x
          | inr x ↦ inr (subst (λ (ls : List L). In l ls) (cond-true (is_in eq k w) _ _ j.1) x)
        ]) i
    | inr out ↦
        let now = subst (λ (rs : List L). IsFreePast eq rs w (go (m k))) (cond-false (is_in eq k w) r (k ∷ r) out.1) (free (m k)) in
        clash (k ∷ r) w (go (m k)) m l now (elim h [
          | inl x ↦ inl (inr x)
          | inr x ↦ elim (subst (λ (ls : List L). In l ls) (cond-false (is_in eq k w) _ _ out.1) x) [ inl e ↦ inl (inl e) | inr y ↦ inr y ]
        ]) i
  ]

  pub paths_are_enough : (p : Capsule L E) (m : Memory L) → IsFreeOnPaths eq p → IsConflictFree eq p m
  paths_are_enough p m free l i j = clash [] [] p m l free (inr i) j

  module _ (q : L → Type 0) where
    reads_only : (w : List L) (p : Capsule L E) (m : Memory L) (l : L) → ReadsOnly eq q p → In l (exposed_past eq w p m) → q l
    reads_only w (Ends e) m l only h = absurd h
    reads_only w (Asks n go) m l only h = reads_only w go m l only h
    reads_only w (Writes k v go) m l only h = reads_only (k ∷ w) go (store eq m k v) l only h
    reads_only w (Reads k go) m l only h = elim (in_or_not eq k w) [
      | inl j ↦ reads_only w (go (m k)) m l (only.1 (m k)) (subst (λ (ls : List L). In l ls) (cond-true (is_in eq k w) _ _ j.1) h)
      | inr out ↦ elim (subst (λ (ls : List L). In l ls) (cond-false (is_in eq k w) _ _ out.1) h) [
        | inl e ↦ subst (λ (z : L). q z) (sym e) only.0
        | inr j ↦ reads_only w (go (m k)) m l (only.1 (m k)) j
      ]
    ]

    writes_only : (p : Capsule L E) (m : Memory L) (l : L) → WritesOnly eq q p → In l (written eq p m) → q l
    writes_only (Ends e) m l only h = absurd h
    writes_only (Asks n go) m l only h = writes_only go m l only h
    writes_only (Reads k go) m l only h = writes_only (go (m k)) m l (only (m k)) h
    writes_only (Writes k v go) m l only (inl e) = subst (λ (z : L). q z) (sym e) only.0
    writes_only (Writes k v go) m l only (inr h) = writes_only go (store eq m k v) l only.1 h

    pub paths_say_where : (p : Capsule L E) → PathsSayWhere eq q p
    paths_say_where p = record { reads = λ only m l h. reads_only [] p m l only h; writes = λ only m l h. writes_only p m l only h }
