-- What a capsule does depends on its exposed reads, and it keeps what it does not write.
use Rattle.std.proofs.Common.{◌≡◌, ℕ, ◌+◌, List, [], ◌∷◌, ◌⊎◌, inl, inr, refl, sym, ap, ◌∙◌, subst}
use Rattle.std.proofs.lemmas.Bool.{cond-false, cond-true}
use Rattle.std.proofs.Math.Path.{fun_ext}
use Rattle.ppm_strands.specs.Capsule.{Equality, Capsule, Reads, Writes, Asks, Ends, Memory, In, AgreeOn, is_in, store}
use Rattle.ppm_strands.specs.Capsule.{ending, leaves, asked, written, exposed, exposed_past, DoesTheSame, IsLocal}
use Rattle.ppm_strands.proofs.LocationLemmas.{decide, store_else, in_or_not, store_same, agree_store}

module _ {L E : Type 0} (eq : Equality L) where
  -- what two runs of a capsule have in common, where w are written already
  pub record AlikePast (w : List L) (p : Capsule L E) (m n : Memory L) : Type 0 where
    pub ends : ending eq p n ≡ ending eq p m
    pub reads : exposed_past eq w p n ≡ exposed_past eq w p m
    pub writes : written eq p n ≡ written eq p m
    pub asks : asked eq p n ≡ asked eq p m
    pub values : (l : L) → In l w ⊎ In l (written eq p m) → leaves eq p n l ≡ leaves eq p m l

  -- from memories that agree on what is written already and on the exposed reads
  pub alike_past : (w : List L) (p : Capsule L E) (m n : Memory L) → AgreeOn w m n → AgreeOn (exposed_past eq w p m) m n → AlikePast w p m n
  alike_past w (Ends e) m n h ex = record {
    ends = refl;
    reads = refl;
    writes = refl;
    asks = refl;
    values = λ l i. elim i [ inl j ↦ h l j | inr j ↦ absurd j ];
  }
  alike_past w (Asks k go) m n h ex =
      let r = alike_past w go m n h ex in
      record { ends = r.ends; reads = r.reads; writes = r.writes; asks = ap (λ (j : ℕ). k + j) r.asks; values = r.values }
  alike_past w (Writes l v go) m n h ex =
      let r = alike_past (l ∷ w) go (store eq m l v) (store eq n l v) (agree_store eq w m n l v h) (λ k i. store_same eq m n l v k (ex k i)) in
      record {
        ends = r.ends;
        reads = r.reads;
        writes = ap (λ (ls : List L). l ∷ ls) r.writes;
        asks = r.asks;
        values = λ k i. r.values k (elim i [ inl j ↦ inl (inr j) | inr j ↦ elim j [ inl e ↦ inl (inl e) | inr i ↦ inr i ] ]);
      }
  alike_past w (Reads l go) m n h ex = elim (in_or_not eq l w) [
    | inl i ↦
        let is = λ (o : Memory L). cond-true (is_in eq l w) (exposed_past eq w (go (o l)) o) (l ∷ exposed_past eq w (go (o l)) o) i.1 in
        let at : n l ≡ m l = h l i.0 in
        let r = alike_past w (go (m l)) m n h (λ k j. ex k (subst (λ (ls : List L). In k ls) (sym (is m)) j)) in
        record {
          ends = ap (λ (v : ℕ). ending eq (go v) n) at ∙ r.ends;
          reads = is n ∙ ap (λ (v : ℕ). exposed_past eq w (go v) n) at ∙ r.reads ∙ sym (is m);
          writes = ap (λ (v : ℕ). written eq (go v) n) at ∙ r.writes;
          asks = ap (λ (v : ℕ). asked eq (go v) n) at ∙ r.asks;
          values = λ k j. ap (λ (v : ℕ). leaves eq (go v) n k) at ∙ r.values k j;
        }
    | inr out ↦
        let is = λ (o : Memory L). cond-false (is_in eq l w) (exposed_past eq w (go (o l)) o) (l ∷ exposed_past eq w (go (o l)) o) out.1 in
        let at : n l ≡ m l = ex l (subst (λ (ls : List L). In l ls) (sym (is m)) (inl refl)) in
        let r = alike_past w (go (m l)) m n h (λ k j. ex k (subst (λ (ls : List L). In k ls) (sym (is m)) (inr j))) in
        record {
          ends = ap (λ (v : ℕ). ending eq (go v) n) at ∙ r.ends;
          reads = is n ∙ ap (λ (v : ℕ). l ∷ exposed_past eq w (go v) n) at ∙ ap (λ (ls : List L). l ∷ ls) r.reads ∙ sym (is m);
          writes = ap (λ (v : ℕ). written eq (go v) n) at ∙ r.writes;
          asks = ap (λ (v : ℕ). asked eq (go v) n) at ∙ r.asks;
          values = λ k j. ap (λ (v : ℕ). leaves eq (go v) n k) at ∙ r.values k j;
        }
  ]

  -- from the beginning
  pub alike : (p : Capsule L E) (m n : Memory L) → AgreeOn (exposed eq p m) m n → AlikePast [] p m n
  alike p m n ex = alike_past [] p m n (λ l i. absurd i) ex

  -- a location that is not written stays
  pub framed : (p : Capsule L E) (m : Memory L) (l : L) → (In l (written eq p m) → ⊥) → leaves eq p m l ≡ m l
  framed (Ends e) m l out = refl
  framed (Asks n go) m l out = framed go m l out
  framed (Reads k go) m l out = framed (go (m k)) m l out
  framed (Writes k v go) m l out = framed go (store eq m k v) l (λ i. out (inr i)) ∙ elim (decide eq l k) [
    | inl e ↦ absurd (out (inl e))
    | inr ne ↦ store_else eq m k v l ne.1
  ]

  pub is_local : (p : Capsule L E) → IsLocal eq p
  is_local p = record {
    reads = λ m n ex.
        let r = alike p m n ex in
        record { ends = r.ends; asks = r.asks; reads = r.reads; writes = r.writes; words = λ l i. r.values l (inr i) };
    writes = framed p;
  }

  -- memories that differ only where the capsule writes are left the same
  pub same_leaves : (p : Capsule L E) (m n : Memory L) → AlikePast [] p m n → ((l : L) → (In l (written eq p m) → ⊥) → n l ≡ m l)
      → leaves eq p n ≡ leaves eq p m
  same_leaves p m n both rest = fun_ext (λ l. elim (in_or_not eq l (written eq p m)) [
    | inl i ↦ both.values l (inr i.0)
    | inr out ↦ framed p n l (λ i. out.0 (subst (λ (ls : List L). In l ls) both.writes i)) ∙ rest l out.0 ∙ sym (framed p m l out.0)
  ])

  -- from such a memory the capsule does the same, where the exposed reads agree too
  pub does_the_same : (p : Capsule L E) (m n : Memory L) → AgreeOn (exposed eq p m) m n → ((l : L) → (In l (written eq p m) → ⊥) → n l ≡ m l)
      → DoesTheSame eq p m n
  does_the_same p m n ex rest =
      let both = alike p m n ex in
      record { ends = both.ends; words = same_leaves p m n both rest; asks = both.asks; reads = both.reads; writes = both.writes }
