-- A capsule with the stores of its end does what it does, and then these stores.
use Rattle.std.proofs.Common.{◌≡◌, ℕ, ◌+◌, cond, List, [], ◌∷◌, ◌++◌, ◌⊎◌, inl, inr, refl, ap, ◌∙◌, subst}
use Rattle.std.proofs.lemmas.List.{append-nil}
use Rattle.std.proofs.Math.Path.{fun_ext}
use Rattle.ppm_strands.specs.Tree.{Words, Code, Has}
use Rattle.ppm_strands.specs.Capsule.{Equality, Capsule, Reads, Writes, Asks, Ends, Memory, In, is_in, store}
use Rattle.ppm_strands.specs.Capsule.{ending, leaves, asked, written, exposed_past}
use Rattle.ppm_strands.specs.Strand.{Location, Own, New, Shared, Frame, Table, addresses, start, opened, code_of}
use Rattle.ppm_strands.proofs.LocationLemmas.{decide, store_else}
use Rattle.ppm_strands.proofs.StrandLemmas.{in_addresses}
use Rattle.ppm_strands.specs.EndStores.{storing, stored_at, after_stores, with_end_stores, DoesThenStores, with_end_stores_in, AreUnseen, TablesAreTheSame}

-- in a list put together
in_append : {L : Type 0} (l : L) (ks ls : List L) → In l (ks ++ ls) → In l ks ⊎ In l ls
in_append l [] ls h = inr h
in_append l (k ∷ ks) ls (inl e) = inl (inl e)
in_append l (k ∷ ks) ls (inr h) = elim (in_append l ks ls h) [ inl i ↦ inl (inr i) | inr i ↦ inr i ]

module _ {L E : Type 0} (eq : Equality L) where
  -- stores and an end
  storing_ends : (ss : List (L × ℕ)) (e : E) (m : Memory L) → ending eq (storing ss (Ends e)) m ≡ e
  storing_ends [] e m = refl
  storing_ends (s ∷ ss) e m = storing_ends ss e (store eq m s.0 s.1)

  storing_words : (ss : List (L × ℕ)) (e : E) (m : Memory L) → leaves eq (storing ss (Ends e)) m ≡ after_stores eq ss m
  storing_words [] e m = refl
  storing_words (s ∷ ss) e m = storing_words ss e (store eq m s.0 s.1)

  storing_asks : (ss : List (L × ℕ)) (e : E) (m : Memory L) → asked eq (storing ss (Ends e)) m ≡ 0
  storing_asks [] e m = refl
  storing_asks (s ∷ ss) e m = storing_asks ss e (store eq m s.0 s.1)

  storing_reads : (w : List L) (ss : List (L × ℕ)) (e : E) (m : Memory L) → exposed_past eq w (storing ss (Ends e)) m ≡ []
  storing_reads w [] e m = refl
  storing_reads w (s ∷ ss) e m = storing_reads (s.0 ∷ w) ss e (store eq m s.0 s.1)

  storing_writes : (ss : List (L × ℕ)) (e : E) (m : Memory L) → written eq (storing ss (Ends e)) m ≡ stored_at ss
  storing_writes [] e m = refl
  storing_writes (s ∷ ss) e m = ap (λ (ls : List L). s.0 ∷ ls) (storing_writes ss e (store eq m s.0 s.1))

  module _ (tail : E → List (L × ℕ)) where
    long_ends : (p : Capsule L E) (m : Memory L) → ending eq (with_end_stores tail p) m ≡ ending eq p m
    long_ends (Reads l go) m = long_ends (go (m l)) m
    long_ends (Writes l v go) m = long_ends go (store eq m l v)
    long_ends (Asks n go) m = long_ends go m
    long_ends (Ends e) m = storing_ends (tail e) e m

    long_words : (p : Capsule L E) (m : Memory L) → leaves eq (with_end_stores tail p) m ≡ after_stores eq (tail (ending eq p m)) (leaves eq p m)
    long_words (Reads l go) m = long_words (go (m l)) m
    long_words (Writes l v go) m = long_words go (store eq m l v)
    long_words (Asks n go) m = long_words go m
    long_words (Ends e) m = storing_words (tail e) e m

    long_asks : (p : Capsule L E) (m : Memory L) → asked eq (with_end_stores tail p) m ≡ asked eq p m
    long_asks (Reads l go) m = long_asks (go (m l)) m
    long_asks (Writes l v go) m = long_asks go (store eq m l v)
    long_asks (Asks n go) m = ap (λ (k : ℕ). n + k) (long_asks go m)
    long_asks (Ends e) m = storing_asks (tail e) e m

    long_reads : (w : List L) (p : Capsule L E) (m : Memory L) → exposed_past eq w (with_end_stores tail p) m ≡ exposed_past eq w p m
    long_reads w (Reads l go) m = ap (λ (ls : List L). cond (is_in eq l w) ls (l ∷ ls)) (long_reads w (go (m l)) m)
    long_reads w (Writes l v go) m = long_reads (l ∷ w) go (store eq m l v)
    long_reads w (Asks n go) m = long_reads w go m
    long_reads w (Ends e) m = storing_reads w (tail e) e m

    long_writes : (p : Capsule L E) (m : Memory L) → written eq (with_end_stores tail p) m ≡ written eq p m ++ stored_at (tail (ending eq p m))
    long_writes (Reads l go) m = long_writes (go (m l)) m
    long_writes (Writes l v go) m = ap (λ (ls : List L). l ∷ ls) (long_writes go (store eq m l v))
    long_writes (Asks n go) m = long_writes go m
    long_writes (Ends e) m = storing_writes (tail e) e m

    pub does_then_stores : (p : Capsule L E) (m : Memory L) → DoesThenStores eq tail p m
    does_then_stores p m = record {
      ends = long_ends p m;
      words = long_words p m;
      asks = long_asks p m;
      reads = long_reads [] p m;
      writes = long_writes p m;
      free = λ free apart l i j.
          let read = subst (λ (ls : List L). In l ls) (long_reads [] p m) i in
          elim (in_append l (written eq p m) (stored_at (tail (ending eq p m))) (subst (λ (ls : List L). In l ls) (long_writes p m) j)) [
            | inl k ↦ free l read k
            | inr k ↦ apart l read k
          ];
    }

-- addresses of two lists
addresses_append : {S N : Type 0} (ks ls : List (Location S N)) → addresses (ks ++ ls) ≡ addresses ks ++ addresses ls
addresses_append [] ls = refl
addresses_append (Own s ∷ ks) ls = addresses_append ks ls
addresses_append (New n ∷ ks) ls = addresses_append ks ls
addresses_append (Shared x ∷ ks) ls = ap (λ (xs : List ℕ). x ∷ xs) (addresses_append ks ls)

-- a location to which nothing is stored keeps its word
stores_keep : {L : Type 0} (eq : Equality L) (ss : List (L × ℕ)) (m : Memory L) (l : L) → (In l (stored_at ss) → ⊥) → after_stores eq ss m l ≡ m l
stores_keep eq [] m l out = refl
stores_keep eq (s ∷ ss) m l out = stores_keep eq ss (store eq m s.0 s.1) l (λ i. out (inr i)) ∙ elim (decide eq l s.0) [
  | inl e ↦ absurd (out (inl e))
  | inr ne ↦ store_else eq m s.0 s.1 l ne.1
]

module _ {S N K E O : Type 0} (eq : Equality (Location S N)) (table : Table S N K E O) (tails : K → E → List (Location S N × ℕ))
    (hidden : AreUnseen eq table tails) where
  -- no shared word is among them
  none_shared : (k : K) (e : E) (x : ℕ) → In (Shared x) (stored_at (tails k e)) → ⊥
  none_shared k e x i = subst (λ (xs : List ℕ). Has x xs) (hidden.unshared k e) (in_addresses x (stored_at (tails k e)) i)

  module _ (f : Frame S K) (a : Words) where
    abbrev p : Capsule (Location S N) E
    p = table.capsule f.point

    abbrev m : Memory (Location S N)
    m = start eq table f a

    abbrev both : DoesThenStores eq (tails f.point) p m
    both = does_then_stores eq (tails f.point) p m

    same_next : (code_of eq (with_end_stores_in eq table tails)).next f a ≡ (code_of eq table).next f a
    same_next =
        ap (λ (e : E). opened eq table f.point e (leaves eq (with_end_stores (tails f.point) p) m)) both.ends
        ∙ ap (λ (n : Memory (Location S N)). opened eq table f.point (ending eq p m) n) both.words
        ∙ hidden.unseen f.point (ending eq p m) (leaves eq p m)

    same_after : (code_of eq (with_end_stores_in eq table tails)).after f a ≡ (code_of eq table).after f a
    same_after = fun_ext (λ x.
        ap (λ (n : Memory (Location S N)). n (Shared x)) both.words
        ∙ stores_keep eq (tails f.point (ending eq p m)) (leaves eq p m) (Shared x) (none_shared f.point (ending eq p m) x))

    same_writes : (code_of eq (with_end_stores_in eq table tails)).writes f a ≡ (code_of eq table).writes f a
    same_writes =
        ap addresses both.writes
        ∙ addresses_append (written eq p m) (stored_at (tails f.point (ending eq p m)))
        ∙ ap (λ (xs : List ℕ). addresses (written eq p m) ++ xs) (hidden.unshared f.point (ending eq p m))
        ∙ append-nil (addresses (written eq p m))

  abbrev old_code : Code (Frame S K) O
  old_code = code_of eq table

  abbrev long_code : Code (Frame S K) O
  long_code = code_of eq (with_end_stores_in eq table tails)

  -- the codes are one, part by part
  pub same_code : long_code ≡ old_code
  same_code =
      let next : long_code.next ≡ old_code.next = fun_ext (λ f. fun_ext (λ a. same_next f a)) in
      let after : long_code.after ≡ old_code.after = fun_ext (λ f. fun_ext (λ a. same_after f a)) in
      let reads : long_code.reads ≡ old_code.reads = fun_ext (λ f. fun_ext (λ a. ap addresses (both f a).reads)) in
      let writes : long_code.writes ≡ old_code.writes = fun_ext (λ f. fun_ext (λ a. same_writes f a)) in
      let asks : long_code.asks ≡ old_code.asks = fun_ext (λ f. fun_ext (λ a. (both f a).asks)) in
      λ i. record {
        next = next i;
        after = after i;
        reads = reads i;
        writes = writes i;
        asks = asks i;
        resume = table.resume;
        kept = table.kept;
        is_trap = table.is_trap;
      }

pub end_stores_are_unseen_are_the_same : {S N K E O : Type 0} (eq : Equality (Location S N)) (table : Table S N K E O) → TablesAreTheSame eq table
end_stores_are_unseen_are_the_same eq table tails hidden = same_code eq table tails hidden
