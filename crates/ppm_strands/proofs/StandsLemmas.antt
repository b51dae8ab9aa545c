-- What a capsule has done stands: step by step, after stops, and while others store elsewhere.
use Rattle.std.proofs.Common.{◌≡◌, ℕ, zero, suc, List, [], ◌∷◌, ◌⊎◌, inl, inr, refl, sym, ap, ◌∙◌, subst}
use Rattle.std.proofs.lemmas.Bool.{cond-false, cond-true}
use Rattle.std.proofs.Math.Path.{fun_ext}
use Rattle.ppm_strands.specs.Capsule.{Equality, Capsule, Reads, Writes, Asks, Ends, Memory, In, AgreeOn, is_in, store}
use Rattle.ppm_strands.specs.Capsule.{whole, written, exposed, exposed_past, DoesTheSame}
use Rattle.ppm_strands.specs.Stopped.{IsConflictFree, Progress, at, one, steps, stopped, Stands, Moment, StandsAlways, IsIdempotent, StopsChangeNothing}
use Rattle.ppm_strands.proofs.LocationLemmas.{decide, store_at, store_else, in_or_not, store_same, agree_store}
use Rattle.ppm_strands.proofs.AlikeLemmas.{alike, does_the_same}

module _ {L E : Type 0} (eq : Equality L) where
  -- a step changes neither the end nor the words then, what is still to be written is written in the whole, and what is not stays
  one_whole : (p : Capsule L E) (m : Memory L) → whole eq (one eq (at p m)).rest (one eq (at p m)).words ≡ whole eq p m
  one_whole (Reads l go) m = refl
  one_whole (Writes l v go) m = refl
  one_whole (Asks n go) m = refl
  one_whole (Ends e) m = refl

  one_written : (p : Capsule L E) (m : Memory L) (l : L) → In l (written eq (one eq (at p m)).rest (one eq (at p m)).words) → In l (written eq p m)
  one_written (Reads k go) m l h = h
  one_written (Writes k v go) m l h = inr h
  one_written (Asks n go) m l h = h
  one_written (Ends e) m l h = h

  one_keeps : (p : Capsule L E) (m : Memory L) (l : L) → (In l (written eq p m) → ⊥) → (one eq (at p m)).words l ≡ m l
  one_keeps (Reads k go) m l out = refl
  one_keeps (Writes k v go) m l out = elim (decide eq l k) [ inl e ↦ absurd (out (inl e)) | inr ne ↦ store_else eq m k v l ne.1 ]
  one_keeps (Asks n go) m l out = refl
  one_keeps (Ends e) m l out = refl

  -- many steps change neither the end nor the words then
  steps_whole : (n : ℕ) (g : Progress L E) → whole eq (steps eq n g).rest (steps eq n g).words ≡ whole eq g.rest g.words
  steps_whole zero g = refl
  steps_whole (suc n) g = steps_whole n (one eq g) ∙ one_whole g.rest g.words

  steps_written : (n : ℕ) (g : Progress L E) (l : L) → In l (written eq (steps eq n g).rest (steps eq n g).words) → In l (written eq g.rest g.words)
  steps_written zero g l h = h
  steps_written (suc n) g l h = one_written g.rest g.words l (steps_written n (one eq g) l h)

  pub steps_keep : (n : ℕ) (g : Progress L E) (l : L) → (In l (written eq g.rest g.words) → ⊥) → (steps eq n g).words l ≡ g.words l
  steps_keep zero g l out = refl
  steps_keep (suc n) g l out = steps_keep n (one eq g) l (λ i. out (one_written g.rest g.words l i)) ∙ one_keeps g.rest g.words l out

  -- one step more, at the end
  pub steps_more : (n : ℕ) (g : Progress L E) → steps eq (suc n) g ≡ one eq (steps eq n g)
  steps_more zero g = refl
  steps_more (suc n) g = steps_more n (one eq g)

  -- from words that agree on the exposed reads a capsule comes as far; words that were the same are the same
  comes : (w : List L) (n : ℕ) (p q : Capsule L E) (m m' o : Memory L) → AgreeOn w m m' → AgreeOn (exposed_past eq w p m) m m'
      → steps eq n (at p m) ≡ at q o → (o' : Memory L) × (steps eq n (at p m') ≡ at q o') × ((k : L) → m' k ≡ m k → o' k ≡ o k)
  comes w zero p q m m' o h ex is =
      (m', ap (λ (g : Progress L E). at g.rest m') is, λ k e. e ∙ ap (λ (g : Progress L E). g.words k) is)
  comes w (suc n) (Ends e) q m m' o h ex is = comes w n (Ends e) q m m' o h ex is
  comes w (suc n) (Asks k go) q m m' o h ex is = comes w n go q m m' o h ex is
  comes w (suc n) (Writes l v go) q m m' o h ex is =
      let r = comes (l ∷ w) n go q (store eq m l v) (store eq m' l v) o (agree_store eq w m m' l v h)
      (λ k i. store_same eq m m' l v k (ex k i)) is in
      (r.0, r.1, λ k e. r.2 k (store_same eq m m' l v k e))
  comes w (suc n) (Reads l go) q m m' o h ex is = elim (in_or_not eq l w) [
    | inl i ↦
        let same = cond-true (is_in eq l w) (exposed_past eq w (go (m l)) m) (l ∷ exposed_past eq w (go (m l)) m) i.1 in
        let r = comes w n (go (m l)) q m m' o h (λ k j. ex k (subst (λ (ls : List L). In k ls) (sym same) j)) is in
        (r.0, ap (λ (v : ℕ). steps eq n (at (go v) m')) (h l i.0) ∙ r.1, r.2)
    | inr out ↦
        let same = cond-false (is_in eq l w) (exposed_past eq w (go (m l)) m) (l ∷ exposed_past eq w (go (m l)) m) out.1 in
        let found : m' l ≡ m l = ex l (subst (λ (ls : List L). In l ls) (sym same) (inl refl)) in
        let r = comes w n (go (m l)) q m m' o h (λ k j. ex k (subst (λ (ls : List L). In k ls) (sym same) (inr j))) is in
        (r.0, ap (λ (v : ℕ). steps eq n (at (go v) m')) found ∙ r.1, r.2)
  ]

  -- what is still to be written is written by the whole
  pub to_write : (p rest : Capsule L E) (m : Memory L) (l : L) → Stands eq p rest m → In l (written eq rest m) → In l (written eq p m)
  to_write p rest m l h i = steps_written h.0 (at p m) l (subst (λ (g : Progress L E). In l (written eq g.rest g.words)) (sym h.1) i)

  -- a store of a capsule under way
  module _ (p : Capsule L E) (l : L) (v : ℕ) (go : Capsule L E) (m : Memory L) (free : IsConflictFree eq p m) (h : Stands eq p (Writes l v go) m) where
    pub is_written : In l (written eq p m)
    is_written = to_write p (Writes l v go) m l h (inl refl)

    unread : AgreeOn (exposed eq p m) m (store eq m l v)
    unread k i = elim (decide eq k l) [
      | inl e ↦ absurd (free l (subst (λ (j : L). In j (exposed eq p m)) e i) is_written)
      | inr ne ↦ store_else eq m l v k ne.1
    ]

    pub store_does_the_same : DoesTheSame eq p m (store eq m l v)
    store_does_the_same = does_the_same eq p m (store eq m l v) unread (λ k out. elim (decide eq k l) [
      | inl e ↦ absurd (out (subst (λ (j : L). In j (written eq p m)) (sym e) is_written))
      | inr ne ↦ store_else eq m l v k ne.1
    ])

    pub store_stands : Stands eq p go (store eq m l v)
    store_stands =
        let r = comes [] h.0 p (Writes l v go) m (store eq m l v) m (λ k i. absurd i) unread h.1 in
        let same : store eq r.0 l v ≡ store eq m l v = fun_ext (λ k. elim (decide eq k l) [
          | inl e ↦ subst (λ (j : L). store eq r.0 l v j ≡ store eq m l v j) (sym e) (store_at eq r.0 l v ∙ sym (store_at eq m l v))
          | inr ne ↦ store_else eq r.0 l v k ne.1 ∙ r.2 k (store_else eq m l v k ne.1) ∙ sym (store_else eq m l v k ne.1)
        ]) in
        (suc h.0, steps_more h.0 (at p (store eq m l v)) ∙ ap (one eq) r.1 ∙ ap (λ (o : Memory L). at go o) same)

  -- a capsule that does the same from first to last stays without conflicts
  pub still_free : (p : Capsule L E) (m n : Memory L) → DoesTheSame eq p m n → IsConflictFree eq p m → IsConflictFree eq p n
  still_free p m n same free l i j =
      free l (subst (λ (ls : List L). In l ls) same.reads i) (subst (λ (ls : List L). In l ls) same.writes j)

  pub no_change : (p : Capsule L E) (m : Memory L) → DoesTheSame eq p m m
  no_change p m = record { ends = refl; words = refl; asks = refl; reads = refl; writes = refl }

  pub then_same : (p : Capsule L E) (m n o : Memory L) → DoesTheSame eq p m n → DoesTheSame eq p n o → DoesTheSame eq p m o
  then_same p m n o f s = record {
    ends = s.ends ∙ f.ends;
    words = s.words ∙ f.words;
    asks = s.asks ∙ f.asks;
    reads = s.reads ∙ f.reads;
    writes = s.writes ∙ f.writes;
  }

  -- after one word step
  pub one_moment : (p rest : Capsule L E) (m : Memory L) → IsConflictFree eq p m → Stands eq p rest m → Moment eq p m (one eq (at rest m))
  one_moment p (Reads l go) m free h = record { stands = (suc h.0, steps_more h.0 (at p m) ∙ ap (one eq) h.1); free = free; same = no_change p m }
  one_moment p (Asks n go) m free h = record { stands = (suc h.0, steps_more h.0 (at p m) ∙ ap (one eq) h.1); free = free; same = no_change p m }
  one_moment p (Ends e) m free h = record { stands = h; free = free; same = no_change p m }
  one_moment p (Writes l v go) m free h =
      let same = store_does_the_same p l v go m free h in
      record { stands = store_stands p l v go m free h; free = still_free p m (store eq m l v) same free; same = same }

  -- after many
  pub steps_moment : (n : ℕ) (p : Capsule L E) (g : Progress L E) → IsConflictFree eq p g.words → Stands eq p g.rest g.words
      → Moment eq p g.words (steps eq n g)
  steps_moment zero p g free h = record { stands = h; free = free; same = no_change p g.words }
  steps_moment (suc n) p g free h =
      let first = one_moment p g.rest g.words free h in
      let rest = steps_moment n p (one eq g) first.free first.stands in
      record { stands = rest.stands; free = rest.free; same = then_same p g.words (one eq g).words (steps eq n (one eq g)).words first.same rest.same }

  -- after stops
  pub stops_moment : (stops : List ℕ) (p : Capsule L E) (m : Memory L) → IsConflictFree eq p m → Moment eq p m (at p (stopped eq stops p m))
  stops_moment [] p m free = record { stands = (zero, refl); free = free; same = no_change p m }
  stops_moment (n ∷ stops) p m free =
      let first = steps_moment n p (at p m) free (zero, refl) in
      let rest = stops_moment stops p (steps eq n (at p m)).words first.free in
      record { stands = (zero, refl); free = rest.free; same = then_same p m (steps eq n (at p m)).words _ first.same rest.same }

  -- and after stops and many
  pub run_moment : (stops : List ℕ) (n : ℕ) (p : Capsule L E) (m : Memory L) → IsConflictFree eq p m
      → Moment eq p m (steps eq n (at p (stopped eq stops p m)))
  run_moment stops n p m free =
      let first = stops_moment stops p m free in
      let rest = steps_moment n p (at p (stopped eq stops p m)) first.free (zero, refl) in
      record { stands = rest.stands; free = rest.free; same = then_same p m (stopped eq stops p m) _ first.same rest.same }

  stops_keep : (stops : List ℕ) (p : Capsule L E) (m : Memory L) → IsConflictFree eq p m
      → (l : L) → (In l (written eq p m) → ⊥) → stopped eq stops p m l ≡ m l
  stops_keep [] p m free l out = refl
  stops_keep (n ∷ stops) p m free l out =
      let first = steps_moment n p (at p m) free (zero, refl) in
      stops_keep stops p (steps eq n (at p m)).words first.free l (λ i. out (subst (λ (ls : List L). In l ls) first.same.writes i))
      ∙ steps_keep n (at p m) l out

  pub is_idempotent : (p : Capsule L E) (m : Memory L) → IsConflictFree eq p m → IsIdempotent eq p m
  is_idempotent p m free stops =
      let same = (stops_moment stops p m free).same in λ i. record { end = same.ends i; words = same.words i }

  pub stops_change_nothing : (p : Capsule L E) (m : Memory L) → IsConflictFree eq p m → StopsChangeNothing eq p m
  stops_change_nothing p m free = record {
    same = λ stops. (stops_moment stops p m free).same;
    free = λ stops. (stops_moment stops p m free).free;
    kept = λ stops. stops_keep stops p m free;
  }

  -- words that are the same where the capsule reads and writes
  pub elsewhere : (p rest : Capsule L E) (m n : Memory L) → ((l : L) → In l (exposed eq p m) ⊎ In l (written eq p m) → n l ≡ m l)
      → Stands eq p rest m → Stands eq p rest n
  elsewhere p rest m n same h =
      let ex : AgreeOn (exposed eq p m) m n = λ l i. same l (inl i) in
      let r = comes [] h.0 p rest m n m (λ k i. absurd i) ex h.1 in
      let writes = (alike eq p m n ex).writes in
      let is : r.0 ≡ n = fun_ext (λ l. elim (in_or_not eq l (written eq p m)) [
        | inl i ↦ let still = same l (inr i.0) in r.2 l still ∙ sym still
        | inr out ↦ sym (ap (λ (g : Progress L E). g.words l) r.1)
            ∙ steps_keep h.0 (at p n) l (λ i. out.0 (subst (λ (ls : List L). In l ls) writes i))
      ]) in
      (h.0, r.1 ∙ ap (λ (o : Memory L). at rest o) is)

  pub at_end : (p : Capsule L E) (e : E) (m : Memory L) → Stands eq p (Ends e) m → whole eq p m ≡ record { end = e; words = m }
  at_end p e m h = sym (steps_whole h.0 (at p m)) ∙ ap (λ (g : Progress L E). whole eq g.rest g.words) h.1

  pub stands_always : (p : Capsule L E) → StandsAlways eq p
  stands_always p = record {
    begins = λ m. (zero, refl);
    goes_on = λ rest m free h. one_moment p rest m free h;
    in_runs = λ m stops n free. run_moment stops n p m free;
    elsewhere = elsewhere p;
    at_end = at_end p;
  }
