-- The code of a table of capsules is local; the stores and the end of a capsule are steps of its strand.
use Rattle.std.proofs.Common.{◌≡◌, ℕ, zero, false, List, [], ◌∷◌, ◌++◌, inl, inr, refl, sym, ap, ap₂, ◌∙◌, subst, subst₂}
use Rattle.std.proofs.Math.Path.{fun_ext}
use Rattle.ppm_strands.specs.Tree.{Words, Tree, Strand, Has, On}
use Rattle.ppm_strands.specs.Run.{none, of_capsule}
use Rattle.ppm_strands.specs.Ahead.{Step, Redoes, Steps, Done, More}
use Rattle.ppm_strands.specs.Ahead as ahead
use Rattle.ppm_strands.specs.Capsule.{Equality, Capsule, Writes, Memory, In, AgreeOn, store}
use Rattle.ppm_strands.specs.Capsule.{Whole, ending, leaves, written, exposed, DoesTheSame}
use Rattle.ppm_strands.specs.Stopped.{IsConflictFree, Stands}
use Rattle.ppm_strands.specs.Strand.{Location, Own, New, Shared, Frame, Table, addresses, own_of, new_of, shared_of, frame_of, start, opened, code_of}
use Rattle.ppm_strands.specs.Strand.{IsClean, MayBeginAgain, CodeIsLocal, StoresAreSteps, StoresKeep, EndsAreSteps}
use Rattle.ppm_strands.proofs.LocationLemmas.{decide, store_else, in_or_not}
use Rattle.ppm_strands.proofs.AlikeLemmas.{AlikePast, alike, framed, does_the_same}
use Rattle.ppm_strands.proofs.StandsLemmas.{is_written, store_does_the_same, still_free, at_end}

module _ {S N : Type 0} where
  -- the address of a shared word
  abbrev address_of : Location S N → ℕ
  address_of (Own s) = zero
  address_of (New n) = zero
  address_of (Shared x) = x

  abbrev is_shared : Location S N → Type 0
  is_shared (Own s) = ⊥
  is_shared (New n) = ⊥
  is_shared (Shared x) = Unit {0}

  -- a shared word among locations, and its address among theirs
  pub shared_in : (x : ℕ) (ls : List (Location S N)) → Has x (addresses ls) → In (Shared x) ls
  shared_in x [] h = absurd h
  shared_in x (Own s ∷ ls) h = inr (shared_in x ls h)
  shared_in x (New n ∷ ls) h = inr (shared_in x ls h)
  shared_in x (Shared y ∷ ls) (inl e) = inl (ap Shared e)
  shared_in x (Shared y ∷ ls) (inr h) = inr (shared_in x ls h)

  pub in_addresses : (x : ℕ) (ls : List (Location S N)) → In (Shared x) ls → Has x (addresses ls)
  in_addresses x [] h = absurd h
  in_addresses x (Own s ∷ ls) (inl e) = absurd (subst is_shared e tt)
  in_addresses x (Own s ∷ ls) (inr h) = in_addresses x ls h
  in_addresses x (New n ∷ ls) (inl e) = absurd (subst is_shared e tt)
  in_addresses x (New n ∷ ls) (inr h) = in_addresses x ls h
  in_addresses x (Shared y ∷ ls) (inl e) = inl (ap address_of e)
  in_addresses x (Shared y ∷ ls) (inr h) = inr (in_addresses x ls h)

-- the addresses of what is read and what is written
abbrev pub both_addresses : {S N : Type 0} → List (Location S N) → List (Location S N) → List ℕ
both_addresses rs ws = addresses rs ++ addresses ws

module _ {S N K E O : Type 0} (eq : Equality (Location S N)) (table : Table S N K E O) where
  abbrev begun : Frame S K → Words → Memory (Location S N)
  begun f a = start eq table f a

  -- what an end opens, by the words that it looks at
  opened_alike : (k : K) (e : E) (m n : Memory (Location S N)) → own_of n ≡ own_of m → new_of n ≡ new_of m
      → opened eq table k e n ≡ opened eq table k e m
  opened_alike k e m n own new = ap₂ (λ (u : S → ℕ) (v : N → ℕ). table.opens k e u v) own new

  module _ (f : Frame S K) (a b : Words) (on : On ((code_of eq table).reads f a) a b) where
    agree : AgreeOn (exposed eq (table.capsule f.point) (begun f a)) (begun f a) (begun f b)
    agree (Own s) h = refl
    agree (New n) h = refl
    agree (Shared x) h = on x (in_addresses x (exposed eq (table.capsule f.point) (begun f a)) h)

    both : AlikePast eq [] (table.capsule f.point) (begun f a) (begun f b)
    both = alike eq (table.capsule f.point) (begun f a) (begun f b) agree

    -- a word that begins the same is left the same
    left_same : (l : Location S N) → begun f b l ≡ begun f a l
        → leaves eq (table.capsule f.point) (begun f b) l ≡ leaves eq (table.capsule f.point) (begun f a) l
    left_same l same = elim (in_or_not eq l (written eq (table.capsule f.point) (begun f a))) [
      | inl i ↦ both.values l (inr i.0)
      | inr out ↦
          framed eq (table.capsule f.point) (begun f b) l (λ i. out.0 (subst (λ (ls : List (Location S N)). In l ls) both.writes i)) ∙ same
          ∙ sym (framed eq (table.capsule f.point) (begun f a) l out.0)
    ]

  pub code_is_local : CodeIsLocal eq table
  code_is_local = record {
    next = λ f a b on.
        ap (λ (e : E). opened eq table f.point e (leaves eq (table.capsule f.point) (begun f b))) (both f a b on).ends
        ∙ opened_alike f.point _ (leaves eq (table.capsule f.point) (begun f a)) (leaves eq (table.capsule f.point) (begun f b))
        (fun_ext (λ s. left_same f a b on (Own s) refl)) (fun_ext (λ n. left_same f a b on (New n) refl));
    reads = λ f a b on. ap addresses (both f a b on).reads;
    writes = λ f a b on. ap addresses (both f a b on).writes;
    asks = λ f a b on. (both f a b on).asks;
    values = λ f a b on x h. (both f a b on).values (Shared x) (inr (shared_in x (written eq (table.capsule f.point) (begun f a)) h));
    frame = λ f a x out. framed eq (table.capsule f.point) (begun f a) (Shared x)
        (λ i. out (in_addresses x (written eq (table.capsule f.point) (begun f a)) i));
  }

  -- the words that the code begins with, against the words that there are
  module _ (k : K) (m : Memory (Location S N)) (again : MayBeginAgain eq table k m) where
    abbrev pub fresh : Memory (Location S N)
    fresh = begun (frame_of k m) (shared_of m)

    fresh_agrees : AgreeOn (exposed eq (table.capsule k) m) m fresh
    fresh_agrees (Own s) h = refl
    fresh_agrees (New n) h = absurd (again.unread n h)
    fresh_agrees (Shared x) h = refl

    pub fresh_alike : AlikePast eq [] (table.capsule k) m fresh
    fresh_alike = alike eq (table.capsule k) m fresh fresh_agrees

    pub fresh_free : IsConflictFree eq (table.capsule k) fresh
    fresh_free l i j = again.free l (subst (λ (ls : List (Location S N)). In l ls) fresh_alike.reads i)
        (subst (λ (ls : List (Location S N)). In l ls) fresh_alike.writes j)

    -- where the new block is clean, the same from first to last
    fresh_words : IsClean eq table k m → (l : Location S N) → (In l (written eq (table.capsule k) m) → ⊥) → fresh l ≡ m l
    fresh_words clean (Own s) out = refl
    fresh_words clean (New n) out = sym (clean n out)
    fresh_words clean (Shared x) out = refl

    pub fresh_same : IsClean eq table k m → DoesTheSame eq (table.capsule k) m fresh
    fresh_same clean = does_the_same eq (table.capsule k) m fresh fresh_agrees (fresh_words clean)

  -- a store of a capsule under way
  module _ (k : K) (l : Location S N) (v : ℕ) (rest : Capsule (Location S N) E) (m : Memory (Location S N))
      (again : MayBeginAgain eq table k m) (h : Stands eq (table.capsule k) (Writes l v rest) m) where
    abbrev first : Memory (Location S N)
    first = fresh k m again

    abbrev stored : Memory (Location S N)
    stored = store eq m l v

    pub again_after : MayBeginAgain eq table k stored
    again_after =
        let same = store_does_the_same eq (table.capsule k) l v rest m again.free h in
        record {
          free = still_free eq (table.capsule k) m stored same again.free;
          unread = λ n i. again.unread n (subst (λ (ls : List (Location S N)). In (New n) ls) same.reads i);
        }

    abbrev second : Memory (Location S N)
    second = fresh k stored again_after

    second_is : (j : Location S N) → eq.same j l ≡ false → second j ≡ first j
    second_is (Own s) apart = store_else eq m l v (Own s) apart
    second_is (New n) apart = refl
    second_is (Shared x) apart = store_else eq m l v (Shared x) apart

    written_too : In l (written eq (table.capsule k) first)
    written_too = subst (λ (ls : List (Location S N)). In l ls) (sym (fresh_alike k m again).writes) (is_written eq (table.capsule k) l v rest m again.free h)

    second_same : DoesTheSame eq (table.capsule k) first second
    second_same = does_the_same eq (table.capsule k) first second (λ j i. elim (decide eq j l) [
      | inl e ↦ absurd (fresh_free k m again l (subst (λ (z : Location S N). In z (exposed eq (table.capsule k) first)) e i) written_too)
      | inr ne ↦ second_is j ne.1
    ]) (λ j out. elim (decide eq j l) [
      | inl e ↦ absurd (out (subst (λ (z : Location S N). In z (written eq (table.capsule k) first)) (sym e) written_too))
      | inr ne ↦ second_is j ne.1
    ])

    redoes : Redoes (code_of eq table) (frame_of k m) (shared_of m) (frame_of k stored) (shared_of stored)
    redoes = record {
      next = ap₂ (λ (e : E) (o : Memory (Location S N)). opened eq table k e o) second_same.ends second_same.words;
      after = λ x. ap (λ (o : Memory (Location S N)). o (Shared x)) second_same.words;
      asks = second_same.asks;
      touches = λ x i. subst₂ (λ (rs ws : List (Location S N)). Has x (both_addresses rs ws)) second_same.reads second_same.writes i;
      writes = λ x i. subst (λ (ls : List (Location S N)). Has x (addresses ls)) second_same.writes i;
      changes = λ x out. elim (decide eq (Shared x) l) [
        | inl e ↦ absurd (out (in_addresses x (written eq (table.capsule k) first)
            (subst (λ (z : Location S N). In z (written eq (table.capsule k) first)) (sym e) written_too)))
        | inr ne ↦ store_else eq m l v (Shared x) ne.1
      ];
    }

    pub store_is_a_step : Step (code_of eq table) none (Strand (frame_of k m)) (shared_of m) (Strand (frame_of k stored)) (shared_of stored)
    store_is_a_step = ahead.Store (frame_of k m) (frame_of k stored) (shared_of m) (shared_of stored) redoes

    pub clean_after : IsClean eq table k m → IsClean eq table k stored
    clean_after clean n out =
        let same = store_does_the_same eq (table.capsule k) l v rest m again.free h in
        elim (decide eq (New n) l) [
          | inl e ↦ absurd (out (subst (λ (ls : List (Location S N)). In (New n) ls) (sym same.writes)
              (subst (λ (z : Location S N). In z (written eq (table.capsule k) m)) (sym e) (is_written eq (table.capsule k) l v rest m again.free h))))
          | inr ne ↦ store_else eq m l v (New n) ne.1 ∙ clean n (λ i. out (subst (λ (ls : List (Location S N)). In (New n) ls) (sym same.writes) i))
        ]

  pub stores_are_steps : StoresAreSteps eq table
  stores_are_steps k l v rest m again h = store_is_a_step k l v rest m again h

  pub stores_keep : StoresKeep eq table
  stores_keep k l v rest m again h = (again_after k l v rest m again h, clean_after k l v rest m again h)

  -- a whole capsule from words with a clean block, as a step to the tree that its end opens
  pub whole_is_a_step : (k : K) (m : Memory (Location S N)) → MayBeginAgain eq table k m → IsClean eq table k m
      → Step (code_of eq table) (of_capsule (code_of eq table) (frame_of k m) (shared_of m)) (Strand (frame_of k m)) (shared_of m)
      (opened eq table k (ending eq (table.capsule k) m) (leaves eq (table.capsule k) m)) (shared_of (leaves eq (table.capsule k) m))
  whole_is_a_step k m again clean =
      let same = fresh_same k m again clean in
      subst₂ (λ (t : Tree (Frame S K) O) (b : Words).
      Step (code_of eq table) (of_capsule (code_of eq table) (frame_of k m) (shared_of m)) (Strand (frame_of k m)) (shared_of m) t b)
      (ap₂ (λ (e : E) (o : Memory (Location S N)). opened eq table k e o) same.ends same.words)
      (ap (λ (o : Memory (Location S N)). shared_of o) same.words)
      (ahead.Capsule (frame_of k m) (shared_of m))

  pub ends_are_steps : EndsAreSteps eq table
  ends_are_steps k e m again clean h =
      let done = at_end eq (table.capsule k) e m h in
      subst (λ (r : Whole (Location S N) E).
      Step (code_of eq table) (of_capsule (code_of eq table) (frame_of k m) (shared_of m)) (Strand (frame_of k m)) (shared_of m)
      (opened eq table k r.end r.words) (shared_of r.words)) done (whole_is_a_step k m again clean)
