-- The way of a capsule up to a moment before its first read, as far as it can be gone again: which changes it asks for on that way.
use Rattle.std.proofs.Common.{◌≡◌, ℕ, zero, suc, Bool, true, false, List, [], ◌∷◌, ◌⊎◌, refl, sym, ap, subst}
use Rattle.ppm_strands.specs.Tree.{Words}
use Rattle.ppm_strands.specs.Capsule.{Equality, Memory, In, store}
use Rattle.ppm_unseen.specs.Capsule.{Capsule, Loads, Keeps, Reads, Changes, Ends}
use Rattle.ppm_unseen.specs.Run.{Change, change, AllStill}
use Rattle.ppm_unseen.proofs.OwnLemmas.{AreSameOn, AreSameOff, store_same_on, store_same_off, found}

-- changes turned round, in front of others
abbrev pub onto : List Change → List Change → List Change
onto [] q = q
onto (k ∷ ks) q = onto ks (k ∷ q)

-- one more at the end
abbrev pub snoc : List Change → Change → List Change
snoc [] k = k ∷ []
snoc (c ∷ q) k = c ∷ snoc q k

-- one more in front of others that are turned round comes at the end
pub onto_snoc : (ks q : List Change) (k : Change) → onto ks (snoc q k) ≡ snoc (onto ks q) k
onto_snoc [] q k = refl
onto_snoc (c ∷ ks) q k = onto_snoc ks (c ∷ q) k

-- in whatever order: they change nothing
pub still_onto : (a : Words) (ks q : List Change) → AllStill a ks → AllStill a q → AllStill a (onto ks q)
still_onto a [] q s r = r
still_onto a (k ∷ ks) q s r = still_onto a ks (k ∷ q) s.1 (s.0, r)

module _ {A E : Type 0} (eq : Equality A) (out : A → Bool) where
  -- in n word steps without a read, which ask for the changes ch, a capsule with the own words f, of which w were kept, comes to c, and its
  -- words to q, of which w' were kept
  abbrev pub Leads : ℕ → Memory A → List A → Capsule A E → List Change → Capsule A E → Memory A → List A → Type 0
  Leads zero f w r ch c q w' = (r ≡ c) × (ch ≡ []) × (w ≡ w') × AreSameOn w q f
  Leads (suc n) f w (Loads x go) ch c q w' = Leads n f w (go (f x)) ch c q w'
  Leads (suc n) f w (Keeps x v rest) ch c q w' = (out x ≡ true) × Leads n (store eq f x v) (x ∷ w) rest ch c q w'
  Leads (suc n) f w (Reads x go) ch c q w' = ⊥
  Leads (suc n) f w (Changes x g rest) ch c q w' = (left : List Change) × (ch ≡ change x g ∷ left) × Leads n f w rest left c q w'
  Leads (suc n) f w (Ends e) ch c q w' = ⊥

  -- a load more
  pub more_load : (o : Memory A) (x : A) (go : ℕ → Capsule A E) (q : Memory A) (w' : List A) → AreSameOff out o q → (out x ≡ false) ⊎ In x w'
      → (n : ℕ) (f : Memory A) (w : List A) (r : Capsule A E) (ch : List Change) → AreSameOff out o f → Leads n f w r ch (Loads x go) q w'
      → (m : ℕ) × Leads m f w r ch (go (q x)) q w'
  more_load o x go q w' hq may zero f w r ch hf g =
      let same : q x ≡ f x = found out o q f w' x hq hf (subst (λ (u : List A). AreSameOn u q f) g.2 g.3) may in
      (1, subst (λ (c : Capsule A E). Leads 1 f w c ch (go (q x)) q w') (sym g.0) (ap go (sym same), g.1, g.2, g.3))
  more_load o x go q w' hq may (suc n) f w (Loads y to) ch hf g =
      let r = more_load o x go q w' hq may n f w (to (f y)) ch hf g in (suc r.0, r.1)
  more_load o x go q w' hq may (suc n) f w (Keeps y v rest) ch hf g =
      let r = more_load o x go q w' hq may n (store eq f y v) (y ∷ w) rest ch (store_same_off eq out o f y v g.0 hf) g.1 in (suc r.0, (g.0, r.1))
  more_load o x go q w' hq may (suc n) f w (Reads y to) ch hf g = absurd g
  more_load o x go q w' hq may (suc n) f w (Changes y h rest) ch hf g =
      let r = more_load o x go q w' hq may n f w rest g.0 hf g.2 in (suc r.0, (g.0, g.1, r.1))
  more_load o x go q w' hq may (suc n) f w (Ends e) ch hf g = absurd g

  -- a word more that is kept
  pub more_keep : (x : A) (v : ℕ) (c : Capsule A E) (q : Memory A) (w' : List A) → out x ≡ true
      → (n : ℕ) (f : Memory A) (w : List A) (r : Capsule A E) (ch : List Change) → Leads n f w r ch (Keeps x v c) q w'
      → (m : ℕ) × Leads m f w r ch c (store eq q x v) (x ∷ w')
  more_keep x v c q w' is zero f w r ch g = (
    1,
    subst (λ (d : Capsule A E). Leads 1 f w d ch c (store eq q x v) (x ∷ w')) (sym g.0)
        (is, (refl, g.1, ap (λ (u : List A). x ∷ u) g.2, store_same_on eq w q f x v g.3)),
  )
  more_keep x v c q w' is (suc n) f w (Loads y to) ch g =
      let r = more_keep x v c q w' is n f w (to (f y)) ch g in (suc r.0, r.1)
  more_keep x v c q w' is (suc n) f w (Keeps y u rest) ch g =
      let r = more_keep x v c q w' is n (store eq f y u) (y ∷ w) rest ch g.1 in (suc r.0, (g.0, r.1))
  more_keep x v c q w' is (suc n) f w (Reads y to) ch g = absurd g
  more_keep x v c q w' is (suc n) f w (Changes y h rest) ch g =
      let r = more_keep x v c q w' is n f w rest g.0 g.2 in (suc r.0, (g.0, g.1, r.1))
  more_keep x v c q w' is (suc n) f w (Ends e) ch g = absurd g

  -- a change more
  pub more_change : (x : ℕ) (by : ℕ → ℕ) (c : Capsule A E) (q : Memory A) (w' : List A)
      → (n : ℕ) (f : Memory A) (w : List A) (r : Capsule A E) (ch : List Change) → Leads n f w r ch (Changes x by c) q w'
      → (m : ℕ) × Leads m f w r (snoc ch (change x by)) c q w'
  more_change x by c q w' zero f w r ch g = (
    1,
    subst (λ (d : Capsule A E). Leads 1 f w d (snoc ch (change x by)) c q w') (sym g.0)
        ([], ap (λ (l : List Change). snoc l (change x by)) g.1, (refl, refl, g.2, g.3)),
  )
  more_change x by c q w' (suc n) f w (Loads y to) ch g =
      let r = more_change x by c q w' n f w (to (f y)) ch g in (suc r.0, r.1)
  more_change x by c q w' (suc n) f w (Keeps y u rest) ch g =
      let r = more_change x by c q w' n (store eq f y u) (y ∷ w) rest ch g.1 in (suc r.0, (g.0, r.1))
  more_change x by c q w' (suc n) f w (Reads y to) ch g = absurd g
  more_change x by c q w' (suc n) f w (Changes y h rest) ch g =
      let r = more_change x by c q w' n f w rest g.0 g.2 in
      (suc r.0, (snoc g.0 (change x by), ap (λ (l : List Change). snoc l (change x by)) g.1, r.1))
  more_change x by c q w' (suc n) f w (Ends e) ch g = absurd g
