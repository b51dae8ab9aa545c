-- Beside a strand with faults goes one without. It stands where the capsule's last change was made (`Commit`), or where the strand is, before its
-- first read (`Early`) or after it (`Late`); after a fault the strand is on its way again to where the commit stands (`Replay`).
use Rattle.std.proofs.Common.{◌≡◌, ℕ, Bool, true, false, List, [], ◌∷◌, ◌⊎◌, inl, inr, refl, sym, subst}
use Rattle.ppm_strands.specs.Tree.{Words}
use Rattle.ppm_strands.specs.Capsule.{Memory, In, store}
use Rattle.ppm_unseen.specs.Capsule.{Capsule, Loads, Keeps, Reads, Changes}
use Rattle.ppm_unseen.specs.Run.{System, Deed, Changed, State, NotYet, UnderWay, Waits, IsOver, Change, change, AllStill}
use Rattle.ppm_unseen.specs.Run.{now, passed, settled}
use Rattle.ppm_unseen.specs.Run.{Comes, Goes, Does, Takes, Stores, Finds, Leaves, Alters}
use Rattle.ppm_unseen.specs.Conditions.{HasNoChange, IsOrdered, FillsPast}
use Rattle.ppm_unseen.proofs.OwnLemmas.{AreSameOn, AreSameOff, store_same_on, store_same_off, found}
use Rattle.ppm_unseen.proofs.WayLemmas.{onto, onto_snoc, Leads, more_load, more_keep, more_change}

module _ {A K E O : Type 0} (s : System A K E O) (me : ℕ) where
  -- without faults
  abbrev pub Quiet : List (Deed A K O) → State A K E → Type 0
  Quiet t σ = Comes s ⊥ me t σ

  -- with faults
  abbrev pub Faulty : List (Deed A K O) → State A K E → Type 0
  Faulty t σ = Comes s (Unit {0}) me t σ

  -- a run without faults to a moment of a capsule before its first read, which can be gone again from any own words that are the same off `out`
  pub record Made (out : A → Bool) (o : Memory A) (t : List (Deed A K O)) (k : K) (rest : Capsule A E) : Type 0 where
    pub q : Memory A
    pub w : List A
    pub run : Quiet t (UnderWay k rest q)
    pub made : (f : Memory A) → AreSameOff out o f → (n : ℕ) × Leads s.code.names out n f [] (s.code.capsule k) (onto (passed run) []) rest q w
    pub inputs : AreSameOff out o q
    pub fills : FillsPast out o w rest
    pub ordered : IsOrdered rest

  -- where the last change was made, in a capsule that began with the own words `o`
  pub record Commit (t : List (Deed A K O)) (k : K) : Type 0 where
    pub out : A → Bool
    pub o : Memory A
    pub rest : Capsule A E
    pub at : Made out o t k rest
    pub same : passed at.run ≡ settled at.run
    pub built : (x : A) → s.code.builds k x ≡ true → out x ≡ true

  -- the strand is there too, and no read was made in this capsule
  pub record Early (out : A → Bool) (o : Memory A) (t : List (Deed A K O)) (k : K) (rest : Capsule A E) (f : Memory A) : Type 0 where
    pub at : Made out o t k rest
    pub agree : AreSameOn at.w at.q f

  -- the strand is there too, and no change is to come
  pub record Late (out : A → Bool) (o : Memory A) (t : List (Deed A K O)) (k : K) (rest : Capsule A E) (f : Memory A) : Type 0 where
    pub q : Memory A
    pub w : List A
    pub run : Quiet t (UnderWay k rest q)
    pub agree : AreSameOn w q f
    pub inputs : AreSameOff out o q
    pub fills : FillsPast out o w rest
    pub none : HasNoChange rest

  -- the strand is on its way to the commit, by changes that are settled
  pub record Replay (t : List (Deed A K O)) (k : K) (rest : Capsule A E) (f : Memory A) (c : Commit t k) : Type 0 where
    pub n : ℕ
    pub w : List A
    pub to_do : List Change
    pub goes : Leads s.code.names c.out n f w rest to_do c.rest c.at.q c.at.w
    pub still : (b : Words) → AllStill b (settled c.at.run) → AllStill b to_do

  -- one of these three
  abbrev pub Where : (t : List (Deed A K O)) (k : K) (rest : Capsule A E) (f : Memory A) → Commit t k → Type 0
  Where t k rest f c = AreSameOff c.out c.o f
      × (Replay t k rest f c ⊎ (Early c.out c.o t k rest f ⊎ Late c.out c.o t k rest f))

  -- a strand that is not forked yet has asked for nothing
  pub record Unforked (t : List (Deed A K O)) : Type 0 where
    pub run : Quiet t NotYet
    pub none : passed run ≡ []
    pub unsettled : settled run ≡ []

  -- what goes beside a strand
  abbrev pub Beside : List (Deed A K O) → State A K E → Type 0
  Beside t NotYet = Unforked t
  Beside t (UnderWay k rest f) = (c : Commit t k) × Where t k rest f c
  Beside t (Waits g n fs) = Quiet t (Waits g n fs)
  Beside t IsOver = Quiet t IsOver

  -- what a load may find, and how it goes on
  load_fills : (out : A → Bool) (o q : Memory A) (w : List A) (x : A) (go : ℕ → Capsule A E) → AreSameOff out o q → FillsPast out o w (Loads x go)
      → ((out x ≡ false) ⊎ In x w) × FillsPast out o w (go (q x))
  load_fills out o q w x go h (inl a) = (inl a.0, subst (λ (v : ℕ). FillsPast out o w (go v)) (sym (h x a.0)) a.1)
  load_fills out o q w x go h (inr a) = (inr a.0, a.1 (q x))

  -- a change more on the way
  change_made : (out : A → Bool) (o : Memory A) (k : K) (q : Memory A) (w : List A) (x : ℕ) (g : ℕ → ℕ) (rest : Capsule A E) (ks : List Change)
      → ((f : Memory A) → AreSameOff out o f → (n : ℕ) × Leads s.code.names out n f [] (s.code.capsule k) (onto ks []) (Changes x g rest) q w)
      → (f : Memory A) → AreSameOff out o f → (n : ℕ) × Leads s.code.names out n f [] (s.code.capsule k) (onto ks (change x g ∷ [])) rest q w
  change_made out o k q w x g rest ks made f hf =
      let one = made f hf in
      let r = more_change s.code.names out x g rest q w one.0 f [] (s.code.capsule k) (onto ks []) one.1 in
      (r.0, subst (λ (l : List Change). Leads s.code.names out r.0 f [] (s.code.capsule k) l rest q w) (sym (onto_snoc ks [] (change x g))) r.1)

  module _ (out : A → Bool) (o : Memory A) {t : List (Deed A K O)} {k : K} where
    -- a load
    pub takes_early : (f : Memory A) (x : A) (go : ℕ → Capsule A E) → AreSameOff out o f
        → Early out o t k (Loads x go) f → Early out o t k (go (f x)) f
    takes_early f x go hf e =
        let m = e.at in
        let may = load_fills out o m.q m.w x go m.inputs m.fills in
        subst (λ (v : ℕ). Early out o t k (go v) f) (found out o m.q f m.w x m.inputs hf e.agree may.0) (record {
          at = record {
            q = m.q;
            w = m.w;
            run = Goes m.run (Takes x go);
            made = λ h hh. let g = m.made h hh in
                more_load s.code.names out o x go m.q m.w m.inputs may.0 g.0 h [] (s.code.capsule k) _ hh g.1;
            inputs = m.inputs;
            fills = may.1;
            ordered = m.ordered (m.q x);
          };
          agree = e.agree;
        })

    -- a load after a read
    pub takes_late : (f : Memory A) (x : A) (go : ℕ → Capsule A E) → AreSameOff out o f → Late out o t k (Loads x go) f → Late out o t k (go (f x)) f
    takes_late f x go hf l =
        let may = load_fills out o l.q l.w x go l.inputs l.fills in
        subst (λ (v : ℕ). Late out o t k (go v) f) (found out o l.q f l.w x l.inputs hf l.agree may.0) (record {
          q = l.q;
          w = l.w;
          run = Goes l.run (Takes x go);
          agree = l.agree;
          inputs = l.inputs;
          fills = may.1;
          none = l.none (l.q x);
        })

    -- a word that is kept
    pub stores_early : (f : Memory A) (x : A) (v : ℕ) (rest : Capsule A E)
        → Early out o t k (Keeps x v rest) f → Early out o t k rest (store s.code.names f x v)
    stores_early f x v rest e =
        let m = e.at in
        record {
          at = record {
            q = store s.code.names m.q x v;
            w = x ∷ m.w;
            run = Goes m.run (Stores x v rest);
            made = λ h hh. let g = m.made h hh in more_keep s.code.names out x v rest m.q m.w m.fills.0 g.0 h [] (s.code.capsule k) _ g.1;
            inputs = store_same_off s.code.names out o m.q x v m.fills.0 m.inputs;
            fills = m.fills.1;
            ordered = m.ordered;
          };
          agree = store_same_on s.code.names m.w m.q f x v e.agree;
        }

    -- a word that is kept after a read
    pub stores_late : (f : Memory A) (x : A) (v : ℕ) (rest : Capsule A E)
        → Late out o t k (Keeps x v rest) f → Late out o t k rest (store s.code.names f x v)
    stores_late f x v rest l = record {
      q = store s.code.names l.q x v;
      w = x ∷ l.w;
      run = Goes l.run (Stores x v rest);
      agree = store_same_on s.code.names l.w l.q f x v l.agree;
      inputs = store_same_off s.code.names out o l.q x v l.fills.0 l.inputs;
      fills = l.fills.1;
      none = l.none;
    }

    -- the first read
    pub finds_early : (f : Memory A) (x : ℕ) (go : ℕ → Capsule A E) → Early out o t k (Reads x go) f → Late out o t k (go (now s t x)) f
    finds_early f x go e = record {
      q = e.at.q;
      w = e.at.w;
      run = Goes e.at.run (Finds x go);
      agree = e.agree;
      inputs = e.at.inputs;
      fills = e.at.fills (now s t x);
      none = e.at.ordered (now s t x);
    }

    -- one more read
    pub finds_late : (f : Memory A) (x : ℕ) (go : ℕ → Capsule A E) → Late out o t k (Reads x go) f → Late out o t k (go (now s t x)) f
    finds_late f x go l = record {
      q = l.q;
      w = l.w;
      run = Goes l.run (Finds x go);
      agree = l.agree;
      inputs = l.inputs;
      fills = l.fills (now s t x);
      none = l.none (now s t x);
    }

    -- a change that leaves the word as it is
    pub leaves_early : (f : Memory A) (x : ℕ) (g : ℕ → ℕ) (rest : Capsule A E) → g (now s t x) ≡ now s t x
        → Early out o t k (Changes x g rest) f → Early out o t k rest f
    leaves_early f x g rest same e =
        let m = e.at in
        record {
          at = record {
            q = m.q;
            w = m.w;
            run = Goes m.run (Leaves x g rest same);
            made = change_made out o k m.q m.w x g rest (passed m.run) m.made;
            inputs = m.inputs;
            fills = m.fills;
            ordered = m.ordered;
          };
          agree = e.agree;
        }

    -- a change that changes it: the commit is here now
    pub alters_early : ((x : A) → s.code.builds k x ≡ true → out x ≡ true) → (f : Memory A) (x : ℕ) (g : ℕ → ℕ) (rest : Capsule A E)
        → (g (now s t x) ≡ now s t x → ⊥) → AreSameOff out o f
        → Early out o t k (Changes x g rest) f → Beside (Changed me x (g (now s t x)) ∷ t) (UnderWay k rest f)
    alters_early built f x g rest ne hf e =
        let m = e.at in
        let here : Made out o (Changed me x (g (now s t x)) ∷ t) k rest = record {
          q = m.q;
          w = m.w;
          run = Does m.run (Alters x g rest ne);
          made = change_made out o k m.q m.w x g rest (passed m.run) m.made;
          inputs = m.inputs;
          fills = m.fills;
          ordered = m.ordered;
        } in
        (record { out = out; o = o; rest = rest; at = here; same = refl; built = built }, (hf, inr (inl (record { at = here; agree = e.agree }))))
