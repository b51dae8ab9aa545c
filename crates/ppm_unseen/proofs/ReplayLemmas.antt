-- A strand that replays a capsule goes its way again up to the commit. What is settled stands, so on this way no word changes.
use Rattle.std.proofs.Common.{◌≡◌, ℕ, zero, suc, Bool, List, [], ◌∷◌, ◌⊎◌, inl, inr, sym, ◌∙◌, subst}
use Rattle.std.proofs.Math.Path.{fun_ext}
use Rattle.std.proofs.lemmas.Bool.{cases_Bool}
use Rattle.ppm_strands.specs.Tree.{Words}
use Rattle.ppm_strands.specs.Capsule.{Memory, store}
use Rattle.ppm_unseen.specs.Capsule.{Capsule, Loads, Keeps, Reads, Changes, Ends}
use Rattle.ppm_unseen.specs.Run.{System, Deed, Changed, doer, UnderWay, Change, AllStill}
use Rattle.ppm_unseen.specs.Run.{now, settled}
use Rattle.ppm_unseen.specs.Run.{Others}
use Rattle.ppm_unseen.specs.Conditions.{FillsPast}
use Rattle.ppm_unseen.proofs.OwnLemmas.{AreSameOn, AreSameOff, store_same_off}
use Rattle.ppm_unseen.proofs.WayLemmas.{onto, still_onto, Leads}
use Rattle.ppm_unseen.proofs.BesideLemmas.{Quiet, Made, Commit, Early, Late, Replay, Where, Beside}
use Rattle.ppm_unseen.proofs.BesideLemmas.{takes_early, stores_early, finds_early, leaves_early, alters_early}

module _ {A K E O : Type 0} (s : System A K E O) (me : ℕ) where
  -- at an end the own words are the same
  at_end : (out : A → Bool) (o q f : Memory A) (w : List A) (e : E) → AreSameOff out o q → AreSameOff out o f → AreSameOn w q f
      → FillsPast out o w (Ends e) → q ≡ f
  at_end out o q f w e hq hf h fills = fun_ext (λ x. elim (cases_Bool (out x)) [
    | inl is ↦ h x (fills x is)
    | inr off ↦ hq x off ∙ sym (hf x off)
  ])

  module _ {t : List (Deed A K O)} {k : K} (f : Memory A) (c : Commit s me t k) where
    -- on its way by nothing: the strand is at the commit
    settle : (rest : Capsule A E) (w : List A) (ch : List Change)
        → Leads s.code.names c.out zero f w rest ch c.rest c.at.q c.at.w → Early s me c.out c.o t k rest f
    settle rest w ch g = subst (λ (r : Capsule A E). Early s me c.out c.o t k r f) (sym g.0)
        (record { at = c.at; agree = subst (λ (u : List A). AreSameOn u c.at.q f) g.2 g.3 })

    -- at an end the strand is where the one beside it is
    end_run : (e : E) → AreSameOff c.out c.o f → Early s me c.out c.o t k (Ends e) f ⊎ Late s me c.out c.o t k (Ends e) f → Quiet s me t (UnderWay k (Ends e) f)
    end_run e hf (inl l) =
        subst (λ (u : Memory A). Quiet s me t (UnderWay k (Ends e) u)) (at_end c.out c.o l.at.q f l.at.w e l.at.inputs hf l.agree l.at.fills) l.at.run
    end_run e hf (inr l) =
        subst (λ (u : Memory A). Quiet s me t (UnderWay k (Ends e) u)) (at_end c.out c.o l.q f l.w e l.inputs hf l.agree l.fills) l.run

    -- a replay may be at an end only where the commit is
    replay_ends : (e : E) (n : ℕ) (w : List A) (ch : List Change) → Leads s.code.names c.out n f w (Ends e) ch c.rest c.at.q c.at.w
        → Early s me c.out c.o t k (Ends e) f
    replay_ends e zero w ch g = settle (Ends e) w ch g
    replay_ends e (suc n) w ch g = absurd g

    -- a load of a replay
    pub replay_takes : (x : A) (go : ℕ → Capsule A E) → AreSameOff c.out c.o f
        → (n : ℕ) (w : List A) (ch : List Change) → Leads s.code.names c.out n f w (Loads x go) ch c.rest c.at.q c.at.w
        → ((b : Words) → AllStill b (settled c.at.run) → AllStill b ch) → Where s me t k (go (f x)) f c
    replay_takes x go hf zero w ch g still = (hf, inr (inl (takes_early s me c.out c.o f x go hf (settle (Loads x go) w ch g))))
    replay_takes x go hf (suc n) w ch g still = (hf, inl (record { n = n; w = w; to_do = ch; goes = g; still = still }))

    -- a word that it keeps
    pub replay_stores : (x : A) (v : ℕ) (rest : Capsule A E) → AreSameOff c.out c.o f
        → (n : ℕ) (w : List A) (ch : List Change) → Leads s.code.names c.out n f w (Keeps x v rest) ch c.rest c.at.q c.at.w
        → ((b : Words) → AllStill b (settled c.at.run) → AllStill b ch) → Where s me t k rest (store s.code.names f x v) c
    replay_stores x v rest hf zero w ch g still =
        let early = settle (Keeps x v rest) w ch g in
        (store_same_off s.code.names c.out c.o f x v early.at.fills.0 hf, inr (inl (stores_early s me c.out c.o f x v rest early)))
    replay_stores x v rest hf (suc n) w ch g still =
        (store_same_off s.code.names c.out c.o f x v g.0 hf, inl (record { n = n; w = x ∷ w; to_do = ch; goes = g.1; still = still }))

    -- a read: there is none before the commit
    pub replay_finds : (x : ℕ) (go : ℕ → Capsule A E) (n : ℕ) (w : List A) (ch : List Change)
        → Leads s.code.names c.out n f w (Reads x go) ch c.rest c.at.q c.at.w → Late s me c.out c.o t k (go (now s t x)) f
    replay_finds x go zero w ch g = finds_early s me c.out c.o f x go (settle (Reads x go) w ch g)
    replay_finds x go (suc n) w ch g = absurd g

    -- a change that leaves the word as it is
    pub replay_leaves : (x : ℕ) (g : ℕ → ℕ) (rest : Capsule A E) → g (now s t x) ≡ now s t x
        → (n : ℕ) (w : List A) (ch : List Change) → Leads s.code.names c.out n f w (Changes x g rest) ch c.rest c.at.q c.at.w
        → ((b : Words) → AllStill b (settled c.at.run) → AllStill b ch)
        → Replay s me t k rest f c ⊎ (Early s me c.out c.o t k rest f ⊎ Late s me c.out c.o t k rest f)
    replay_leaves x g rest same zero w ch go still = inr (inl (leaves_early s me c.out c.o f x g rest same (settle (Changes x g rest) w ch go)))
    replay_leaves x g rest same (suc n) w ch go still = inl (record {
      n = n;
      w = w;
      to_do = go.0;
      goes = go.2;
      still = λ b h. (subst (λ (l : List Change). AllStill b l) go.1 (still b h)).1;
    })

    -- one that changes it: there is none before the commit, since what is settled stands
    pub replay_alters : (x : ℕ) (g : ℕ → ℕ) (rest : Capsule A E) → (g (now s t x) ≡ now s t x → ⊥) → AreSameOff c.out c.o f
        → (n : ℕ) (w : List A) (ch : List Change) → Leads s.code.names c.out n f w (Changes x g rest) ch c.rest c.at.q c.at.w
        → AllStill (now s t) ch → Beside s me (Changed me x (g (now s t x)) ∷ t) (UnderWay k rest f)
    replay_alters x g rest ne hf zero w ch go still = alters_early s me c.out c.o c.built f x g rest ne hf (settle (Changes x g rest) w ch go)
    replay_alters x g rest ne hf (suc n) w ch go still = absurd (ne (subst (λ (l : List Change). AllStill (now s t) l) go.1 still).0)

    -- begun again
    pub again : AreSameOff c.out c.o f → Replay s me t k (s.code.capsule k) f c
    again hf =
        let g = c.at.made f hf in
        record {
          n = g.0;
          w = [];
          to_do = onto (settled c.at.run) [];
          goes = subst (λ (ks : List Change). Leads s.code.names c.out g.0 f [] (s.code.capsule k) (onto ks []) c.rest c.at.q c.at.w) c.same g.1;
          still = λ b h. still_onto b (settled c.at.run) [] h tt;
        }

  -- a strand at an end comes there without faults
  pub end_of : {t : List (Deed A K O)} {k : K} (e : E) (f : Memory A) → Beside s me t (UnderWay k (Ends e) f) → Quiet s me t (UnderWay k (Ends e) f)
  end_of e f so = elim so.1.1 [
    | inl r ↦ end_run f so.0 e so.1.0 (inl (replay_ends f so.0 e r.n r.w r.to_do r.goes))
    | inr l ↦ end_run f so.0 e so.1.0 l
  ]

  -- others do something meanwhile
  abbrev pub others_made : (out : A → Bool) (o : Memory A) {t : List (Deed A K O)} {k : K} {rest : Capsule A E} (d : Deed A K O) → (doer d ≡ me → ⊥)
      → Made s me out o t k rest → Made s me out o (d ∷ t) k rest
  others_made out o d ne m = record {
    q = m.q;
    w = m.w;
    run = Others d ne m.run;
    made = m.made;
    inputs = m.inputs;
    fills = m.fills;
    ordered = m.ordered;
  }
