-- Word 0 is never 0 again once a strand has claimed it: then no exchange from 0 changes it.
use Rattle.std.proofs.Common.{◌≡◌, ℕ, suc, ◌==◌, false, List, [], ◌∷◌, ◌⊎◌, inl, inr, refl, sym, ap, ◌∙◌, subst, arith}
use Rattle.std.proofs.lemmas.Bool.{cases_Bool, cases_eq, cond-false, cond-true, eqb-true, ne_eqb, true≢false}
use Rattle.std.specs.Prelude.{Option, Some, None}
use Rattle.ppm_strands.specs.Tree.{Words}
use Rattle.ppm_strands.specs.Strand.{Frame}
use Rattle.ppm_unseen.specs.Capsule.{Capsule, Loads, Keeps, Reads, Changes, Ends, exchange}
use Rattle.ppm_unseen.specs.Run.{Deed, Changed, Forked, Finished, doer, State, NotYet, UnderWay, Waits, IsOver, Change, AllStill}
use Rattle.ppm_unseen.specs.Run.{now, numbered, begun_if_any, forked_by, once_done, passed, settled, IsHistory}
use Rattle.ppm_unseen.specs.Run.{Comes, Begins, Others, Goes, Does, Takes, Stores, Finds, Leaves, Opens, Joins, Faults, Alters, Splits, Finishes}
use Rattle.ppm_unseen.specs.Conditions.{IsFilled, AreOrdered, AreFilled, Stands}
use Rattle.ppm_unseen.specs.Claims.{Point, First, Claims, Last, Exit, ForksAll, Tells, frame_at, claimers, claiming, claims, RacingClaims}
use Rattle.ppm_unseen.proofs.CalmLemmas.{put_at}
use Rattle.ppm_unseen.proofs.InvisibleLemmas.{history_before, faults_are_invisible}

-- an update that claims: it changes no word but 0, and makes none 0
record IsClaim (g : ℕ → ℕ) : Type 0 where
  keeps : (w : ℕ) → (w ≡ 0 → ⊥) → g w ≡ w
  claims : (w : ℕ) → (g w ≡ w → ⊥) → g w ≡ 0 → ⊥

-- an exchange from 0 does
exchange_claims : (k : ℕ) → IsClaim (exchange 0 (suc k))
exchange_claims k = record {
  keeps = λ w ne. cond-false (w == 0) (suc k) w (ne_eqb w 0 ne);
  claims = λ w ne e. elim (cases_Bool (w == 0)) [
    | inl is ↦ let one : suc k ≡ 0 = sym (cond-true (w == 0) (suc k) w is) ∙ e in omega (arith, one)
    | inr isnt ↦ ne (cond-false (w == 0) (suc k) w isnt)
  ];
}

-- all changes of a capsule are of word 0, and claim
abbrev OnlyClaims : Capsule ℕ Exit → Type 0
OnlyClaims (Loads x go) = (v : ℕ) → OnlyClaims (go v)
OnlyClaims (Keeps x v rest) = OnlyClaims rest
OnlyClaims (Reads x go) = (v : ℕ) → OnlyClaims (go v)
OnlyClaims (Changes x g rest) = (x ≡ 0) × IsClaim g × OnlyClaims rest
OnlyClaims (Ends e) = Unit {0}

all_claim : (p : Point) → OnlyClaims (claiming p)
all_claim First = tt
all_claim (Claims k) = (refl, exchange_claims k, λ v. tt)
all_claim Last = tt

-- the changes that it has asked for are of word 0, and claim
abbrev AreClaims : List Change → Type 0
AreClaims [] = Unit {0}
AreClaims (k ∷ ks) = ((k.at ≡ 0) × IsClaim k.by) × AreClaims ks

-- where word 0 is claimed they change nothing
claimed_is_still : (a : Words) (ks : List Change) → (a 0 ≡ 0 → ⊥) → AreClaims ks → AllStill a ks
claimed_is_still a [] ne all = tt
claimed_is_still a (k ∷ ks) ne all =
    (all.0.1.keeps (a k.at) (λ e. ne (sym (ap a all.0.0) ∙ e)), claimed_is_still a ks ne all.1)

-- some word is changed
abbrev HasChange : List (Deed ℕ Point ℕ) → Type 0
HasChange [] = ⊥
HasChange (Changed who x v ∷ t) = Unit {0}
HasChange (Forked who fs ∷ t) = HasChange t
HasChange (Finished who o ∷ t) = HasChange t

-- more deeds leave that so
still_changed : (d : Deed ℕ Point ℕ) (t : List (Deed ℕ Point ℕ)) → HasChange t → HasChange (d ∷ t)
still_changed (Changed who x v) t h = tt
still_changed (Forked who fs) t h = h
still_changed (Finished who o) t h = h

-- the last deed, if it is a change of i, claims word 0
abbrev Claimed : ℕ → List (Deed ℕ Point ℕ) → Type 0
Claimed i [] = Unit {0}
Claimed i (Changed who x v ∷ t) = who ≡ i → (x ≡ 0) × (v ≡ 0 → ⊥)
Claimed i (Forked who fs ∷ t) = Unit {0}
Claimed i (Finished who o ∷ t) = Unit {0}

not_mine : (i : ℕ) (d : Deed ℕ Point ℕ) (t : List (Deed ℕ Point ℕ)) → (doer d ≡ i → ⊥) → Claimed i (d ∷ t)
not_mine i (Changed who x v) t ne = λ e. absurd (ne e)
not_mine i (Forked who fs) t ne = tt
not_mine i (Finished who o) t ne = tt

-- what is left of a strand only claims
abbrev Rest : State ℕ Point Exit → Type 0
Rest NotYet = Unit {0}
Rest (UnderWay k rest o) = OnlyClaims rest
Rest (Waits g n fs) = Unit {0}
Rest IsOver = Unit {0}

module _ (js : List ℕ) where
  rest_if_any : (f : Option (Frame ℕ Point)) → Rest (begun_if_any (claims js) f)
  rest_if_any None = tt
  rest_if_any (Some f) = all_claim f.point

  rest_once_done : (i : ℕ) (t : List (Deed ℕ Point ℕ)) (d : Deed ℕ Point ℕ) (σ : State ℕ Point Exit) → Rest σ → Rest (once_done (claims js) i t d σ)
  rest_once_done i t d NotYet r = rest_if_any (forked_by (claims js) t d i)
  rest_once_done i t d (UnderWay k rest o) r = r
  rest_once_done i t d (Waits g n fs) r = r
  rest_once_done i t d IsOver r = r

  -- what a strand has done, asked for, and has left only claims
  only_claims : (i : ℕ) {t : List (Deed ℕ Point ℕ)} {σ : State ℕ Point Exit} (h : Comes (claims js) ⊥ i t σ)
      → Claimed i t × AreClaims (passed h) × Rest σ
  only_claims i Begins = (tt, tt, rest_if_any (numbered 0 (claims js).start i))
  only_claims i (Others {t = t} {σ = σ} d ne h) =
      let so = only_claims i h in (not_mine i d t ne, so.1, rest_once_done i t d σ so.2)
  only_claims i (Goes h (Takes {o = o} x go)) = let so = only_claims i h in (so.0, so.1, so.2 (o x))
  only_claims i (Goes h (Stores x v rest)) = only_claims i h
  only_claims i (Goes {t = t} h (Finds x go)) = let so = only_claims i h in (so.0, so.1, so.2 (now (claims js) t x))
  only_claims i (Does {t = t} h (Alters x g rest ne)) =
      let so = only_claims i h in
      (λ e. (so.2.0, so.2.1.claims (now (claims js) t x) ne), ((so.2.0, so.2.1), so.1), so.2.2)
  only_claims i (Goes h (Leaves x g rest same)) = let so = only_claims i h in (so.0, ((so.2.0, so.2.1), so.1), so.2.2)
  only_claims i (Goes h (Opens e f is)) = let so = only_claims i h in (so.0, tt, all_claim f.point)
  only_claims i (Does h (Splits e fs g is)) = (tt, tt, tt)
  only_claims i (Does h (Finishes e outcome is)) = (tt, tt, tt)
  only_claims i (Goes h (Joins g n fs os over)) = let so = only_claims i h in (so.0, tt, all_claim g.point)
  only_claims i (Goes h (Faults z o' kept)) = absurd z

  -- what is settled claims, and if there is any, a word is changed
  settled_claims : (i : ℕ) {t : List (Deed ℕ Point ℕ)} {σ : State ℕ Point Exit} (h : Comes (claims js) ⊥ i t σ)
      → AreClaims (settled h) × ((settled h ≡ []) ⊎ HasChange t)
  settled_claims i Begins = (tt, inl refl)
  settled_claims i (Others {t = t} d ne h) =
      let so = settled_claims i h in (so.0, elim so.1 [ inl a ↦ inl a | inr a ↦ inr (still_changed d t a) ])
  settled_claims i (Goes h (Takes x go)) = settled_claims i h
  settled_claims i (Goes h (Stores x v rest)) = settled_claims i h
  settled_claims i (Goes h (Finds x go)) = settled_claims i h
  settled_claims i (Does h (Alters x g rest ne)) = let so = only_claims i h in (((so.2.0, so.2.1), so.1), inr tt)
  settled_claims i (Goes h (Leaves x g rest same)) = settled_claims i h
  settled_claims i (Goes h (Opens e f is)) = (tt, inl refl)
  settled_claims i (Does h (Splits e fs g is)) = (tt, inl refl)
  settled_claims i (Does h (Finishes e outcome is)) = (tt, inl refl)
  settled_claims i (Goes h (Joins g n fs os over)) = (tt, inl refl)
  settled_claims i (Goes h (Faults z o' kept)) = absurd z

  -- once a word is changed, word 0 is claimed
  claimed : (t : List (Deed ℕ Point ℕ)) → IsHistory (claims js) ⊥ t → HasChange t → now (claims js) t 0 ≡ 0 → ⊥
  claimed [] all h e = h
  claimed (Changed who x v ∷ t) all h e =
      let mine = (only_claims who (all who).1).0 refl in
      mine.1 (sym (put_at (now (claims js) t) 0 v) ∙ ap (λ (y : ℕ). now (claims js) (Changed who y v ∷ t) 0) (sym mine.0) ∙ e)
  claimed (Forked who fs ∷ t) all h e = claimed t (history_before (claims js) (Forked who fs) t all) h e
  claimed (Finished who o ∷ t) all h e = claimed t (history_before (claims js) (Finished who o) t all) h e

  stands : Stands (claims js)
  stands i t σ h all =
      let so = settled_claims i h in
      elim so.1 [
        | inl none ↦ subst (λ (ks : List Change). AllStill (now (claims js) t) ks) (sym none) tt
        | inr some ↦ claimed_is_still (now (claims js) t) (settled h) (claimed t all some) so.0
      ]

  ordered : AreOrdered (claims js)
  ordered First = tt
  ordered (Claims k) = λ v. tt
  ordered Last = tt

  -- a capsule that keeps nothing
  keeps_nothing : (e : Exit) → IsFilled {A = ℕ} (λ x. false) (Ends e)
  keeps_nothing e o = (λ x. false, λ x is. absurd (true≢false (sym is)), λ x b. b)

  -- a branch keeps its own word 0, whatever it reads
  filled : AreFilled (claims js)
  filled First = keeps_nothing ForksAll
  filled (Claims k) = λ o. (λ x. x == 0, λ v. (refl, λ x is. inl (eqb-true x 0 is)), λ x b. absurd (true≢false (sym b)))
  filled Last = keeps_nothing Tells

-- who does nothing of a history comes along it
abbrev IsIdle : ℕ → List (Deed ℕ Point ℕ) → Type 0
IsIdle i [] = Unit {0}
IsIdle i (d ∷ t) = (doer d ≡ i → ⊥) × IsIdle i t

idle_comes : (js : List ℕ) (i : ℕ) (t : List (Deed ℕ Point ℕ)) → IsIdle i t → (σ : State ℕ Point Exit) × Comes (claims js) ⊥ i t σ
idle_comes js i [] idle = (_, Begins)
idle_comes js i (d ∷ t) idle = (_, Others d idle.0 (idle_comes js i t idle.1).1)

module _ (j k : ℕ) where
  -- the branches j and k
  abbrev both : List ℕ
  both = j ∷ k ∷ []

  -- a history in which strand n, which is 1 or 2, claims first
  abbrev first_by : ℕ → ℕ → List (Deed ℕ Point ℕ)
  first_by n v = Changed n 0 v ∷ Forked 0 (claimers both) ∷ []

  forks : (n v : ℕ) → (n ≡ 0 → ⊥) → (σ : State ℕ Point Exit) × Comes (claims both) ⊥ 0 (first_by n v) σ
  forks n v ne = (_, Others (Changed n 0 v) ne (Does Begins (Splits ForksAll (claimers both) (frame_at Last) refl)))

  -- the strand that claims
  claims_first : (n : ℕ) → (n ≡ 0 → ⊥) → (i : ℕ)
      → Comes (claims both) ⊥ n (Forked 0 (claimers both) ∷ []) (UnderWay (Claims i) (claiming (Claims i)) (λ x. 0))
      → (σ : State ℕ Point Exit) × Comes (claims both) ⊥ n (first_by n (suc i)) σ
  claims_first n ne i h = (_, Does h (Alters 0 (exchange 0 (suc i)) (Reads 0 (λ v. Keeps 0 v (Ends Tells))) (λ e. omega (arith, e))))

  -- each strand comes along it
  all_come : (n v : ℕ) → (n ≡ 0 → ⊥) → (σ : State ℕ Point Exit) × Comes (claims both) ⊥ n (first_by n v) σ → IsHistory (claims both) ⊥ (first_by n v)
  all_come n v ne mine i = elim (cases_eq i 0) [
    | inl is ↦ subst (λ (m : ℕ). (σ : State ℕ Point Exit) × Comes (claims both) ⊥ m (first_by n v) σ) (sym is) (forks n v ne)
    | inr a ↦ elim (cases_eq i n) [
      | inl is ↦ subst (λ (m : ℕ). (σ : State ℕ Point Exit) × Comes (claims both) ⊥ m (first_by n v) σ) (sym is) mine
      | inr b ↦ idle_comes both i (first_by n v) (λ e. b (sym e), (λ e. a (sym e), tt))
    ]
  ]

  left_first : IsHistory (claims both) ⊥ (first_by 1 (suc j))
  left_first = all_come 1 (suc j) (λ e. omega (arith, e))
      (claims_first 1 (λ e. omega (arith, e)) j (Others (Forked 0 (claimers both)) (λ e. omega (arith, e)) Begins))

  right_first : IsHistory (claims both) ⊥ (first_by 2 (suc k))
  right_first = all_come 2 (suc k) (λ e. omega (arith, e))
      (claims_first 2 (λ e. omega (arith, e)) k (Others (Forked 0 (claimers both)) (λ e. omega (arith, e)) Begins))

-- the law
pub racing_claims : RacingClaims
racing_claims = record {
  ordered = λ ks. ordered ks;
  filled = λ ks. filled ks;
  stands = λ ks. stands ks;
  invisible = λ ks. faults_are_invisible (claims ks) (ordered ks) (filled ks) (stands ks);
  left_first = λ j k. left_first j k;
  right_first = λ j k. right_first j k;
}
