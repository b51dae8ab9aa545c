-- Where writes are calm, each change that a capsule under way has asked for would change nothing now: nobody has changed its word since.
use Rattle.std.proofs.Common.{◌≡◌, ℕ, ◌==◌, List, [], ◌∷◌, inl, inr, refl, sym, subst}
use Rattle.std.proofs.lemmas.Bool.{cond-false, cond-true, eq-eqb, ne_eqb}
use Rattle.std.specs.Prelude.{Option, Some, None}
use Rattle.ppm_strands.specs.Tree.{Words}
use Rattle.ppm_strands.specs.Ahead.{put}
use Rattle.ppm_strands.specs.Capsule.{In}
use Rattle.ppm_strands.specs.Strand.{Frame}
use Rattle.ppm_unseen.specs.Run.{System, Deed, Changed, Forked, Finished, doer, State, NotYet, UnderWay, Waits, IsOver, Change, AllStill}
use Rattle.ppm_unseen.specs.Run.{now, numbered, begun_if_any, forked_by, once_done, passed, settled, IsHistory}
use Rattle.ppm_unseen.specs.Run.{Comes, Begins, Others, Goes, Does, Takes, Stores, Finds, Leaves, Opens, Joins, Faults, Alters, Splits, Finishes}
use Rattle.ppm_unseen.specs.Calm.{places, ChangesOncePast, ChangeOnce, WritesAreCalm, CalmWritesStand}
use Rattle.ppm_unseen.proofs.InvisibleLemmas.{history_before}

-- the word that was put
pub put_at : (a : Words) (x v : ℕ) → put a x v x ≡ v
put_at a x v = cond-true (x == x) v (a x) (eq-eqb x x refl)

-- each other word stays
pub put_else : (a : Words) (x v y : ℕ) → (y ≡ x → ⊥) → put a x v y ≡ a y
put_else a x v y ne = cond-false (y == x) v (a y) (ne_eqb y x ne)

-- changes of other words change nothing still
still_elsewhere : (a : Words) (x v : ℕ) (ks : List Change) → (In x (places ks) → ⊥) → AllStill a ks → AllStill (put a x v) ks
still_elsewhere a x v [] out all = tt
still_elsewhere a x v (k ∷ ks) out all = (
  subst (λ (w : ℕ). k.by w ≡ w) (sym (put_else a x v k.at (λ e. out (inl (sym e))))) all.0,
  still_elsewhere a x v ks (λ i. out (inr i)) all.1,
)

module _ {A K E O : Type 0} (s : System A K E O) where
  -- what is left changes other words than the capsule has; who is not under way has asked for nothing
  abbrev Left : List Change → State A K E → Type 0
  Left ks NotYet = ks ≡ []
  Left ks (UnderWay k rest o) = ChangesOncePast (places ks) rest
  Left ks (Waits g n fs) = ks ≡ []
  Left ks IsOver = ks ≡ []

  module _ (once : ChangeOnce s) where
    -- a capsule that begins, if any
    left_if_any : (ks : List Change) (f : Option (Frame A K)) → ks ≡ [] → Left ks (begun_if_any s f)
    left_if_any ks None is = is
    left_if_any ks (Some f) is = subst (λ (l : List Change). ChangesOncePast (places l) (s.code.capsule f.point)) (sym is) (once f.point)

    -- once others have done something
    left_once_done : (i : ℕ) (t : List (Deed A K O)) (d : Deed A K O) (ks : List Change) (σ : State A K E) → Left ks σ → Left ks (once_done s i t d σ)
    left_once_done i t d ks NotYet l = left_if_any ks (forked_by s t d i) l
    left_once_done i t d ks (UnderWay k rest o) l = l
    left_once_done i t d ks (Waits g n fs) l = l
    left_once_done i t d ks IsOver l = l

    module _ (calm : WritesAreCalm s) (i : ℕ) where
      -- others do not touch what the capsule has asked to change
      still_once_done : (d : Deed A K O) (t : List (Deed A K O)) {σ : State A K E} (h : Comes s ⊥ i t σ) → (doer d ≡ i → ⊥) → IsHistory s ⊥ (d ∷ t)
          → AllStill (now s t) (passed h) → AllStill (now s (d ∷ t)) (passed h)
      still_once_done (Changed who x v) t {σ = σ} h ne all still = still_elsewhere (now s t) x v (passed h) (calm i t σ h who x v ne all) still
      still_once_done (Forked who fs) t h ne all still = still
      still_once_done (Finished who o) t h ne all still = still

      -- at each moment all that was asked for is still, and what is left changes other words
      all_is_still : {t : List (Deed A K O)} {σ : State A K E} (h : Comes s ⊥ i t σ) → IsHistory s ⊥ t → AllStill (now s t) (passed h) × Left (passed h) σ
      all_is_still Begins all = (tt, left_if_any [] (numbered 0 s.start i) refl)
      all_is_still (Others {t = t} {σ = σ} d ne h) all =
          let before = all_is_still h (history_before s d t all) in
          (still_once_done d t h ne all before.0, left_once_done i t d (passed h) σ before.1)
      all_is_still (Goes h (Takes {o = o} x go)) all = let before = all_is_still h all in (before.0, before.1 (o x))
      all_is_still (Goes h (Stores x v rest)) all = all_is_still h all
      all_is_still (Goes {t = t} h (Finds x go)) all = let before = all_is_still h all in (before.0, before.1 (now s t x))
      all_is_still (Does {t = t} h (Alters x g rest ne)) all =
          let before = all_is_still h (history_before s (Changed i x (g (now s t x))) t all) in (
            (
              subst (λ (w : ℕ). g w ≡ w) (sym (put_at (now s t) x (g (now s t x)))) (before.1.1 (now s t x)),
              still_elsewhere (now s t) x (g (now s t x)) (passed h) before.1.0 before.0,
            ),
            before.1.2,
          )
      all_is_still (Goes h (Leaves x g rest same)) all = let before = all_is_still h all in ((same, before.0), before.1.2)
      all_is_still (Goes h (Opens e f is)) all = (tt, once f.point)
      all_is_still (Does h (Splits e fs g is)) all = (tt, refl)
      all_is_still (Does h (Finishes e outcome is)) all = (tt, refl)
      all_is_still (Goes h (Joins g n fs os over)) all = (tt, once (s.code.rejoin g os).point)
      all_is_still (Goes h (Faults z o' kept)) all = absurd z

  -- what is settled is of what was asked for
  settled_is_still : {i : ℕ} (a : Words) {t : List (Deed A K O)} {σ : State A K E} (h : Comes s ⊥ i t σ) → AllStill a (passed h) → AllStill a (settled h)
  settled_is_still a Begins all = tt
  settled_is_still a (Others d ne h) all = settled_is_still a h all
  settled_is_still a (Goes h (Takes x go)) all = settled_is_still a h all
  settled_is_still a (Goes h (Stores x v rest)) all = settled_is_still a h all
  settled_is_still a (Goes h (Finds x go)) all = settled_is_still a h all
  settled_is_still a (Does h (Alters x g rest ne)) all = all
  settled_is_still a (Goes h (Leaves x g rest same)) all = settled_is_still a h all.1
  settled_is_still a (Goes h (Opens e f is)) all = tt
  settled_is_still a (Does h (Splits e fs g is)) all = tt
  settled_is_still a (Does h (Finishes e outcome is)) all = tt
  settled_is_still a (Goes h (Joins g n fs os over)) all = tt
  settled_is_still a (Goes h (Faults z o' kept)) all = absurd z

-- the law
pub calm_writes_stand : {A K E O : Type 0} (s : System A K E O) → CalmWritesStand s
calm_writes_stand s once calm i t σ h all = settled_is_still s (now s t) h (all_is_still s once calm i h all).0
