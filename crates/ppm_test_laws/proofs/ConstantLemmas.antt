-- Where each change of a system puts one and the same number, what is done stands: a word that was changed is that number from then on.
use Rattle.std.proofs.Common.{◌≡◌, ◌∙◌, ℕ, ◌==◌, Bool, true, false, cond, List, [], ◌∷◌, refl, sym}
use Rattle.std.proofs.lemmas.Bool.{cond-true, eq-eqb}
use Rattle.std.specs.Prelude.{Option, Some, None}
use Rattle.ppm_strands.specs.Tree.{Words}
use Rattle.ppm_strands.specs.Ahead.{put}
use Rattle.ppm_strands.specs.Strand.{Frame}
use Rattle.ppm_unseen.specs.Capsule.{Capsule, Loads, Keeps, Reads, Changes, Ends}
use Rattle.ppm_unseen.specs.Run.{System, Deed, Changed, Forked, Finished, doer, State, NotYet, UnderWay, Waits, IsOver, Change, AllStill}
use Rattle.ppm_unseen.specs.Run.{now, numbered, begun_if_any, forked_by, once_done, passed, settled}
use Rattle.ppm_unseen.specs.Run.{Comes, Begins, Others, Goes, Does, Takes, Stores, Finds, Leaves, Opens, Joins, Faults, Alters, Splits, Finishes}
use Rattle.ppm_unseen.specs.Conditions.{Stands}

-- each change on each path puts v
abbrev pub PutsOnly : {A E : Type 0} → ℕ → Capsule A E → Type 0
PutsOnly v (Loads x go) = (w : ℕ) → PutsOnly v (go w)
PutsOnly v (Keeps x w rest) = PutsOnly v rest
PutsOnly v (Reads x go) = (w : ℕ) → PutsOnly v (go w)
PutsOnly v (Changes x g rest) = ((w : ℕ) → g w ≡ v) × PutsOnly v rest
PutsOnly v (Ends e) = Unit {0}

-- these changes put v, and their words are v
abbrev AreDone : ℕ → Words → List Change → Type 0
AreDone v a [] = Unit {0}
AreDone v a (k ∷ ks) = (((w : ℕ) → k.by w ≡ v) × (a k.at ≡ v)) × AreDone v a ks

still : (v : ℕ) (a : Words) (ks : List Change) → AreDone v a ks → AllStill a ks
still v a [] done = tt
still v a (k ∷ ks) done = (done.0.0 (a k.at) ∙ sym done.0.1, still v a ks done.1)

one_of : (b : Bool) (v w u : ℕ) → w ≡ v → u ≡ v → cond b w u ≡ v
one_of true v w u p q = p
one_of false v w u p q = q

done_put : (v : ℕ) (a : Words) (x w : ℕ) → w ≡ v → (ks : List Change) → AreDone v a ks → AreDone v (put a x w) ks
done_put v a x w is [] done = tt
done_put v a x w is (k ∷ ks) done = ((done.0.0, one_of (k.at == x) v w (a k.at) is done.0.1), done_put v a x w is ks done.1)

put_there : (v : ℕ) (a : Words) (x w : ℕ) → w ≡ v → put a x w x ≡ v
put_there v a x w is = cond-true (x == x) w (a x) (eq-eqb x x refl) ∙ is

module _ {A K E O : Type 0} (s : System A K E O) (v : ℕ) (each : (k : K) → PutsOnly v (s.code.capsule k)) where
  -- what is left puts v alone
  abbrev Left : State A K E → Type 0
  Left NotYet = Unit {0}
  Left (UnderWay k rest o) = PutsOnly v rest
  Left (Waits g n fs) = Unit {0}
  Left IsOver = Unit {0}

  left_if_any : (f : Option (Frame A K)) → Left (begun_if_any s f)
  left_if_any None = tt
  left_if_any (Some f) = each f.point

  left_once_done : (i : ℕ) (t : List (Deed A K O)) (d : Deed A K O) (σ : State A K E) → Left σ → Left (once_done s i t d σ)
  left_once_done i t d NotYet l = left_if_any (forked_by s t d i)
  left_once_done i t d (UnderWay k rest o) l = l
  left_once_done i t d (Waits g n fs) l = l
  left_once_done i t d IsOver l = l

  left : {i : ℕ} {t : List (Deed A K O)} {σ : State A K E} → Comes s ⊥ i t σ → Left σ
  left {i = i} Begins = left_if_any (numbered 0 s.start i)
  left {i = i} (Others {t = t} {σ = σ} d ne h) = left_once_done i t d σ (left h)
  left (Goes h (Takes {o = o} x go)) = left h (o x)
  left (Goes h (Stores x w rest)) = left h
  left (Goes {t = t} h (Finds x go)) = left h (now s t x)
  left (Goes h (Leaves x g rest same)) = (left h).1
  left (Goes h (Opens e f is)) = each f.point
  left (Goes h (Joins g n fs os over)) = each (s.code.rejoin g os).point
  left (Goes h (Faults z o' kept)) = absurd z
  left (Does h (Alters x g rest ne)) = (left h).1
  left (Does h (Splits e fs g is)) = tt
  left (Does h (Finishes e outcome is)) = tt

  -- a deed that puts v, if it changes a word
  abbrev Puts : Deed A K O → Type 0
  Puts (Changed who x w) = w ≡ v
  Puts (Forked who fs) = Unit {0}
  Puts (Finished who o) = Unit {0}

  -- those of one strand, and all
  abbrev PutsOf : ℕ → List (Deed A K O) → Type 0
  PutsOf i [] = Unit {0}
  PutsOf i (d ∷ t) = (doer d ≡ i → Puts d) × PutsOf i t

  abbrev PutsAll : List (Deed A K O) → Type 0
  PutsAll [] = Unit {0}
  PutsAll (d ∷ t) = Puts d × PutsAll t

  puts_of : {i : ℕ} {t : List (Deed A K O)} {σ : State A K E} → Comes s ⊥ i t σ → PutsOf i t
  puts_of Begins = tt
  puts_of (Others d ne h) = (λ e. absurd (ne e), puts_of h)
  puts_of (Goes h u) = puts_of h
  puts_of (Does {t = t} h (Alters x g rest ne)) = (λ e. (left h).0 (now s t x), puts_of h)
  puts_of (Does h (Splits e fs g is)) = (λ z. tt, puts_of h)
  puts_of (Does h (Finishes e outcome is)) = (λ z. tt, puts_of h)

  puts_all : (t : List (Deed A K O)) → ((i : ℕ) → PutsOf i t) → PutsAll t
  puts_all [] f = tt
  puts_all (d ∷ t) f = ((f (doer d)).0 refl, puts_all t (λ i. (f i).1))

  done_once_done : (d : Deed A K O) (t : List (Deed A K O)) (ks : List Change) → Puts d → AreDone v (now s t) ks → AreDone v (now s (d ∷ t)) ks
  done_once_done (Changed who x w) t ks is done = done_put v (now s t) x w is ks done
  done_once_done (Forked who fs) t ks is done = done
  done_once_done (Finished who o) t ks is done = done

  -- all that a capsule under way has asked for is done
  done_all : {i : ℕ} {t : List (Deed A K O)} {σ : State A K E} (h : Comes s ⊥ i t σ) → PutsAll t → AreDone v (now s t) (passed h)
  done_all Begins all = tt
  done_all (Others {t = t} d ne h) all = done_once_done d t (passed h) all.0 (done_all h all.1)
  done_all (Goes h (Takes x go)) all = done_all h all
  done_all (Goes h (Stores x w rest)) all = done_all h all
  done_all (Goes h (Finds x go)) all = done_all h all
  done_all (Goes {t = t} h (Leaves x g rest same)) all = (((left h).0, sym same ∙ (left h).0 (now s t x)), done_all h all)
  done_all (Goes h (Opens e f is)) all = tt
  done_all (Goes h (Joins g n fs os over)) all = tt
  done_all (Goes h (Faults z o' kept)) all = absurd z
  done_all (Does {t = t} h (Alters x g rest ne)) all =
      let is = (left h).0 (now s t x) in
      (((left h).0, put_there v (now s t) x (g (now s t x)) is), done_put v (now s t) x (g (now s t x)) is (passed h) (done_all h all.1))
  done_all (Does h (Splits e fs g is)) all = tt
  done_all (Does h (Finishes e outcome is)) all = tt

  -- what is settled is of that
  settled_is_done : {i : ℕ} (a : Words) {t : List (Deed A K O)} {σ : State A K E} (h : Comes s ⊥ i t σ) → AreDone v a (passed h) → AreDone v a (settled h)
  settled_is_done a Begins all = tt
  settled_is_done a (Others d ne h) all = settled_is_done a h all
  settled_is_done a (Goes h (Takes x go)) all = settled_is_done a h all
  settled_is_done a (Goes h (Stores x w rest)) all = settled_is_done a h all
  settled_is_done a (Goes h (Finds x go)) all = settled_is_done a h all
  settled_is_done a (Goes h (Leaves x g rest same)) all = settled_is_done a h all.1
  settled_is_done a (Goes h (Opens e f is)) all = tt
  settled_is_done a (Goes h (Joins g n fs os over)) all = tt
  settled_is_done a (Goes h (Faults z o' kept)) all = absurd z
  settled_is_done a (Does h (Alters x g rest ne)) all = all
  settled_is_done a (Does h (Splits e fs g is)) all = tt
  settled_is_done a (Does h (Finishes e outcome is)) all = tt

  pub constant_puts_stand : Stands s
  constant_puts_stand i t σ h all =
      still v (now s t) (settled h) (settled_is_done (now s t) h (done_all h (puts_all t (λ j. puts_of (all j).1))))
