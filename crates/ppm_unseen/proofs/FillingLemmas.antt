-- Capsules that are not filled: a run with a fault has a history that no run without has.
use Rattle.std.proofs.Common.{◌≡◌, ℕ, ◌+◌, ◌==◌, cond, Bool, List, [], ◌∷◌, refl, sym, ap, ◌∙◌, arith}
use Rattle.std.proofs.lemmas.Bool.{cond_both, cond-false}
use Rattle.ppm_strands.specs.Capsule.{Memory, store}
use Rattle.ppm_strands.specs.Equalities.{numbers}
use Rattle.ppm_unseen.specs.Capsule.{Capsule, Loads, Keeps, Reads, Changes, Ends, Next, GoesOn, Forks, Closes, constant}
use Rattle.ppm_unseen.specs.Run.{System, Deed, Changed, Forked, Finished, doer, State, NotYet, UnderWay, Waits, IsOver}
use Rattle.ppm_unseen.specs.Run.{now, once_done}
use Rattle.ppm_unseen.specs.Run.{Comes, Begins, Others, Goes, Does, Takes, Stores, Finds, Leaves, Opens, Joins, Faults, Alters, Splits, Finishes}
use Rattle.ppm_unseen.specs.Conditions.{HasNoChange, IsOrdered, IsFilled}
use Rattle.ppm_unseen.specs.Calm.{ChangesOncePast}
use Rattle.ppm_unseen.specs.Needed.{builds_none, two, half_filled, dirty, FaultsAreVisible, FillingIsNeeded, BlocksAreToBeFilled}
use Rattle.ppm_unseen.proofs.CalmLemmas.{calm_writes_stand}
use Rattle.ppm_unseen.proofs.SingleLemmas.{way, HasAtMost, one_writer_is_calm}
use Rattle.ppm_unseen.proofs.TwoLemmas.{at_each, idle_comes, closes, both_come, only_left, only_right, keeps_nothing}

-- the strands of `half_filled`
abbrev picks : ℕ → Capsule ℕ ℕ
picks v = cond (v == 0) (Keeps 0 1 (Ends 0)) (Keeps 1 1 (Ends 0))

abbrev puts : Capsule ℕ ℕ
puts = Changes 0 (constant 1) (Ends 0)

-- with a fault between two reads strand 0 keeps both words
keeps_both : (σ : State ℕ ℕ ℕ) × Comes half_filled (Unit {0}) 0 (Finished 0 2 ∷ Changed 1 0 1 ∷ []) σ
keeps_both =
    let first : Comes half_filled (Unit {0}) 0 [] (UnderWay 0 (Keeps 0 1 (Ends 0)) (λ x. 0)) = Goes Begins (Finds 0 picks) in
    let meanwhile : Comes half_filled (Unit {0}) 0 (Changed 1 0 1 ∷ []) (UnderWay 0 (Ends 0) (store numbers (λ x. 0) 0 1)) =
    Others (Changed 1 0 1) (λ e. omega (arith, e)) (Goes first (Stores 0 1 (Ends 0))) in
    let again : Comes half_filled (Unit {0}) 0 (Changed 1 0 1 ∷ []) (UnderWay 0 (Keeps 1 1 (Ends 0)) (store numbers (λ x. 0) 0 1)) =
    Goes (Goes meanwhile (Faults tt _ (λ x b. refl))) (Finds 0 picks) in
    (_, Does (Goes again (Stores 1 1 (Ends 0))) (Finishes 0 2 refl))

-- strand 1 puts its word
puts_once : (σ : State ℕ ℕ ℕ) × Comes half_filled (Unit {0}) 1 (Finished 0 2 ∷ Changed 1 0 1 ∷ []) σ
puts_once =
    let put : Comes half_filled (Unit {0}) 1 (Changed 1 0 1 ∷ []) (UnderWay 1 (Ends 0) (λ x. 0)) =
    Does Begins (Alters 0 (constant 1) (Ends 0) (λ e. omega (arith, e))) in
    (_, Others (Finished 0 2) (λ e. omega (arith, e)) put)

-- from here on, without faults, no path ends with both words kept
abbrev KeepsOne : Memory ℕ → Capsule ℕ ℕ → Type 0
KeepsOne o (Loads x go) = KeepsOne o (go (o x))
KeepsOne o (Keeps x v rest) = KeepsOne (store numbers o x v) rest
KeepsOne o (Reads x go) = (v : ℕ) → KeepsOne o (go v)
KeepsOne o (Changes x g rest) = KeepsOne o rest
KeepsOne o (Ends e) = o 0 + o 1 ≡ 2 → ⊥

abbrev KeepsOneAt : State ℕ ℕ ℕ → Type 0
KeepsOneAt NotYet = ⊥
KeepsOneAt (UnderWay k rest o) = KeepsOne o rest
KeepsOneAt (Waits g n fs) = ⊥
KeepsOneAt IsOver = Unit {0}

-- the strand is not over with 2
abbrev NotWithTwo : ℕ → List (Deed ℕ ℕ ℕ) → Type 0
NotWithTwo i [] = Unit {0}
NotWithTwo i (d ∷ t) = (d ≡ Finished i 2 → ⊥) × NotWithTwo i t

-- the outcome with which an end closes a strand, and that of a strand that is over
abbrev outcome_of : Next ℕ ℕ ℕ → ℕ
outcome_of (GoesOn f) = 0
outcome_of (Forks fs g) = 0
outcome_of (Closes o) = o

abbrev told_of : Deed ℕ ℕ ℕ → ℕ
told_of (Changed who x v) = 0
told_of (Forked who fs) = 0
told_of (Finished who o) = o

-- the ways of strand 0 keep one word
picks_one : (v : ℕ) → KeepsOne (λ x. 0) (picks v)
picks_one v = cond_both (v == 0) (Keeps 0 1 (Ends 0)) (Keeps 1 1 (Ends 0)) (KeepsOne (λ x. 0)) (λ is e. omega (arith, e)) (λ isnt e. omega (arith, e))

-- once another has done something
keeps_one_once_done : (s : System ℕ ℕ ℕ ℕ) (t : List (Deed ℕ ℕ ℕ)) (d : Deed ℕ ℕ ℕ) (σ : State ℕ ℕ ℕ) → KeepsOneAt σ → KeepsOneAt (once_done s 0 t d σ)
keeps_one_once_done s t d NotYet h = absurd h
keeps_one_once_done s t d (UnderWay k rest o) h = h
keeps_one_once_done s t d (Waits g n fs) h = absurd h
keeps_one_once_done s t d IsOver h = h

-- another deed is not that end
differs : (d : Deed ℕ ℕ ℕ) → told_of d ≡ 0 → d ≡ Finished 0 2 → ⊥
differs d none e = let two : told_of d ≡ 2 = ap told_of e in omega (arith, none, two)

module _ (builds : ℕ → Bool) (left right : Capsule ℕ ℕ) (may : KeepsOne (λ x. 0) left) where
  -- without faults strand 0 is never over with 2
  pub keeps_one : {t : List (Deed ℕ ℕ ℕ)} {σ : State ℕ ℕ ℕ} → Comes (two builds left right) ⊥ 0 t σ → KeepsOneAt σ × NotWithTwo 0 t
  keeps_one Begins = (may, tt)
  keeps_one (Others {t = t} {σ = σ} d ne h) = let so = keeps_one h in (keeps_one_once_done (two builds left right) t d σ so.0, (λ e. ne (ap doer e), so.1))
  keeps_one (Goes h (Takes {o = o} x go)) = keeps_one h
  keeps_one (Goes h (Stores x v rest)) = keeps_one h
  keeps_one (Goes {t = t} h (Finds x go)) = let so = keeps_one h in (so.0 (now (two builds left right) t x), so.1)
  keeps_one (Does {t = t} h (Alters x g rest ne)) =
      let so = keeps_one h in (so.0, (λ e. differs (Changed 0 x (g (now (two builds left right) t x))) refl e, so.1))
  keeps_one (Goes h (Leaves x g rest same)) = keeps_one h
  keeps_one (Goes h (Opens e f is)) = let two_is_zero : 2 ≡ 0 = ap way is in absurd (omega (arith, two_is_zero))
  keeps_one (Does h (Splits e fs g is)) = let two_is_one : 2 ≡ 1 = ap way is in absurd (omega (arith, two_is_one))
  keeps_one (Does h (Finishes {o = o} e outcome is)) =
      let so = keeps_one h in
      let sum : o 0 + o 1 ≡ outcome = ap outcome_of is in
      (tt, (λ e. so.0 (sum ∙ ap told_of e), so.1))
  keeps_one (Goes h (Joins g n fs os over)) = absurd (keeps_one h).0
  keeps_one (Goes h (Faults z o' kept)) = absurd z

half_filled_shows : FaultsAreVisible half_filled
half_filled_shows =
    let t : List (Deed ℕ ℕ ℕ) = Finished 0 2 ∷ Changed 1 0 1 ∷ [] in
    let all = both_come builds_none (Reads 0 picks) puts (Unit {0}) t keeps_both puts_once (λ i a b. (λ e. a (sym e), (λ e. b (sym e), tt))) in
    (t, all, λ without. (keeps_one builds_none (Reads 0 picks) puts picks_one (without 0).1).1.0 refl)

-- both words are kept
pub filling_is_needed : FillingIsNeeded
filling_is_needed = record {
  ordered = λ k. at_each IsOrdered (Reads 0 picks) puts
      (λ v. cond_both (v == 0) (Keeps 0 1 (Ends 0)) (Keeps 1 1 (Ends 0)) HasNoChange (λ e. tt) (λ e. tt)) tt k;
  stands = calm_writes_stand half_filled (λ k. at_each (ChangesOncePast []) (Reads 0 picks) puts
      (λ v. cond_both (v == 0) (Keeps 0 1 (Ends 0)) (Keeps 1 1 (Ends 0)) (ChangesOncePast []) (λ e. tt) (λ e. tt)) (λ i. i, λ w. refl, tt) k)
      (one_writer_is_calm half_filled (closes builds_none (Reads 0 picks) puts) 1 (only_right builds_none (Reads 0 picks) puts
      (λ v. cond_both (v == 0) (Keeps 0 1 (Ends 0)) (Keeps 1 1 (Ends 0)) (HasAtMost 0) (λ e. tt) (λ e. tt))));
  visible = half_filled_shows;
}

-- with a fault own word 0 of strand 0 of `dirty` is 2, though nothing was stored there
abbrev left_over : Memory ℕ
left_over x = cond (x == 0) 2 0

finds_dirt : (σ : State ℕ ℕ ℕ) × Comes dirty (Unit {0}) 0 (Finished 0 2 ∷ []) σ
finds_dirt = (_, Does (Goes Begins (Faults tt left_over (λ x b. cond-false (x == 0) 2 0 b))) (Finishes 0 2 refl))

dirty_shows : FaultsAreVisible dirty
dirty_shows =
    let t : List (Deed ℕ ℕ ℕ) = Finished 0 2 ∷ [] in
    let all = both_come (λ x. x == 0) (Ends 0) (Ends 0) (Unit {0}) t finds_dirt (idle_comes dirty (Unit {0}) 1 t (λ e. omega (arith, e), tt))
    (λ i a b. (λ e. a (sym e), tt)) in
    (t, all, λ without. (keeps_one (λ x. x == 0) (Ends 0) (Ends 0) (λ e. omega (arith, e)) (without 0).1).1.0 refl)

-- what was left over is told
pub blocks_are_to_be_filled : BlocksAreToBeFilled
blocks_are_to_be_filled = record {
  ordered = λ k. at_each IsOrdered (Ends 0) (Ends 0) tt tt k;
  filled = λ k. at_each (IsFilled builds_none) (Ends 0) (Ends 0) (keeps_nothing 0) (keeps_nothing 0) k;
  stands = calm_writes_stand dirty (λ k. at_each (ChangesOncePast []) (Ends 0) (Ends 0) tt tt k)
      (one_writer_is_calm dirty (closes (λ x. x == 0) (Ends 0) (Ends 0)) 0 (only_left (λ x. x == 0) (Ends 0) (Ends 0) tt));
  visible = dirty_shows;
}
