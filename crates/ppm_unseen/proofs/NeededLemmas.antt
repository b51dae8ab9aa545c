-- A capsule that is not ordered, and an exchange that does not stand: a run with a fault has a history that no run without has.
use Rattle.std.proofs.Common.{ℕ, suc, ◌≤◌, false, List, [], ◌∷◌, refl, sym, arith}
use Rattle.std.proofs.lemmas.Bool.{true≢false}
use Rattle.ppm_unseen.specs.Capsule.{Capsule, Reads, Changes, Ends, constant, exchange}
use Rattle.ppm_unseen.specs.Run.{Deed, Changed, State, UnderWay}
use Rattle.ppm_unseen.specs.Run.{Comes, Begins, Others, Goes, Does, Finds, Faults, Alters}
use Rattle.ppm_unseen.specs.Conditions.{IsOrdered, IsFilled}
use Rattle.ppm_unseen.specs.Calm.{ChangesOncePast}
use Rattle.ppm_unseen.specs.Needed.{builds_none, counter, returning, FaultsAreVisible, OrderIsNeeded, StandingIsNeeded}
use Rattle.ppm_unseen.proofs.CalmLemmas.{calm_writes_stand}
use Rattle.ppm_unseen.proofs.SingleLemmas.{one_writer_is_calm}
use Rattle.ppm_unseen.proofs.TwoLemmas.{at_each, idle_comes, closes, both_come, only_left, not_twice, keeps_nothing}

-- strand 0 of the counter, with a fault after its put
abbrev counts : ℕ → Capsule ℕ ℕ
counts v = Changes 0 (constant (suc v)) (Ends 0)

counts_twice : (σ : State ℕ ℕ ℕ) × Comes counter (Unit {0}) 0 (Changed 0 0 2 ∷ Changed 0 0 1 ∷ []) σ
counts_twice =
    let read : Comes counter (Unit {0}) 0 [] (UnderWay 0 (counts 0) (λ x. 0)) = Goes Begins (Finds 0 counts) in
    let put : Comes counter (Unit {0}) 0 (Changed 0 0 1 ∷ []) (UnderWay 0 (Ends 0) (λ x. 0)) =
    Does read (Alters 0 (constant 1) (Ends 0) (λ e. omega (arith, e))) in
    let again : Comes counter (Unit {0}) 0 (Changed 0 0 1 ∷ []) (UnderWay 0 (counts 1) (λ x. 0)) =
    Goes (Goes put (Faults tt _ (λ x b. refl))) (Finds 0 counts) in
    (_, Does again (Alters 0 (constant 2) (Ends 0) (λ e. omega (arith, e))))

counter_shows : FaultsAreVisible counter
counter_shows =
    let t : List (Deed ℕ ℕ ℕ) = Changed 0 0 2 ∷ Changed 0 0 1 ∷ [] in
    let all = both_come builds_none (Reads 0 counts) (Ends 0) (Unit {0}) t counts_twice
    (idle_comes counter (Unit {0}) 1 t (λ e. omega (arith, e), (λ e. omega (arith, e), tt))) (λ i a b. (λ e. a (sym e), (λ e. a (sym e), tt))) in
    (t, all, λ without. let few : 2 ≤ 1 = not_twice builds_none (Reads 0 counts) (Ends 0) (λ v. tt) t without in omega (arith, few))

-- it counts twice
pub order_is_needed : OrderIsNeeded
order_is_needed = record {
  filled = λ k. at_each (IsFilled builds_none) (Reads 0 counts) (Ends 0)
      (λ o. (λ x. false, λ v x is. absurd (true≢false (sym is)), λ x b. b)) (keeps_nothing 0) k;
  stands = calm_writes_stand counter (λ k. at_each (ChangesOncePast []) (Reads 0 counts) (Ends 0) (λ v. (λ i. i, λ w. refl, tt)) tt k)
      (one_writer_is_calm counter (closes builds_none (Reads 0 counts) (Ends 0)) 0 (only_left builds_none (Reads 0 counts) (Ends 0) tt));
  visible = counter_shows;
}

-- the strands of `returning`
abbrev there : Capsule ℕ ℕ
there = Changes 0 (exchange 0 1) (Ends 0)

abbrev back : Capsule ℕ ℕ
back = Changes 0 (exchange 1 0) (Ends 0)

-- with a fault after its exchange strand 0 makes it twice
exchanges_twice : (σ : State ℕ ℕ ℕ) × Comes returning (Unit {0}) 0 (Changed 0 0 1 ∷ Changed 1 0 0 ∷ Changed 0 0 1 ∷ []) σ
exchanges_twice =
    let one : Comes returning (Unit {0}) 0 (Changed 0 0 1 ∷ []) (UnderWay 0 (Ends 0) (λ x. 0)) =
    Does Begins (Alters 0 (exchange 0 1) (Ends 0) (λ e. omega (arith, e))) in
    let again : Comes returning (Unit {0}) 0 (Changed 1 0 0 ∷ Changed 0 0 1 ∷ []) (UnderWay 0 there (λ x. 0)) =
    Goes (Others (Changed 1 0 0) (λ e. omega (arith, e)) one) (Faults tt _ (λ x b. refl)) in
    (_, Does again (Alters 0 (exchange 0 1) (Ends 0) (λ e. omega (arith, e))))

-- strand 1 exchanges it back in between
exchanges_back : (σ : State ℕ ℕ ℕ) × Comes returning (Unit {0}) 1 (Changed 0 0 1 ∷ Changed 1 0 0 ∷ Changed 0 0 1 ∷ []) σ
exchanges_back =
    let meanwhile : Comes returning (Unit {0}) 1 (Changed 0 0 1 ∷ []) (UnderWay 1 back (λ x. 0)) = Others (Changed 0 0 1) (λ e. omega (arith, e)) Begins in
    let one : Comes returning (Unit {0}) 1 (Changed 1 0 0 ∷ Changed 0 0 1 ∷ []) (UnderWay 1 (Ends 0) (λ x. 0)) =
    Does meanwhile (Alters 0 (exchange 1 0) (Ends 0) (λ e. omega (arith, e))) in
    (_, Others (Changed 0 0 1) (λ e. omega (arith, e)) one)

returning_shows : FaultsAreVisible returning
returning_shows =
    let t : List (Deed ℕ ℕ ℕ) = Changed 0 0 1 ∷ Changed 1 0 0 ∷ Changed 0 0 1 ∷ [] in
    let all = both_come builds_none there back (Unit {0}) t exchanges_twice exchanges_back
    (λ i a b. (λ e. a (sym e), (λ e. b (sym e), (λ e. a (sym e), tt)))) in
    (t, all, λ without. let few : 2 ≤ 1 = not_twice builds_none there back tt t without in omega (arith, few))

-- the first exchange happens twice
pub standing_is_needed : StandingIsNeeded
standing_is_needed = record {
  ordered = λ k. at_each IsOrdered there back tt tt k;
  filled = λ k. at_each (IsFilled builds_none) there back (keeps_nothing 0) (keeps_nothing 0) k;
  visible = returning_shows;
}
