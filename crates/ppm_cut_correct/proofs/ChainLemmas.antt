-- Chains of steps in turn, with bounds on the capsules and with the forks and block words that they count.
use Rattle.std.proofs.Common.{◌≡◌, ◌≤◌, ℕ, suc, ◌+◌, refl, ◌∙◌, subst, arith}
use Rattle.ppm_strands.specs.Tree.{Words, Tree, Call, Fork, Over, Code}
use Rattle.ppm_strands.specs.Run.{Counts as CapsuleCounts, none, plus, rejoin}
use Rattle.ppm_strands.specs.Ahead.{Step, Return, Join, Done, More}
use Rattle.ppm_strands.specs.Turn.{IsInTurn, StepsInTurn}
use Rattle.ppm_strands.proofs.OrderLemmas.{then_steps, under, left, right}

-- at least so many capsules and at most so many, so many forks and block words
pub record Cost : Type 0 where
  pub least : ℕ
  pub most : ℕ
  pub forks : ℕ
  pub words : ℕ

abbrev pub cost : (least most forks words : ℕ) → Cost
cost least most forks words = record { least = least; most = most; forks = forks; words = words }

-- one after the other
abbrev pub both_costs : Cost → Cost → Cost
both_costs j k = record { least = j.least + k.least; most = j.most + k.most; forks = j.forks + k.forks; words = j.words + k.words }

-- the counts keep to it
pub record KeepsTo (k : Cost) (i : CapsuleCounts) : Type 0 where
  pub least : k.least ≤ i.capsules
  pub most : i.capsules ≤ k.most
  pub forks : i.forks ≡ k.forks
  pub words : i.block_words ≡ k.words

-- the second cost is no narrower
pub record IsWithinCost (j k : Cost) : Type 0 where
  pub least : k.least ≤ j.least
  pub most : j.most ≤ k.most
  pub forks : j.forks ≡ k.forks
  pub words : j.words ≡ k.words

-- from its four parts
pub within_cost : {j k : Cost} → k.least ≤ j.least → j.most ≤ k.most → j.forks ≡ k.forks → j.words ≡ k.words → IsWithinCost j k
within_cost least most forks words = record { least = least; most = most; forks = forks; words = words }

module _ {F O : Type 0} (c : Code F O) where
  abbrev pub Chain : Cost → Tree F O → Words → Tree F O → Words → Type 0
  Chain k t a u b = (i : CapsuleCounts) × StepsInTurn c i t a u b × KeepsTo k i

  -- a chain of at least n capsules
  abbrev pub Long : ℕ → Tree F O → Words → Type 0
  Long n t a = (i : CapsuleCounts) × (u : Tree F O) × (b : Words) × StepsInTurn c i t a u b × (n ≤ i.capsules)

  pub chain_none : (t : Tree F O) (a : Words) → Chain (cost 0 0 0 0) t a t a
  chain_none t a = (
    none,
    (Done t a, tt),
    record {
      least = omega arith;
      most = omega arith;
      forks = refl;
      words = refl;
    },
  )

  pub chain_then : {j k : Cost} {t u v : Tree F O} {a b d : Words} → Chain j t a u b → Chain k u b v d → Chain (both_costs j k) t a v d
  chain_then p q = (
    plus p.0 q.0,
    then_steps c p.1.0 p.1.1 q.1,
    record {
      least = omega (arith, p.2.least, q.2.least);
      most = omega (arith, p.2.most, q.2.most);
      forks = omega (arith, p.2.forks, q.2.forks);
      words = omega (arith, p.2.words, q.2.words);
    },
  )

  pub chain_weaken : {j k : Cost} {t u : Tree F O} {a b : Words} → IsWithinCost j k → Chain j t a u b → Chain k t a u b
  chain_weaken w p = (
    p.0,
    p.1,
    record {
      least = omega (arith, p.2.least, w.least);
      most = omega (arith, p.2.most, w.most);
      forks = p.2.forks ∙ w.forks;
      words = p.2.words ∙ w.words;
    },
  )

  -- the steps of a part
  pub chain_under : (g : F) {k : Cost} {t u : Tree F O} {a b : Words} → Chain k t a u b → Chain k (Call g t) a (Call g u) b
  chain_under g p = (p.0, under c g p.1.0 p.1.1, p.2)

  pub chain_left : (g : F) (r : Tree F O) {k : Cost} {t u : Tree F O} {a b : Words} → Chain k t a u b → Chain k (Fork g t r) a (Fork g u r) b
  chain_left g r p = (p.0, left c g r p.1.0 p.1.1, p.2)

  pub chain_right : (g : F) (o : O) {k : Cost} {t u : Tree F O} {a b : Words} → Chain k t a u b → Chain k (Fork g (Over o) t) a (Fork g (Over o) u) b
  chain_right g o p = (p.0, right c g o p.1.0 p.1.1, p.2)

  -- a step without capsules at the end
  chain_last : {k : Cost} {t u v : Tree F O} {a b : Words} → Chain k t a u b → (s : Step c none u b v b) → IsInTurn s → Chain k t a v b
  chain_last {v = v} {b = b} p s turn = (
    plus p.0 none,
    then_steps c p.1.0 p.1.1 (More s (Done v b), (turn, tt)),
    record {
      least = omega (arith, p.2.least);
      most = omega (arith, p.2.most);
      forks = omega (arith, p.2.forks);
      words = omega (arith, p.2.words);
    },
  )

  pub chain_return : (g : F) (o : O) (v : Tree F O) {k : Cost} {t : Tree F O} {a b : Words} → c.resume g o ≡ v → Chain k t a (Call g (Over o)) b
      → Chain k t a v b
  chain_return g o v {k = k} {t = t} {a = a} {b = b} is p = subst (λ (w : Tree F O). Chain k t a w b) is (chain_last p (Return g o b) tt)

  pub chain_join : (g : F) (o p : O) (v : Tree F O) {k : Cost} {t : Tree F O} {a b : Words}
      → rejoin c g o p ≡ v → Chain k t a (Fork g (Over o) (Over p)) b → Chain k t a v b
  chain_join g o p v {k = k} {t = t} {a = a} {b = b} is q = subst (λ (w : Tree F O). Chain k t a w b) is (chain_last q (Join g o p b) tt)

  -- long chains
  pub long_none : (t : Tree F O) (a : Words) → Long 0 t a
  long_none t a = (none, t, a, (Done t a, tt), omega arith)

  pub long_then : {k : Cost} {t u : Tree F O} {a b : Words} (n : ℕ) → 1 ≤ k.least → Chain k t a u b → Long n u b → Long (suc n) t a
  long_then n some p q = (plus p.0 q.0, q.1, q.2, then_steps c p.1.0 p.1.1 q.3, omega (arith, some, p.2.least, q.4))

  pub long_under : (g : F) {t : Tree F O} {a : Words} (n : ℕ) → Long n t a → Long n (Call g t) a
  long_under g n p = (p.0, Call g p.1, p.2, under c g p.3.0 p.3.1, p.4)

  pub long_left : (g : F) (r : Tree F O) {t : Tree F O} {a : Words} (n : ℕ) → Long n t a → Long n (Fork g t r) a
  long_left g r n p = (p.0, Fork g p.1 r, p.2, left c g r p.3.0 p.3.1, p.4)

  pub long_right : (g : F) (o : O) {t : Tree F O} {a : Words} (n : ℕ) → Long n t a → Long n (Fork g (Over o) t) a
  long_right g o n p = (p.0, Fork g (Over o) p.1, p.2, right c g o p.3.0 p.3.1, p.4)
