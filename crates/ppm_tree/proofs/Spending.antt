-- Turns are spent: what comes within a number of turns comes within more, and nothing else does.
use Rattle.std.proofs.Common.{◌≡◌, ◌≢◌, ◌≤◌, ◌<◌, ℕ, ℤ, List, refl, sym, ap, arith}
use Rattle.ppm_words.specs.declared.named_array.NamedArray.{NamedArray}
use Rattle.ppm_words.specs.declared.outcome.Outcome.{Outcome}
use Rattle.ppm_words.specs.declared.outcome.Outcome.TheVariants as outcome
use Rattle.ppm_tree.specs.Tree.{ProgramTree}
use Rattle.ppm_tree.specs.Meaning.{Plain, Counts, End, Ended, Trapped}
use Rattle.ppm_tree.specs.Program.{initial_arrays, outcome_of, Serial, Within, NotWithin}
use Rattle.ppm_tree.specs.Correct.{Spends, SpendsItsTurns}
use Rattle.ppm_tree.proofs.OneEnd.{one_end}

-- an end is an outcome of its own
some_outcome : (arrays : List NamedArray) (z : End ℤ) → outcome_of arrays z ≡ outcome.NotWithin → ⊥
some_outcome arrays (Ended v values) p = cc
some_outcome arrays (Trapped stop values) p = cc

module _ (t : ProgramTree) where
  -- what is spent is spent alike
  spent_once : (j k : Counts) (y z : End ℤ) → Spends t j y → Spends t k z → (j ≡ k) × (y ≡ z)
  spent_once j k y z r r' = (one_end Plain t.procedures).procedure _ _ _ j k y z r r'

  no_less : (n : ℕ) (j k : Counts) → j ≡ k → j.turns ≤ n → n < k.turns → ⊥
  no_less n j k p low high = let e : j.turns ≡ k.turns = ap (λ (k : Counts). k.turns) p in omega (arith, low, high, e)

  one_outcome : (n : ℕ) (o p : Outcome) → Serial t n o → Serial t n p → o ≡ p
  one_outcome n _ _ (Within k z r low) (Within k' z' r' low') = ap (outcome_of (initial_arrays t)) (spent_once k k' z z' r r').1
  one_outcome n _ _ (Within k z r low) (NotWithin more) = let over = more k z r in absurd (omega (arith, low, over))
  one_outcome n _ _ (NotWithin more) (Within k z r low) = let over = more k z r in absurd (omega (arith, low, over))
  one_outcome n _ _ (NotWithin more) (NotWithin more') = refl

  more_turns : (n m : ℕ) (o : Outcome) → n ≤ m → o ≢ outcome.NotWithin → Serial t n o → Serial t m o
  more_turns n m _ le some (Within k z r low) = Within k z r (omega (arith, low, le))
  more_turns n m _ le some (NotWithin more) = absurd (some refl)

  within_turns : (n : ℕ) (o : Outcome) → Serial t n o → (k : Counts) (z : End ℤ) → Spends t k z → o ≡ outcome_of (initial_arrays t) z → k.turns ≤ n
  within_turns n _ (Within k' z' r' low) k z r is = let e : k'.turns ≡ k.turns =
      ap (λ (k : Counts). k.turns) (spent_once k' k z' z r' r).0 in omega (arith, low, e)
  within_turns n _ (NotWithin more) k z r is = absurd (some_outcome (initial_arrays t) z (sym is))

  beyond_turns : (n : ℕ) (o : Outcome) → Serial t n o → o ≡ outcome.NotWithin → (k : Counts) (z : End ℤ) → Spends t k z → n < k.turns
  beyond_turns n _ (Within k' z' r' low) is k z r = absurd (some_outcome (initial_arrays t) z' is)
  beyond_turns n _ (NotWithin more) is k z r = more k z r

  pub spends_its_turns : SpendsItsTurns t
  spends_its_turns = record {
    one = one_outcome;
    more = more_turns;
    within = λ n k z r. ((λ s. within_turns n _ s k z r refl), (λ low. Within k z r low));
    not_within = λ n. ((λ s. beyond_turns n _ s refl), (λ more. NotWithin more));
  }
