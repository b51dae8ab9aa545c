-- The laws of the serial meaning: one end, one outcome, turns are spent, and the whole form ends as the plain one.
use Rattle.std.specs.Prelude.{◌≡◌, ◌≢◌, ◌≤◌, ◌<◌, ◌↔◌, ℕ, ℤ, List}
use Rattle.ppm_words.specs.declared.outcome.Outcome.{Outcome}
use Rattle.ppm_words.specs.declared.outcome.Outcome.TheVariants as outcome
use Rattle.ppm_tree.specs.Tree.{Block, Procedure, ProgramTree}
use Rattle.ppm_tree.specs.State.{TrapAt, Locals, Frame, Arrays}
use Rattle.ppm_tree.specs.Meaning.{Form, Plain, Whole, Counts, End, Ended, Trapped, Runs, Enters}
use Rattle.ppm_tree.specs.Program.{initial_arrays, values_of, Means, outcome_of, Serial}

-- blocks and procedures have one end at most, with one count of what they spend and begin, in each form
pub record HasOneEnd (form : Form) (procedures : List Procedure) : Type 0 where
  pub block : (b : Block) (f : Frame) (a : Arrays) (j k : Counts) (y z : End Locals)
      → Runs form procedures b f a j y → Runs form procedures b f a k z → (j ≡ k) × (y ≡ z)
  pub procedure : (p : Procedure) (f : Frame) (a : Arrays) (j k : Counts) (y z : End ℤ)
      → Enters form procedures p f a j y → Enters form procedures p f a k z → (j ≡ k) × (y ≡ z)

-- blocks and procedures have one end at most, whatever the procedures, in each form
abbrev pub HaveOneEnd : Type 0
HaveOneEnd = (form : Form) (procedures : List Procedure) → HasOneEnd form procedures

-- the run of a program from its own arrays
abbrev pub Spends : ProgramTree → Counts → End ℤ → Type 0
Spends t k z = Means Plain t (values_of (initial_arrays t)) k z

-- Within each number of turns a program has one outcome at most; more turns never change one that is there; its end comes
-- exactly within the turns that are spent, and none exactly where more would be.
pub record SpendsItsTurns (t : ProgramTree) : Type 0 where
  pub one : (n : ℕ) (o p : Outcome) → Serial t n o → Serial t n p → o ≡ p
  pub more : (n m : ℕ) (o : Outcome) → n ≤ m → o ≢ outcome.NotWithin → Serial t n o → Serial t m o
  pub within : (n : ℕ) (k : Counts) (z : End ℤ) → Spends t k z → Serial t n (outcome_of (initial_arrays t) z) ↔ (k.turns ≤ n)
  pub not_within : (n : ℕ) → Serial t n outcome.NotWithin ↔ ((k : Counts) (z : End ℤ) → Spends t k z → n < k.turns)

-- every program has its end exactly within the turns that it spends
abbrev pub SpendTheirTurns : Type 0
SpendTheirTurns = (t : ProgramTree) → SpendsItsTurns t

-- two ends are alike: both without a trap, and the same in all; or at the same trap, the first one after no more turns
pub data IsAlike {A : Type 0} : Counts → End A → Counts → End A → Type 0 where
  Same : (k : Counts) (x : A) (a : Arrays) → IsAlike k (Ended x a) k (Ended x a)
  SameTrap : (j k : Counts) (stop : TrapAt) (a b : Arrays) → j.turns ≤ k.turns → IsAlike j (Trapped stop a) k (Trapped stop b)

-- Where the whole form ends, so does the plain one, alike; where the plain one ends without a trap, the whole one ends the same.
pub record EndsWhole (t : ProgramTree) : Type 0 where
  pub plain : (a : Arrays) (k : Counts) (z : End ℤ) → Means Whole t a k z → (j : Counts) × (y : End ℤ) × Means Plain t a j y × IsAlike j y k z
  pub whole : (a b : Arrays) (k : Counts) (v : ℤ) → Means Plain t a k (Ended v b) → Means Whole t a k (Ended v b)

-- where the whole form of any program ends, so does the plain one, alike; where the plain one ends without a trap, the whole one ends too
abbrev pub EndWhole : Type 0
EndWhole = (t : ProgramTree) → EndsWhole t
