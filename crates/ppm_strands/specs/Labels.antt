-- Trees whose frames carry labels that say what they own. A label is no function of the frame, so what a frame owns may be said by more
-- than the frame has.
use Rattle.std.specs.Prelude.{ℕ}
use Rattle.ppm_strands.specs.Tree.{Words, Tree, Strand, Call, Fork, Over, Code, Has}

module _ {L : Type 0} (Owns MayWrite : L → ℕ → Type 0) where
  -- the first label owns no more than the second, and may write no more
  pub record IsLess (m l : L) : Type 0 where
    pub owned : (x : ℕ) → Owns m x → Owns l x
    pub written : (x : ℕ) → MayWrite m x → MayWrite l x

  -- neither may write what the other owns
  pub record AreApart (m k : L) : Type 0 where
    pub left : (x : ℕ) → MayWrite m x → Owns k x → ⊥
    pub right : (x : ℕ) → Owns m x → MayWrite k x → ⊥

-- a frame at its capsule has a label by the one relation, a frame that waits by the other
module _ {F O : Type 0} {L : Type 0} (Owns MayWrite : L → ℕ → Type 0) (Runs Waits : L → F → Type 0) where
  -- a tree that owns no more than the label says, the branches of each fork apart
  abbrev pub IsGood : L → Tree F O → Type 0
  IsGood l (Strand f) = Runs l f
  IsGood l (Call g t) = Waits l g × (m : L) × IsGood m t × IsLess Owns MayWrite m l
  IsGood l (Fork g t u) =
      Waits l g × (m : L) × (k : L) × IsGood m t × IsGood k u × IsLess Owns MayWrite m l × IsLess Owns MayWrite k l × AreApart Owns MayWrite m k
  IsGood l (Over o) = Unit {0}

  -- a capsule touches only words that its label owns, and what comes of a frame owns no more than its label
  pub record Respects (c : Code F O) : Type 0 where
    pub reads : (l : L) (f : F) (a : Words) → Runs l f → (x : ℕ) → Has x (c.reads f a) → Owns l x
    pub writes : (l : L) (f : F) (a : Words) → Runs l f → (x : ℕ) → Has x (c.writes f a) → MayWrite l x
    pub owns_what_it_writes : (l : L) (x : ℕ) → MayWrite l x → Owns l x
    pub opens : (l : L) (f : F) (a : Words) → Runs l f → IsGood l (c.next f a)
    pub resumes : (l : L) (g : F) (o : O) → Waits l g → IsGood l (c.resume g o)
    pub keeps : (l : L) (g : F) (o : O) → Waits l g → Waits l (c.kept g o)
