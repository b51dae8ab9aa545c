-- What a run with stamps comes to within a number of capsules: its end, a capsule that meets something, or one more that is next.
use Rattle.std.specs.Prelude.{◌⊎◌, ◌≤◌, ◌+◌, ℕ, []}
use Rattle.ppm_strands.specs.Tree.{Words, Tree, Strand, Call, Fork, Over, Code}
use Rattle.ppm_stamps.specs.Stamps.{Stamps, Meets}
use Rattle.ppm_stamps.specs.Moments.{beside_of, Comes, Moment}

-- the tree is one strand, or over
abbrev pub IsLeaf : {F O : Type 0} → Tree F O → Type 0
IsLeaf (Strand f) = Unit {0}
IsLeaf (Call g t) = ⊥
IsLeaf (Fork g l r) = ⊥
IsLeaf (Over o) = Unit {0}

-- a frame that goes on stands at a capsule, or is over
pub record GoesOnAtOnce {F O : Type 0} (c : Code F O) : Type 0 where
  pub resume : (g : F) (o : O) → IsLeaf (c.resume g o)

-- the run has come to its end with so many capsules at most, and none of them met anything
pub record IsEndedWithin {F O : Type 0} (c : Code F O) (root : Tree F O) (input : Words) (limit : ℕ) : Type 0 where
  pub outcome : O
  pub words : Words
  pub stamps : Stamps
  pub come : Comes c root input [] (Over outcome) words stamps
  pub few : stamps.time ≤ limit + 1

-- one of the first so many capsules meets something, and none before it did
pub record IsMetWithin {F O : Type 0} (c : Code F O) (root : Tree F O) (input : Words) (limit : ℕ) : Type 0 where
  pub number : ℕ
  pub moment : Moment c root input number
  pub few : number ≤ limit
  pub meets : Meets c (beside_of moment.above) moment.frame moment.words moment.stamps

-- within each number of capsules a run comes to one of these, or none of the first so many met anything and one more is next
abbrev pub AreToldWithin : {F O : Type 0} → Code F O → Type 0
AreToldWithin {F} {O} c = (root : Tree F O) (input : Words) (limit : ℕ)
    → IsEndedWithin c root input limit ⊎ (IsMetWithin c root input limit ⊎ Moment c root input (limit + 1))
