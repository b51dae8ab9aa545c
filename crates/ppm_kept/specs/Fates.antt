-- What has come of each right branch so far, and that the skeleton says the same of those that no place
-- has run.
use Rattle.std.specs.Prelude.{◌≡◌, ◌⊎◌, ◌≤◌, ℕ}
use Rattle.ppm_cells.specs.declared.link.LinkKind.TheVariants.{Root}
use Rattle.ppm_cells.specs.declared.restart.RestartKind.TheVariants.{Bump, Push1, Push2, Join}
use Rattle.ppm_cells.specs.declared.side.Side.{Side}
use Rattle.ppm_strands.specs.Tree.{Words, Tree}
use Rattle.ppm_strands.specs.Strand.{Frame}
use Rattle.ppm_code.specs.Strands.{Point, Result}
use Rattle.ppm_code.specs.declared.location.FrameWord.{FrameWord}
use Rattle.ppm_step.specs.declared.row.Row.TheVariants.{Now}
use Rattle.ppm_step.specs.declared.row.Then.TheVariants.{Fork, Begin}
use Rattle.ppm_frames.specs.Skeletons.{Stand, Who, Fresh, Waiting, Held, Skeleton, Leaf, count}
use Rattle.ppm_kept.specs.Running.{IsFair}
use Rattle.ppm_kept.specs.Kept.{Setting, InRow, State, put, IsKept}
use Rattle.ppm_kept.specs.Takes.{IsWaiting}
use Rattle.ppm_kept.specs.Unruns.{HasUnrun, SameUnruns, OneChanges, IsNone, Is}

-- what has come of the right branch of a block
pub data Fate : Type 0 where
  Unborn : Fate  -- its fork was not made yet
  ToPush : Fate  -- a place has still to push it
  Offered : Fate  -- it may be taken, or is about to be begun by who took it or got it back
  Inline : Fate  -- it is left to the strand of its left branch
  Begun : Fate

-- the skeleton says so, of each that no place has run, and has each that is said to be one
pub record Agrees (t : Skeleton) (fate : ℕ → Fate) : Type 0 where
  pub fresh : (r : ℕ) → HasUnrun Fresh r t → (fate r ≡ Unborn) ⊎ (fate r ≡ ToPush)
  pub held : (r : ℕ) → HasUnrun Held r t → (fate r ≡ ToPush) ⊎ (fate r ≡ Inline)
  pub waiting : (r : ℕ) → HasUnrun Waiting r t → fate r ≡ Offered
  pub to_push : (r : ℕ) → fate r ≡ ToPush → HasUnrun Fresh r t ⊎ HasUnrun Held r t
  pub offered : (r : ℕ) → fate r ≡ Offered → HasUnrun Waiting r t
  pub inline : (r : ℕ) → fate r ≡ Inline → HasUnrun Held r t

-- the skeleton still agrees with the fates after each step that changes the right branch of block r, or what is said of it
pub record FatesStay (t u : Skeleton) (fate : ℕ → Fate) (r : ℕ) : Type 0 where
  pub same : SameUnruns t u → Agrees u fate
  -- a block is opened, its fork is made, and pushed
  pub opens : OneChanges r IsNone (Is Fresh) t u → fate r ≡ Unborn → Agrees u fate
  pub forks : HasUnrun Fresh r t ⊎ HasUnrun Held r t → fate r ≡ Unborn
      → Agrees t (put fate r ToPush)
  pub offers : OneChanges r (Is Fresh) (Is Waiting) t u → Agrees u (put fate r Offered)
  -- or it is held, and left to the strand
  pub holds : OneChanges r (Is Fresh) (Is Held) t u → fate r ≡ ToPush → Agrees u fate
  pub leaves : HasUnrun Held r t → Agrees t (put fate r Inline)
  -- it is taken, or the strand goes on with it
  pub takes : OneChanges r (Is Waiting) IsNone t u → Agrees u (put fate r Begun)
  pub goes_on : OneChanges r (Is Held) IsNone t u → Agrees u (put fate r Begun)

-- of each tree that has no word twice
abbrev pub AllFatesStay : Type 0
AllFatesStay = (t u : Skeleton) (fate : ℕ → Fate) (r : ℕ) → ((x : ℕ) → count Root t x ≤ 1)
    → Agrees t fate → FatesStay t u fate r

-- at the end of a run none is left that was forked and not begun
abbrev pub NoneIsLeft : Type 0
NoneIsLeft = (w : Who) (st : Stand) (f n : ℕ) (fate : ℕ → Fate) → Agrees (Leaf w st f n) fate
    → (r : ℕ) → (fate r ≡ Unborn) ⊎ (fate r ≡ Begun)

-- What it says of words that are kept. Of a branch that has still to be pushed the deque's half says
-- which place is to push it.
pub record FatesShow (i : Setting) (s : State) (t : Skeleton) (fate : ℕ → Fate) : Type 0 where
  pub waits : (r : ℕ) → fate r ≡ Offered → IsWaiting t r
  pub forks : (p q r : ℕ) → s.kind p ≡ Bump q → s.doing p ≡ InRow (Now (Fork r))
      → HasUnrun Fresh r t ⊎ HasUnrun Held r t
  pub joins : (p r : ℕ) (d : Side) (q f b : ℕ) → s.kind p ≡ Join r d
      → s.doing p ≡ InRow (Now (Begin q f b))
      → (fate r ≡ ToPush → (o : ℕ) × ((s.kind o ≡ Push1 r) ⊎ (s.kind o ≡ Push2 r)))
      → (q ≡ r) × (fate r ≡ Inline)
  pub once : (r : ℕ) (w v : Who) → HasUnrun w r t → HasUnrun v r t → w ≡ v

-- of all such words
abbrev pub AllFatesShow : Type 0
AllFatesShow = (i : Setting) → IsFair i.code
    → (root : Tree (Frame FrameWord Point) Result) (input : Words) (s : State) (t : Skeleton)
    → IsKept i root input s t → (fate : ℕ → Fate) → Agrees t fate → FatesShow i s t fate
