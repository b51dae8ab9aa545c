-- The right branches that no place has run yet, as the skeleton shows them: not pushed, waiting, or
-- held; and what each step makes of them.
use Rattle.std.specs.Prelude.{◌≡◌, ◌≢◌, ◌⊎◌, ◌≤◌, ℕ, ◌+◌, true}
use Rattle.ppm_cells.specs.declared.cell.Cell.TheVariants.{BlockWord}
use Rattle.ppm_cells.specs.declared.link.LinkKind.TheVariants.{Root, Call as Called, Fork as Forked}
use Rattle.ppm_cells.specs.declared.restart.Restart.{Restart}
use Rattle.ppm_cells.specs.declared.restart.RestartKind.{RestartKind}
use Rattle.ppm_cells.specs.declared.restart.RestartKind.TheVariants.{Run, Bump, Push1, Push2, Join}
use Rattle.ppm_cells.specs.declared.side.Side.{Side}
use Rattle.ppm_strands.specs.Tree.{Words, Tree}
use Rattle.ppm_strands.specs.Strand.{Frame}
use Rattle.ppm_code.specs.Strands.{Point, Result}
use Rattle.ppm_code.specs.declared.location.FrameWord.{FrameWord}
use Rattle.ppm_step.specs.Rows.{is_inline}
use Rattle.ppm_step.specs.declared.row.Row.TheVariants.{Now}
use Rattle.ppm_step.specs.declared.row.Then.TheVariants.{Install, Begin}
use Rattle.ppm_frames.specs.Skeletons.{Who, Fresh, Waiting, Held, Skeleton, Leaf, Calling, Forking, pushed, over_left, take_in, count}
use Rattle.ppm_frames.specs.Good.{link_at}
use Rattle.ppm_kept.specs.Running.{IsFair}
use Rattle.ppm_kept.specs.Branches.{Waits}
use Rattle.ppm_kept.specs.Kept.{Setting, InRow, State, IsKept}
use Rattle.ppm_kept.specs.Moves.{by_install}
use Rattle.ppm_kept.specs.Returns.{by_unwind}
use Rattle.ppm_kept.specs.Arriving.{by_arrive}
use Rattle.ppm_kept.specs.Joins.{by_join}
use Rattle.ppm_kept.specs.Births.{IsSteady}

-- whose the leaf of a branch is that was not run
abbrev pub IsUnrun : Who → Type 0
IsUnrun Fresh = Unit {0}
IsUnrun Waiting = Unit {0}
IsUnrun Held = Unit {0}
IsUnrun _ = ⊥

-- a leaf that is nobody else's
abbrev pub IsLeafOf : Who → Skeleton → Type 0
IsLeafOf w (Leaf v st f n) = v ≡ w
IsLeafOf w _ = ⊥

-- in the tree, the right branch of block r is such a leaf
abbrev pub HasUnrun : (w : Who) (r : ℕ) → Skeleton → Type 0
HasUnrun w r (Leaf v st f n) = ⊥
HasUnrun w r (Calling f n y t) = HasUnrun w r t
HasUnrun w r (Forking f n y q a b) = ((q ≡ r) × IsLeafOf w b) ⊎ (HasUnrun w r a ⊎ HasUnrun w r b)

-- two trees have the same ones
pub record SameUnruns (t u : Skeleton) : Type 0 where
  pub on : (w : Who) → IsUnrun w → (r : ℕ) → HasUnrun w r t → HasUnrun w r u
  pub back : (w : Who) → IsUnrun w → (r : ℕ) → HasUnrun w r u → HasUnrun w r t

-- but for that of block r, which was as the first says, and is as the second
pub record OneChanges (r : ℕ) (was now : Who → Type 0) (t u : Skeleton) : Type 0 where
  pub others : (w : Who) → IsUnrun w → (x : ℕ) → x ≢ r
      → (HasUnrun w x t → HasUnrun w x u) × (HasUnrun w x u → HasUnrun w x t)
  pub old : (w : Who) → IsUnrun w → (HasUnrun w r t → was w) × (was w → HasUnrun w r t)
  pub new : (w : Who) → IsUnrun w → (HasUnrun w r u → now w) × (now w → HasUnrun w r u)

-- it is run, or was not there; it is this
abbrev pub IsNone : Who → Type 0
IsNone w = ⊥

abbrev pub Is : (v w : Who) → Type 0
Is v w = v ≡ w

-- of the skeletons that the laws of rows give for the steps of place p
pub record UnrunsStay (i : Setting) (s : State) (t : Skeleton) (p : ℕ) : Type 0 where
  -- the end of a capsule that opens no block, an install of Unwind, an arrival
  pub runs : (f y : ℕ) (kind : RestartKind) → IsSteady kind
      → SameUnruns t (by_install i s.words p (Run f y) kind t)
  pub unwinds : (kind : RestartKind) → SameUnruns t (by_unwind p kind t)
  pub arrives : (r : ℕ) → SameUnruns t (by_arrive s.words p r t)
  -- a block is opened, for a call or for a fork
  pub calls : (f y r g z : ℕ) → (link_at (s.words (BlockWord r))).kind ≡ Called g z
      → SameUnruns t (by_install i s.words p (Run f y) (Bump r) t)
  pub opens : (f y r g z : ℕ) → s.kind p ≡ Run f y
      → (link_at (s.words (BlockWord r))).kind ≡ Forked g z
      → ((x : ℕ) → count Root (by_install i s.words p (Run f y) (Bump r) t) x ≤ 1)
      → OneChanges r IsNone (Is Fresh) t (by_install i s.words p (Run f y) (Bump r) t)
  -- a fork is pushed, and may then be taken, or is held; nothing changes where it was pushed before
  pub pushes : (r : ℕ) (u : Who) → IsUnrun u → (s.kind p ≡ Push1 r) ⊎ (s.kind p ≡ Push2 r)
      → HasUnrun Fresh r t → OneChanges r (Is Fresh) (Is u) t (over_left p (pushed u) t)
  pub pushed_before : (r : ℕ) (u : Who) → (s.kind p ≡ Push1 r) ⊎ (s.kind p ≡ Push2 r)
      → (HasUnrun Fresh r t → ⊥) → over_left p (pushed u) t ≡ t
  -- a branch that waits is taken
  pub takes : (r f : ℕ) → Waits r f t → OneChanges r (Is Waiting) IsNone t (take_in r p t)
  -- the joins, and the held branch that one strand goes on with
  pub joins : (r : ℕ) (d : Side) (restart : Restart) → s.kind p ≡ Join r d
      → s.doing p ≡ InRow (Now (Install restart)) → SameUnruns t (by_join p (Install restart) t)
  pub begins : (r : ℕ) (d : Side) (q f b : ℕ) → s.kind p ≡ Join r d
      → s.doing p ≡ InRow (Now (Begin q f b))
      → (q ≡ r) × (is_inline (s.words (BlockWord (r + 1))) d ≡ true)
      × OneChanges r (Is Held) IsNone t (by_join p (Begin q f b) t)

-- of each place, from words that are kept
abbrev pub AllUnrunsStay : Type 0
AllUnrunsStay = (i : Setting) → IsFair i.code
    → (root : Tree (Frame FrameWord Point) Result) (input : Words) (s : State) (t : Skeleton)
    → IsKept i root input s t → (p : ℕ) → UnrunsStay i s t p
