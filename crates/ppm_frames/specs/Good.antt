-- The frames and blocks of a tree stand in the words: links, sizes, outcomes, targets, order words,
-- and what each place does at its leaf.
use Rattle.std.specs.Prelude.{◌≡◌, ◌⊎◌, ℕ, ◌+◌, ◌≤◌, ◌==◌, cond, Bool, true, false, Option, Some, None}
use Rattle.ppm_cells.specs.Finish.{finish_word}
use Rattle.ppm_cells.specs.Link.{link_of}
use Rattle.ppm_cells.specs.declared.cell.Cell.{Cell}
use Rattle.ppm_cells.specs.declared.cell.Cell.TheVariants.{BlockWord}
use Rattle.ppm_cells.specs.declared.finish.Finish.TheVariants.{Ended}
use Rattle.ppm_cells.specs.declared.link.Link.{Link}
use Rattle.ppm_cells.specs.declared.link.LinkKind.{LinkKind}
use Rattle.ppm_cells.specs.declared.link.LinkKind.TheVariants.{Root, Call as Called, Branch, Fork as Forked}
use Rattle.ppm_cells.specs.declared.restart.RestartKind.{RestartKind}
use Rattle.ppm_cells.specs.declared.restart.RestartKind.TheVariants.{Run, Bump, Push1, Push2, Unwind, Arrive, Join}
use Rattle.ppm_cells.specs.declared.side.Side.TheVariants.{Left, Right}
use Rattle.ppm_code.specs.declared.code.CodeParts.{CodeParts}
use Rattle.ppm_code.specs.Sizes.{slots_at}
use Rattle.ppm_frames.specs.Skeletons.{Stand, Begins, Over, Arrives, Who, InPlace, Fresh, Waiting, Held, Came, Inlined, Skeleton, Leaf, Calling, Forking, header, arrival, top}

-- the outcome word of a frame that has no trap
abbrev pub ended : ℕ
ended = finish_word Ended

-- what a link word says; of a word that is none, the root's link of no size
abbrev pub link_or : Option Link → Link
link_or None = record { kind = Root; size = 0 }
link_or (Some link) = link

-- the link of a word
abbrev pub link_at : ℕ → Link
link_at word = link_or (link_of word)

-- the outcome that a part is about to give, if it is over
abbrev pub given : (Cell → ℕ) → LinkKind → Skeleton → ℕ
given m h (Leaf w Over f n) = m (BlockWord (f + 1))
given m h (Leaf w Arrives f n) = arrival m h
given m h (Leaf w (Begins y) f n) = ended
given m h (Calling f n y t) = ended
given m h (Forking f n y r a b) = ended

-- whether a part is over
abbrev pub is_over : Skeleton → Bool
is_over (Leaf w Over f n) = true
is_over (Leaf w Arrives f n) = true
is_over _ = false

-- what the order word of its fork tells of a branch
pub data Mark : Type 0 where
  IsPlain : Mark
  IsFirst : Mark
  IsFresh : Mark
  IsHeld : Mark
  IsInlined : Mark

-- the mark of a branch
abbrev pub mark : Skeleton → Mark
mark (Leaf Came st f n) = IsFirst
mark (Leaf Fresh st f n) = IsFresh
mark (Leaf Held st f n) = IsHeld
mark (Leaf Inlined st f n) = IsInlined
mark _ = IsPlain

-- what a fork is about to give: once both branches are over, the left one's trap, or what the right
-- one gives
abbrev pub given_both : (Cell → ℕ) → ℕ → Skeleton → Skeleton → ℕ
given_both m r a b = cond (is_over a) (cond (is_over b) (cond (given m (Branch Left r) a == ended) (given m (Branch Right r) b) (given m (Branch Left r) a)) ended) ended

-- the order word by both marks: 1 or 2 for the branch that came first, 3 where one strand runs
-- both, else 0
abbrev pub order_of : Mark → Mark → ℕ
order_of IsInlined b = 3
order_of IsFirst b = 1
order_of a IsHeld = 3
order_of a IsFirst = 2
order_of a b = 0

module _ (i : CodeParts) where
  -- a frame that stands at its address, hung on a hook
  abbrev pub Framed : (Cell → ℕ) → LinkKind → (f n : ℕ) → Type 0
  Framed m h f n = link_at (m (BlockWord f)) ≡ record { size = 6 + n; kind = h }

  -- its outcome word has no trap, or it has what the part below is about to give
  abbrev pub IsGiven : (Cell → ℕ) → (f o : ℕ) → Type 0
  IsGiven m f o = (m (BlockWord (f + 1)) ≡ ended) ⊎ (m (BlockWord (f + 1)) ≡ o)

  -- a frame that waits for its callee
  pub record Calls (m : Cell → ℕ) (h : LinkKind) (f n y : ℕ) (t : Skeleton) : Type 0 where
    pub framed : Framed m h f n
    pub size : slots_at i (m (BlockWord (header f y))) ≡ n
    pub outcome : IsGiven m f (given m (Called f y) t)
    pub target : m (BlockWord (top t + 5)) ≤ n

  -- a frame that waits for its two branches
  pub record Forks (m : Cell → ℕ) (h : LinkKind) (f n y r : ℕ) (a b : Skeleton) : Type 0 where
    pub framed : Framed m h f n
    pub size : slots_at i (m (BlockWord (header f y))) ≡ n
    pub outcome : IsGiven m f (given_both m r a b)
    pub hook : (link_at (m (BlockWord r))).kind ≡ Forked f y
    pub order : m (BlockWord (r + 1)) ≡ order_of (mark a) (mark b)
    pub left : top a ≡ r + 5
    pub right : top b ≡ r + m (BlockWord (r + 4))
    pub left_target : m (BlockWord (top a + 5)) ≤ n
    pub right_target : m (BlockWord (top b + 5)) ≤ n

  -- where the strand that bumps over block r runs: in the callee's frame, which is the block, or in
  -- the left frame of the block
  abbrev pub BumpsAt : (Cell → ℕ) → LinkKind → (r f : ℕ) → Type 0
  BumpsAt m (Called g y) r f = r ≡ f
  BumpsAt m (Branch Left q) r f = (r ≡ q) × (f ≡ q + 5)
  BumpsAt m _ r f = ⊥

  -- what the capsule of a place makes of its leaf
  abbrev pub Match : (Cell → ℕ) → RestartKind → LinkKind → Stand → (f : ℕ) → Type 0
  Match m (Run g y) h (Begins z) f = (g ≡ f) × (y ≡ z)
  Match m (Bump r) h (Begins z) f = (z ≡ 0) × BumpsAt m h r f × (m (BlockWord (f + 1)) ≡ ended)
  Match m (Push1 r) h (Begins z) f = (z ≡ 0) × (h ≡ Branch Left r) × (f ≡ r + 5)
      × (m (BlockWord (f + 1)) ≡ ended)
  Match m (Push2 r) h (Begins z) f = (z ≡ 0) × (h ≡ Branch Left r) × (f ≡ r + 5)
      × (m (BlockWord (f + 1)) ≡ ended)
  Match m (Unwind g) h Over f = g ≡ f
  Match m (Arrive r s) h Arrives f = h ≡ Branch s r
  Match m (Join r s) h Arrives f = h ≡ Branch s r
  Match m _ h _ f = ⊥

  -- whoever's leaf it is
  abbrev pub Matches : (Cell → ℕ) → (ℕ → RestartKind) → LinkKind → Who → Stand → (f : ℕ) → Type 0
  Matches m k h (InPlace p) st f = Match m (k p) h st f
  Matches m k h Fresh st f = (st ≡ Begins 0) × (m (BlockWord (f + 1)) ≡ ended)
  Matches m k h Waiting st f = (st ≡ Begins 0) × (m (BlockWord (f + 1)) ≡ ended)
  Matches m k h Held st f = (st ≡ Begins 0) × (m (BlockWord (f + 1)) ≡ ended)
  Matches m k h Came st f = st ≡ Arrives
  Matches m k h Inlined st f = st ≡ Arrives

  -- a frame that begins a capsule has the slots of that capsule's procedure
  abbrev pub IsSized : (Cell → ℕ) → Stand → (f n : ℕ) → Type 0
  IsSized m (Begins y) f n = slots_at i (m (BlockWord (header f y))) ≡ n
  IsSized m _ f n = Unit {0}

  -- the tree stands in the words, hung on a link, with what each place is at
  abbrev pub Good : (Cell → ℕ) → (ℕ → RestartKind) → LinkKind → Skeleton → Type 0
  Good m k h (Leaf w st f n) = Framed m h f n × IsSized m st f n × Matches m k h w st f
  Good m k h (Calling f n y t) = Calls m h f n y t × Good m k (Called f y) t
  Good m k h (Forking f n y r a b) = Forks m h f n y r a b × Good m k (Branch Left r) a
      × Good m k (Branch Right r) b
