-- What a place that checks what it stole is about to go on with, with takeover by entries: a branch that it
-- stole, or what a closed place was at from which it inherits, through closed places that inherited one from
-- another.
use Rattle.std.specs.Prelude.{◌≡◌, ◌⊎◌, ◌+◌, ◌++◌, ℕ, Bool, true, false, if◌then◌else◌, List, ◌∷◌}
use Rattle.ppm_cells.specs.declared.restart.RestartKind.{RestartKind}
use Rattle.ppm_cells.specs.declared.restart.RestartKind.TheVariants.{Run, Bump, Push1, Push2, Unwind, Arrive, Join, Pop2, Seek, Check}
use Rattle.ppm_cells.specs.declared.shape.Shape.{Shape}
use Rattle.ppm_cells.specs.declared.shape.Takeover.TheVariants.{ByEntries}
use Rattle.ppm_code.specs.declared.code.CodeParts.{CodeParts}
use Rattle.ppm_step.specs.Standings.{IsWithin}
use Rattle.ppm_step.specs.State.{State, stand_of, happens, fork_row, take_row, row_by, step_by}
use Rattle.ppm_step.specs.declared.content.Content.TheVariants.{AnEntry}
use Rattle.ppm_step.specs.declared.row.Point.TheVariants.{Offset, TakenMessage, TakenEntry, ClosedRestart, ClosedLink, ClosedBottom}
use Rattle.ppm_step.specs.declared.row.Row.{Row}
use Rattle.ppm_step.specs.declared.row.Row.TheVariants.{Now, Store, Exchange}
use Rattle.ppm_step.specs.declared.row.Seat.{Seat}
use Rattle.ppm_step.specs.declared.row.Then.TheVariants.{Load, Install, Fork, Begin}
use Rattle.ppm_step.specs.declared.turn.Act.TheVariants.{Step}
use Rattle.ppm_step.specs.declared.turn.Turn.{Turn}
use Rattle.ppm_tickets.specs.Along.{by_install, by_act, IsOrderly}
use Rattle.ppm_tickets.specs.Homes.{Home, Pushing, Popping, Stolen}
use Rattle.ppm_tickets.specs.Lawful.{IsLocal, IsThief, IsDead, IsTrail, Closed, Estate, active_at, is_local}
use Rattle.ppm_tickets.specs.Renewal.{IsLawful}
use Rattle.ppm_tickets.specs.View.{word_as, view, kinds, bottoms}
use Rattle.ppm_tickets.specs.Words.{Word, Local, Spot, Message, Slot, Dead, put, has}

module _ (shut : ℕ → Type 0) (m : Spot → Word) (k : ℕ → RestartKind) (b : ℕ → ℕ) (h : ℕ → Home) (e : Estate shut m k b h) (p : ℕ) where
  -- a closed place that p inherits from, through others, and that none has followed
  pub record Inherits : Type 0 where
    pub place : ℕ
    pub through : List ℕ
    pub way : IsTrail e.ghost m k b p (place ∷ through)
    pub stays : e.gone place ≡ false
    pub dead : IsDead (m (Dead place))

  -- the kind with which it goes on, where a block was not to be forked
  abbrev pub GoesOnBy : (place : ℕ) → (closed new : RestartKind) → Type 0
  GoesOnBy w (Run f y) new = new ≡ Run f y
  GoesOnBy w (Bump r) new = new ≡ Run r 0
  GoesOnBy w (Push1 r) new = (new ≡ Push1 r) × (h r ≡ Pushing w)
  GoesOnBy w (Push2 r) new = ((new ≡ Push1 r) × (h r ≡ Pushing w)) ⊎ ((new ≡ Run (r + 5) 0) × (IsLocal (e.ghost (Slot w (b w))) → ⊥))
  GoesOnBy w (Unwind f) new = new ≡ Unwind f
  GoesOnBy w (Arrive r d) new = new ≡ Arrive r d
  GoesOnBy w (Join r d) new = new ≡ Join r d
  GoesOnBy w _ new = ⊥

  -- a branch that it is about to begin: it stole it, or a closed place had stolen it or got it back
  abbrev pub MayBegin : (block : ℕ) → Type 0
  MayBegin r = (h r ≡ Stolen p)
      ⊎ ((i : Inherits) × ((h r ≡ Popping i.place) ⊎ (h r ≡ Stolen i.place)))

  -- a branch that the place is about to take: it got it back itself, or is about to begin it
  abbrev pub MayTake : (block : ℕ) → Type 0
  MayTake r = (h r ≡ Popping p) ⊎ MayBegin r

  -- from this place
  abbrev pub InheritsFrom : (place : ℕ) → Type 0
  InheritsFrom w = (i : Inherits) × (i.place ≡ w)

  -- the entry of a closed place was a local one with this payload, before it was inherited
  abbrev pub WasLocal : (place slot block : ℕ) → Type 0
  WasLocal w j r = (t : ℕ) × (e.ghost (Slot w j) ≡ Local t r)

  -- how the row of such a place ends, or what it loads next: it looks at the message and at the entry of a place
  -- that steals, with the message as it is
  abbrev pub ChecksSo : Row → Type 0
  ChecksSo (Now (Install restart)) = (restart.kind ≡ Seek)
      ⊎ ((i : Inherits) × GoesOnBy i.place (k i.place) restart.kind × (restart.bottom ≡ b p))
  ChecksSo (Now (Fork r)) = (i : Inherits) × (k i.place ≡ Bump r)
  ChecksSo (Now (Begin r frame bottom)) = MayBegin r
  ChecksSo (Now (Load (Offset r bottom))) = MayBegin r
  ChecksSo (Now (Load (ClosedLink r))) = (i : Inherits) × (k i.place ≡ Bump r)
  ChecksSo (Now (Load (ClosedRestart w j block))) = (j ≡ active_at e.ghost k b w → InheritsFrom w) × WasLocal w j block
  ChecksSo (Now (Load (ClosedBottom w j r))) = (k w ≡ Push2 r) × (is_local (e.ghost (Slot w (b w))) ≡ false → InheritsFrom w)
      × (j ≡ b w)
  ChecksSo (Now (Load (TakenMessage by w j))) = IsThief (k by) w j
  ChecksSo (Now (Load (TakenEntry by w j message))) = IsThief (k by) w j × (m (Message by) ≡ word_as (AnEntry message))
  ChecksSo (Now (Load point)) = ⊥
  ChecksSo (Store cell content next) = ⊥
  ChecksSo (Exchange cell old new next) = ⊥
  ChecksSo row = Unit {0}

-- in each lawful state a row of Check ends, and loads next, as what its place may inherit says
abbrev pub HeirsSee : Type 0
HeirsSee = (s : Shape) (code : CodeParts) → s.takeover ≡ ByEntries
    → (state : State) (h : ℕ → Home) (forked taken : List ℕ) (law : IsLawful s code state h forked taken)
    → (c : ℕ) (seat : Seat) (row : Row) (v slot : ℕ) → stand_of state c ≡ IsWithin seat row
    → seat.restart.kind ≡ Check v slot
    → ChecksSo (Closed s.takeover (view s state.words)) (view s state.words) (kinds s state.words) (bottoms s state.words) h law.1.board seat.place row

-- a row that is about to begin the branch of a block
abbrev pub Begins : (block : ℕ) → Row → Type 0
Begins r (Now (Load (Offset x low))) = x ≡ r
Begins r (Now (Begin x f low)) = x ≡ r
Begins r row = ⊥

-- the kinds of which one takes a branch
abbrev pub IsTaker : RestartKind → Type 0
IsTaker (Pop2 r) = Unit {0}
IsTaker (Check v i) = Unit {0}
IsTaker k = ⊥

module _ (s : Shape) (code : CodeParts) where
  -- who is about to begin a branch has it, or inherits from who had it
  abbrev pub HeirsTake : Type 0
  HeirsTake = s.takeover ≡ ByEntries → (state : State) (h : ℕ → Home) (f tk : List ℕ) (law : IsLawful s code state h f tk)
      → (c : ℕ) (seat : Seat) (row : Row) (r : ℕ) → stand_of state c ≡ IsWithin seat row → Begins r row → IsTaker seat.restart.kind
      → MayTake (Closed s.takeover (view s state.words)) (view s state.words) (kinds s state.words) (bottoms s state.words) h law.1.board seat.place r

  -- no two places are about to begin one branch
  abbrev pub OneTakes : Type 0
  OneTakes = s.takeover ≡ ByEntries → (state : State) (h : ℕ → Home) (f tk : List ℕ) (law : IsLawful s code state h f tk)
      → (c d : ℕ) (seat chair : Seat) (row other : Row) (r : ℕ)
      → stand_of state c ≡ IsWithin seat row → Begins r row → IsTaker seat.restart.kind
      → stand_of state d ≡ IsWithin chair other → Begins r other → IsTaker chair.restart.kind
      → seat.place ≡ chair.place

  -- a lawful state in which these places were followed
  abbrev pub IsLawfulOn : (gone : ℕ → Bool) → State → (ℕ → Home) → (forked taken : List ℕ) → Type 0
  IsLawfulOn gone state h f tk = (law : IsLawful s code state h f tk)
      × ((v : ℕ) → gone v ≡ true → law.1.board.gone v ≡ true)

  module _ (state : State) (h : ℕ → Home) (f tk : List ℕ) (law : IsLawful s code state h f tk) where
    abbrev pub followed_too : List ℕ → ℕ → Bool
    followed_too l v = if has l v then true else law.1.board.gone v

    abbrev pub InheritsAt : ℕ → Type 0
    InheritsAt p = Inherits (Closed s.takeover (view s state.words)) (view s state.words)
        (kinds s state.words) (bottoms s state.words) h law.1.board p

    -- the turn by which it goes on follows the closed place, and those through which it inherits from it
    abbrev pub HeirFollows : (c u : ℕ) → Seat → Row → Type 0
    HeirFollows c u seat (Now (Install restart)) = (i : InheritsAt seat.place)
        → GoesOnBy (Closed s.takeover (view s state.words)) (view s state.words) (kinds s state.words) (bottoms s state.words) h law.1.board seat.place
        i.place (kinds s state.words i.place) restart.kind
        → restart.bottom ≡ bottoms s state.words seat.place
        → IsLawfulOn (followed_too (i.place ∷ i.through)) (happens s code state (record { processor = c; act = Step u }))
        (by_install seat.place seat.restart.kind restart.kind h) f tk
    HeirFollows c u seat (Now (Fork r)) = (i : InheritsAt seat.place) → kinds s state.words i.place ≡ Bump r → has f r ≡ false
        → IsLawfulOn (followed_too (i.place ∷ i.through)) (happens s code state (record { processor = c; act = Step u }))
        (put h r (Pushing seat.place)) (r ∷ f) tk
    HeirFollows c u seat row = Unit {0}

  -- a place inherits from one place at most that is at no thief's kind
  abbrev pub OneInherits : Type 0
  OneInherits = (state : State) (h : ℕ → Home) (f tk : List ℕ) (law : IsLawful s code state h f tk) (p : ℕ)
      → (a c : InheritsAt state h f tk law p)
      → ((x j : ℕ) → IsThief (kinds s state.words a.place) x j → ⊥)
      → ((x j : ℕ) → IsThief (kinds s state.words c.place) x j → ⊥)
      → a.place ≡ c.place

  -- with what a closed place was at
  abbrev pub HeirsFollow : Type 0
  HeirsFollow = (state : State) (h : ℕ → Home) (f tk : List ℕ) (law : IsLawful s code state h f tk)
      → (c u : ℕ) (seat : Seat) (row : Row) (v slot : ℕ) → stand_of state c ≡ IsWithin seat row
      → seat.restart.kind ≡ Check v slot
      → HeirFollows state h f tk law c u seat row

  -- a place that was followed stays so
  abbrev pub NoneComesBack : Type 0
  NoneComesBack = (state : State) (h : ℕ → Home) (f tk : List ℕ) (law : IsLawful s code state h f tk)
      → (turn : Turn) → IsOrderly s state.words turn.act (stand_of state turn.processor) h f
      → IsLawfulOn law.1.board.gone (happens s code state turn)
      (by_act s state.words turn.act (stand_of state turn.processor) h)
      (step_by (row_by fork_row) turn.act (stand_of state turn.processor) ++ f)
      (step_by (row_by take_row) turn.act (stand_of state turn.processor) ++ tk)
