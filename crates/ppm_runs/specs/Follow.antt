-- A turn by which a place goes on with what it inherited, with takeover by entries: both halves hold after
-- it, with the closed place left out of the frames' half.
use Rattle.std.specs.Prelude.{◌≡◌, ◌≢◌, ◌⊎◌, ◌≤◌, ◌<◌, ℕ, Bool, true, List, [], ◌∷◌, ◌++◌}
use Rattle.ppm_strands.specs.Tree.{Words, Tree}
use Rattle.ppm_cells.specs.declared.cell.Cell.TheVariants.{BlockWord}
use Rattle.ppm_cells.specs.declared.restart.RestartKind.TheVariants.{Run, Bump, Seek, Check}
use Rattle.ppm_cells.specs.declared.shape.Shape.{Shape}
use Rattle.ppm_cells.specs.declared.shape.Takeover.TheVariants.{ByEntries}
use Rattle.ppm_strands.specs.Strand.{Frame}
use Rattle.ppm_code.specs.Strands.{Point, Result}
use Rattle.ppm_code.specs.declared.code.CodeParts.{CodeParts}
use Rattle.ppm_code.specs.declared.location.FrameWord.{FrameWord}
use Rattle.ppm_step.specs.Standings.{Standing, IsWithin, IsBroken}
use Rattle.ppm_step.specs.State.{State as RunState, stand_of, happens, fork_row, take_row, forks_of, takes_of}
use Rattle.ppm_step.specs.declared.row.Row.TheVariants.{Now}
use Rattle.ppm_step.specs.declared.row.Seat.{Seat}
use Rattle.ppm_step.specs.declared.row.Then.{Then}
use Rattle.ppm_step.specs.declared.row.Then.TheVariants.{Install, Fork}
use Rattle.ppm_step.specs.declared.turn.Act.{Act}
use Rattle.ppm_step.specs.declared.turn.Act.TheVariants.{Step}
use Rattle.ppm_step.specs.declared.turn.Turn.{Turn}
use Rattle.ppm_tickets.specs.Along.{by_row, by_act, IsInlined, IsOrderly}
use Rattle.ppm_tickets.specs.Homes.{Home}
use Rattle.ppm_tickets.specs.Lawful.{Closed}
use Rattle.ppm_tickets.specs.View.{view}
use Rattle.ppm_tickets.specs.Renewal.{IsLawful}
use Rattle.ppm_tickets.specs.Words.{has}
use Rattle.ppm_frames.specs.Skeletons.{Skeleton}
use Rattle.ppm_frames.specs.Good.{link_at}
use Rattle.ppm_kept.specs.Running.{IsFair}
use Rattle.ppm_kept.specs.Kept.{IsKept}
use Rattle.ppm_kept.specs.Births.{Births}
use Rattle.ppm_kept.specs.Fates.{Agrees}
use Rattle.ppm_kept.specs.Heirs.{handed, OpensAs}
use Rattle.ppm_kept.specs.HeirTurns.{Heired, and_followed}
use Rattle.ppm_kept.specs.Laws.{kind_then}
use Rattle.ppm_kept.specs.Left.{Followed, left, IsAway, AreApart, LooksOn}
use Rattle.ppm_kept.specs.Places.{kinds_of, places_of}
use Rattle.ppm_kept.specs.Steps.{act_with}
use Rattle.ppm_cells.specs.declared.restart.Restart.{Restart}
use Rattle.ppm_runs.specs.Laws.{Owes}
use Rattle.ppm_runs.specs.Run.{setting, fate_of}

-- each of them was followed
abbrev pub AreGone : (gone : ℕ → Bool) → List Followed → Type 0
AreGone gone [] = Unit {0}
AreGone gone (v ∷ l) = (gone v.place ≡ true) × AreGone gone l

-- both halves, by entries, with those places left out that were followed
pub record IsHalves (s : Shape) (code : CodeParts) (root : Tree (Frame FrameWord Point) Result) (input : Words) (state : RunState) (h : ℕ → Home) (forked taken : List ℕ) (l : List Followed) (t : Skeleton) : Type 0 where
  pub lawful : IsLawful s code state h forked taken
  pub apart : AreApart l
  pub gone : AreGone lawful.1.board.gone l
  pub kept : IsKept (setting s code) root input (left (setting s code) l (places_of s state)) t
  pub born : Births (setting s code) (left (setting s code) l (places_of s state)) (has forked)

-- a row that ends so goes on with what was inherited
abbrev pub CarriesOn : Then → Type 0
CarriesOn (Install restart) = restart.kind ≢ Seek
CarriesOn (Fork block) = Unit {0}
CarriesOn next = ⊥

-- it opens the block: its callee runs, or its fork is made
abbrev pub OpensBlock : (block : ℕ) → Then → Type 0
OpensBlock r next = (kind_then next ≡ Run r 0) ⊎ (next ≡ Fork r)

-- a place that is about to open a closed place's block, which none has followed, opens it by its link
abbrev pub OpenRightly : (s : Shape) (code : CodeParts) → RunState → List Followed → Type 0
OpenRightly s code state l = (c : ℕ) (seat : Seat) (next : Then) (v slot : ℕ) → stand_of state c ≡ IsWithin seat (Now next)
    → seat.restart.kind ≡ Check v slot → CarriesOn next
    → (w r : ℕ) → Closed s.takeover (view s state.words) w → IsAway l w → kinds_of s state.words w ≡ Bump r → OpensBlock r next
    → OpensAs r (link_at ((left (setting s code) l (places_of s state)).words (BlockWord r))).kind (kind_then next)

abbrev pub HeirsLead : Type 0
HeirsLead = (s : Shape) (code : CodeParts) → s.takeover ≡ ByEntries → IsFair code
    → (root : Tree (Frame FrameWord Point) Result) (input : Words) (state : RunState) (h : ℕ → Home) (forked taken : List ℕ) (l : List Followed) (t : Skeleton)
    → IsHalves s code root input state h forked taken l t
    → Agrees t (λ r. fate_of (h r))
    → (c victim : ℕ) (seat : Seat) (next : Then) (v slot : ℕ) → stand_of state c ≡ IsWithin seat (Now next)
    → seat.restart.kind ≡ Check v slot → CarriesOn next
    → OpenRightly s code state l
    → (w : ℕ)
    × Agrees (handed w seat.place t) (λ r. fate_of (by_row s state.words seat (Now next) h r))
    × IsHalves s code root input (happens s code state (record { processor = c; act = Step victim })) (by_row s state.words seat (Now next) h) (fork_row (Now next) ++ forked) (take_row (Now next) ++ taken)
    (and_followed (setting s code) l (places_of s state) w) (handed w seat.place t)
    × Heired (setting s code) state l t c seat next w

-- a turn by which no place goes on with what it inherited
abbrev pub LooksOnly : Act → Standing → Type 0
LooksOnly (Step victim) (IsWithin seat row) = LooksOn seat.restart.kind row
LooksOnly act standing = Unit {0}

-- with takeover by entries, such a turn leads on, if it is orderly
abbrev pub HalvesGoOn : Type 0
HalvesGoOn = (s : Shape) (code : CodeParts) → s.takeover ≡ ByEntries → IsFair code
    → (root : Tree (Frame FrameWord Point) Result) (input : Words) (state : RunState) (h : ℕ → Home) (forked taken : List ℕ) (l : List Followed) (t : Skeleton)
    → IsHalves s code root input state h forked taken l t
    → Agrees t (λ r. fate_of (h r)) → ((c p : ℕ) → stand_of state c ≡ IsBroken p → p ≤ 64)
    → (turn : Turn) → turn.processor < s.processors
    → IsOrderly s state.words turn.act (stand_of state turn.processor) h forked
    → LooksOnly turn.act (stand_of state turn.processor)
    → IsHalves s code root input (happens s code state turn) (by_act s state.words turn.act (stand_of state turn.processor) h) (forks_of state turn ++ forked) (takes_of state turn ++ taken) l
    (act_with (setting s code) (left (setting s code) l (places_of s state)).words state.words turn.act (stand_of state turn.processor) t)

-- With either takeover, turns owe the tickets nothing that the frames don't show, where by entries a branch
-- that is left to a strand is none in the entry above its bottom.
abbrev pub HalvesOwe : Type 0
HalvesOwe = (s : Shape) (code : CodeParts) → IsFair code
    → (root : Tree (Frame FrameWord Point) Result) (input : Words) (state : RunState) (h : ℕ → Home) (forked taken : List ℕ) (l : List Followed) (t : Skeleton)
    → IsHalves s code root input state h forked taken l t → Agrees t (λ r. fate_of (h r))
    → ((c : ℕ) (seat : Seat) (restart : Restart) → stand_of state c ≡ IsWithin seat (Now (Install restart))
    → IsInlined s.takeover s state.words seat seat.restart.kind restart.kind)
    → Owes s code root input state h forked taken t
