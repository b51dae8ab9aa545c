-- What a turn owes the tickets comes of the tree: each block word that it changes is one of a pool, a
-- fork is a new one, and what is begun at a join was left to the strand of the left branch.
use Rattle.std.proofs.Common.{◌≡◌, ◌⊎◌, ◌<◌, ℕ, ◌+◌, ◌==◌, Bool, true, false, List, [], inl, inr, refl, sym, ap, ◌∙◌, subst, arith}
use Rattle.std.proofs.lemmas.Bool.{cases_Bool}
use Rattle.ppm_strands.specs.Tree.{Words, Tree}
use Rattle.ppm_cells.specs.Cells.{IsInPool}
use Rattle.ppm_cells.specs.declared.cell.Cell.{Cell}
use Rattle.ppm_cells.specs.declared.cell.Cell.TheVariants.{FinishWord, CarryWord, DeadWord, RestartWord, MessageWord, HolderWord, Top, RoomCounter, EntryWord, BlockWord, ArrayWord}
use Rattle.ppm_cells.specs.declared.link.LinkKind.TheVariants.{Root, Branch}
use Rattle.ppm_cells.specs.declared.restart.Restart.{Restart}
use Rattle.ppm_cells.specs.declared.restart.RestartKind.{RestartKind}
use Rattle.ppm_cells.specs.declared.restart.RestartKind.TheVariants.{Run, Bump, Push1, Push2, Unwind, Arrive, Join, Pop1, Pop2, Seek, Steal, Check, Take, Take2}
use Rattle.ppm_cells.specs.declared.shape.Shape.{Shape}
use Rattle.ppm_cells.specs.declared.shape.Takeover.{Takeover}
use Rattle.ppm_cells.specs.declared.shape.Takeover.TheVariants.{ByPlaces, ByEntries}
use Rattle.ppm_cells.specs.declared.side.Side.TheVariants.{Left}
use Rattle.ppm_strands.specs.Strand.{Frame}
use Rattle.ppm_code.specs.Strands.{Point, Result}
use Rattle.ppm_code.specs.declared.code.CodeParts.{CodeParts}
use Rattle.ppm_code.specs.declared.location.FrameWord.{FrameWord}
use Rattle.ppm_cells.specs.JoinOrder.{first}
use Rattle.ppm_step.specs.Among.{IsActAmong}
use Rattle.ppm_step.specs.Frames.{Rest, Loads, Stores, Full, Installs, Breaks}
use Rattle.ppm_step.specs.Rows.{row_of, push_at, by_places}
use Rattle.ppm_step.specs.Standings.{Standing, IsLost, IsPlaced, IsAt, IsWithin, IsRunning, IsBroken, IsDone}
use Rattle.ppm_step.specs.State.{State as RunState, stand_of}
use Rattle.ppm_step.specs.declared.content.Content.{Content}
use Rattle.ppm_step.specs.declared.row.Row.{Row}
use Rattle.ppm_step.specs.declared.row.Row.TheVariants.{Now, Store, Exchange}
use Rattle.ppm_step.specs.declared.row.Seat.{Seat}
use Rattle.ppm_step.specs.declared.row.Then.{Then}
use Rattle.ppm_step.specs.declared.row.Then.TheVariants.{Load, Install, Fork, Begin, Move, Enter, Again, Broken}
use Rattle.ppm_step.specs.declared.turn.Act.{Act}
use Rattle.ppm_step.specs.declared.turn.Act.TheVariants.{Step, Soft, Hard, Quit}
use Rattle.ppm_tickets.specs.Along.{IsPooled, IsJoined, IsInlined, IsOrderlyThen, IsOrderlyAt, IsOrderly}
use Rattle.ppm_tickets.specs.Entries.{IsPooledAt}
use Rattle.ppm_tickets.specs.Homes.{Home, Unborn, Pushing, Listed, Popping, Stolen, Inline, Begun}
use Rattle.ppm_tickets.specs.Lawful.{Pushes, Carries, Stays}
use Rattle.ppm_tickets.specs.Saw.{IsStrand, HasSeen, Strand, Looks}
use Rattle.ppm_tickets.specs.View as spots
use Rattle.ppm_tickets.specs.Words.{Word, Slot, has}
use Rattle.ppm_frames.specs.Skeletons.{Stand, Begins, Over, Arrives, InPlace, Skeleton, Leaf, Around, plug, hook_at}
use Rattle.ppm_frames.specs.Good.{Match}
use Rattle.ppm_kept.specs.Running.{IsFair}
use Rattle.ppm_kept.specs.Kept.{Setting, seat_at, InRow, InRest, State, Reach, Does, Ordered, carried, IsKept}
use Rattle.ppm_kept.proofs.PlaceLemmas.{Leafed, leaf, head_on}
use Rattle.ppm_kept.proofs.Rows.{run_row_keeps}
use Rattle.ppm_kept.proofs.UnwindRow.{unwind_row_keeps}
use Rattle.ppm_kept.proofs.ArriveRow.{arrive_row_keeps}
use Rattle.ppm_kept.proofs.JoinLastRow.{join_row_keeps}
use Rattle.ppm_kept.proofs.TurnLemmas.{stores_are_cells}
use Rattle.ppm_kept.specs.Births.{floor}
use Rattle.ppm_kept.specs.Places.{places_of}
use Rattle.ppm_kept.proofs.OwnerLemmas.{owned}
use Rattle.ppm_kept.specs.Fates.{ToPush}
use Rattle.ppm_kept.specs.Fates as fates
use Rattle.ppm_kept.proofs.FateLemmas.{fates_show}
use Rattle.ppm_tickets.proofs.HeirRows.{heirs_see}
use Rattle.ppm_kept.specs.Fates.{Agrees}
use Rattle.ppm_kept.specs.Left.{Followed, left}
use Rattle.ppm_kept.proofs.LeftLemmas.{kind_away}
use Rattle.ppm_runs.specs.Run.{setting, fate_of}
use Rattle.ppm_runs.specs.Follow.{IsHalves, HalvesOwe}
use Rattle.ppm_runs.specs.Laws.{Owes, TurnsAreOrderly}
use Rattle.ppm_runs.proofs.TameLemmas.{May, TameRow, rest_tame, reach_tame}
use Rattle.ppm_runs.proofs.StandLemmas.{kinds_same}
use Rattle.ppm_runs.proofs.ShownLemmas.{cell_pooled, away, halves, Within, within, Runs, runs, head_pool}

-- rows that load, which rows of no other sort are
abbrev pub IsLoad : Row → Type 0
IsLoad (Now (Load point)) = Unit {0}
IsLoad _ = ⊥

abbrev pub IsInstall : Row → Type 0
IsInstall (Now (Install restart)) = Unit {0}
IsInstall _ = ⊥

-- kinds whose rows are looked at by what they have found
abbrev pub IsLooking : RestartKind → Type 0
IsLooking (Push1 r) = Unit {0}
IsLooking (Push2 r) = Unit {0}
IsLooking Pop1 = Unit {0}
IsLooking (Pop2 r) = Unit {0}
IsLooking Seek = Unit {0}
IsLooking (Steal v x) = Unit {0}
IsLooking (Check v x) = Unit {0}
IsLooking (Take v x) = Unit {0}
IsLooking (Take2 v) = Unit {0}
IsLooking _ = ⊥

-- all is allowed but forks
abbrev no_forks : May
no_forks = record { forks = λ r. ⊥; begins = λ r. Unit {0}; stores = λ a. Unit {0}; trades = λ a. Unit {0}; jobs = λ r. Unit {0}; fills = Unit {0}; bids = Unit {0} }

-- no block word is changed but this one
abbrev one_word : ℕ → May
one_word w = record { forks = λ r. Unit {0}; begins = λ r. Unit {0}; stores = λ a. a ≡ w; trades = λ a. a ≡ w; jobs = λ r. Unit {0}; fills = Unit {0}; bids = Unit {0} }

-- none is exchanged
abbrev no_trades : May
no_trades = record { forks = λ r. Unit {0}; begins = λ r. Unit {0}; stores = λ a. Unit {0}; trades = λ a. ⊥; jobs = λ r. Unit {0}; fills = Unit {0}; bids = Unit {0} }

-- no block word is changed
abbrev no_words : May
no_words = record { forks = λ r. Unit {0}; begins = λ r. Unit {0}; stores = λ a. ⊥; trades = λ a. ⊥; jobs = λ r. Unit {0}; fills = Unit {0}; bids = Unit {0} }

-- one block alone is forked
abbrev one_fork : ℕ → May
one_fork b = record { forks = λ r. r ≡ b; begins = λ r. Unit {0}; stores = λ a. Unit {0}; trades = λ a. Unit {0}; jobs = λ r. Unit {0}; fills = Unit {0}; bids = Unit {0} }

-- by how the takeover is
pub places_row : (t how : Takeover) (may : May) (row : Row) → TameRow t may row → TameRow t may (by_places how row)
places_row t ByPlaces may row q = q
places_row t ByEntries may row q = tt

-- one of both
pub how_or : (how : Takeover) → (how ≡ ByPlaces) ⊎ (how ≡ ByEntries)
how_or ByPlaces = inl refl
how_or ByEntries = inr refl

module _ (s : Shape) (code : CodeParts) (fair : IsFair code) (root : Tree (Frame FrameWord Point) Result) (input : Words) (state : RunState) (h : ℕ → Home) (forked taken : List ℕ) (l : List Followed) (t : Skeleton)
    (run : IsHalves s code root input state h forked taken l t) (agrees : Agrees t (λ r. fate_of (h r))) where
  abbrev i : Setting
  i = setting s code

  abbrev z : State
  z = left i l (places_of s state)

  abbrev law : IsKept i root input z t
  law = run.kept

  abbrev m : Cell → ℕ
  m = z.words

  abbrev In : ℕ → Seat → Row → Type 0
  In c seat row = Within s code root input state h forked taken l t run c seat row

  -- what a row of a looking kind comes to
  pub looked : (may : May) (c : ℕ) (seat : Seat) (row : Row) (k : RestartKind) → IsLooking k → seat.restart.kind ≡ k → TameRow s.takeover may (row_of s seat k) → In c seat row → TameRow s.takeover may row
  looked may c seat row k look e q w = by w.seen
    where
      none : (k : RestartKind) → IsLooking k → IsStrand k → ⊥
      none (Push1 r) a x = x
      none (Push2 r) a x = x
      none Pop1 a x = x
      none (Pop2 r) a x = x
      none Seek a x = x
      none (Steal v y) a x = x
      none (Check v y) a x = x
      none (Take v y) a x = x
      none (Take2 v) a x = x
      none _ a x = absurd a

      by : HasSeen s (spots.with_restarts (spots.view s state.words) (spots.kinds s state.words) (spots.bottoms s state.words)) seat row → TameRow s.takeover may row
      by (Strand is quiet) = absurd (none k look (subst IsStrand e is))
      by (Looks v ws fit is saw) = subst (TameRow s.takeover may) is (rest_tame s seat may v (row_of s seat seat.restart.kind) ws (subst (λ (a : RestartKind). TameRow s.takeover may (row_of s seat a)) (sym e) q))

  -- what a strand's row comes to
  pub reached : (may : May) (seat : Seat) (n : ℕ) (first rest : Row) → TameRow s.takeover may first → Reach i m seat n first rest → TameRow s.takeover may rest
  reached may seat n first rest q e = reach_tame i seat may m n first rest q e

  pub push_row : (may : May) (seat : Seat) (r : ℕ) → may.stores (r + 1) → may.fills → TameRow s.takeover may (row_of s seat (Push1 r))
  push_row may seat r q f = by (seat.restart.bottom + 1 == s.slots) s.takeover
    where
      by : (last : Bool) (how : Takeover) → TameRow s.takeover may (push_at seat how r last)
      by true how = (q, tt)
      by false ByPlaces = f
      by false ByEntries = f

  -- no row forks but Bump's, and that its own block
  module _ (c : ℕ) (seat : Seat) (block : ℕ) (w : In c seat (Now (Fork block))) where
    fork_of : (k : RestartKind) → seat.restart.kind ≡ k → Does i m seat.place k (InRow (Now (Fork block))) → (k ≡ Bump block) ⊎ ((v : ℕ) × (x : ℕ) × (s.takeover ≡ ByEntries) × (seat.restart.kind ≡ Check v x))
    fork_of (Run f y) e d = absurd (subst IsLoad (sym d) tt)
    fork_of (Bump r) e d = inl (ap Bump (sym (reached (one_fork r) (seat_at seat.place (Bump r) d.0) d.1 (row_of s (seat_at seat.place (Bump r) d.0) (Bump r)) (Now (Fork block)) refl d.2)))
    fork_of (Unwind f) e d = absurd (reached no_forks (seat_at seat.place (Unwind f) d.0) d.1 (row_of s (seat_at seat.place (Unwind f) d.0) (Unwind f)) (Now (Fork block)) (λ a. tt) d.2)
    fork_of (Arrive r x) e d = absurd (reached no_forks (seat_at seat.place (Arrive r x) d.0) d.1 (row_of s (seat_at seat.place (Arrive r x) d.0) (Arrive r x)) (Now (Fork block)) (tt, tt, tt) d.2)
    fork_of (Join r x) e d = elim d [
      | inl d ↦ absurd (reached no_forks (seat_at seat.place (Join r x) d.0) d.1 (row_of s (seat_at seat.place (Join r x) d.0) (Join r x)) (Now (Fork block)) (tt, λ a. tt) d.2)
      | inr g ↦ absurd (subst IsInstall (sym g.is) tt)
    ]
    fork_of (Push1 r) e d = absurd (looked no_forks c seat (Now (Fork block)) (Push1 r) tt e (push_row no_forks seat r tt tt) w)
    fork_of (Push2 r) e d = absurd (looked no_forks c seat (Now (Fork block)) (Push2 r) tt e tt w)
    fork_of Pop1 e d = absurd (looked no_forks c seat (Now (Fork block)) Pop1 tt e tt w)
    fork_of (Pop2 r) e d = absurd (looked no_forks c seat (Now (Fork block)) (Pop2 r) tt e tt w)
    fork_of Seek e d = absurd (looked no_forks c seat (Now (Fork block)) Seek tt e tt w)
    fork_of (Steal v x) e d = absurd (looked no_forks c seat (Now (Fork block)) (Steal v x) tt e tt w)
    fork_of (Check v x) e d = elim (how_or s.takeover) [
      | inl places ↦ absurd (looked no_forks c seat (Now (Fork block)) (Check v x) tt e (λ r. tt, inl places) w)
      | inr entries ↦ inr (v, x, entries, e)
    ]
    fork_of (Take v x) e d = absurd (looked no_forks c seat (Now (Fork block)) (Take v x) tt e (places_row s.takeover s.takeover no_forks _ tt) w)
    fork_of (Take2 v) e d = absurd (looked no_forks c seat (Now (Fork block)) (Take2 v) tt e (places_row s.takeover s.takeover no_forks _ tt) w)

  -- a block that is built was not forked
  pub not_born : (p r : ℕ) → z.kind p ≡ Bump r → has forked r ≡ false
  not_born p r ke = elim (cases_Bool (has forked r)) [
    | inr e ↦ e
    | inl e ↦
        let home = run.born.homes p r ke in
        let own = owned i p r home.0 home.1 in
        let below = subst (λ (q : ℕ). r < floor m q (z.kind q)) own (run.born.below r e) in
        absurd (let low = subst (λ (a : RestartKind). r < floor m p a) ke below in omega (arith, low))
  ]

  pub forks_new : (c : ℕ) (seat : Seat) (block : ℕ) → stand_of state c ≡ IsWithin seat (Now (Fork block)) → has forked block ≡ false
  forks_new c seat block e =
      let w = within s code root input state h forked taken l t run c seat (Now (Fork block)) e in
      elim (fork_of c seat block w seat.restart.kind refl w.does) [
        | inl is ↦ not_born seat.place block (w.kind ∙ is)
        | inr a ↦
            let it = heirs_see s code a.2 state h forked taken run.lawful c seat (Now (Fork block)) a.0 a.1 e a.3 in
            not_born it.0.place block (kind_away l (places_of s state).kind it.0.place (away l run.lawful.1.board.gone it.0.place run.gone it.0.stays) ∙ kinds_same s state.words it.0.place ∙ it.1)
      ]

  -- a place that pushes the fork of a block has the strand of its left branch
  record PushedBy (r : ℕ) : Type 0 where
    pub place : ℕ
    pub around : Around
    pub copy : ℕ
    pub frame : ℕ
    pub slots : ℕ
    pub is : t ≡ plug around (Leaf (InPlace place) (Begins copy) frame slots)
    pub hook : hook_at Root around ≡ Branch Left r

  pushed_at : (r q : ℕ) (g : Leafed i z t q) (st : Stand) → g.stand ≡ st → (k : RestartKind) → (k ≡ Push1 r) ⊎ (k ≡ Push2 r) → Match code m k (hook_at Root g.around) st g.frame → PushedBy r
  pushed_at r q g (Begins y) e k (inl ke) match = let a = subst (λ (x : RestartKind). Match code m x (hook_at Root g.around) (Begins y) g.frame) ke match in
      record { place = q; around = g.around; copy = y; frame = g.frame; slots = g.slots; is = g.is ∙ ap (λ (x : Stand). plug g.around (Leaf (InPlace q) x g.frame g.slots)) e; hook = a.1 }
  pushed_at r q g (Begins y) e k (inr ke) match = let a = subst (λ (x : RestartKind). Match code m x (hook_at Root g.around) (Begins y) g.frame) ke match in
      record { place = q; around = g.around; copy = y; frame = g.frame; slots = g.slots; is = g.is ∙ ap (λ (x : Stand). plug g.around (Leaf (InPlace q) x g.frame g.slots)) e; hook = a.1 }
  pushed_at r q g Over e k (inl ke) match = absurd (subst (λ (x : RestartKind). Match code m x (hook_at Root g.around) Over g.frame) ke match)
  pushed_at r q g Over e k (inr ke) match = absurd (subst (λ (x : RestartKind). Match code m x (hook_at Root g.around) Over g.frame) ke match)
  pushed_at r q g Arrives e k (inl ke) match = absurd (subst (λ (x : RestartKind). Match code m x (hook_at Root g.around) Arrives g.frame) ke match)
  pushed_at r q g Arrives e k (inr ke) match = absurd (subst (λ (x : RestartKind). Match code m x (hook_at Root g.around) Arrives g.frame) ke match)

  pushed_by : (r q : ℕ) → (z.kind q ≡ Push1 r) ⊎ (z.kind q ≡ Push2 r) → PushedBy r
  pushed_by r q push =
      let one : carried m (z.kind q) ≡ 1 = elim push [ inl e ↦ ap (carried m) e | inr e ↦ ap (carried m) e ] in
      let g = leaf i fair root input z t law q one in
      pushed_at r q g g.stand refl (z.kind q) push g.match

  -- what the tickets say of one that is pushed
  pub pushing_kind : (r q : ℕ) → h r ≡ Pushing q → (z.kind q ≡ Push1 r) ⊎ (z.kind q ≡ Push2 r)
  pushing_kind r q e =
      let estate = run.lawful.1.board in
      let real = estate.board.real r in
      let stays : estate.gone q ≡ false = subst (Stays estate.gone) e (estate.board.stays r) in
      let same : z.kind q ≡ spots.kinds s state.words q = kind_away l (places_of s state).kind q (away l estate.gone q run.gone stays) ∙ kinds_same s state.words q in
      elim (by (spots.kinds s state.words q) (estate.ghost (Slot q (spots.bottoms s state.words q))) (subst (λ (x : Home). Carries estate.ghost (spots.kinds s state.words) (spots.bottoms s state.words) x r) e real)) [
        | inl a ↦ inl (same ∙ a)
        | inr a ↦ inr (same ∙ a)
      ]
    where
      by : (k : RestartKind) (w : Word) → Pushes k w r → (k ≡ Push1 r) ⊎ (k ≡ Push2 r)
      by (Push1 x) w a = inl (ap Push1 a)
      by (Push2 x) w a = inr (ap Push2 a.0)
      by _ w a = absurd a

  -- of one that has still to be pushed, which place is to push it
  to_push : (r : ℕ) (x : Home) → h r ≡ x → fate_of x ≡ ToPush → (o : ℕ) × ((z.kind o ≡ Push1 r) ⊎ (z.kind o ≡ Push2 r))
  to_push r (Pushing q) e f = (q, pushing_kind r q e)
  to_push r Unborn e f = absurd (cc)
  to_push r (Listed v j g) e f = absurd (cc)
  to_push r (Popping q) e f = absurd (cc)
  to_push r (Stolen q) e f = absurd (cc)
  to_push r Inline e f = absurd (cc)
  to_push r Begun e f = absurd (cc)

  -- one that is left to the strand
  left_home : (x : Home) → fate_of x ≡ fates.Inline → x ≡ Inline
  left_home Inline f = refl
  left_home Unborn f = absurd (cc)
  left_home (Pushing q) f = absurd (cc)
  left_home (Listed v j g) f = absurd (cc)
  left_home (Popping q) f = absurd (cc)
  left_home (Stolen q) f = absurd (cc)
  left_home Begun f = absurd (cc)

  pub joins_inline : (c : ℕ) (seat : Seat) (block frame bottom : ℕ) → stand_of state c ≡ IsWithin seat (Now (Begin block frame bottom)) → IsJoined seat.restart.kind (h block)
  joins_inline c seat block frame bottom e =
      let w = within s code root input state h forked taken l t run c seat (Now (Begin block frame bottom)) e in
      by seat.restart.kind w.kind w.doing
    where
      by : (k : RestartKind) → z.kind seat.place ≡ k → z.doing seat.place ≡ InRow (Now (Begin block frame bottom)) → IsJoined k (h block)
      by (Join r d) ke does =
          let a = (fates_show i fair root input z t law (λ r. fate_of (h r)) agrees).joins seat.place r d block frame bottom ke does (to_push r (h r) refl) in
          ap h a.0 ∙ left_home (h r) a.1
      by (Run f y) ke does = tt
      by (Bump r) ke does = tt
      by (Push1 r) ke does = tt
      by (Push2 r) ke does = tt
      by (Unwind f) ke does = tt
      by (Arrive r d) ke does = tt
      by Pop1 ke does = tt
      by (Pop2 r) ke does = tt
      by Seek ke does = tt
      by (Steal v x) ke does = tt
      by (Check v x) ke does = tt
      by (Take v x) ke does = tt
      by (Take2 v) ke does = tt

  -- the order word of a fork that is pushed is one of a pool
  order_pool : (r q : ℕ) → (z.kind q ≡ Push1 r) ⊎ (z.kind q ≡ Push2 r) → IsInPool s (r + 1)
  order_pool r q push =
      let g = pushed_by r q push in
      head_pool s code root input state h forked taken l t run (r + 1) (head_on i fair root input z t law g.place g.around (Leaf (InPlace g.place) (Begins g.copy) g.frame g.slots) r Left g.is g.hook)

  -- of a row that changes one word, or none
  one_stored : (at : ℕ) (cell : Cell) (content : Content) (next : Then) → IsInPool s at → TameRow s.takeover (one_word at) (Store cell content next) → IsPooled s cell
  one_stored at (BlockWord x) content next pool q = subst (IsInPool s) (sym q.0) pool
  one_stored at FinishWord content next pool q = tt
  one_stored at (CarryWord x) content next pool q = tt
  one_stored at (DeadWord x) content next pool q = tt
  one_stored at (RestartWord x) content next pool q = tt
  one_stored at (MessageWord x) content next pool q = tt
  one_stored at (HolderWord x) content next pool q = tt
  one_stored at (Top x) content next pool q = tt
  one_stored at (RoomCounter x) content next pool q = tt
  one_stored at (EntryWord x j) content next pool q = tt
  one_stored at (ArrayWord x) content next pool q = tt

  one_traded : (at : ℕ) (cell : Cell) (old new : Content) (next : Then) → IsInPool s at → TameRow s.takeover (one_word at) (Exchange cell old new next) → IsPooled s cell
  one_traded at (BlockWord x) old new next pool q = subst (IsInPool s) (sym q.0) pool
  one_traded at FinishWord old new next pool q = tt
  one_traded at (CarryWord x) old new next pool q = tt
  one_traded at (DeadWord x) old new next pool q = tt
  one_traded at (RestartWord x) old new next pool q = tt
  one_traded at (MessageWord x) old new next pool q = tt
  one_traded at (HolderWord x) old new next pool q = tt
  one_traded at (Top x) old new next pool q = tt
  one_traded at (RoomCounter x) old new next pool q = tt
  one_traded at (EntryWord x j) old new next pool q = tt
  one_traded at (ArrayWord x) old new next pool q = tt

  none_stored : (cell : Cell) (content : Content) (next : Then) → TameRow s.takeover no_words (Store cell content next) → IsPooled s cell
  none_stored (BlockWord x) content next q = absurd q.0
  none_stored FinishWord content next q = tt
  none_stored (CarryWord x) content next q = tt
  none_stored (DeadWord x) content next q = tt
  none_stored (RestartWord x) content next q = tt
  none_stored (MessageWord x) content next q = tt
  none_stored (HolderWord x) content next q = tt
  none_stored (Top x) content next q = tt
  none_stored (RoomCounter x) content next q = tt
  none_stored (EntryWord x j) content next q = tt
  none_stored (ArrayWord x) content next q = tt

  none_traded : (may : May) → ((x : ℕ) → may.trades x → ⊥) → (cell : Cell) (old new : Content) (next : Then) → TameRow s.takeover may (Exchange cell old new next) → IsPooled s cell
  none_traded may none (BlockWord x) old new next q = absurd (none x q.0)
  none_traded may none FinishWord old new next q = tt
  none_traded may none (CarryWord x) old new next q = tt
  none_traded may none (DeadWord x) old new next q = tt
  none_traded may none (RestartWord x) old new next q = tt
  none_traded may none (MessageWord x) old new next q = tt
  none_traded may none (HolderWord x) old new next q = tt
  none_traded may none (Top x) old new next q = tt
  none_traded may none (RoomCounter x) old new next q = tt
  none_traded may none (EntryWord x j) old new next q = tt
  none_traded may none (ArrayWord x) old new next q = tt

  -- a store of a row
  module _ (c : ℕ) (seat : Seat) (cell : Cell) (content : Content) (next : Then) (w : In c seat (Store cell content next)) (doing : z.doing seat.place ≡ InRow (Store cell content next)) where
    abbrev row : Row
    row = Store cell content next

    stored_by : (k : RestartKind) → seat.restart.kind ≡ k → Does i m seat.place k (InRow row) → IsPooled s cell
    stored_by (Run f y) e d = absurd (subst IsLoad (sym d) tt)
    stored_by (Bump r) e d = none_stored cell content next (reached no_words (seat_at seat.place (Bump r) d.0) d.1 (row_of s (seat_at seat.place (Bump r) d.0) (Bump r)) row tt d.2)
    stored_by (Unwind f) e d = cell_pooled s cell ((unwind_row_keeps i fair root input z t law seat.place w.place f (w.kind ∙ e)).cells cell content next doing)
    stored_by (Arrive r x) e d = absurd ((arrive_row_keeps i fair root input z t law seat.place w.place r x (w.kind ∙ e)).stores_none cell content next doing)
    stored_by (Join r x) e d = cell_pooled s cell ((join_row_keeps i fair root input z t law seat.place w.place r x (w.kind ∙ e)).cells cell content next doing)
    stored_by (Push1 r) e d = one_stored (r + 1) cell content next (order_pool r seat.place (inl (w.kind ∙ e))) (looked (one_word (r + 1)) c seat row (Push1 r) tt e (push_row (one_word (r + 1)) seat r refl tt) w)
    stored_by (Push2 r) e d = none_stored cell content next (looked no_words c seat row (Push2 r) tt e tt w)
    stored_by Pop1 e d = none_stored cell content next (looked no_words c seat row Pop1 tt e tt w)
    stored_by (Pop2 r) e d = none_stored cell content next (looked no_words c seat row (Pop2 r) tt e tt w)
    stored_by Seek e d = none_stored cell content next (looked no_words c seat row Seek tt e tt w)
    stored_by (Steal v x) e d = none_stored cell content next (looked no_words c seat row (Steal v x) tt e tt w)
    stored_by (Check v x) e d = none_stored cell content next (looked no_words c seat row (Check v x) tt e (λ r. tt, inr (λ r. tt)) w)
    stored_by (Take v x) e d = none_stored cell content next (looked no_words c seat row (Take v x) tt e (places_row s.takeover s.takeover no_words _ tt) w)
    stored_by (Take2 v) e d = none_stored cell content next (looked no_words c seat row (Take2 v) tt e (places_row s.takeover s.takeover no_words _ tt) w)

  -- an exchange of a row
  module _ (c : ℕ) (seat : Seat) (cell : Cell) (old new : Content) (next : Then) (w : In c seat (Exchange cell old new next)) where
    abbrev trade : Row
    trade = Exchange cell old new next

    nothing : (x : ℕ) → ⊥ → ⊥
    nothing x e = e

    traded_by : (k : RestartKind) → seat.restart.kind ≡ k → Does i m seat.place k (InRow trade) → IsPooled s cell
    traded_by (Run f y) e d = absurd (subst IsLoad (sym d) tt)
    traded_by (Bump r) e d = none_traded no_words nothing cell old new next (reached no_words (seat_at seat.place (Bump r) d.0) d.1 (row_of s (seat_at seat.place (Bump r) d.0) (Bump r)) trade tt d.2)
    traded_by (Unwind f) e d = none_traded no_trades nothing cell old new next (reached no_trades (seat_at seat.place (Unwind f) d.0) d.1 (row_of s (seat_at seat.place (Unwind f) d.0) (Unwind f)) trade (λ a. tt) d.2)
    traded_by (Arrive r x) e d = one_traded (r + 1) cell old new next
        (head_pool s code root input state h forked taken l t run (r + 1) (subst (Ordered i z t m) (w.kind ∙ e) (law.orders seat.place)))
        (reached (one_word (r + 1)) (seat_at seat.place (Arrive r x) d.0) d.1 (row_of s (seat_at seat.place (Arrive r x) d.0) (Arrive r x)) trade (refl, tt, tt) d.2)
    traded_by (Join r x) e d = elim d [
      | inl d ↦ none_traded no_trades nothing cell old new next (reached no_trades (seat_at seat.place (Join r x) d.0) d.1 (row_of s (seat_at seat.place (Join r x) d.0) (Join r x)) trade (tt, λ a. tt) d.2)
      | inr g ↦ absurd (subst IsInstall (sym g.is) tt)
    ]
    traded_by (Push1 r) e d = one_traded (r + 1) cell old new next (order_pool r seat.place (inl (w.kind ∙ e))) (looked (one_word (r + 1)) c seat trade (Push1 r) tt e (push_row (one_word (r + 1)) seat r refl tt) w)
    traded_by (Push2 r) e d = none_traded no_words nothing cell old new next (looked no_words c seat trade (Push2 r) tt e tt w)
    traded_by Pop1 e d = none_traded no_words nothing cell old new next (looked no_words c seat trade Pop1 tt e tt w)
    traded_by (Pop2 r) e d = none_traded no_words nothing cell old new next (looked no_words c seat trade (Pop2 r) tt e tt w)
    traded_by Seek e d = none_traded no_words nothing cell old new next (looked no_words c seat trade Seek tt e tt w)
    traded_by (Steal v x) e d = none_traded no_words nothing cell old new next (looked no_words c seat trade (Steal v x) tt e tt w)
    traded_by (Check v x) e d = none_traded no_words nothing cell old new next (looked no_words c seat trade (Check v x) tt e (λ r. tt, inr (λ r. tt)) w)
    traded_by (Take v x) e d = none_traded no_words nothing cell old new next (looked no_words c seat trade (Take v x) tt e (places_row s.takeover s.takeover no_words _ tt) w)
    traded_by (Take2 v) e d = none_traded no_words nothing cell old new next (looked no_words c seat trade (Take2 v) tt e (places_row s.takeover s.takeover no_words _ tt) w)

  -- a store of a capsule
  run_stored : (c : ℕ) (seat : Seat) (cell : Cell) (content : Content) (rest : Rest) → stand_of state c ≡ IsRunning seat (Stores cell content rest) → IsPooled s cell
  run_stored c seat cell content rest e =
      let w = runs s code root input state h forked taken l t run c seat (Stores cell content rest) e in
      by (z.kind seat.place) refl w.does w
    where
      by : (k : RestartKind) → z.kind seat.place ≡ k → Does i m seat.place k (InRest (Stores cell content rest)) → Runs s code root input state h forked taken l t run c seat (Stores cell content rest) → IsPooled s cell
      by (Run f y) ke d w =
          let keeps = run_row_keeps i fair root input z t law seat.place w.place f y ke in
          cell_pooled s cell (stores_are_cells i fair root input z t law seat.place w.place f y ke cell (keeps.cells cell content rest w.doing) w.here)
      by (Bump r) ke d w = absurd d
      by (Push1 r) ke d w = absurd d
      by (Push2 r) ke d w = absurd d
      by (Unwind f) ke d w = absurd d
      by (Arrive r x) ke d w = absurd d
      by (Join r x) ke d w = absurd d
      by Pop1 ke d w = absurd d
      by (Pop2 r) ke d w = absurd d
      by Seek ke d w = absurd d
      by (Steal v x) ke d w = absurd d
      by (Check v x) ke d w = absurd d
      by (Take v x) ke d w = absurd d
      by (Take2 v) ke d w = absurd d

  stored : (c : ℕ) (seat : Seat) (cell : Cell) (content : Content) (next : Then) → stand_of state c ≡ IsWithin seat (Store cell content next) → IsPooled s cell
  stored c seat cell content next e =
      let w = within s code root input state h forked taken l t run c seat (Store cell content next) e in
      stored_by c seat cell content next w w.doing seat.restart.kind refl w.does

  traded : (c : ℕ) (seat : Seat) (cell : Cell) (old new : Content) (next : Then) → stand_of state c ≡ IsWithin seat (Exchange cell old new next) → IsPooled s cell
  traded c seat cell old new next e =
      let w = within s code root input state h forked taken l t run c seat (Exchange cell old new next) e in
      traded_by c seat cell old new next w seat.restart.kind refl w.does

  pub pooled : (c : ℕ) → IsPooledAt s (stand_of state c)
  pooled c = by (stand_of state c) refl
    where
      by : (x : Standing) → stand_of state c ≡ x → IsPooledAt s x
      by (IsWithin seat (Store cell content next)) e = stored c seat cell content next e
      by (IsWithin seat (Exchange cell old new next)) e = traded c seat cell old new next e
      by (IsWithin seat (Now next)) e = tt
      by (IsRunning seat (Stores cell content rest)) e = run_stored c seat cell content rest e
      by (IsRunning seat (Loads cell go)) e = tt
      by (IsRunning seat Full) e = tt
      by (IsRunning seat (Installs kind)) e = tt
      by (IsRunning seat Breaks) e = tt
      by IsLost e = tt
      by (IsPlaced p) e = tt
      by (IsAt p restart) e = tt
      by (IsBroken p) e = tt
      by IsDone e = tt

  -- what a standing owes, where by entries what is left to a strand is so
  module _ (inlined : (c : ℕ) (seat : Seat) (restart : Restart) → stand_of state c ≡ IsWithin seat (Now (Install restart)) → IsInlined s.takeover s state.words seat seat.restart.kind restart.kind) where
    owed : (c : ℕ) → IsOrderlyAt s state.words (stand_of state c) h forked
    owed c = by (stand_of state c) refl
      where
        ends : (seat : Seat) (next : Then) → stand_of state c ≡ IsWithin seat (Now next) → IsOrderlyThen s state.words seat next h forked
        ends seat (Install restart) e = inlined c seat restart e
        ends seat (Fork block) e = forks_new c seat block e
        ends seat (Begin block frame bottom) e = joins_inline c seat block frame bottom e
        ends seat (Load point) e = tt
        ends seat (Move place) e = tt
        ends seat (Enter capsule) e = tt
        ends seat Again e = tt
        ends seat Broken e = tt

        by : (x : Standing) → stand_of state c ≡ x → IsOrderlyAt s state.words x h forked
        by (IsWithin seat (Now next)) e = ends seat next e
        by (IsWithin seat (Store cell content next)) e = stored c seat cell content next e
        by (IsWithin seat (Exchange cell old new next)) e = traded c seat cell old new next e
        by (IsRunning seat (Stores cell content rest)) e = run_stored c seat cell content rest e
        by (IsRunning seat (Loads cell go)) e = tt
        by (IsRunning seat Full) e = tt
        by (IsRunning seat (Installs kind)) e = tt
        by (IsRunning seat Breaks) e = tt
        by IsLost e = tt
        by (IsPlaced p) e = tt
        by (IsAt p restart) e = tt
        by (IsBroken p) e = tt
        by IsDone e = tt

    orderly : (c : ℕ) (act : Act) → IsActAmong s.processors act → IsOrderly s state.words act (stand_of state c) h forked
    orderly c (Step victim) among = (among, owed c)
    orderly c Soft among = tt
    orderly c Hard among = tt
    orderly c (Quit why) among = tt

    pub owes : Owes s code root input state h forked taken t
    owes = record {
      pooled = pooled;
      forks = forks_new;
      joins = joins_inline;
      orderly = λ turn among. orderly turn.processor turn.act among.act;
    }

-- by places nothing more is owed
inlined_by : (how : Takeover) → how ≡ ByPlaces → (s : Shape) (words : List ℕ) (seat : Seat) (old new : RestartKind) → IsInlined how s words seat old new
inlined_by ByPlaces e s words seat old new = tt
inlined_by ByEntries e s words seat old new = absurd (cc)

pub halves_owe : HalvesOwe
halves_owe s code fair root input state h forked taken l t run agrees inlined = owes s code fair root input state h forked taken l t run agrees inlined

pub turns_are_orderly : TurnsAreOrderly
turns_are_orderly s code places fair root input state h forked taken t run =
    owes s code fair root input state h forked taken [] t (halves run) run.agrees (λ c seat restart e. inlined_by s.takeover places s state.words seat seat.restart.kind restart.kind)
