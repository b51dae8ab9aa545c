-- In kept words whose tree is well, a row of a strand meets no broken words.
use Rattle.std.proofs.Common.{◌≡◌, ◌≢◌, ◌⊎◌, ◌≤◌, ◌<◌, ℕ, zero, suc, ◌+◌, ◌==◌, Bool, true, false, if◌then◌else◌, Option, Some, None, inl, inr, refl, sym, ap, ◌∙◌, subst, subst₂, arith}
use Rattle.std.specs.Prelude.{nat_lt}
use Rattle.std.proofs.lemmas.Bool.{lt-ltb}
use Rattle.ppm_strands.specs.Tree.{Words, Tree}
use Rattle.ppm_cells.specs.Cells.{word_count}
use Rattle.ppm_cells.specs.Finish.{finish_of, IsFinish, IsOutcome}
use Rattle.ppm_cells.specs.Link.{link_of}
use Rattle.ppm_cells.specs.declared.cell.Cell.{Cell}
use Rattle.ppm_cells.specs.declared.cell.Cell.TheVariants.{FinishWord, RoomCounter, BlockWord}
use Rattle.ppm_cells.specs.declared.finish.Finish.{Finish}
use Rattle.ppm_cells.specs.declared.finish.Finish.TheVariants.{Unset, Ended, Trapped, OutOfTurns, OutOfRoom, Stopped, Broken as BrokenFinish}
use Rattle.ppm_cells.specs.declared.link.Link.{Link}
use Rattle.ppm_cells.specs.declared.link.LinkKind.{LinkKind}
use Rattle.ppm_cells.specs.declared.link.LinkKind.TheVariants.{Root, Call as Called, Branch, Fork as Forked}
use Rattle.ppm_cells.specs.declared.restart.RestartKind.{RestartKind}
use Rattle.ppm_cells.specs.declared.restart.RestartKind.TheVariants.{Run, Bump, Push1, Unwind, Arrive, Join, Pop1}
use Rattle.ppm_cells.specs.declared.side.Side.{Side}
use Rattle.ppm_cells.specs.declared.side.Side.TheVariants.{Left, Right}
use Rattle.ppm_strands.specs.Strand.{Frame}
use Rattle.ppm_code.specs.Strands.{Point, Result}
use Rattle.ppm_code.specs.declared.location.FrameWord.{FrameWord}
use Rattle.ppm_cells.specs.JoinOrder.{first}
use Rattle.ppm_cells.specs.JoinOutcome.{outcome_of_both}
use Rattle.ppm_step.specs.Contents.{content_of, read_so}
use Rattle.ppm_step.specs.Points.{cell_at, reading_at, outcome_word}
use Rattle.ppm_step.specs.Rows.{on_link, on_outcome, bumped, joins, is_inline, is_last, join_by, join_outcome, right_value, right_begins, with_kind, unwind_by, unwound, branch_outcome, after_value, target_found, value_found, found_at, row_of}
use Rattle.ppm_step.specs.Standings.{point_is_there}
use Rattle.ppm_step.specs.There.{kind_is_there, bottom_is_there, restart_is_there}
use Rattle.ppm_tickets.specs.Saw.{IsStrand, IsStrandOrPop}
use Rattle.ppm_tickets.specs.Words.{Word, Spot}
use Rattle.ppm_step.specs.declared.content.Content.{Content}
use Rattle.ppm_step.specs.declared.content.Content.TheVariants.{ANumber, ALink, AFinish}
use Rattle.ppm_step.specs.declared.row.Point.{Point as RowPoint}
use Rattle.ppm_step.specs.declared.row.Point.TheVariants.{BumpLink, UnwindLink, UnwindOutcome, Target, GivenValue, JoinOrder, JoinLink, JoinLeft, JoinRight, RightFrame, Offset}
use Rattle.ppm_step.specs.declared.row.Row.{Row}
use Rattle.ppm_step.specs.declared.row.Row.TheVariants.{Now, Store, Exchange}
use Rattle.ppm_step.specs.declared.row.Seat.{Seat}
use Rattle.ppm_step.specs.declared.row.Then.{Then}
use Rattle.ppm_step.specs.declared.row.Then.TheVariants.{Load, Install, Fork, Begin, Move, Enter, Again, Broken}
use Rattle.ppm_frames.specs.Skeletons.{Begins, Over, Arrives, InPlace, Skeleton, Leaf, Calling, Forking, header, hung, top, count, Around, Top, AtCall, AtLeft, AtRight, plug, hook_at}
use Rattle.ppm_frames.specs.Good.{link_or, link_at, Mark, IsPlain, IsFirst, IsFresh, IsHeld, IsInlined, order_of, Calls, Match, BumpsAt, Good}
use Rattle.ppm_frames.proofs.SkeletonLemmas.{inside_at, CalledFrom, called_from, branch_from}
use Rattle.ppm_frames.proofs.SwapLemmas.{good_here}
use Rattle.ppm_kept.specs.Running.{IsFair}
use Rattle.ppm_kept.specs.Kept.{Setting, side_code, seat_at, State, Reach, Head, Ordered, carried, IsKept}
use Rattle.ppm_cells.proofs.FinishLemmas.{finishes_exact}
use Rattle.ppm_frames.proofs.WriteLemmas.{address}
use Rattle.ppm_kept.proofs.BumpRow.{Bumps, bump_at}
use Rattle.ppm_kept.proofs.CopyLemmas.{LowLink, unpacked_low, hooked_low}
use Rattle.ppm_kept.proofs.JoiningLemmas.{Joining, Comes, joint, joining, joins as joins_at}
use Rattle.ppm_kept.proofs.LoadLemmas.{in_part}
use Rattle.ppm_kept.proofs.TurnLemmas.{head_cell}
use Rattle.ppm_kept.proofs.PlaceLemmas.{leaf, counted}
use Rattle.ppm_kept.proofs.UnwindRow.{Overs, over_at, header_not, header_not_one}
use Rattle.ppm_runs.specs.Sound.{Noted, IsLoadOf, GoesWell, IsNoted, IsSoundRow}
use Rattle.ppm_runs.proofs.SoundRows.{and_is, and_left}
use Rattle.ppm_runs.proofs.SoundJoin.{cell_low}
use Rattle.ppm_runs.proofs.WellWords.{crit, small_in, crit_plain, crit_none, none_at}
use Rattle.ppm_runs.specs.Well.{SaysOutcome, IsWell}

-- a part of a tree that is well is so
pub well_here : (i : Setting) (m : Cell → ℕ) (h : LinkKind) (c : Around) (u : Skeleton) → IsWell i.code m h (plug c u) → IsWell i.code m (hook_at h c) u
well_here i m h Top u a = a
well_here i m h (AtCall f n y c) u a = well_here i m (Called f y) c u a.1
well_here i m h (AtLeft f n y r c b) u a = well_here i m (Branch Left r) c u a.1
well_here i m h (AtRight f n y r b c) u a = well_here i m (Branch Right r) c u a.2

-- a part hangs on no fork's own link
abbrev IsNoFork : LinkKind → Type 0
IsNoFork (Forked f y) = ⊥
IsNoFork _ = Unit {0}

no_fork : (h : LinkKind) (c : Around) → IsNoFork h → IsNoFork (hook_at h c)
no_fork h Top a = a
no_fork h (AtCall f n y c) a = no_fork (Called f y) c tt
no_fork h (AtLeft f n y r c b) a = no_fork (Branch Left r) c tt
no_fork h (AtRight f n y r b c) a = no_fork (Branch Right r) c tt

-- a link of some size is one that was read
pub linked : (w n : ℕ) (h : LinkKind) → link_at w ≡ record { size = 6 + n; kind = h } → link_of w ≡ Some (record { size = 6 + n; kind = h })
linked w n h e = by (link_of w) e
  where
    by : (o : Option Link) → link_or o ≡ record { size = 6 + n; kind = h } → o ≡ Some (record { size = 6 + n; kind = h })
    by None q = absurd (let z : 0 ≡ 6 + n = ap (λ (l : Link). l.size) q in omega (arith, z))
    by (Some l) q = ap Some q

-- an outcome is one of two
pub outcome_or : (P : Finish → Type 0) → P Ended → ((trap : _) (line : ℕ) → P (Trapped trap line)) → (v : Finish) → IsOutcome v → P v
outcome_or P ended traps Ended out = ended
outcome_or P ended traps (Trapped trap line) out = traps trap line
outcome_or P ended traps Unset out = absurd out
outcome_or P ended traps (OutOfTurns c) out = absurd out
outcome_or P ended traps (OutOfRoom p) out = absurd out
outcome_or P ended traps Stopped out = absurd out
outcome_or P ended traps (BrokenFinish p) out = absurd out

first_is : (d : Side) → first d ≡ side_code d
first_is Left = refl
first_is Right = refl

-- an order word is one of four
order_small : (a b : Mark) → order_of a b ≤ 3
order_small IsInlined b = omega arith
order_small IsFirst b = omega arith
order_small IsPlain IsHeld = omega arith
order_small IsPlain IsFirst = omega arith
order_small IsPlain IsPlain = omega arith
order_small IsPlain IsFresh = omega arith
order_small IsPlain IsInlined = omega arith
order_small IsFresh IsHeld = omega arith
order_small IsFresh IsFirst = omega arith
order_small IsFresh IsPlain = omega arith
order_small IsFresh IsFresh = omega arith
order_small IsFresh IsInlined = omega arith
order_small IsHeld IsHeld = omega arith
order_small IsHeld IsFirst = omega arith
order_small IsHeld IsPlain = omega arith
order_small IsHeld IsFresh = omega arith
order_small IsHeld IsInlined = omega arith

-- the frame at the top of a tree is one of its words
top_counted : (h : LinkKind) (b : Skeleton) → 1 ≤ count h b (top b)
top_counted h (Leaf w st f n) = let a = inside_at f (6 + n) f 0 (omega arith) (omega arith) in omega (arith, a)
top_counted h (Calling f n y t) = let a = inside_at f (6 + n) f 0 (omega arith) (omega arith) in omega (arith, a)
top_counted h (Forking f n y r a b) = let e = inside_at f (6 + n) f 0 (omega arith) (omega arith) in omega (arith, e)

-- the outcome of both is one
both_out : (v w : Finish) → IsOutcome v → IsOutcome w → IsOutcome (outcome_of_both v w)
both_out Ended Ended out other = tt
both_out Ended (Trapped trap line) out other = tt
both_out Ended Unset out other = absurd other
both_out Ended (OutOfTurns c) out other = absurd other
both_out Ended (OutOfRoom q) out other = absurd other
both_out Ended Stopped out other = absurd other
both_out Ended (BrokenFinish q) out other = absurd other
both_out (Trapped trap line) w out other = tt
both_out Unset w out other = absurd out
both_out (OutOfTurns c) w out other = absurd out
both_out (OutOfRoom q) w out other = absurd out
both_out Stopped w out other = absurd out
both_out (BrokenFinish q) w out other = absurd out

-- What a row of a strand is about to do, where its loads know this: it installs a kind of a strand that is
-- there, and stores and exchanges words that are there.
module _ (i : Setting) (t : Skeleton) (At : RowPoint → Type 0) (seat : Seat) where
  abbrev pub StrandThen : Then → Type 0
  StrandThen (Load point) = At point
  StrandThen (Install r) = (r.bottom ≡ seat.restart.bottom) × (kind_is_there i.shape r.kind ≡ true) × IsStrandOrPop r.kind
  StrandThen (Fork block) = kind_is_there i.shape (Push1 block) ≡ true
  StrandThen (Begin block frame bottom) = (bottom ≡ seat.restart.bottom) × (kind_is_there i.shape (Run frame 0) ≡ true)
  StrandThen Again = Unit {0}
  StrandThen _ = ⊥

  abbrev pub StrandStore : Cell → Type 0
  StrandStore (BlockWord x) = (x < word_count i.shape) × (crit Root t x ≡ 0)
  StrandStore (RoomCounter q) = q < i.shape.processors
  StrandStore _ = ⊥

  abbrev pub StrandTry : Cell → Content → Type 0
  StrandTry FinishWord (AFinish x) = IsOutcome x × IsFinish x
  StrandTry (BlockWord x) new = (x < word_count i.shape) × (crit Root t x ≡ 0)
  StrandTry _ new = ⊥

  abbrev pub StrandRow : Row → Type 0
  StrandRow (Now next) = StrandThen next
  StrandRow (Store c x next) = StrandStore c × StrandThen next
  StrandRow (Exchange c old new next) = StrandTry c new × StrandThen next

  -- a row of a strand installs, stores and exchanges what is there, wherever it has come
  pub strand_walk : (m : Cell → ℕ) → ((point : RowPoint) → At point → StrandRow (found_at i.shape seat 0 point (content_of (reading_at point) (m (cell_at seat 0 point)))))
      → (n : ℕ) (row rest : Row) → StrandRow row → Reach i m seat n row rest → StrandRow rest
  strand_walk m found zero row rest a e = subst StrandRow e a
  strand_walk m found (suc n) (Now (Load point)) rest a e = strand_walk m found n _ rest (found point a) e
  strand_walk m found (suc n) (Now next) rest a e = absurd e
  strand_walk m found (suc n) (Store c w next) rest a e = strand_walk m found n (Now next) rest a.1 e.1
  strand_walk m found (suc n) (Exchange c v w next) rest a e = strand_walk m found n (Now next) rest a.1 e.1

-- and that is sound
module _ (i : Setting) (t : Skeleton) (At : RowPoint → Type 0) (seat : Seat) (view_ : Spot → Word) (is : IsStrand seat.restart.kind) (there : restart_is_there i.shape seat.restart ≡ true)
    (loads : (point : RowPoint) → At point → point_is_there i.shape seat point ≡ true) where
  abbrev Well : Row → Type 0
  Well row = IsSoundRow i.shape i.code view_ seat row

  bottom_is : bottom_is_there i.shape seat.restart.bottom ≡ true
  bottom_is = and_left (bottom_is_there i.shape seat.restart.bottom) (kind_is_there i.shape seat.restart.kind) there

  load_of : (k : RestartKind) (b : ℕ) (point : RowPoint) → IsStrand k → IsLoadOf i.shape seat.place b k point
  load_of (Run f y) b point is = tt
  load_of (Bump r) b point is = tt
  load_of (Unwind f) b point is = tt
  load_of (Arrive r d) b point is = tt
  load_of (Join r d) b point is = tt
  load_of _ b point is = absurd is

  noted_strand : (k : RestartKind) → IsStrandOrPop k → Noted i.shape view_ seat.place k
  noted_strand (Run f y) a = tt
  noted_strand (Bump r) a = tt
  noted_strand (Unwind f) a = tt
  noted_strand (Arrive r d) a = tt
  noted_strand (Join r d) a = tt
  noted_strand Pop1 a = tt
  noted_strand _ a = absurd a

  next_well : (next : Then) → StrandThen i t At seat next → GoesWell i.shape i.code view_ seat next × IsNoted i.shape i.code view_ seat next
  next_well (Load point) a = ((loads point a, load_of seat.restart.kind seat.restart.bottom point is), tt)
  next_well (Install r) a = (and_is (bottom_is_there i.shape r.bottom) (kind_is_there i.shape r.kind) (subst (λ (b : ℕ). bottom_is_there i.shape b ≡ true) (sym a.0) bottom_is) a.1, noted_strand r.kind a.2)
  next_well (Fork block) a = (and_is (bottom_is_there i.shape seat.restart.bottom) (kind_is_there i.shape (Push1 block)) bottom_is a, tt)
  next_well (Begin block frame bottom) a = (and_is (bottom_is_there i.shape bottom) (kind_is_there i.shape (Run frame 0)) (subst (λ (b : ℕ). bottom_is_there i.shape b ≡ true) (sym a.0) bottom_is) a.1, tt)
  next_well Again a = (tt, tt)
  next_well (Move q) a = absurd a
  next_well (Enter x) a = absurd a
  next_well Broken a = absurd a

  pub strand_sound : (row : Row) → StrandRow i t At seat row → Well row
  strand_sound (Now next) a = next_well next a
  strand_sound (Store (BlockWord x) content next) a = (let w = next_well next a.1 in (lt-ltb x (word_count i.shape) a.0.0, tt, w.0, w.1))
  strand_sound (Store (RoomCounter q) content next) a = (let w = next_well next a.1 in (lt-ltb q i.shape.processors a.0, tt, w.0, w.1))
  strand_sound (Store _ content next) a = absurd a.0
  strand_sound (Exchange c old new next) a = by c new a.0
    where
      by : (c : Cell) (new : Content) → StrandTry i t At seat c new → Well (Exchange c old new next)
      by FinishWord (AFinish x) b = (let w = next_well next a.1 in (refl, b, w.0, w.1))
      by FinishWord _ b = absurd b
      by (BlockWord x) new b = (let w = next_well next a.1 in (lt-ltb x (word_count i.shape) b.0, tt, w.0, w.1))
      by _ new b = absurd b

module _ (i : Setting) (fair : IsFair i.code) (root : Tree (Frame FrameWord Point) Result) (input : Words) (s : State) (t : Skeleton) (law : IsKept i root input s t) (well : IsWell i.code s.words Root t) (p : ℕ) (there : p < i.shape.processors) where
  abbrev m : Cell → ℕ
  m = s.words

  -- a word of the tree is one of the words
  pub in_words : (c : Around) (u : Skeleton) → t ≡ plug c u → (x : ℕ) → 1 ≤ count (hook_at Root c) u x → x < word_count i.shape
  in_words c u is x one = cell_low i.shape x (in_part i fair root input s t law p there c u is x one).cell_is

  pub part_well : (c : Around) (u : Skeleton) → t ≡ plug c u → IsWell i.code m (hook_at Root c) u
  part_well c u is = well_here i m Root c u (subst (IsWell i.code m Root) is well)

  pub part_good : (c : Around) (u : Skeleton) → t ≡ plug c u → Good i.code m s.kind (hook_at Root c) u
  part_good c u is = good_here i.code m s.kind Root c u (subst (Good i.code m s.kind Root) is law.good)

  -- a frame that unwinds
  module _ (f : ℕ) (ke : s.kind p ≡ Unwind f) where
    pub overs : Overs i s t p f
    overs = let g = leaf i fair root input s t law p (ap (carried m) ke) in
        over_at i s t p f g.around g.stand g.frame g.slots g.is g.alone g.framed (subst (λ (k : RestartKind). Match i.code m k (hook_at Root g.around) g.stand g.frame) ke g.match)

    abbrev hook : LinkKind
    hook = hook_at Root overs.around

    abbrev low : Skeleton
    low = Leaf (InPlace p) Over f overs.slots

    said : SaysOutcome (m (BlockWord (f + 1)))
    said = part_well overs.around low overs.is

    own_there : (x j : ℕ) → x ≡ f + j → j < 6 → x < word_count i.shape
    own_there x j e lt = in_words overs.around low overs.is x (let a = inside_at f (6 + overs.slots) x j e (omega (arith, lt)) in omega (arith, a))

    -- what its loads know
    abbrev pub UpAt : RowPoint → Type 0
    UpAt (UnwindLink g) = g ≡ f
    UpAt (UnwindOutcome g h) = (g ≡ f) × (h ≡ hook)
    UpAt (Target g to y None) = (g ≡ f) × (hook ≡ Called to y)
    UpAt (GivenValue g to y target None) = (g ≡ f) × (hook ≡ Called to y) × (target ≡ m (BlockWord (f + 5))) × (1 ≤ target)
    UpAt _ = ⊥

    module _ (seat : Seat) where
      abbrev UpThen : Then → Type 0
      UpThen next = StrandThen i t UpAt seat next

      abbrev UpRow : Row → Type 0
      UpRow row = StrandRow i t UpAt seat row

      -- the caller
      module _ (g y : ℕ) (he : hook ≡ Called g y) where
        from : CalledFrom Root overs.around g y
        from = elim (called_from Root overs.around g y he) [ inl z ↦ absurd (let e = z.0 in cc) | inr z ↦ z ]

        abbrev caller : Skeleton
        caller = Calling g from.slots y low

        at_caller : t ≡ plug from.around caller
        at_caller = overs.is ∙ from.is low

        caller_there : (x j : ℕ) → x ≡ g + j → j < 6 + from.slots → x < word_count i.shape
        caller_there x j e lt = in_words from.around caller at_caller x (let a = inside_at g (6 + from.slots) x j e lt in omega (arith, a))

        -- none of its words but its header says that the tree is well
        caller_free : (x j : ℕ) → x ≡ g + j → j < 6 + from.slots → header g y ≢ x → crit Root t x ≡ 0
        caller_free x j e lt ne =
            let one = inside_at g (6 + from.slots) x j e lt in
            let sum = counted i fair root input s t law p from.around caller x at_caller in
            let most = law.apart x in
            let head = none_at (header g y) x ne in
            let below_ = small_in (f + 1) f (6 + overs.slots) x 1 refl (omega arith) in
            crit_none t from.around caller x at_caller most (omega (arith, one)) (omega (arith, sum, most, one, head, below_))

        waiting : Calls i.code m (hook_at Root from.around) g from.slots y low
        waiting = (part_good from.around caller at_caller).0

        copy_low : y < 2
        copy_low = subst LowLink he (unpacked_low (m (BlockWord f)) (record { size = 6 + overs.slots; kind = hook }) (linked (m (BlockWord f)) overs.slots hook overs.framed))

        goes_on : UpThen (with_kind seat (Run g y))
        goes_on = (refl, and_is (nat_lt g (word_count i.shape)) (nat_lt y 2) (lt-ltb g (word_count i.shape) (caller_there g 0 (omega arith) (omega arith))) (lt-ltb y 2 copy_low), tt)

        unwinds : UpThen (with_kind seat (Unwind g))
        unwinds = (refl, lt-ltb g (word_count i.shape) (caller_there g 0 (omega arith) (omega arith)), tt)

        traps : (x : Finish) → UpRow (Store (outcome_word g) (AFinish x) (with_kind seat (Unwind g)))
        traps x = ((caller_there (g + 1) 1 refl (omega arith), caller_free (g + 1) 1 refl (omega arith) (header_not_one g y)), unwinds)

        value_row : (v : ℕ) → UpRow (value_found i.shape seat g y (m (BlockWord (f + 5))) None v)
        value_row v = by (m (BlockWord (f + 5))) waiting.target
          where
            by : (x : ℕ) → x ≤ from.slots → UpRow (value_found i.shape seat g y x None v)
            by x le =
                let at_ : g + 5 + x < word_count i.shape = caller_there (g + 5 + x) (5 + x) (omega arith) (omega (arith, le)) in
                subst (λ (b : Bool). UpRow (if b then Store (BlockWord (g + 5 + x)) (ANumber v) (after_value seat g y None) else Now Broken)) (sym (lt-ltb (g + 5 + x) (word_count i.shape) at_))
                ((at_, caller_free (g + 5 + x) (5 + x) (omega arith) (omega (arith, le)) (λ e. header_not g y (5 + x) (omega arith) (omega (arith, e)))), goes_on)

        target_row : (x : ℕ) → m (BlockWord (f + 5)) ≡ x → UpRow (target_found seat f g y None x)
        target_row zero e = goes_on
        target_row (suc x) e = (refl, he, sym e, omega arith)

      -- a branch: its outcome word in the fork block
      branch_there : (d : Side) (r : ℕ) → hook ≡ Branch d r → (r < word_count i.shape) × ((x : ℕ) → branch_outcome d r ≡ BlockWord x → x < word_count i.shape)
      branch_there Left r he =
          let at_ = in_words overs.around low overs.is (r + 2) (let one = subst (λ (h : LinkKind). 1 ≤ hung h (r + 2)) (sym he) (inside_at (r + 2) 1 (r + 2) 0 (omega arith) (omega arith)) in omega (arith, one)) in
          (omega (arith, at_), λ x e. (let same : r + 2 ≡ x = ap address e in omega (arith, at_, same)))
      branch_there Right r he =
          let at_ = in_words overs.around low overs.is (r + 3) (let one = subst (λ (h : LinkKind). 1 ≤ hung h (r + 3)) (sym he) (inside_at (r + 3) 1 (r + 3) 0 (omega arith) (omega arith)) in omega (arith, one)) in
          (omega (arith, at_), λ x e. (let same : r + 3 ≡ x = ap address e in omega (arith, at_, same)))

      -- which no frame has
      hung_free : (x : ℕ) → 1 ≤ hung hook x → crit Root t x ≡ 0
      hung_free x one =
          let sum = counted i fair root input s t law p overs.around low x overs.is in
          let most = law.apart x in
          let below_ = small_in (f + 1) f (6 + overs.slots) x 1 refl (omega arith) in
          crit_none t overs.around low x overs.is most (omega (arith, one)) (omega (arith, sum, most, one, below_))

      branch_row : (d : Side) (r : ℕ) (x : Finish) → hook ≡ Branch d r → UpRow (Store (branch_outcome d r) (AFinish x) (with_kind seat (Arrive r d)))
      branch_row Left r x he = (((branch_there Left r he).1 (r + 2) refl, hung_free (r + 2) (subst (λ (h : LinkKind). 1 ≤ hung h (r + 2)) (sym he) (inside_at (r + 2) 1 (r + 2) 0 (omega arith) (omega arith)))), (refl, lt-ltb r (word_count i.shape) (branch_there Left r he).0, tt))
      branch_row Right r x he = (((branch_there Right r he).1 (r + 3) refl, hung_free (r + 3) (subst (λ (h : LinkKind). 1 ≤ hung h (r + 3)) (sym he) (inside_at (r + 3) 1 (r + 3) 0 (omega arith) (omega arith)))), (refl, lt-ltb r (word_count i.shape) (branch_there Right r he).0, tt))

      -- by the outcome that was read
      unwound_row : (h : LinkKind) → hook ≡ h → (v : Finish) → finish_of (m (BlockWord (f + 1))) ≡ Some v → IsOutcome v → UpRow (unwound seat f h v)
      unwound_row Root he v says out = ((out, ((finishes_exact (m (BlockWord (f + 1))) v).0 says).0), tt)
      unwound_row (Called g y) he v says out = by v out
        where
          by : (v : Finish) → IsOutcome v → UpRow (unwound seat f (Called g y) v)
          by Ended out = (refl, he)
          by (Trapped trap line) out = traps g y he (Trapped trap line)
          by Unset out = absurd out
          by (OutOfTurns c) out = absurd out
          by (OutOfRoom q) out = absurd out
          by Stopped out = absurd out
          by (BrokenFinish q) out = absurd out
      unwound_row (Branch Left r) he v says out = branch_row Left r v he
      unwound_row (Branch Right r) he v says out = branch_row Right r v he
      unwound_row (Forked g y) he v says out = absurd (subst IsNoFork he (no_fork Root overs.around tt))

      link_row : UpRow (on_link (read_so ALink (link_of (m (BlockWord f)))) (λ l. unwind_by f l.kind))
      link_row = subst (λ (o : Option Link). UpRow (on_link (read_so ALink o) (λ l. unwind_by f l.kind))) (sym (linked (m (BlockWord f)) overs.slots hook overs.framed)) (by hook refl)
        where
          by : (h : LinkKind) → hook ≡ h → UpRow (unwind_by f h)
          by Root he = (refl, sym he)
          by (Called g y) he = (refl, sym he)
          by (Branch d r) he = (refl, sym he)
          by (Forked g y) he = absurd (subst IsNoFork he (no_fork Root overs.around tt))

      outcome_row : (h : LinkKind) → hook ≡ h → UpRow (on_outcome (read_so AFinish (finish_of (m (BlockWord (f + 1))))) (unwound seat f h))
      outcome_row h he = subst (λ (o : Option Finish). UpRow (on_outcome (read_so AFinish o) (unwound seat f h))) (sym said.1) (by said.0 refl said.2)
        where
          by : (v : Finish) → said.0 ≡ v → IsOutcome v → UpRow (on_outcome (AFinish v) (unwound seat f h))
          by Ended is out = unwound_row h he Ended (said.1 ∙ ap Some is) out
          by (Trapped trap line) is out = unwound_row h he (Trapped trap line) (said.1 ∙ ap Some is) out
          by Unset is out = absurd out
          by (OutOfTurns c) is out = absurd out
          by (OutOfRoom q) is out = absurd out
          by Stopped is out = absurd out
          by (BrokenFinish q) is out = absurd out

      -- what each load finds
      pub up_found : (u : ℕ) (point : RowPoint) → UpAt point → UpRow (found_at i.shape seat u point (content_of (reading_at point) (m (cell_at seat u point))))
      up_found u (UnwindLink g) e = subst (λ (x : ℕ). UpRow (found_at i.shape seat u (UnwindLink x) (content_of (reading_at (UnwindLink x)) (m (BlockWord x))))) (sym e) link_row
      up_found u (UnwindOutcome g h) e = subst (λ (x : ℕ). UpRow (found_at i.shape seat u (UnwindOutcome x h) (content_of (reading_at (UnwindOutcome x h)) (m (BlockWord (x + 1)))))) (sym e.0) (outcome_row h (sym e.1))
      up_found u (Target g to y None) e = subst (λ (x : ℕ). UpRow (found_at i.shape seat u (Target x to y None) (content_of (reading_at (Target x to y None)) (m (BlockWord (x + 5)))))) (sym e.0) (target_row to y e.1 (m (BlockWord (f + 5))) refl)
      up_found u (GivenValue g to y target None) e = subst (λ (x : ℕ). UpRow (value_found i.shape seat to y x None (m (BlockWord (g + 4))))) (sym e.2) (value_row to y e.1 (m (BlockWord (g + 4))))
      up_found u _ e = absurd e

    -- a row of it
    pub up_row : (b n : ℕ) (row : Row) → Reach i m (seat_at p (Unwind f) b) n (row_of i.shape (seat_at p (Unwind f) b) (Unwind f)) row → StrandRow i t UpAt (seat_at p (Unwind f) b) row
    up_row b n row e = strand_walk i t UpAt (seat_at p (Unwind f) b) m (up_found (seat_at p (Unwind f) b) 0) n (row_of i.shape (seat_at p (Unwind f) b) (Unwind f)) row refl e

    pub up_there : (seat : Seat) (point : RowPoint) → UpAt point → point_is_there i.shape seat point ≡ true
    up_there seat (UnwindLink g) e = lt-ltb g (word_count i.shape) (own_there g 0 (omega (arith, e)) (omega arith))
    up_there seat (UnwindOutcome g h) e = let a = e.0 in lt-ltb (g + 1) (word_count i.shape) (own_there (g + 1) 1 (omega (arith, a)) (omega arith))
    up_there seat (Target g to y None) e = let a = e.0 in lt-ltb (g + 5) (word_count i.shape) (own_there (g + 5) 5 (omega (arith, a)) (omega arith))
    up_there seat (GivenValue g to y target None) e = let a = e.0 in lt-ltb (g + 4) (word_count i.shape) (own_there (g + 4) 4 (omega (arith, a)) (omega arith))
    up_there seat _ e = absurd e

  -- a place that arrives exchanges the order word, and joins
  module _ (r : ℕ) (d : Side) (ke : s.kind p ≡ Arrive r d) where
    abbrev pub NoneAt : RowPoint → Type 0
    NoneAt point = ⊥

    arrive_head : r + 1 < word_count i.shape
    arrive_head = cell_low i.shape (r + 1) (head_cell i root input s t law (r + 1) (subst (Ordered i s t m) ke (law.orders p)))

    arrive_free : crit Root t (r + 1) ≡ 0
    arrive_free =
        let head : Head i s t (r + 1) = subst (Ordered i s t m) ke (law.orders p) in
        let bare = head.bare in
        let low_ = crit_plain Root t (r + 1) in
        omega (arith, bare, low_)

    pub arrive_row : (seat : Seat) → StrandRow i t NoneAt seat (row_of i.shape seat (Arrive r d))
    arrive_row seat = ((arrive_head, arrive_free), (refl, lt-ltb r (word_count i.shape) (let lt = arrive_head in omega (arith, lt)), tt))

  -- a place that bumps loads the link of its block
  module _ (r : ℕ) (ke : s.kind p ≡ Bump r) where
    bumps : Bumps i s t p r
    bumps = let g = leaf i fair root input s t law p (ap (carried m) ke) in
        bump_at i s t p r g.around g.stand g.frame g.slots g.is g.alone g.framed g.sized (subst (λ (k : RestartKind). Match i.code m k (hook_at Root g.around) g.stand g.frame) ke g.match)

    abbrev start_leaf : Skeleton
    start_leaf = Leaf (InPlace p) (Begins 0) bumps.frame bumps.slots

    -- its block is there, and its link is one of a block
    record BlockLink : Type 0 where
      pub link : Link
      pub linked : link_of (m (BlockWord r)) ≡ Some link
      pub is : ((g : ℕ) × (y : ℕ) × (link.kind ≡ Called g y)) ⊎ ((g : ℕ) × (y : ℕ) × (link.kind ≡ Forked g y))
      pub low_word : r < word_count i.shape

    fork_linked : (g y : ℕ) → (link_at (m (BlockWord r))).kind ≡ Forked g y → r < word_count i.shape → BlockLink
    fork_linked g y e lt = by (link_of (m (BlockWord r))) refl
      where
        by : (o : Option Link) → link_of (m (BlockWord r)) ≡ o → BlockLink
        by None q = absurd (let z : Root ≡ Forked g y = ap (λ (o : Option Link). (link_or o).kind) (sym q) ∙ e in cc)
        by (Some l) q = record { link = l; linked = q; is = inr (g, y, ap (λ (o : Option Link). (link_or o).kind) (sym q) ∙ e); low_word = lt }

    block_by : (h : LinkKind) → hook_at Root bumps.around ≡ h → BumpsAt i.code m h r bumps.frame → BlockLink
    block_by (Called g y) he at_ = record {
      link = record { size = 6 + bumps.slots; kind = hook_at Root bumps.around };
      linked = ap (λ (x : ℕ). link_of (m (BlockWord x))) at_ ∙ linked (m (BlockWord bumps.frame)) bumps.slots (hook_at Root bumps.around) bumps.framed;
      is = inl (g, y, he);
      low_word = in_words bumps.around start_leaf bumps.is r (let a = inside_at bumps.frame (6 + bumps.slots) r 0 (omega (arith, at_)) (omega arith) in omega (arith, a));
    }
    block_by (Branch Left b) he at_ = elim (branch_from Root bumps.around b Left he) [
      | inl o ↦ absurd (let e = o.0 in cc)
      | inr o ↦
          let node = Forking o.frame o.slots o.copy b start_leaf o.beside in
          let is = bumps.is ∙ o.is start_leaf in
          let good = (part_good o.around node is).0 in
          fork_linked o.frame o.copy (ap (λ (x : ℕ). (link_at (m (BlockWord x))).kind) at_.0 ∙ good.hook)
          (in_words o.around node is r (let a = inside_at b 1 r 0 (let e = at_.0 in omega (arith, e)) (omega arith) in omega (arith, a)))
    ]
    block_by Root he at_ = absurd at_
    block_by (Forked g y) he at_ = absurd at_
    block_by (Branch Right b) he at_ = absurd at_

    block_link : BlockLink
    block_link = block_by (hook_at Root bumps.around) refl bumps.at_

    abbrev pub BumpAt : RowPoint → Type 0
    BumpAt (BumpLink q) = q ≡ r
    BumpAt _ = ⊥

    module _ (seat : Seat) (lt : seat.place < i.shape.processors) where
      call_row : (size : ℕ) (k : LinkKind) → ((g : ℕ) × (y : ℕ) × (k ≡ Called g y)) ⊎ ((g : ℕ) × (y : ℕ) × (k ≡ Forked g y)) → StrandRow i t BumpAt seat (bumped seat r size k)
      call_row size (Called g y) is = (lt, (refl, and_is (nat_lt r (word_count i.shape)) (nat_lt 0 2) (lt-ltb r (word_count i.shape) block_link.low_word) refl, tt))
      call_row size (Forked g y) is = (lt, lt-ltb r (word_count i.shape) block_link.low_word)
      call_row size Root is = absurd (elim is [ inl z ↦ (let e = z.2 in cc) | inr z ↦ (let e = z.2 in cc) ])
      call_row size (Branch d b) is = absurd (elim is [ inl z ↦ (let e = z.2 in cc) | inr z ↦ (let e = z.2 in cc) ])

      bump_row : StrandRow i t BumpAt seat (on_link (read_so ALink (link_of (m (BlockWord r)))) (λ l. bumped seat r l.size l.kind))
      bump_row = let b = block_link in subst (λ (o : Option Link). StrandRow i t BumpAt seat (on_link (read_so ALink o) (λ l. bumped seat r l.size l.kind))) (sym b.linked) (call_row b.link.size b.link.kind b.is)

      pub bump_found : (u : ℕ) (point : RowPoint) → BumpAt point → StrandRow i t BumpAt seat (found_at i.shape seat u point (content_of (reading_at point) (m (cell_at seat u point))))
      bump_found u (BumpLink q) e = subst (λ (x : ℕ). StrandRow i t BumpAt seat (found_at i.shape seat u (BumpLink x) (content_of (reading_at (BumpLink x)) (m (BlockWord x))))) (sym e) bump_row
      bump_found u _ e = absurd e

    pub bump_there : (seat : Seat) (point : RowPoint) → BumpAt point → point_is_there i.shape seat point ≡ true
    bump_there seat (BumpLink q) e = lt-ltb q (word_count i.shape) (let lt = block_link.low_word in omega (arith, lt, e))
    bump_there seat _ e = absurd e

  -- a place that joins
  module _ (r : ℕ) (d : Side) (ke : s.kind p ≡ Join r d) where
    abbrev o : ℕ
    o = m (BlockWord (r + 1))

    abbrev far : ℕ
    far = m (BlockWord (r + 4))

    abbrev IsLate : Type 0
    IsLate = (o == side_code d) ≡ false

    abbrev IsLast : Type 0
    IsLast = IsLate × (is_inline o d ≡ false)

    ordered : Ordered i s t m (Join r d)
    ordered = subst (Ordered i s t m) ke (law.orders p)

    join_head : r + 1 < word_count i.shape
    join_head = cell_low i.shape (r + 1) (head_cell i root input s t law (r + 1) ordered.0)

    abbrev joint_of : IsLast → Joining s t p r d
    joint_of last = joining i fair root input s t law p r d ke last.0 last.1

    -- the fork, where the branch is the last
    module _ (last : IsLast) where
      abbrev j : Joining s t p r d
      j = joint_of last

      abbrev node : Skeleton
      node = joint m p j.other r d j.frame j.slots j.copy j.left_slots j.right_slots

      node_good : Good i.code m s.kind (hook_at Root j.around) node
      node_good = part_good j.around node j.is

      node_well : IsWell i.code m (hook_at Root j.around) node
      node_well = part_well j.around node j.is

      in_node : (x : ℕ) → 1 ≤ count (hook_at Root j.around) node x → x < word_count i.shape
      in_node x one = in_words j.around node j.is x one

      upper_there : (x k : ℕ) → x ≡ j.frame + k → k < 6 + j.slots → x < word_count i.shape
      upper_there x k e lt = in_node x (let a = inside_at j.frame (6 + j.slots) x k e lt in omega (arith, a))

      -- none of its words but its header says that the tree is well
      upper_free : (x k : ℕ) → x ≡ j.frame + k → k < 6 + j.slots → header j.frame j.copy ≢ x → crit Root t x ≡ 0
      upper_free x k e lt ne =
          let one = inside_at j.frame (6 + j.slots) x k e lt in
          let sum = counted i fair root input s t law p j.around node x j.is in
          let most = law.apart x in
          let head = none_at (header j.frame j.copy) x ne in
          crit_none t j.around node x j.is most (omega (arith, one)) (omega (arith, sum, most, one, head))

      left_there : (x k : ℕ) → x ≡ r + 5 + k → k < 6 → x < word_count i.shape
      left_there x k e lt = in_node x (let a = inside_at (r + 5) (6 + j.left_slots) x k e (omega (arith, lt)) in omega (arith, a))

      right_there : (x k : ℕ) → x ≡ r + far + k → k < 6 → x < word_count i.shape
      right_there x k e lt = in_node x (let a = inside_at (r + far) (6 + j.right_slots) x k e (omega (arith, lt)) in omega (arith, a))

      block_there : (x : ℕ) → (x ≡ r) ⊎ ((x ≡ r + 2) ⊎ ((x ≡ r + 3) ⊎ (x ≡ r + 4))) → x < word_count i.shape
      block_there x (inl e) = in_node x (let a = inside_at r 1 x 0 (omega (arith, e)) (omega arith) in omega (arith, a))
      block_there x (inr (inl e)) = in_node x (let a = inside_at (r + 2) 1 x 0 (omega (arith, e)) (omega arith) in omega (arith, a))
      block_there x (inr (inr (inl e))) = in_node x (let a = inside_at (r + 3) 1 x 0 (omega (arith, e)) (omega arith) in omega (arith, a))
      block_there x (inr (inr (inr e))) = in_node x (let a = inside_at (r + 4) 1 x 0 (omega (arith, e)) (omega arith) in omega (arith, a))

    abbrev pub AtNode : (to y : ℕ) → Type 0
    AtNode to y = (last : IsLast) × (to ≡ (joint_of last).frame) × (y ≡ (joint_of last).copy)

    -- what its loads know, where the place has this bottom
    abbrev pub JoinAt : ℕ → RowPoint → Type 0
    JoinAt b (JoinOrder q e) = (q ≡ r) × (e ≡ d)
    JoinAt b (JoinLink q) = (q ≡ r) × IsLast
    JoinAt b (JoinLeft q to y) = (q ≡ r) × AtNode to y
    JoinAt b (JoinRight q to y left) = (q ≡ r) × AtNode to y × IsOutcome left
    JoinAt b (RightFrame q to y) = (q ≡ r) × AtNode to y
    JoinAt b (Target g to y None) = (g ≡ r + far) × AtNode to y
    JoinAt b (Target g to y (Some q)) = (g ≡ r + 5) × (q ≡ r) × AtNode to y
    JoinAt b (GivenValue g to y target None) = (g ≡ r + far) × (target ≤ m (BlockWord (r + far + 5))) × AtNode to y
    JoinAt b (GivenValue g to y target (Some q)) = (g ≡ r + 5) × (q ≡ r) × (target ≤ m (BlockWord (r + 5 + 5))) × AtNode to y
    JoinAt b (Offset q low) = (q ≡ r) × (is_inline o d ≡ true) × IsLate × (low ≡ b)
    JoinAt b _ = ⊥

    module _ (seat : Seat) where
      abbrev JoinRow : Row → Type 0
      JoinRow row = StrandRow i t (JoinAt seat.restart.bottom) seat row

      -- the frame that waits goes on, or takes a trap over
      node_goes : (to y : ℕ) → AtNode to y → StrandThen i t (JoinAt seat.restart.bottom) seat (with_kind seat (Run to y))
      node_goes to y a =
          let at_ : to < word_count i.shape = upper_there a.0 to 0 (let e = a.1 in omega (arith, e)) (omega arith) in
          let low : y < 2 = subst (λ (x : ℕ). x < 2) (sym a.2) (hooked_low (m (BlockWord r)) (joint_of a.0).frame (joint_of a.0).copy (node_good a.0).0.hook) in
          (refl, and_is (nat_lt to (word_count i.shape)) (nat_lt y 2) (lt-ltb to (word_count i.shape) at_) (lt-ltb y 2 low), tt)

      node_traps : (to y : ℕ) (x : Finish) → AtNode to y → JoinRow (Store (outcome_word to) (AFinish x) (with_kind seat (Unwind to)))
      node_traps to y x a =
          let at_ : to + 1 < word_count i.shape = upper_there a.0 (to + 1) 1 (let e = a.1 in omega (arith, e)) (omega arith) in
          let free = upper_free a.0 (to + 1) 1 (let e = a.1 in omega (arith, e)) (omega arith) (λ h. header_not_one (joint_of a.0).frame (joint_of a.0).copy (let e = a.1 in omega (arith, h, e))) in
          ((at_, free), (refl, lt-ltb to (word_count i.shape) (omega (arith, at_)), tt))

      -- a value goes into its slot
      node_value : (to y target v : ℕ) (ro : Option ℕ) (a : AtNode to y) → target ≤ (joint_of a.0).slots → StrandThen i t (JoinAt seat.restart.bottom) seat (after_value seat to y ro) → JoinRow (value_found i.shape seat to y target ro v)
      node_value to y target v ro a le goes =
          let at_ : to + 5 + target < word_count i.shape = upper_there a.0 (to + 5 + target) (5 + target) (let e = a.1 in omega (arith, e)) (omega (arith, le)) in
          let free = upper_free a.0 (to + 5 + target) (5 + target) (let e = a.1 in omega (arith, e)) (omega (arith, le))
          (λ h. header_not (joint_of a.0).frame (joint_of a.0).copy (5 + target) (omega arith) (let e = a.1 in omega (arith, h, e))) in
          subst (λ (b : Bool). JoinRow (if b then Store (BlockWord (to + 5 + target)) (ANumber v) (after_value seat to y ro) else Now Broken)) (sym (lt-ltb (to + 5 + target) (word_count i.shape) at_)) ((at_, free), goes)

      left_low : (last : IsLast) → m (BlockWord (r + 5 + 5)) ≤ (joint_of last).slots
      left_low last = (node_good last).0.left_target

      right_low : (last : IsLast) → m (BlockWord (r + far + 5)) ≤ (joint_of last).slots
      right_low last = (node_good last).0.right_target

      -- by the order word
      last_one : (e : Side) (w : ℕ) → w ≤ 3 → (w ≡ 0 → ⊥) → (w == side_code e) ≡ false → is_inline w e ≡ false → is_last w e ≡ true
      last_one Left zero le ne late beyond = absurd (ne refl)
      last_one Left (suc zero) le ne late beyond = absurd (cc)
      last_one Left (suc (suc zero)) le ne late beyond = refl
      last_one Left (suc (suc (suc zero))) le ne late beyond = absurd (cc)
      last_one Left (suc (suc (suc (suc w)))) le ne late beyond = absurd (omega (arith, le))
      last_one Right zero le ne late beyond = absurd (ne refl)
      last_one Right (suc zero) le ne late beyond = refl
      last_one Right (suc (suc zero)) le ne late beyond = absurd (cc)
      last_one Right (suc (suc (suc zero))) le ne late beyond = refl
      last_one Right (suc (suc (suc (suc w)))) le ne late beyond = absurd (omega (arith, le))

      by_order : (x y z : Bool) → (o == side_code d) ≡ x → is_inline o d ≡ y → is_last o d ≡ z → JoinRow (joins seat r x y z)
      by_order true y z ex ey ez = (refl, refl, tt)
      by_order false true z ex ey ez = (refl, ey, ex, refl)
      by_order false false true ex ey ez = (refl, (ex, ey))
      by_order false false false ex ey ez = absurd (let e = last_one d o (subst (λ (w : ℕ). w ≤ 3) (sym (node_good (ex, ey)).0.order) (order_small _ _)) ordered.1 ex ey in let z : true ≡ false = sym e ∙ ez in cc)

      order_row : JoinRow (joins seat r (o == first d) (is_inline o d) (is_last o d))
      order_row = subst (λ (w : ℕ). JoinRow (joins seat r (o == w) (is_inline o d) (is_last o d))) (sym (first_is d)) (by_order (o == side_code d) (is_inline o d) (is_last o d) refl refl refl)

      -- by the link
      join_link_row : (last : IsLast) → JoinRow (on_link (read_so ALink (link_of (m (BlockWord r)))) (λ l. join_by r l.kind))
      join_link_row last = by (link_of (m (BlockWord r))) refl
        where
          by : (x : Option Link) → link_of (m (BlockWord r)) ≡ x → JoinRow (on_link (read_so ALink x) (λ l. join_by r l.kind))
          by None q = absurd (let z : Root ≡ Forked (joint_of last).frame (joint_of last).copy = ap (λ (x : Option Link). (link_or x).kind) (sym q) ∙ (node_good last).0.hook in cc)
          by (Some l) q = subst (λ (k : LinkKind). JoinRow (join_by r k)) (sym (ap (λ (x : Option Link). (link_or x).kind) (sym q) ∙ (node_good last).0.hook)) (refl, (last, refl, refl))

      -- an outcome that was read
      outcome_of : (w : ℕ) (go : Finish → Row) → SaysOutcome w → ((v : Finish) → IsOutcome v → JoinRow (go v)) → JoinRow (on_outcome (read_so AFinish (finish_of w)) go)
      outcome_of w go said each = subst (λ (x : Option Finish). JoinRow (on_outcome (read_so AFinish x) go)) (sym said.1) (by said.0 said.2)
        where
          by : (v : Finish) → IsOutcome v → JoinRow (on_outcome (AFinish v) go)
          by Ended out = each Ended out
          by (Trapped trap line) out = each (Trapped trap line) out
          by Unset out = absurd out
          by (OutOfTurns c) out = absurd out
          by (OutOfRoom q) out = absurd out
          by Stopped out = absurd out
          by (BrokenFinish q) out = absurd out

      both_row : (to y : ℕ) → AtNode to y → (v : Finish) → IsOutcome v → JoinRow (join_outcome seat r to y v)
      both_row to y a Ended out = (refl, refl, a)
      both_row to y a (Trapped trap line) out = node_traps to y (Trapped trap line) a
      both_row to y a Unset out = absurd out
      both_row to y a (OutOfTurns c) out = absurd out
      both_row to y a (OutOfRoom q) out = absurd out
      both_row to y a Stopped out = absurd out
      both_row to y a (BrokenFinish q) out = absurd out

      right_row : (to y : ℕ) → AtNode to y → JoinRow (right_value i.shape r to y far)
      right_row to y a = subst (λ (b : Bool). JoinRow (if b then Now (Load (Target (r + far) to y None)) else Now Broken)) (sym (lt-ltb (r + far) (word_count i.shape) (right_there a.0 (r + far) 0 (omega arith) (omega arith)))) (refl, a)

      -- where one strand runs both, the right frame
      inline_low : is_inline o d ≡ true → IsLate → r + far < word_count i.shape
      inline_low both late = by d (joins_at i fair root input s t law p r d ke late) both
        where
          by : (e : Side) → (g : Comes i s t p r e) → is_inline o e ≡ true → r + far < word_count i.shape
          by Right g both = absurd (cc)
          by Left g both = elim (branch_from Root g.around r Left g.hook) [
            | inl z ↦ absurd (let e = z.0 in cc)
            | inr z ↦
                let low = Leaf (InPlace p) Arrives g.frame g.slots in
                let part = Forking z.frame z.slots z.copy r low z.beside in
                let is = g.is ∙ z.is low in
                let right = (part_good z.around part is).0.right in
                subst (λ (x : ℕ). x < word_count i.shape) right (in_words z.around part is (top z.beside) (let one = top_counted (Branch Right r) z.beside in omega (arith, one)))
          ]

      begin_row : (low : ℕ) → is_inline o d ≡ true → IsLate → low ≡ seat.restart.bottom → JoinRow (right_begins i.shape r low far)
      begin_row low both late e =
          let at_ = inline_low both late in
          subst (λ (b : Bool). JoinRow (if b then Now (Begin r (r + far) low) else Now Broken)) (sym (lt-ltb (r + far) (word_count i.shape) at_))
          (e, and_is (nat_lt (r + far) (word_count i.shape)) (nat_lt 0 2) (lt-ltb (r + far) (word_count i.shape) at_) refl)

      target_of : (g to y : ℕ) (ro : Option ℕ) (x w : ℕ) → StrandThen i t (JoinAt seat.restart.bottom) seat (after_value seat to y ro) → (x ≤ w → JoinAt seat.restart.bottom (GivenValue g to y x ro)) → x ≤ w → JoinRow (target_found seat g to y ro x)
      target_of g to y ro zero w goes given le = goes
      target_of g to y ro (suc x) w goes given le = given le

      -- what each load finds
      pub join_found : (u : ℕ) (point : RowPoint) → JoinAt seat.restart.bottom point → JoinRow (found_at i.shape seat u point (content_of (reading_at point) (m (cell_at seat u point))))
      join_found u (JoinOrder q e) a = subst₂ (λ (q : ℕ) (e : Side). JoinRow (found_at i.shape seat u (JoinOrder q e) (content_of (reading_at (JoinOrder q e)) (m (BlockWord (q + 1)))))) (sym a.0) (sym a.1) order_row
      join_found u (JoinLink q) a = subst (λ (x : ℕ). JoinRow (found_at i.shape seat u (JoinLink x) (content_of (reading_at (JoinLink x)) (m (BlockWord x))))) (sym a.0) (join_link_row a.1)
      join_found u (JoinLeft q to y) a = subst (λ (x : ℕ). JoinRow (found_at i.shape seat u (JoinLeft x to y) (content_of (reading_at (JoinLeft x to y)) (m (BlockWord (x + 2)))))) (sym a.0)
          (outcome_of (m (BlockWord (r + 2))) (λ left. Now (Load (JoinRight r to y left))) (node_well a.1.0).1 (λ v out. (refl, a.1, out)))
      join_found u (JoinRight q to y left) a = subst (λ (x : ℕ). JoinRow (found_at i.shape seat u (JoinRight x to y left) (content_of (reading_at (JoinRight x to y left)) (m (BlockWord (x + 3)))))) (sym a.0)
          (outcome_of (m (BlockWord (r + 3))) (λ right. join_outcome seat r to y (outcome_of_both left right)) (node_well a.1.0).2 (λ v out. both_row to y a.1 (outcome_of_both left v) (both_out left v a.2 out)))
      join_found u (RightFrame q to y) a = subst (λ (x : ℕ). JoinRow (right_value i.shape x to y (m (BlockWord (x + 4))))) (sym a.0) (right_row to y a.1)
      join_found u (Target g to y None) a = subst (λ (x : ℕ). JoinRow (target_found seat x to y None (m (BlockWord (x + 5))))) (sym a.0)
          (target_of (r + far) to y None (m (BlockWord (r + far + 5))) (m (BlockWord (r + far + 5))) (node_goes to y a.1) (λ le. (refl, le, a.1)) (omega arith))
      join_found u (Target g to y (Some q)) a = subst₂ (λ (x z : ℕ). JoinRow (target_found seat x to y (Some z) (m (BlockWord (x + 5))))) (sym a.0) (sym a.1)
          (target_of (r + 5) to y (Some r) (m (BlockWord (r + 5 + 5))) (m (BlockWord (r + 5 + 5))) (refl, a.2) (λ le. (refl, refl, le, a.2)) (omega arith))
      join_found u (GivenValue g to y target None) a = node_value to y target (m (BlockWord (g + 4))) None a.2 (let le = a.1 in let low = right_low a.2.0 in omega (arith, le, low)) (node_goes to y a.2)
      join_found u (GivenValue g to y target (Some q)) a = node_value to y target (m (BlockWord (g + 4))) (Some q) a.3 (let le = a.2 in let low = left_low a.3.0 in omega (arith, le, low)) (a.1, a.3)
      join_found u (Offset q low) a = subst (λ (x : ℕ). JoinRow (right_begins i.shape x low (m (BlockWord (x + 4))))) (sym a.0) (begin_row low a.1 a.2 a.3)
      join_found u _ a = absurd a

    pub join_there : (b : ℕ) (seat : Seat) (point : RowPoint) → JoinAt b point → point_is_there i.shape seat point ≡ true
    join_there b seat (JoinOrder q e) a = lt-ltb (q + 1) (word_count i.shape) (let lt = join_head in let e = a.0 in omega (arith, lt, e))
    join_there b seat (JoinLink q) a = lt-ltb q (word_count i.shape) (block_there a.1 q (inl a.0))
    join_there b seat (JoinLeft q to y) a = lt-ltb (q + 2) (word_count i.shape) (block_there a.1.0 (q + 2) (inr (inl (let e = a.0 in omega (arith, e)))))
    join_there b seat (JoinRight q to y left) a = lt-ltb (q + 3) (word_count i.shape) (block_there a.1.0 (q + 3) (inr (inr (inl (let e = a.0 in omega (arith, e))))))
    join_there b seat (RightFrame q to y) a = lt-ltb (q + 4) (word_count i.shape) (block_there a.1.0 (q + 4) (inr (inr (inr (let e = a.0 in omega (arith, e))))))
    join_there b seat (Target g to y None) a = lt-ltb (g + 5) (word_count i.shape) (right_there a.1.0 (g + 5) 5 (let e = a.0 in omega (arith, e)) (omega arith))
    join_there b seat (Target g to y (Some q)) a = lt-ltb (g + 5) (word_count i.shape) (left_there a.2.0 (g + 5) 5 (let e = a.0 in omega (arith, e)) (omega arith))
    join_there b seat (GivenValue g to y target None) a = lt-ltb (g + 4) (word_count i.shape) (right_there a.2.0 (g + 4) 4 (let e = a.0 in omega (arith, e)) (omega arith))
    join_there b seat (GivenValue g to y target (Some q)) a = lt-ltb (g + 4) (word_count i.shape) (left_there a.3.0 (g + 4) 4 (let e = a.0 in omega (arith, e)) (omega arith))
    join_there b seat (Offset q low) a = lt-ltb (q + 4) (word_count i.shape) (offset_low a.1 a.2 q a.0)
      where
        offset_low : is_inline o d ≡ true → IsLate → (q : ℕ) → q ≡ r → q + 4 < word_count i.shape
        offset_low both late q e = by d (joins_at i fair root input s t law p r d ke late) both
          where
            by : (x : Side) → (g : Comes i s t p r x) → is_inline o x ≡ true → q + 4 < word_count i.shape
            by Right g both = absurd (cc)
            by Left g both = elim (branch_from Root g.around r Left g.hook) [
              | inl z ↦ absurd (let k = z.0 in cc)
              | inr z ↦
                  let low = Leaf (InPlace p) Arrives g.frame g.slots in
                  let part = Forking z.frame z.slots z.copy r low z.beside in
                  in_words z.around part (g.is ∙ z.is low) (q + 4) (let one = inside_at (r + 4) 1 (q + 4) 0 (omega (arith, e)) (omega arith) in omega (arith, one))
            ]
    join_there b seat _ a = absurd a
