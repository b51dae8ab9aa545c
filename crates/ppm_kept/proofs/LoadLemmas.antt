-- What places load are cells that frames have, and that no place has given up.
use Rattle.std.proofs.Common.{◌≡◌, ◌⊎◌, ◌≤◌, ◌<◌, ℕ, zero, suc, ◌+◌, ◌==◌, Bool, true, false, inl, inr, refl, sym, ap, ◌∙◌, subst, subst₂, arith, Option, Some, None}
use Rattle.std.specs.Prelude.{nat_lt, if◌then◌else◌}
use Rattle.std.proofs.lemmas.Bool.{lt-ltb}
use Rattle.ppm_strands.specs.Tree.{Words, Tree}
use Rattle.ppm_cells.specs.Cells.{word_count}
use Rattle.ppm_cells.specs.Finish.{finish_of}
use Rattle.ppm_cells.specs.Link.{link_of}
use Rattle.ppm_cells.specs.declared.cell.Cell.{Cell}
use Rattle.ppm_cells.specs.declared.cell.Cell.TheVariants.{RoomCounter, BlockWord}
use Rattle.ppm_cells.specs.declared.finish.Finish.{Finish}
use Rattle.ppm_cells.specs.declared.finish.Finish.TheVariants.{Ended, Trapped}
use Rattle.ppm_cells.specs.declared.link.Link.{Link}
use Rattle.ppm_cells.specs.declared.link.LinkKind.{LinkKind}
use Rattle.ppm_cells.specs.declared.link.LinkKind.TheVariants.{Root, Call as Called, Branch, Fork as Forked}
use Rattle.ppm_cells.specs.declared.restart.RestartKind.{RestartKind}
use Rattle.ppm_cells.specs.declared.restart.RestartKind.TheVariants.{Run, Bump, Unwind, Arrive, Join}
use Rattle.ppm_cells.specs.declared.side.Side.{Side}
use Rattle.ppm_cells.specs.declared.side.Side.TheVariants.{Left, Right}
use Rattle.ppm_strands.specs.Capsule.{Capsule, Reads, Writes, Asks, Ends}
use Rattle.ppm_strands.specs.Stopped.{Stands}
use Rattle.ppm_strands.specs.Strand.{Own, New, Shared, Frame}
use Rattle.ppm_code.specs.Locations.{Where, code_locations}
use Rattle.ppm_code.specs.Sizes.{slots_at}
use Rattle.ppm_code.specs.Strands.{Point, Result}
use Rattle.ppm_code.specs.declared.act.End.{End}
use Rattle.ppm_code.specs.declared.act.End.TheVariants.{Next, Finish as Finishes, Trap, Call, Fork}
use Rattle.ppm_code.specs.declared.location.FrameWord.{FrameWord}
use Rattle.ppm_code.specs.declared.location.FrameWord.TheVariants.{Slot, Value}
use Rattle.ppm_cells.specs.JoinOrder.{first}
use Rattle.ppm_cells.specs.JoinOutcome.{outcome_of_both}
use Rattle.ppm_step.specs.Contents.{content_of, read_so}
use Rattle.ppm_step.specs.Frames.{Rest, Loads, cell_of}
use Rattle.ppm_step.specs.Points.{cell_at, reading_at, header_word}
use Rattle.ppm_step.specs.Rows.{on_link, on_outcome, if_there, bumped, unwind_by, back_to, unwound, after_value, target_found, joins, is_inline, is_last, join_by, join_outcome, found_at, row_of}
use Rattle.ppm_step.specs.There.{is_there}
use Rattle.ppm_step.specs.declared.content.Content.{Content}
use Rattle.ppm_step.specs.declared.content.Content.TheVariants.{ALink, AFinish}
use Rattle.ppm_step.specs.declared.frame.Home.{Home}
use Rattle.ppm_step.specs.declared.row.Point.{Point as RowPoint}
use Rattle.ppm_step.specs.declared.row.Point.TheVariants.{BumpLink, UnwindLink, UnwindOutcome, Target, GivenValue, JoinOrder, JoinLink, JoinLeft, JoinRight, RightFrame, Offset}
use Rattle.ppm_step.specs.declared.row.Row.{Row}
use Rattle.ppm_step.specs.declared.row.Row.TheVariants.{Now, Store, Exchange}
use Rattle.ppm_step.specs.declared.row.Seat.{Seat}
use Rattle.ppm_step.specs.declared.row.Then.{Then}
use Rattle.ppm_step.specs.declared.row.Then.TheVariants.{Load, Broken}
use Rattle.ppm_frames.specs.Seen.{IsIn}
use Rattle.ppm_frames.specs.Skeletons.{Begins, Over, Arrives, InPlace, Skeleton, Leaf, Forking, count, Around, plug, hook_at}
use Rattle.ppm_frames.specs.Good.{Match, BumpsAt}
use Rattle.ppm_frames.proofs.SkeletonLemmas.{inside_at, branch_from}
use Rattle.ppm_kept.specs.Running.{asked_of, IsFair, IsOf, last_of, home_at, number_at, now, all_of, limit, HasRoom, IsRoomy, HasCome}
use Rattle.ppm_kept.specs.Branches.{HasCopy}
use Rattle.ppm_kept.specs.Kept.{Setting, start, end_of, owner, seat_at, side_code, Doing, InRow, InRest, State, ceiling, Reach, Under, Does, carried, Ordered, IsKept}
use Rattle.ppm_kept.specs.Copies.{IsKnown}
use Rattle.ppm_kept.specs.Loads.{IsLoadable, LoadsShow, AllLoadsShow}
use Rattle.ppm_kept.specs.Pushing.{kind_seat}
use Rattle.ppm_kept.proofs.BlockLemmas.{header_is}
use Rattle.ppm_kept.proofs.BumpRow.{Bumps, bump_at}
use Rattle.ppm_kept.proofs.JoiningLemmas.{Comes as JoinComes, Joining, joins as joins_leaf, joining, first_who, second_who}
use Rattle.ppm_kept.proofs.OwnerLemmas.{owned}
use Rattle.ppm_kept.proofs.PlaceLemmas.{leaf, counted, Runs, run_leaf}
use Rattle.ppm_kept.proofs.RunLemmas.{fits}
use Rattle.ppm_kept.proofs.TurnLemmas.{pool_cell}
use Rattle.ppm_kept.proofs.UnwindRow.{Overs, over_at}

first_is : (d : Side) → first d ≡ side_code d
first_is Left = refl
first_is Right = refl

-- what kind of rest it is, and the cell that it loads
abbrev kind_of_rest : Rest → ℕ
kind_of_rest (Loads c go) = 0
kind_of_rest _ = 1

abbrev cell_told : Rest → Cell → Cell
cell_told (Loads c go) d = c
cell_told _ d = d

module _ (i : Setting) (fair : IsFair i.code) (root : Tree (Frame FrameWord Point) Result) (input : Words) (s : State) (t : Skeleton) (law : IsKept i root input s t) (p : ℕ) (there : p < i.shape.processors) where
  abbrev m : Cell → ℕ
  m = s.words

  -- a word of the tree
  in_tree : (x : ℕ) → (count Root t x ≡ 0 → ⊥) → IsLoadable i s p (BlockWord x)
  in_tree x some = let b = law.below x some in
      record { cell_is = pool_cell i x (law.there x some) b.0 (let under = b.1 in let top_ = (law.rooms (owner i x)).1 in omega (arith, under, top_)); in_use = inl b.1 }

  -- of a part of it
  pub in_part : (c : Around) (u : Skeleton) → t ≡ plug c u → (x : ℕ) → 1 ≤ count (hook_at Root c) u x → IsLoadable i s p (BlockWord x)
  in_part c u is x one = in_tree x (λ z. let sum = counted i fair root input s t law p c u x is in omega (arith, z, sum, one))

  -- of a row under way
  under_at : (k : RestartKind) → s.kind p ≡ k → (row : Row) → s.doing p ≡ InRow row → Under i m p k row
  under_at k ke row de = subst₂ (λ (k : RestartKind) (d : Doing). Does i m p k d) ke de (law.does p)

  -- a capsule
  module _ (f y : ℕ) (ke : s.kind p ≡ Run f y) where
    abbrev n : ℕ
    n = slots_at i.code (number_at i.shape i.code m f y)

    abbrev home : Home
    home = home_at i.shape i.code m p f y

    low : y < 2
    low = subst HasCopy ke (law.copies p)

    runs : Runs i s t p f y
    runs = run_leaf i s t p f y ke (leaf i fair root input s t law p (ap (carried m) ke))

    at_leaf : t ≡ plug runs.around (Leaf (InPlace p) (Begins y) f n)
    at_leaf = runs.is ∙ ap (λ (z : ℕ). plug runs.around (Leaf (InPlace p) (Begins y) f (slots_at i.code z))) (ap m (sym (header_is f y low)))

    in_leaf : (x j : ℕ) → x ≡ f + j → j < 6 + n → IsLoadable i s p (BlockWord x)
    in_leaf x j e lt = in_part runs.around (Leaf (InPlace p) (Begins y) f n) at_leaf x (let a = inside_at f (6 + n) x j e lt in omega (arith, a))

    header_cell : IsLoadable i s p (header_word f y)
    header_cell = in_leaf (f + 2 + y) (2 + y) (omega arith) (omega (arith, low))

    block_cell : (o : ℕ) → m (RoomCounter p) + o < limit i.shape i.code p → IsLoadable i s p (BlockWord (m (RoomCounter p) + o))
    block_cell o lt =
        let x : ℕ = m (RoomCounter p) + o in
        let roof : ceiling i m p (s.kind p) ≡ m (RoomCounter p) = ap (ceiling i m p) ke in
        let least : start i p ≤ x = (let a = (law.rooms p).0 in omega (arith, a, roof)) in
        let own = owned i p x least lt in
        record { cell_is = pool_cell i x (subst (λ (q : ℕ). q < i.shape.processors) (sym own) there) (subst (λ (q : ℕ). start i q ≤ x) (sym own) least) (subst (λ (q : ℕ). x < end_of i q) (sym own) lt); in_use = inr own }

    location_cell : (l : Where) → IsIn n (asked_of i.code (number_at i.shape i.code m f y)) l → HasRoom i.shape i.code m p f y → is_there i.shape (cell_of home l) ≡ true → IsLoadable i s p (cell_of home l)
    location_cell (Own (Slot j)) h room e = in_leaf (f + 6 + j) (6 + j) (omega arith) (omega (arith, h))
    location_cell (Own Value) h room e = in_leaf (f + 4) 4 refl (omega arith)
    location_cell (New o) h room e = block_cell o (omega (arith, h, room))
    location_cell (Shared x) h room e = record { cell_is = e; in_use = tt }

    module _ (cell : Cell) (next : ℕ → Rest) (is : is_there i.shape cell ≡ true) where
      under_cell : (left : Capsule Where End) → IsOf i.shape i.code p home left (Loads cell next) → Stands code_locations (all_of i.shape i.code m p f y) left (now i.shape i.code m p f y) → IsRoomy i.shape i.code m p f y left
          → IsLoadable i s p cell
      under_cell (Reads l go) of stands room =
          let c_is : cell ≡ cell_of home l = ap (λ (z : Rest). cell_told z cell) of.1 in
          subst (λ (c : Cell). IsLoadable i s p c) (sym c_is)
          (location_cell l (fits i.shape i.code fair m p f y (Reads l go) stands).0 room (subst (λ (c : Cell). is_there i.shape c ≡ true) c_is is))
      under_cell (Asks w go) of stands room = subst (λ (c : Cell). IsLoadable i s p c) (sym (ap (λ (z : Rest). cell_told z cell) of.2)) (record { cell_is = lt-ltb p i.shape.processors there; in_use = refl })
      under_cell (Writes l v go) of stands room = absurd (let e = ap kind_of_rest of.2 in omega (arith, e))
      under_cell (Ends e) of stands room = absurd (ends_load e of)
        where
          ends_load : (e : End) → Loads cell next ≡ last_of i.shape i.code home e → ⊥
          ends_load (Next c) q = let z = ap kind_of_rest q in omega (arith, z)
          ends_load Finishes q = let z = ap kind_of_rest q in omega (arith, z)
          ends_load (Trap trap line) q = let z = ap kind_of_rest q in omega (arith, z)
          ends_load (Call g c to) q = let z = ap kind_of_rest q in omega (arith, z)
          ends_load (Fork b d c lt rt) q = let z = ap kind_of_rest q in omega (arith, z)

      come_cell : HasCome i.shape i.code m p f y (Loads cell next) → IsLoadable i s p cell
      come_cell (inl u) = under_cell u.left u.is_of u.stands u.roomy
      come_cell (inr (inl d)) = absurd (let z = ap kind_of_rest d.is in omega (arith, z))
      come_cell (inr (inr e)) = absurd (let z = ap kind_of_rest e in omega (arith, z))

    capsule_cell : (cell : Cell) (next : ℕ → Rest) → s.doing p ≡ InRest (Loads cell next) → is_there i.shape cell ≡ true → IsLoadable i s p cell
    capsule_cell cell next de is = come_cell cell next is (subst₂ (λ (k : RestartKind) (d : Doing). Does i m p k d) ke de (law.does p))

  -- Bump loads the link of its block, and nothing else
  module _ (r : ℕ) (ke : s.kind p ≡ Bump r) where
    bumps : Bumps i s t p r
    bumps = let g = leaf i fair root input s t law p (ap (carried m) ke) in
        bump_at i s t p r g.around g.stand g.frame g.slots g.is g.alone g.framed g.sized (subst (λ (k : RestartKind). Match i.code m k (hook_at Root g.around) g.stand g.frame) ke g.match)

    bump_cell : (h : LinkKind) → hook_at Root bumps.around ≡ h → BumpsAt i.code m h r bumps.frame → IsLoadable i s p (BlockWord r)
    bump_cell (Called e y) he at_ = in_part bumps.around (Leaf (InPlace p) (Begins 0) bumps.frame bumps.slots) bumps.is r (let a = inside_at bumps.frame (6 + bumps.slots) r 0 (omega (arith, at_)) (omega arith) in omega (arith, a))
    bump_cell (Branch Left b) he at_ = elim (branch_from Root bumps.around b Left he) [
      | inl o ↦ absurd (let d = o.0 in cc)
      | inr o ↦ let u = Forking o.frame o.slots o.copy b (Leaf (InPlace p) (Begins 0) bumps.frame bumps.slots) o.beside in
          in_part o.around u (bumps.is ∙ o.is (Leaf (InPlace p) (Begins 0) bumps.frame bumps.slots)) r (let a = inside_at b 1 r 0 (let e = at_.0 in omega (arith, e)) (omega arith) in omega (arith, a))
    ]
    bump_cell Root he at_ = absurd at_
    bump_cell (Forked e y) he at_ = absurd at_
    bump_cell (Branch Right b) he at_ = absurd at_

    abbrev IsBump : Row → Type 0
    IsBump (Now (Load (BumpLink q))) = q ≡ r
    IsBump (Now (Load _)) = ⊥
    IsBump (Exchange c v w next) = ⊥
    IsBump _ = Unit {0}

    bumped_row : (b z a : ℕ) (k : LinkKind) (rest : Row) → Reach i m (seat_at p (Bump r) b) a (bumped (seat_at p (Bump r) b) r z k) rest → IsBump rest
    bumped_row b z zero (Called g y) rest q = subst IsBump q tt
    bumped_row b z (suc zero) (Called g y) rest q = subst IsBump q.1 tt
    bumped_row b z (suc (suc a)) (Called g y) rest q = absurd q.1
    bumped_row b z zero (Forked g y) rest q = subst IsBump q tt
    bumped_row b z (suc zero) (Forked g y) rest q = subst IsBump q.1 tt
    bumped_row b z (suc (suc a)) (Forked g y) rest q = absurd q.1
    bumped_row b z zero Root rest q = subst IsBump q tt
    bumped_row b z (suc a) Root rest q = absurd q
    bumped_row b z zero (Branch d x) rest q = subst IsBump q tt
    bumped_row b z (suc a) (Branch d x) rest q = absurd q

    linked_row : (b a : ℕ) (o : Option Link) (rest : Row) → Reach i m (seat_at p (Bump r) b) a (on_link (read_so ALink o) (λ (l : Link). bumped (seat_at p (Bump r) b) r l.size l.kind)) rest → IsBump rest
    linked_row b zero None rest q = subst IsBump q tt
    linked_row b (suc a) None rest q = absurd q
    linked_row b a (Some l) rest q = bumped_row b l.size a l.kind rest q

    bump_row : (b a : ℕ) (rest : Row) → Reach i m (seat_at p (Bump r) b) a (row_of i.shape (seat_at p (Bump r) b) (Bump r)) rest → IsBump rest
    bump_row b zero rest q = subst IsBump q refl
    bump_row b (suc a) rest q = linked_row b a (link_of (m (BlockWord r))) rest q

    bump_point : (own bottom victim : ℕ) (point : RowPoint) → IsBump (Now (Load point)) → IsLoadable i s p (cell_at (kind_seat own p (Bump r) bottom) victim point)
    bump_point own bottom victim (BumpLink q) e = subst (λ (x : ℕ). IsLoadable i s p (BlockWord x)) (sym e) (bump_cell (hook_at Root bumps.around) refl bumps.at_)
    bump_point own bottom victim _ e = absurd e

    bump_loads : (own bottom victim : ℕ) (point : RowPoint) → s.doing p ≡ InRow (Now (Load point)) → IsLoadable i s p (cell_at (kind_seat own p (Bump r) bottom) victim point)
    bump_loads own bottom victim point de = let u = under_at (Bump r) ke (Now (Load point)) de in bump_point own bottom victim point (bump_row u.0 u.1 (Now (Load point)) u.2)

    bump_point_is : (point : RowPoint) → IsBump (Now (Load point)) → point ≡ BumpLink r
    bump_point_is (BumpLink q) e = ap BumpLink e
    bump_point_is _ e = absurd e

    pub bump_links : (point : RowPoint) → s.doing p ≡ InRow (Now (Load point)) → point ≡ BumpLink r
    bump_links point de = let u = under_at (Bump r) ke (Now (Load point)) de in bump_point_is point (bump_row u.0 u.1 (Now (Load point)) u.2)

    pub bump_exchanges_none : (cell : Cell) (old new : Content) (next : Then) → s.doing p ≡ InRow (Exchange cell old new next) → ⊥
    bump_exchanges_none cell old new next de = let u = under_at (Bump r) ke (Exchange cell old new next) de in bump_row u.0 u.1 (Exchange cell old new next) u.2

  -- Unwind loads words of its frame
  module _ (f : ℕ) (ke : s.kind p ≡ Unwind f) where
    overs : Overs i s t p f
    overs = let g = leaf i fair root input s t law p (ap (carried m) ke) in
        over_at i s t p f g.around g.stand g.frame g.slots g.is g.alone g.framed (subst (λ (k : RestartKind). Match i.code m k (hook_at Root g.around) g.stand g.frame) ke g.match)

    abbrev seat : ℕ → Seat
    seat b = seat_at p (Unwind f) b

    over_cell : (x j : ℕ) → x ≡ f + j → j < 6 → IsLoadable i s p (BlockWord x)
    over_cell x j e lt = in_part overs.around (Leaf (InPlace p) Over f overs.slots) overs.is x (let a = inside_at f (6 + overs.slots) x j e (omega (arith, lt)) in omega (arith, a))

    abbrev IsUp : RowPoint → Type 0
    IsUp (UnwindLink g) = g ≡ f
    IsUp (UnwindOutcome g link) = g ≡ f
    IsUp (Target g to y None) = g ≡ f
    IsUp (GivenValue g to y target None) = g ≡ f
    IsUp _ = ⊥

    abbrev UpThen : Then → Type 0
    UpThen (Load point) = IsUp point
    UpThen _ = Unit {0}

    abbrev UpRow : Row → Type 0
    UpRow (Now next) = UpThen next
    UpRow (Store c w next) = UpThen next
    UpRow (Exchange c v w next) = UpThen next

    up_if : (x : ℕ) (row : Row) → UpRow row → UpRow (if_there i.shape x row)
    up_if x row up = by (nat_lt x (word_count i.shape))
      where
        by : (b : Bool) → UpRow (if b then row else Now Broken)
        by true = up
        by false = tt

    up_link : (go : Link → Row) → ((l : Link) → UpRow (go l)) → (o : Option Link) → UpRow (on_link (read_so ALink o) go)
    up_link go all None = tt
    up_link go all (Some l) = all l

    up_outcome : (go : Finish → Row) → ((x : Finish) → UpRow (go x)) → (o : Option Finish) → UpRow (on_outcome (read_so AFinish o) go)
    up_outcome go all None = tt
    up_outcome go all (Some Ended) = all Ended
    up_outcome go all (Some (Trapped trap line)) = all (Trapped trap line)
    up_outcome go all (Some _) = tt

    up_by : (k : LinkKind) → UpRow (unwind_by f k)
    up_by Root = refl
    up_by (Called g y) = refl
    up_by (Branch d r) = refl
    up_by (Forked g y) = tt

    up_back : (b g y : ℕ) (x : Finish) → UpRow (back_to (seat b) f g y x)
    up_back b g y Ended = refl
    up_back b g y _ = tt

    up_unwound : (b : ℕ) (k : LinkKind) (x : Finish) → UpRow (unwound (seat b) f k x)
    up_unwound b Root x = tt
    up_unwound b (Called g y) x = up_back b g y x
    up_unwound b (Branch d r) x = tt
    up_unwound b (Forked g y) x = tt

    up_target : (b g y x : ℕ) → UpRow (target_found (seat b) f g y None x)
    up_target b g y zero = tt
    up_target b g y (suc x) = refl

    up_found : (b : ℕ) (point : RowPoint) → IsUp point → (w : ℕ) → UpRow (found_at i.shape (seat b) 0 point (content_of (reading_at point) w))
    up_found b (UnwindLink g) e w = subst (λ (x : ℕ). UpRow (found_at i.shape (seat b) 0 (UnwindLink x) (content_of (reading_at (UnwindLink x)) w))) (sym e) (up_link (λ l. unwind_by f l.kind) (λ l. up_by l.kind) (link_of w))
    up_found b (UnwindOutcome g k) e w = subst (λ (x : ℕ). UpRow (found_at i.shape (seat b) 0 (UnwindOutcome x k) (content_of (reading_at (UnwindOutcome x k)) w))) (sym e) (up_outcome (unwound (seat b) f k) (up_unwound b k) (finish_of w))
    up_found b (Target g to y None) e w = subst (λ (x : ℕ). UpRow (found_at i.shape (seat b) 0 (Target x to y None) (content_of (reading_at (Target x to y None)) w))) (sym e) (up_target b to y w)
    up_found b (GivenValue g to y target None) e w = up_if (to + 5 + target) _ tt
    up_found b _ e w = absurd e

    up_row : (b a : ℕ) (row rest : Row) → UpRow row → Reach i m (seat b) a row rest → UpRow rest
    up_row b zero row rest up q = subst UpRow q up
    up_row b (suc a) (Now (Load point)) rest up q = up_row b a _ rest (up_found b point up (m (cell_at (seat b) 0 point))) q
    up_row b (suc a) (Store c w next) rest up q = up_row b a (Now next) rest up q.1
    up_row b (suc a) (Exchange c v w next) rest up q = up_row b a (Now next) rest up q.1
    up_row b (suc a) (Now next) rest up q = absurd q

    up_point : (own bottom victim : ℕ) (point : RowPoint) → IsUp point → IsLoadable i s p (cell_at (kind_seat own p (Unwind f) bottom) victim point)
    up_point own bottom victim (UnwindLink g) e = over_cell g 0 (omega (arith, e)) (omega arith)
    up_point own bottom victim (UnwindOutcome g k) e = over_cell (g + 1) 1 (omega (arith, e)) (omega arith)
    up_point own bottom victim (Target g to y None) e = over_cell (g + 5) 5 (omega (arith, e)) (omega arith)
    up_point own bottom victim (GivenValue g to y target None) e = over_cell (g + 4) 4 (omega (arith, e)) (omega arith)
    up_point own bottom victim _ e = absurd e

    unwind_loads : (own bottom victim : ℕ) (point : RowPoint) → s.doing p ≡ InRow (Now (Load point)) → IsLoadable i s p (cell_at (kind_seat own p (Unwind f) bottom) victim point)
    unwind_loads own bottom victim point de = let u = under_at (Unwind f) ke (Now (Load point)) de in
        up_point own bottom victim point (up_row u.0 u.1 (row_of i.shape (seat u.0) (Unwind f)) (Now (Load point)) refl u.2)

  -- Join loads its order word, and if its branch is not the first, words of the fork and of its two branches
  module _ (r : ℕ) (d : Side) (ke : s.kind p ≡ Join r d) where
    abbrev o : ℕ
    o = m (BlockWord (r + 1))

    abbrev far : ℕ
    far = m (BlockWord (r + 4))

    abbrev sits : ℕ → Seat
    sits b = seat_at p (Join r d) b

    abbrev IsLate : Type 0
    IsLate = (o == side_code d) ≡ false

    abbrev IsLast : Type 0
    IsLast = IsLate × (is_inline o d ≡ false)

    order_cell : IsLoadable i s p (BlockWord (r + 1))
    order_cell = let head = (subst (Ordered i s t m) ke (law.orders p)).0 in
        record { cell_is = pool_cell i (r + 1) head.there head.first (let under = head.under in let top_ = (law.rooms (owner i (r + 1))).1 in omega (arith, under, top_)); in_use = inl head.under }

    offset_cell : IsLate → IsLoadable i s p (BlockWord (r + 4))
    offset_cell late = by d (joins_leaf i fair root input s t law p r d ke late)
      where
        by : (e : Side) → JoinComes i s t p r e → IsLoadable i s p (BlockWord (r + 4))
        by e g = by_side e g.hook
          where
            by_side : (e : Side) → hook_at Root g.around ≡ Branch e r → IsLoadable i s p (BlockWord (r + 4))
            by_side Left he = elim (branch_from Root g.around r Left he) [
              | inl k ↦ absurd (let b = k.0 in cc)
              | inr a ↦ in_part a.around (Forking a.frame a.slots a.copy r (Leaf (InPlace p) Arrives g.frame g.slots) a.beside) (g.is ∙ a.is (Leaf (InPlace p) Arrives g.frame g.slots)) (r + 4)
                  (let one = inside_at (r + 4) 1 (r + 4) 0 (omega arith) (omega arith) in omega (arith, one))
            ]
            by_side Right he = elim (branch_from Root g.around r Right he) [
              | inl k ↦ absurd (let b = k.0 in cc)
              | inr a ↦ in_part a.around (Forking a.frame a.slots a.copy r a.beside (Leaf (InPlace p) Arrives g.frame g.slots)) (g.is ∙ a.is (Leaf (InPlace p) Arrives g.frame g.slots)) (r + 4)
                  (let one = inside_at (r + 4) 1 (r + 4) 0 (omega arith) (omega arith) in omega (arith, one))
            ]

    module _ (last : IsLast) where
      abbrev part : Joining s t p r d
      part = joining i fair root input s t law p r d ke last.0 last.1

      abbrev u : Skeleton
      u = Forking part.frame part.slots part.copy r (Leaf (first_who p part.other d) Arrives (r + 5) part.left_slots) (Leaf (second_who p part.other d) Arrives (r + far) part.right_slots)

      fork_cell : (x : ℕ) → 1 ≤ count (hook_at Root part.around) u x → IsLoadable i s p (BlockWord x)
      fork_cell x one = in_part part.around u part.is x one

      link_cell : IsLoadable i s p (BlockWord r)
      link_cell = fork_cell r (let one = inside_at r 1 r 0 (omega arith) (omega arith) in omega (arith, one))

      left_cell : IsLoadable i s p (BlockWord (r + 2))
      left_cell = fork_cell (r + 2) (let one = inside_at (r + 2) 1 (r + 2) 0 (omega arith) (omega arith) in omega (arith, one))

      right_cell : IsLoadable i s p (BlockWord (r + 3))
      right_cell = fork_cell (r + 3) (let one = inside_at (r + 3) 1 (r + 3) 0 (omega arith) (omega arith) in omega (arith, one))

      branch_cell : (g j : ℕ) → (g ≡ r + 5) ⊎ (g ≡ r + far) → j < 6 → IsLoadable i s p (BlockWord (g + j))
      branch_cell g j (inl e) lt = fork_cell (g + j) (let one = inside_at (r + 5) (6 + part.left_slots) (g + j) j (omega (arith, e)) (omega (arith, lt)) in omega (arith, one))
      branch_cell g j (inr e) lt = fork_cell (g + j) (let one = inside_at (r + far) (6 + part.right_slots) (g + j) j (omega (arith, e)) (omega (arith, lt)) in omega (arith, one))

    abbrev IsJoin : RowPoint → Type 0
    IsJoin (JoinOrder q e) = (q ≡ r) × (e ≡ d)
    IsJoin (JoinLink q) = (q ≡ r) × IsLast
    IsJoin (JoinLeft q to y) = (q ≡ r) × IsLast
    IsJoin (JoinRight q to y left) = (q ≡ r) × IsLast
    IsJoin (RightFrame q to y) = (q ≡ r) × IsLast
    IsJoin (Offset q b) = (q ≡ r) × IsLate
    IsJoin (Target g to y None) = ((g ≡ r + 5) ⊎ (g ≡ r + far)) × IsLast
    IsJoin (Target g to y (Some q)) = ((g ≡ r + 5) ⊎ (g ≡ r + far)) × IsLast × (q ≡ r)
    IsJoin (GivenValue g to y target None) = ((g ≡ r + 5) ⊎ (g ≡ r + far)) × IsLast
    IsJoin (GivenValue g to y target (Some q)) = ((g ≡ r + 5) ⊎ (g ≡ r + far)) × IsLast × (q ≡ r)
    IsJoin _ = ⊥

    abbrev JoinThen : Then → Type 0
    JoinThen (Load point) = IsJoin point
    JoinThen _ = Unit {0}

    abbrev JoinRow : Row → Type 0
    JoinRow (Now next) = JoinThen next
    JoinRow (Store c w next) = JoinThen next
    JoinRow (Exchange c v w next) = JoinThen next

    join_if : (x : ℕ) (row : Row) → JoinRow row → JoinRow (if_there i.shape x row)
    join_if x row up = by (nat_lt x (word_count i.shape))
      where
        by : (b : Bool) → JoinRow (if b then row else Now Broken)
        by true = up
        by false = tt

    join_link : (go : Link → Row) → ((l : Link) → JoinRow (go l)) → (o : Option Link) → JoinRow (on_link (read_so ALink o) go)
    join_link go all None = tt
    join_link go all (Some l) = all l

    join_outcome_by : (go : Finish → Row) → ((x : Finish) → JoinRow (go x)) → (o : Option Finish) → JoinRow (on_outcome (read_so AFinish o) go)
    join_outcome_by go all None = tt
    join_outcome_by go all (Some Ended) = all Ended
    join_outcome_by go all (Some (Trapped trap line)) = all (Trapped trap line)
    join_outcome_by go all (Some _) = tt

    by_order : (b : ℕ) (x y z : Bool) → (o == side_code d) ≡ x → is_inline o d ≡ y → JoinRow (joins (sits b) r x y z)
    by_order b true y z ex ey = tt
    by_order b false true z ex ey = (refl, ex)
    by_order b false false true ex ey = (refl, (ex, ey))
    by_order b false false false ex ey = tt

    by_kind : (q : ℕ) → q ≡ r → IsLast → (k : LinkKind) → JoinRow (join_by q k)
    by_kind q e last (Forked g y) = (e, last)
    by_kind q e last (Called g y) = tt
    by_kind q e last Root = tt
    by_kind q e last (Branch a x) = tt

    by_both : (b q to y : ℕ) → q ≡ r → IsLast → (x : Finish) → JoinRow (join_outcome (sits b) q to y x)
    by_both b q to y e last Ended = (inl (omega (arith, e)), last, e)
    by_both b q to y e last _ = tt

    by_after : (b to y : ℕ) → IsLast → (ro : Option ℕ) → ((q : ℕ) → ro ≡ Some q → q ≡ r) → JoinThen (after_value (sits b) to y ro)
    by_after b to y last None e = tt
    by_after b to y last (Some q) e = (e q refl, last)

    by_target : (b g to y : ℕ) (ro : Option ℕ) (x : ℕ) → IsJoin (Target g to y ro) → JoinRow (target_found (sits b) g to y ro x)
    by_target b g to y None zero j = tt
    by_target b g to y None (suc x) j = j
    by_target b g to y (Some q) zero j = (j.2, j.1)
    by_target b g to y (Some q) (suc x) j = j

    join_found : (b : ℕ) (point : RowPoint) → IsJoin point → JoinRow (found_at i.shape (sits b) 0 point (content_of (reading_at point) (m (cell_at (sits b) 0 point))))
    join_found b (JoinOrder q e) j = subst₂ (λ (q : ℕ) (e : Side). JoinRow (found_at i.shape (sits b) 0 (JoinOrder q e) (content_of (reading_at (JoinOrder q e)) (m (cell_at (sits b) 0 (JoinOrder q e)))))) (sym j.0) (sym j.1)
        (subst (λ (w : ℕ). JoinRow (joins (sits b) r (o == w) (is_inline o d) (is_last o d))) (sym (first_is d)) (by_order b (o == side_code d) (is_inline o d) (is_last o d) refl refl))
    join_found b (JoinLink q) j = join_link (λ l. join_by q l.kind) (λ l. by_kind q j.0 j.1 l.kind) (link_of (m (BlockWord q)))
    join_found b (JoinLeft q to y) j = join_outcome_by (λ left. Now (Load (JoinRight q to y left))) (λ x. j) (finish_of (m (BlockWord (q + 2))))
    join_found b (JoinRight q to y left) j = join_outcome_by (λ right. join_outcome (sits b) q to y (outcome_of_both left right)) (λ x. by_both b q to y j.0 j.1 (outcome_of_both left x)) (finish_of (m (BlockWord (q + 3))))
    join_found b (RightFrame q to y) j = join_if (q + m (BlockWord (q + 4))) _ (inr (subst (λ (x : ℕ). x + m (BlockWord (x + 4)) ≡ r + far) (sym j.0) refl), j.1)
    join_found b (Offset q a) j = join_if (q + m (BlockWord (q + 4))) _ tt
    join_found b (Target g to y None) j = by_target b g to y None (m (BlockWord (g + 5))) j
    join_found b (Target g to y (Some q)) j = by_target b g to y (Some q) (m (BlockWord (g + 5))) j
    join_found b (GivenValue g to y target None) j = join_if (to + 5 + target) _ tt
    join_found b (GivenValue g to y target (Some q)) j = join_if (to + 5 + target) _ (j.2, j.1)
    join_found b _ j = absurd j

    join_row : (b a : ℕ) (row rest : Row) → JoinRow row → Reach i m (sits b) a row rest → JoinRow rest
    join_row b zero row rest up q = subst JoinRow q up
    join_row b (suc a) (Now (Load point)) rest up q = join_row b a _ rest (join_found b point up) q
    join_row b (suc a) (Store c w next) rest up q = join_row b a (Now next) rest up q.1
    join_row b (suc a) (Exchange c v w next) rest up q = join_row b a (Now next) rest up q.1
    join_row b (suc a) (Now next) rest up q = absurd q

    join_point : (own bottom victim : ℕ) (point : RowPoint) → IsJoin point → IsLoadable i s p (cell_at (kind_seat own p (Join r d) bottom) victim point)
    join_point own bottom victim (JoinOrder q e) j = subst (λ (x : ℕ). IsLoadable i s p (BlockWord (x + 1))) (sym j.0) order_cell
    join_point own bottom victim (JoinLink q) j = subst (λ (x : ℕ). IsLoadable i s p (BlockWord x)) (sym j.0) (link_cell j.1)
    join_point own bottom victim (JoinLeft q to y) j = subst (λ (x : ℕ). IsLoadable i s p (BlockWord (x + 2))) (sym j.0) (left_cell j.1)
    join_point own bottom victim (JoinRight q to y left) j = subst (λ (x : ℕ). IsLoadable i s p (BlockWord (x + 3))) (sym j.0) (right_cell j.1)
    join_point own bottom victim (RightFrame q to y) j = subst (λ (x : ℕ). IsLoadable i s p (BlockWord (x + 4))) (sym j.0) (offset_cell j.1.0)
    join_point own bottom victim (Offset q b) j = subst (λ (x : ℕ). IsLoadable i s p (BlockWord (x + 4))) (sym j.0) (offset_cell j.1)
    join_point own bottom victim (Target g to y None) j = branch_cell j.1 g 5 j.0 (omega arith)
    join_point own bottom victim (Target g to y (Some q)) j = branch_cell j.1 g 5 j.0 (omega arith)
    join_point own bottom victim (GivenValue g to y target None) j = branch_cell j.1 g 4 j.0 (omega arith)
    join_point own bottom victim (GivenValue g to y target (Some q)) j = branch_cell j.1 g 4 j.0 (omega arith)
    join_point own bottom victim _ j = absurd j

    join_loads : (own bottom victim : ℕ) (point : RowPoint) → s.doing p ≡ InRow (Now (Load point)) → IsLoadable i s p (cell_at (kind_seat own p (Join r d) bottom) victim point)
    join_loads own bottom victim point de = by (under_at (Join r d) ke (Now (Load point)) de)
      where
        by : Under i m p (Join r d) (Now (Load point)) → IsLoadable i s p (cell_at (kind_seat own p (Join r d) bottom) victim point)
        by (inl u) = join_point own bottom victim point (join_row u.0 u.1 (row_of i.shape (sits u.0) (Join r d)) (Now (Load point)) (refl, refl) u.2)
        by (inr c) = absurd (let e = c.is in cc)

  -- Arrive loads nothing
  pub arrive_loads : (r : ℕ) (d : Side) → s.kind p ≡ Arrive r d → (point : RowPoint) → s.doing p ≡ InRow (Now (Load point)) → ⊥
  arrive_loads r d ke point de = let u = under_at (Arrive r d) ke (Now (Load point)) de in by u.0 u.1 u.2
    where
      by : (b a : ℕ) → Reach i m (seat_at p (Arrive r d) b) a (row_of i.shape (seat_at p (Arrive r d) b) (Arrive r d)) (Now (Load point)) → ⊥
      by b zero q = cc
      by b (suc zero) q = let e = q.1 in cc
      by b (suc (suc a)) q = absurd q.1

  row_loads : (k : RestartKind) → IsKnown k → s.kind p ≡ k → (own bottom victim : ℕ) (point : RowPoint) → s.doing p ≡ InRow (Now (Load point)) → IsLoadable i s p (cell_at (kind_seat own p k bottom) victim point)
  row_loads (Bump r) known ke own bottom victim point de = bump_loads r ke own bottom victim point de
  row_loads (Unwind f) known ke own bottom victim point de = unwind_loads f ke own bottom victim point de
  row_loads (Arrive r d) known ke own bottom victim point de = absurd (arrive_loads r d ke point de)
  row_loads (Join r d) known ke own bottom victim point de = join_loads r d ke own bottom victim point de
  row_loads _ known ke own bottom victim point de = absurd known

  pub loads_show : LoadsShow i s p
  loads_show = record {
    headers = λ f y ke. header_cell f y ke;
    capsules = λ f y cell next ke de is. capsule_cell f y ke cell next de is;
    rows = row_loads;
  }

pub all_loads_show : AllLoadsShow
all_loads_show i fair root input s t law p there = loads_show i fair root input s t law p there
