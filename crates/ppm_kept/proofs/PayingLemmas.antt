-- Each turn pays what it takes off.
use Rattle.std.proofs.Common.{◌≡◌, ◌≤◌, ℕ, zero, suc, ◌+◌, ◌*◌, ◌==◌, nat_lt, if◌then◌else◌, Bool, true, false, cond, List, [], inl, inr, refl, sym, ap, ◌∙◌, subst, subst₂, arith, Option, Some, None}
use Rattle.std.proofs.lemmas.Bool.{cases_Bool, cond-false, eq-eqb}
use Rattle.ppm_strands.specs.Tree.{Words, Tree}
use Rattle.ppm_cells.specs.Cells.{word_count}
use Rattle.ppm_cells.specs.Link.{link_of}
use Rattle.ppm_cells.specs.Memory.{read}
use Rattle.ppm_cells.specs.declared.cell.Cell.{Cell}
use Rattle.ppm_cells.specs.declared.cell.Cell.TheVariants.{BlockWord}
use Rattle.ppm_cells.specs.declared.finish.Finish.{Finish}
use Rattle.ppm_cells.specs.declared.finish.Finish.TheVariants.{Unset, Ended as EndedSo, Trapped, OutOfTurns, OutOfRoom, Stopped, Broken as BrokenAt}
use Rattle.ppm_cells.specs.declared.link.Link.{Link}
use Rattle.ppm_cells.specs.declared.link.LinkKind.{LinkKind}
use Rattle.ppm_cells.specs.declared.link.LinkKind.TheVariants.{Root, Call as Called, Branch, Fork as Forked}
use Rattle.ppm_cells.specs.declared.restart.Restart.{Restart}
use Rattle.ppm_cells.specs.declared.restart.RestartKind.{RestartKind}
use Rattle.ppm_cells.specs.declared.restart.RestartKind.TheVariants.{Run, Bump, Push1, Push2, Unwind, Arrive, Join, Pop1, Pop2, Seek, Steal, Check, Take, Take2}
use Rattle.ppm_cells.specs.declared.shape.Shape.{Shape}
use Rattle.ppm_cells.specs.declared.side.Side.{Side}
use Rattle.ppm_cells.specs.declared.side.Side.TheVariants.{Left, Right}
use Rattle.ppm_strands.specs.Strand.{Frame}
use Rattle.ppm_code.specs.Strands.{Point, Result}
use Rattle.ppm_code.specs.Sizes.{slots_at}
use Rattle.ppm_code.specs.declared.location.FrameWord.{FrameWord}
use Rattle.ppm_cells.specs.JoinOrder.{first}
use Rattle.ppm_step.specs.Contents.{read_so, content_of, word_of}
use Rattle.ppm_step.specs.Frames.{Loads, Stores, Full, Installs, Breaks}
use Rattle.ppm_step.specs.Points.{cell_at, reading_at}
use Rattle.ppm_step.specs.Rows.{on_number, on_link, on_outcome, on_finish, unwind_by, unwound, back_to, target_found, value_found, joins, found_at, row_of}
use Rattle.ppm_step.specs.Standings.{Standing, IsLost, IsPlaced, IsAt, IsWithin, IsRunning, IsBroken, IsDone}
use Rattle.ppm_step.specs.State.{State as Machine, stand_of}
use Rattle.ppm_step.specs.declared.content.Content.{Content}
use Rattle.ppm_step.specs.declared.content.Content.TheVariants.{ANumber, ARestart, AnEntry, AHolder, ALink, AFinish, Unreadable}
use Rattle.ppm_step.specs.declared.row.Point.TheVariants.{Target, GivenValue}
use Rattle.ppm_step.specs.declared.row.Row.{Row}
use Rattle.ppm_step.specs.declared.row.Row.TheVariants.{Now, Store, Exchange}
use Rattle.ppm_step.specs.declared.row.Seat.{Seat}
use Rattle.ppm_step.specs.declared.row.Then.{Then}
use Rattle.ppm_step.specs.declared.row.Then.TheVariants.{Load, Install, Fork, Begin, Move, Enter, Again, Broken}
use Rattle.ppm_step.specs.declared.turn.Act.{Act}
use Rattle.ppm_step.specs.declared.turn.Act.TheVariants.{Step, Soft, Hard, Quit}
use Rattle.ppm_paces.specs.Costs.{weight, behind_unwind, behind_join}
use Rattle.ppm_frames.specs.Skeletons.{Stand, Begins, Over, Arrives, InPlace, Waiting, Held, Came, Skeleton, Leaf, Calling, header, holds, grow, pushed, inlined, take_in, hook_at}
use Rattle.ppm_frames.specs.Good.{link_or, link_at, Match}
use Rattle.ppm_frames.proofs.SkeletonLemmas.{grow_plug, called_from, fork_with, branch_from}
use Rattle.ppm_kept.specs.Running.{IsFair}
use Rattle.ppm_kept.specs.Kept.{Setting, Doing, InRow, State, side_code, carried, seat_at, Reach, Under, Does, IsKept}
use Rattle.ppm_kept.specs.Moves.{doing_of, opened, by_install}
use Rattle.ppm_kept.specs.Laws.{kind_then}
use Rattle.ppm_kept.specs.Returns.{by_unwind}
use Rattle.ppm_kept.specs.Joins.{joined_by, by_join}
use Rattle.ppm_kept.specs.Left.{Followed, left, IsAway, StandsAway, StepsAway}
use Rattle.ppm_kept.specs.Places.{places_of, Holds, IsOf}
use Rattle.ppm_kept.specs.Steps.{by_end, by_store, by_exchange, tree_with, act_with, StandsSo, ActsSo}
use Rattle.ppm_kept.specs.Credit.{branch_due, owed, paid_by, ended_by, by_step, CreditStays, CreditStaysLeft}
use Rattle.ppm_kept.proofs.LeftLemmas.{kind_away}
use Rattle.ppm_kept.proofs.StateLemmas.{doing_here}
use Rattle.ppm_kept.proofs.PlaceLemmas.{leaf, Runs, run_leaf}
use Rattle.ppm_kept.proofs.UnwindRow.{Overs, over_at}
use Rattle.ppm_kept.proofs.CreditLemmas.{owed_plug, came_same, over_same, pushed_same, inlined_same, taken_same, back_less, joined_less, goes_on, WaitsFor, JoinsAt, back_pays, joined_pays, waits_plug, joins_plug, joins_here}

-- an end that begins no branch
abbrev IsNoBegin : Then → Type 0
IsNoBegin (Begin r f b) = ⊥
IsNoBegin _ = Unit {0}

pop_end : (p q : ℕ) (t : Skeleton) (next : Then) → IsNoBegin next → by_end p (Pop2 q) next t ≡ t
pop_end p q t (Begin r f b) none = absurd none
pop_end p q t _ none = refl

check_end : (p v x : ℕ) (t : Skeleton) (next : Then) → IsNoBegin next → by_end p (Check v x) next t ≡ t
check_end p v x t (Begin r f b) none = absurd none
check_end p v x t _ none = refl

-- what an install at the end of Unwind says of the link of its frame
abbrev Says : LinkKind → RestartKind → Type 0
Says k (Unwind g) = (y : ℕ) × (k ≡ Called g y)
Says k (Arrive r d) = k ≡ Branch d r
Says k _ = Unit {0}

abbrev SaysRow : LinkKind → Row → Type 0
SaysRow k (Now (Install re)) = Says k re.kind
SaysRow k _ = Unit {0}

-- what an install says of the link of its frame, after so many steps, whatever these find
abbrev Up : Shape → Seat → LinkKind → ℕ → Row → Type 0
Up s seat k zero row = SaysRow k row
Up s seat k (suc n) (Now (Load point)) = (v : ℕ) (w : Content) → Up s seat k n (found_at s seat v point w)
Up s seat k (suc n) (Now next) = Unit {0}
Up s seat k (suc n) (Store cell content next) = Up s seat k n (Now next)
Up s seat k (suc n) (Exchange cell old new next) = Up s seat k n (Now next)

module _ (s : Shape) (seat : Seat) (k : LinkKind) where
  abbrev U : ℕ → Row → Type 0
  U n row = Up s seat k n row

  broken : (n : ℕ) → U n (Now Broken)
  broken zero = tt
  broken (suc n) = tt

  number : (n : ℕ) (go : ℕ → Row) → ((x : ℕ) → U n (go x)) → (w : Content) → U n (on_number w go)
  number n go l (ANumber x) = l x
  number n go l (ARestart x) = broken n
  number n go l (AnEntry x) = broken n
  number n go l (AHolder x) = broken n
  number n go l (ALink x) = broken n
  number n go l (AFinish x) = broken n
  number n go l Unreadable = broken n

  outcome : (n : ℕ) (go : Finish → Row) → ((x : Finish) → U n (go x)) → (w : Content) → U n (on_outcome w go)
  outcome n go l (AFinish x) = by x
    where
      by : (x : Finish) → U n (on_finish x go)
      by EndedSo = l EndedSo
      by (Trapped trap line) = l (Trapped trap line)
      by Unset = broken n
      by (OutOfTurns p) = broken n
      by (OutOfRoom p) = broken n
      by Stopped = broken n
      by (BrokenAt p) = broken n
  outcome n go l (ANumber x) = broken n
  outcome n go l (ARestart x) = broken n
  outcome n go l (AnEntry x) = broken n
  outcome n go l (AHolder x) = broken n
  outcome n go l (ALink x) = broken n
  outcome n go l Unreadable = broken n

  by_if : (n : ℕ) (b : Bool) (x y : Row) → U n x → U n y → U n (if b then x else y)
  by_if n true x y ux uy = ux
  by_if n false x y ux uy = uy

  ends : (n : ℕ) (l : RestartKind) (b : ℕ) → Says k l → U n (Now (Install (record { kind = l; bottom = b })))
  ends zero l b says = says
  ends (suc n) l b says = tt

  stored : (n : ℕ) (cell : Cell) (content : Content) (l : RestartKind) → Says k l → U n (Store cell content (Install (record { kind = l; bottom = seat.restart.bottom })))
  stored zero cell content l says = tt
  stored (suc n) cell content l says = ends n l seat.restart.bottom says

  value : (n frame to copy slot : ℕ) → U n (Now (Load (GivenValue frame to copy slot None)))
  value zero frame to copy slot = tt
  value (suc n) frame to copy slot = λ v w. number n (value_found s seat to copy slot None)
      (λ x. by_if n (nat_lt (to + 5 + slot) (word_count s)) _ _ (stored n _ _ (Run to copy) tt) (broken n)) w

  target : (n frame to copy : ℕ) → U n (Now (Load (Target frame to copy None)))
  target zero frame to copy = tt
  target (suc n) frame to copy = λ v w. number n (target_found seat frame to copy None) found w
    where
      found : (t : ℕ) → U n (target_found seat frame to copy None t)
      found zero = ends n (Run to copy) seat.restart.bottom tt
      found (suc slot) = value n frame to copy (suc slot)

-- the row of Unwind, by the kind of the link that it has found
module _ (s : Shape) (seat : Seat) (f : ℕ) where
  back_says : (to copy n : ℕ) (x : Finish) → Up s seat (Called to copy) n (back_to seat f to copy x)
  back_says to copy n EndedSo = target s seat (Called to copy) n f to copy
  back_says to copy n Unset = stored s seat (Called to copy) n _ _ (Unwind to) (copy, refl)
  back_says to copy n (Trapped trap line) = stored s seat (Called to copy) n _ _ (Unwind to) (copy, refl)
  back_says to copy n (OutOfTurns p) = stored s seat (Called to copy) n _ _ (Unwind to) (copy, refl)
  back_says to copy n (OutOfRoom p) = stored s seat (Called to copy) n _ _ (Unwind to) (copy, refl)
  back_says to copy n Stopped = stored s seat (Called to copy) n _ _ (Unwind to) (copy, refl)
  back_says to copy n (BrokenAt p) = stored s seat (Called to copy) n _ _ (Unwind to) (copy, refl)

  unwound_says : (k : LinkKind) (n : ℕ) (x : Finish) → Up s seat k n (unwound seat f k x)
  unwound_says Root zero x = tt
  unwound_says Root (suc zero) x = tt
  unwound_says Root (suc (suc n)) x = tt
  unwound_says (Called to copy) n x = back_says to copy n x
  unwound_says (Branch d r) n x = stored s seat (Branch d r) n _ _ (Arrive r d) refl
  unwound_says (Forked to copy) n x = broken s seat (Forked to copy) n

  unwind_says : (k : LinkKind) (n : ℕ) → Up s seat k n (unwind_by f k)
  unwind_says Root zero = tt
  unwind_says Root (suc n) = λ v w. outcome s seat Root n (unwound seat f Root) (unwound_says Root n) w
  unwind_says (Called to copy) zero = tt
  unwind_says (Called to copy) (suc n) = λ v w. outcome s seat (Called to copy) n (unwound seat f (Called to copy)) (unwound_says (Called to copy) n) w
  unwind_says (Branch d r) zero = tt
  unwind_says (Branch d r) (suc n) = λ v w. outcome s seat (Branch d r) n (unwound seat f (Branch d r)) (unwound_says (Branch d r) n) w
  unwind_says (Forked to copy) n = broken s seat (Forked to copy) n

module _ (i : Setting) (m : Cell → ℕ) (p : ℕ) where
  -- what a row has come to by the words
  reach_says : (seat : Seat) (k : LinkKind) (n : ℕ) (r rest : Row) → Reach i m seat n r rest → Up i.shape seat k n r → SaysRow k rest
  reach_says seat k zero r rest q up = subst (SaysRow k) q up
  reach_says seat k (suc n) (Now (Load point)) rest q up = reach_says seat k n _ rest q (up 0 (content_of (reading_at point) (m (cell_at seat 0 point))))
  reach_says seat k (suc n) (Now (Install x)) rest q up = absurd q
  reach_says seat k (suc n) (Now (Fork x)) rest q up = absurd q
  reach_says seat k (suc n) (Now (Begin x f b)) rest q up = absurd q
  reach_says seat k (suc n) (Now (Move x)) rest q up = absurd q
  reach_says seat k (suc n) (Now (Enter x)) rest q up = absurd q
  reach_says seat k (suc n) (Now Again) rest q up = absurd q
  reach_says seat k (suc n) (Now Broken) rest q up = absurd q
  reach_says seat k (suc n) (Store c w next) rest q up = reach_says seat k n (Now next) rest q.1 up
  reach_says seat k (suc n) (Exchange c old new next) rest q up = reach_says seat k n (Now next) rest q.1 up

  -- of Unwind, by the link of its frame
  found_up : (seat : Seat) (f n : ℕ) (o : Option Link) → Up i.shape seat (link_or o).kind n (on_link (read_so ALink o) (λ (l : Link). unwind_by f l.kind))
  found_up seat f n None = broken i.shape seat (link_or None).kind n
  found_up seat f n (Some link) = unwind_says i.shape seat f link.kind n

  unwind_under : (f b n : ℕ) (rest : Row) → Reach i m (seat_at p (Unwind f) b) n (row_of i.shape (seat_at p (Unwind f) b) (Unwind f)) rest → SaysRow (link_at (m (BlockWord f))).kind rest
  unwind_under f b zero rest q = subst (SaysRow (link_at (m (BlockWord f))).kind) q tt
  unwind_under f b (suc n) rest q = reach_says (seat_at p (Unwind f) b) (link_at (m (BlockWord f))).kind n _ rest q (found_up (seat_at p (Unwind f) b) f n (link_of (m (BlockWord f))))

  -- of Join, where its branch came first: it installs Pop1
  first_pops : (seat : Seat) (r n : ℕ) (re : Restart) (a x y : Bool) → a ≡ true → Reach i m seat n (joins seat r a x y) (Now (Install re)) → re.kind ≡ Pop1
  first_pops seat r zero re true x y e q = sym (ap set_kind q)
    where
      set_kind : Row → RestartKind
      set_kind (Now (Install re)) = re.kind
      set_kind _ = Pop1
  first_pops seat r (suc n) re true x y e q = absurd q
  first_pops seat r n re false x y e q = absurd (cc)

  side_first : (d : Side) → first d ≡ side_code d
  side_first Left = refl
  side_first Right = refl

  join_first : (r b n : ℕ) (d : Side) (re : Restart) → (m (BlockWord (r + 1)) == side_code d) ≡ true
      → Reach i m (seat_at p (Join r d) b) n (row_of i.shape (seat_at p (Join r d) b) (Join r d)) (Now (Install re)) → re.kind ≡ Pop1
  join_first r b zero d re e q = absurd (cc)
  join_first r b (suc n) d re e q = first_pops (seat_at p (Join r d) b) r n re _ _ _ (ap (λ (x : ℕ). m (BlockWord (r + 1)) == x) (side_first d) ∙ e) q

module _ (i : Setting) (fair : IsFair i.code) (root : Tree (Frame FrameWord Point) Result) (input : Words) (state : Machine) (l : List Followed) (t : Skeleton)
    (law : IsKept i root input (left i l (places_of i.shape state)) t) (c : ℕ) where
  abbrev P : State
  P = places_of i.shape state

  abbrev S : State
  S = left i l P

  abbrev m : Cell → ℕ
  m = S.words

  -- what the step of a processor that stands there pays
  abbrev Pays : Standing → Type 0
  Pays x = owed Root (tree_with i m state.words x t) + paid_by x ≤ owed Root t + 36 * ended_by x

  doing_own : (p : ℕ) (x : Standing) → Holds i.shape state c p → stand_of state c ≡ x → IsOf p x → S.doing p ≡ doing_of x
  doing_own p x holds e of = doing_here (stand_of state) (stand_of state) c p x e (λ d ne. refl) holds.own of holds.others i.shape.processors holds.there

  -- the end of Unwind
  module _ (p f : ℕ) (ke : S.kind p ≡ Unwind f) where
    has_over : Overs i S t p f
    has_over = let g = leaf i fair root input S t law p (ap (carried m) ke) in
        over_at i S t p f g.around g.stand g.frame g.slots g.is g.alone g.framed (subst (λ (k : RestartKind). Match i.code m k (hook_at Root g.around) g.stand g.frame) ke g.match)

    hook_is : hook_at Root has_over.around ≡ (link_at (m (BlockWord f))).kind
    hook_is = sym (ap (λ (l : Link). l.kind) has_over.framed)

    unwinds_pay : (k : RestartKind) → Says (link_at (m (BlockWord f))).kind k → owed Root (by_unwind p k t) + behind_unwind k ≤ owed Root t
    unwinds_pay (Run g y) says = let le = back_less Root p (λ z. Begins z) goes_on t in omega (arith, le)
    unwinds_pay (Unwind g) says = elim (called_from Root has_over.around g says.0 (hook_is ∙ says.1)) [
      | inl none ↦ absurd (let z = none.0 in cc)
      | inr from ↦
          let is = has_over.is ∙ from.is (Leaf (InPlace p) Over f has_over.slots) in
          back_pays Root p t (subst (WaitsFor p) (sym is) (waits_plug p from.around (Calling g from.slots says.0 (Leaf (InPlace p) Over f has_over.slots)) (inl (eq-eqb p p refl))))
    ]
    unwinds_pay (Arrive r d) says =
        let due_ : branch_due (hook_at Root has_over.around) ≡ 12 = ap branch_due (hook_is ∙ says) in
        let then_ = ap (grow p (λ st f n. Leaf (InPlace p) Arrives f n)) has_over.is ∙ grow_plug p (λ st f n. Leaf (InPlace p) Arrives f n) has_over.around Over f has_over.slots has_over.alone in
        let le = owed_plug Root has_over.around (Leaf (InPlace p) Over f has_over.slots) (Leaf (InPlace p) Arrives f has_over.slots) 12 0 (omega (arith, due_)) in
        let now_ = ap (owed Root) then_ in let was = ap (owed Root) has_over.is in
        omega (arith, le, now_, was)
    unwinds_pay (Bump r) says = omega arith
    unwinds_pay (Push1 r) says = omega arith
    unwinds_pay (Push2 r) says = omega arith
    unwinds_pay (Join r d) says = omega arith
    unwinds_pay Pop1 says = omega arith
    unwinds_pay (Pop2 r) says = omega arith
    unwinds_pay Seek says = omega arith
    unwinds_pay (Steal v x) says = omega arith
    unwinds_pay (Check v x) says = omega arith
    unwinds_pay (Take v x) says = omega arith
    unwinds_pay (Take2 v) says = omega arith

    unwind_pays : (next : Then) → Under i m p (Unwind f) (Now next) → owed Root (by_unwind p (kind_then next) t) + behind_unwind (kind_then next) ≤ owed Root t
    unwind_pays (Install re) under = unwinds_pay re.kind (unwind_under i m p f under.0 under.1 (Now (Install re)) under.2)
    unwind_pays (Fork r) under = omega arith
    unwind_pays (Begin r g b) under = unwinds_pay (Run g 0) tt
    unwind_pays (Load x) under = omega arith
    unwind_pays (Move q) under = omega arith
    unwind_pays (Enter x) under = omega arith
    unwind_pays Again under = omega arith
    unwind_pays Broken under = omega arith

  -- the end of Join
  module _ (p r : ℕ) (d : Side) (ke : S.kind p ≡ Join r d) where
    joins_here_at : carried m (S.kind p) ≡ 1 → JoinsAt p t
    joins_here_at one =
        let g = leaf i fair root input S t law p one in
        let hook : hook_at Root g.around ≡ Branch d r = branch g.stand g.frame (hook_at Root g.around) (subst (λ (k : RestartKind). Match i.code m k (hook_at Root g.around) g.stand g.frame) ke g.match) in
        elim (branch_from Root g.around r d hook) [
          | inl none ↦ absurd (let z = none.0 in cc)
          | inr from ↦
              let u = Leaf (InPlace p) g.stand g.frame g.slots in
              subst (JoinsAt p) (sym (g.is ∙ from.is u)) (joins_plug p from.around (fork_with from.frame from.slots from.copy r d u from.beside)
              (joins_here p from.frame from.slots from.copy r d u from.beside (eq-eqb p p refl)))
        ]
      where
        branch : (st : Stand) (g : ℕ) (h : LinkKind) → Match i.code m (Join r d) h st g → h ≡ Branch d r
        branch Arrives g h match = match
        branch (Begins y) g h match = absurd match
        branch Over g h match = absurd match

    late : (m (BlockWord (r + 1)) == side_code d) ≡ false → carried m (S.kind p) ≡ 1
    late e = ap (carried m) ke ∙ cond-false {A = ℕ} (m (BlockWord (r + 1)) == side_code d) 0 1 e

    pops : (re : Restart) → (m (BlockWord (r + 1)) == side_code d) ≡ true → Under i m p (Join r d) (Now (Install re)) → re.kind ≡ Pop1
    pops re e (inl under) = join_first i m p r under.0 under.1 d re e under.2
    pops re e (inr done) = absurd (let x = done.late in let z : true ≡ false = sym e ∙ x in cc)

    joins_pay : (k : RestartKind) → ((m (BlockWord (r + 1)) == side_code d) ≡ true → k ≡ Pop1) → owed Root (joined_by p k t) + behind_join k ≤ owed Root t
    joins_pay (Run g y) first_ = let le = joined_less Root p (λ z. Begins z) goes_on t in omega (arith, le)
    joins_pay (Unwind g) first_ = elim (cases_Bool (m (BlockWord (r + 1)) == side_code d)) [
      | inl e ↦ absurd (let z = first_ e in cc)
      | inr e ↦ joined_pays Root p t (joins_here_at (late e))
    ]
    joins_pay (Bump q) first_ = omega arith
    joins_pay (Push1 q) first_ = omega arith
    joins_pay (Push2 q) first_ = omega arith
    joins_pay (Arrive q e) first_ = omega arith
    joins_pay (Join q e) first_ = omega arith
    joins_pay Pop1 first_ = omega arith
    joins_pay (Pop2 q) first_ = omega arith
    joins_pay Seek first_ = omega arith
    joins_pay (Steal v x) first_ = omega arith
    joins_pay (Check v x) first_ = omega arith
    joins_pay (Take v x) first_ = omega arith
    joins_pay (Take2 v) first_ = omega arith

    join_pays : (next : Then) → Under i m p (Join r d) (Now next) → owed Root (by_join p next t) + behind_join (kind_then next) ≤ owed Root t
    join_pays (Install re) under = joins_pay re.kind (λ e. pops re e under)
    join_pays (Begin q f b) under = let e = over_same p (inlined p) (inlined_same p) Root t in omega (arith, e)
    join_pays (Fork q) under = omega arith
    join_pays (Load x) under = omega arith
    join_pays (Move q) under = omega arith
    join_pays (Enter x) under = omega arith
    join_pays Again under = omega arith
    join_pays Broken under = omega arith

  -- the end of a capsule
  module _ (p f y : ℕ) (ke : S.kind p ≡ Run f y) where
    has_leaf : Runs i S t p f y
    has_leaf = run_leaf i S t p f y ke (leaf i fair root input S t law p (ap (carried m) ke))

    abbrev n : ℕ
    n = slots_at i.code (m (BlockWord (header f y)))

    abbrev h : LinkKind
    h = hook_at Root has_leaf.around

    grows_pay : (u : Stand → ℕ → ℕ → Skeleton) → owed h (u (Begins y) f n) ≤ branch_due h + 42 → owed Root (grow p u t) ≤ owed Root t + 36
    grows_pay u few =
        let then_ = ap (grow p u) has_leaf.is ∙ grow_plug p u has_leaf.around (Begins y) f n has_leaf.alone in
        let le = owed_plug Root has_leaf.around (Leaf (InPlace p) (Begins y) f n) (u (Begins y) f n) 0 36 (omega (arith, few)) in
        let now_ = ap (owed Root) then_ in let was = ap (owed Root) has_leaf.is in
        omega (arith, le, now_, was)

    opened_pays : (r : ℕ) (k : LinkKind) → owed h (opened i m p r k (Begins y) f n) ≤ branch_due h + 42
    opened_pays r (Called g z) = omega arith
    opened_pays r (Forked g z) = omega arith
    opened_pays r Root = omega arith
    opened_pays r (Branch d q) = omega arith

    run_pays : (kind : RestartKind) → owed Root (by_install i m p (Run f y) kind t) ≤ owed Root t + 36
    run_pays (Run g z) = grows_pay (λ st f n. Leaf (InPlace p) (Begins z) f n) (omega arith)
    run_pays (Unwind g) = grows_pay (λ st f n. Leaf (InPlace p) Over f n) (omega arith)
    run_pays (Bump r) = grows_pay (opened i m p r (link_at (m (BlockWord r))).kind) (opened_pays r (link_at (m (BlockWord r))).kind)
    run_pays (Push1 r) = omega arith
    run_pays (Push2 r) = omega arith
    run_pays (Arrive r d) = omega arith
    run_pays (Join r d) = omega arith
    run_pays Pop1 = omega arith
    run_pays (Pop2 r) = omega arith
    run_pays Seek = omega arith
    run_pays (Steal v x) = omega arith
    run_pays (Check v x) = omega arith
    run_pays (Take v x) = omega arith
    run_pays (Take2 v) = omega arith

  installs_pay : (p : ℕ) (k kind : RestartKind) → S.kind p ≡ k → owed Root (by_install i m p k kind t) ≤ owed Root t + 36
  installs_pay p (Run f y) kind ke = run_pays p f y ke kind
  installs_pay p (Bump r) kind ke = omega arith
  installs_pay p (Push1 r) kind ke = omega arith
  installs_pay p (Push2 r) kind ke = omega arith
  installs_pay p (Unwind f) kind ke = omega arith
  installs_pay p (Arrive r d) kind ke = omega arith
  installs_pay p (Join r d) kind ke = omega arith
  installs_pay p Pop1 kind ke = omega arith
  installs_pay p (Pop2 r) kind ke = omega arith
  installs_pay p Seek kind ke = omega arith
  installs_pay p (Steal v x) kind ke = omega arith
  installs_pay p (Check v x) kind ke = omega arith
  installs_pay p (Take v x) kind ke = omega arith
  installs_pay p (Take2 v) kind ke = omega arith

  -- a branch is taken, or nothing is
  takes_pay : (p : ℕ) (k : RestartKind) (next : Then) → ((j : Then) → (weight k (kind_then j) ≡ 0)) → ((r f b : ℕ) → by_end p k (Begin r f b) t ≡ take_in r p t) → ((j : Then) → IsNoBegin j → by_end p k j t ≡ t)
      → owed Root (by_end p k next t) + weight k (kind_then next) ≤ owed Root t
  takes_pay p k (Begin r f b) free takes none = let a = free (Begin r f b) in let e = ap (owed Root) (takes r f b) in let d = taken_same Root r p t in omega (arith, a, e, d)
  takes_pay p k (Install x) free takes none = let a = free (Install x) in let e = ap (owed Root) (none (Install x) tt) in omega (arith, a, e)
  takes_pay p k (Fork x) free takes none = let a = free (Fork x) in let e = ap (owed Root) (none (Fork x) tt) in omega (arith, a, e)
  takes_pay p k (Load x) free takes none = let a = free (Load x) in let e = ap (owed Root) (none (Load x) tt) in omega (arith, a, e)
  takes_pay p k (Move x) free takes none = let a = free (Move x) in let e = ap (owed Root) (none (Move x) tt) in omega (arith, a, e)
  takes_pay p k (Enter x) free takes none = let a = free (Enter x) in let e = ap (owed Root) (none (Enter x) tt) in omega (arith, a, e)
  takes_pay p k Again free takes none = let a = free Again in let e = ap (owed Root) (none Again tt) in omega (arith, a, e)
  takes_pay p k Broken free takes none = let a = free Broken in let e = ap (owed Root) (none Broken tt) in omega (arith, a, e)

  -- an end of a row
  ends_pay : (p : ℕ) (k : RestartKind) (next : Then) → S.kind p ≡ k → Does i m p k (InRow (Now next)) → owed Root (by_end p k next t) + weight k (kind_then next) ≤ owed Root t
  ends_pay p (Unwind f) next ke does = unwind_pays p f ke next does
  ends_pay p (Join r d) next ke does = join_pays p r d ke next does
  ends_pay p (Pop2 q) next ke does = takes_pay p (Pop2 q) next (λ j. refl) (λ r f b. refl) (pop_end p q t)
  ends_pay p (Check v x) next ke does = takes_pay p (Check v x) next (λ j. refl) (λ r f b. refl) (check_end p v x t)
  ends_pay p (Run f y) next ke does = omega arith
  ends_pay p (Bump r) next ke does = omega arith
  ends_pay p (Push1 r) next ke does = omega arith
  ends_pay p (Push2 r) next ke does = omega arith
  ends_pay p (Arrive r d) next ke does = omega arith
  ends_pay p Pop1 next ke does = omega arith
  ends_pay p Seek next ke does = omega arith
  ends_pay p (Steal v x) next ke does = omega arith
  ends_pay p (Take v x) next ke does = omega arith
  ends_pay p (Take2 v) next ke does = omega arith

  -- a store and an exchange change only whose a leaf is
  store_pays : (p : ℕ) (k : RestartKind) → owed Root (by_store p k t) ≡ owed Root t
  store_pays p (Push1 r) = over_same p (pushed Held) (pushed_same Held) Root t
  store_pays p (Run f y) = refl
  store_pays p (Bump r) = refl
  store_pays p (Push2 r) = refl
  store_pays p (Unwind f) = refl
  store_pays p (Arrive r d) = refl
  store_pays p (Join r d) = refl
  store_pays p Pop1 = refl
  store_pays p (Pop2 r) = refl
  store_pays p Seek = refl
  store_pays p (Steal v x) = refl
  store_pays p (Check v x) = refl
  store_pays p (Take v x) = refl
  store_pays p (Take2 v) = refl

  exchange_pays : (w : Cell → ℕ) (p : ℕ) (k : RestartKind) (made : Bool) → owed Root (by_exchange w p k made t) ≡ owed Root t
  exchange_pays w p (Arrive r d) made = by (w (BlockWord (r + 1)) == 0)
    where
      by : (b : Bool) → owed Root (cond b (grow p (λ st f n. Leaf Came st f n) t) t) ≡ owed Root t
      by true = came_same Root p t
      by false = refl
  exchange_pays w p (Push2 r) true = over_same p (pushed Waiting) (pushed_same Waiting) Root t
  exchange_pays w p (Push2 r) false = refl
  exchange_pays w p (Run f y) made = refl
  exchange_pays w p (Bump r) made = refl
  exchange_pays w p (Push1 r) made = refl
  exchange_pays w p (Unwind f) made = refl
  exchange_pays w p (Join r d) made = refl
  exchange_pays w p Pop1 made = refl
  exchange_pays w p (Pop2 r) made = refl
  exchange_pays w p Seek made = refl
  exchange_pays w p (Steal v x) made = refl
  exchange_pays w p (Check v x) made = refl
  exchange_pays w p (Take v x) made = refl
  exchange_pays w p (Take2 v) made = refl

  -- the kind of a place that none has followed
  own_kind : (p : ℕ) (k : RestartKind) → P.kind p ≡ k → IsAway l p → S.kind p ≡ k
  own_kind p k e away = kind_away l P.kind p away ∙ e

  -- a step, by where the processor stands
  step_pays : (x : Standing) → stand_of state c ≡ x → StandsSo i state t c x → StandsAway l x → Pays x
  step_pays (IsWithin seat (Now next)) e a away =
      let kind = own_kind seat.place seat.restart.kind a.kind away in
      let does = subst₂ (λ (k : RestartKind) (d : Doing). Does i m seat.place k d) kind (doing_own seat.place (IsWithin seat (Now next)) a.holds e refl) (law.does seat.place) in
      let le = ends_pay seat.place seat.restart.kind next kind does in omega (arith, le)
  step_pays (IsWithin seat (Store cell content next)) e a away = let q = store_pays seat.place seat.restart.kind in omega (arith, q)
  step_pays (IsWithin seat (Exchange cell old new next)) e a away =
      let q = exchange_pays m seat.place seat.restart.kind (read i.shape state.words cell == word_of old) in omega (arith, q)
  step_pays (IsRunning seat (Installs kind)) e a away = let le = installs_pay seat.place seat.restart.kind kind (own_kind seat.place seat.restart.kind a.kind away) in omega (arith, le)
  step_pays (IsRunning seat (Loads cell go)) e a away = omega arith
  step_pays (IsRunning seat (Stores cell content rest)) e a away = omega arith
  step_pays (IsRunning seat Full) e a away = omega arith
  step_pays (IsRunning seat Breaks) e a away = omega arith
  step_pays IsLost e a away = omega arith
  step_pays (IsPlaced p) e a away = omega arith
  step_pays (IsAt p restart) e a away = omega arith
  step_pays (IsBroken p) e a away = omega arith
  step_pays IsDone e a away = omega arith

  -- an act: who takes a step is in no place that was followed
  act_pays : (act : Act) (x : Standing) → stand_of state c ≡ x → ActsSo i state t c act x → ((v : ℕ) → act ≡ Step v → StandsAway l x)
      → owed Root (act_with i m state.words act x t) + by_step paid_by act x ≤ owed Root t + 36 * by_step ended_by act x
  act_pays (Step v) x e so away = step_pays x e so.1 (away v refl)
  act_pays Soft x e so away = omega arith
  act_pays Hard x e so away = omega arith
  act_pays (Quit why) x e so away = omega arith

pub credit_stays_left : CreditStaysLeft
credit_stays_left i fair root input state l t law turn so away =
    act_pays i fair root input state l t law turn.processor turn.act (stand_of state turn.processor) refl so
    (λ v is. (subst (λ (act : Act). StepsAway i l act (stand_of state turn.processor)) is away).0)

-- where none was followed
none_away : (x : Standing) → StandsAway [] x
none_away IsLost = tt
none_away (IsPlaced p) = tt
none_away (IsAt p r) = tt
none_away (IsWithin seat row) = tt
none_away (IsRunning seat rest) = tt
none_away (IsBroken p) = tt
none_away IsDone = tt

pub credit_stays : CreditStays
credit_stays i fair root input state t law turn so =
    act_pays i fair root input state [] t law turn.processor turn.act (stand_of state turn.processor) refl so (λ v is. none_away (stand_of state turn.processor))
