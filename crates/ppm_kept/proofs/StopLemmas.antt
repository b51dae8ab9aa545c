-- Where the finish word is set and says no outcome of the root, all that is kept stays so; also where it
-- is another one, and no place is in a row.
use Rattle.std.proofs.Common.{◌≡◌, ◌<◌, ◌≤◌, ℕ, ◌+◌, ◌==◌, cond, Bool, true, false, Option, Some, None, inl, inr, refl, sym, ap, ◌∙◌, subst, subst₂, arith}
use Rattle.std.proofs.Math.Path.{fun_ext}
use Rattle.ppm_strands.specs.Tree.{Words, Tree}
use Rattle.ppm_strands.specs.Ahead.{Ahead}
use Rattle.ppm_cells.specs.Link.{link_of}
use Rattle.ppm_cells.specs.Finish.{finish_word, finish_of, IsFinish, IsOutcome}
use Rattle.ppm_cells.specs.declared.cell.Cell.{Cell}
use Rattle.ppm_cells.specs.declared.cell.Cell.TheVariants.{FinishWord, RoomCounter, BlockWord, ArrayWord}
use Rattle.ppm_cells.specs.declared.finish.Finish.{Finish}
use Rattle.ppm_cells.specs.declared.finish.Finish.TheVariants.{Unset, Ended, Trapped, OutOfTurns, OutOfRoom, Stopped, Broken}
use Rattle.ppm_cells.specs.declared.link.Link.{Link}
use Rattle.ppm_cells.specs.declared.link.LinkKind.{LinkKind}
use Rattle.ppm_cells.specs.declared.link.LinkKind.TheVariants.{Root, Call as Called, Branch, Fork as Forked}
use Rattle.ppm_cells.specs.declared.restart.RestartKind.{RestartKind}
use Rattle.ppm_cells.specs.declared.restart.RestartKind.TheVariants.{Run, Bump, Push1, Push2, Unwind, Arrive, Join, Pop1, Pop2, Seek, Steal, Check, Take, Take2}
use Rattle.ppm_cells.specs.declared.side.Side.{Side}
use Rattle.ppm_cells.specs.declared.side.Side.TheVariants.{Left, Right}
use Rattle.ppm_strands.specs.Strand.{Frame}
use Rattle.ppm_code.specs.Sizes.{frame_size, slots_at}
use Rattle.ppm_code.specs.Strands.{Point, Result}
use Rattle.ppm_code.specs.declared.location.FrameWord.{FrameWord}
use Rattle.ppm_cells.specs.JoinOrder.{first}
use Rattle.ppm_step.specs.Frames.{Rest}
use Rattle.ppm_step.specs.Points.{order_word, outcome_word}
use Rattle.ppm_step.specs.Rows.{bumped, with_kind, unwind_by, unwound, branch_outcome, joins, join_by, is_inline, is_last, row_of}
use Rattle.ppm_step.specs.declared.content.Content.TheVariants.{ANumber, AFinish}
use Rattle.ppm_step.specs.declared.row.Point.TheVariants.{BumpLink, UnwindLink, UnwindOutcome, JoinOrder, JoinLink, Offset}
use Rattle.ppm_step.specs.declared.row.Row.{Row}
use Rattle.ppm_step.specs.declared.row.Row.TheVariants.{Now}
use Rattle.ppm_step.specs.declared.row.Seat.{Seat}
use Rattle.ppm_step.specs.declared.row.Then.TheVariants.{Load, Fork, Begin, Again}
use Rattle.ppm_frames.specs.Views.{written as write}
use Rattle.ppm_frames.specs.Skeletons.{Skeleton, header, count}
use Rattle.ppm_frames.specs.Good.{link_or, link_at}
use Rattle.ppm_frames.specs.Laws.{Same}
use Rattle.ppm_frames.proofs.WriteLemmas.{write_here, write_else}
use Rattle.ppm_frames.proofs.SkeletonLemmas.{SameFrame, tree_same}
use Rattle.ppm_frames.proofs.SwapLemmas.{good_same}
use Rattle.ppm_kept.specs.Running.{IsFair, number_at, strands}
use Rattle.ppm_kept.specs.Branches.{HasCopy}
use Rattle.ppm_kept.specs.Kept.{Setting, start, end_of, owner, seat_at, side_code, State, Doing, Resting, InRow, InRest, Blank, AimsWell, NoOutcome, ceiling, Free, Under, Going, Does, Head, Ordered, carried, IsKept}
use Rattle.ppm_kept.specs.Steps.{IsStop}
use Rattle.ppm_kept.specs.Stops.{WordsStay}
use Rattle.ppm_kept.proofs.BlockLemmas.{finish_back}
use Rattle.ppm_kept.proofs.SameRowLemmas.{SameRow, JoinWords, collected_same, broken_row, again_row, install_row, fork_row, begin_row, load_row, store_row, exchange_row, link_row, outcome_row, if_there_row, value_row, last_row}
use Rattle.ppm_kept.proofs.StayLemmas.{clean_stays, come_stays}

-- what stops a run is no outcome
stop_only : (v : Finish) → IsStop v → IsOutcome v → ⊥
stop_only Unset stop out = out
stop_only Ended stop out = stop
stop_only (Trapped trap line) stop out = stop
stop_only (OutOfTurns processor) stop out = out
stop_only (OutOfRoom place) stop out = out
stop_only Stopped stop out = out
stop_only (Broken place) stop out = out

abbrev finish_in : Finish → Option Finish → Finish
finish_in v None = v
finish_in v (Some x) = x

pub stop_says : (v : Finish) → IsFinish v → IsStop v → NoOutcome (finish_word v)
stop_says v fit stop o e out = stop_only v stop (subst IsOutcome {x = o} {y = v} (ap (finish_in o) (sym e ∙ finish_back v fit)) out)

module _ (i : Setting) (fair : IsFair i.code) (root : Tree (Frame FrameWord Point) Result) (input : Words) (s : State) (t : Skeleton) (law : IsKept i root input s t) (w : ℕ) where
  abbrev m : Cell → ℕ
  m = s.words

  abbrev n : Cell → ℕ
  n = write m FinishWord w

  block : (x : ℕ) → n (BlockWord x) ≡ m (BlockWord x)
  block x = write_else m FinishWord w (BlockWord x) (λ e. cc)

  room : (q : ℕ) → n (RoomCounter q) ≡ m (RoomCounter q)
  room q = write_else m FinishWord w (RoomCounter q) (λ e. cc)

  element : (x : ℕ) → n (ArrayWord x) ≡ m (ArrayWord x)
  element x = write_else m FinishWord w (ArrayWord x) (λ e. cc)

  frame : (f l : ℕ) → SameFrame m n f l
  frame f l = record {
    header = λ y. block (header f y);
    link = block f;
    outcome = block (f + 1);
    value = block (f + 4);
    target = block (f + 5);
    slots = λ j lt. block (f + (6 + j));
  }

  roof : (q : ℕ) (k : RestartKind) → ceiling i n q k ≡ ceiling i m q k
  roof q (Bump r) = ap (λ (x : ℕ). r + (link_at x).size) (block r)
  roof q (Run f y) = room q
  roof q (Push1 r) = room q
  roof q (Push2 r) = room q
  roof q (Unwind f) = room q
  roof q (Arrive r d) = room q
  roof q (Join r d) = room q
  roof q Pop1 = room q
  roof q (Pop2 r) = room q
  roof q Seek = room q
  roof q (Steal v x) = room q
  roof q (Check v x) = room q
  roof q (Take v x) = room q
  roof q (Take2 v) = room q

  strand : (k : RestartKind) → carried n k ≡ carried m k
  strand (Arrive r d) = ap (λ (x : ℕ). cond (x == side_code d) 0 1) (block (r + 1))
  strand (Join r d) = ap (λ (x : ℕ). cond (x == side_code d) 0 1) (block (r + 1))
  strand (Run f y) = refl
  strand (Bump r) = refl
  strand (Push1 r) = refl
  strand (Push2 r) = refl
  strand (Unwind f) = refl
  strand Pop1 = refl
  strand (Pop2 r) = refl
  strand Seek = refl
  strand (Steal v x) = refl
  strand (Check v x) = refl
  strand (Take v x) = refl
  strand (Take2 v) = refl

  blank : (q : ℕ) (k : RestartKind) → Blank i m q (ceiling i m q k) → Blank i n q (ceiling i n q k)
  blank q k b = subst (Blank i n q) (sym (roof q k)) (λ o lt. block (ceiling i m q k + o) ∙ b o lt)

  free : (q : ℕ) (k : RestartKind) → HasCopy k → Free i m q k → Free i n q k
  free q (Run f y) low b = clean_stays i.shape i.code fair m n q f y low (frame f (slots_at i.code (number_at i.shape i.code m f y))) (room q) (λ o lt. block (m (RoomCounter q) + o)) (λ x h. element x) b
  free q (Bump r) low b = blank q (Bump r) b
  free q (Push1 r) low b = blank q (Push1 r) b
  free q (Push2 r) low b = blank q (Push2 r) b
  free q (Unwind f) low b = blank q (Unwind f) b
  free q (Arrive r d) low b = blank q (Arrive r d) b
  free q (Join r d) low b = blank q (Join r d) b
  free q Pop1 low b = blank q Pop1 b
  free q (Pop2 r) low b = blank q (Pop2 r) b
  free q Seek low b = blank q Seek b
  free q (Steal v x) low b = blank q (Steal v x) b
  free q (Check v x) low b = blank q (Check v x) b
  free q (Take v x) low b = blank q (Take v x) b
  free q (Take2 v) low b = blank q (Take2 v) b

  -- the state then, where places do this
  abbrev set_so : (ℕ → Doing) → State
  set_so d = record { words = n; kind = s.kind; doing = d }

  head_stays : (d : ℕ → Doing) (x : ℕ) → Head i s t x → Head i (set_so d) t x
  head_stays d x a = record { there = a.there; first = a.first; under = subst (λ (c : ℕ). x < c) (sym (roof (owner i x) (s.kind (owner i x)))) a.under; bare = a.bare }

  ordered : (e : ℕ → Doing) (k : RestartKind) → Ordered i s t m k → Ordered i (set_so e) t n k
  ordered e (Arrive r d) a = head_stays e (r + 1) a
  ordered e (Join r d) a = (head_stays e (r + 1) a.0, λ z. a.1 (sym (block (r + 1)) ∙ z))
  ordered e (Run f y) a = tt
  ordered e (Bump r) a = tt
  ordered e (Push1 r) a = tt
  ordered e (Push2 r) a = tt
  ordered e (Unwind f) a = tt
  ordered e Pop1 a = tt
  ordered e (Pop2 r) a = tt
  ordered e Seek a = tt
  ordered e (Steal v x) a = tt
  ordered e (Check v x) a = tt
  ordered e (Take v x) a = tt
  ordered e (Take2 v) a = tt

  same : Same (count Root t) m n
  same x ne = block x

  set_kept : NoOutcome w → (d : ℕ → Doing) → ((q : ℕ) → Does i n q (s.kind q) (d q)) → AimsWell (set_so d) t → IsKept i root input (set_so d) t
  set_kept none d does aims = record {
    ahead = (
      law.ahead.0,
      subst₂ (λ (a : Tree (Frame FrameWord Point) Result) (b : Words). Ahead (strands i.shape i.code) law.ahead.0 root input a b)
          (sym (tree_same m n Root t same)) (fun_ext (λ x. sym (element x))) law.ahead.1,
    );
    good = good_same m n i.code s.kind s.kind Root t same (λ p ne. refl) law.good;
    apart = law.apart;
    below = λ x ne. ((law.below x ne).0, subst (λ (c : ℕ). x < c) (sym (roof (owner i x) (s.kind (owner i x)))) (law.below x ne).1);
    there = law.there;
    places = λ p. law.places p ∙ sym (strand (s.kind p));
    rooms = λ p. subst (λ (c : ℕ). (start i p ≤ c) × (c ≤ end_of i p)) (sym (roof p (s.kind p))) (law.rooms p);
    free = λ p. free p (s.kind p) (law.copies p) (law.free p);
    does = does;
    orders = λ p. ordered d (s.kind p) (law.orders p);
    finished = inl (subst NoOutcome (sym (write_here m FinishWord w)) none);
    copies = law.copies;
    untaken = law.untaken;
    aims = aims;
    paid = λ p. subst (λ (c : ℕ). c ≤ start i p + (frame_size i.code i.code.root + law.ahead.0.block_words)) (sym (roof p (s.kind p))) (law.paid p);
    counted = law.counted;
  }

  -- with no place in a row
  pub back_kept : NoOutcome w → IsKept i root input (set_so (λ q. Resting)) t
  back_kept none = set_kept none (λ q. Resting) (λ q. tt) (λ q r f b taker about. absurd (cc))

  module _ (unset : s.words FinishWord ≡ 0) where
    -- rows under way have read no finish word, and exchanged none that was 0
    module _ (seat : Seat) where
      abbrev SameHere : Row → Type 0
      SameHere row = SameRow i m n seat row

      bumped_row : (r size : ℕ) (h : LinkKind) → SameHere (bumped seat r size h)
      bumped_row r size (Called e y) = store_row i m n seat (RoomCounter seat.place) (ANumber (r + size)) (with_kind seat (Run r 0)) (room seat.place) (install_row i m n seat (Run r 0))
      bumped_row r size (Forked e y) = store_row i m n seat (RoomCounter seat.place) (ANumber (r + size)) (Fork r) (room seat.place) (fork_row i m n seat r)
      bumped_row r size Root = broken_row i m n seat
      bumped_row r size (Branch d x) = broken_row i m n seat

      bump_row : (r : ℕ) → SameHere (row_of i.shape seat (Bump r))
      bump_row r = load_row i m n seat (BumpLink r) (block r) (link_row i m n seat (λ link. bumped seat r link.size link.kind) (link_of (m (BlockWord r))) (λ link e. bumped_row r link.size link.kind))

      up_row : (f : ℕ) (h : LinkKind) (x : Finish) → SameHere (unwound seat f h x)
      up_row f Root x = exchange_row i m n seat FinishWord (ANumber 0) (AFinish x) Again (λ set z. set unset) (again_row i m n seat)
      up_row f (Called g y) Ended = value_row i m n seat f g y (m (BlockWord (f + 5))) None (block (f + 5)) (block (f + 4)) (λ j lt. block (g + (6 + j))) (omega arith) (install_row i m n seat (Run g y))
      up_row f (Called g y) x = store_row i m n seat (outcome_word g) (AFinish x) (with_kind seat (Unwind g)) (block (g + 1)) (install_row i m n seat (Unwind g))
      up_row f (Branch Left r) x = store_row i m n seat (branch_outcome Left r) (AFinish x) (with_kind seat (Arrive r Left)) (block (r + 2)) (install_row i m n seat (Arrive r Left))
      up_row f (Branch Right r) x = store_row i m n seat (branch_outcome Right r) (AFinish x) (with_kind seat (Arrive r Right)) (block (r + 3)) (install_row i m n seat (Arrive r Right))
      up_row f (Forked g y) x = broken_row i m n seat

      outcome_there : (f : ℕ) (h : LinkKind) → SameHere (Now (Load (UnwindOutcome f h)))
      outcome_there f h = load_row i m n seat (UnwindOutcome f h) (block (f + 1))
          (outcome_row i m n seat (unwound seat f h) (finish_of (m (BlockWord (f + 1)))) (up_row f h Ended) (λ trap line. up_row f h (Trapped trap line)))

      hook_row : (f : ℕ) (h : LinkKind) → SameHere (unwind_by f h)
      hook_row f Root = outcome_there f Root
      hook_row f (Called g y) = outcome_there f (Called g y)
      hook_row f (Branch d r) = outcome_there f (Branch d r)
      hook_row f (Forked g y) = broken_row i m n seat

      unwind_row : (f : ℕ) → SameHere (row_of i.shape seat (Unwind f))
      unwind_row f = load_row i m n seat (UnwindLink f) (block f) (link_row i m n seat (λ link. unwind_by f link.kind) (link_of (m (BlockWord f))) (λ link e. hook_row f link.kind))

      arrive_row : (r : ℕ) (d : Side) → SameHere (row_of i.shape seat (Arrive r d))
      arrive_row r d = exchange_row i m n seat (order_word r) (ANumber 0) (ANumber (first d)) (with_kind seat (Join r d)) (λ set z. set (sym (block (r + 1)) ∙ z)) (install_row i m n seat (Join r d))

    -- the words of any two frames that a join reads
    join_words : (seat : Seat) (r g y : ℕ) → (link_at (m (BlockWord r))).kind ≡ Forked g y
        → JoinWords i m n seat r g y (m (BlockWord (r + 5 + 5)) + m (BlockWord (r + m (BlockWord (r + 4)) + 5)))
    join_words seat r g y hooked = record {
      link = block r;
      hooked = hooked;
      left = block (r + 2);
      right = block (r + 3);
      offset = block (r + 4);
      left_value = block (r + 5 + 4);
      left_target = block (r + 5 + 5);
      left_aim = omega arith;
      right_value = block (r + m (BlockWord (r + 4)) + 4);
      right_target = block (r + m (BlockWord (r + 4)) + 5);
      right_aim = omega arith;
      outcome = block (g + 1);
      slots = λ j lt. block (g + (6 + j));
    }

    module _ (seat : Seat) (r : ℕ) where
      late_row : SameRow i m n seat (Now (Load (JoinLink r)))
      late_row = by (link_at (m (BlockWord r))).kind refl
        where
          no_fork : (h : LinkKind) → (link_at (m (BlockWord r))).kind ≡ h → SameRow i m n seat (join_by r h) → SameRow i m n seat (Now (Load (JoinLink r)))
          no_fork h he same = load_row i m n seat (JoinLink r) (block r) (link_row i m n seat (λ link. join_by r link.kind) (link_of (m (BlockWord r)))
              (λ link e. subst (λ (x : LinkKind). SameRow i m n seat (join_by r x)) (sym he ∙ ap (λ (o : Option Link). (link_or o).kind) e) same))

          by : (h : LinkKind) → (link_at (m (BlockWord r))).kind ≡ h → SameRow i m n seat (Now (Load (JoinLink r)))
          by (Forked g y) he = last_row i m n seat r g y (m (BlockWord (r + 5 + 5)) + m (BlockWord (r + m (BlockWord (r + 4)) + 5))) (join_words seat r g y he)
          by Root he = no_fork Root he (broken_row i m n seat)
          by (Called g y) he = no_fork (Called g y) he (broken_row i m n seat)
          by (Branch d x) he = no_fork (Branch d x) he (broken_row i m n seat)

      joins_row : (first_one inline last : Bool) → SameRow i m n seat (joins seat r first_one inline last)
      joins_row true inline last = install_row i m n seat Pop1
      joins_row false true last = load_row i m n seat (Offset r seat.restart.bottom) (block (r + 4))
          (if_there_row i m n seat (r + m (BlockWord (r + 4))) (Now (Begin r (r + m (BlockWord (r + 4))) seat.restart.bottom)) (begin_row i m n seat r (r + m (BlockWord (r + 4))) seat.restart.bottom))
      joins_row false false true = late_row
      joins_row false false false = broken_row i m n seat

      join_row : (d : Side) → SameRow i m n seat (row_of i.shape seat (Join r d))
      join_row d = load_row i m n seat (JoinOrder r d) (block (r + 1)) (joins_row (m (BlockWord (r + 1)) == first d) (is_inline (m (BlockWord (r + 1))) d) (is_last (m (BlockWord (r + 1))) d))

    join_under : (q r : ℕ) (d : Side) (row : Row) → Under i m q (Join r d) row → Under i n q (Join r d) row
    join_under q r d row (inl v) = inl (v.0, v.1, join_row (seat_at q (Join r d) v.0) r d v.1 row v.2)
    join_under q r d row (inr v) = inr (collected_same i m n (seat_at q (Join r d) 0) r v.frame v.copy (m (BlockWord (r + 5 + 5)) + m (BlockWord (r + m (BlockWord (r + 4)) + 5)))
        (join_words (seat_at q (Join r d) 0) r v.frame v.copy v.hook) d row (block (r + 1)) v)

    under : (q : ℕ) (k : RestartKind) (row : Row) → Under i m q k row → Under i n q k row
    under q (Run f y) row u = u
    under q (Bump r) row v = (v.0, v.1, bump_row (seat_at q (Bump r) v.0) r v.1 row v.2)
    under q (Unwind f) row v = (v.0, v.1, unwind_row (seat_at q (Unwind f) v.0) f v.1 row v.2)
    under q (Arrive r d) row v = (v.0, v.1, arrive_row (seat_at q (Arrive r d) v.0) r d v.1 row v.2)
    under q (Join r d) row v = join_under q r d row v
    under q (Push1 r) row u = tt
    under q (Push2 r) row u = tt
    under q Pop1 row u = tt
    under q (Pop2 r) row u = tt
    under q Seek row u = tt
    under q (Steal v x) row u = tt
    under q (Check v x) row u = tt
    under q (Take v x) row u = tt
    under q (Take2 v) row u = tt

    does_rest : (q : ℕ) (k : RestartKind) → HasCopy k → (rest : Rest) → Going i m q k rest → Going i n q k rest
    does_rest q (Run f y) low rest go = come_stays i.shape i.code fair m n q f y low (frame f (slots_at i.code (number_at i.shape i.code m f y))) (room q) (λ o lt. block (m (RoomCounter q) + o)) (λ x h. element x) rest go
    does_rest q (Bump r) low rest go = go
    does_rest q (Push1 r) low rest go = go
    does_rest q (Push2 r) low rest go = go
    does_rest q (Unwind f) low rest go = go
    does_rest q (Arrive r d) low rest go = go
    does_rest q (Join r d) low rest go = go
    does_rest q Pop1 low rest go = go
    does_rest q (Pop2 r) low rest go = go
    does_rest q Seek low rest go = go
    does_rest q (Steal v x) low rest go = go
    does_rest q (Check v x) low rest go = go
    does_rest q (Take v x) low rest go = go
    does_rest q (Take2 v) low rest go = go

    does : (q : ℕ) (k : RestartKind) (d : Doing) → HasCopy k → Does i m q k d → Does i n q k d
    does q k Resting low so = tt
    does q k (InRow row) low so = under q k row so
    does q k (InRest rest) low so = does_rest q k low rest so

    pub stop_kept : NoOutcome w → IsKept i root input (set_so s.doing) t
    stop_kept none = set_kept none s.doing (λ q. does q (s.kind q) (s.doing q) (law.copies q) (law.does q)) law.aims

pub words_stay : WordsStay
words_stay i fair root input s t law w none = back_kept i fair root input s t law w none
