-- The steps of a place in a row of kind Unwind keep the invariant.
use Rattle.std.proofs.Common.{◌≡◌, ◌≢◌, ◌⊎◌, ◌≤◌, ◌<◌, ℕ, zero, suc, ◌+◌, ◌==◌, cond, Bool, true, false, inl, inr, refl, sym, ap, ap₂, ◌∙◌, subst, subst₂, arith, Option, Some, None}
use Rattle.std.specs.Prelude.{nat_lt, if◌then◌else◌}
use Rattle.std.proofs.Math.Path.{fun_ext}
use Rattle.std.proofs.lemmas.Bool.{cond-false, eqb-true}
use Rattle.ppm_strands.specs.Tree.{Words, Tree}
use Rattle.ppm_strands.specs.Tree as tree
use Rattle.ppm_strands.specs.Run.{none}
use Rattle.ppm_strands.specs.Ahead.{Step}
use Rattle.ppm_words.specs.declared.trap.Trap.{Trap}
use Rattle.ppm_cells.specs.Cells.{word_count}
use Rattle.ppm_cells.specs.Finish.{finish_of, finish_word, IsFinish}
use Rattle.ppm_cells.proofs.ExactLemmas.{pack-unpack}
use Rattle.ppm_cells.proofs.FinishLemmas.{finishes_exact}
use Rattle.ppm_cells.specs.Link.{link_of}
use Rattle.ppm_cells.specs.declared.cell.Cell.{Cell}
use Rattle.ppm_cells.specs.declared.cell.Cell.TheVariants.{FinishWord, RoomCounter, BlockWord, ArrayWord}
use Rattle.ppm_cells.specs.declared.finish.Finish.{Finish}
use Rattle.ppm_cells.specs.declared.finish.Finish.TheVariants.{Unset, Ended as EndedSo, Trapped as TrappedBy, OutOfTurns, OutOfRoom, Stopped, Broken as BrokenAt}
use Rattle.ppm_cells.specs.declared.link.Link.{Link}
use Rattle.ppm_cells.specs.declared.link.LinkKind.{LinkKind}
use Rattle.ppm_cells.specs.declared.link.LinkKind.TheVariants.{Root, Call as Called, Branch, Fork as Forked}
use Rattle.ppm_cells.specs.declared.restart.Restart.{Restart}
use Rattle.ppm_cells.specs.declared.restart.RestartKind.{RestartKind}
use Rattle.ppm_cells.specs.declared.restart.RestartKind.TheVariants.{Run, Unwind, Arrive}
use Rattle.ppm_cells.specs.declared.side.Side.{Side}
use Rattle.ppm_cells.specs.declared.side.Side.TheVariants.{Left, Right}
use Rattle.ppm_strands.specs.Strand.{Frame}
use Rattle.ppm_code.specs.Sizes.{slot_at, value_at, slots_at}
use Rattle.ppm_code.specs.Strands.{Point, Result}
use Rattle.ppm_code.specs.declared.location.FrameWord.{FrameWord}
use Rattle.ppm_code.specs.declared.location.FrameWord.TheVariants.{Slot, Value}
use Rattle.ppm_step.specs.Contents.{content_of, word_of, read_so}
use Rattle.ppm_step.specs.Points.{cell_at, reading_at}
use Rattle.ppm_step.specs.Rows.{row_of, found_at, on_link, on_outcome, unwind_by, unwound, target_found, value_found, branch_outcome}
use Rattle.ppm_step.specs.Standings.{within_if, row_is_there, then_is_there, stands, stands_then}
use Rattle.ppm_step.specs.declared.content.Content.{Content}
use Rattle.ppm_step.specs.declared.content.Content.TheVariants.{ALink, AFinish, ANumber}
use Rattle.ppm_step.specs.declared.row.Point.TheVariants.{UnwindLink, UnwindOutcome, Target, GivenValue}
use Rattle.ppm_step.specs.declared.row.Row.{Row}
use Rattle.ppm_step.specs.declared.row.Row.TheVariants.{Now, Store, Exchange}
use Rattle.ppm_step.specs.declared.row.Seat.{Seat}
use Rattle.ppm_step.specs.declared.row.Then.{Then}
use Rattle.ppm_step.specs.declared.row.Then.TheVariants.{Load, Install, Fork, Begin, Move, Enter, Again, Broken}
use Rattle.ppm_frames.specs.Laws.{Same, IsInSlot, ValuesPass}
use Rattle.ppm_frames.specs.Views.{written as write, is_cell}
use Rattle.ppm_frames.specs.Seen.{own_at, arrays_at}
use Rattle.ppm_frames.specs.Skeletons.{Stand, Begins, Over, Arrives, InPlace, Skeleton, Leaf, Calling, header, named, target_at, arrival, result_at, tree_at, inside, hung, count, at, grow, back, Around, plug, hook_at, at_rim}
use Rattle.ppm_frames.specs.Good.{link_or, link_at, Mark, IsPlain, IsFirst, IsFresh, IsHeld, IsInlined, mark, order_of, Framed, IsSized, IsGiven, Calls, Match, Good}
use Rattle.ppm_frames.proofs.WriteLemmas.{write_here, write_else, pool_apart}
use Rattle.ppm_frames.proofs.SeenLemmas.{choice}
use Rattle.ppm_frames.proofs.SkeletonLemmas.{SameFrame, same_frame, result_same, frame_path, tree_same, inside_at, CalledFrom, called_from, branch_from, back_plug, grow_plug}
use Rattle.ppm_frames.proofs.SwapLemmas.{swap_same, good_same, good_here}
use Rattle.ppm_frames.proofs.ValueLemmas.{all_values_pass}
use Rattle.ppm_kept.specs.Running.{IsFair, strands}
use Rattle.ppm_kept.specs.Branches.{Unpushed, is_taker, HasCopy}
use Rattle.ppm_kept.specs.Kept.{Setting, owner, seat_at, side_code, Doing, Resting, InRow, State, put, Blank, ceiling, Free, Reach, Does, Under, Ordered, carried, IsKept}
use Rattle.ppm_kept.specs.Moves.{doing_of, goes, stores, installs}
use Rattle.ppm_kept.specs.Laws.{Ends, kind_then}
use Rattle.ppm_kept.specs.Moves.{exchanges}
use Rattle.ppm_kept.specs.Returns.{by_unwind, unwind_seat, UnwindKeeps, UnwindRowKeeps}
use Rattle.ppm_kept.specs.Others.{Mine, Keeps}
use Rattle.ppm_kept.proofs.OtherLemmas.{others_keep}
use Rattle.ppm_kept.proofs.CopyLemmas.{unpacked_low}
use Rattle.ppm_kept.proofs.PutLemmas.{put_here, put_else}
use Rattle.ppm_kept.proofs.EndingLemmas.{not_ended, on_branch, root_top}
use Rattle.ppm_kept.proofs.BranchLemmas.{same_part, barren}
use Rattle.ppm_kept.proofs.BuildLemmas.{Turn, allows_none, build}
use Rattle.ppm_kept.proofs.TurnLemmas.{pool_cell}
use Rattle.ppm_kept.proofs.PlaceLemmas.{leaf, going, kept_same, counted, not_free, mine_around, head_on, is_at_own, is_at_other}

-- the leaf of a place that is over
pub record Overs (i : Setting) (s : State) (t : Skeleton) (p f : ℕ) : Type 0 where
  pub around : Around
  pub slots : ℕ
  pub is : t ≡ plug around (Leaf (InPlace p) Over f slots)
  pub alone : at_rim p around ≡ 0
  pub framed : Framed i.code s.words (hook_at Root around) f slots

pub over_at : (i : Setting) (s : State) (t : Skeleton) (p f : ℕ) (c : Around) (st : Stand) (g n : ℕ) → t ≡ plug c (Leaf (InPlace p) st g n) → at_rim p c ≡ 0
    → Framed i.code s.words (hook_at Root c) g n → Match i.code s.words (Unwind f) (hook_at Root c) st g → Overs i s t p f
over_at i s t p f c Over g n is alone framed match = record {
  around = c;
  slots = n;
  alone = alone;
  is = is ∙ ap (λ (b : ℕ). plug c (Leaf (InPlace p) Over b n)) (sym match);
  framed = subst (λ (b : ℕ). Framed i.code s.words (hook_at Root c) b n) (sym match) framed;
}
over_at i s t p f c (Begins z) g n is alone framed match = absurd match
over_at i s t p f c Arrives g n is alone framed match = absurd match

pub header_not : (g y a : ℕ) → 4 ≤ a → header g y ≢ g + a
header_not g zero a le e = omega (arith, le, e)
header_not g (suc y) a le e = omega (arith, le, e)

pub header_not_one : (g y : ℕ) → header g y ≢ g + 1
header_not_one g zero e = omega (arith, e)
header_not_one g (suc y) e = omega (arith, e)

-- where a branch stores its outcome
abbrev pub arrival_at : ℕ → Side → ℕ
arrival_at r Left = r + 2
arrival_at r Right = r + 3

-- a link that a frame may have
abbrev IsUp : LinkKind → Type 0
IsUp (Forked g y) = ⊥
IsUp _ = Unit {0}

module _ (i : Setting) (fair : IsFair i.code) (root : Tree (Frame FrameWord Point) Result) (input : Words) (s : State) (t : Skeleton) (law : IsKept i root input s t) (p : ℕ)
    (there : p < i.shape.processors) (keeps : Keeps i s t p) (f : ℕ) (ke : s.kind p ≡ Unwind f) where
  abbrev m : Cell → ℕ
  m = s.words

  abbrev o : ℕ
  o = m (BlockWord (f + 1))

  abbrev Law : State → Skeleton → Type 0
  Law z v = IsKept i root input z v

  abbrev seat : ℕ → Seat
  seat b = seat_at p (Unwind f) b

  abbrev sits : (own b : ℕ) → Seat
  sits own b = unwind_seat own p f b

  has_over : Overs i s t p f
  has_over = let g = leaf i fair root input s t law p (ap (carried m) ke) in
      over_at i s t p f g.around g.stand g.frame g.slots g.is g.alone g.framed (subst (λ (k : RestartKind). Match i.code m k (hook_at Root g.around) g.stand g.frame) ke g.match)

  abbrev oc : Around
  oc = has_over.around

  abbrev oh : LinkKind
  oh = hook_at Root oc

  abbrev n : ℕ
  n = has_over.slots

  abbrev low : Skeleton
  low = Leaf (InPlace p) Over f n

  roof : ceiling i m p (s.kind p) ≡ m (RoomCounter p)
  roof = ap (ceiling i m p) ke

  blank : Blank i m p (m (RoomCounter p))
  blank = subst (Free i m p) ke (law.free p)

  only_low : (q : ℕ) → q ≢ p → at q low ≡ 0
  only_low q ne = is_at_other p q ne

  one_low : 1 ≤ at p low
  one_low = let a = is_at_own p in omega (arith, a)

  -- a word of the tree is a cell of the frames
  cell_of : (x : ℕ) → (count Root t x ≡ 0 → ⊥) → is_cell i.shape (BlockWord x) ≡ true
  cell_of x some = let b = law.below x some in
      pool_cell i x (law.there x some) b.0 (let under = b.1 in let top_ = (law.rooms (owner i x)).1 in omega (arith, under, top_))

  -- the link of the frame is its hook
  hook_is : (k : LinkKind) (x : ℕ) → link_of (m (BlockWord f)) ≡ Some (record { kind = k; size = x }) → oh ≡ k
  hook_is k x e = sym (ap (λ (b : Link). b.kind) has_over.framed) ∙ ap (λ (b : Option Link). (link_or b).kind) e

  -- an outcome packs to its word
  word_is : (v : Finish) → finish_of o ≡ Some v → finish_word v ≡ o
  word_is v e = pack-unpack finish_word IsFinish finish_of finishes_exact o v e

  -- what the row is by what it has loaded
  abbrev link_row : Option Link → Row
  link_row a = on_link (read_so ALink a) (λ (l : Link). unwind_by f l.kind)

  abbrev outcome_row : ℕ → LinkKind → Option Finish → Row
  outcome_row b k a = on_outcome (read_so AFinish a) (unwound (seat b) f k)

  abbrev value_row : (b g y j v : ℕ) → Row
  value_row b g y j v = value_found i.shape (seat b) g y (suc j) None v

  abbrev row : ℕ → Row
  row b = row_of i.shape (seat b) (Unwind f)

  to_outcome : (k : LinkKind) (x : ℕ) → IsUp k → (z : Cell → ℕ) → link_of (z (BlockWord f)) ≡ Some (record { kind = k; size = x }) → (b a : ℕ) (rest : Row)
      → Reach i z (seat b) a (outcome_row b k (finish_of (z (BlockWord (f + 1))))) rest → Reach i z (seat b) (suc (suc a)) (row b) rest
  to_outcome Root x up z e b a rest q = subst (λ (l : Option Link). Reach i z (seat b) (suc a) (link_row l) rest) (sym e) q
  to_outcome (Called g y) x up z e b a rest q = subst (λ (l : Option Link). Reach i z (seat b) (suc a) (link_row l) rest) (sym e) q
  to_outcome (Branch d r) x up z e b a rest q = subst (λ (l : Option Link). Reach i z (seat b) (suc a) (link_row l) rest) (sym e) q
  to_outcome (Forked g y) x up z e b a rest q = absurd up

  to_target : (g y : ℕ) (z : Cell → ℕ) → finish_of (z (BlockWord (f + 1))) ≡ Some EndedSo → (b a : ℕ) (rest : Row)
      → Reach i z (seat b) a (target_found (seat b) f g y None (z (BlockWord (f + 5)))) rest → Reach i z (seat b) (suc a) (outcome_row b (Called g y) (finish_of (z (BlockWord (f + 1))))) rest
  to_target g y z e b a rest q = subst (λ (v : Option Finish). Reach i z (seat b) (suc a) (outcome_row b (Called g y) v) rest) (sym e) q

  to_value : (g y j : ℕ) (z : Cell → ℕ) → z (BlockWord (f + 5)) ≡ suc j → (b a : ℕ) (rest : Row)
      → Reach i z (seat b) a (value_row b g y j (z (BlockWord (f + 4)))) rest → Reach i z (seat b) (suc a) (target_found (seat b) f g y None (z (BlockWord (f + 5)))) rest
  to_value g y j z e b a rest q = subst (λ (x : ℕ). Reach i z (seat b) (suc a) (target_found (seat b) f g y None x) rest) (sym e) q

  -- where it stands by what it has reached
  within_any : (own bottom b a : ℕ) (z : Cell → ℕ) (rest : Row) → Reach i z (seat b) a (row b) rest → (yes_ : Bool) → Does i z p (Unwind f) (doing_of (within_if (sits own bottom) rest yes_))
  within_any own bottom b a z rest q true = (b, a, q)
  within_any own bottom b a z rest q false = tt

  stand_any : (own bottom b a : ℕ) (z : Cell → ℕ) (rest : Row) → Reach i z (seat b) a (row b) rest → Does i z p (Unwind f) (doing_of (stands i.shape i.code (sits own bottom) rest))
  stand_any own bottom b a z (Now (Load x)) q = within_any own bottom b a z (Now (Load x)) q (then_is_there i.shape (sits own bottom) (Load x))
  stand_any own bottom b a z (Now (Install x)) q = within_any own bottom b a z (Now (Install x)) q (then_is_there i.shape (sits own bottom) (Install x))
  stand_any own bottom b a z (Now (Fork x)) q = within_any own bottom b a z (Now (Fork x)) q (then_is_there i.shape (sits own bottom) (Fork x))
  stand_any own bottom b a z (Now (Begin x w v)) q = within_any own bottom b a z (Now (Begin x w v)) q (then_is_there i.shape (sits own bottom) (Begin x w v))
  stand_any own bottom b a z (Now (Move x)) q = within_any own bottom b a z (Now (Move x)) q (then_is_there i.shape (sits own bottom) (Move x))
  stand_any own bottom b a z (Now (Enter x)) q = tt
  stand_any own bottom b a z (Now Again) q = tt
  stand_any own bottom b a z (Now Broken) q = within_any own bottom b a z (Now Broken) q false
  stand_any own bottom b a z (Store c w x) q = within_any own bottom b a z (Store c w x) q (row_is_there i.shape (sits own bottom) (Store c w x))
  stand_any own bottom b a z (Exchange c v w x) q = within_any own bottom b a z (Exchange c v w x) q (row_is_there i.shape (sits own bottom) (Exchange c v w x))

  goes_on : (own bottom a : ℕ) (rest : Row) → Reach i m (seat bottom) a (row bottom) rest → Law (goes s p (stands i.shape i.code (sits own bottom) rest)) t
  goes_on own bottom a rest q = going i fair root input s t law p (ap is_taker ke) (doing_of (stands i.shape i.code (sits own bottom) rest))
      (subst (λ (k : RestartKind). Does i m p k (doing_of (stands i.shape i.code (sits own bottom) rest))) (sym ke) (stand_any own bottom bottom a m rest q))

  -- what each row has to keep
  abbrev RowLaw : Row → Type 0
  RowLaw (Now (Load point)) = (own bottom victim : ℕ)
      → Law (goes s p (stands i.shape i.code (sits own bottom) (found_at i.shape (sits own bottom) victim point (content_of (reading_at point) (m (cell_at (sits own bottom) victim point)))))) t
  RowLaw (Now next) = Ends next → Law (installs s p (kind_then next)) (by_unwind p (kind_then next) t)
  RowLaw (Store cell content next) = ((own bottom : ℕ) → Law (stores s p cell (word_of content) (stands_then i.shape i.code (sits own bottom) next)) t) × (is_cell i.shape cell ≡ true)
  RowLaw (Exchange cell old new next) = ((own bottom : ℕ) → Law (exchanges s p cell (word_of old) (word_of new) (stands_then i.shape i.code (sits own bottom) next)) t) × (cell ≡ FinishWord)

  -- the loads
  link_load : RowLaw (Now (Load (UnwindLink f)))
  link_load own bottom victim = goes_on own bottom 1 (link_row (link_of (m (BlockWord f)))) refl

  same_row : (own b : ℕ) (k : LinkKind) (a : Option Finish) → on_outcome (read_so AFinish a) (unwound (sits own b) f k) ≡ outcome_row b k a
  same_row own b k None = refl
  same_row own b Root (Some EndedSo) = refl
  same_row own b (Called g y) (Some EndedSo) = refl
  same_row own b (Branch d r) (Some EndedSo) = refl
  same_row own b (Forked g y) (Some EndedSo) = refl
  same_row own b Root (Some (TrappedBy x l)) = refl
  same_row own b (Called g y) (Some (TrappedBy x l)) = refl
  same_row own b (Branch d r) (Some (TrappedBy x l)) = refl
  same_row own b (Forked g y) (Some (TrappedBy x l)) = refl
  same_row own b k (Some Unset) = refl
  same_row own b k (Some (OutOfTurns x)) = refl
  same_row own b k (Some (OutOfRoom x)) = refl
  same_row own b k (Some Stopped) = refl
  same_row own b k (Some (BrokenAt x)) = refl

  outcome_load : (k : LinkKind) (x : ℕ) → IsUp k → link_of (m (BlockWord f)) ≡ Some (record { kind = k; size = x }) → RowLaw (Now (Load (UnwindOutcome f k)))
  outcome_load k x up e own bottom victim = subst (λ (r : Row). Law (goes s p (stands i.shape i.code (sits own bottom) r)) t) (sym (same_row own bottom k (finish_of o)))
      (goes_on own bottom 2 (outcome_row bottom k (finish_of o)) (to_outcome k x up m e bottom 0 (outcome_row bottom k (finish_of o)) refl))

  -- rows that are at their ends
  broken_rows : (b a : ℕ) (rest : Row) → Reach i m (seat b) a (Now Broken) rest → RowLaw rest
  broken_rows b zero rest q = subst RowLaw q (λ ends. absurd ends)
  broken_rows b (suc a) rest q = absurd q

  install_rows : (b a : ℕ) (r : Restart) (rest : Row) → RowLaw (Now (Install r)) → Reach i m (seat b) a (Now (Install r)) rest → RowLaw rest
  install_rows b zero r rest l q = subst RowLaw q l
  install_rows b (suc a) r rest l q = absurd q

  store_rows : (b a : ℕ) (cell : Cell) (content : Content) (r : Restart) (rest : Row) → RowLaw (Store cell content (Install r)) → (m cell ≡ word_of content → RowLaw (Now (Install r)))
      → Reach i m (seat b) a (Store cell content (Install r)) rest → RowLaw rest
  store_rows b zero cell content r rest l ins q = subst RowLaw q l
  store_rows b (suc a) cell content r rest l ins q = install_rows b a r rest (ins q.0) q.1

  -- the root's end
  module _ (at_root : oh ≡ Root) where
    abbrev m3 : Cell → ℕ
    m3 = write m FinishWord o

    same3 : (x : ℕ) → m3 (BlockWord x) ≡ m (BlockWord x)
    same3 x = write_else m FinishWord o (BlockWord x) (λ e. cc)

    room3 : m3 (RoomCounter p) ≡ m (RoomCounter p)
    room3 = write_else m FinishWord o (RoomCounter p) (λ e. cc)

    abbrev z3 : State
    z3 = record { words = m3; kind = s.kind; doing = put s.doing p Resting }

    finish_turn : m FinishWord ≡ 0 → Turn i s t p z3 oc low low (Unwind f) Resting
    finish_turn zero_ = record {
      is = has_over.is;
      alone = has_over.alone;
      there = there;
      kind = ke;
      kinds = λ q ne. refl;
      doing = put_here s.doing p Resting;
      doings = λ q ne. put_else s.doing p Resting q ne;
      around = λ x ne. same3 x;
      step = inr (tree_same m m3 oh low (λ x ne. same3 x), fun_ext (λ x. write_else m FinishWord o (ArrayWord x) (λ e. cc)));
      swap = swap_same m m3 oh low (λ x ne. same3 x);
      good = good_same m m3 i.code s.kind s.kind oh low (λ x ne. same3 x) (λ q ne. refl)
          (has_over.framed, tt, subst (λ (k : RestartKind). Match i.code m k oh Over f) (sym ke) refl);
      adds = λ x. inl (omega arith, omega arith);
      grows = omega (arith, roof, room3);
      pays = omega (arith, roof, room3);
      bound = let b = (law.rooms p).1 in omega (arith, b, roof, room3);
      places = is_at_own p;
      placed = λ q ne. refl;
      free = λ b lt. ap (λ (x : ℕ). m3 (BlockWord (x + b))) room3 ∙ same3 (m (RoomCounter p) + b) ∙ blank b (omega (arith, lt, room3));
      does = tt;
      orders = tt;
      others = keeps oc low FinishWord o has_over.is has_over.alone only_low one_low (inl zero_);
      unrun = same_part tt tt refl;
      finishes = λ before. inr (record {
        place = p;
        frame = f;
        slots = n;
        is = ap (λ (d : Around). plug d low) (root_top Root oc at_root).0;
        gave = write_here m FinishWord o ∙ sym (same3 (f + 1));
      });
    }

    root_exchange : (v : Finish) → finish_of o ≡ Some v → RowLaw (Exchange FinishWord (ANumber 0) (AFinish v) Again)
    root_exchange v e = (
      λ own bottom. subst (λ (x : ℕ). Law (record { words = cond (m FinishWord == 0) (write m FinishWord x) m; kind = s.kind; doing = put s.doing p Resting }) t) (sym (word_is v e))
          (by (m FinishWord == 0) refl),
      refl,
    )
      where
        by : (b : Bool) → (m FinishWord == 0) ≡ b → Law (record { words = cond b (write m FinishWord o) m; kind = s.kind; doing = put s.doing p Resting }) t
        by true e = subst (IsKept i root input z3) (sym has_over.is) (build i fair root input s t law p z3 oc low low (Unwind f) Resting (finish_turn (eqb-true (m FinishWord) 0 e)))
        by false e = going i fair root input s t law p (ap is_taker ke) Resting tt

    root_rows : (v : Finish) → finish_of o ≡ Some v → (b a : ℕ) (rest : Row) → Reach i m (seat b) a (Exchange FinishWord (ANumber 0) (AFinish v) Again) rest → RowLaw rest
    root_rows v e b zero rest q = subst RowLaw q (root_exchange v e)
    root_rows v e b (suc zero) rest q = subst RowLaw q.1 (λ ends. absurd ends)
    root_rows v e b (suc (suc a)) rest q = absurd q.1

  -- a frame called by g
  module _ (g y : ℕ) (size_of : ℕ) (linked : link_of (m (BlockWord f)) ≡ Some (record { kind = Called g y; size = size_of })) (from : CalledFrom Root oc g y) where
    abbrev c : Around
    c = from.around

    abbrev h : LinkKind
    h = hook_at Root c

    abbrev l : ℕ
    l = from.slots

    abbrev u : Skeleton
    u = Calling g l y low

    is : t ≡ plug c u
    is = has_over.is ∙ from.is low

    alone : at_rim p c ≡ 0
    alone = from.places p ∙ has_over.alone

    good_u : Good i.code m s.kind h u
    good_u = good_here i.code m s.kind Root c u (subst (Good i.code m s.kind Root) is law.good)

    abbrev waiting : Calls i.code m h g l y low
    waiting = good_u.0

    -- the two frames are apart
    one_of : (x : ℕ) → 1 ≤ inside g (6 + l) x → inside f (6 + n) x ≡ 0
    one_of x one = let a = law.apart x in let sum = counted i fair root input s t law p c u x is in omega (arith, a, sum, one)

    apart_ : (j k : ℕ) → j < 6 + l → k < 6 + n → g + j ≢ f + k
    apart_ j k a b e = let in_g = inside_at g (6 + l) (g + j) j refl a in let in_f = inside_at f (6 + n) (g + j) k e b in let no_f = one_of (g + j) in_g in omega (arith, in_f, no_f)

    low_same : (x w : ℕ) → 1 ≤ inside g (6 + l) x → Same (inside f (6 + n)) m (write m (BlockWord x) w)
    low_same x w one z ne = write_else m (BlockWord x) w (BlockWord z) (pool_apart z x (λ e. ne (ap (inside f (6 + n)) e ∙ one_of x one)))

    mine : (x : ℕ) → 1 ≤ inside g (6 + l) x → Mine i s p h u (BlockWord x)
    mine x one = inl (omega (arith, one))

    caller_cell : (a : ℕ) → a < 6 + l → is_cell i.shape (BlockWord (g + a)) ≡ true
    caller_cell a bound = cell_of (g + a) (λ e. let one = inside_at g (6 + l) (g + a) a refl bound in let sum = counted i fair root input s t law p c u (g + a) is in omega (arith, e, sum, one))

    still_blank : (x w : ℕ) → 1 ≤ inside g (6 + l) x → Blank i (write m (BlockWord x) w) p (m (RoomCounter p))
    still_blank x w one b lt = write_else m (BlockWord x) w (BlockWord (m (RoomCounter p) + b)) (pool_apart (m (RoomCounter p) + b) x (λ e.
        not_free i fair root input s t law p c u (m (RoomCounter p) + b) b is (subst (λ (z : ℕ). 1 ≤ count h u z) (sym e) (omega (arith, one))) (let a = roof in omega (arith, a)) lt)) ∙ blank b lt

    -- a store into the caller's frame
    module _ (a w : ℕ) (bound : a < 6 + l) (above : (4 ≤ a) ⊎ (a ≡ 1)) where
      abbrev m' : Cell → ℕ
      m' = write m (BlockWord (g + a)) w

      in_caller : 1 ≤ inside g (6 + l) (g + a)
      in_caller = inside_at g (6 + l) (g + a) a refl bound

      stays : (b : ℕ) → b ≢ a → m' (BlockWord (g + b)) ≡ m (BlockWord (g + b))
      stays b ne = write_else m (BlockWord (g + a)) w (BlockWord (g + b)) (pool_apart (g + b) (g + a) (λ e. ne (omega (arith, e))))

      low_is : SameFrame m m' f n
      low_is = same_frame m m' (inside f (6 + n)) f n (λ z. omega arith) (low_same (g + a) w in_caller)

      room_is : m' (RoomCounter p) ≡ m (RoomCounter p)
      room_is = write_else m (BlockWord (g + a)) w (RoomCounter p) (λ e. cc)

      header_is : m' (BlockWord (header g y)) ≡ m (BlockWord (header g y))
      header_is = write_else m (BlockWord (g + a)) w (BlockWord (header g y)) (pool_apart (header g y) (g + a) (elim above [
        | inl le ↦ header_not g y a le
        | inr e ↦ λ d. header_not_one g y (d ∙ ap (λ (b : ℕ). g + b) e)
      ]))

      result_is : result_at m' f (m' (BlockWord (f + 1))) ≡ result_at m f o
      result_is = result_same m m' f n o (m' (BlockWord (f + 1))) low_is low_is.outcome

      target_is : target_at m' f ≡ target_at m f
      target_is = ap named low_is.target

      array_is : arrays_at m' ≡ arrays_at m
      array_is = fun_ext (λ x. write_else m (BlockWord (g + a)) w (ArrayWord x) (λ e. cc))

      good_low : Good i.code m' s.kind (Called g y) low
      good_low = good_same m m' i.code s.kind s.kind (Called g y) low (λ x ne. low_same (g + a) w in_caller x (λ e. ne (omega (arith, e)))) (λ q ne. refl) good_u.1

      module _ (step : Step (strands i.shape i.code) none (tree_at m h u) (arrays_at m) (tree_at m' h u) (arrays_at m)
          ⊎ (tree_at m' h u ≡ tree_at m h u))
          (link_is : m' (BlockWord g) ≡ m (BlockWord g)) (aim : m' (BlockWord (g + 5)) ≡ m (BlockWord (g + 5))) (outcome : IsGiven i.code m' g o) (d : Doing) (does_so : Does i m' p (Unwind f) d) where
        abbrev z : State
        z = record { words = m'; kind = s.kind; doing = put s.doing p d }

        store_turn : Turn i s t p z c u u (Unwind f) d
        store_turn = record {
          is = is;
          alone = alone;
          there = there;
          kind = ke;
          kinds = λ q ne. refl;
          doing = put_here s.doing p d;
          doings = λ q ne. put_else s.doing p d q ne;
          around = mine_around i fair root input s t law p c u (BlockWord (g + a)) w is (mine (g + a) in_caller);
          step = elim step [
            | inl st ↦ inl (none, subst (λ (b : Words). Step (strands i.shape i.code) none (tree_at m h u) (arrays_at m) (tree_at m' h u) b) (sym array_is) st, allows_none i)
            | inr same ↦ inr (same, array_is)
          ];
          swap = record { aim = record { head = refl; aim = aim }; order = refl; gives = inl (refl, refl) };
          good = (
            record {
              framed = ap link_at link_is ∙ waiting.framed;
              size = ap (slots_at i.code) header_is ∙ waiting.size;
              outcome = subst (IsGiven i.code m' g) (sym low_is.outcome) outcome;
              target = subst (λ (b : ℕ). b ≤ l) (sym low_is.target) waiting.target;
            },
            good_low,
          );
          adds = λ x. inl (omega arith, omega arith);
          grows = omega (arith, roof, room_is);
          pays = omega (arith, roof, room_is);
          bound = let b = (law.rooms p).1 in omega (arith, b, roof, room_is);
          places = is_at_own p;
          placed = λ q ne. refl;
          free = subst (Blank i m' p) (sym room_is) (still_blank (g + a) w in_caller);
          does = does_so;
          orders = tt;
          others = keeps c u (BlockWord (g + a)) w is alone (λ q ne. is_at_other p q ne) one_low (inl (mine (g + a) in_caller));
          unrun = same_part tt tt refl;
          finishes = not_ended m m' t c u u is (write_else m (BlockWord (g + a)) w FinishWord (λ e. cc)) refl;
        }

        caller_stored : Law z t
        caller_stored = subst (IsKept i root input z) (sym is) (build i fair root input s t law p z c u u (Unwind f) d store_turn)

    -- the install that goes on in the caller's frame
    module _ (k : RestartKind) (st : Stand) (back_to : ℕ → Stand) (stand_is : back_to y ≡ st) (step : Step (strands i.shape i.code) none (tree_at m h u) (arrays_at m) (tree_at m h (Leaf (InPlace p) st g l)) (arrays_at m))
        (sized : IsSized i.code m st g l) (match : Match i.code m k h st g) (top_is : ceiling i m p k ≡ m (RoomCounter p)) (one : carried m k ≡ 1) (frees : Free i m p k) (plain_kind : Ordered i s t m k)
        (copy : HasCopy k) (own : (w : Skeleton) → Unpushed p w k) (no_taker : is_taker k ≡ false) where
      abbrev v : Skeleton
      v = Leaf (InPlace p) st g l

      install_turn : Turn i s t p (installs s p k) c u v k Resting
      install_turn = record {
        is = is;
        alone = alone;
        there = there;
        kind = put_here s.kind p k;
        kinds = λ q ne. put_else s.kind p k q ne;
        doing = put_here s.doing p Resting;
        doings = λ q ne. put_else s.doing p Resting q ne;
        around = λ x ne. refl;
        step = inl (none, step, allows_none i);
        swap = record { aim = record { head = refl; aim = refl }; order = refl; gives = inl (refl, refl) };
        good = (waiting.framed, sized, subst (λ (q : RestartKind). Match i.code m q h st g) (sym (put_here s.kind p k)) match);
        adds = λ x. inl (omega arith, omega arith);
        grows = omega (arith, roof, top_is);
        pays = omega (arith, roof, top_is);
        bound = let b = (law.rooms p).1 in omega (arith, b, roof, top_is);
        places = is_at_own p ∙ sym one;
        placed = λ q ne. refl;
        free = frees;
        does = tt;
        orders = plain_kind;
        others = λ q ne. kept_same i fair root input s t law p q;
        unrun = barren (λ q x. (λ w. w, λ w. w)) copy (λ most. own (plug c v)) (λ q x ne. tt) no_taker;
        finishes = not_ended m m t c u v is refl refl;
      }

      caller_goes_on : Law (installs s p k) (back p back_to t)
      caller_goes_on = subst (IsKept i root input (installs s p k))
          (sym (ap (back p back_to) is ∙ back_plug p back_to c g l y Over f n alone ∙ ap (λ (w : Stand). plug c (Leaf (InPlace p) w g l)) stand_is))
          (build i fair root input s t law p (installs s p k) c u v k Resting install_turn)

    passing : ValuesPass i.code i.shape.arrays m g l y f n h (arrays_at m)
    passing = all_values_pass i.code i.shape.arrays m g l y f n h (arrays_at m)

    -- where the callee trapped
    module _ (trap : Trap) (line : ℕ) (fin : finish_of o ≡ Some (TrappedBy trap line)) where
      abbrev m1 : Cell → ℕ
      m1 = write m (BlockWord (g + 1)) o

      stays1 : (b : ℕ) → b ≢ 1 → m1 (BlockWord (g + b)) ≡ m (BlockWord (g + b))
      stays1 = stays 1 o (omega arith) (inr refl)

      low1 : SameFrame m m1 f n
      low1 = low_is 1 o (omega arith) (inr refl)

      own_stays : own_at m1 g l ≡ own_at m g l
      own_stays = fun_ext by
        where
          by : (w : FrameWord) → own_at m1 g l w ≡ own_at m g l w
          by (Slot j) = choice j l _ _ (λ lt. stays1 (slot_at j) (λ e. omega (arith, e)))
          by Value = stays1 value_at (λ e. omega (arith, e))

      tree_stays : tree_at m1 h u ≡ tree_at m h u
      tree_stays = ap₂ (λ (a : Frame FrameWord Point) (r : Result). tree.Call a (tree.Over r))
          (frame_path m m1 own_stays (header_is 1 o (omega arith) (inr refl)) refl (target_is 1 o (omega arith) (inr refl))) (result_is 1 o (omega arith) (inr refl))

      abbrev up_then : ℕ → Restart
      up_then b = record { kind = Unwind g; bottom = b }

      trap_store : (b own bottom : ℕ) → Law (stores s p (BlockWord (g + 1)) (finish_word (TrappedBy trap line)) (stands_then i.shape i.code (sits own bottom) (Install (up_then b)))) t
      trap_store b own bottom =
          subst (λ (x : ℕ). Law (stores s p (BlockWord (g + 1)) x (stands_then i.shape i.code (sits own bottom) (Install (up_then b)))) t) (sym (word_is (TrappedBy trap line) fin))
          (caller_stored 1 o (omega arith) (inr refl) (inr tree_stays)
          (subst (λ (x : ℕ). m1 (BlockWord x) ≡ m (BlockWord x)) {x = g + 0} (omega arith) (stays1 0 (λ e. omega (arith, e)))) (stays1 5 (λ e. omega (arith, e))) (inr (write_here m (BlockWord (g + 1)) o))
          (doing_of (stands_then i.shape i.code (sits own bottom) (Install (up_then b))))
          (stand_any own bottom b 3 m1 (Now (Install (up_then b)))
          (to_outcome (Called g y) size_of tt m1 (ap link_of low1.link ∙ linked) b 1 (Now (Install (up_then b)))
          (subst (λ (v : Option Finish). Reach i m1 (seat b) 1 (outcome_row b (Called g y) v) (Now (Install (up_then b)))) (sym (ap finish_of low1.outcome ∙ fin))
          (write_here m (BlockWord (g + 1)) o ∙ sym (word_is (TrappedBy trap line) fin), refl)))))

      trap_installed : (b : ℕ) → m (BlockWord (g + 1)) ≡ finish_word (TrappedBy trap line) → RowLaw (Now (Install (up_then b)))
      trap_installed b stored ends = caller_goes_on (Unwind g) Over (λ z. Over) refl (passing.traps trap line fin (stored ∙ word_is (TrappedBy trap line) fin))
          tt refl refl refl blank tt tt (λ w. tt) refl

      trap_rows : (b a : ℕ) (rest : Row) → Reach i m (seat b) a (Store (BlockWord (g + 1)) (AFinish (TrappedBy trap line)) (Install (up_then b))) rest → RowLaw rest
      trap_rows b a rest q = store_rows b a (BlockWord (g + 1)) (AFinish (TrappedBy trap line)) (up_then b) rest (trap_store b, caller_cell 1 (omega arith)) (trap_installed b) q

    -- where it ended, with its value for a slot of the caller or for none
    module _ (fin : finish_of o ≡ Some EndedSo) where
      abbrev on_then : ℕ → Restart
      on_then b = record { kind = Run g y; bottom = b }

      run_installed : (b : ℕ) → IsInSlot m f g l (target_at m f) → RowLaw (Now (Install (on_then b)))
      run_installed b in_ ends = caller_goes_on (Run g y) (Begins y) (λ z. Begins z) refl (passing.returns fin in_)
          waiting.size (refl, refl) refl refl
          (record { block = λ b lt out. blank b lt; outcome = inl (elim waiting.outcome [ inl e ↦ e | inr e ↦ e ∙ sym (word_is EndedSo fin) ]) }) tt
          (unpacked_low (m (BlockWord f)) (record { kind = Called g y; size = size_of }) linked) (λ w. tt) refl

      target_load : RowLaw (Now (Load (Target f g y None)))
      target_load own bottom victim = subst (λ (r : Row). Law (goes s p (stands i.shape i.code (sits own bottom) r)) t) (sym (same (m (BlockWord (f + 5)))))
          (goes_on own bottom 3 (target_found (seat bottom) f g y None (m (BlockWord (f + 5))))
          (to_outcome (Called g y) size_of tt m linked bottom 1 (target_found (seat bottom) f g y None (m (BlockWord (f + 5))))
          (to_target g y m fin bottom 0 (target_found (seat bottom) f g y None (m (BlockWord (f + 5)))) refl)))
        where
          same : (x : ℕ) → target_found (sits own bottom) f g y None x ≡ target_found (seat bottom) f g y None x
          same zero = refl
          same (suc x) = refl

      module _ (j : ℕ) (target : m (BlockWord (f + 5)) ≡ suc j) where
        low_slot : j < l
        low_slot = let a = waiting.target in omega (arith, a, target)

        abbrev v_ : ℕ
        v_ = m (BlockWord (f + 4))

        aims : target_at m f ≡ Some j
        aims = ap named target

        value_load : RowLaw (Now (Load (GivenValue f g y (suc j) None)))
        value_load own bottom victim = goes_on own bottom 4 (value_row bottom g y j v_)
            (to_outcome (Called g y) size_of tt m linked bottom 2 (value_row bottom g y j v_)
            (to_target g y m fin bottom 1 (value_row bottom g y j v_)
            (to_value g y j m target bottom 0 (value_row bottom g y j v_) refl)))

        abbrev m2 : Cell → ℕ
        m2 = write m (BlockWord (g + (6 + j))) v_

        keeps_ : (b : ℕ) → b ≢ 6 + j → m2 (BlockWord (g + b)) ≡ m (BlockWord (g + b))
        keeps_ = stays (6 + j) v_ (omega (arith, low_slot)) (inl (omega arith))

        low2 : SameFrame m m2 f n
        low2 = low_is (6 + j) v_ (omega (arith, low_slot)) (inl (omega arith))

        abbrev where_ : ℕ
        where_ = g + 5 + suc j

        module _ (near_ : nat_lt where_ (word_count i.shape) ≡ true) where
          abbrev value_store_row : ℕ → Row
          value_store_row b = Store (BlockWord where_) (ANumber v_) (Install (on_then b))

          there_row : (b : ℕ) (v : ℕ) → value_row b g y j v ≡ Store (BlockWord where_) (ANumber v) (Install (on_then b))
          there_row b v = by (nat_lt where_ (word_count i.shape)) near_
            where
              by : (x : Bool) → x ≡ true → (if x then Store (BlockWord where_) (ANumber v) (Install (on_then b)) else Now Broken) ≡ Store (BlockWord where_) (ANumber v) (Install (on_then b))
              by true e = refl
              by false e = absurd (cc)

          value_store : (b own bottom : ℕ) → Law (stores s p (BlockWord where_) v_ (stands_then i.shape i.code (sits own bottom) (Install (on_then b)))) t
          value_store b own bottom = subst (λ (x : ℕ). Law (stores s p (BlockWord x) v_ (stands_then i.shape i.code (sits own bottom) (Install (on_then b)))) t) {x = g + (6 + j)} (omega arith)
              (caller_stored (6 + j) v_ (omega (arith, low_slot)) (inl (omega arith)) (inl (passing.receives j aims low_slot fin apart_))
              (subst (λ (x : ℕ). m2 (BlockWord x) ≡ m (BlockWord x)) {x = g + 0} (omega arith) (keeps_ 0 (λ e. omega (arith, e)))) (keeps_ 5 (λ e. omega (arith, e)))
              (elim waiting.outcome [ inl e ↦ inl (keeps_ 1 (λ e. omega (arith, e)) ∙ e) | inr e ↦ inr (keeps_ 1 (λ e. omega (arith, e)) ∙ e) ])
              (doing_of (stands_then i.shape i.code (sits own bottom) (Install (on_then b))))
              (stand_any own bottom b 5 m2 (Now (Install (on_then b)))
              (to_outcome (Called g y) size_of tt m2 (ap link_of low2.link ∙ linked) b 3 (Now (Install (on_then b)))
              (to_target g y m2 (ap finish_of low2.outcome ∙ fin) b 2 (Now (Install (on_then b)))
              (to_value g y j m2 (low2.target ∙ target) b 1 (Now (Install (on_then b)))
              (subst (λ (r : Row). Reach i m2 (seat b) 1 r (Now (Install (on_then b)))) (sym (there_row b (m2 (BlockWord (f + 4)))))
              (subst (λ (x : ℕ). m2 (BlockWord x) ≡ m2 (BlockWord (f + 4))) {x = g + (6 + j)} (omega arith) (write_here m (BlockWord (g + (6 + j))) v_ ∙ sym low2.value), refl)))))))

          value_in : m (BlockWord where_) ≡ v_ → IsInSlot m f g l (target_at m f)
          value_in stored = subst (IsInSlot m f g l) (sym aims) (low_slot, subst (λ (x : ℕ). m (BlockWord x) ≡ v_) {x = where_} (omega arith) stored)

          near_rows : (b a : ℕ) (rest : Row) → Reach i m (seat b) a (value_store_row b) rest → RowLaw rest
          near_rows b a rest q = store_rows b a (BlockWord where_) (ANumber v_) (on_then b) rest
              (value_store b, subst (λ (x : ℕ). is_cell i.shape (BlockWord x) ≡ true) {x = g + (6 + j)} (omega arith) (caller_cell (6 + j) (omega (arith, low_slot)))) (λ stored. run_installed b (value_in stored)) q

        value_rows : (b a : ℕ) (rest : Row) → Reach i m (seat b) a (value_row b g y j v_) rest → RowLaw rest
        value_rows b a rest q = by (nat_lt where_ (word_count i.shape)) refl q
          where
            by : (x : Bool) → nat_lt where_ (word_count i.shape) ≡ x → Reach i m (seat b) a (if x then Store (BlockWord where_) (ANumber v_) (Install (on_then b)) else Now Broken) rest → RowLaw rest
            by true e q = near_rows e b a rest q
            by false e q = broken_rows b a rest q

      by_target : (x : ℕ) → m (BlockWord (f + 5)) ≡ x → (b a : ℕ) (rest : Row) → Reach i m (seat b) a (target_found (seat b) f g y None x) rest → RowLaw rest
      by_target zero e b a rest q = install_rows b a (on_then b) rest (run_installed b (subst (IsInSlot m f g l) (sym (ap named e)) tt)) q
      by_target (suc j) e b zero rest q = subst RowLaw q (value_load j e)
      by_target (suc j) e b (suc a) rest q = value_rows j e b a rest q

      ended_rows : (b a : ℕ) (rest : Row) → Reach i m (seat b) a (Now (Load (Target f g y None))) rest → RowLaw rest
      ended_rows b zero rest q = subst RowLaw q target_load
      ended_rows b (suc a) rest q = by_target (m (BlockWord (f + 5))) refl b a rest q

  -- a branch of a fork block
  module _ (r : ℕ) (d : Side) (size_of : ℕ) (linked : link_of (m (BlockWord f)) ≡ Some (record { kind = Branch d r; size = size_of })) where
    he : oh ≡ Branch d r
    he = hook_is (Branch d r) size_of linked

    abbrev x : ℕ
    x = arrival_at r d

    hung_one : (d : Side) → 1 ≤ hung (Branch d r) (arrival_at r d)
    hung_one Left = inside_at (r + 2) 1 (r + 2) 0 (omega arith) (omega arith)
    hung_one Right = inside_at (r + 3) 1 (r + 3) 0 (omega arith) (omega arith)

    one : 1 ≤ hung oh x
    one = subst (λ (b : LinkKind). 1 ≤ hung b x) (sym he) (hung_one d)

    mine_here : Mine i s p oh low (BlockWord x)
    mine_here = inl (omega (arith, one))

    apart_here : inside f (6 + n) x ≡ 0
    apart_here = let a = law.apart x in let sum = counted i fair root input s t law p oc low x has_over.is in omega (arith, a, sum, one)

    abbrev m4 : Cell → ℕ
    m4 = write m (BlockWord x) o

    frame4 : SameFrame m m4 f n
    frame4 = same_frame m m4 (inside f (6 + n)) f n (λ z. omega arith) (λ z some. write_else m (BlockWord x) o (BlockWord z) (pool_apart z x (λ e. some (ap (inside f (6 + n)) e ∙ apart_here))))

    room4 : m4 (RoomCounter p) ≡ m (RoomCounter p)
    room4 = write_else m (BlockWord x) o (RoomCounter p) (λ e. cc)

    module _ (doing : Doing) (does_so : Does i m4 p (Unwind f) doing) where
      abbrev z4 : State
      z4 = record { words = m4; kind = s.kind; doing = put s.doing p doing }

      given_turn : Turn i s t p z4 oc low low (Unwind f) doing
      given_turn = record {
        is = has_over.is;
        alone = has_over.alone;
        there = there;
        kind = ke;
        kinds = λ q ne. refl;
        doing = put_here s.doing p doing;
        doings = λ q ne. put_else s.doing p doing q ne;
        around = mine_around i fair root input s t law p oc low (BlockWord x) o has_over.is mine_here;
        step = inr (ap tree.Over (result_same m m4 f n o (m4 (BlockWord (f + 1))) frame4 frame4.outcome), fun_ext (λ b. write_else m (BlockWord x) o (ArrayWord b) (λ e. cc)));
        swap = record { aim = record { head = refl; aim = frame4.target }; order = refl; gives = inr (refl, frame4.outcome) };
        good = (ap link_at frame4.link ∙ has_over.framed, tt, subst (λ (q : RestartKind). Match i.code m4 q oh Over f) (sym ke) refl);
        adds = λ b. inl (omega arith, omega arith);
        grows = omega (arith, roof, room4);
        pays = omega (arith, roof, room4);
        bound = let b = (law.rooms p).1 in omega (arith, b, roof, room4);
        places = is_at_own p;
        placed = λ q ne. refl;
        free = λ b lt. ap (λ (a : ℕ). m4 (BlockWord (a + b))) room4 ∙ write_else m (BlockWord x) o (BlockWord (m (RoomCounter p) + b)) (pool_apart (m (RoomCounter p) + b) x (λ e.
            not_free i fair root input s t law p oc low (m (RoomCounter p) + b) b has_over.is (subst (λ (a : ℕ). 1 ≤ count oh low a) (sym e) (omega (arith, one))) (omega (arith, roof)) (omega (arith, lt, room4))))
            ∙ blank b (omega (arith, lt, room4));
        does = does_so;
        orders = tt;
        others = keeps oc low (BlockWord x) o has_over.is has_over.alone only_low one_low (inl mine_here);
        unrun = same_part tt tt refl;
        finishes = on_branch m m4 t oc low low has_over.is (write_else m (BlockWord x) o FinishWord (λ e. cc)) r d he;
      }

      given_law : Law z4 t
      given_law = subst (IsKept i root input z4) (sym has_over.is) (build i fair root input s t law p z4 oc low low (Unwind f) doing given_turn)

    -- its side has not come yet
    not_came : (d : Side) → oh ≡ Branch d r → (m (BlockWord (r + 1)) == side_code d) ≡ false
    not_came Left e = elim (branch_from Root oc r Left e) [
      | inl k ↦ absurd (let b = k.0 in cc)
      | inr g ↦ let forks = (good_here i.code m s.kind Root g.around _ (subst (Good i.code m s.kind Root) (has_over.is ∙ g.is low) law.good)).0 in
          ap (λ (b : ℕ). b == 1) forks.order ∙ by (mark g.beside)
    ]
      where
        by : (b : Mark) → (order_of IsPlain b == 1) ≡ false
        by IsPlain = refl
        by IsFirst = refl
        by IsFresh = refl
        by IsHeld = refl
        by IsInlined = refl
    not_came Right e = elim (branch_from Root oc r Right e) [
      | inl k ↦ absurd (let b = k.0 in cc)
      | inr g ↦ let forks = (good_here i.code m s.kind Root g.around _ (subst (Good i.code m s.kind Root) (has_over.is ∙ g.is low) law.good)).0 in
          ap (λ (b : ℕ). b == 2) forks.order ∙ by (mark g.beside)
    ]
      where
        by : (b : Mark) → (order_of b IsPlain == 2) ≡ false
        by IsPlain = refl
        by IsFirst = refl
        by IsFresh = refl
        by IsHeld = refl
        by IsInlined = refl

    arrival_is : (d : Side) → arrival m (Branch d r) ≡ m (BlockWord (arrival_at r d))
    arrival_is Left = refl
    arrival_is Right = refl

    abbrev come : Skeleton
    come = Leaf (InPlace p) Arrives f n

    module _ (stored : m (BlockWord x) ≡ o) where
      gave : arrival m oh ≡ o
      gave = ap (arrival m) he ∙ arrival_is d ∙ stored

      arrive_turn : Turn i s t p (installs s p (Arrive r d)) oc low come (Arrive r d) Resting
      arrive_turn = record {
        is = has_over.is;
        alone = has_over.alone;
        there = there;
        kind = put_here s.kind p (Arrive r d);
        kinds = λ q ne. put_else s.kind p (Arrive r d) q ne;
        doing = put_here s.doing p Resting;
        doings = λ q ne. put_else s.doing p Resting q ne;
        around = λ b ne. refl;
        step = inr (ap (λ (b : ℕ). tree.Over (result_at m f b)) gave, refl);
        swap = record { aim = record { head = refl; aim = refl }; order = refl; gives = inr (refl, gave) };
        good = (has_over.framed, tt, subst (λ (q : RestartKind). Match i.code m q oh Arrives f) (sym (put_here s.kind p (Arrive r d))) he);
        adds = λ b. inl (omega arith, omega arith);
        grows = omega (arith, roof);
        pays = omega (arith, roof);
        bound = let b = (law.rooms p).1 in omega (arith, b, roof);
        places = is_at_own p ∙ sym (cond-false {A = ℕ} (m (BlockWord (r + 1)) == side_code d) 0 1 (not_came d he));
        placed = λ q ne. refl;
        free = blank;
        does = tt;
        orders = head_on i fair root input s t law p oc low r d has_over.is he;
        others = λ q ne. kept_same i fair root input s t law p q;
        unrun = barren (λ q x. (λ w. w, λ w. w)) tt (λ most. tt) (λ q x ne. tt) refl;
        finishes = on_branch m m t oc low come has_over.is refl r d he;
      }

      arrive_law : Law (installs s p (Arrive r d)) (grow p (λ st f n. Leaf (InPlace p) Arrives f n) t)
      arrive_law = subst (IsKept i root input (installs s p (Arrive r d)))
          (sym (ap (grow p (λ st f n. Leaf (InPlace p) Arrives f n)) has_over.is ∙ grow_plug p (λ st f n. Leaf (InPlace p) Arrives f n) oc Over f n has_over.alone))
          (build i fair root input s t law p (installs s p (Arrive r d)) oc low come (Arrive r d) Resting arrive_turn)

    cell_is : (d : Side) → branch_outcome d r ≡ BlockWord (arrival_at r d)
    cell_is Left = refl
    cell_is Right = refl

    abbrev arrive_then : ℕ → Restart
    arrive_then b = record { kind = Arrive r d; bottom = b }

    abbrev given_row : (b : ℕ) → Finish → Row
    given_row b v = Store (BlockWord x) (AFinish v) (Install (arrive_then b))

    row_is : (b : ℕ) (v : Finish) → unwound (seat b) f (Branch d r) v ≡ given_row b v
    row_is b v = ap (λ (q : Cell). Store q (AFinish v) (Install (arrive_then b))) (cell_is d)

    given_store : (v : Finish) → finish_of o ≡ Some v → ((z : Cell → ℕ) → finish_of (z (BlockWord (f + 1))) ≡ Some v → (b : ℕ) → outcome_row b (Branch d r) (finish_of (z (BlockWord (f + 1)))) ≡ given_row b v)
        → (b own bottom : ℕ) → Law (stores s p (BlockWord x) (finish_word v) (stands_then i.shape i.code (sits own bottom) (Install (arrive_then b)))) t
    given_store v e turns b own bottom =
        subst (λ (q : ℕ). Law (stores s p (BlockWord x) q (stands_then i.shape i.code (sits own bottom) (Install (arrive_then b)))) t) (sym (word_is v e))
        (given_law (doing_of (stands_then i.shape i.code (sits own bottom) (Install (arrive_then b))))
        (stand_any own bottom b 3 m4 (Now (Install (arrive_then b)))
        (to_outcome (Branch d r) size_of tt m4 (ap link_of frame4.link ∙ linked) b 1 (Now (Install (arrive_then b)))
        (subst (λ (w : Row). Reach i m4 (seat b) 1 w (Now (Install (arrive_then b)))) (sym (turns m4 (ap finish_of frame4.outcome ∙ e) b))
        (write_here m (BlockWord x) o ∙ sym (word_is v e), refl)))))

    given_rows : (v : Finish) → finish_of o ≡ Some v → ((z : Cell → ℕ) → finish_of (z (BlockWord (f + 1))) ≡ Some v → (b : ℕ) → outcome_row b (Branch d r) (finish_of (z (BlockWord (f + 1)))) ≡ given_row b v)
        → (b a : ℕ) (rest : Row) → Reach i m (seat b) a (unwound (seat b) f (Branch d r) v) rest → RowLaw rest
    given_rows v e turns b a rest q = store_rows b a (BlockWord x) (AFinish v) (arrive_then b) rest
        (given_store v e turns b, cell_of x (λ z. let sum = counted i fair root input s t law p oc low x has_over.is in omega (arith, z, sum, one))) (λ stored ends. arrive_law (stored ∙ word_is v e))
        (subst (λ (w : Row). Reach i m (seat b) a w rest) (row_is b v) q)

    ended_branch : finish_of o ≡ Some EndedSo → (b a : ℕ) (rest : Row) → Reach i m (seat b) a (unwound (seat b) f (Branch d r) EndedSo) rest → RowLaw rest
    ended_branch e = given_rows EndedSo e (λ z d_ b. ap (λ (v : Option Finish). outcome_row b (Branch d r) v) d_ ∙ row_is b EndedSo)

    trapped_branch : (trap : Trap) (line : ℕ) → finish_of o ≡ Some (TrappedBy trap line) → (b a : ℕ) (rest : Row) → Reach i m (seat b) a (unwound (seat b) f (Branch d r) (TrappedBy trap line)) rest → RowLaw rest
    trapped_branch trap line e = given_rows (TrappedBy trap line) e (λ z d_ b. ap (λ (v : Option Finish). outcome_row b (Branch d r) v) d_ ∙ row_is b (TrappedBy trap line))

  -- a callee has a caller
  called : (g y : ℕ) → oh ≡ Called g y → CalledFrom Root oc g y
  called g y e = elim (called_from Root oc g y e) [ inl k ↦ absurd (let d = k.0 in cc) | inr from ↦ from ]

  -- a row by its outcome
  by_outcome : (v : Option Finish) (k : LinkKind) (x : ℕ) → link_of (m (BlockWord f)) ≡ Some (record { kind = k; size = x }) → finish_of o ≡ v
      → (b a : ℕ) (rest : Row) → Reach i m (seat b) a (outcome_row b k v) rest → RowLaw rest
  by_outcome None k x e d b a rest q = broken_rows b a rest q
  by_outcome (Some Unset) k x e d b a rest q = broken_rows b a rest q
  by_outcome (Some (OutOfTurns w)) k x e d b a rest q = broken_rows b a rest q
  by_outcome (Some (OutOfRoom w)) k x e d b a rest q = broken_rows b a rest q
  by_outcome (Some Stopped) k x e d b a rest q = broken_rows b a rest q
  by_outcome (Some (BrokenAt w)) k x e d b a rest q = broken_rows b a rest q
  by_outcome (Some EndedSo) Root x e d b a rest q = root_rows (hook_is Root x e) EndedSo d b a rest q
  by_outcome (Some EndedSo) (Called g y) x e d b a rest q = ended_rows g y x e (called g y (hook_is (Called g y) x e)) d b a rest q
  by_outcome (Some EndedSo) (Branch s_ r) x e d b a rest q = ended_branch r s_ x e d b a rest q
  by_outcome (Some EndedSo) (Forked g y) x e d b a rest q = broken_rows b a rest q
  by_outcome (Some (TrappedBy trap line)) Root x e d b a rest q = root_rows (hook_is Root x e) (TrappedBy trap line) d b a rest q
  by_outcome (Some (TrappedBy trap line)) (Called g y) x e d b a rest q = trap_rows g y x e (called g y (hook_is (Called g y) x e)) trap line d b a rest q
  by_outcome (Some (TrappedBy trap line)) (Branch s_ r) x e d b a rest q = trapped_branch r s_ x e trap line d b a rest q
  by_outcome (Some (TrappedBy trap line)) (Forked g y) x e d b a rest q = broken_rows b a rest q

  -- by its link
  by_kind : (k : LinkKind) (x : ℕ) → link_of (m (BlockWord f)) ≡ Some (record { kind = k; size = x }) → (b a : ℕ) (rest : Row) → Reach i m (seat b) a (unwind_by f k) rest → RowLaw rest
  by_kind (Forked g y) x e b a rest q = broken_rows b a rest q
  by_kind Root x e b zero rest q = subst RowLaw q (outcome_load Root x tt e)
  by_kind Root x e b (suc a) rest q = by_outcome (finish_of o) Root x e refl b a rest q
  by_kind (Called g y) x e b zero rest q = subst RowLaw q (outcome_load (Called g y) x tt e)
  by_kind (Called g y) x e b (suc a) rest q = by_outcome (finish_of o) (Called g y) x e refl b a rest q
  by_kind (Branch d r) x e b zero rest q = subst RowLaw q (outcome_load (Branch d r) x tt e)
  by_kind (Branch d r) x e b (suc a) rest q = by_outcome (finish_of o) (Branch d r) x e refl b a rest q

  by_link : (v : Option Link) → link_of (m (BlockWord f)) ≡ v → (b a : ℕ) (rest : Row) → Reach i m (seat b) a (link_row v) rest → RowLaw rest
  by_link None e b a rest q = broken_rows b a rest q
  by_link (Some link) e b a rest q = by_kind link.kind link.size e b a rest q

  row_law : (b a : ℕ) (rest : Row) → Reach i m (seat b) a (row b) rest → RowLaw rest
  row_law b zero rest q = subst RowLaw q link_load
  row_law b (suc a) rest q = by_link (link_of (m (BlockWord f))) refl b a rest q

  under_of : (rest : Row) → s.doing p ≡ InRow rest → RowLaw rest
  under_of rest e = let a : Under i m p (Unwind f) rest = subst₂ (λ (q : RestartKind) (d : Doing). Does i m p q d) ke e (law.does p) in row_law a.0 a.1 rest a.2

  installed_law : (next : Then) → RowLaw (Now next) → Ends next → Law (installs s p (kind_then next)) (by_unwind p (kind_then next) t)
  installed_law (Install r) a ends = a ends
  installed_law (Fork r) a ends = a ends
  installed_law (Begin r w b) a ends = a ends
  installed_law (Load x) a ends = absurd ends
  installed_law (Move x) a ends = absurd ends
  installed_law (Enter x) a ends = absurd ends
  installed_law Again a ends = absurd ends
  installed_law Broken a ends = absurd ends

  -- it exchanges the finish word alone
  pub exchange_is : (cell : Cell) (old new : Content) (next : Then) → s.doing p ≡ InRow (Exchange cell old new next) → cell ≡ FinishWord
  exchange_is cell old new next e = (under_of (Exchange cell old new next) e).1

  pub unwind_keeps : UnwindKeeps i root input s t p f
  unwind_keeps = record {
    begins = λ own bottom. going i fair root input s t law p (ap is_taker ke) (InRow (Now (Load (UnwindLink f)))) (subst (λ (k : RestartKind). Under i m p k (Now (Load (UnwindLink f)))) (sym ke) (bottom, 0, refl));
    loads = λ own bottom victim point e. under_of (Now (Load point)) e own bottom victim;
    stores = λ own bottom found cell content next e. (under_of (Store cell content next) e).0 own bottom;
    cells = λ cell content next e. (under_of (Store cell content next) e).1;
    exchanges = λ own bottom found cell old new next e. (under_of (Exchange cell old new next) e).0 own bottom;
    exchange_cells = λ cell old new next e. subst (λ (x : Cell). is_cell i.shape x ≡ true) (sym (exchange_is cell old new next e)) refl;
    installs = λ next e ends. installed_law next (under_of (Now next) e) ends;
    faults = going i fair root input s t law p (ap is_taker ke) Resting tt;
  }

pub unwind_row_keeps : UnwindRowKeeps
unwind_row_keeps i fair root input s t law p there f ke = unwind_keeps i fair root input s t law p there (others_keep i fair root input s t law p) f ke
