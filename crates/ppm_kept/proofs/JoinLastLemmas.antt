-- A place in Join whose branch came last: what it stores into the frame that waits keeps the
-- invariant, and so does the install with which that frame goes on, or is over.
use Rattle.std.proofs.Common.{◌≡◌, ◌≢◌, ◌⊎◌, ◌≤◌, ◌<◌, ℕ, zero, suc, ◌+◌, ◌==◌, cond, true, false, inl, inr, refl, sym, ap, ap₂, ◌∙◌, subst, subst₂, arith, Some}
use Rattle.std.proofs.Math.Path.{fun_ext}
use Rattle.std.proofs.lemmas.Bool.{cases_Bool, cond-true, cond-false, eq-eqb, eqb-true}
use Rattle.ppm_words.specs.declared.trap.Trap.{Trap}
use Rattle.ppm_strands.specs.Tree.{Words, Tree}
use Rattle.ppm_strands.specs.Tree as tree
use Rattle.ppm_strands.specs.Run.{none}
use Rattle.ppm_strands.specs.Ahead.{Step}
use Rattle.ppm_strands.specs.Ahead as ahead
use Rattle.ppm_cells.specs.Finish.{finish_of, finish_word, IsFinish}
use Rattle.ppm_cells.proofs.ExactLemmas.{pack-unpack}
use Rattle.ppm_cells.proofs.FinishLemmas.{finishes_exact}
use Rattle.ppm_cells.specs.declared.cell.Cell.{Cell}
use Rattle.ppm_cells.specs.declared.cell.Cell.TheVariants.{FinishWord, RoomCounter, BlockWord, ArrayWord}
use Rattle.ppm_cells.specs.declared.finish.Finish.{Finish}
use Rattle.ppm_cells.specs.declared.finish.Finish.TheVariants.{Ended as EndedSo, Trapped as TrappedBy}
use Rattle.ppm_cells.specs.declared.link.LinkKind.{LinkKind}
use Rattle.ppm_cells.specs.declared.link.LinkKind.TheVariants.{Root, Branch, Fork as Forked}
use Rattle.ppm_cells.specs.declared.restart.RestartKind.{RestartKind}
use Rattle.ppm_cells.specs.declared.restart.RestartKind.TheVariants.{Run, Unwind, Join}
use Rattle.ppm_cells.specs.declared.side.Side.{Side}
use Rattle.ppm_cells.specs.declared.side.Side.TheVariants.{Left, Right}
use Rattle.ppm_strands.specs.Strand.{Frame}
use Rattle.ppm_code.specs.Strands.{Point, Result, Trapped, Gave}
use Rattle.ppm_code.specs.Sizes.{slot_at, value_at, slots_at}
use Rattle.ppm_code.specs.declared.location.FrameWord.{FrameWord}
use Rattle.ppm_code.specs.declared.location.FrameWord.TheVariants.{Slot, Value}
use Rattle.ppm_step.specs.Rows.{is_inline}
use Rattle.ppm_frames.specs.Laws.{Same, IsInSlot}
use Rattle.ppm_frames.specs.Views.{written as write, is_cell}
use Rattle.ppm_frames.specs.Seen.{own_at, arrays_at}
use Rattle.ppm_frames.specs.Skeletons.{Stand, Begins, Over, Arrives, Who, InPlace, Skeleton, Leaf, Calling, Forking, is_at, at, holds, joined, inside, count, named, target_at, header, frame_at, result_at, result_by, tree_at, Around, Top, AtCall, AtLeft, AtRight, plug, hook_at, at_rim}
use Rattle.ppm_frames.specs.Good.{ended, link_at, IsGiven, IsSized, Match, Forks, Good}
use Rattle.ppm_frames.proofs.WriteLemmas.{write_here, write_else, pool_apart}
use Rattle.ppm_frames.proofs.SeenLemmas.{choice}
use Rattle.ppm_frames.proofs.SkeletonLemmas.{SameFrame, same_frame, same_at, result_same, frame_path, inside_at, holds_at}
use Rattle.ppm_frames.proofs.SwapLemmas.{sub, good_same, good_here}
use Rattle.ppm_kept.specs.Running.{IsFair, strands}
use Rattle.ppm_kept.specs.Branches.{HasCopy, Unpushed, is_taker}
use Rattle.ppm_kept.specs.Kept.{Setting, owner, side_code, Doing, Resting, State, put, Blank, HasTaken, ceiling, Free, Does, Ordered, carried, IsKept}
use Rattle.ppm_kept.specs.Moves.{installs}
use Rattle.ppm_kept.specs.Others.{Mine, Keeps}
use Rattle.ppm_kept.specs.JoinValues.{BranchesStay, BranchValuesPass}
use Rattle.ppm_kept.proofs.PutLemmas.{put_here, put_else}
use Rattle.ppm_kept.proofs.BlockLemmas.{finish_back}
use Rattle.ppm_kept.proofs.EndingLemmas.{not_ended}
use Rattle.ppm_kept.proofs.BranchLemmas.{same_part, barren, come_fork}
use Rattle.ppm_kept.proofs.BuildLemmas.{Turn, allows_none, build}
use Rattle.ppm_kept.proofs.CopyLemmas.{hooked_low}
use Rattle.ppm_kept.proofs.PlaceLemmas.{kept_same, counted, not_free, mine_around, is_at_own, is_at_other}
use Rattle.ppm_kept.proofs.TurnLemmas.{pool_cell}
use Rattle.ppm_kept.proofs.JoiningLemmas.{Joining, joint, first_who, second_who, joining, at_joint}
use Rattle.ppm_kept.proofs.JoinValueLemmas.{all_branch_values_pass}
use Rattle.ppm_kept.proofs.UnwindRow.{header_not, header_not_one}

joined_else : (p : ℕ) (k : ℕ → Stand) (t : Skeleton) → at p t ≡ 0 → joined p k t ≡ t
joined_else p k (Leaf w st f n) z = refl
joined_else p k (Calling f n y t) z = ap (λ (s : Skeleton). Calling f n y s) (joined_else p k t z)
joined_else p k (Forking f n y r a b) z = cond-false (holds p a) _ _ (holds_at p a (omega (arith, z))) ∙ cond-false (holds p b) _ _ (holds_at p b (omega (arith, z)))
    ∙ ap₂ (λ (s t : Skeleton). Forking f n y r s t) (joined_else p k a (omega (arith, z))) (joined_else p k b (omega (arith, z)))

pub joined_plug : (m : Cell → ℕ) (p : ℕ) (o : Who) → ((q : ℕ) → is_at q o ≡ 0) → (k : ℕ → Stand) (r : ℕ) (d : Side) (g l y na nb : ℕ) (c : Around) → at_rim p c ≡ 0 → joined p k (plug c (joint m p o r d g l y na nb)) ≡ plug c (Leaf (InPlace p) (k y) g l)
joined_plug m p o nobody k r d g l y na nb c z = by c z
  where
    here : (d : Side) → joined p k (joint m p o r d g l y na nb) ≡ Leaf (InPlace p) (k y) g l
    here Left = cond-true (p == p) _ _ (eq-eqb p p refl)
    here Right = cond-false (holds p (Leaf o Arrives (r + 5) na)) _ _ (holds_at p (Leaf o Arrives (r + 5) na) (nobody p)) ∙ cond-true (p == p) _ _ (eq-eqb p p refl)

    no_leaf : (c : Around) → holds p (plug c (joint m p o r d g l y na nb)) ≡ false
    no_leaf Top = refl
    no_leaf (AtCall _ _ _ c) = refl
    no_leaf (AtLeft _ _ _ _ c b) = refl
    no_leaf (AtRight _ _ _ _ a c) = refl

    by : (c : Around) → at_rim p c ≡ 0 → joined p k (plug c (joint m p o r d g l y na nb)) ≡ plug c (Leaf (InPlace p) (k y) g l)
    by Top z = here d
    by (AtCall f n w c) z = ap (λ (s : Skeleton). Calling f n w s) (by c z)
    by (AtLeft f n w q c b) z = cond-false (holds p (plug c (joint m p o r d g l y na nb))) _ _ (no_leaf c) ∙ cond-false (holds p b) _ _ (holds_at p b (omega (arith, z)))
        ∙ ap₂ (λ (s t : Skeleton). Forking f n w q s t) (by c (omega (arith, z))) (joined_else p k b (omega (arith, z)))
    by (AtRight f n w q a c) z = cond-false (holds p a) _ _ (holds_at p a (omega (arith, z))) ∙ cond-false (holds p (plug c (joint m p o r d g l y na nb))) _ _ (no_leaf c)
        ∙ ap₂ (λ (s t : Skeleton). Forking f n w q s t) (joined_else p k a (omega (arith, z))) (by c (omega (arith, z)))

-- the words of its fork that the row of the last branch reads
pub record LastStays (m n : Cell → ℕ) (r f : ℕ) : Type 0 where
  pub link : n (BlockWord r) ≡ m (BlockWord r)
  pub order : n (BlockWord (r + 1)) ≡ m (BlockWord (r + 1))
  pub offset : n (BlockWord (r + 4)) ≡ m (BlockWord (r + 4))
  pub branches : BranchesStay m n r f

pub last_same : (m : Cell → ℕ) (r f : ℕ) → LastStays m m r f
last_same m r f = record {
  link = refl;
  order = refl;
  offset = refl;
  branches = record { left = refl; right = refl; left_value = refl; right_value = refl; left_target = refl; right_target = refl };
}

-- the left branch trapped, or it ended and the right one trapped
abbrev pub Traps : (Cell → ℕ) → ℕ → Trap → ℕ → Type 0
Traps m r trap line = (finish_of (m (BlockWord (r + 2))) ≡ Some (TrappedBy trap line))
    ⊎ ((finish_of (m (BlockWord (r + 2))) ≡ Some EndedSo) × (finish_of (m (BlockWord (r + 3))) ≡ Some (TrappedBy trap line)))

word_is : (x : ℕ) (v : Finish) → finish_of x ≡ Some v → finish_word v ≡ x
word_is x v e = pack-unpack finish_word IsFinish finish_of finishes_exact x v e

module _ (i : Setting) (fair : IsFair i.code) (root : Tree (Frame FrameWord Point) Result) (input : Words) (s : State) (t : Skeleton) (law : IsKept i root input s t) (p : ℕ)
    (there : p < i.shape.processors) (keeps : Keeps i s t p) (r : ℕ) (d : Side) (ke : s.kind p ≡ Join r d)
    (late : (s.words (BlockWord (r + 1)) == side_code d) ≡ false) (beyond : is_inline (s.words (BlockWord (r + 1))) d ≡ false) where
  abbrev m : Cell → ℕ
  m = s.words

  roof : ceiling i m p (s.kind p) ≡ m (RoomCounter p)
  roof = ap (ceiling i m p) ke

  blank : Blank i m p (m (RoomCounter p))
  blank = subst (Free i m p) ke (law.free p)

  ordered : Ordered i s t m (Join r d)
  ordered = subst (Ordered i s t m) ke (law.orders p)

  abbrev pub part : Joining s t p r d
  part = joining i fair root input s t law p r d ke late beyond

  abbrev c : Around
  c = part.around

  abbrev g : ℕ
  g = part.frame

  abbrev l : ℕ
  l = part.slots

  abbrev y : ℕ
  y = part.copy

  abbrev f : ℕ
  f = r + m (BlockWord (r + 4))

  abbrev lw : Skeleton
  lw = Leaf (first_who p part.other d) Arrives (r + 5) part.left_slots

  abbrev rw : Skeleton
  rw = Leaf (second_who p part.other d) Arrives f part.right_slots

  abbrev u : Skeleton
  u = Forking g l y r lw rw

  abbrev h : LinkKind
  h = hook_at Root c

  abbrev oa : ℕ
  oa = m (BlockWord (r + 2))

  abbrev ob : ℕ
  ob = m (BlockWord (r + 3))

  is : t ≡ plug c u
  is = part.is

  here_one : at p u ≡ 1
  here_one = at_joint i fair root input s t law p r d m part.other part.nobody g l y part.left_slots part.right_slots

  one_here : 1 ≤ at p u
  one_here = let e = here_one in omega (arith, e)

  only : (q : ℕ) → q ≢ p → at q u ≡ 0
  only q ne = by d
    where
      by : (e : Side) → at q (joint m p part.other r e g l y part.left_slots part.right_slots) ≡ 0
      by Left = let a = is_at_other p q ne in let b = part.nobody q in omega (arith, a, b)
      by Right = let a = is_at_other p q ne in let b = part.nobody q in omega (arith, a, b)

  good_u : Good i.code m s.kind h u
  good_u = good_here i.code m s.kind Root c u (subst (Good i.code m s.kind Root) is law.good)

  abbrev forks : Forks i.code m h g l y r lw rw
  forks = good_u.0

  -- what the row reads of the fork
  pub hook_is : (link_at (m (BlockWord r))).kind ≡ Forked g y
  hook_is = forks.hook

  pub left_low : m (BlockWord (r + 5 + 5)) ≤ l
  left_low = forks.left_target

  pub right_low : m (BlockWord (f + 5)) ≤ l
  right_low = forks.right_target

  -- the words of the fork but for the frame
  abbrev below : ℕ → ℕ
  below x = inside r 1 x + (inside (r + 1) 1 x + (inside (r + 4) 1 x + (count (Branch Left r) lw x + count (Branch Right r) rw x)))

  none_below : (x : ℕ) → 1 ≤ inside g (6 + l) x → below x ≡ 0
  none_below x one = let a = law.apart x in let sum = counted i fair root input s t law p c u x is in omega (arith, a, sum, one)

  -- a word of the frame that waits is a cell of the frames
  pub frame_cell : (a : ℕ) → a < 6 + l → is_cell i.shape (BlockWord (g + a)) ≡ true
  frame_cell a bound =
      let some : count Root t (g + a) ≡ 0 → ⊥ = λ e. (let one = inside_at g (6 + l) (g + a) a refl bound in let sum = counted i fair root input s t law p c u (g + a) is in omega (arith, e, sum, one)) in
      let b = law.below (g + a) some in
      pool_cell i (g + a) (law.there (g + a) some) b.0 (let under = b.1 in let top_ = (law.rooms (owner i (g + a))).1 in omega (arith, under, top_))

  -- a store into the frame that waits
  module _ (a w : ℕ) (bound : a < 6 + l) (above : (6 ≤ a) ⊎ (a ≡ 1)) where
    abbrev m' : Cell → ℕ
    m' = write m (BlockWord (g + a)) w

    in_frame : 1 ≤ inside g (6 + l) (g + a)
    in_frame = inside_at g (6 + l) (g + a) a refl bound

    pub stays : (b : ℕ) → b ≢ a → m' (BlockWord (g + b)) ≡ m (BlockWord (g + b))
    stays b ne = write_else m (BlockWord (g + a)) w (BlockWord (g + b)) (pool_apart (g + b) (g + a) (λ e. ne (omega (arith, e))))

    link_stays : m' (BlockWord g) ≡ m (BlockWord g)
    link_stays = subst (λ (b : ℕ). m' (BlockWord b) ≡ m (BlockWord b)) {x = g + 0} (omega arith) (stays 0 (λ e. elim above [ inl le ↦ omega (arith, e, le) | inr one ↦ omega (arith, e, one) ]))

    target_stays : m' (BlockWord (g + 5)) ≡ m (BlockWord (g + 5))
    target_stays = stays 5 (λ e. elim above [ inl le ↦ omega (arith, e, le) | inr one ↦ omega (arith, e, one) ])

    header_is : m' (BlockWord (header g y)) ≡ m (BlockWord (header g y))
    header_is = write_else m (BlockWord (g + a)) w (BlockWord (header g y)) (pool_apart (header g y) (g + a) (elim above [
      | inl le ↦ header_not g y a (omega (arith, le))
      | inr e ↦ λ k. header_not_one g y (k ∙ ap (λ (b : ℕ). g + b) e)
    ]))

    below_same : Same below m m'
    below_same x some = write_else m (BlockWord (g + a)) w (BlockWord x) (pool_apart x (g + a) (λ e. some (ap below e ∙ none_below (g + a) in_frame)))

    left_frame : SameFrame m m' (r + 5) part.left_slots
    left_frame = same_frame m m' below (r + 5) part.left_slots (λ x. omega arith) below_same

    right_frame : SameFrame m m' f part.right_slots
    right_frame = same_frame m m' below f part.right_slots (λ x. omega arith) below_same

    block_same : (x : ℕ) → 1 ≤ below x → m' (BlockWord x) ≡ m (BlockWord x)
    block_same x one = same_at below m m' below_same x one

    pub words_stay : LastStays m m' r f
    words_stay = record {
      link = block_same r (let one = inside_at r 1 r 0 (omega arith) (omega arith) in omega (arith, one));
      order = block_same (r + 1) (let one = inside_at (r + 1) 1 (r + 1) 0 (omega arith) (omega arith) in omega (arith, one));
      offset = block_same (r + 4) (let one = inside_at (r + 4) 1 (r + 4) 0 (omega arith) (omega arith) in omega (arith, one));
      branches = record {
        left = block_same (r + 2) (let one = inside_at (r + 2) 1 (r + 2) 0 (omega arith) (omega arith) in omega (arith, one));
        right = block_same (r + 3) (let one = inside_at (r + 3) 1 (r + 3) 0 (omega arith) (omega arith) in omega (arith, one));
        left_value = left_frame.value;
        right_value = right_frame.value;
        left_target = left_frame.target;
        right_target = right_frame.target;
      };
    }

    room_is : m' (RoomCounter p) ≡ m (RoomCounter p)
    room_is = write_else m (BlockWord (g + a)) w (RoomCounter p) (λ e. cc)

    array_is : arrays_at m' ≡ arrays_at m
    array_is = fun_ext (λ x. write_else m (BlockWord (g + a)) w (ArrayWord x) (λ e. cc))

    mine : Mine i s p h u (BlockWord (g + a))
    mine = let one = in_frame in inl (omega (arith, one))

    module _ (step : Step (strands i.shape i.code) none (tree_at m h u) (arrays_at m) (tree_at m' h u) (arrays_at m) ⊎ (tree_at m' h u ≡ tree_at m h u))
        (outcome : IsGiven i.code m' g (cond (oa == ended) ob oa)) (x : Doing) (does_so : Does i m' p (Join r d) x) where
      abbrev z : State
      z = record { words = m'; kind = s.kind; doing = put s.doing p x }

      store_turn : Turn i s t p z c u u (Join r d) x
      store_turn = record {
        is = is;
        alone = part.alone;
        there = there;
        kind = ke;
        kinds = λ q ne. refl;
        doing = put_here s.doing p x;
        doings = λ q ne. put_else s.doing p x q ne;
        around = mine_around i fair root input s t law p c u (BlockWord (g + a)) w is mine;
        step = elim step [
          | inl st ↦ inl (none, subst (λ (b : Words). Step (strands i.shape i.code) none (tree_at m h u) (arrays_at m) (tree_at m' h u) b) (sym array_is) st, allows_none i)
          | inr same ↦ inr (same, array_is)
        ];
        swap = record { aim = record { head = refl; aim = target_stays }; order = refl; gives = inl (refl, refl) };
        good = (
          record {
            framed = ap link_at link_stays ∙ forks.framed;
            size = ap (slots_at i.code) header_is ∙ forks.size;
            outcome = subst₂ (λ (b e : ℕ). IsGiven i.code m' g (cond (b == ended) e b)) (sym words_stay.branches.left) (sym words_stay.branches.right) outcome;
            hook = ap (λ (b : ℕ). (link_at b).kind) words_stay.link ∙ forks.hook;
            order = words_stay.order ∙ forks.order;
            left = forks.left;
            right = ap (λ (b : ℕ). r + b) (sym words_stay.offset);
            left_target = subst (λ (b : ℕ). b ≤ l) (sym left_frame.target) forks.left_target;
            right_target = subst (λ (b : ℕ). b ≤ l) (sym right_frame.target) forks.right_target;
          },
          good_same m m' i.code s.kind s.kind (Branch Left r) lw (sub m m' below (count (Branch Left r) lw) (λ x. omega arith) below_same) (λ q ne. refl) good_u.1,
          good_same m m' i.code s.kind s.kind (Branch Right r) rw (sub m m' below (count (Branch Right r) rw) (λ x. omega arith) below_same) (λ q ne. refl) good_u.2,
        );
        adds = λ x. inl (omega arith, omega arith);
        grows = omega (arith, roof, room_is);
        pays = omega (arith, roof, room_is);
        bound = let b = (law.rooms p).1 in omega (arith, b, roof, room_is);
        places = here_one ∙ sym (cond-false {A = ℕ} (m' (BlockWord (r + 1)) == side_code d) 0 1 (ap (λ (b : ℕ). b == side_code d) words_stay.order ∙ late));
        placed = λ q ne. refl;
        free = λ b lt. ap (λ (x : ℕ). m' (BlockWord (x + b))) room_is ∙ write_else m (BlockWord (g + a)) w (BlockWord (m (RoomCounter p) + b)) (pool_apart (m (RoomCounter p) + b) (g + a) (λ e.
            not_free i fair root input s t law p c u (m (RoomCounter p) + b) b is (subst (λ (x : ℕ). 1 ≤ count h u x) (sym e) (let one = in_frame in omega (arith, one))) (let k = roof in omega (arith, k)) (omega (arith, lt, room_is))))
            ∙ blank b (omega (arith, lt, room_is));
        does = does_so;
        orders = (ordered.0, λ e. ordered.1 (sym words_stay.order ∙ e));
        others = keeps c u (BlockWord (g + a)) w is part.alone only one_here (inl mine);
        unrun = same_part tt tt refl;
        finishes = not_ended m m' t c u u is (write_else m (BlockWord (g + a)) w FinishWord (λ e. cc)) refl;
      }

      stored : IsKept i root input z t
      stored = subst (IsKept i root input z) (sym is) (build i fair root input s t law p z c u u (Join r d) x store_turn)

  -- the install with which that frame goes on, or is over
  module _ (k : RestartKind) (back_to : ℕ → Stand) (step : Step (strands i.shape i.code) none (tree_at m h u) (arrays_at m) (tree_at m h (Leaf (InPlace p) (back_to y) g l)) (arrays_at m))
      (sized : IsSized i.code m (back_to y) g l) (match : Match i.code m k h (back_to y) g) (top_is : ceiling i m p k ≡ m (RoomCounter p)) (one : carried m k ≡ 1) (frees : Free i m p k) (plain_kind : Ordered i s t m k)
      (copy : HasCopy k) (own_pushed : Unpushed p (plug c (Leaf (InPlace p) (back_to y) g l)) k) (no_taker : is_taker k ≡ false) where
    abbrev v : Skeleton
    v = Leaf (InPlace p) (back_to y) g l

    install_turn : Turn i s t p (installs s p k) c u v k Resting
    install_turn = record {
      is = is;
      alone = part.alone;
      there = there;
      kind = put_here s.kind p k;
      kinds = λ q ne. put_else s.kind p k q ne;
      doing = put_here s.doing p Resting;
      doings = λ q ne. put_else s.doing p Resting q ne;
      around = λ x ne. refl;
      step = inl (none, step, allows_none i);
      swap = record { aim = record { head = refl; aim = refl }; order = refl; gives = inl (refl, refl) };
      good = (forks.framed, sized, subst (λ (q : RestartKind). Match i.code m q h (back_to y) g) (sym (put_here s.kind p k)) match);
      adds = λ x. inl (omega arith, omega arith);
      grows = omega (arith, roof, top_is);
      pays = omega (arith, roof, top_is);
      bound = let b = (law.rooms p).1 in omega (arith, b, roof, top_is);
      places = is_at_own p ∙ sym one;
      placed = λ q ne. is_at_other p q ne ∙ sym (only q ne);
      free = frees;
      does = tt;
      orders = plain_kind;
      others = λ q ne. kept_same i fair root input s t law p q;
      unrun = barren (come_fork i.code m s.kind g l y r (first_who p part.other d) (second_who p part.other d) (r + 5) part.left_slots f part.right_slots good_u.2) copy (λ most. own_pushed) (λ q z ne. tt) no_taker;
      finishes = not_ended m m t c u v is refl refl;
    }

    frame_goes_on : IsKept i root input (installs s p k) (joined p back_to t)
    frame_goes_on = subst (IsKept i root input (installs s p k))
        (sym (ap (joined p back_to) is ∙ joined_plug m p part.other part.nobody back_to r d g l y part.left_slots part.right_slots c part.alone))
        (build i fair root input s t law p (installs s p k) c u v k Resting install_turn)

  -- a trap goes into the outcome of the frame that waits, which is over then
  module _ (trap : Trap) (line : ℕ) (traps : Traps m r trap line) where
    abbrev trap_word : ℕ
    trap_word = finish_word (TrappedBy trap line)

    not_ended_word : finish_of oa ≡ Some (TrappedBy trap line) → (oa == ended) ≡ false
    not_ended_word e = elim (cases_Bool (oa == ended)) [
      | inl k ↦ absurd (let z : Some EndedSo ≡ Some (TrappedBy trap line) = sym (finish_back EndedSo tt) ∙ sym (ap finish_of (eqb-true oa ended k)) ∙ e in cc)
      | inr k ↦ k
    ]

    both_is : cond (oa == ended) ob oa ≡ trap_word
    both_is = elim traps [
      | inl e ↦ cond-false (oa == ended) ob oa (not_ended_word e) ∙ sym (word_is oa (TrappedBy trap line) e)
      | inr e ↦ cond-true (oa == ended) ob oa (eq-eqb oa ended (sym (word_is oa EndedSo e.0))) ∙ sym (word_is ob (TrappedBy trap line) e.1)
    ]

    trap_word_is : finish_of trap_word ≡ Some (TrappedBy trap line)
    trap_word_is = elim traps [
      | inl e ↦ ap finish_of (word_is oa (TrappedBy trap line) e) ∙ e
      | inr e ↦ ap finish_of (word_is ob (TrappedBy trap line) e.1) ∙ e.1
    ]

    abbrev m1 : Cell → ℕ
    m1 = write m (BlockWord (g + 1)) trap_word

    low_one : 1 < 6 + l
    low_one = omega arith

    stays1 : (b : ℕ) → b ≢ 1 → m1 (BlockWord (g + b)) ≡ m (BlockWord (g + b))
    stays1 = stays 1 trap_word low_one (inr refl)

    left1 : SameFrame m m1 (r + 5) part.left_slots
    left1 = left_frame 1 trap_word low_one (inr refl)

    right1 : SameFrame m m1 f part.right_slots
    right1 = right_frame 1 trap_word low_one (inr refl)

    pub trap_stays : LastStays m m1 r f
    trap_stays = words_stay 1 trap_word low_one (inr refl)

    own_stays : own_at m1 g l ≡ own_at m g l
    own_stays = fun_ext by
      where
        by : (a : FrameWord) → own_at m1 g l a ≡ own_at m g l a
        by (Slot j) = choice j l _ _ (λ lt. stays1 (slot_at j) (λ e. omega (arith, e)))
        by Value = stays1 value_at (λ e. omega (arith, e))

    frame_stays : frame_at m1 g l y (target_at m1 (r + 5)) (target_at m1 f) ≡ frame_at m g l y (target_at m (r + 5)) (target_at m f)
    frame_stays = frame_path m m1 own_stays (header_is 1 trap_word low_one (inr refl)) (ap named left1.target) (ap named right1.target)

    tree_stays : tree_at m1 h u ≡ tree_at m h u
    tree_stays = ap₂ (λ (x z : Result). tree.Fork (frame_at m1 g l y (target_at m1 (r + 5)) (target_at m1 f)) (tree.Over x) (tree.Over z))
        (result_same m m1 (r + 5) part.left_slots oa (m1 (BlockWord (r + 2))) left1 trap_stays.branches.left)
        (result_same m m1 f part.right_slots ob (m1 (BlockWord (r + 3))) right1 trap_stays.branches.right)
        ∙ ap (λ (e : Frame FrameWord Point). tree.Fork e (tree.Over (result_at m (r + 5) oa)) (tree.Over (result_at m f ob))) frame_stays

    pub trap_stored : (x : Doing) → Does i m1 p (Join r d) x → IsKept i root input (record { words = m1; kind = s.kind; doing = put s.doing p x }) t
    trap_stored x does_so = stored 1 trap_word low_one (inr refl) (inr tree_stays) (inr (write_here m (BlockWord (g + 1)) trap_word ∙ sym both_is)) x does_so

    abbrev gf : Frame FrameWord Point
    gf = frame_at m g l y (target_at m (r + 5)) (target_at m f)

    trap_step : Step (strands i.shape i.code) none (tree_at m h u) (arrays_at m) (tree.Over (Trapped trap line)) (arrays_at m)
    trap_step = elim traps [
      | inl e ↦ subst (λ (a : Result). Step (strands i.shape i.code) none (tree.Fork gf (tree.Over a) (tree.Over (result_at m f ob))) (arrays_at m) (tree.Over (Trapped trap line)) (arrays_at m))
          (sym (ap (result_by (m (BlockWord (r + 5 + value_at)))) e)) (ahead.Join gf (Trapped trap line) (result_at m f ob) (arrays_at m))
      | inr e ↦ subst₂ (λ (a b : Result). Step (strands i.shape i.code) none (tree.Fork gf (tree.Over a) (tree.Over b)) (arrays_at m) (tree.Over (Trapped trap line)) (arrays_at m))
          (sym (ap (result_by (m (BlockWord (r + 5 + value_at)))) e.0)) (sym (ap (result_by (m (BlockWord (f + value_at)))) e.1))
          (ahead.Join gf (Gave (m (BlockWord (r + 5 + value_at)))) (Trapped trap line) (arrays_at m))
    ]

    pub trap_installed : m (BlockWord (g + 1)) ≡ trap_word → IsKept i root input (installs s p (Unwind g)) (joined p (λ z. Over) t)
    trap_installed set = frame_goes_on (Unwind g) (λ z. Over)
        (subst (λ (a : Result). Step (strands i.shape i.code) none (tree_at m h u) (arrays_at m) (tree.Over a) (arrays_at m))
        (sym (ap (result_by (m (BlockWord (g + value_at)))) (ap finish_of set ∙ trap_word_is))) trap_step)
        tt refl refl refl blank tt tt tt refl

  -- both values pass, and the frame goes on
  module _ (left_ended : finish_of oa ≡ Some EndedSo) (right_ended : finish_of ob ≡ Some EndedSo) where
    passing : BranchValuesPass i.code i.shape.arrays m (first_who p part.other d) (second_who p part.other d) g l y r f part.left_slots part.right_slots h (arrays_at m)
    passing = all_branch_values_pass i.code i.shape.arrays m (first_who p part.other d) (second_who p part.other d) g l y r f part.left_slots part.right_slots h (arrays_at m) left_ended right_ended

    module _ (j w : ℕ) (low : j < l) where
      abbrev m2 : Cell → ℕ
      m2 = write m (BlockWord (g + (6 + j))) w

      low_slot : 6 + j < 6 + l
      low_slot = omega (arith, low)

      high_slot : (6 ≤ 6 + j) ⊎ (6 + j ≡ 1)
      high_slot = inl (omega arith)

      stays2 : (b : ℕ) → b ≢ 6 + j → m2 (BlockWord (g + b)) ≡ m (BlockWord (g + b))
      stays2 = stays (6 + j) w low_slot high_slot

      pub value_stays : LastStays m m2 r f
      value_stays = words_stay (6 + j) w low_slot high_slot

      pub slot_stays : (k : ℕ) → k ≢ j → m2 (BlockWord (g + slot_at k)) ≡ m (BlockWord (g + slot_at k))
      slot_stays k ne = stays2 (6 + k) (λ e. ne (omega (arith, e)))

      pub slot_gets : m2 (BlockWord (g + slot_at j)) ≡ w
      slot_gets = write_here m (BlockWord (g + (6 + j))) w

      pub value_stored : (target_at m (r + 5) ≡ Some j) ⊎ (target_at m f ≡ Some j)
          → (x : Doing) → Does i m2 p (Join r d) x → IsKept i root input (record { words = m2; kind = s.kind; doing = put s.doing p x }) t
      value_stored aims x does_so = stored (6 + j) w low_slot high_slot
          (inl (elim aims [ inl e ↦ passing.left j w e value_stays.branches | inr e ↦ passing.right j w e value_stays.branches ]))
          (elim forks.outcome [ inl e ↦ inl (stays2 1 (λ k. omega (arith, k)) ∙ e) | inr e ↦ inr (stays2 1 (λ k. omega (arith, k)) ∙ e) ]) x does_so

    in_slot : (n x : ℕ) → x ≤ l → HasTaken m g n (named x) → IsInSlot m n g l (named x)
    in_slot n zero le taken = tt
    in_slot n (suc j) le taken = (omega (arith, le), taken)

    both_ended : cond (oa == ended) ob oa ≡ ended
    both_ended = cond-true (oa == ended) ob oa (eq-eqb oa ended (sym (word_is oa EndedSo left_ended))) ∙ sym (word_is ob EndedSo right_ended)

    pub values_installed : HasTaken m g (r + 5) (target_at m (r + 5)) ⊎ (target_at m (r + 5) ≡ target_at m f) → HasTaken m g f (target_at m f)
        → IsKept i root input (installs s p (Run g y)) (joined p (λ z. Begins z) t)
    values_installed left right = frame_goes_on (Run g y) (λ z. Begins z)
        (passing.joins (elim left [ inl taken ↦ inl (in_slot (r + 5) (m (BlockWord (r + 5 + 5))) left_low taken) | inr e ↦ inr e ]) (in_slot f (m (BlockWord (f + 5))) right_low right))
        forks.size (refl, refl) refl refl
        (record { block = λ b lt out. blank b lt; outcome = inl (elim forks.outcome [ inl e ↦ e | inr e ↦ e ∙ both_ended ]) }) tt (hooked_low (m (BlockWord r)) g y hook_is) tt refl
