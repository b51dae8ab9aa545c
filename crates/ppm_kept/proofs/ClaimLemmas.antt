-- A store into the order word of a fork, which tells whose its branches' leaves are.
use Rattle.std.proofs.Common.{◌≡◌, ◌≢◌, ◌≤◌, ◌<◌, ℕ, ◌+◌, ◌==◌, cond, Bool, false, inl, inr, refl, sym, ap, ap₂, ◌∙◌, subst, subst₂, arith}
use Rattle.std.proofs.Math.Path.{fun_ext}
use Rattle.ppm_strands.specs.Tree.{Words, Tree}
use Rattle.ppm_strands.specs.Tree as tree
use Rattle.ppm_cells.specs.declared.cell.Cell.{Cell}
use Rattle.ppm_cells.specs.declared.cell.Cell.TheVariants.{FinishWord, RoomCounter, BlockWord, ArrayWord}
use Rattle.ppm_cells.specs.declared.link.LinkKind.{LinkKind}
use Rattle.ppm_cells.specs.declared.link.LinkKind.TheVariants.{Root, Branch}
use Rattle.ppm_cells.specs.declared.restart.RestartKind.{RestartKind}
use Rattle.ppm_cells.specs.declared.side.Side.TheVariants.{Left, Right}
use Rattle.ppm_strands.specs.Strand.{Frame}
use Rattle.ppm_code.specs.Strands.{Point, Result}
use Rattle.ppm_code.specs.declared.code.CodeParts.{CodeParts}
use Rattle.ppm_code.specs.declared.location.FrameWord.{FrameWord}
use Rattle.ppm_code.specs.Sizes.{slots_at}
use Rattle.ppm_frames.specs.Views.{written as write}
use Rattle.ppm_frames.specs.Laws.{Same}
use Rattle.ppm_frames.specs.Skeletons.{Stand, Begins, Over, Arrives, Who, InPlace, Fresh, Waiting, Held, Came, Inlined, Skeleton, Leaf, Calling, Forking, readied, is_at, top, named, target_at, frame_at, tree_at, inside, count, plain, at, Around, plug, hook_at, rim, at_rim}
use Rattle.ppm_frames.specs.Good.{ended, link_at, given, is_over, mark, given_both, order_of, Matches, Good, Forks}
use Rattle.ppm_frames.proofs.WriteLemmas.{write_here, write_else, pool_apart}
use Rattle.ppm_frames.proofs.SkeletonLemmas.{SameFrame, same_frame, frame_same, tree_same, inside_at}
use Rattle.ppm_frames.proofs.SwapLemmas.{swap_same, given_same, good_same, good_here}
use Rattle.ppm_kept.specs.Running.{IsFair}
use Rattle.ppm_kept.specs.Branches.{IsUntaken, Untaken, Unpushed, IsWaitingAt, Waits, is_taker, HasCopy}
use Rattle.ppm_kept.specs.Kept.{Setting, end_of, owner, Doing, State, put, Blank, ceiling, Free, Does, Head, Ordered, carried, IsKept}
use Rattle.ppm_kept.specs.Others.{KeptAt}
use Rattle.ppm_kept.proofs.PutLemmas.{put_here, put_else}
use Rattle.ppm_kept.proofs.OwnerLemmas.{owned}
use Rattle.ppm_kept.proofs.EndingLemmas.{not_ended}
use Rattle.ppm_kept.proofs.BranchLemmas.{Unrun, unpushed_less}
use Rattle.ppm_kept.proofs.BuildLemmas.{Turn, build}
use Rattle.ppm_kept.proofs.PlaceLemmas.{counted, is_at_other}

-- a part that differs in whose its leaf is
pub record Soft (i : CodeParts) (p : ℕ) (a b : Skeleton) : Type 0 where
  pub head : top b ≡ top a
  pub counts : (h : LinkKind) (x : ℕ) → count h b x ≡ count h a x
  pub plains : (h : LinkKind) (x : ℕ) → plain h b x ≡ plain h a x
  pub trees : (n : Cell → ℕ) (h : LinkKind) → tree_at n h b ≡ tree_at n h a
  pub gives : (n : Cell → ℕ) (h : LinkKind) → given n h b ≡ given n h a
  pub over : is_over b ≡ is_over a
  pub good : (n : Cell → ℕ) (k : ℕ → RestartKind) (h : LinkKind) → Good i n k h a → Good i n k h b
  pub others : (q : ℕ) → q ≢ p → at q b ≡ at q a
  pub less : at p b ≤ at p a
  pub untaken : (q r : ℕ) → Untaken q r a → Untaken q r b
  pub waiting : (f : ℕ) → IsWaitingAt f a → IsWaitingAt f b
  pub waits : (r f : ℕ) → Waits r f a → Waits r f b

pub soft_same : (i : CodeParts) (p : ℕ) (a : Skeleton) → Soft i p a a
soft_same i p a = record { head = refl; counts = λ h x. refl; plains = λ h x. refl; trees = λ n h. refl; gives = λ n h. refl; over = refl; good = λ n k h g. g; others = λ q ne. refl; less = omega arith; untaken = λ q r x. x; waiting = λ f x. x; waits = λ r f x. x }

pub soft_leaf : (i : CodeParts) (p f n : ℕ) → Soft i p (Leaf (InPlace p) Arrives f n) (Leaf Came Arrives f n)
soft_leaf i p f n = record {
  head = refl;
  counts = λ h x. refl;
  plains = λ h x. refl;
  trees = λ n h. refl;
  gives = λ n h. refl;
  over = refl;
  good = λ n k h g. (g.0, g.1, refl);
  others = λ q ne. sym (is_at_other p q ne);
  less = omega arith;
  untaken = λ q r x. tt;
  waiting = λ f x. x;
  waits = λ r f x. x;
}

pub soft_ready : (i : CodeParts) (p : ℕ) (w : Who) → ((m : Cell → ℕ) (k : ℕ → RestartKind) (h : LinkKind) (st : Stand) (f : ℕ) → Matches i m k h Fresh st f → Matches i m k h w st f) → ((q : ℕ) → is_at q w ≡ 0)
    → (b : Skeleton) → Soft i p b (readied w b)
soft_ready i p w to nobody (Leaf Fresh st f n) = record {
  head = refl;
  counts = λ h x. refl;
  plains = λ h x. refl;
  trees = λ n h. refl;
  gives = λ n' h. same st n' h;
  over = over st;
  good = λ n' k h g. (g.0, g.1, to n' k h st f g.2);
  others = λ q ne. nobody q;
  less = let e = nobody p in omega (arith, e);
  untaken = λ q r x. tt;
  waiting = λ f x. absurd x;
  waits = λ r f x. x;
}
  where
    same : (st : Stand) (m : Cell → ℕ) (h : LinkKind) → given m h (Leaf w st f n) ≡ given m h (Leaf Fresh st f n)
    same (Begins y) m h = refl
    same Over m h = refl
    same Arrives m h = refl

    over : (st : Stand) → is_over (Leaf w st f n) ≡ is_over (Leaf Fresh st f n)
    over (Begins y) = refl
    over Over = refl
    over Arrives = refl
soft_ready i p w to nobody (Leaf (InPlace q) st f n) = soft_same i p (Leaf (InPlace q) st f n)
soft_ready i p w to nobody (Leaf Waiting st f n) = soft_same i p (Leaf Waiting st f n)
soft_ready i p w to nobody (Leaf Held st f n) = soft_same i p (Leaf Held st f n)
soft_ready i p w to nobody (Leaf Came st f n) = soft_same i p (Leaf Came st f n)
soft_ready i p w to nobody (Leaf Inlined st f n) = soft_same i p (Leaf Inlined st f n)
soft_ready i p w to nobody (Calling f n y t) = soft_same i p (Calling f n y t)
soft_ready i p w to nobody (Forking f n y r a b) = soft_same i p (Forking f n y r a b)

-- w is stored in the order word
module _ (i : Setting) (fair : IsFair i.code) (root : Tree (Frame FrameWord Point) Result) (input : Words) (s : State) (t : Skeleton) (law : IsKept i root input s t) (p : ℕ)
    (there : p < i.shape.processors) (r w : ℕ) (k : RestartKind) (ke : s.kind p ≡ k) (head : Head i s t (r + 1))
    (roofs : (n : Cell → ℕ) → ceiling i n p k ≡ n (RoomCounter p)) (blank : Blank i s.words p (s.words (RoomCounter p))) (d : Doing) where
  abbrev m : Cell → ℕ
  m = s.words

  abbrev m' : Cell → ℕ
  m' = write m (BlockWord (r + 1)) w

  roof : ceiling i m p (s.kind p) ≡ m (RoomCounter p)
  roof = ap (ceiling i m p) ke ∙ roofs m

  room_is : m' (RoomCounter p) ≡ m (RoomCounter p)
  room_is = write_else m (BlockWord (r + 1)) w (RoomCounter p) (λ e. cc)

  not_free : (b : ℕ) → m (RoomCounter p) + b < end_of i p → m (RoomCounter p) + b ≢ r + 1
  not_free b lt e =
      let le = (law.rooms p).0 in
      let own : owner i (r + 1) ≡ p = owned i p (r + 1) (omega (arith, roof, le, e)) (omega (arith, lt, e)) in
      let lt' = subst (λ (q : ℕ). r + 1 < ceiling i m q (s.kind q)) own head.under in omega (arith, lt', e, roof)

  same_else : (k : ℕ → ℕ) → k (r + 1) ≡ 0 → Same k m m'
  same_else k none z some = write_else m (BlockWord (r + 1)) w (BlockWord z) (pool_apart z (r + 1) (λ e. some (ap k e ∙ none)))

  module _ (c : Around) (g l y : ℕ) (a b a' b' : Skeleton) (is : t ≡ plug c (Forking g l y r a b)) (alone : at_rim p c ≡ 0) (left : Soft i.code p a a') (right : Soft i.code p b b')
      (code_is : order_of (mark a') (mark b') ≡ w) (sums : at p a' + at p b' ≡ carried m' k) (others : (q : ℕ) → q ≢ p → KeptAt i s t m' q)
      (frees : Blank i m' p (m' (RoomCounter p)) → Free i m' p k) (does : Does i m' p k d) (ordered : Ordered i s t m' k)
      (marks : IsUntaken (mark b) → IsUntaken (mark b')) (none : is_taker k ≡ false) where
    abbrev u : Skeleton
    u = Forking g l y r a b

    abbrev v : Skeleton
    v = Forking g l y r a' b'

    abbrev h : LinkKind
    h = hook_at Root c

    abbrev z : State
    z = record { words = m'; kind = s.kind; doing = put s.doing p d }

    one : 1 ≤ inside (r + 1) 1 (r + 1)
    one = inside_at (r + 1) 1 (r + 1) 0 (omega arith) (omega arith)

    sum : count Root t (r + 1) ≡ rim Root c (r + 1) + count h u (r + 1)
    sum = counted i fair root input s t law p c u (r + 1) is

    most : count Root t (r + 1) ≤ 1
    most = law.apart (r + 1)

    left_same : Same (count (Branch Left r) a) m m'
    left_same = same_else (count (Branch Left r) a) (omega (arith, one, sum, most))

    right_same : Same (count (Branch Right r) b) m m'
    right_same = same_else (count (Branch Right r) b) (omega (arith, one, sum, most))

    upper : SameFrame m m' g l
    upper = same_frame m m' (inside g (6 + l)) g l (λ x. omega arith) (same_else (inside g (6 + l)) (omega (arith, one, sum, most)))

    good_u : Good i.code m s.kind h u
    good_u = good_here i.code m s.kind Root c u (subst (Good i.code m s.kind Root) is law.good)

    abbrev forks : Forks i.code m h g l y r a b
    forks = good_u.0

    stays : (x : ℕ) → x ≢ r + 1 → m' (BlockWord x) ≡ m (BlockWord x)
    stays x ne = write_else m (BlockWord (r + 1)) w (BlockWord x) (pool_apart x (r + 1) ne)

    left_given : given m' (Branch Left r) a' ≡ given m (Branch Left r) a
    left_given = left.gives m' (Branch Left r) ∙ given_same m m' (Branch Left r) a left_same

    right_given : given m' (Branch Right r) b' ≡ given m (Branch Right r) b
    right_given = right.gives m' (Branch Right r) ∙ given_same m m' (Branch Right r) b right_same

    both_same : given_both m' r a' b' ≡ given_both m r a b
    both_same =
        ap₂ (λ (x y : Bool). cond x (cond y (cond (given m' (Branch Left r) a' == ended) (given m' (Branch Right r) b') (given m' (Branch Left r) a')) ended) ended) left.over right.over
        ∙ ap₂ (λ (x y : ℕ). cond (is_over a) (cond (is_over b) (cond (x == ended) y x) ended) ended) left_given right_given

    left_aim : m' (BlockWord (top a' + 5)) ≡ m (BlockWord (top a + 5))
    left_aim = ap (λ (w : ℕ). m' (BlockWord (w + 5))) left.head ∙ (swap_same m m' (Branch Left r) a left_same).aim.aim

    right_aim : m' (BlockWord (top b' + 5)) ≡ m (BlockWord (top b + 5))
    right_aim = ap (λ (w : ℕ). m' (BlockWord (w + 5))) right.head ∙ (swap_same m m' (Branch Right r) b right_same).aim.aim

    forks_then : Forks i.code m' h g l y r a' b'
    forks_then = record {
      framed = ap link_at upper.link ∙ forks.framed;
      size = ap (slots_at i.code) (upper.header y) ∙ forks.size;
      outcome = elim forks.outcome [ inl e ↦ inl (upper.outcome ∙ e) | inr e ↦ inr (upper.outcome ∙ e ∙ sym both_same) ];
      hook = ap (λ (w : ℕ). (link_at w).kind) (stays r (λ e. omega (arith, e))) ∙ forks.hook;
      order = write_here m (BlockWord (r + 1)) w ∙ sym code_is;
      left = left.head ∙ forks.left;
      right = right.head ∙ forks.right ∙ ap (λ (w : ℕ). r + w) (sym (stays (r + 4) (λ e. omega (arith, e))));
      left_target = subst (λ (w : ℕ). w ≤ l) (sym left_aim) forks.left_target;
      right_target = subst (λ (w : ℕ). w ≤ l) (sym right_aim) forks.right_target;
    }

    both_untaken : (q n : ℕ) → at q a' ≤ at q a → Untaken q n u → Untaken q n v
    both_untaken q n less old = (λ is one. marks (old.0 is (omega (arith, one, less))), left.untaken q n old.1, right.untaken q n old.2)

    claim_unrun : Unrun s p c u v k d
    claim_unrun = record {
      copy = subst HasCopy ke (law.copies p);
      pushes = λ most. unpushed_less p k c u v (let e = left.less in let f = right.less in omega (arith, e, f)) refl (λ n. both_untaken p n left.less) (subst₂ (Unpushed p) is ke (law.untaken p));
      untaken = λ q n ne. both_untaken q n (let e = left.others q ne in omega (arith, e));
      waits = λ q n f x ne taker about. (
        λ e. e,
        λ e. elim e [ inl e ↦ inl (e.0, right.waiting f e.1) | inr e ↦ elim e [ inl e ↦ inr (inl (left.waits n f e)) | inr e ↦ inr (inr (right.waits n f e)) ] ],
      );
      aims = inl none;
    }

    claim_turn : Turn i s t p z c u v k d
    claim_turn = record {
      is = is;
      alone = alone;
      there = there;
      kind = ke;
      kinds = λ q ne. refl;
      doing = put_here s.doing p d;
      doings = λ q ne. put_else s.doing p d q ne;
      around = same_else (rim Root c) (omega (arith, one, sum, most));
      step = inr (
        ap₂ (λ (e : Frame FrameWord Point) (w : Tree (Frame FrameWord Point) Result). tree.Fork e w (tree_at m' (Branch Right r) b'))
            (frame_same m m' g l y (target_at m (top a)) (target_at m' (top a')) (target_at m (top b)) (target_at m' (top b')) upper (ap named left_aim) (ap named right_aim))
            (left.trees m' (Branch Left r) ∙ tree_same m m' (Branch Left r) a left_same)
            ∙ ap (λ (w : Tree (Frame FrameWord Point) Result). tree.Fork (frame_at m g l y (target_at m (top a)) (target_at m (top b))) (tree_at m (Branch Left r) a) w)
            (right.trees m' (Branch Right r) ∙ tree_same m m' (Branch Right r) b right_same),
        fun_ext (λ x. write_else m (BlockWord (r + 1)) w (ArrayWord x) (λ e. cc)),
      );
      swap = record { aim = record { head = refl; aim = upper.target }; order = refl; gives = inl (refl, refl) };
      good = (
        forks_then,
        left.good m' s.kind (Branch Left r) (good_same m m' i.code s.kind s.kind (Branch Left r) a left_same (λ q ne. refl) good_u.1),
        right.good m' s.kind (Branch Right r) (good_same m m' i.code s.kind s.kind (Branch Right r) b right_same (λ q ne. refl) good_u.2),
      );
      adds = λ x. inl (
        let e = left.counts (Branch Left r) x in let f = right.counts (Branch Right r) x in omega (arith, e, f),
        let e = left.plains (Branch Left r) x in let f = right.plains (Branch Right r) x in omega (arith, e, f),
      );
      grows = let e = roofs m' in omega (arith, roof, room_is, e);
      pays = let e = roofs m' in omega (arith, roof, room_is, e);
      bound = let b = (law.rooms p).1 in let e = roofs m' in omega (arith, b, roof, room_is, e);
      places = sums;
      placed = λ q ne. let e = left.others q ne in let f = right.others q ne in omega (arith, e, f);
      free = frees (λ b lt. ap (λ (x : ℕ). m' (BlockWord (x + b))) room_is ∙ stays (m (RoomCounter p) + b) (not_free b (omega (arith, lt, room_is))) ∙ blank b (omega (arith, lt, room_is)));
      does = does;
      orders = ordered;
      others = others;
      unrun = claim_unrun;
      finishes = not_ended m m' t c u v is (write_else m (BlockWord (r + 1)) w FinishWord (λ e. cc)) refl;
    }

    pub claim_law : IsKept i root input z (plug c v)
    claim_law = build i fair root input s t law p z c u v k d claim_turn
