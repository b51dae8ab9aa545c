-- The steps of a place without a strand keep the invariant, and the branch that it begins is its own.
use Rattle.std.proofs.Common.{◌≡◌, ◌≢◌, ◌≤◌, ◌<◌, ℕ, ◌+◌, ◌==◌, Bool, true, false, inl, inr, refl, sym, ap, ap₂, ◌∙◌, subst, subst₂, arith}
use Rattle.std.specs.Prelude.{nat_lt, slice_get, Option, if◌then◌else◌}
use Rattle.std.proofs.lemmas.Bool.{cond-true, cond-false, eq-eqb, ne_eqb, cases_eq}
use Rattle.ppm_strands.specs.Tree.{Words, Tree}
use Rattle.ppm_cells.specs.Cells.{word_count}
use Rattle.ppm_cells.specs.declared.cell.Cell.{Cell}
use Rattle.ppm_cells.specs.declared.cell.Cell.TheVariants.{RoomCounter, BlockWord}
use Rattle.ppm_cells.specs.declared.link.LinkKind.{LinkKind}
use Rattle.ppm_cells.specs.declared.link.LinkKind.TheVariants.{Root, Call as Called, Branch}
use Rattle.ppm_cells.specs.declared.restart.RestartKind.{RestartKind}
use Rattle.ppm_cells.specs.declared.restart.RestartKind.TheVariants.{Run, Pop1, Pop2, Seek, Steal, Check, Take, Take2}
use Rattle.ppm_cells.specs.declared.side.Side.TheVariants.{Left, Right}
use Rattle.ppm_strands.specs.Strand.{Frame}
use Rattle.ppm_code.specs.Strands.{Point, Result}
use Rattle.ppm_code.specs.declared.code.Capsule.{Capsule as CodeCapsule}
use Rattle.ppm_code.specs.declared.location.FrameWord.{FrameWord}
use Rattle.ppm_step.specs.Points.{offset_word}
use Rattle.ppm_step.specs.Rows.{row_of, right_begins}
use Rattle.ppm_step.specs.Standings.{within_if, row_is_there, then_is_there, enters, stands}
use Rattle.ppm_step.specs.declared.row.Row.{Row}
use Rattle.ppm_step.specs.declared.row.Row.TheVariants.{Now, Store, Exchange}
use Rattle.ppm_step.specs.declared.row.Seat.{Seat}
use Rattle.ppm_step.specs.declared.row.Then.{Then}
use Rattle.ppm_step.specs.declared.row.Then.TheVariants.{Load, Install, Fork, Begin, Move, Enter, Again, Broken}
use Rattle.ppm_frames.specs.Skeletons.{Stand, InPlace, Fresh, Waiting, Held, Came, Inlined, Skeleton, Leaf, Calling, Forking, inside, count, at, take_in, Around, Top, AtCall, AtLeft, AtRight, plug, hook_at, at_rim}
use Rattle.ppm_frames.specs.Good.{Match, Forks, Good}
use Rattle.ppm_frames.proofs.SkeletonLemmas.{inside_at, count_plug, at_plug}
use Rattle.ppm_frames.proofs.SwapLemmas.{swap_same, good_same, good_here}
use Rattle.ppm_kept.specs.Running.{IsFair}
use Rattle.ppm_kept.specs.Branches.{Unpushed, IsWaitingAt, Waits, is_taker, HasCopy}
use Rattle.ppm_kept.specs.Kept.{Setting, Doing, Resting, InRow, InRest, State, put, Blank, ceiling, Free, Does, carried, IsKept}
use Rattle.ppm_kept.specs.Moves.{doing_of, goes, installs}
use Rattle.ppm_kept.specs.Others.{IsIdle}
use Rattle.ppm_kept.specs.Pushing.{Comes, kind_seat}
use Rattle.ppm_kept.specs.Takes.{IsWaiting, IsAlone, TakeKeeps, TakeRowsKeep}
use Rattle.ppm_kept.proofs.PutLemmas.{put_here, put_else}
use Rattle.ppm_kept.proofs.EndingLemmas.{not_ended}
use Rattle.ppm_kept.proofs.BuildLemmas.{Turn, build}
use Rattle.ppm_kept.proofs.PlaceLemmas.{going_to, kept_same, is_at_own, is_at_other}
use Rattle.ppm_kept.proofs.IdleLemmas.{idle_roof, idle_free, idle_blank, idle_order}
use Rattle.ppm_kept.proofs.LookLemmas.{NoBegin, LookRow, look_unseen, comes_look, look_begins, look_ends}

-- a fork whose right branch waits at frame f
pub record Takes (r p f : ℕ) (t : Skeleton) : Type 0 where
  pub around : Around
  pub frame : ℕ
  pub slots : ℕ
  pub copy : ℕ
  pub left : Skeleton
  pub stand : Stand
  pub low_slots : ℕ
  pub is : t ≡ plug around (Forking frame slots copy r left (Leaf Waiting stand f low_slots))
  pub then_ : take_in r p t ≡ plug around (Forking frame slots copy r left (Leaf (InPlace p) stand f low_slots))

head_in : (q r : ℕ) → q ≡ r → 1 ≤ inside q 1 r
head_in q r e = inside_at q 1 r 0 (omega (arith, e)) (omega arith)

take_else : (r p : ℕ) (h : LinkKind) (t : Skeleton) → count h t r ≡ 0 → take_in r p t ≡ t
take_else r p h (Leaf w st f n) z = refl
take_else r p h (Calling f n y t) z = ap (λ (s : Skeleton). Calling f n y s) (take_else r p (Called f y) t (omega (arith, z)))
take_else r p h (Forking f n y q a b) z = elim (cases_eq q r) [
  | inl e ↦ absurd (let one = head_in q r e in omega (arith, one, z))
  | inr ne ↦ cond-false (q == r) _ _ (ne_eqb q r ne) ∙ ap₂ (λ (s t : Skeleton). Forking f n y q s t) (take_else r p (Branch Left q) a (omega (arith, z))) (take_else r p (Branch Right q) b (omega (arith, z)))
]

has_head : (r p f : ℕ) (h : LinkKind) (t : Skeleton) → Takes r p f t → 1 ≤ count h t r
has_head r p f h t g = subst (λ (s : Skeleton). 1 ≤ count h s r) (sym g.is)
    (let sum = count_plug h g.around (Forking g.frame g.slots g.copy r g.left (Leaf Waiting g.stand f g.low_slots)) r in let one = head_in r r refl in omega (arith, sum, one))

pub find_wait : (r p f : ℕ) (h : LinkKind) (t : Skeleton) → count h t r ≤ 1 → Waits r f t → Takes r p f t
find_wait r p f h (Leaf w st g n) apart x = absurd x
find_wait r p f h (Calling g n y t) apart x = let k = find_wait r p f (Called g y) t (omega (arith, apart)) x in
    record {
      around = AtCall g n y k.around;
      frame = k.frame;
      slots = k.slots;
      copy = k.copy;
      left = k.left;
      stand = k.stand;
      low_slots = k.low_slots;
      is = ap (λ (s : Skeleton). Calling g n y s) k.is;
      then_ = ap (λ (s : Skeleton). Calling g n y s) k.then_;
    }
find_wait r p f h (Forking g n y q a b) apart (inl x) = at_here b x.1
  where
    at_here : (b : Skeleton) → IsWaitingAt f b → Takes r p f (Forking g n y q a b)
    at_here (Leaf Waiting st d l) w = record {
      around = Top;
      frame = g;
      slots = n;
      copy = y;
      left = a;
      stand = st;
      low_slots = l;
      is = ap₂ (λ (c e : ℕ). Forking g n y c a (Leaf Waiting st e l)) x.0 w;
      then_ = cond-true (q == r) _ _ (eq-eqb q r x.0) ∙ ap₂ (λ (c e : ℕ). Forking g n y c a (Leaf (InPlace p) st e l)) x.0 w;
    }
    at_here (Leaf (InPlace o) st d l) w = absurd w
    at_here (Leaf Came st d l) w = absurd w
    at_here (Leaf Fresh st d l) w = absurd w
    at_here (Leaf Held st d l) w = absurd w
    at_here (Leaf Inlined st d l) w = absurd w
    at_here (Calling _ _ _ _) w = absurd w
    at_here (Forking _ _ _ _ _ _) w = absurd w
find_wait r p f h (Forking g n y q a b) apart (inr (inl x)) =
    let k = find_wait r p f (Branch Left q) a (omega (arith, apart)) x in
    let one = has_head r p f (Branch Left q) a k in
    let ne : q ≢ r = λ e. (let two = head_in q r e in omega (arith, apart, one, two)) in
    record {
      around = AtLeft g n y q k.around b;
      frame = k.frame;
      slots = k.slots;
      copy = k.copy;
      left = k.left;
      stand = k.stand;
      low_slots = k.low_slots;
      is = ap (λ (s : Skeleton). Forking g n y q s b) k.is;
      then_ = cond-false (q == r) _ _ (ne_eqb q r ne) ∙ ap₂ (λ (s t : Skeleton). Forking g n y q s t) k.then_ (take_else r p (Branch Right q) b (omega (arith, apart, one)));
    }
find_wait r p f h (Forking g n y q a b) apart (inr (inr x)) =
    let k = find_wait r p f (Branch Right q) b (omega (arith, apart)) x in
    let one = has_head r p f (Branch Right q) b k in
    let ne : q ≢ r = λ e. (let two = head_in q r e in omega (arith, apart, one, two)) in
    record {
      around = AtRight g n y q a k.around;
      frame = k.frame;
      slots = k.slots;
      copy = k.copy;
      left = k.left;
      stand = k.stand;
      low_slots = k.low_slots;
      is = ap (λ (s : Skeleton). Forking g n y q a s) k.is;
      then_ = cond-false (q == r) _ _ (ne_eqb q r ne) ∙ ap₂ (λ (s t : Skeleton). Forking g n y q s t) (take_else r p (Branch Left q) a (omega (arith, apart, one))) k.then_;
    }

-- kinds without a strand
idle_none : (m : Cell → ℕ) (k : RestartKind) → IsIdle k → carried m k ≡ 0
idle_none m Pop1 h = refl
idle_none m (Pop2 r) h = refl
idle_none m Seek h = refl
idle_none m (Steal v x) h = refl
idle_none m (Check v x) h = refl
idle_none m (Take v x) h = refl
idle_none m (Take2 v) h = refl
idle_none m _ h = absurd h

idle_copy : (k : RestartKind) → IsIdle k → HasCopy k
idle_copy Pop1 h = tt
idle_copy (Pop2 r) h = tt
idle_copy Seek h = tt
idle_copy (Steal v x) h = tt
idle_copy (Check v x) h = tt
idle_copy (Take v x) h = tt
idle_copy (Take2 v) h = tt
idle_copy _ h = absurd h

idle_pushed : (p : ℕ) (t : Skeleton) (k : RestartKind) → IsIdle k → Unpushed p t k
idle_pushed p t Pop1 h = tt
idle_pushed p t (Pop2 r) h = tt
idle_pushed p t Seek h = tt
idle_pushed p t (Steal v x) h = tt
idle_pushed p t (Check v x) h = tt
idle_pushed p t (Take v x) h = tt
idle_pushed p t (Take2 v) h = tt
idle_pushed p t _ h = absurd h

-- where a processor stands in such a row
abbrev AsRow : Row → Doing → Type 0
AsRow rest Resting = Unit {0}
AsRow rest (InRow row) = row ≡ rest
AsRow rest (InRest left) = ⊥

idle_does : (i : Setting) (m : Cell → ℕ) (p : ℕ) (k : RestartKind) → IsIdle k → (rest : Row) (d : Doing) → AsRow rest d → Does i m p k d
idle_does i m p k h rest Resting a = tt
idle_does i m p k h rest (InRest left) a = absurd a
idle_does i m p Pop1 h rest (InRow row) a = tt
idle_does i m p (Pop2 r) h rest (InRow row) a = tt
idle_does i m p Seek h rest (InRow row) a = tt
idle_does i m p (Steal v x) h rest (InRow row) a = tt
idle_does i m p (Check v x) h rest (InRow row) a = tt
idle_does i m p (Take v x) h rest (InRow row) a = tt
idle_does i m p (Take2 v) h rest (InRow row) a = tt
idle_does i m p _ h rest (InRow row) a = absurd h

within_as : (seat : Seat) (rest : Row) (b : Bool) → AsRow rest (doing_of (within_if seat rest b))
within_as seat rest true = refl
within_as seat rest false = tt

enters_as : (i : Setting) (seat : Seat) (k : RestartKind) → IsIdle k → (rest : Row) (a : Option CodeCapsule) → AsRow rest (doing_of (enters i.shape i.code seat k a))
enters_as i seat Pop1 h rest a = tt
enters_as i seat (Pop2 r) h rest a = tt
enters_as i seat Seek h rest a = tt
enters_as i seat (Steal v x) h rest a = tt
enters_as i seat (Check v x) h rest a = tt
enters_as i seat (Take v x) h rest a = tt
enters_as i seat (Take2 v) h rest a = tt
enters_as i seat _ h rest a = absurd h

stands_as : (i : Setting) (seat : Seat) → IsIdle seat.restart.kind → (rest : Row) → AsRow rest (doing_of (stands i.shape i.code seat rest))
stands_as i seat h (Now (Load x)) = within_as seat (Now (Load x)) (then_is_there i.shape seat (Load x))
stands_as i seat h (Now (Install x)) = within_as seat (Now (Install x)) (then_is_there i.shape seat (Install x))
stands_as i seat h (Now (Fork x)) = within_as seat (Now (Fork x)) (then_is_there i.shape seat (Fork x))
stands_as i seat h (Now (Begin x w v)) = within_as seat (Now (Begin x w v)) (then_is_there i.shape seat (Begin x w v))
stands_as i seat h (Now (Move x)) = within_as seat (Now (Move x)) (then_is_there i.shape seat (Move x))
stands_as i seat h (Now (Enter x)) = enters_as i seat seat.restart.kind h (Now (Enter x)) (slice_get i.code.capsules x)
stands_as i seat h (Now Again) = tt
stands_as i seat h (Now Broken) = tt
stands_as i seat h (Store c w x) = within_as seat (Store c w x) (row_is_there i.shape seat (Store c w x))
stands_as i seat h (Exchange c v w x) = within_as seat (Exchange c v w x) (row_is_there i.shape seat (Exchange c v w x))

-- how a row goes on, and the parts of a beginning
abbrev then_of : Row → Then
then_of (Now next) = next
then_of (Store c w next) = next
then_of (Exchange c v w next) = next

abbrev begin_block : Row → ℕ
begin_block (Now (Begin r f b)) = r
begin_block _ = 0

abbrev begin_frame : Row → ℕ
begin_frame (Now (Begin r f b)) = f
begin_frame _ = 0

module _ (i : Setting) (fair : IsFair i.code) (root : Tree (Frame FrameWord Point) Result) (input : Words) (s : State) (t : Skeleton) (law : IsKept i root input s t) (p : ℕ)
    (there : p < i.shape.processors) (k : RestartKind) (ke : s.kind p ≡ k) (idle : IsIdle k) where
  abbrev m : Cell → ℕ
  m = s.words

  abbrev Law : State → Skeleton → Type 0
  Law z v = IsKept i root input z v

  abbrev seat : (own bottom : ℕ) → Seat
  seat own bottom = kind_seat own p k bottom

  roof : ceiling i m p (s.kind p) ≡ m (RoomCounter p)
  roof = ap (ceiling i m p) ke ∙ idle_roof i m p k idle

  blank : Blank i m p (m (RoomCounter p))
  blank = idle_blank i m p k idle (subst (Free i m p) ke (law.free p))

  nobody : at p t ≡ 0
  nobody = law.places p ∙ ap (carried m) ke ∙ idle_none m k idle

  goes_as : (own bottom : ℕ) (rest : Row) → ((r f b : ℕ) → rest ≡ Now (Begin r f b) → Waits r f t) → Law (goes s p (stands i.shape i.code (seat own bottom) rest)) t
  goes_as own bottom rest aim =
      let d = doing_of (stands i.shape i.code (seat own bottom) rest) in
      let as_ : AsRow rest d = stands_as i (seat own bottom) idle rest in
      going_to i fair root input s t law p d (subst (λ (x : RestartKind). Does i m p x d) (sym ke) (idle_does i m p k idle rest d as_))
      (λ r f b taker about. aim r f b (sym (subst (AsRow rest) about as_)))

  no_begin : (next : Then) → NoBegin next → (r f b : ℕ) → Now next ≡ Now (Begin r f b) → Waits r f t
  no_begin next none r f b e = absurd (subst NoBegin (ap then_of e) none)

  -- by an offset
  waits_at : (r f : ℕ) → Waits r f t → f ≡ r + m (BlockWord (r + 4))
  waits_at r f x =
      let g = find_wait r p f Root t (law.apart r) x in
      let good = good_here i.code m s.kind Root g.around (Forking g.frame g.slots g.copy r g.left (Leaf Waiting g.stand f g.low_slots)) (subst (Good i.code m s.kind Root) g.is law.good) in
      good.0.right

  offset_loads : (own bottom r b w : ℕ) → w ≡ m (BlockWord (r + 4)) → IsWaiting t r → Law (goes s p (stands i.shape i.code (seat own bottom) (right_begins i.shape r b w))) t
  offset_loads own bottom r b w e waits = by (nat_lt (r + w) (word_count i.shape))
    where
      by : (x : Bool) → Law (goes s p (stands i.shape i.code (seat own bottom) (if x then Now (Begin r (r + w) b) else Now Broken))) t
      by true = goes_as own bottom (Now (Begin r (r + w) b)) (λ q f c same.
          let f_is : waits.0 ≡ f = waits_at r waits.0 waits.1 ∙ ap (λ (x : ℕ). r + x) (sym e) ∙ ap begin_frame same in
          subst₂ (λ (x y : ℕ). Waits x y t) (ap begin_block same) f_is waits.1)
      by false = goes_as own bottom (Now Broken) (λ q f c same. absurd (cc))

  -- an install of another such kind
  idle_installs : (l : RestartKind) → IsIdle l → Law (installs s p l) t
  idle_installs l h = build i fair root input s t law p (installs s p l) Top t t l Resting (record {
    is = refl;
    alone = refl;
    there = there;
    kind = put_here s.kind p l;
    kinds = λ q ne. put_else s.kind p l q ne;
    doing = put_here s.doing p Resting;
    doings = λ q ne. put_else s.doing p Resting q ne;
    around = λ x ne. refl;
    step = inr (refl, refl);
    swap = swap_same m m Root t (λ x ne. refl);
    good = good_same m m i.code s.kind (put s.kind p l) Root t (λ x ne. refl) (λ q some. put_else s.kind p l q (λ e. some (ap (λ (a : ℕ). at a t) e ∙ nobody))) law.good;
    adds = λ x. inl (omega arith, omega arith);
    grows = let e = idle_roof i m p l h in omega (arith, roof, e);
    pays = let e = idle_roof i m p l h in omega (arith, roof, e);
    bound = let b = (law.rooms p).1 in let e = idle_roof i m p l h in omega (arith, b, roof, e);
    places = nobody ∙ sym (idle_none m l h);
    placed = λ q ne. refl;
    free = idle_free i m p l h blank;
    does = tt;
    orders = idle_order i s t m l h;
    others = λ q ne. kept_same i fair root input s t law p q;
    unrun = record {
      copy = idle_copy l h;
      pushes = λ most. idle_pushed p t l h;
      untaken = λ q r ne old. old;
      waits = λ q r f b ne taker about. (λ x. x, λ x. x);
      aims = inr (λ r f b about. absurd (cc));
    };
    finishes = λ e. e;
  })

  -- the branch of r at f begins
  module _ (r f : ℕ) (waits : Waits r f t) (alone : IsAlone s p r) where
    abbrev g : Takes r p f t
    g = find_wait r p f Root t (law.apart r) waits

    abbrev c : Around
    c = g.around

    abbrev h : LinkKind
    h = hook_at Root c

    abbrev wait : Skeleton
    wait = Leaf Waiting g.stand f g.low_slots

    abbrev mine : Skeleton
    mine = Leaf (InPlace p) g.stand f g.low_slots

    abbrev u : Skeleton
    u = Forking g.frame g.slots g.copy r g.left wait

    abbrev v : Skeleton
    v = Forking g.frame g.slots g.copy r g.left mine

    abbrev next : RestartKind
    next = Run f 0

    is : t ≡ plug c u
    is = g.is

    sum : at p t ≡ at_rim p c + at p u
    sum = ap (at p) is ∙ at_plug p c u

    no_left : at p g.left ≡ 0
    no_left = let e = sum in let z = nobody in omega (arith, e, z)

    good_u : Good i.code m s.kind h u
    good_u = good_here i.code m s.kind Root c u (subst (Good i.code m s.kind Root) is law.good)

    abbrev forks : Forks i.code m h g.frame g.slots g.copy r g.left wait
    forks = good_u.0

    take_turn : Turn i s t p (installs s p next) c u v next Resting
    take_turn = record {
      is = is;
      alone = let e = sum in let z = nobody in omega (arith, e, z);
      there = there;
      kind = put_here s.kind p next;
      kinds = λ q ne. put_else s.kind p next q ne;
      doing = put_here s.doing p Resting;
      doings = λ q ne. put_else s.doing p Resting q ne;
      around = λ x ne. refl;
      step = inr (refl, refl);
      swap = record { aim = record { head = refl; aim = refl }; order = refl; gives = inl (refl, refl) };
      good = (
        record {
          framed = forks.framed;
          size = forks.size;
          outcome = forks.outcome;
          hook = forks.hook;
          order = forks.order;
          left = forks.left;
          right = forks.right;
          left_target = forks.left_target;
          right_target = forks.right_target;
        },
        good_same m m i.code s.kind (put s.kind p next) (Branch Left r) g.left (λ x ne. refl) (λ q some. put_else s.kind p next q (λ e. some (ap (λ (a : ℕ). at a g.left) e ∙ no_left))) good_u.1,
        (
          good_u.2.0,
          good_u.2.1,
          subst (λ (k : RestartKind). Match i.code m k (Branch Right r) g.stand f) (sym (put_here s.kind p next))
              (subst (λ (a : Stand). Match i.code m next (Branch Right r) a f) (sym good_u.2.2.0) (refl, refl)),
        ),
      );
      adds = λ x. inl (omega arith, omega arith);
      grows = omega (arith, roof);
      pays = omega (arith, roof);
      bound = let b = (law.rooms p).1 in omega (arith, b, roof);
      places = let a = is_at_own p in let z = no_left in omega (arith, a, z);
      placed = λ q ne. let a = is_at_other p q ne in omega (arith, a);
      free = record { block = λ b lt out. blank b lt; outcome = inl good_u.2.2.1 };
      does = tt;
      orders = tt;
      others = λ q ne. kept_same i fair root input s t law p q;
      unrun = record {
        copy = omega arith;
        pushes = λ most. tt;
        untaken = λ q n ne old. old;
        waits = λ q n x b ne taker about. (
          λ e. e,
          λ e. elim e [
            | inl e ↦ absurd (alone q x b ne taker (subst (λ (a : ℕ). s.doing q ≡ InRow (Now (Begin a x b))) (sym e.0) about))
            | inr e ↦ elim e [ inl e ↦ inr (inl e) | inr e ↦ absurd e ]
          ],
        );
        aims = inl refl;
      };
      finishes = not_ended m m t c u v is refl refl;
    }

    take_law : Law (installs s p next) (take_in r p t)
    take_law = subst (Law (installs s p next)) (sym g.then_) (build i fair root input s t law p (installs s p next) c u v next Resting take_turn)

  row_looks : (own bottom n : ℕ) (rest : Row) → Comes i.shape (seat own bottom) n (row_of i.shape (seat own bottom) k) rest → LookRow i.shape k rest
  row_looks own bottom n rest q = comes_look i.shape (seat own bottom) k n (row_of i.shape (seat own bottom) k) rest (look_begins i.shape (seat own bottom) k idle) q

  pub take_keeps : TakeKeeps i root input s t p k
  take_keeps = record {
    loads = goes_as;
    offsets = λ own bottom victim r b waits. offset_loads own bottom r b (m (offset_word r)) refl waits;
    stores = λ own bottom n found cell content next q.
        let l = row_looks own bottom n (Store cell content next) q in (look_unseen i.shape cell l.0, goes_as own bottom (Now next) (no_begin next l.1));
    exchanges = λ own bottom n found cell old new next q.
        let l = row_looks own bottom n (Exchange cell old new next) q in (look_unseen i.shape cell l.0, goes_as own bottom (Now next) (no_begin next l.1));
    ends = λ own bottom n next ends q. look_ends i.shape k next (row_looks own bottom n (Now next) q);
    installs = idle_installs;
    begins = λ r f b taker about alone. take_law r f (law.aims p r f b (ap is_taker ke ∙ taker) about) alone;
    faults = going_to i fair root input s t law p Resting tt (λ r f b taker about. absurd (cc));
  }

pub take_rows_keep : TakeRowsKeep
take_rows_keep i fair root input s t law p there k ke idle = take_keeps i fair root input s t law p there k ke idle
