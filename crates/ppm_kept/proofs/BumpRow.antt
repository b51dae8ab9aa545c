-- The steps of a place in a row of kind Bump keep the invariant.
use Rattle.std.proofs.Common.{◌≡◌, ◌≢◌, ◌≤◌, ◌<◌, ℕ, zero, suc, ◌+◌, Bool, true, false, inl, inr, refl, sym, ap, ◌∙◌, subst, subst₂, arith, Option, Some, None}
use Rattle.std.proofs.Math.Path.{fun_ext}
use Rattle.std.proofs.lemmas.Bool.{lt-ltb}
use Rattle.ppm_strands.specs.Tree.{Words, Tree}
use Rattle.ppm_cells.specs.Link.{link_of}
use Rattle.ppm_cells.specs.declared.cell.Cell.{Cell}
use Rattle.ppm_cells.specs.declared.cell.Cell.TheVariants.{FinishWord, RoomCounter, BlockWord, ArrayWord}
use Rattle.ppm_cells.specs.declared.link.Link.{Link}
use Rattle.ppm_cells.specs.declared.link.LinkKind.{LinkKind}
use Rattle.ppm_cells.specs.declared.link.LinkKind.TheVariants.{Root, Call as Called, Branch, Fork as Forked}
use Rattle.ppm_cells.specs.declared.restart.RestartKind.{RestartKind}
use Rattle.ppm_cells.specs.declared.restart.RestartKind.TheVariants.{Run, Bump, Push1}
use Rattle.ppm_cells.specs.declared.side.Side.TheVariants.{Left, Right}
use Rattle.ppm_strands.specs.Strand.{Frame}
use Rattle.ppm_code.specs.Strands.{Point, Result}
use Rattle.ppm_code.specs.declared.location.FrameWord.{FrameWord}
use Rattle.ppm_step.specs.Contents.{word_of, read_so}
use Rattle.ppm_step.specs.Rows.{row_of, on_link, bumped, with_kind}
use Rattle.ppm_step.specs.Standings.{IsWithin, within_if, row_is_there, then_is_there, stands, stands_then, went_row}
use Rattle.ppm_step.specs.declared.content.Content.{Content}
use Rattle.ppm_step.specs.declared.content.Content.TheVariants.{ALink}
use Rattle.ppm_step.specs.declared.row.Point.TheVariants.{BumpLink}
use Rattle.ppm_step.specs.declared.row.Row.{Row}
use Rattle.ppm_step.specs.declared.row.Row.TheVariants.{Now, Store}
use Rattle.ppm_step.specs.declared.row.Seat.{Seat}
use Rattle.ppm_step.specs.declared.row.Then.{Then}
use Rattle.ppm_step.specs.declared.row.Then.TheVariants.{Load, Fork}
use Rattle.ppm_frames.specs.Views.{written as write, is_cell}
use Rattle.ppm_frames.specs.Skeletons.{Stand, Begins, Over, Arrives, InPlace, Skeleton, Leaf, at, Around, plug, hook_at, at_rim}
use Rattle.ppm_frames.specs.Good.{ended, link_or, link_at, Framed, IsSized, BumpsAt, Match, Good}
use Rattle.ppm_frames.proofs.WriteLemmas.{write_here, write_else}
use Rattle.ppm_frames.proofs.SkeletonLemmas.{tree_same, branch_from}
use Rattle.ppm_frames.proofs.SwapLemmas.{swap_same, good_same, good_here}
use Rattle.ppm_kept.specs.Running.{IsFair}
use Rattle.ppm_kept.specs.Branches.{Untaken, Unpushed, is_taker, HasCopy}
use Rattle.ppm_kept.specs.Kept.{Setting, end_of, seat_at, Doing, Resting, InRow, State, put, Blank, ceiling, Free, Reach, Does, Under, Ordered, carried, IsKept}
use Rattle.ppm_kept.specs.Moves.{doing_of, goes, stores, installs}
use Rattle.ppm_kept.specs.Laws.{Ends, BumpKeeps, kind_then}
use Rattle.ppm_kept.specs.Others.{Keeps}
use Rattle.ppm_kept.proofs.PutLemmas.{put_here, put_else}
use Rattle.ppm_kept.proofs.EndingLemmas.{not_ended}
use Rattle.ppm_kept.proofs.BranchLemmas.{same_part}
use Rattle.ppm_kept.proofs.BuildLemmas.{Turn, build}
use Rattle.ppm_kept.proofs.PlaceLemmas.{leaf, going, kept_same, is_at_own, is_at_other}

-- the leaf of a place that opens a block
pub record Bumps (i : Setting) (s : State) (t : Skeleton) (p r : ℕ) : Type 0 where
  pub around : Around
  pub frame : ℕ
  pub slots : ℕ
  pub is : t ≡ plug around (Leaf (InPlace p) (Begins 0) frame slots)
  pub alone : at_rim p around ≡ 0
  pub framed : Framed i.code s.words (hook_at Root around) frame slots
  pub sized : IsSized i.code s.words (Begins 0) frame slots
  pub at_ : BumpsAt i.code s.words (hook_at Root around) r frame
  pub open_ : s.words (BlockWord (frame + 1)) ≡ ended

pub bump_at : (i : Setting) (s : State) (t : Skeleton) (p r : ℕ) (c : Around) (st : Stand) (g n : ℕ) → t ≡ plug c (Leaf (InPlace p) st g n) → at_rim p c ≡ 0
    → Framed i.code s.words (hook_at Root c) g n → IsSized i.code s.words st g n → Match i.code s.words (Bump r) (hook_at Root c) st g → Bumps i s t p r
bump_at i s t p r c (Begins z) g n is alone framed sized match = record {
  around = c;
  frame = g;
  slots = n;
  alone = alone;
  framed = framed;
  at_ = match.1;
  open_ = match.2;
  is = is ∙ ap (λ (b : ℕ). plug c (Leaf (InPlace p) (Begins b) g n)) match.0;
  sized = subst (λ (b : ℕ). IsSized i.code s.words (Begins b) g n) match.0 sized;
}
bump_at i s t p r c Over g n is alone framed sized match = absurd match
bump_at i s t p r c Arrives g n is alone framed sized match = absurd match

module _ (i : Setting) (fair : IsFair i.code) (root : Tree (Frame FrameWord Point) Result) (input : Words) (s : State) (t : Skeleton) (law : IsKept i root input s t) (p : ℕ)
    (there : p < i.shape.processors) (keeps : Keeps i s t p) (r : ℕ) (ke : s.kind p ≡ Bump r) where
  abbrev m : Cell → ℕ
  m = s.words

  abbrev l : Link
  l = link_at (m (BlockWord r))

  abbrev Law : State → Type 0
  Law z = IsKept i root input z t

  has_leaf : Bumps i s t p r
  has_leaf = let g = leaf i fair root input s t law p (ap (carried m) ke) in
      bump_at i s t p r g.around g.stand g.frame g.slots g.is g.alone g.framed g.sized (subst (λ (k : RestartKind). Match i.code m k (hook_at Root g.around) g.stand g.frame) ke g.match)

  abbrev c : Around
  c = has_leaf.around

  abbrev h : LinkKind
  h = hook_at Root c

  abbrev f : ℕ
  f = has_leaf.frame

  abbrev u : Skeleton
  u = Leaf (InPlace p) (Begins 0) f has_leaf.slots

  only : (q : ℕ) → q ≢ p → at q u ≡ 0
  only q ne = is_at_other p q ne

  one_here : 1 ≤ at p u
  one_here = let a = is_at_own p in omega (arith, a)

  roof : ceiling i m p (s.kind p) ≡ r + l.size
  roof = ap (ceiling i m p) ke

  blank : Blank i m p (r + l.size)
  blank = subst (Free i m p) ke (law.free p)

  untaken : Untaken p r (plug c u)
  untaken = subst₂ (Unpushed p) has_leaf.is ke (law.untaken p)

  abbrev sits : (own bottom : ℕ) → Seat
  sits o b = record { own = o; place = p; restart = record { kind = Bump r; bottom = b } }

  abbrev link_row : Option Link → (b : ℕ) → Row
  link_row o b = on_link (read_so ALink o) (λ (l : Link). bumped (seat_at p (Bump r) b) r l.size l.kind)

  -- where it stands by what it may do there
  stand_row : (o b : ℕ) (z : Cell → ℕ) (row : Row) (n : ℕ) → Reach i z (seat_at p (Bump r) b) n (row_of i.shape (seat_at p (Bump r) b) (Bump r)) row → (yes_ : Bool)
      → Does i z p (Bump r) (doing_of (within_if (sits o b) row yes_))
  stand_row o b z row n reach true = (b, n, reach)
  stand_row o b z row n reach false = tt

  -- the row begins, and its link is loaded
  pub row_begins : (own bottom : ℕ) → Law (goes s p (IsWithin (sits own bottom) (row_of i.shape (sits own bottom) (Bump r))))
  row_begins own bottom = going i fair root input s t law p (ap is_taker ke) (InRow (Now (Load (BumpLink r)))) (subst (λ (k : RestartKind). Under i m p k (Now (Load (BumpLink r)))) (sym ke) (bottom, 0, refl))

  pub link_loads : (own bottom victim : ℕ) → Law (goes s p (went_row i.shape i.code (sits own bottom) victim (m (BlockWord r)) (Now (Load (BumpLink r)))))
  link_loads own bottom victim = going i fair root input s t law p (ap is_taker ke) (doing_of (went_row i.shape i.code (sits own bottom) victim (m (BlockWord r)) (Now (Load (BumpLink r)))))
      (subst (λ (k : RestartKind). Does i m p k (doing_of (went_row i.shape i.code (sits own bottom) victim (m (BlockWord r)) (Now (Load (BumpLink r)))))) (sym ke) (by (link_of (m (BlockWord r))) refl))
    where
      some : (k : LinkKind) (z : ℕ) → link_of (m (BlockWord r)) ≡ Some (record { kind = k; size = z }) → Does i m p (Bump r) (doing_of (stands i.shape i.code (sits own bottom) (link_row (Some (record { kind = k; size = z })) bottom)))
      some (Called g y) z e = stand_row own bottom m _ 1 (ap (λ (o : Option Link). link_row o bottom) e) (row_is_there i.shape (sits own bottom) (link_row (Some (record { kind = Called g y; size = z })) bottom))
      some (Forked g y) z e = stand_row own bottom m _ 1 (ap (λ (o : Option Link). link_row o bottom) e) (row_is_there i.shape (sits own bottom) (link_row (Some (record { kind = Forked g y; size = z })) bottom))
      some Root z e = tt
      some (Branch d q) z e = tt

      by : (o : Option Link) → link_of (m (BlockWord r)) ≡ o → Does i m p (Bump r) (doing_of (stands i.shape i.code (sits own bottom) (link_row o bottom)))
      by None e = tt
      by (Some link) e = some link.kind link.size e

  -- the counter is stored
  module _ (d : Doing) (does_so : (n : Cell → ℕ) → n (BlockWord r) ≡ m (BlockWord r) → n (RoomCounter p) ≡ r + l.size → Does i n p (Bump r) d) where
    abbrev m' : Cell → ℕ
    m' = write m (RoomCounter p) (r + l.size)

    pool : (x : ℕ) → m' (BlockWord x) ≡ m (BlockWord x)
    pool x = write_else m (RoomCounter p) (r + l.size) (BlockWord x) (λ e. cc)

    abbrev z : State
    z = record { words = m'; kind = s.kind; doing = put s.doing p d }

    top_is : ceiling i m' p (Bump r) ≡ r + l.size
    top_is = ap (λ (w : ℕ). r + (link_at w).size) (pool r)

    stored_turn : Turn i s t p z c u u (Bump r) d
    stored_turn = record {
      is = has_leaf.is;
      alone = has_leaf.alone;
      there = there;
      kind = ke;
      kinds = λ q ne. refl;
      doing = put_here s.doing p d;
      doings = λ q ne. put_else s.doing p d q ne;
      around = λ x ne. pool x;
      step = inr (tree_same m m' h u (λ x ne. pool x), fun_ext (λ x. write_else m (RoomCounter p) (r + l.size) (ArrayWord x) (λ e. cc)));
      swap = swap_same m m' h u (λ x ne. pool x);
      good = good_same m m' i.code s.kind s.kind h u (λ x ne. pool x) (λ q ne. refl) (has_leaf.framed, has_leaf.sized, subst (λ (q : RestartKind). Match i.code m q h (Begins 0) f) (sym ke) (refl, has_leaf.at_, has_leaf.open_));
      adds = λ x. inl (omega arith, omega arith);
      grows = omega (arith, roof, top_is);
      pays = omega (arith, roof, top_is);
      bound = let a = (law.rooms p).1 in omega (arith, a, roof, top_is);
      places = is_at_own p;
      placed = λ q ne. refl;
      free = λ o lt. ap (λ (b : ℕ). m' (BlockWord (b + o))) top_is ∙ pool (r + l.size + o) ∙ blank o (omega (arith, lt, top_is));
      does = does_so m' (pool r) (write_here m (RoomCounter p) (r + l.size));
      orders = tt;
      others = keeps c u (RoomCounter p) (r + l.size) has_leaf.is has_leaf.alone only one_here (inl refl);
      unrun = same_part tt untaken refl;
      finishes = not_ended m m' t c u u has_leaf.is (write_else m (RoomCounter p) (r + l.size) FinishWord (λ e. cc)) refl;
    }

    pub counter_stored : Law z
    counter_stored = subst (IsKept i root input z) (sym has_leaf.is) (build i fair root input s t law p z c u u (Bump r) d stored_turn)

  -- what comes next is installed
  module _ (k : RestartKind) (stored : m (RoomCounter p) ≡ r + l.size) (match : Match i.code m k h (Begins 0) f) (top_is : ceiling i m p k ≡ m (RoomCounter p)) (one : carried m k ≡ 1) (frees : Free i m p k) (plain_kind : Ordered i s t m k)
      (copy : HasCopy k) (own : Unpushed p (plug c u) k) (none : is_taker k ≡ false) where
    bump_installed : Law (installs s p k)
    bump_installed = subst (IsKept i root input (installs s p k)) (sym has_leaf.is) (build i fair root input s t law p (installs s p k) c u u k Resting (record {
      is = has_leaf.is;
      alone = has_leaf.alone;
      there = there;
      kind = put_here s.kind p k;
      kinds = λ q ne. put_else s.kind p k q ne;
      doing = put_here s.doing p Resting;
      doings = λ q ne. put_else s.doing p Resting q ne;
      around = λ x ne. refl;
      step = inr (refl, refl);
      swap = swap_same m m h u (λ x ne. refl);
      good = (has_leaf.framed, has_leaf.sized, subst (λ (q : RestartKind). Match i.code m q h (Begins 0) f) (sym (put_here s.kind p k)) match);
      adds = λ x. inl (omega arith, omega arith);
      grows = omega (arith, roof, stored, top_is);
      pays = omega (arith, roof, stored, top_is);
      bound = let a = (law.rooms p).1 in omega (arith, a, roof, stored, top_is);
      places = is_at_own p ∙ sym one;
      placed = λ q ne. refl;
      free = frees;
      does = tt;
      orders = plain_kind;
      others = λ q ne. kept_same i fair root input s t law p q;
      unrun = same_part copy own none;
      finishes = not_ended m m t c u u has_leaf.is refl refl;
    }))

  -- by the hook of the frame, the block is a frame or a fork block
  calls_here : (hk : LinkKind) → h ≡ hk → (g y : ℕ) → l.kind ≡ Called g y → BumpsAt i.code m hk r f → r ≡ f
  calls_here (Called g y) e a b k at_ = at_
  calls_here (Branch Left q) e g y k at_ = elim (branch_from Root c q Left e) [
    | inl o ↦ absurd (let d = o.0 in cc)
    | inr o ↦ let forks = (good_here i.code m s.kind Root o.around _ (subst (Good i.code m s.kind Root) (has_leaf.is ∙ o.is u) law.good)).0 in
        absurd (let d : Called g y ≡ Forked o.frame o.copy = sym k ∙ ap (λ (x : ℕ). (link_at (m (BlockWord x))).kind) at_.0 ∙ forks.hook in cc)
  ]
  calls_here Root e g y k at_ = absurd at_
  calls_here (Forked a b) e g y k at_ = absurd at_
  calls_here (Branch Right q) e g y k at_ = absurd at_

  forks_here : (hk : LinkKind) → h ≡ hk → (g y : ℕ) → l.kind ≡ Forked g y → BumpsAt i.code m hk r f → (h ≡ Branch Left r) × (f ≡ r + 5)
  forks_here (Called g y) e a b k at_ = absurd (let d : Forked a b ≡ Called g y = sym k ∙ ap (λ (x : ℕ). (link_at (m (BlockWord x))).kind) at_ ∙ ap (λ (x : Link). x.kind) has_leaf.framed ∙ e in cc)
  forks_here (Branch Left q) e g y k at_ = (e ∙ ap (λ (x : ℕ). Branch Left x) (sym at_.0), at_.1 ∙ ap (λ (x : ℕ). x + 5) (sym at_.0))
  forks_here Root e g y k at_ = absurd at_
  forks_here (Forked a b) e g y k at_ = absurd at_
  forks_here (Branch Right q) e g y k at_ = absurd at_

  pub call_installs : (g y : ℕ) → l.kind ≡ Called g y → m (RoomCounter p) ≡ r + l.size → Law (installs s p (Run r 0))
  call_installs g y e stored =
      let here = calls_here h refl g y e has_leaf.at_ in
      bump_installed (Run r 0) stored (here, refl) refl refl
      (record { block = λ o lt out. ap (λ (b : ℕ). m (BlockWord (b + o))) stored ∙ blank o (subst (λ (b : ℕ). b + o < end_of i p) stored lt); outcome = inl (ap (λ (x : ℕ). m (BlockWord (x + 1))) here ∙ has_leaf.open_) }) tt
      (omega arith) tt refl

  pub fork_installs : (g y : ℕ) → l.kind ≡ Forked g y → m (RoomCounter p) ≡ r + l.size → Law (installs s p (Push1 r))
  fork_installs g y e stored =
      let here = forks_here h refl g y e has_leaf.at_ in
      bump_installed (Push1 r) stored (refl, here.0, here.1, has_leaf.open_) refl refl
      (λ o lt. ap (λ (b : ℕ). m (BlockWord (b + o))) stored ∙ blank o (subst (λ (b : ℕ). b + o < end_of i p) stored lt)) tt
      tt untaken refl

  -- the store of the row, by what was reached
  module _ (own bottom b : ℕ) where
    abbrev StoreLaw : Row → Type 0
    StoreLaw (Store cell content next) = Law (stores s p cell (word_of content) (stands_then i.shape i.code (sits own bottom) next)) × (is_cell i.shape cell ≡ true)
    StoreLaw row = Unit {0}

    if_there : (next : Then) (yes_ : Bool) (n : Cell → ℕ) → Under i n p (Bump r) (Now next) → Does i n p (Bump r) (doing_of (within_if (sits own bottom) (Now next) yes_))
    if_there next true n under = under
    if_there next false n under = tt

    size_is : (k : LinkKind) (z : ℕ) → link_of (m (BlockWord r)) ≡ Some (record { kind = k; size = z }) → l.size ≡ z
    size_is k z e = ap (λ (o : Option Link). (link_or o).size) e

    kind_is : (k : LinkKind) (z : ℕ) → link_of (m (BlockWord r)) ≡ Some (record { kind = k; size = z }) → l.kind ≡ k
    kind_is k z e = ap (λ (o : Option Link). (link_or o).kind) e

    store_some : (k : LinkKind) (z : ℕ) → link_of (m (BlockWord r)) ≡ Some (record { kind = k; size = z }) → StoreLaw (link_row (Some (record { kind = k; size = z })) b)
    store_some (Called g y) z e = (
      subst (λ (x : ℕ). Law (record { words = write m (RoomCounter p) (r + x); kind = s.kind; doing = put s.doing p (doing_of (stands_then i.shape i.code (sits own bottom) (with_kind (seat_at p (Bump r) b) (Run r 0)))) }))
          (size_is (Called g y) z e)
          (counter_stored (doing_of (stands_then i.shape i.code (sits own bottom) (with_kind (seat_at p (Bump r) b) (Run r 0))))
          (λ n pool room. if_there (with_kind (seat_at p (Bump r) b) (Run r 0)) (then_is_there i.shape (sits own bottom) (with_kind (seat_at p (Bump r) b) (Run r 0))) n (
            b,
            2,
            subst (λ (o : Option Link). Reach i n (seat_at p (Bump r) b) 1 (link_row o b) (Now (with_kind (seat_at p (Bump r) b) (Run r 0)))) (sym (ap link_of pool ∙ e))
                (room ∙ ap (λ (x : ℕ). r + x) (size_is (Called g y) z e), refl),
          ))),
      lt-ltb p i.shape.processors there,
    )
    store_some (Forked g y) z e = (
      subst (λ (x : ℕ). Law (record { words = write m (RoomCounter p) (r + x); kind = s.kind; doing = put s.doing p (doing_of (stands_then i.shape i.code (sits own bottom) (Fork r))) }))
          (size_is (Forked g y) z e)
          (counter_stored (doing_of (stands_then i.shape i.code (sits own bottom) (Fork r)))
          (λ n pool room. if_there (Fork r) (then_is_there i.shape (sits own bottom) (Fork r)) n (
            b,
            2,
            subst (λ (o : Option Link). Reach i n (seat_at p (Bump r) b) 1 (link_row o b) (Now (Fork r))) (sym (ap link_of pool ∙ e))
                (room ∙ ap (λ (x : ℕ). r + x) (size_is (Forked g y) z e), refl),
          ))),
      lt-ltb p i.shape.processors there,
    )
    store_some Root z e = tt
    store_some (Branch d q) z e = tt

    -- no store comes later
    none_later : (k : LinkKind) (z n : ℕ) (cell : Cell) (content : Content) (next : Then)
        → Reach i m (seat_at p (Bump r) b) (suc n) (link_row (Some (record { kind = k; size = z })) b) (Store cell content next) → ⊥
    none_later (Called g y) z zero cell content next q = let d = q.1 in cc
    none_later (Called g y) z (suc n) cell content next q = q.1
    none_later (Forked g y) z zero cell content next q = let d = q.1 in cc
    none_later (Forked g y) z (suc n) cell content next q = q.1
    none_later Root z n cell content next q = q
    none_later (Branch d x) z n cell content next q = q

    store_by : (o : Option Link) → link_of (m (BlockWord r)) ≡ o → (n : ℕ) (cell : Cell) (content : Content) (next : Then) → Reach i m (seat_at p (Bump r) b) n (link_row o b) (Store cell content next)
        → StoreLaw (Store cell content next)
    store_by None e zero cell content next q = absurd (cc)
    store_by None e (suc n) cell content next q = absurd q
    store_by (Some link) e zero cell content next q = subst StoreLaw q (store_some link.kind link.size e)
    store_by (Some link) e (suc n) cell content next q = absurd (none_later link.kind link.size n cell content next q)

    store_reached : (n : ℕ) (cell : Cell) (content : Content) (next : Then) → Reach i m (seat_at p (Bump r) b) n (row_of i.shape (seat_at p (Bump r) b) (Bump r)) (Store cell content next)
        → StoreLaw (Store cell content next)
    store_reached zero cell content next q = absurd (cc)
    store_reached (suc n) cell content next q = store_by (link_of (m (BlockWord r))) refl n cell content next q

    -- and the install
    abbrev InstallLaw : Row → Type 0
    InstallLaw (Now next) = Ends next → Law (installs s p (kind_then next))
    InstallLaw row = Unit {0}

    install_some : (k : LinkKind) (z n : ℕ) (next : Then) → link_of (m (BlockWord r)) ≡ Some (record { kind = k; size = z })
        → Reach i m (seat_at p (Bump r) b) n (link_row (Some (record { kind = k; size = z })) b) (Now next) → InstallLaw (Now next)
    install_some (Called g y) z zero next e q = absurd (cc)
    install_some (Called g y) z (suc zero) next e q = subst InstallLaw q.1 (λ ends. call_installs g y (kind_is (Called g y) z e) (q.0 ∙ ap (λ (x : ℕ). r + x) (sym (size_is (Called g y) z e))))
    install_some (Called g y) z (suc (suc n)) next e q = absurd q.1
    install_some (Forked g y) z zero next e q = absurd (cc)
    install_some (Forked g y) z (suc zero) next e q = subst InstallLaw q.1 (λ ends. fork_installs g y (kind_is (Forked g y) z e) (q.0 ∙ ap (λ (x : ℕ). r + x) (sym (size_is (Forked g y) z e))))
    install_some (Forked g y) z (suc (suc n)) next e q = absurd q.1
    install_some Root z zero next e q = subst InstallLaw q (λ ends. absurd ends)
    install_some Root z (suc n) next e q = absurd q
    install_some (Branch d x) z zero next e q = subst InstallLaw q (λ ends. absurd ends)
    install_some (Branch d x) z (suc n) next e q = absurd q

    install_by : (o : Option Link) → link_of (m (BlockWord r)) ≡ o → (n : ℕ) (next : Then) → Reach i m (seat_at p (Bump r) b) n (link_row o b) (Now next) → InstallLaw (Now next)
    install_by None e zero next q = subst InstallLaw q (λ ends. absurd ends)
    install_by None e (suc n) next q = absurd q
    install_by (Some link) e n next q = install_some link.kind link.size n next e q

    install_reached : (n : ℕ) (next : Then) → Reach i m (seat_at p (Bump r) b) n (row_of i.shape (seat_at p (Bump r) b) (Bump r)) (Now next) → InstallLaw (Now next)
    install_reached zero next q = subst InstallLaw q (λ ends. absurd ends)
    install_reached (suc n) next q = install_by (link_of (m (BlockWord r))) refl n next q

  under_of : (row : Row) → s.doing p ≡ InRow row → Under i m p (Bump r) row
  under_of row e = subst₂ (λ (q : RestartKind) (d : Doing). Does i m p q d) ke e (law.does p)

  pub bump_keeps : BumpKeeps i root input s t p r
  bump_keeps = record {
    begins = row_begins;
    loads = link_loads;
    stores = λ own bottom found cell content next e. let a = under_of (Store cell content next) e in (store_reached own bottom a.0 a.1 cell content next a.2).0;
    cells = λ cell content next e. let a = under_of (Store cell content next) e in (store_reached 0 0 a.0 a.1 cell content next a.2).1;
    installs = λ next e ends. let a = under_of (Now next) e in install_reached 0 0 a.0 a.1 next a.2 ends;
    faults = going i fair root input s t law p (ap is_taker ke) Resting tt;
  }
