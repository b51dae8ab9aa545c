-- The steps of a place in a row of kind Push1 or Push2 keep the invariant: one strand runs both
-- branches, or the right one waits.
use Rattle.std.proofs.Common.{◌≡◌, ◌≢◌, ◌⊎◌, ◌≤◌, ◌<◌, ℕ, zero, suc, ◌+◌, ◌^◌, ◌==◌, Bool, true, false, inl, inr, refl, sym, ap, ◌∙◌, subst, arith, Option, Some, None}
use Rattle.std.specs.Prelude.{nat_lt, if◌then◌else◌}
use Rattle.ppm_strands.specs.Tree.{Words, Tree}
use Rattle.ppm_strands.specs.Tree as tree
use Rattle.ppm_cells.specs.declared.cell.Cell.{Cell}
use Rattle.ppm_cells.specs.declared.cell.Cell.TheVariants.{RoomCounter, EntryWord, BlockWord}
use Rattle.ppm_cells.specs.declared.entry.Entry.{Entry}
use Rattle.ppm_cells.specs.declared.link.LinkKind.{LinkKind}
use Rattle.ppm_cells.specs.declared.link.LinkKind.TheVariants.{Root, Branch}
use Rattle.ppm_cells.specs.declared.restart.Restart.{Restart}
use Rattle.ppm_cells.specs.declared.restart.RestartKind.{RestartKind}
use Rattle.ppm_cells.specs.declared.restart.RestartKind.TheVariants.{Run, Push1, Push2}
use Rattle.ppm_cells.specs.declared.shape.Shape.{Shape}
use Rattle.ppm_cells.specs.declared.shape.Takeover.{Takeover}
use Rattle.ppm_cells.specs.declared.shape.Takeover.TheVariants.{ByPlaces, ByEntries}
use Rattle.ppm_cells.specs.declared.side.Side.TheVariants.{Left, Right}
use Rattle.ppm_strands.specs.Strand.{Frame}
use Rattle.ppm_code.specs.Strands.{Point, Result}
use Rattle.ppm_code.specs.declared.location.FrameWord.{FrameWord}
use Rattle.ppm_cells.specs.Transitions.{pushed_above, pushed_job}
use Rattle.ppm_cells.specs.DequeChange.{tag_of}
use Rattle.ppm_cells.specs.JoinOrder.{both}
use Rattle.ppm_step.specs.Contents.{word_of}
use Rattle.ppm_step.specs.Rows.{row_of, on_entry, on_number, left_begins, push_at, push_above, push_bottom, push_by_order, raised, tried, with_kind}
use Rattle.ppm_step.specs.Standings.{IsLost, stands, went_row}
use Rattle.ppm_step.specs.declared.content.Content.{Content}
use Rattle.ppm_step.specs.declared.content.Content.TheVariants.{ANumber, ARestart, AnEntry, AHolder, ALink, AFinish, Unreadable}
use Rattle.ppm_step.specs.declared.row.Point.TheVariants.{PushOrder, PushAbove}
use Rattle.ppm_step.specs.declared.row.Row.{Row}
use Rattle.ppm_step.specs.declared.row.Row.TheVariants.{Now, Store, Exchange}
use Rattle.ppm_step.specs.declared.row.Seat.{Seat}
use Rattle.ppm_step.specs.declared.row.Then.TheVariants.{Load, Install, Fork, Begin, Move, Enter, Again, Broken}
use Rattle.ppm_step.specs.Standings.{within_if, row_is_there, then_is_there}
use Rattle.ppm_frames.specs.Views.{written as write, is_cell}
use Rattle.ppm_frames.specs.Skeletons.{Stand, Begins, Over, Arrives, InPlace, Fresh, Waiting, Held, Came, Inlined, Skeleton, Leaf, Calling, Forking, readied, pushed, over_left, top, target_at, frame_at, tree_at, at, Around, plug, hook_at, at_rim}
use Rattle.ppm_frames.specs.Good.{ended, IsPlain, mark, order_of, Framed, IsSized, Match, Good, Forks}
use Rattle.ppm_frames.proofs.SkeletonLemmas.{branch_from, over_plug}
use Rattle.ppm_frames.proofs.SwapLemmas.{swap_same, good_here}
use Rattle.ppm_kept.specs.Running.{IsFair}
use Rattle.ppm_kept.specs.Branches.{IsUntaken, Untaken, Unpushed, is_taker, HasCopy}
use Rattle.ppm_kept.specs.Kept.{Setting, Doing, Resting, State, put, Blank, ceiling, Free, Does, Head, Ordered, carried, IsKept}
use Rattle.ppm_kept.specs.Moves.{doing_of, goes, stores, installs}
use Rattle.ppm_kept.specs.Laws.{Ends, kind_then}
use Rattle.ppm_kept.specs.Others.{KeptAt, Claims, Keeps}
use Rattle.ppm_kept.specs.Pushing.{Comes, kind_seat, MayHold, Push1Keeps, Push2Keeps, Push1RowKeeps, Push2RowKeeps}
use Rattle.ppm_kept.proofs.OtherLemmas.{others_keep}
use Rattle.ppm_kept.proofs.TurnLemmas.{head_cell}
use Rattle.ppm_kept.proofs.PutLemmas.{put_here, put_else}
use Rattle.ppm_kept.proofs.EndingLemmas.{not_ended}
use Rattle.ppm_kept.proofs.UntakenLemmas.{all_untaken_stays}
use Rattle.ppm_kept.proofs.BranchLemmas.{Unrun, same_part}
use Rattle.ppm_kept.proofs.BuildLemmas.{Turn, build}
use Rattle.ppm_kept.proofs.PlaceLemmas.{leaf, going, kept_same, head_on, is_at_own, is_at_other}
use Rattle.ppm_kept.proofs.ClaimLemmas.{Soft, soft_same, soft_ready, claim_law}

-- the leaf of a place that pushes
pub record Pushes (i : Setting) (s : State) (t : Skeleton) (p r : ℕ) : Type 0 where
  pub around : Around
  pub frame : ℕ
  pub slots : ℕ
  pub is : t ≡ plug around (Leaf (InPlace p) (Begins 0) frame slots)
  pub alone : at_rim p around ≡ 0
  pub framed : Framed i.code s.words (hook_at Root around) frame slots
  pub sized : IsSized i.code s.words (Begins 0) frame slots
  pub hook : hook_at Root around ≡ Branch Left r
  pub at_ : frame ≡ r + 5
  pub open_ : s.words (BlockWord (frame + 1)) ≡ ended

push_at_leaf : (i : Setting) (s : State) (t : Skeleton) (p r : ℕ) (c : Around) (st : Stand) (g n : ℕ) → t ≡ plug c (Leaf (InPlace p) st g n) → at_rim p c ≡ 0
    → Framed i.code s.words (hook_at Root c) g n → IsSized i.code s.words st g n → Match i.code s.words (Push1 r) (hook_at Root c) st g → Pushes i s t p r
push_at_leaf i s t p r c (Begins z) g n is alone framed sized match = record {
  around = c;
  frame = g;
  slots = n;
  alone = alone;
  framed = framed;
  hook = match.1;
  at_ = match.2;
  open_ = match.3;
  is = is ∙ ap (λ (b : ℕ). plug c (Leaf (InPlace p) (Begins b) g n)) match.0;
  sized = subst (λ (b : ℕ). IsSized i.code s.words (Begins b) g n) match.0 sized;
}
push_at_leaf i s t p r c Over g n is alone framed sized match = absurd match
push_at_leaf i s t p r c Arrives g n is alone framed sized match = absurd match

-- Push2 stands as Push1 does
as_first : (i : Setting) (m : Cell → ℕ) (r : ℕ) (h : LinkKind) (st : Stand) (f : ℕ) → Match i.code m (Push2 r) h st f → Match i.code m (Push1 r) h st f
as_first i m r h (Begins z) f a = a
as_first i m r h Over f a = absurd a
as_first i m r h Arrives f a = absurd a

-- the order word of a fork that is pushed
held_order : (b : Skeleton) → IsUntaken (mark b) → order_of IsPlain (mark (readied Held b)) ≡ 3
held_order (Leaf Fresh st f n) way = refl
held_order (Leaf Held st f n) way = refl
held_order (Leaf (InPlace q) st f n) way = absurd way
held_order (Leaf Waiting st f n) way = absurd way
held_order (Leaf Came st f n) way = absurd way
held_order (Leaf Inlined st f n) way = absurd way
held_order (Calling f n y t) way = absurd way
held_order (Forking f n y r a b) way = absurd way

held_was : (b : Skeleton) → IsUntaken (mark b) → (order_of IsPlain (mark b) ≡ 0) ⊎ (order_of IsPlain (mark b) ≡ 3)
held_was (Leaf Fresh st f n) way = inl refl
held_was (Leaf Held st f n) way = inr refl
held_was (Leaf (InPlace q) st f n) way = absurd way
held_was (Leaf Waiting st f n) way = absurd way
held_was (Leaf Came st f n) way = absurd way
held_was (Leaf Inlined st f n) way = absurd way
held_was (Calling f n y t) way = absurd way
held_was (Forking f n y r a b) way = absurd way

waiting_order : (b : Skeleton) → order_of IsPlain (mark (readied Waiting b)) ≡ order_of IsPlain (mark b)
waiting_order (Leaf Fresh st f n) = refl
waiting_order (Leaf Held st f n) = refl
waiting_order (Leaf (InPlace q) st f n) = refl
waiting_order (Leaf Waiting st f n) = refl
waiting_order (Leaf Came st f n) = refl
waiting_order (Leaf Inlined st f n) = refl
waiting_order (Calling f n y t) = refl
waiting_order (Forking f n y r a b) = refl

held_untaken : (b : Skeleton) → IsUntaken (mark b) → IsUntaken (mark (readied Held b))
held_untaken (Leaf Fresh st f n) way = tt
held_untaken (Leaf Held st f n) way = tt
held_untaken (Leaf (InPlace q) st f n) way = way
held_untaken (Leaf Waiting st f n) way = way
held_untaken (Leaf Came st f n) way = way
held_untaken (Leaf Inlined st f n) way = way
held_untaken (Calling f n y t) way = way
held_untaken (Forking f n y r a b) way = way

held_nobody : (p : ℕ) (b : Skeleton) → at p b ≡ 0 → at p (readied Held b) ≡ 0
held_nobody p (Leaf Fresh st f n) e = refl
held_nobody p (Leaf Held st f n) e = e
held_nobody p (Leaf (InPlace q) st f n) e = e
held_nobody p (Leaf Waiting st f n) e = e
held_nobody p (Leaf Came st f n) e = e
held_nobody p (Leaf Inlined st f n) e = e
held_nobody p (Calling f n y t) e = e
held_nobody p (Forking f n y r a b) e = e

waiting_nobody : (p : ℕ) (b : Skeleton) → at p b ≡ 0 → at p (readied Waiting b) ≡ 0
waiting_nobody p (Leaf Fresh st f n) e = refl
waiting_nobody p (Leaf Held st f n) e = e
waiting_nobody p (Leaf (InPlace q) st f n) e = e
waiting_nobody p (Leaf Waiting st f n) e = e
waiting_nobody p (Leaf Came st f n) e = e
waiting_nobody p (Leaf Inlined st f n) e = e
waiting_nobody p (Calling f n y t) e = e
waiting_nobody p (Forking f n y r a b) e = e

-- what a row comes to after a change of an entry
tried_rows : (s : Shape) (seat : Seat) (P : Row → Type 0) (cell : Cell) (old : Entry) (re : Restart) → P (Now Broken) → P (Now (Install re)) → ((new : Entry) → P (Exchange cell (AnEntry old) (AnEntry new) (Install re)))
    → (a : Option Entry) (n : ℕ) (rest : Row) → Comes s seat n (tried cell old a (Install re)) rest → P rest
tried_rows s seat P cell old re broken ins exch None zero rest q = subst P q ins
tried_rows s seat P cell old re broken ins exch None (suc n) rest q = absurd q
tried_rows s seat P cell old re broken ins exch (Some new) n rest q = by (nat_lt (tag_of old + 1) (2 ^ 34)) n q
  where
    by : (b : Bool) (n : ℕ) → Comes s seat n (raised cell old new (Install re) b) rest → P rest
    by true zero q = subst P q (exch new)
    by true (suc zero) q = subst P q ins
    by true (suc (suc n)) q = absurd q
    by false zero q = subst P q broken
    by false (suc n) q = absurd q

-- rows that are at their ends
broken_comes : (s : Shape) (seat : Seat) (P : Row → Type 0) → P (Now Broken) → (n : ℕ) (rest : Row) → Comes s seat n (Now Broken) rest → P rest
broken_comes s seat P broken zero rest q = subst P q broken
broken_comes s seat P broken (suc n) rest q = absurd q

install_comes : (s : Shape) (seat : Seat) (P : Row → Type 0) (re : Restart) → P (Now (Install re)) → (n : ℕ) (rest : Row) → Comes s seat n (Now (Install re)) rest → P rest
install_comes s seat P re ins zero rest q = subst P q ins
install_comes s seat P re ins (suc n) rest q = absurd q

-- where an entry is read
entry_comes : (s : Shape) (seat : Seat) (P : Row → Type 0) → P (Now Broken) → (go : Entry → Row) → ((e : Entry) (n : ℕ) (rest : Row) → Comes s seat n (go e) rest → P rest)
    → (w : Content) (n : ℕ) (rest : Row) → Comes s seat n (on_entry w go) rest → P rest
entry_comes s seat P broken go by (AnEntry e) n rest q = by e n rest q
entry_comes s seat P broken go by (ANumber e) n rest q = broken_comes s seat P broken n rest q
entry_comes s seat P broken go by (ARestart e) n rest q = broken_comes s seat P broken n rest q
entry_comes s seat P broken go by (AHolder e) n rest q = broken_comes s seat P broken n rest q
entry_comes s seat P broken go by (ALink e) n rest q = broken_comes s seat P broken n rest q
entry_comes s seat P broken go by (AFinish e) n rest q = broken_comes s seat P broken n rest q
entry_comes s seat P broken go by Unreadable n rest q = broken_comes s seat P broken n rest q

number_comes : (s : Shape) (seat : Seat) (P : Row → Type 0) → P (Now Broken) → (go : ℕ → Row) → ((e n : ℕ) (rest : Row) → Comes s seat n (go e) rest → P rest)
    → (w : Content) (n : ℕ) (rest : Row) → Comes s seat n (on_number w go) rest → P rest
number_comes s seat P broken go by (ANumber e) n rest q = by e n rest q
number_comes s seat P broken go by (AnEntry e) n rest q = broken_comes s seat P broken n rest q
number_comes s seat P broken go by (ARestart e) n rest q = broken_comes s seat P broken n rest q
number_comes s seat P broken go by (AHolder e) n rest q = broken_comes s seat P broken n rest q
number_comes s seat P broken go by (ALink e) n rest q = broken_comes s seat P broken n rest q
number_comes s seat P broken go by (AFinish e) n rest q = broken_comes s seat P broken n rest q
number_comes s seat P broken go by Unreadable n rest q = broken_comes s seat P broken n rest q

-- what both kinds have
pub record Pushing (i : Setting) (s : State) (t : Skeleton) (p r : ℕ) (k : RestartKind) : Type 0 where
  pub roofs : (n : Cell → ℕ) → ceiling i n p k ≡ n (RoomCounter p)
  pub blank : (n : Cell → ℕ) → Free i n p k → Blank i n p (n (RoomCounter p))
  pub free : (n : Cell → ℕ) → Blank i n p (n (RoomCounter p)) → Free i n p k
  pub does : (own bottom : ℕ) (n : Cell → ℕ) (rest : Row) → Does i n p k (doing_of (stands i.shape i.code (kind_seat own p k bottom) rest))
  pub one : (n : Cell → ℕ) → carried n k ≡ 1
  pub match : (n : Cell → ℕ) (h : LinkKind) (st : Stand) (f : ℕ) → Match i.code n k h st f → Match i.code n (Push1 r) h st f
  pub ordered : (n : Cell → ℕ) → Ordered i s t n k
  pub none : is_taker k ≡ false

module _ (i : Setting) (fair : IsFair i.code) (root : Tree (Frame FrameWord Point) Result) (input : Words) (s : State) (t : Skeleton) (law : IsKept i root input s t) (p : ℕ)
    (there : p < i.shape.processors) (keeps : Keeps i s t p) (r : ℕ) (k : RestartKind) (ke : s.kind p ≡ k) (pushing : Pushing i s t p r k) where
  abbrev m : Cell → ℕ
  m = s.words

  abbrev Law : State → Skeleton → Type 0
  Law z v = IsKept i root input z v

  pushes : Pushes i s t p r
  pushes = let g = leaf i fair root input s t law p (ap (carried m) ke ∙ pushing.one m) in
      push_at_leaf i s t p r g.around g.stand g.frame g.slots g.is g.alone g.framed g.sized
      (pushing.match m (hook_at Root g.around) g.stand g.frame (subst (λ (k : RestartKind). Match i.code m k (hook_at Root g.around) g.stand g.frame) ke g.match))

  abbrev low : Skeleton
  low = Leaf (InPlace p) (Begins 0) pushes.frame pushes.slots

  roof : ceiling i m p (s.kind p) ≡ m (RoomCounter p)
  roof = ap (ceiling i m p) ke ∙ pushing.roofs m

  frees : Free i m p k
  frees = subst (Free i m p) ke (law.free p)

  blank : Blank i m p (m (RoomCounter p))
  blank = pushing.blank m frees

  head : Head i s t (r + 1)
  head = head_on i fair root input s t law p pushes.around low r Left pushes.is pushes.hook

  one_low : 1 ≤ at p low
  one_low = let a = is_at_own p in omega (arith, a)

  abbrev standing : (own bottom : ℕ) → Row → Doing
  standing own bottom rest = doing_of (stands i.shape i.code (kind_seat own p k bottom) rest)

  pub goes_on : (own bottom : ℕ) (rest : Row) → Law (goes s p (stands i.shape i.code (kind_seat own p k bottom) rest)) t
  goes_on own bottom rest = going i fair root input s t law p (ap is_taker ke ∙ pushing.none) (standing own bottom rest) (subst (λ (k : RestartKind). Does i m p k (standing own bottom rest)) (sym ke) (pushing.does own bottom m rest))

  pub faults : Law (goes s p IsLost) t
  faults = going i fair root input s t law p (ap is_taker ke ∙ pushing.none) Resting tt

  -- what is installed changes no word
  module _ (next : RestartKind) (match : Match i.code m next (hook_at Root pushes.around) (Begins 0) pushes.frame) (top_is : ceiling i m p next ≡ m (RoomCounter p)) (one : carried m next ≡ 1) (next_free : Free i m p next)
      (next_ordered : Ordered i s t m next) (copy : HasCopy next) (own : Unpushed p (plug pushes.around low) next) (no_taker : is_taker next ≡ false) where
    plain_turn : Turn i s t p (installs s p next) pushes.around low low next Resting
    plain_turn = record {
      is = pushes.is;
      alone = pushes.alone;
      there = there;
      kind = put_here s.kind p next;
      kinds = λ q ne. put_else s.kind p next q ne;
      doing = put_here s.doing p Resting;
      doings = λ q ne. put_else s.doing p Resting q ne;
      around = λ x ne. refl;
      step = inr (refl, refl);
      swap = swap_same m m (hook_at Root pushes.around) low (λ x ne. refl);
      good = (pushes.framed, pushes.sized, subst (λ (q : RestartKind). Match i.code m q (hook_at Root pushes.around) (Begins 0) pushes.frame) (sym (put_here s.kind p next)) match);
      adds = λ x. inl (omega arith, omega arith);
      grows = omega (arith, roof, top_is);
      pays = omega (arith, roof, top_is);
      bound = let b = (law.rooms p).1 in omega (arith, b, roof, top_is);
      places = is_at_own p ∙ sym one;
      placed = λ q ne. refl;
      free = next_free;
      does = tt;
      orders = next_ordered;
      others = λ q ne. kept_same i fair root input s t law p q;
      unrun = same_part copy own no_taker;
      finishes = not_ended m m t pushes.around low low pushes.is refl refl;
    }

    plain_install : Law (installs s p next) t
    plain_install = subst (IsKept i root input (installs s p next)) (sym pushes.is) (build i fair root input s t law p (installs s p next) pushes.around low low next Resting plain_turn)

  pub run_installs : Law (installs s p (Run (r + 5) 0)) t
  run_installs = plain_install (Run (r + 5) 0) (sym pushes.at_, refl) refl refl
      (record { block = λ o lt out. blank o lt; outcome = inl (ap (λ (b : ℕ). m (BlockWord (b + 1))) (sym pushes.at_) ∙ pushes.open_) }) tt
      (omega arith) tt refl

  pub push2_installs : Law (installs s p (Push2 r)) t
  push2_installs = plain_install (Push2 r) (refl, pushes.hook, pushes.at_, pushes.open_) refl refl blank tt tt tt refl

  -- a fork that is pushed anew, by who inherits it
  pub push1_installs : Untaken p r t → Law (installs s p (Push1 r)) t
  push1_installs own = plain_install (Push1 r) (refl, pushes.hook, pushes.at_, pushes.open_) refl refl blank tt tt (subst (Untaken p r) pushes.is own) refl

  -- the fork of the place
  module _ (own bottom : ℕ) (after : Row) (c : Around) (g l y : ℕ) (b : Skeleton) (is : t ≡ plug c (Forking g l y r low b)) (alone : at_rim p c ≡ 0) (nobody : at p b ≡ 0) where
    abbrev d : Doing
    d = standing own bottom after

    abbrev u : Skeleton
    u = Forking g l y r low b

    abbrev h : LinkKind
    h = hook_at Root c

    good_u : Good i.code m s.kind h u
    good_u = good_here i.code m s.kind Root c u (subst (Good i.code m s.kind Root) is law.good)

    abbrev forks : Forks i.code m h g l y r low b
    forks = good_u.0

    -- one strand runs both
    module _ (way : IsUntaken (mark b)) where
      others : (q : ℕ) → q ≢ p → KeptAt i s t (write m (BlockWord (r + 1)) 3) q
      others q ne = keeps pushes.around low (BlockWord (r + 1)) 3 pushes.is pushes.alone (λ a other. is_at_other p a other) one_low
          (inr (subst (λ (k : LinkKind). Claims m k (BlockWord (r + 1)) 3) (sym pushes.hook) (refl, elim (held_was b way) [ inl e ↦ inl (forks.order ∙ e) | inr e ↦ inr (forks.order ∙ e) ], inr refl))) q ne

      order_stored : Law (record { words = write m (BlockWord (r + 1)) 3; kind = s.kind; doing = put s.doing p d }) (over_left p (pushed Held) t)
      order_stored = subst (IsKept i root input (record { words = write m (BlockWord (r + 1)) 3; kind = s.kind; doing = put s.doing p d }))
          (sym (ap (over_left p (pushed Held)) is ∙ over_plug p (pushed Held) c g l y r (Begins 0) pushes.frame pushes.slots b alone))
          (claim_law i fair root input s t law p there r 3 k ke head pushing.roofs blank d c g l y low b low (readied Held b) is alone (soft_same i.code p low) (soft_ready i.code p Held (λ n k h st f a. a) (λ q. refl) b)
          (held_order b way) (let one = is_at_own p in let z = held_nobody p b nobody in let o = pushing.one (write m (BlockWord (r + 1)) 3) in omega (arith, one, z, o)) others
          (pushing.free (write m (BlockWord (r + 1)) 3)) (pushing.does own bottom (write m (BlockWord (r + 1)) 3) after) (pushing.ordered (write m (BlockWord (r + 1)) 3))
          (held_untaken b) pushing.none)

    -- the right branch may be taken, where the place has not to push any more
    abbrev b' : Skeleton
    b' = readied Waiting b

    soft' : Soft i.code p b b'
    soft' = soft_ready i.code p Waiting (λ n k h st f a. a) (λ q. refl) b

    abbrev v : Skeleton
    v = Forking g l y r low b'

    abbrev z' : State
    z' = record { words = m; kind = s.kind; doing = put s.doing p d }

    ready_unrun : ((w : Skeleton) → Unpushed p w k) → Unrun s p c u v k d
    ready_unrun no_push = record {
      copy = subst HasCopy ke (law.copies p);
      pushes = λ most. no_push (plug c v);
      untaken = λ q n ne old. (λ e one. absurd (let z = is_at_other p q ne in omega (arith, one, z)), tt, soft'.untaken q n old.2);
      waits = λ q n x a ne taker about. (
        λ e. e,
        λ e. elim e [ inl e ↦ inl (e.0, soft'.waiting x e.1) | inr e ↦ elim e [ inl e ↦ absurd e | inr e ↦ inr (inr (soft'.waits n x e)) ] ],
      );
      aims = inl pushing.none;
    }

    ready_turn : ((w : Skeleton) → Unpushed p w k) → Turn i s t p z' c u v k d
    ready_turn no_push = record {
      is = is;
      alone = alone;
      there = there;
      kind = ke;
      kinds = λ q ne. refl;
      doing = put_here s.doing p d;
      doings = λ q ne. put_else s.doing p d q ne;
      around = λ x ne. refl;
      step = inr (
        ap (λ (a : ℕ). tree.Fork (frame_at m g l y (target_at m (top low)) (target_at m a)) (tree_at m (Branch Left r) low) (tree_at m (Branch Right r) b')) soft'.head
            ∙ ap (λ (w : Tree (Frame FrameWord Point) Result). tree.Fork (frame_at m g l y (target_at m (top low)) (target_at m (top b))) (tree_at m (Branch Left r) low) w) (soft'.trees m (Branch Right r)),
        refl,
      );
      swap = record { aim = record { head = refl; aim = refl }; order = refl; gives = inl (refl, refl) };
      good = (
        record {
          framed = forks.framed;
          size = forks.size;
          outcome = forks.outcome;
          hook = forks.hook;
          order = forks.order ∙ sym (waiting_order b);
          left = forks.left;
          right = soft'.head ∙ forks.right;
          left_target = forks.left_target;
          right_target = subst (λ (w : ℕ). m (BlockWord (w + 5)) ≤ l) (sym soft'.head) forks.right_target;
        },
        good_u.1,
        soft'.good m s.kind (Branch Right r) good_u.2,
      );
      adds = λ x. inl (let e = soft'.counts (Branch Right r) x in omega (arith, e), let e = soft'.plains (Branch Right r) x in omega (arith, e));
      grows = let e = pushing.roofs m in omega (arith, roof, e);
      pays = let e = pushing.roofs m in omega (arith, roof, e);
      bound = let a = (law.rooms p).1 in let e = pushing.roofs m in omega (arith, a, roof, e);
      places = let one = is_at_own p in let z = waiting_nobody p b nobody in let o = pushing.one m in omega (arith, one, z, o);
      placed = λ q ne. let e = soft'.others q ne in omega (arith, e);
      free = frees;
      does = pushing.does own bottom m after;
      orders = pushing.ordered m;
      others = λ q ne. kept_same i fair root input s t law p q;
      unrun = ready_unrun no_push;
      finishes = not_ended m m t c u v is refl refl;
    }

    ready : ((w : Skeleton) → Unpushed p w k) → Law z' (over_left p (pushed Waiting) t)
    ready pushed_all = subst (IsKept i root input z') (sym (ap (over_left p (pushed Waiting)) is ∙ over_plug p (pushed Waiting) c g l y r (Begins 0) pushes.frame pushes.slots b alone))
        (build i fair root input s t law p z' c u v k d (ready_turn pushed_all))

  pub held_now : (own bottom : ℕ) (after : Row) → MayHold t p r → Law (stores s p (BlockWord (r + 1)) 3 (stands i.shape i.code (kind_seat own p k bottom) after)) (over_left p (pushed Held) t)
  held_now own bottom after may = elim (branch_from Root pushes.around r Left pushes.hook) [
    | inl k ↦ absurd (let b = k.0 in cc)
    | inr o ↦ let e = o.places p in let a = pushes.alone in let is : t ≡ plug o.around (Forking o.frame o.slots o.copy r low o.beside) = pushes.is ∙ o.is low in
        order_stored own bottom after o.around o.frame o.slots o.copy o.beside is (omega (arith, e, a)) (omega (arith, e, a)) (may o.around o.frame o.slots o.copy low o.beside is one_low)
  ]

  pub waits_now : ((w : Skeleton) → Unpushed p w k) → (own bottom : ℕ) (after : Row) → Law (goes s p (stands i.shape i.code (kind_seat own p k bottom) after)) (over_left p (pushed Waiting) t)
  waits_now pushed_all own bottom after = elim (branch_from Root pushes.around r Left pushes.hook) [
    | inl k ↦ absurd (let b = k.0 in cc)
    | inr o ↦ let e = o.places p in let a = pushes.alone in
        ready own bottom after o.around o.frame o.slots o.copy o.beside (pushes.is ∙ o.is low) (omega (arith, e, a)) (omega (arith, e, a)) pushed_all
  ]

-- any row may be under way
within1 : (i : Setting) (p r : ℕ) (seat : Seat) (n : Cell → ℕ) (rest : Row) (b : Bool) → Does i n p (Push1 r) (doing_of (within_if seat rest b))
within1 i p r seat n rest true = tt
within1 i p r seat n rest false = tt

within2 : (i : Setting) (p r : ℕ) (seat : Seat) (n : Cell → ℕ) (rest : Row) (b : Bool) → Does i n p (Push2 r) (doing_of (within_if seat rest b))
within2 i p r seat n rest true = tt
within2 i p r seat n rest false = tt

does1 : (i : Setting) (p r own bottom : ℕ) (n : Cell → ℕ) (rest : Row) → Does i n p (Push1 r) (doing_of (stands i.shape i.code (kind_seat own p (Push1 r) bottom) rest))
does1 i p r own bottom n (Now (Load x)) = within1 i p r (kind_seat own p (Push1 r) bottom) n (Now (Load x)) (then_is_there i.shape (kind_seat own p (Push1 r) bottom) (Load x))
does1 i p r own bottom n (Now (Install x)) = within1 i p r (kind_seat own p (Push1 r) bottom) n (Now (Install x)) (then_is_there i.shape (kind_seat own p (Push1 r) bottom) (Install x))
does1 i p r own bottom n (Now (Fork x)) = within1 i p r (kind_seat own p (Push1 r) bottom) n (Now (Fork x)) (then_is_there i.shape (kind_seat own p (Push1 r) bottom) (Fork x))
does1 i p r own bottom n (Now (Begin x w v)) = within1 i p r (kind_seat own p (Push1 r) bottom) n (Now (Begin x w v)) (then_is_there i.shape (kind_seat own p (Push1 r) bottom) (Begin x w v))
does1 i p r own bottom n (Now (Move x)) = within1 i p r (kind_seat own p (Push1 r) bottom) n (Now (Move x)) (then_is_there i.shape (kind_seat own p (Push1 r) bottom) (Move x))
does1 i p r own bottom n (Now (Enter x)) = tt
does1 i p r own bottom n (Now Again) = tt
does1 i p r own bottom n (Now Broken) = tt
does1 i p r own bottom n (Store c w x) = within1 i p r (kind_seat own p (Push1 r) bottom) n (Store c w x) (row_is_there i.shape (kind_seat own p (Push1 r) bottom) (Store c w x))
does1 i p r own bottom n (Exchange c v w x) = within1 i p r (kind_seat own p (Push1 r) bottom) n (Exchange c v w x) (row_is_there i.shape (kind_seat own p (Push1 r) bottom) (Exchange c v w x))

does2 : (i : Setting) (p r own bottom : ℕ) (n : Cell → ℕ) (rest : Row) → Does i n p (Push2 r) (doing_of (stands i.shape i.code (kind_seat own p (Push2 r) bottom) rest))
does2 i p r own bottom n (Now (Load x)) = within2 i p r (kind_seat own p (Push2 r) bottom) n (Now (Load x)) (then_is_there i.shape (kind_seat own p (Push2 r) bottom) (Load x))
does2 i p r own bottom n (Now (Install x)) = within2 i p r (kind_seat own p (Push2 r) bottom) n (Now (Install x)) (then_is_there i.shape (kind_seat own p (Push2 r) bottom) (Install x))
does2 i p r own bottom n (Now (Fork x)) = within2 i p r (kind_seat own p (Push2 r) bottom) n (Now (Fork x)) (then_is_there i.shape (kind_seat own p (Push2 r) bottom) (Fork x))
does2 i p r own bottom n (Now (Begin x w v)) = within2 i p r (kind_seat own p (Push2 r) bottom) n (Now (Begin x w v)) (then_is_there i.shape (kind_seat own p (Push2 r) bottom) (Begin x w v))
does2 i p r own bottom n (Now (Move x)) = within2 i p r (kind_seat own p (Push2 r) bottom) n (Now (Move x)) (then_is_there i.shape (kind_seat own p (Push2 r) bottom) (Move x))
does2 i p r own bottom n (Now (Enter x)) = tt
does2 i p r own bottom n (Now Again) = tt
does2 i p r own bottom n (Now Broken) = tt
does2 i p r own bottom n (Store c w x) = within2 i p r (kind_seat own p (Push2 r) bottom) n (Store c w x) (row_is_there i.shape (kind_seat own p (Push2 r) bottom) (Store c w x))
does2 i p r own bottom n (Exchange c v w x) = within2 i p r (kind_seat own p (Push2 r) bottom) n (Exchange c v w x) (row_is_there i.shape (kind_seat own p (Push2 r) bottom) (Exchange c v w x))

module _ (i : Setting) (fair : IsFair i.code) (root : Tree (Frame FrameWord Point) Result) (input : Words) (s : State) (t : Skeleton) (law : IsKept i root input s t) (p : ℕ)
    (there : p < i.shape.processors) (keeps : Keeps i s t p) (r : ℕ) (ke : s.kind p ≡ Push1 r) where
  first_pushing : Pushing i s t p r (Push1 r)
  first_pushing = record { roofs = λ n. refl; blank = λ n a. a; free = λ n a. a; does = does1 i p r; one = λ n. refl; match = λ n h st f a. a; ordered = λ n. tt; none = refl }

  abbrev Law1 : State → Skeleton → Type 0
  Law1 z v = IsKept i root input z v

  first_loads : (own bottom : ℕ) (rest : Row) → Law1 (goes s p (stands i.shape i.code (kind_seat own p (Push1 r) bottom) rest)) t
  first_loads = goes_on i fair root input s t law p there keeps r (Push1 r) ke first_pushing

  may_hold : MayHold t p r
  may_hold = (all_untaken_stays p r).holds t (subst (Unpushed p t) ke (law.untaken p))

  module _ (own bottom : ℕ) where
    abbrev seat1 : Seat
    seat1 = kind_seat own p (Push1 r) bottom

    abbrev P1 : Row → Type 0
    P1 (Now next) = Ends next → Law1 (installs s p (kind_then next)) t
    P1 (Store cell content next) = (found : ℕ) → (cell ≡ BlockWord (r + 1)) × (word_of content ≡ 3)
        × Law1 (stores s p cell (word_of content) (went_row i.shape i.code seat1 found found (Store cell content next))) (over_left p (pushed Held) t) × (is_cell i.shape cell ≡ true)
    P1 (Exchange cell old new next) = (found : ℕ) → (cell ≡ EntryWord p (bottom + 1)) × Law1 (goes s p (went_row i.shape i.code seat1 found found (Exchange cell old new next))) t

    left1 : P1 (Now (left_begins r bottom))
    left1 ends = run_installs i fair root input s t law p there keeps r (Push1 r) ke first_pushing

    above_rows : (e : Entry) (n : ℕ) (rest : Row) → Comes i.shape seat1 n (push_above seat1 r e) rest → P1 rest
    above_rows e n rest q = tried_rows i.shape seat1 P1 (EntryWord p (bottom + 1)) e (record { kind = Push2 r; bottom = bottom }) (λ ends. absurd ends)
        (λ ends. push2_installs i fair root input s t law p there keeps r (Push1 r) ke first_pushing)
        (λ new found. (refl, first_loads own bottom (Now (with_kind seat1 (Push2 r))))) (pushed_above e) n rest q

    above_load : (n : ℕ) (rest : Row) → Comes i.shape seat1 n (Now (Load (PushAbove r))) rest → P1 rest
    above_load zero rest q = subst P1 q (λ ends. absurd ends)
    above_load (suc n) rest q = entry_comes i.shape seat1 P1 (λ ends. absurd ends) (push_above seat1 r) above_rows q.1 n rest q.2

    order_rows : (x n : ℕ) (rest : Row) → Comes i.shape seat1 n (push_by_order seat1 r x) rest → P1 rest
    order_rows x n rest q = by (x == both) q
      where
        by : (b : Bool) → Comes i.shape seat1 n (if b then Now (left_begins r bottom) else Now (Load (PushAbove r))) rest → P1 rest
        by true q = install_comes i.shape seat1 P1 (record { kind = Run (r + 5) 0; bottom = bottom }) left1 n rest q
        by false q = above_load n rest q

    order_load : (n : ℕ) (rest : Row) → Comes i.shape seat1 n (Now (Load (PushOrder r))) rest → P1 rest
    order_load zero rest q = subst P1 q (λ ends. absurd ends)
    order_load (suc n) rest q = number_comes i.shape seat1 P1 (λ ends. absurd ends) (push_by_order seat1 r) order_rows q.1 n rest q.2

    push_rows : (last : Bool) (by : Takeover) (n : ℕ) (rest : Row) → Comes i.shape seat1 n (push_at seat1 by r last) rest → P1 rest
    push_rows true by zero rest q = subst P1 q (λ found. (
      refl,
      refl,
      held_now i fair root input s t law p there keeps r (Push1 r) ke first_pushing own bottom (Now (left_begins r bottom)) may_hold,
      head_cell i root input s t law (r + 1) (head i fair root input s t law p there keeps r (Push1 r) ke first_pushing),
    ))
    push_rows true by (suc n) rest q = install_comes i.shape seat1 P1 (record { kind = Run (r + 5) 0; bottom = bottom }) left1 n rest q
    push_rows false ByPlaces n rest q = above_load n rest q
    push_rows false ByEntries n rest q = order_load n rest q

    first_rows : (n : ℕ) (rest : Row) → Comes i.shape seat1 n (row_of i.shape seat1 (Push1 r)) rest → P1 rest
    first_rows n rest q = push_rows (bottom + 1 == i.shape.slots) i.shape.takeover n rest q

  pub push1_keeps : Push1Keeps i root input s t p r
  push1_keeps = record {
    loads = first_loads;
    stores = λ own bottom n found cell content next q. first_rows own bottom n (Store cell content next) q found;
    exchanges = λ own bottom n found cell old new next q. first_rows own bottom n (Exchange cell old new next) q found;
    installs = λ own bottom n next ends q. first_rows own bottom n (Now next) q ends;
    faults = faults i fair root input s t law p there keeps r (Push1 r) ke first_pushing;
  }

module _ (i : Setting) (fair : IsFair i.code) (root : Tree (Frame FrameWord Point) Result) (input : Words) (s : State) (t : Skeleton) (law : IsKept i root input s t) (p : ℕ)
    (there : p < i.shape.processors) (keeps : Keeps i s t p) (r : ℕ) (ke : s.kind p ≡ Push2 r) where
  second_pushing : Pushing i s t p r (Push2 r)
  second_pushing = record { roofs = λ n. refl; blank = λ n a. a; free = λ n a. a; does = does2 i p r; one = λ n. refl; match = λ n h st f a. as_first i n r h st f a; ordered = λ n. tt; none = refl }

  abbrev Law2 : State → Skeleton → Type 0
  Law2 z v = IsKept i root input z v

  -- what it may be at next, whoever goes on with it
  pub second_runs : Law2 (installs s p (Run (r + 5) 0)) t
  second_runs = run_installs i fair root input s t law p there keeps r (Push2 r) ke second_pushing

  pub second_again : Untaken p r t → Law2 (installs s p (Push1 r)) t
  second_again = push1_installs i fair root input s t law p there keeps r (Push2 r) ke second_pushing

  second_loads : (own bottom : ℕ) (rest : Row) → Law2 (goes s p (stands i.shape i.code (kind_seat own p (Push2 r) bottom) rest)) t
  second_loads = goes_on i fair root input s t law p there keeps r (Push2 r) ke second_pushing

  module _ (own bottom : ℕ) where
    abbrev seat2 : Seat
    seat2 = kind_seat own p (Push2 r) bottom

    abbrev P2 : Row → Type 0
    P2 (Now next) = Ends next → Law2 (installs s p (kind_then next)) t
    P2 (Store cell content next) = ⊥
    P2 (Exchange cell old new next) = (found : ℕ) → (cell ≡ EntryWord p bottom) × Law2 (goes s p (went_row i.shape i.code seat2 found found (Exchange cell old new next))) t
        × Law2 (goes s p (went_row i.shape i.code seat2 found found (Exchange cell old new next))) (over_left p (pushed Waiting) t)

    bottom_rows : (e : Entry) (n : ℕ) (rest : Row) → Comes i.shape seat2 n (push_bottom seat2 r e) rest → P2 rest
    bottom_rows e n rest q = tried_rows i.shape seat2 P2 (EntryWord p bottom) e (record { kind = Run (r + 5) 0; bottom = bottom + 1 }) (λ ends. absurd ends)
        (λ ends. second_runs)
        (λ new found. (refl, second_loads own bottom (Now (left_begins r (bottom + 1))), waits_now i fair root input s t law p there keeps r (Push2 r) ke second_pushing (λ w. tt) own bottom (Now (left_begins r (bottom + 1)))))
        (pushed_job e r) n rest q

    second_rows : (n : ℕ) (rest : Row) → Comes i.shape seat2 n (row_of i.shape seat2 (Push2 r)) rest → P2 rest
    second_rows zero rest q = subst P2 q (λ ends. absurd ends)
    second_rows (suc n) rest q = entry_comes i.shape seat2 P2 (λ ends. absurd ends) (push_bottom seat2 r) bottom_rows q.1 n rest q.2

  pub push2_keeps : Push2Keeps i root input s t p r
  push2_keeps = record {
    loads = second_loads;
    stores_none = λ own bottom n cell content next q. second_rows own bottom n (Store cell content next) q;
    exchanges = λ own bottom n found cell old new next q. second_rows own bottom n (Exchange cell old new next) q found;
    installs = λ own bottom n next ends q. second_rows own bottom n (Now next) q ends;
    faults = faults i fair root input s t law p there keeps r (Push2 r) ke second_pushing;
  }

pub push1_row_keeps : Push1RowKeeps
push1_row_keeps i fair root input s t law p there r ke = push1_keeps i fair root input s t law p there (others_keep i fair root input s t law p) r ke

pub push2_row_keeps : Push2RowKeeps
push2_row_keeps i fair root input s t law p there r ke = push2_keeps i fair root input s t law p there (others_keep i fair root input s t law p) r ke
