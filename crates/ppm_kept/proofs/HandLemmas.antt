-- The leaf of one place becomes another's: both trees are the same but for whose that leaf is, and so
-- the words are kept.
use Rattle.std.proofs.Common.{◌≡◌, ◌≢◌, ◌⊎◌, ◌≤◌, ◌<◌, ℕ, ◌+◌, ◌==◌, true, false, inl, inr, refl, sym, ap, ◌∙◌, subst, subst₂, arith}
use Rattle.std.proofs.lemmas.Bool.{cases_eq, cases_Bool, cond-true, cond-false}
use Rattle.ppm_strands.specs.Tree.{Words, Tree}
use Rattle.ppm_strands.specs.Ahead.{Ahead}
use Rattle.ppm_cells.specs.declared.cell.Cell.{Cell}
use Rattle.ppm_cells.specs.declared.cell.Cell.TheVariants.{RoomCounter}
use Rattle.ppm_cells.specs.declared.link.LinkKind.{LinkKind}
use Rattle.ppm_cells.specs.declared.link.LinkKind.TheVariants.{Root}
use Rattle.ppm_cells.specs.declared.restart.RestartKind.{RestartKind}
use Rattle.ppm_cells.specs.declared.restart.RestartKind.TheVariants.{Run, Bump, Push1, Push2, Unwind, Arrive, Join, Pop1, Pop2, Seek, Steal, Check, Take, Take2}
use Rattle.ppm_strands.specs.Strand.{Frame}
use Rattle.ppm_code.specs.Sizes.{frame_size}
use Rattle.ppm_code.specs.Strands.{Point, Result}
use Rattle.ppm_code.specs.declared.location.FrameWord.{FrameWord}
use Rattle.ppm_step.specs.declared.row.Row.TheVariants.{Now}
use Rattle.ppm_step.specs.declared.row.Then.TheVariants.{Begin}
use Rattle.ppm_frames.specs.Seen.{arrays_at}
use Rattle.ppm_frames.specs.Skeletons.{Stand, Begins, Over, Arrives, InPlace, Fresh, Waiting, Held, Came, Inlined, Skeleton, Leaf, Calling, Forking, tree_of, tree_at, count, plain, at, Around, Top, AtCall, AtLeft, AtRight, plug, hook_at, rim, at_rim}
use Rattle.ppm_frames.specs.Good.{ended, given, is_over, Good, Match}
use Rattle.ppm_frames.proofs.SkeletonLemmas.{tree_in, count_plug, plain_plug, at_plug, grow_plug}
use Rattle.ppm_frames.proofs.SwapLemmas.{Swap, swap_same, good_same, good_swap}
use Rattle.ppm_kept.specs.Running.{strands}
use Rattle.ppm_kept.specs.Branches.{Untaken, Unpushed, IsWaitingAt, Waits, is_taker, HasCopy}
use Rattle.ppm_kept.specs.Kept.{Setting, start, end_of, owner, Doing, Resting, InRow, State, put, Blank, Ended, IsFinished, carried, ceiling, Free, Does, Head, Ordered, IsKept}
use Rattle.ppm_kept.specs.Others.{IsIdle}
use Rattle.ppm_kept.specs.Heirs.{handed}
use Rattle.ppm_kept.proofs.BranchLemmas.{unpushed_less, waits_swap}
use Rattle.ppm_kept.proofs.IdleLemmas.{idle_roof}
use Rattle.ppm_kept.proofs.PlaceLemmas.{Leafed, is_at_own, is_at_other}
use Rattle.ppm_kept.proofs.PutLemmas.{put_here, put_else}

-- a part that was one place's, and is another's
pub record Hand (i : Setting) (s : State) (t : Skeleton) (v p : ℕ) (kind : ℕ → RestartKind) : Type 0 where
  pub around : Around
  pub was : Skeleton
  pub now : Skeleton
  pub is : t ≡ plug around was
  pub alone : at_rim v around ≡ 0
  pub away : at_rim p around ≡ 0
  pub tree : tree_at s.words (hook_at Root around) now ≡ tree_at s.words (hook_at Root around) was
  pub swap : Swap s.words s.words (hook_at Root around) was now
  pub good : Good i.code s.words kind (hook_at Root around) now
  pub counts : (x : ℕ) → count (hook_at Root around) now x ≡ count (hook_at Root around) was x
  pub plains : (x : ℕ) → plain (hook_at Root around) now x ≡ plain (hook_at Root around) was x
  pub here : at p now ≡ at v was
  pub gone : at v now ≡ 0
  pub others : (q : ℕ) → q ≢ p → q ≢ v → at q now ≡ at q was
  pub untaken : (q r : ℕ) → Untaken q r was → Untaken q r now
  pub waiting : (f : ℕ) → IsWaitingAt f was → IsWaitingAt f now
  pub waits : (r f : ℕ) → Waits r f was → Waits r f now
  pub ends : Ended s.words t → Ended s.words (plug around now)

module _ (i : Setting) (root : Tree (Frame FrameWord Point) Result) (input : Words) (s : State) (t : Skeleton) (law : IsKept i root input s t) (v p : ℕ) (ne : p ≢ v) (idle : IsIdle (s.kind p))
    (k : RestartKind) (kv : s.kind v ≡ k) (rests : s.doing v ≡ Resting) where
  abbrev m : Cell → ℕ
  m = s.words

  abbrev z : State
  z = record { words = s.words; kind = put (put s.kind v Seek) p k; doing = put s.doing p Resting }

  pub kind_p : z.kind p ≡ k
  kind_p = put_here (put s.kind v Seek) p k

  pub kind_v : z.kind v ≡ Seek
  kind_v = put_else (put s.kind v Seek) p k v (λ e. ne (sym e)) ∙ put_here s.kind v Seek

  pub kind_q : (q : ℕ) → q ≢ p → q ≢ v → z.kind q ≡ s.kind q
  kind_q q a b = put_else (put s.kind v Seek) p k q a ∙ put_else s.kind v Seek q b

  each : (P : ℕ → Type 0) → P p → P v → ((q : ℕ) → q ≢ p → q ≢ v → P q) → (q : ℕ) → P q
  each P own left others q = elim (cases_eq q p) [
    | inl e ↦ subst P (sym e) own
    | inr a ↦ elim (cases_eq q v) [ inl e ↦ subst P (sym e) left | inr b ↦ others q a b ]
  ]

  doing_v : z.doing v ≡ Resting
  doing_v = put_else s.doing p Resting v (λ e. ne (sym e)) ∙ rests

  module _ (roofs : (q : ℕ) → ceiling i m q k ≡ m (RoomCounter q)) (blank : Blank i m v (m (RoomCounter v))) (frees : Free i m p k) (none : is_taker k ≡ false)
      (hand : Hand i s t v p z.kind) (pushes : Unpushed p (plug hand.around hand.now) k) where
    abbrev c : Around
    c = hand.around

    abbrev h : LinkKind
    h = hook_at Root c

    abbrev u : Skeleton
    u = hand.was

    abbrev n : Skeleton
    n = hand.now

    roof : (q : ℕ) → ceiling i m q (z.kind q) ≡ ceiling i m q (s.kind q)
    roof = each (λ q. ceiling i m q (z.kind q) ≡ ceiling i m q (s.kind q))
        (ap (ceiling i m p) kind_p ∙ roofs p ∙ sym (idle_roof i m p (s.kind p) idle))
        (ap (ceiling i m v) kind_v ∙ sym (ap (ceiling i m v) kv ∙ roofs v))
        (λ q a b. ap (ceiling i m q) (kind_q q a b))

    counted : (x : ℕ) → count Root (plug c n) x ≡ count Root t x
    counted x = count_plug Root c n x ∙ ap (λ (y : ℕ). rim Root c x + y) (hand.counts x) ∙ sym (ap (λ (w : Skeleton). count Root w x) hand.is ∙ count_plug Root c u x)

    bare : (x : ℕ) → plain Root (plug c n) x ≡ plain Root t x
    bare x = let a = plain_plug Root c n x in let b = plain_plug Root c u x in let e = hand.plains x in
        let is : plain Root t x ≡ plain Root (plug c u) x = ap (λ (w : Skeleton). plain Root w x) hand.is in omega (arith, a, b, e, is)

    leaves : (q : ℕ) → at q t ≡ at_rim q c + at q u
    leaves q = ap (at q) hand.is ∙ at_plug q c u

    head_kept : (x : ℕ) → Head i s t x → Head i z (plug c n) x
    head_kept x a = record { there = a.there; first = a.first; under = subst (λ (y : ℕ). x < y) (sym (roof (owner i x))) a.under; bare = bare x ∙ a.bare }

    ordered : (k : RestartKind) → Ordered i s t m k → Ordered i z (plug c n) m k
    ordered (Arrive r d) a = head_kept (r + 1) a
    ordered (Join r d) a = (head_kept (r + 1) a.0, a.1)
    ordered (Run f y) a = tt
    ordered (Bump r) a = tt
    ordered (Push1 r) a = tt
    ordered (Push2 r) a = tt
    ordered (Unwind f) a = tt
    ordered Pop1 a = tt
    ordered (Pop2 r) a = tt
    ordered Seek a = tt
    ordered (Steal v x) a = tt
    ordered (Check v x) a = tt
    ordered (Take v x) a = tt
    ordered (Take2 v) a = tt

    finishes : IsFinished m t → IsFinished m (plug c n)
    finishes (inl e) = inl e
    finishes (inr e) = inr (hand.ends e)

    rim_kinds : (q : ℕ) → (at_rim q c ≡ 0 → ⊥) → z.kind q ≡ s.kind q
    rim_kinds q some = kind_q q (λ e. some (ap (λ (y : ℕ). at_rim y c) e ∙ hand.away)) (λ e. some (ap (λ (y : ℕ). at_rim y c) e ∙ hand.alone))

    placed : (q : ℕ) → at q (plug c n) ≡ carried m (z.kind q)
    placed = each (λ q. at q (plug c n) ≡ carried m (z.kind q))
        (subst (λ (y : RestartKind). at p (plug c n) ≡ carried m y) (sym kind_p)
        (let a = at_plug p c n in let b = hand.away in let d = hand.here in let e = leaves v in let o = hand.alone in
        let old : at v t ≡ carried m k = law.places v ∙ ap (carried m) kv in omega (arith, a, b, d, e, o, old)))
        (subst (λ (y : RestartKind). at v (plug c n) ≡ carried m y) (sym kind_v) (let a = at_plug v c n in let b = hand.alone in let d = hand.gone in omega (arith, a, b, d)))
        (λ q a b. subst (λ (y : RestartKind). at q (plug c n) ≡ carried m y) (sym (kind_q q a b))
        (let d = at_plug q c n in let e = hand.others q a b in let o = leaves q in let old = law.places q in omega (arith, d, e, o, old)))

    aimed : (q r f b : ℕ) → is_taker (z.kind q) ≡ true → z.doing q ≡ InRow (Now (Begin r f b)) → Waits r f (plug c n)
    aimed q r f b = each (λ q. is_taker (z.kind q) ≡ true → z.doing q ≡ InRow (Now (Begin r f b)) → Waits r f (plug c n))
        (λ taker about. absurd (let x = sym taker ∙ ap is_taker kind_p ∙ none in cc))
        (λ taker about. absurd (let x = sym taker ∙ ap is_taker kind_v in cc))
        (λ q a d taker about. waits_swap r f c u n (hand.waiting f) (hand.waits r f)
        (subst (Waits r f) hand.is (law.aims q r f b (ap is_taker (sym (kind_q q a d)) ∙ taker) (sym (put_else s.doing p Resting q a) ∙ about)))) q

    pub hands_keep : IsKept i root input z (plug c n)
    hands_keep = record {
      ahead = (
        law.ahead.0,
        subst (λ (w : Tree (Frame FrameWord Point) Result). Ahead (strands i.shape i.code) law.ahead.0 root input w (arrays_at m))
            (sym (tree_in m m Root c u n (λ x e. refl) hand.swap.aim hand.tree ∙ ap (λ (w : Skeleton). tree_of m w) (sym hand.is))) law.ahead.1,
      );
      good = good_swap m m i.code s.kind z.kind Root c u n (λ x e. refl) rim_kinds hand.swap hand.good (subst (Good i.code m s.kind Root) hand.is law.good);
      apart = λ x. subst (λ (y : ℕ). y ≤ 1) (sym (counted x)) (law.apart x);
      below = λ x some. let b = law.below x (λ e. some (counted x ∙ e)) in (b.0, subst (λ (y : ℕ). x < y) (sym (roof (owner i x))) b.1);
      there = λ x some. law.there x (λ e. some (counted x ∙ e));
      places = placed;
      rooms = λ q. subst (λ (y : ℕ). (start i q ≤ y) × (y ≤ end_of i q)) (sym (roof q)) (law.rooms q);
      free = each (λ q. Free i m q (z.kind q)) (subst (Free i m p) (sym kind_p) frees) (subst (Free i m v) (sym kind_v) blank) (λ q a b. subst (Free i m q) (sym (kind_q q a b)) (law.free q));
      does = each (λ q. Does i m q (z.kind q) (z.doing q)) (subst (Does i m p (z.kind p)) (sym (put_here s.doing p Resting)) tt) (subst (Does i m v (z.kind v)) (sym doing_v) tt)
          (λ q a b. subst₂ (λ (y : RestartKind) (d : Doing). Does i m q y d) (sym (kind_q q a b)) (sym (put_else s.doing p Resting q a)) (law.does q));
      orders = each (λ q. Ordered i z (plug c n) m (z.kind q)) (subst (Ordered i z (plug c n) m) (sym kind_p) (ordered k (subst (Ordered i s t m) kv (law.orders v))))
          (subst (Ordered i z (plug c n) m) (sym kind_v) tt) (λ q a b. subst (Ordered i z (plug c n) m) (sym (kind_q q a b)) (ordered (s.kind q) (law.orders q)));
      finished = finishes law.finished;
      copies = each (λ q. HasCopy (z.kind q)) (subst HasCopy (sym kind_p) (subst HasCopy kv (law.copies v))) (subst HasCopy (sym kind_v) tt) (λ q a b. subst HasCopy (sym (kind_q q a b)) (law.copies q));
      untaken = each (λ q. Unpushed q (plug c n) (z.kind q)) (subst (Unpushed p (plug c n)) (sym kind_p) pushes) (subst (Unpushed v (plug c n)) (sym kind_v) tt)
          (λ q a b. subst (Unpushed q (plug c n)) (sym (kind_q q a b))
          (unpushed_less q (s.kind q) c u n (let e = hand.others q a b in omega (arith, e)) hand.swap.order (λ r. hand.untaken q r) (subst (λ (w : Skeleton). Unpushed q w (s.kind q)) hand.is (law.untaken q))));
      aims = aimed;
      paid = λ q. subst (λ (y : ℕ). y ≤ start i q + (frame_size i.code i.code.root + law.ahead.0.block_words)) (sym (roof q)) (law.paid q);
      counted = law.counted;
    }

-- where a place has no leaf nothing is handed over
pub nothing_handed : (v p : ℕ) (t : Skeleton) → at v t ≡ 0 → handed v p t ≡ t
nothing_handed v p (Leaf (InPlace q) st f n) e = elim (cases_Bool (q == v)) [
  | inl is ↦ absurd (let one = cond-true {A = ℕ} (q == v) 1 0 is in omega (arith, one, e))
  | inr is ↦ cond-false (q == v) _ _ is
]
nothing_handed v p (Leaf Fresh st f n) e = refl
nothing_handed v p (Leaf Waiting st f n) e = refl
nothing_handed v p (Leaf Held st f n) e = refl
nothing_handed v p (Leaf Came st f n) e = refl
nothing_handed v p (Leaf Inlined st f n) e = refl
nothing_handed v p (Calling f n y t) e = ap (λ (w : Skeleton). Calling f n y w) (nothing_handed v p t e)
nothing_handed v p (Forking f n y r a b) e =
    ap (λ (w : Skeleton). Forking f n y r w (handed v p b)) (nothing_handed v p a (omega (arith, e))) ∙ ap (λ (w : Skeleton). Forking f n y r a w) (nothing_handed v p b (omega (arith, e)))

-- a tree without the place's strand
pub none_untaken : (p r : ℕ) (t : Skeleton) → at p t ≡ 0 → Untaken p r t
none_untaken p r (Leaf w st f n) e = tt
none_untaken p r (Calling f n y t) e = none_untaken p r t e
none_untaken p r (Forking f n y q a b) e =
    (λ is one. absurd (omega (arith, one, e)), none_untaken p r a (omega (arith, e)), none_untaken p r b (omega (arith, e)))

-- what was beside the one place's strand is beside the other's
pub untaken_moves : (v p r : ℕ) (c : Around) (st : Stand) (f n : ℕ) → at_rim p c ≡ 0 → Untaken v r (plug c (Leaf (InPlace v) st f n)) → Untaken p r (plug c (Leaf (InPlace p) st f n))
untaken_moves v p r Top st f n e old = tt
untaken_moves v p r (AtCall g l y c) st f n e old = untaken_moves v p r c st f n e old
untaken_moves v p r (AtLeft g l y q c b) st f n e old = (
  λ is one. old.0 is (let a = at_plug v c (Leaf (InPlace v) st f n) in let o = is_at_own v in omega (arith, a, o)),
  untaken_moves v p r c st f n (omega (arith, e)) old.1,
  none_untaken p r b (omega (arith, e)),
)
untaken_moves v p r (AtRight g l y q a c) st f n e old = (
  λ is one. absurd (omega (arith, one, e)),
  none_untaken p r a (omega (arith, e)),
  untaken_moves v p r c st f n (omega (arith, e)) old.2,
)

-- whose a leaf is doesn't matter to what it gives
pub gives_same : (m : Cell → ℕ) (h : LinkKind) (v p : ℕ) (st : Stand) (f n : ℕ)
    → ((is_over (Leaf (InPlace v) st f n) ≡ false) × (given m h (Leaf (InPlace v) st f n) ≡ ended))
    ⊎ ((is_over (Leaf (InPlace p) st f n) ≡ is_over (Leaf (InPlace v) st f n)) × (given m h (Leaf (InPlace p) st f n) ≡ given m h (Leaf (InPlace v) st f n)))
gives_same m h v p (Begins y) f n = inr (refl, refl)
gives_same m h v p Over f n = inr (refl, refl)
gives_same m h v p Arrives f n = inr (refl, refl)

-- a leaf with another place's name
abbrev renamed : ℕ → Skeleton → Skeleton
renamed p (Leaf w st f n) = Leaf (InPlace p) st f n
renamed p t = t

pub leaf_ends : (m : Cell → ℕ) (t : Skeleton) (v p : ℕ) (c : Around) (st : Stand) (f n : ℕ) → t ≡ plug c (Leaf (InPlace v) st f n) → Ended m t → Ended m (plug c (Leaf (InPlace p) st f n))
leaf_ends m t v p c st f n is e = by c (sym is ∙ e.is)
  where
    by : (c : Around) → plug c (Leaf (InPlace v) st f n) ≡ Leaf (InPlace e.place) Over e.frame e.slots → Ended m (plug c (Leaf (InPlace p) st f n))
    by Top q = record { place = p; frame = e.frame; slots = e.slots; is = ap (renamed p) q; gave = e.gave }
    by (AtCall g l y c) q = absurd (cc)
    by (AtLeft g l y r c b) q = absurd (cc)
    by (AtRight g l y r a c) q = absurd (cc)

module _ (i : Setting) (root : Tree (Frame FrameWord Point) Result) (input : Words) (s : State) (t : Skeleton) (law : IsKept i root input s t) (v p : ℕ) (ne : p ≢ v) (kind : ℕ → RestartKind)
    (kinds : (q : ℕ) → q ≢ p → q ≢ v → kind q ≡ s.kind q) (away : at p t ≡ 0) where
  -- a place with a leaf
  abbrev pub leaf_hand : Leafed i s t v → kind p ≡ s.kind v → Hand i s t v p kind
  leaf_hand g ke = record {
    around = g.around;
    was = Leaf (InPlace v) g.stand g.frame g.slots;
    now = Leaf (InPlace p) g.stand g.frame g.slots;
    is = g.is;
    alone = g.alone;
    away = let e = ap (at p) (sym g.is) ∙ away in let a = at_plug p g.around (Leaf (InPlace v) g.stand g.frame g.slots) in omega (arith, e, a);
    tree = refl;
    swap = record { aim = record { head = refl; aim = refl }; order = refl; gives = gives_same s.words (hook_at Root g.around) v p g.stand g.frame g.slots };
    good = (g.framed, g.sized, subst (λ (k : RestartKind). Match i.code s.words k (hook_at Root g.around) g.stand g.frame) (sym ke) g.match);
    counts = λ x. refl;
    plains = λ x. refl;
    here = is_at_own p ∙ sym (is_at_own v);
    gone = is_at_other p v (λ e. ne (sym e));
    others = λ q a b. is_at_other p q a ∙ sym (is_at_other v q b);
    untaken = λ q r old. tt;
    waiting = λ f x. x;
    waits = λ r f x. x;
    ends = leaf_ends s.words t v p g.around g.stand g.frame g.slots g.is;
  }

  -- and one without
  abbrev pub none_hand : at v t ≡ 0 → Hand i s t v p kind
  none_hand none = record {
    around = Top;
    was = t;
    now = t;
    is = refl;
    alone = refl;
    away = refl;
    tree = refl;
    swap = swap_same s.words s.words Root t (λ x e. refl);
    good = good_same s.words s.words i.code s.kind kind Root t (λ x e. refl)
        (λ q some. kinds q (λ e. some (ap (λ (y : ℕ). at y t) e ∙ away)) (λ e. some (ap (λ (y : ℕ). at y t) e ∙ none))) law.good;
    counts = λ x. refl;
    plains = λ x. refl;
    here = away ∙ sym none;
    gone = none;
    others = λ q a b. refl;
    untaken = λ q r old. old;
    waiting = λ f x. x;
    waits = λ r f x. x;
    ends = λ e. e;
  }

-- the tree that is handed over
pub leaf_handed : (v p : ℕ) (c : Around) (st : Stand) (f n : ℕ) → at_rim v c ≡ 0 → handed v p (plug c (Leaf (InPlace v) st f n)) ≡ plug c (Leaf (InPlace p) st f n)
leaf_handed v p c st f n alone = grow_plug v (λ st f n. Leaf (InPlace p) st f n) c st f n alone
