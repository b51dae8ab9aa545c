-- What one word step has to show, for the invariant to stand after it.
use Rattle.std.proofs.Common.{◌≡◌, ◌≢◌, ◌⊎◌, ◌≤◌, ◌<◌, ℕ, ◌+◌, true, false, inl, inr, refl, sym, ap, ◌∙◌, subst, subst₂, arith}
use Rattle.std.proofs.lemmas.Bool.{cases_eq}
use Rattle.ppm_strands.specs.Run.{Counts, none, plus}
use Rattle.ppm_strands.specs.Ahead.{Ahead, Step}
use Rattle.ppm_strands.proofs.RunLemmas.{plus_none, plus_comm}
use Rattle.ppm_strands.proofs.StepLemmas.{step_ahead}
use Rattle.ppm_strands.proofs.ChainLemmas.{ahead_composes}
use Rattle.ppm_strands.proofs.StrandLemmas.{code_is_local}
use Rattle.ppm_code.specs.Locations.{code_locations}
use Rattle.ppm_code.specs.Strands.{table_of}
use Rattle.ppm_code.specs.Sizes.{frame_size}
use Rattle.ppm_strands.specs.Tree.{Words, Tree}
use Rattle.ppm_cells.specs.declared.link.LinkKind.{LinkKind}
use Rattle.ppm_cells.specs.declared.link.LinkKind.TheVariants.{Root}
use Rattle.ppm_cells.specs.declared.restart.RestartKind.{RestartKind}
use Rattle.ppm_cells.specs.declared.restart.RestartKind.TheVariants.{Run, Bump, Push1, Push2, Unwind, Arrive, Join, Pop1, Pop2, Seek, Steal, Check, Take, Take2}
use Rattle.ppm_strands.specs.Strand.{Frame}
use Rattle.ppm_code.specs.Strands.{Point, Result}
use Rattle.ppm_code.specs.declared.location.FrameWord.{FrameWord}
use Rattle.ppm_step.specs.declared.row.Row.TheVariants.{Now}
use Rattle.ppm_step.specs.declared.row.Then.TheVariants.{Begin}
use Rattle.ppm_frames.specs.Seen.{arrays_at}
use Rattle.ppm_frames.specs.Skeletons.{Skeleton, tree_of, tree_at, count, plain, at, Around, plug, hook_at, rim, at_rim}
use Rattle.ppm_frames.specs.Good.{Good}
use Rattle.ppm_frames.specs.Laws.{Same}
use Rattle.ppm_frames.proofs.SkeletonLemmas.{step_in, tree_in, count_plug, plain_plug, at_plug}
use Rattle.ppm_frames.proofs.SwapLemmas.{Swap, good_swap}
use Rattle.ppm_kept.specs.Running.{IsFair, strands}
use Rattle.ppm_kept.specs.Kept.{Setting, Allows, start, end_of, owner, State, Doing, InRow, IsFinished, carried, ceiling, Free, Does, Head, Ordered, IsKept}
use Rattle.ppm_kept.specs.Branches.{Unpushed, Waits, is_taker, HasCopy}
use Rattle.ppm_kept.specs.Others.{KeptAt}
use Rattle.ppm_kept.proofs.OwnerLemmas.{owned}
use Rattle.ppm_kept.proofs.BranchLemmas.{Unrun, unpushed_less, waits_swap}

-- where nothing is counted all is as it was asked
pub allows_none : (i : Setting) → Allows i none
allows_none i j e = ap i.counted (plus_comm j none ∙ plus_none j) ∙ e

-- a step of the part, which may be counted, or none
abbrev pub Moved : Setting → (s z : State) → Around → (u v : Skeleton) → Type 0
Moved i s z c u v = ((k : Counts) × Step (strands i.shape i.code) k (tree_at s.words (hook_at Root c) u) (arrays_at s.words) (tree_at z.words (hook_at Root c) v) (arrays_at z.words) × Allows i k)
    ⊎ ((tree_at z.words (hook_at Root c) v ≡ tree_at s.words (hook_at Root c) u) × (arrays_at z.words ≡ arrays_at s.words))

-- the block words that it counts
abbrev pub words_of : (i : Setting) (s z : State) (c : Around) (u v : Skeleton) → Moved i s z c u v → ℕ
words_of i s z c u v (inl step) = step.0.block_words
words_of i s z c u v (inr same) = 0

pub record Turn (i : Setting) (s : State) (t : Skeleton) (p : ℕ) (z : State) (c : Around) (u v : Skeleton) (k : RestartKind) (d : Doing) : Type 0 where
  pub is : t ≡ plug c u
  pub alone : at_rim p c ≡ 0
  pub there : p < i.shape.processors
  pub kind : z.kind p ≡ k
  pub kinds : (q : ℕ) → q ≢ p → z.kind q ≡ s.kind q
  pub doing : z.doing p ≡ d
  pub doings : (q : ℕ) → q ≢ p → z.doing q ≡ s.doing q
  pub around : Same (rim Root c) s.words z.words
  pub step : Moved i s z c u v
  pub swap : Swap s.words z.words (hook_at Root c) u v
  pub good : Good i.code z.words z.kind (hook_at Root c) v
  -- an address of the new part was one of the old, or is of the pool of p and was free
  pub adds : (x : ℕ) → ((count (hook_at Root c) v x ≤ count (hook_at Root c) u x) × (plain (hook_at Root c) v x ≤ plain (hook_at Root c) u x))
      ⊎ ((count (hook_at Root c) v x ≤ 1 + count (hook_at Root c) u x) × (ceiling i s.words p (s.kind p) ≤ x) × (x < ceiling i z.words p k))
  pub grows : ceiling i s.words p (s.kind p) ≤ ceiling i z.words p k
  pub pays : ceiling i z.words p k ≤ ceiling i s.words p (s.kind p) + words_of i s z c u v step
  pub bound : ceiling i z.words p k ≤ end_of i p
  pub places : at p v ≡ carried z.words k
  pub placed : (q : ℕ) → q ≢ p → at q v ≡ at q u
  pub free : Free i z.words p k
  pub does : Does i z.words p k d
  pub orders : Ordered i s t z.words k
  pub finishes : IsFinished s.words t → IsFinished z.words (plug c v)
  pub others : (q : ℕ) → q ≢ p → KeptAt i s t z.words q
  pub unrun : Unrun s p c u v k d

module _ (i : Setting) (fair : IsFair i.code) (root : Tree (Frame FrameWord Point) Result) (input : Words) (s : State) (t : Skeleton) (law : IsKept i root input s t) (p : ℕ) where
  pub each : (P : ℕ → Type 0) → P p → ((q : ℕ) → q ≢ p → P q) → (q : ℕ) → P q
  each P here there q = elim (cases_eq q p) [ inl e ↦ subst P (sym e) here | inr ne ↦ there q ne ]

  module _ (z : State) (c : Around) (u v : Skeleton) (k : RestartKind) (d : Doing) (turn : Turn i s t p z c u v k d) where
    abbrev h : LinkKind
    h = hook_at Root c

    roof : (q : ℕ) → ceiling i s.words q (s.kind q) ≤ ceiling i z.words q (z.kind q)
    roof = each _ (subst (λ (x : RestartKind). ceiling i s.words p (s.kind p) ≤ ceiling i z.words p x) (sym turn.kind) turn.grows)
        (λ q ne. subst (λ (x : RestartKind). ceiling i s.words q (s.kind q) ≤ ceiling i z.words q x) (sym (turn.kinds q ne)) (let e = (turn.others q ne).roof in omega (arith, e)))

    whole : (x : ℕ) → count Root t x ≡ rim Root c x + count h u x
    whole x = ap (λ (w : Skeleton). count Root w x) turn.is ∙ count_plug Root c u x

    owner_is : (x : ℕ) → ceiling i s.words p (s.kind p) ≤ x → x < ceiling i z.words p k → owner i x ≡ p
    owner_is x le lt = owned i p x (let a = (law.rooms p).0 in omega (arith, a, le)) (let b = turn.bound in omega (arith, b, lt))

    -- a free word was of no frame
    was_free : (x : ℕ) → ceiling i s.words p (s.kind p) ≤ x → x < ceiling i z.words p k → count Root t x ≡ 0
    was_free x le lt = elim (cases_eq (count Root t x) 0) [
      | inl e ↦ e
      | inr ne ↦ absurd (let b = (law.below x ne).1 in
          let b' = subst (λ (q : ℕ). x < ceiling i s.words q (s.kind q)) (owner_is x le lt) b in omega (arith, b', le))
    ]

    head_kept : (x : ℕ) → Head i s t x → Head i z (plug c v) x
    head_kept x a = record {
      there = a.there;
      first = a.first;
      under = let lt = a.under in let r = roof (owner i x) in omega (arith, lt, r);
      bare = elim (turn.adds x) [
        | inl le ↦ let e = plain_plug Root c v x in let w = plain_plug Root c u x in let l = le.1 in
            let b : plain Root (plug c u) x ≡ 0 = ap (λ (w : Skeleton). plain Root w x) (sym turn.is) ∙ a.bare in omega (arith, e, w, l, b)
        | inr new ↦ absurd (let lt = subst (λ (q : ℕ). x < ceiling i s.words q (s.kind q)) (owner_is x new.1 new.2) a.under in let le = new.1 in omega (arith, lt, le))
      ];
    }

    ordered_kept : (k : RestartKind) → Ordered i s t z.words k → Ordered i z (plug c v) z.words k
    ordered_kept (Arrive r d) a = head_kept (r + 1) a
    ordered_kept (Join r d) a = (head_kept (r + 1) a.0, a.1)
    ordered_kept (Run f y) a = tt
    ordered_kept (Bump r) a = tt
    ordered_kept (Push1 r) a = tt
    ordered_kept (Push2 r) a = tt
    ordered_kept (Unwind f) a = tt
    ordered_kept Pop1 a = tt
    ordered_kept (Pop2 r) a = tt
    ordered_kept Seek a = tt
    ordered_kept (Steal v x) a = tt
    ordered_kept (Check v x) a = tt
    ordered_kept (Take v x) a = tt
    ordered_kept (Take2 v) a = tt

    apart_then : (x : ℕ) → count Root (plug c v) x ≤ 1
    apart_then x = let a = law.apart x in let w = whole x in let e = count_plug Root c v x in elim (turn.adds x) [
      | inl le ↦ let l = le.0 in omega (arith, a, w, e, l)
      | inr new ↦ let f = was_free x new.1 new.2 in let n = new.0 in omega (arith, w, e, f, n)
    ]

    unpushed_then : (q : ℕ) → q ≢ p → Unpushed q (plug c v) (z.kind q)
    unpushed_then q ne = subst (Unpushed q (plug c v)) (sym (turn.kinds q ne))
        (unpushed_less q (s.kind q) c u v (let e = turn.placed q ne in omega (arith, e)) turn.swap.order (λ r. turn.unrun.untaken q r ne) (subst (λ (w : Skeleton). Unpushed q w (s.kind q)) turn.is (law.untaken q)))

    own_aim : (r f b : ℕ) → is_taker (z.kind p) ≡ true → z.doing p ≡ InRow (Now (Begin r f b)) → Waits r f (plug c v)
    own_aim r f b taker about = elim turn.unrun.aims [
      | inl none ↦ absurd (let x : true ≡ false = sym taker ∙ ap is_taker turn.kind ∙ none in cc)
      | inr go ↦ go r f b (sym turn.doing ∙ about)
    ]

    other_aim : (q r f b : ℕ) → q ≢ p → is_taker (z.kind q) ≡ true → z.doing q ≡ InRow (Now (Begin r f b)) → Waits r f (plug c v)
    other_aim q r f b ne taker about =
        let was : is_taker (s.kind q) ≡ true = ap is_taker (sym (turn.kinds q ne)) ∙ taker in
        let then_ : s.doing q ≡ InRow (Now (Begin r f b)) = sym (turn.doings q ne) ∙ about in
        let go = turn.unrun.waits q r f b ne was then_ in
        waits_swap r f c u v go.0 go.1 (subst (Waits r f) turn.is (law.aims q r f b was then_))

    aims_then : (q r f b : ℕ) → is_taker (z.kind q) ≡ true → z.doing q ≡ InRow (Now (Begin r f b)) → Waits r f (plug c v)
    aims_then q r f b = each (λ q. is_taker (z.kind q) ≡ true → z.doing q ≡ InRow (Now (Begin r f b)) → Waits r f (plug c v)) (own_aim r f b) (λ q ne. other_aim q r f b ne) q

    -- what is ahead then
    abbrev counts_by : Moved i s z c u v → Counts
    counts_by (inl st) = plus law.ahead.0 st.0
    counts_by (inr same) = law.ahead.0

    ahead_by : (step : Moved i s z c u v) → Ahead (strands i.shape i.code) (counts_by step) root input (tree_of z.words (plug c v)) (arrays_at z.words)
    ahead_by (inl st) = let whole = step_in s.words z.words (strands i.shape i.code) st.0 (arrays_at s.words) (arrays_at z.words) Root c u v turn.around turn.swap.aim st.1 in
        let whole' = subst (λ (w : Skeleton). Step (strands i.shape i.code) st.0 (tree_of s.words w) (arrays_at s.words) (tree_of z.words (plug c v)) (arrays_at z.words)) (sym turn.is) whole in
        (ahead_composes (strands i.shape i.code)).both law.ahead.0 st.0 root (tree_of s.words t) (tree_of z.words (plug c v)) input (arrays_at s.words) (arrays_at z.words)
        law.ahead.1 (step_ahead (strands i.shape i.code) (code_is_local code_locations (table_of i.code i.shape.arrays)) whole' law.ahead.1.calm)
    ahead_by (inr same) = subst₂ (λ (w : Tree (Frame FrameWord Point) Result) (b : Words). Ahead (strands i.shape i.code) law.ahead.0 root input w b)
        (sym (tree_in s.words z.words Root c u v turn.around turn.swap.aim same.0 ∙ ap (λ (w : Skeleton). tree_of s.words w) (sym turn.is))) (sym same.1) law.ahead.1

    counted_by : (step : Moved i s z c u v) → i.counted (counts_by step) ≡ true
    counted_by (inl st) = st.2 law.ahead.0 law.counted
    counted_by (inr same) = law.counted

    paid_by : (step : Moved i s z c u v) → ceiling i z.words p k ≤ ceiling i s.words p (s.kind p) + words_of i s z c u v step → (q : ℕ)
        → ceiling i z.words q (z.kind q) ≤ start i q + (frame_size i.code i.code.root + (counts_by step).block_words)
    paid_by step pays = each (λ q. ceiling i z.words q (z.kind q) ≤ start i q + (frame_size i.code i.code.root + (counts_by step).block_words))
        (subst (λ (x : RestartKind). ceiling i z.words p x ≤ start i p + (frame_size i.code i.code.root + (counts_by step).block_words)) (sym turn.kind) (own step pays))
        (λ q ne. subst (λ (x : RestartKind). ceiling i z.words q x ≤ start i q + (frame_size i.code i.code.root + (counts_by step).block_words)) (sym (turn.kinds q ne))
        (subst (λ (x : ℕ). x ≤ start i q + (frame_size i.code i.code.root + (counts_by step).block_words)) (sym (turn.others q ne).roof) (more step q)))
      where
        more : (step : Moved i s z c u v) → (q : ℕ) → ceiling i s.words q (s.kind q) ≤ start i q + (frame_size i.code i.code.root + (counts_by step).block_words)
        more (inl st) q = let a = law.paid q in omega (arith, a)
        more (inr same) q = law.paid q

        own : (step : Moved i s z c u v) → ceiling i z.words p k ≤ ceiling i s.words p (s.kind p) + words_of i s z c u v step → ceiling i z.words p k ≤ start i p + (frame_size i.code i.code.root + (counts_by step).block_words)
        own (inl st) pays = let a = law.paid p in omega (arith, a, pays)
        own (inr same) pays = let a = law.paid p in omega (arith, a, pays)

    pub build : IsKept i root input z (plug c v)
    build = record {
      ahead = (counts_by turn.step, ahead_by turn.step);
      good = good_swap s.words z.words i.code s.kind z.kind Root c u v turn.around
          (λ q ne. elim (cases_eq q p) [ inl e ↦ absurd (ne (ap (λ (y : ℕ). at_rim y c) e ∙ turn.alone)) | inr other ↦ turn.kinds q other ]) turn.swap turn.good
          (subst (Good i.code s.words s.kind Root) turn.is law.good);
      apart = apart_then;
      below = λ x ne. elim (cases_eq (count Root t x) 0) [
        | inl was ↦ elim (turn.adds x) [
          | inl le ↦ absurd (let w = whole x in let e = count_plug Root c v x in let l = le.0 in ne (omega (arith, was, w, e, l)))
          | inr new ↦ let o = owner_is x new.1 new.2 in
              subst (λ (q : ℕ). (start i q ≤ x) × (x < ceiling i z.words q (z.kind q))) (sym o)
              (let a = (law.rooms p).0 in let le = new.1 in omega (arith, a, le), subst (λ (y : RestartKind). x < ceiling i z.words p y) (sym turn.kind) new.2)
        ]
        | inr was ↦ let b = law.below x was in (b.0, let lt = b.1 in let r = roof (owner i x) in omega (arith, lt, r))
      ];
      there = λ x ne. elim (cases_eq (count Root t x) 0) [
        | inl was ↦ elim (turn.adds x) [
          | inl le ↦ absurd (let w = whole x in let e = count_plug Root c v x in let l = le.0 in ne (omega (arith, was, w, e, l)))
          | inr new ↦ subst (λ (q : ℕ). q < i.shape.processors) (sym (owner_is x new.1 new.2)) turn.there
        ]
        | inr was ↦ law.there x was
      ];
      places = each _ (subst (λ (y : RestartKind). at p (plug c v) ≡ carried z.words y) (sym turn.kind) (let e = at_plug p c v in let a = turn.alone in let b = turn.places in omega (arith, e, a, b)))
          (λ q ne. let e = at_plug q c v in let w = at_plug q c u in let b = turn.placed q ne in
          let was : at q (plug c u) ≡ carried s.words (s.kind q) = ap (at q) (sym turn.is) ∙ law.places q in
          let now : at q (plug c v) ≡ at q (plug c u) = omega (arith, e, w, b) in
          now ∙ was ∙ sym (turn.others q ne).strand ∙ ap (carried z.words) (sym (turn.kinds q ne)));
      rooms = each _ (subst (λ (y : RestartKind). (start i p ≤ ceiling i z.words p y) × (ceiling i z.words p y ≤ end_of i p)) (sym turn.kind)
          (let a = (law.rooms p).0 in let b = turn.grows in omega (arith, a, b), turn.bound))
          (λ q ne. subst (λ (y : RestartKind). (start i q ≤ ceiling i z.words q y) × (ceiling i z.words q y ≤ end_of i q)) (sym (turn.kinds q ne))
          (let e = (turn.others q ne).roof in let r = law.rooms q in (let a = r.0 in omega (arith, a, e), let b = r.1 in omega (arith, b, e))));
      free = each _ (subst (λ (y : RestartKind). Free i z.words p y) (sym turn.kind) turn.free)
          (λ q ne. subst (λ (y : RestartKind). Free i z.words q y) (sym (turn.kinds q ne)) (turn.others q ne).free);
      does = each _ (subst₂ (λ (y : RestartKind) (e : Doing). Does i z.words p y e) (sym turn.kind) (sym turn.doing) turn.does)
          (λ q ne. subst₂ (λ (y : RestartKind) (e : Doing). Does i z.words q y e) (sym (turn.kinds q ne)) (sym (turn.doings q ne)) (turn.others q ne).does);
      orders = each _ (subst (Ordered i z (plug c v) z.words) (sym turn.kind) (ordered_kept k turn.orders))
          (λ q ne. subst (Ordered i z (plug c v) z.words) (sym (turn.kinds q ne)) (ordered_kept (s.kind q) (turn.others q ne).order));
      finished = turn.finishes law.finished;
      copies = each (λ q. HasCopy (z.kind q)) (subst HasCopy (sym turn.kind) turn.unrun.copy) (λ q ne. subst HasCopy (sym (turn.kinds q ne)) (law.copies q));
      untaken = each (λ q. Unpushed q (plug c v) (z.kind q)) (subst (Unpushed p (plug c v)) (sym turn.kind) (turn.unrun.pushes apart_then)) unpushed_then;
      aims = aims_then;
      paid = paid_by turn.step turn.pays;
      counted = counted_by turn.step;
    }

    -- with what it counts
    pub built : (kept : IsKept i root input z (plug c v)) × (kept.ahead.0 ≡ counts_by turn.step)
    unfolding build
    built = (build, refl)
