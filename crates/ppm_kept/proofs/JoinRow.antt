-- The steps of a place in a row of kind Join keep the invariant: the first branch goes idle; one
-- strand of both goes on with the right branch.
use Rattle.std.proofs.Common.{◌≡◌, ◌<◌, ℕ, zero, suc, ◌+◌, ◌==◌, Bool, true, false, inl, inr, refl, sym, ap, ◌∙◌, subst, subst₂, arith}
use Rattle.std.specs.Prelude.{nat_lt, if◌then◌else◌}
use Rattle.std.proofs.lemmas.Bool.{cond-true, eqb-true}
use Rattle.ppm_strands.specs.Tree.{Words, Tree}
use Rattle.ppm_cells.specs.Cells.{word_count}
use Rattle.ppm_cells.specs.declared.cell.Cell.{Cell}
use Rattle.ppm_cells.specs.declared.cell.Cell.TheVariants.{RoomCounter, BlockWord}
use Rattle.ppm_cells.specs.declared.link.LinkKind.{LinkKind}
use Rattle.ppm_cells.specs.declared.link.LinkKind.TheVariants.{Root, Branch}
use Rattle.ppm_cells.specs.declared.restart.Restart.{Restart}
use Rattle.ppm_cells.specs.declared.restart.RestartKind.{RestartKind}
use Rattle.ppm_cells.specs.declared.restart.RestartKind.TheVariants.{Run, Pop1, Join}
use Rattle.ppm_cells.specs.declared.side.Side.{Side}
use Rattle.ppm_cells.specs.declared.side.Side.TheVariants.{Left, Right}
use Rattle.ppm_strands.specs.Strand.{Frame}
use Rattle.ppm_code.specs.Strands.{Point, Result}
use Rattle.ppm_code.specs.declared.location.FrameWord.{FrameWord}
use Rattle.ppm_cells.specs.JoinOrder.{first}
use Rattle.ppm_step.specs.Contents.{content_of}
use Rattle.ppm_step.specs.Points.{cell_at, reading_at}
use Rattle.ppm_step.specs.Rows.{row_of, found_at, join_by_order, joins, is_inline, is_last, right_begins}
use Rattle.ppm_step.specs.Standings.{within_if, row_is_there, then_is_there, stands}
use Rattle.ppm_step.specs.declared.row.Point.TheVariants.{JoinOrder, Offset}
use Rattle.ppm_step.specs.declared.row.Row.{Row}
use Rattle.ppm_step.specs.declared.row.Row.TheVariants.{Now, Store, Exchange}
use Rattle.ppm_step.specs.declared.row.Seat.{Seat}
use Rattle.ppm_step.specs.declared.row.Then.{Then}
use Rattle.ppm_step.specs.declared.row.Then.TheVariants.{Load, Install, Fork, Begin, Move, Enter, Again, Broken}
use Rattle.ppm_frames.specs.Skeletons.{Begins, Arrives, InPlace, Fresh, Waiting, Held, Came, Inlined, Skeleton, Leaf, Calling, Forking, at, over_left, inlined, Around, Top, plug, hook_at, at_rim}
use Rattle.ppm_frames.specs.Good.{IsPlain, mark, order_of, Match, Forks, Good}
use Rattle.ppm_frames.proofs.SkeletonLemmas.{branch_from, over_plug}
use Rattle.ppm_frames.proofs.SwapLemmas.{swap_same, good_same, good_here}
use Rattle.ppm_kept.specs.Running.{IsFair}
use Rattle.ppm_kept.specs.Branches.{is_taker}
use Rattle.ppm_kept.specs.Kept.{Setting, seat_at, side_code, Doing, Resting, InRow, State, put, Blank, ceiling, Free, Reach, Does, Under, carried, IsKept}
use Rattle.ppm_kept.specs.Moves.{doing_of, goes, installs}
use Rattle.ppm_kept.specs.Laws.{Ends, kind_then}
use Rattle.ppm_kept.specs.Pushing.{kind_seat}
use Rattle.ppm_kept.specs.Joins.{by_join, IsEarly, EarlyJoinKeeps, EarlyJoinRowKeeps}
use Rattle.ppm_kept.proofs.PutLemmas.{put_here, put_else}
use Rattle.ppm_kept.proofs.EndingLemmas.{not_ended}
use Rattle.ppm_kept.proofs.BranchLemmas.{same_part, barren}
use Rattle.ppm_kept.proofs.BuildLemmas.{Turn, build}
use Rattle.ppm_kept.proofs.PlaceLemmas.{going, kept_same, is_at_own, is_at_other}
use Rattle.ppm_kept.proofs.JoiningLemmas.{Comes, joins as joins_leaf, inline_late}

pub first_is : (d : Side) → first d ≡ side_code d
first_is Left = refl
first_is Right = refl

pub record IsRight (b : Skeleton) : Type 0 where
  pub frame : ℕ
  pub slots : ℕ
  pub is : b ≡ Leaf Held (Begins 0) frame slots

pub held : (i : Setting) (m : Cell → ℕ) (k : ℕ → RestartKind) (h : LinkKind) (b : Skeleton) → Good i.code m k h b → order_of IsPlain (mark b) ≡ 3 → IsRight b
held i m k h (Leaf Held st f n) good e = record { frame = f; slots = n; is = ap (λ a. Leaf Held a f n) good.2.0 }
held i m k h (Leaf Came st f n) good e = absurd (omega (arith, e))
held i m k h (Leaf Inlined st f n) good e = absurd (omega (arith, e))
held i m k h (Leaf (InPlace q) st f n) good e = absurd (omega (arith, e))
held i m k h (Leaf Fresh st f n) good e = absurd (omega (arith, e))
held i m k h (Leaf Waiting st f n) good e = absurd (omega (arith, e))
held i m k h (Calling f n y u) good e = absurd (omega (arith, e))
held i m k h (Forking f n y q u v) good e = absurd (omega (arith, e))

module _ (i : Setting) (fair : IsFair i.code) (root : Tree (Frame FrameWord Point) Result) (input : Words) (s : State) (t : Skeleton) (law : IsKept i root input s t) (p : ℕ)
    (there : p < i.shape.processors) (r : ℕ) (d : Side) (ke : s.kind p ≡ Join r d) where
  abbrev m : Cell → ℕ
  m = s.words

  abbrev o : ℕ
  o = m (BlockWord (r + 1))

  abbrev Law : State → Skeleton → Type 0
  Law z v = IsKept i root input z v

  abbrev seat : ℕ → Seat
  seat b = seat_at p (Join r d) b

  abbrev sits : (own b : ℕ) → Seat
  sits own b = kind_seat own p (Join r d) b

  roof : ceiling i m p (s.kind p) ≡ m (RoomCounter p)
  roof = ap (ceiling i m p) ke

  blank : Blank i m p (m (RoomCounter p))
  blank = subst (Free i m p) ke (law.free p)

  abbrev row : ℕ → Row
  row b = row_of i.shape (seat b) (Join r d)

  -- where it stands by what it has reached
  within_any : (own bottom b a : ℕ) (z : Cell → ℕ) (rest : Row) → Reach i z (seat b) a (row b) rest → (yes_ : Bool) → Does i z p (Join r d) (doing_of (within_if (sits own bottom) rest yes_))
  within_any own bottom b a z rest q true = inl (b, a, q)
  within_any own bottom b a z rest q false = tt

  stand_any : (own bottom b a : ℕ) (z : Cell → ℕ) (rest : Row) → Reach i z (seat b) a (row b) rest → Does i z p (Join r d) (doing_of (stands i.shape i.code (sits own bottom) rest))
  stand_any own bottom b a z (Now (Load x)) q = within_any own bottom b a z (Now (Load x)) q (then_is_there i.shape (sits own bottom) (Load x))
  stand_any own bottom b a z (Now (Install x)) q = within_any own bottom b a z (Now (Install x)) q (then_is_there i.shape (sits own bottom) (Install x))
  stand_any own bottom b a z (Now (Fork x)) q = within_any own bottom b a z (Now (Fork x)) q (then_is_there i.shape (sits own bottom) (Fork x))
  stand_any own bottom b a z (Now (Begin x w v)) q = within_any own bottom b a z (Now (Begin x w v)) q (then_is_there i.shape (sits own bottom) (Begin x w v))
  stand_any own bottom b a z (Now (Move x)) q = within_any own bottom b a z (Now (Move x)) q (then_is_there i.shape (sits own bottom) (Move x))
  stand_any own bottom b a z (Now (Enter x)) q = tt
  stand_any own bottom b a z (Now Again) q = tt
  stand_any own bottom b a z (Now Broken) q = within_any own bottom b a z (Now Broken) q false
  stand_any own bottom b a z (Store c w x) q = within_any own bottom b a z (Store c w x) q (row_is_there i.shape (sits own bottom) (Store c w x))
  stand_any own bottom b a z (Exchange c v w x) q = within_any own bottom b a z (Exchange c v w x) q (row_is_there i.shape (sits own bottom) (Exchange c v w x))

  goes_on : (own bottom b a : ℕ) (rest : Row) → Reach i m (seat b) a (row b) rest → Law (goes s p (stands i.shape i.code (sits own bottom) rest)) t
  goes_on own bottom b a rest q = going i fair root input s t law p (ap is_taker ke) (doing_of (stands i.shape i.code (sits own bottom) rest))
      (subst (λ (k : RestartKind). Does i m p k (doing_of (stands i.shape i.code (sits own bottom) rest))) (sym ke) (stand_any own bottom b a m rest q))

  -- what each row has to keep
  abbrev RowLaw : Row → Type 0
  RowLaw (Now (Load point)) = (own bottom victim : ℕ)
      → Law (goes s p (stands i.shape i.code (sits own bottom) (found_at i.shape (sits own bottom) victim point (content_of (reading_at point) (m (cell_at (sits own bottom) victim point)))))) t
  RowLaw (Now next) = Ends next → Law (installs s p (kind_then next)) (by_join p next t)
  RowLaw (Store cell content next) = ⊥
  RowLaw (Exchange cell old new next) = ⊥

  broken_rows : (b a : ℕ) (rest : Row) → Reach i m (seat b) a (Now Broken) rest → RowLaw rest
  broken_rows b zero rest q = subst RowLaw q (λ ends. absurd ends)
  broken_rows b (suc a) rest q = absurd q

  install_rows : (b a : ℕ) (x : Restart) (rest : Row) → RowLaw (Now (Install x)) → Reach i m (seat b) a (Now (Install x)) rest → RowLaw rest
  install_rows b zero x rest l q = subst RowLaw q l
  install_rows b (suc a) x rest l q = absurd q

  begin_rows : (b a x f y : ℕ) (rest : Row) → RowLaw (Now (Begin x f y)) → Reach i m (seat b) a (Now (Begin x f y)) rest → RowLaw rest
  begin_rows b zero x f y rest l q = subst RowLaw q l
  begin_rows b (suc a) x f y rest l q = absurd q

  -- the load of the order word
  order_load : RowLaw (Now (Load (JoinOrder r d)))
  order_load own bottom victim = subst (λ (x : Row). Law (goes s p (stands i.shape i.code (sits own bottom) x)) t) (sym (same (o == first d) (is_inline o d) (is_last o d)))
      (goes_on own bottom bottom 1 (join_by_order (seat bottom) r d o) refl)
    where
      same : (a b c : Bool) → joins (sits own bottom) r a b c ≡ joins (seat bottom) r a b c
      same true b c = refl
      same false true c = refl
      same false false true = refl
      same false false false = refl

  -- the first branch goes idle
  module _ (came : (o == side_code d) ≡ true) where
    nobody : at p t ≡ 0
    nobody = law.places p ∙ ap (carried m) ke ∙ cond-true {A = ℕ} (o == side_code d) 0 1 came

    first_install : Law (installs s p Pop1) t
    first_install = build i fair root input s t law p (installs s p Pop1) Top t t Pop1 Resting (record {
      is = refl;
      alone = refl;
      there = there;
      kind = put_here s.kind p Pop1;
      kinds = λ q ne. put_else s.kind p Pop1 q ne;
      doing = put_here s.doing p Resting;
      doings = λ q ne. put_else s.doing p Resting q ne;
      around = λ x ne. refl;
      step = inr (refl, refl);
      swap = swap_same m m Root t (λ x ne. refl);
      good = good_same m m i.code s.kind (put s.kind p Pop1) Root t (λ x ne. refl) (λ q some. put_else s.kind p Pop1 q (λ e. some (ap (λ (a : ℕ). at a t) e ∙ nobody))) law.good;
      adds = λ x. inl (omega arith, omega arith);
      grows = omega (arith, roof);
      pays = omega (arith, roof);
      bound = let b = (law.rooms p).1 in omega (arith, b, roof);
      places = nobody;
      placed = λ q ne. refl;
      free = blank;
      does = tt;
      orders = tt;
      others = λ q ne. kept_same i fair root input s t law p q;
      unrun = same_part tt tt refl;
      finishes = λ e. e;
    })

    first_rows : (b a : ℕ) (rest : Row) → Reach i m (seat b) a (join_by_order (seat b) r d o) rest → RowLaw rest
    first_rows b a rest q = install_rows b a (record { kind = Pop1; bottom = b }) rest (λ ends. first_install)
        (subst (λ (x : Bool). Reach i m (seat b) a (joins (seat b) r x (is_inline o d) (is_last o d)) rest) (ap (λ (w : ℕ). o == w) (first_is d) ∙ came) q)

  -- one strand runs both: it goes on with the right branch
  module _ (both : is_inline o d ≡ true) where
    late : (o == side_code d) ≡ false
    late = inline_late d o both

    come : Comes i s t p r d
    come = joins_leaf i fair root input s t law p r d ke late

    abbrev low : Skeleton
    low = Leaf (InPlace p) Arrives come.frame come.slots

    abbrev far : ℕ
    far = r + m (BlockWord (r + 4))

    abbrev next : RestartKind
    next = Run far 0

    module _ (c : Around) (g l y f n : ℕ) (is : t ≡ plug c (Forking g l y r low (Leaf Held (Begins 0) f n))) (alone : at_rim p c ≡ 0) where
      abbrev du : Skeleton
      du = Forking g l y r low (Leaf Held (Begins 0) f n)

      abbrev dv : Skeleton
      dv = Forking g l y r (Leaf Inlined Arrives come.frame come.slots) (Leaf (InPlace p) (Begins 0) f n)

      good_d : Good i.code m s.kind (hook_at Root c) du
      good_d = good_here i.code m s.kind Root c du (subst (Good i.code m s.kind Root) is law.good)

      abbrev forks_d : Forks i.code m (hook_at Root c) g l y r low (Leaf Held (Begins 0) f n)
      forks_d = good_d.0

      pass_turn : Turn i s t p (installs s p next) c du dv next Resting
      pass_turn = record {
        is = is;
        alone = alone;
        there = there;
        kind = put_here s.kind p next;
        kinds = λ q ne. put_else s.kind p next q ne;
        doing = put_here s.doing p Resting;
        doings = λ q ne. put_else s.doing p Resting q ne;
        around = λ x ne. refl;
        step = inr (refl, refl);
        swap = record { aim = record { head = refl; aim = refl }; order = refl; gives = inl (refl, refl) };
        good = (
          record {
            framed = forks_d.framed;
            size = forks_d.size;
            outcome = forks_d.outcome;
            hook = forks_d.hook;
            order = forks_d.order;
            left = forks_d.left;
            right = forks_d.right;
            left_target = forks_d.left_target;
            right_target = forks_d.right_target;
          },
          (good_d.1.0, tt, refl),
          (good_d.2.0, good_d.2.1, subst (λ (k : RestartKind). Match i.code m k (Branch Right r) (Begins 0) f) (sym (put_here s.kind p next)) (sym forks_d.right, refl)),
        );
        adds = λ x. inl (omega arith, omega arith);
        grows = omega (arith, roof);
        pays = omega (arith, roof);
        bound = let b = (law.rooms p).1 in omega (arith, b, roof);
        places = let a = is_at_own p in omega (arith, a);
        placed = λ q ne. let a = is_at_other p q ne in omega (arith, a);
        free = record { block = λ b lt out. blank b lt; outcome = inl (ap (λ (b : ℕ). m (BlockWord (b + 1))) (sym forks_d.right) ∙ good_d.2.2.1) };
        does = tt;
        orders = tt;
        others = λ q ne. kept_same i fair root input s t law p q;
        unrun = barren (λ z x. (λ w. w, λ w. elim w [ inl a ↦ a.1 | inr a ↦ elim a [ inl b ↦ b | inr b ↦ b ] ])) (omega arith) (λ most. tt) (λ q z ne. (λ e one. absurd (omega (arith, one)), tt, tt)) refl;
        finishes = not_ended m m t c du dv is refl refl;
      }

      passes_on : Law (installs s p next) (over_left p (inlined p) t)
      passes_on = subst (IsKept i root input (installs s p next)) (sym (ap (over_left p (inlined p)) is ∙ over_plug p (inlined p) c g l y r Arrives come.frame come.slots (Leaf Held (Begins 0) f n) alone))
          (build i fair root input s t law p (installs s p next) c du dv next Resting pass_turn)

    inline_install : Law (installs s p next) (over_left p (inlined p) t)
    inline_install = by d come.hook both
      where
        by : (e : Side) → hook_at Root come.around ≡ Branch e r → is_inline o e ≡ true → Law (installs s p next) (over_left p (inlined p) t)
        by Right he k = absurd (cc)
        by Left he k = elim (branch_from Root come.around r Left he) [
          | inl z ↦ absurd (let b = z.0 in cc)
          | inr z ↦
              let is0 = come.is ∙ z.is low in
              let good0 = good_here i.code m s.kind Root z.around _ (subst (Good i.code m s.kind Root) is0 law.good) in
              let right = held i m s.kind (Branch Right r) z.beside good0.2 (sym good0.0.order ∙ eqb-true o 3 k) in
              let e = z.places p in let a = come.alone in
              passes_on z.around z.frame z.slots z.copy right.frame right.slots (is0 ∙ ap (λ (b : Skeleton). plug z.around (Forking z.frame z.slots z.copy r low b)) right.is) (omega (arith, e, a))
        ]

    to_offset : (b a : ℕ) (rest : Row) → Reach i m (seat b) a (Now (Load (Offset r b))) rest → Reach i m (seat b) (suc a) (row b) rest
    to_offset b a rest q = subst₂ (λ (x y : Bool). Reach i m (seat b) a (joins (seat b) r x y (is_last o d)) rest) (sym (ap (λ (w : ℕ). o == w) (first_is d) ∙ late)) (sym both) q

    offset_load : (b : ℕ) → RowLaw (Now (Load (Offset r b)))
    offset_load b own bottom victim = goes_on own bottom b 2 (right_begins i.shape r b (m (BlockWord (r + 4)))) (to_offset b 1 _ refl)

    begin_by : (b a : ℕ) (rest : Row) → Reach i m (seat b) a (right_begins i.shape r b (m (BlockWord (r + 4)))) rest → RowLaw rest
    begin_by b a rest q = by (nat_lt far (word_count i.shape)) q
      where
        by : (x : Bool) → Reach i m (seat b) a (if x then Now (Begin r far b) else Now Broken) rest → RowLaw rest
        by true q = begin_rows b a r far b rest (λ ends. inline_install) q
        by false q = broken_rows b a rest q

    offset_rows : (b a : ℕ) (rest : Row) → Reach i m (seat b) a (Now (Load (Offset r b))) rest → RowLaw rest
    offset_rows b zero rest q = subst RowLaw q (offset_load b)
    offset_rows b (suc a) rest q = begin_by b a rest q

    inline_rows : (b a : ℕ) (rest : Row) → Reach i m (seat b) a (join_by_order (seat b) r d o) rest → RowLaw rest
    inline_rows b a rest q = offset_rows b a rest
        (subst₂ (λ (x y : Bool). Reach i m (seat b) a (joins (seat b) r x y (is_last o d)) rest) (ap (λ (w : ℕ). o == w) (first_is d) ∙ late) both q)

  module _ (early : IsEarly m r d) where
    row_law : (b a : ℕ) (rest : Row) → Reach i m (seat b) a (row b) rest → RowLaw rest
    row_law b zero rest q = subst RowLaw q order_load
    row_law b (suc a) rest q = elim early [ inl e ↦ first_rows e b a rest q | inr e ↦ inline_rows e b a rest q ]

    -- what is after both values is of a branch that came last
    under_law : (rest : Row) → Under i m p (Join r d) rest → RowLaw rest
    under_law rest (inl a) = row_law a.0 a.1 rest a.2
    under_law rest (inr a) = absurd (elim early [ inl e ↦ (let z : true ≡ false = sym e ∙ a.late in cc) | inr e ↦ (let z : true ≡ false = sym e ∙ a.beyond in cc) ])

    under_of : (rest : Row) → s.doing p ≡ InRow rest → RowLaw rest
    under_of rest e = under_law rest (subst₂ (λ (q : RestartKind) (x : Doing). Does i m p q x) ke e (law.does p))

    installed_law : (next : Then) → RowLaw (Now next) → Ends next → Law (installs s p (kind_then next)) (by_join p next t)
    installed_law (Install x) a ends = a ends
    installed_law (Fork x) a ends = a ends
    installed_law (Begin x w b) a ends = a ends
    installed_law (Load x) a ends = absurd ends
    installed_law (Move x) a ends = absurd ends
    installed_law (Enter x) a ends = absurd ends
    installed_law Again a ends = absurd ends
    installed_law Broken a ends = absurd ends

    pub early_join_keeps : EarlyJoinKeeps i root input s t p r d
    early_join_keeps = record {
      begins = λ own bottom. going i fair root input s t law p (ap is_taker ke) (InRow (Now (Load (JoinOrder r d)))) (subst (λ (k : RestartKind). Under i m p k (Now (Load (JoinOrder r d)))) (sym ke) (inl (bottom, 0, refl)));
      loads = λ own bottom victim point e. under_of (Now (Load point)) e own bottom victim;
      stores_none = λ cell content next e. under_of (Store cell content next) e;
      exchanges_none = λ cell old new next e. under_of (Exchange cell old new next) e;
      installs = λ next e ends. installed_law next (under_of (Now next) e) ends;
      faults = going i fair root input s t law p (ap is_taker ke) Resting tt;
    }

pub early_join_row_keeps : EarlyJoinRowKeeps
early_join_row_keeps i fair root input s t law p there r d ke early = early_join_keeps i fair root input s t law p there r d ke early
