-- The steps of a place in a row of kind Join whose branch came last keep the invariant: it passes a
-- trap, or both values, to the frame that waits. With the first branch, and the one strand of both
-- branches, that is every row of Join.
use Rattle.std.proofs.Common.{◌≡◌, ◌⊎◌, ◌≤◌, ◌<◌, ℕ, zero, suc, ◌+◌, ◌==◌, Bool, true, false, inl, inr, refl, sym, ap, ap₂, ◌∙◌, subst, subst₂, arith, Option, Some, None}
use Rattle.std.specs.Prelude.{nat_lt, if◌then◌else◌}
use Rattle.std.proofs.lemmas.Bool.{cases_eq, cases_Bool}
use Rattle.ppm_words.specs.declared.trap.Trap.{Trap}
use Rattle.ppm_strands.specs.Tree.{Words, Tree}
use Rattle.ppm_cells.specs.Cells.{word_count}
use Rattle.ppm_cells.specs.Finish.{finish_of, finish_word}
use Rattle.ppm_cells.specs.Link.{link_of}
use Rattle.ppm_cells.specs.declared.cell.Cell.{Cell}
use Rattle.ppm_cells.specs.declared.cell.Cell.TheVariants.{BlockWord}
use Rattle.ppm_cells.specs.declared.finish.Finish.{Finish}
use Rattle.ppm_cells.specs.declared.finish.Finish.TheVariants.{Unset, Ended as EndedSo, Trapped as TrappedBy, OutOfTurns, OutOfRoom, Stopped, Broken as BrokenAt}
use Rattle.ppm_cells.specs.declared.link.Link.{Link}
use Rattle.ppm_cells.specs.declared.link.LinkKind.{LinkKind}
use Rattle.ppm_cells.specs.declared.link.LinkKind.TheVariants.{Fork as Forked}
use Rattle.ppm_cells.specs.declared.restart.Restart.{Restart}
use Rattle.ppm_cells.specs.declared.restart.RestartKind.{RestartKind}
use Rattle.ppm_cells.specs.declared.restart.RestartKind.TheVariants.{Run, Unwind, Join}
use Rattle.ppm_cells.specs.declared.side.Side.{Side}
use Rattle.ppm_strands.specs.Strand.{Frame}
use Rattle.ppm_code.specs.Strands.{Point, Result}
use Rattle.ppm_code.specs.Sizes.{slot_at}
use Rattle.ppm_code.specs.declared.location.FrameWord.{FrameWord}
use Rattle.ppm_cells.specs.JoinOrder.{first}
use Rattle.ppm_cells.specs.JoinOutcome.{outcome_of_both}
use Rattle.ppm_step.specs.Contents.{content_of, word_of, read_so}
use Rattle.ppm_step.specs.Points.{cell_at, reading_at}
use Rattle.ppm_step.specs.Rows.{row_of, found_at, on_link, on_outcome, join_by_order, join_by, join_outcome, joins, is_inline, is_last, after_value, target_found, value_found, right_value}
use Rattle.ppm_step.specs.Standings.{within_if, row_is_there, then_is_there, stands_then, stands}
use Rattle.ppm_step.specs.declared.content.Content.TheVariants.{ANumber, ALink, AFinish}
use Rattle.ppm_step.specs.declared.row.Point.TheVariants.{JoinOrder, JoinLink, JoinLeft, JoinRight, RightFrame, Target, GivenValue}
use Rattle.ppm_step.specs.declared.row.Row.{Row}
use Rattle.ppm_step.specs.declared.row.Row.TheVariants.{Now, Store, Exchange}
use Rattle.ppm_step.specs.declared.row.Seat.{Seat}
use Rattle.ppm_step.specs.declared.row.Then.{Then}
use Rattle.ppm_step.specs.declared.row.Then.TheVariants.{Load, Install, Fork, Begin, Move, Enter, Again, Broken}
use Rattle.ppm_frames.specs.Views.{written as write, is_cell}
use Rattle.ppm_frames.specs.Skeletons.{Skeleton, named, target_at}
use Rattle.ppm_frames.specs.Good.{link_or, link_at}
use Rattle.ppm_frames.proofs.WriteLemmas.{write_here}
use Rattle.ppm_frames.proofs.SeenLemmas.{if_true}
use Rattle.ppm_kept.specs.Running.{IsFair}
use Rattle.ppm_kept.specs.Branches.{is_taker}
use Rattle.ppm_kept.specs.Kept.{Setting, seat_at, side_code, InRow, Resting, Doing, State, HasTaken, Collected, Reach, Does, Under, IsKept}
use Rattle.ppm_kept.specs.Moves.{doing_of, goes, stores, installs}
use Rattle.ppm_kept.specs.Laws.{Ends, kind_then}
use Rattle.ppm_kept.specs.Others.{Keeps}
use Rattle.ppm_kept.specs.Pushing.{kind_seat}
use Rattle.ppm_kept.specs.Joins.{by_join, EarlyJoinKeeps}
use Rattle.ppm_kept.specs.JoinLast.{JoinKeeps, LastJoinRowKeeps, JoinRowKeeps}
use Rattle.ppm_kept.proofs.PlaceLemmas.{going}
use Rattle.ppm_kept.proofs.JoiningLemmas.{Joining}
use Rattle.ppm_kept.proofs.OtherLemmas.{others_keep}
use Rattle.ppm_kept.proofs.SameRowLemmas.{waiting_of}
use Rattle.ppm_kept.proofs.JoinRow.{first_is, early_join_row_keeps}
use Rattle.ppm_kept.proofs.JoinLastLemmas as last
use Rattle.ppm_kept.proofs.JoinLastLemmas.{LastStays, last_same, Traps}

-- the copy of a fork's link
abbrev copy_of : LinkKind → ℕ
copy_of (Forked f y) = y
copy_of _ = 0

module _ (i : Setting) (fair : IsFair i.code) (root : Tree (Frame FrameWord Point) Result) (input : Words) (s : State) (t : Skeleton) (law : IsKept i root input s t) (p : ℕ)
    (there : p < i.shape.processors) (keeps : Keeps i s t p) (r : ℕ) (d : Side) (ke : s.kind p ≡ Join r d)
    (late : (s.words (BlockWord (r + 1)) == side_code d) ≡ false) (beyond : is_inline (s.words (BlockWord (r + 1))) d ≡ false) where
  abbrev m : Cell → ℕ
  m = s.words

  abbrev o : ℕ
  o = m (BlockWord (r + 1))

  abbrev Law : State → Skeleton → Type 0
  Law z v = IsKept i root input z v

  abbrev seat : ℕ → Seat
  seat b = seat_at p (Join r d) b

  abbrev sits : (own b : ℕ) → Seat
  sits own b = kind_seat own p (Join r d) b

  abbrev row : ℕ → Row
  row b = row_of i.shape (seat b) (Join r d)

  -- where it stands by what it has reached
  within_any : (own bottom : ℕ) (z : Cell → ℕ) (rest : Row) → Under i z p (Join r d) rest → (yes_ : Bool) → Does i z p (Join r d) (doing_of (within_if (sits own bottom) rest yes_))
  within_any own bottom z rest q true = q
  within_any own bottom z rest q false = tt

  stand_any : (own bottom : ℕ) (z : Cell → ℕ) (rest : Row) → Under i z p (Join r d) rest → Does i z p (Join r d) (doing_of (stands i.shape i.code (sits own bottom) rest))
  stand_any own bottom z (Now (Load x)) q = within_any own bottom z (Now (Load x)) q (then_is_there i.shape (sits own bottom) (Load x))
  stand_any own bottom z (Now (Install x)) q = within_any own bottom z (Now (Install x)) q (then_is_there i.shape (sits own bottom) (Install x))
  stand_any own bottom z (Now (Fork x)) q = within_any own bottom z (Now (Fork x)) q (then_is_there i.shape (sits own bottom) (Fork x))
  stand_any own bottom z (Now (Begin x w v)) q = within_any own bottom z (Now (Begin x w v)) q (then_is_there i.shape (sits own bottom) (Begin x w v))
  stand_any own bottom z (Now (Move x)) q = within_any own bottom z (Now (Move x)) q (then_is_there i.shape (sits own bottom) (Move x))
  stand_any own bottom z (Now (Enter x)) q = tt
  stand_any own bottom z (Now Again) q = tt
  stand_any own bottom z (Now Broken) q = within_any own bottom z (Now Broken) q false
  stand_any own bottom z (Store c w x) q = within_any own bottom z (Store c w x) q (row_is_there i.shape (sits own bottom) (Store c w x))
  stand_any own bottom z (Exchange c v w x) q = within_any own bottom z (Exchange c v w x) q (row_is_there i.shape (sits own bottom) (Exchange c v w x))

  -- a row is reached by some steps, at a bottom
  abbrev At : (Cell → ℕ) → (b : ℕ) → Row → Type 0
  At z b rest = (a : ℕ) × Reach i z (seat b) a (row b) rest

  under_at : (z : Cell → ℕ) (b : ℕ) (rest : Row) → At z b rest → Under i z p (Join r d) rest
  under_at z b rest q = inl (b, q.0, q.1)

  goes_on : (own bottom b : ℕ) (rest : Row) → At m b rest → Law (goes s p (stands i.shape i.code (sits own bottom) rest)) t
  goes_on own bottom b rest q = going i fair root input s t law p (ap is_taker ke) (doing_of (stands i.shape i.code (sits own bottom) rest))
      (subst (λ (k : RestartKind). Does i m p k (doing_of (stands i.shape i.code (sits own bottom) rest))) (sym ke) (stand_any own bottom m rest (under_at m b rest q)))

  -- what each row has to keep
  abbrev RowLaw : Row → Type 0
  RowLaw (Now (Load point)) = (own bottom victim : ℕ)
      → Law (goes s p (stands i.shape i.code (sits own bottom) (found_at i.shape (sits own bottom) victim point (content_of (reading_at point) (m (cell_at (sits own bottom) victim point)))))) t
  RowLaw (Now next) = Ends next → Law (installs s p (kind_then next)) (by_join p next t)
  RowLaw (Store cell content next) = ((own bottom : ℕ) → Law (stores s p cell (word_of content) (stands_then i.shape i.code (sits own bottom) next)) t) × (is_cell i.shape cell ≡ true)
  RowLaw (Exchange cell old new next) = ⊥

  broken_rows : (b a : ℕ) (rest : Row) → Reach i m (seat b) a (Now Broken) rest → RowLaw rest
  broken_rows b zero rest q = subst RowLaw q (λ ends. absurd ends)
  broken_rows b (suc a) rest q = absurd q

  install_rows : (b a : ℕ) (x : Restart) (rest : Row) → RowLaw (Now (Install x)) → Reach i m (seat b) a (Now (Install x)) rest → RowLaw rest
  install_rows b zero x rest l q = subst RowLaw q l
  install_rows b (suc a) x rest l q = absurd q

  -- the load of the order word
  order_load : RowLaw (Now (Load (JoinOrder r d)))
  order_load own bottom victim = subst (λ (x : Row). Law (goes s p (stands i.shape i.code (sits own bottom) x)) t) (sym (same (o == first d) (is_inline o d) (is_last o d)))
      (goes_on own bottom bottom (join_by_order (seat bottom) r d o) (1, refl))
    where
      same : (a b c : Bool) → joins (sits own bottom) r a b c ≡ joins (seat bottom) r a b c
      same true b c = refl
      same false true c = refl
      same false false true = refl
      same false false false = refl

  abbrev part : Joining s t p r d
  part = last.part i fair root input s t law p there keeps r d ke late beyond

  abbrev g : ℕ
  g = part.frame

  abbrev l : ℕ
  l = part.slots

  abbrev y : ℕ
  y = part.copy

  abbrev far : ℕ
  far = m (BlockWord (r + 4))

  abbrev f : ℕ
  f = r + far

  abbrev oa : ℕ
  oa = m (BlockWord (r + 2))

  abbrev ob : ℕ
  ob = m (BlockWord (r + 3))

  hook_is : (link_at (m (BlockWord r))).kind ≡ Forked g y
  hook_is = last.hook_is i fair root input s t law p there keeps r d ke late beyond

  -- what stays until the install
  abbrev Stays : (Cell → ℕ) → Type 0
  Stays z = LastStays m z r f

  same_words : Stays m
  same_words = last_same m r f

  -- the row by what it has loaded
  abbrev link_row : Option Link → Row
  link_row a = on_link (read_so ALink a) (λ (link : Link). join_by r link.kind)

  abbrev left_row : Option Finish → Row
  left_row a = on_outcome (read_so AFinish a) (λ left. Now (Load (JoinRight r g y left)))

  abbrev right_row : ℕ → Finish → Option Finish → Row
  right_row b left a = on_outcome (read_so AFinish a) (λ right. join_outcome (seat b) r g y (outcome_of_both left right))

  abbrev left_point : Row
  left_point = Now (Load (JoinLeft r g y))

  module _ (lasts : is_last o d ≡ true) where
    to_link : (z : Cell → ℕ) → z (BlockWord (r + 1)) ≡ o → (b a : ℕ) (rest : Row) → Reach i z (seat b) a (Now (Load (JoinLink r))) rest → Reach i z (seat b) (suc a) (row b) rest
    to_link z e b a rest q = subst (λ (x : ℕ). Reach i z (seat b) a (join_by_order (seat b) r d x) rest) (sym e)
        (subst₂ (λ (x k : Bool). Reach i z (seat b) a (joins (seat b) r x k (is_last o d)) rest) (sym (ap (λ (x : ℕ). o == x) (first_is d) ∙ late)) (sym beyond)
        (subst (λ (x : Bool). Reach i z (seat b) a (joins (seat b) r false false x) rest) (sym lasts) q))

    link_load : RowLaw (Now (Load (JoinLink r)))
    link_load own bottom victim = goes_on own bottom bottom (link_row (link_of (m (BlockWord r)))) (2, to_link m refl bottom 1 _ refl)

    module _ (size_of : ℕ) (linked : link_of (m (BlockWord r)) ≡ Some (record { kind = Forked g y; size = size_of })) where
      to_left : (z : Cell → ℕ) → Stays z → (b a : ℕ) (rest : Row) → Reach i z (seat b) a left_point rest → Reach i z (seat b) (suc (suc a)) (row b) rest
      to_left z stays b a rest q = to_link z stays.order b (suc a) rest (subst (λ (x : Option Link). Reach i z (seat b) a (link_row x) rest) (sym (ap link_of stays.link ∙ linked)) q)

      left_load : RowLaw left_point
      left_load own bottom victim = goes_on own bottom bottom (left_row (finish_of oa)) (3, to_left m same_words bottom 1 _ refl)

      -- after the left outcome
      module _ (left : Finish) (left_goes : left_row (Some left) ≡ Now (Load (JoinRight r g y left))) (left_of : finish_of oa ≡ Some left) where
        abbrev right_point : Row
        right_point = Now (Load (JoinRight r g y left))

        to_right : (z : Cell → ℕ) → Stays z → (b a : ℕ) (rest : Row) → Reach i z (seat b) a right_point rest → Reach i z (seat b) (suc (suc (suc a))) (row b) rest
        to_right z stays b a rest q = to_left z stays b (suc a) rest
            (subst (λ (x : Row). Reach i z (seat b) a x rest) (sym (ap left_row (ap finish_of stays.branches.left ∙ left_of) ∙ left_goes)) q)

        right_load : RowLaw right_point
        right_load own bottom victim = goes_on own bottom bottom (right_row bottom left (finish_of ob)) (4, to_right m same_words bottom 1 _ refl)

        right_rows : ((b a : ℕ) (rest : Row) → Reach i m (seat b) a (right_row b left (finish_of ob)) rest → RowLaw rest) → (b a : ℕ) (rest : Row) → Reach i m (seat b) a right_point rest → RowLaw rest
        right_rows on_ b zero rest q = subst RowLaw q right_load
        right_rows on_ b (suc a) rest q = on_ b a rest q

        to_outcome : (z : Cell → ℕ) → Stays z → (right : Finish) → finish_of ob ≡ Some right → (b a : ℕ) (rest : Row)
            → Reach i z (seat b) a (right_row b left (Some right)) rest → Reach i z (seat b) (suc (suc (suc (suc a)))) (row b) rest
        to_outcome z stays right e b a rest q = to_right z stays b (suc a) rest (subst (λ (x : Option Finish). Reach i z (seat b) a (right_row b left x) rest) (sym (ap finish_of stays.branches.right ∙ e)) q)

      -- one of them trapped
      module _ (trap : Trap) (line : ℕ) (traps : Traps m r trap line) where
        abbrev w : ℕ
        w = finish_word (TrappedBy trap line)

        abbrev m1 : Cell → ℕ
        m1 = write m (BlockWord (g + 1)) w

        stays1 : Stays m1
        stays1 = last.trap_stays i fair root input s t law p there keeps r d ke late beyond trap line traps

        abbrev up_then : ℕ → Restart
        up_then b = record { kind = Unwind g; bottom = b }

        abbrev trap_row : ℕ → Row
        trap_row b = Store (BlockWord (g + 1)) (AFinish (TrappedBy trap line)) (Install (up_then b))

        -- by the way to the store
        module _ (to_trap : (z : Cell → ℕ) → Stays z → (b a : ℕ) (rest : Row) → Reach i z (seat b) a (trap_row b) rest → Reach i z (seat b) (suc (suc (suc (suc a)))) (row b) rest) where
          trap_store : (b : ℕ) → RowLaw (trap_row b)
          trap_store b = (
            λ own bottom. last.trap_stored i fair root input s t law p there keeps r d ke late beyond trap line traps (doing_of (stands_then i.shape i.code (sits own bottom) (Install (up_then b))))
                (stand_any own bottom m1 (Now (Install (up_then b))) (under_at m1 b (Now (Install (up_then b)))
                (5, to_trap m1 stays1 b 1 (Now (Install (up_then b))) (write_here m (BlockWord (g + 1)) w, refl)))),
            last.frame_cell i fair root input s t law p there keeps r d ke late beyond 1 (omega arith),
          )

          trap_rows : (b a : ℕ) (rest : Row) → Reach i m (seat b) a (trap_row b) rest → RowLaw rest
          trap_rows b zero rest q = subst RowLaw q (trap_store b)
          trap_rows b (suc a) rest q = install_rows b a (up_then b) rest
              (λ ends. last.trap_installed i fair root input s t law p there keeps r d ke late beyond trap line traps q.0) q.1

      -- both ended
      module _ (left_ended : finish_of oa ≡ Some EndedSo) (right_ended : finish_of ob ≡ Some EndedSo) where
        abbrev aim : ℕ
        aim = m (BlockWord (r + 5 + 5))

        abbrev value : ℕ
        value = m (BlockWord (r + 5 + 4))

        abbrev right_aim : ℕ
        right_aim = m (BlockWord (f + 5))

        abbrev right_given : ℕ
        right_given = m (BlockWord (f + 4))

        left_low : aim ≤ l
        left_low = last.left_low i fair root input s t law p there keeps r d ke late beyond

        right_low : right_aim ≤ l
        right_low = last.right_low i fair root input s t law p there keeps r d ke late beyond

        abbrev second_row : Row
        second_row = Now (Load (RightFrame r g y))

        abbrev on_then : ℕ → Restart
        on_then b = record { kind = Run g y; bottom = b }

        abbrev slot_cell : ℕ → Cell
        slot_cell j = BlockWord (g + 5 + suc j)

        abbrev IsNear : ℕ → Type 0
        IsNear j = nat_lt (g + 5 + suc j) (word_count i.shape) ≡ true

        -- the slot that is named is one of the words, if one is
        abbrev AreNear : Option ℕ → Type 0
        AreNear None = Unit {0}
        AreNear (Some j) = IsNear j

        -- the words of a slot, as the row and as the frame have them
        slot_path : (z : Cell → ℕ) (j v : ℕ) → z (BlockWord (g + slot_at j)) ≡ v → z (slot_cell j) ≡ v
        slot_path z j v e = subst (λ (x : ℕ). z (BlockWord x) ≡ v) {x = g + (6 + j)} (omega arith) e

        slot_back : (z : Cell → ℕ) (j v : ℕ) → z (slot_cell j) ≡ v → z (BlockWord (g + slot_at j)) ≡ v
        slot_back z j v e = subst (λ (x : ℕ). z (BlockWord x) ≡ v) {x = g + 5 + suc j} (omega arith) e

        slot_is_cell : (j : ℕ) → j < l → is_cell i.shape (slot_cell j) ≡ true
        slot_is_cell j low = subst (λ (x : ℕ). is_cell i.shape (BlockWord x) ≡ true) {x = g + (6 + j)} (omega arith)
            (last.frame_cell i fair root input s t law p there keeps r d ke late beyond (6 + j) (omega (arith, low)))

        -- the store of a value, where its slot is one of the words
        stores_value : (seats : Seat) (j : ℕ) (right_of : Option ℕ) (v : ℕ) → IsNear j
            → value_found i.shape seats g y (suc j) right_of v ≡ Store (slot_cell j) (ANumber v) (after_value seats g y right_of)
        stores_value seats j right_of v near = if_true (nat_lt (g + 5 + suc j) (word_count i.shape)) _ _ near

        -- down to the left target
        to_target : (z : Cell → ℕ) → Stays z → (b a : ℕ) (rest : Row) → Reach i z (seat b) a (Now (Load (Target (r + 5) g y (Some r)))) rest → Reach i z (seat b) (suc (suc (suc (suc a)))) (row b) rest
        to_target z stays b a rest q = to_outcome EndedSo refl left_ended z stays EndedSo right_ended b a rest q

        to_aim : (z : Cell → ℕ) → Stays z → (x : ℕ) → aim ≡ x → (b a : ℕ) (rest : Row) → Reach i z (seat b) a (target_found (seat b) (r + 5) g y (Some r) x) rest → Reach i z (seat b) (suc (suc (suc (suc (suc a))))) (row b) rest
        to_aim z stays x e b a rest q = to_target z stays b (suc a) rest
            (subst (λ (v : ℕ). Reach i z (seat b) a (target_found (seat b) (r + 5) g y (Some r) v) rest) (sym (stays.branches.left_target ∙ e)) q)

        -- past the left value, which stands
        to_second : (z : Cell → ℕ) → Stays z → (x : ℕ) → aim ≡ x → AreNear (named x) → HasTaken z g (r + 5) (named x) → (b a : ℕ) (rest : Row) → Reach i z (seat b) a second_row rest → At z b rest
        to_second z stays zero e near taken b a rest q = (suc (suc (suc (suc (suc a)))), to_aim z stays zero e b a rest q)
        to_second z stays (suc j) e near taken b a rest q = (
          suc (suc (suc (suc (suc (suc (suc a)))))),
          to_aim z stays (suc j) e b (suc (suc a)) rest
              (subst (λ (x : Row). Reach i z (seat b) (suc a) x rest) (sym (stores_value (seat b) j (Some r) (z (BlockWord (r + 5 + 4))) near))
              (slot_path z j (z (BlockWord (r + 5 + 4))) taken, q)),
        )

        -- the loads of the left branch's target and value
        target_load : RowLaw (Now (Load (Target (r + 5) g y (Some r))))
        target_load own bottom victim = subst (λ (x : Row). Law (goes s p (stands i.shape i.code (sits own bottom) x)) t) (sym (same aim))
            (goes_on own bottom bottom (target_found (seat bottom) (r + 5) g y (Some r) aim) (5, to_aim m same_words aim refl bottom 0 _ refl))
          where
            same : (x : ℕ) → target_found (sits own bottom) (r + 5) g y (Some r) x ≡ target_found (seat bottom) (r + 5) g y (Some r) x
            same zero = refl
            same (suc x) = refl

        value_load : (j : ℕ) → aim ≡ suc j → RowLaw (Now (Load (GivenValue (r + 5) g y (suc j) (Some r))))
        value_load j e own bottom victim = goes_on own bottom bottom (value_found i.shape (seat bottom) g y (suc j) (Some r) value) (6, to_aim m same_words (suc j) e bottom 1 _ refl)

        -- the store of the left value
        left_store : (j : ℕ) → aim ≡ suc j → IsNear j → RowLaw (Store (slot_cell j) (ANumber value) (Load (RightFrame r g y)))
        left_store j e near = (by, slot_is_cell j low)
          where
            low : j < l
            low = let a = left_low in omega (arith, a, e)

            stays2 : Stays (write m (BlockWord (g + (6 + j))) value)
            stays2 = last.value_stays i fair root input s t law p there keeps r d ke late beyond left_ended right_ended j value low

            by : (own bottom : ℕ) → Law (stores s p (slot_cell j) value (stands_then i.shape i.code (sits own bottom) (Load (RightFrame r g y)))) t
            by own bottom = subst (λ (x : ℕ). Law (stores s p (BlockWord x) value (stands_then i.shape i.code (sits own bottom) (Load (RightFrame r g y)))) t) {x = g + (6 + j)} (omega arith)
                (last.value_stored i fair root input s t law p there keeps r d ke late beyond left_ended right_ended j value low (inl (ap named e))
                (doing_of (stands_then i.shape i.code (sits own bottom) (Load (RightFrame r g y))))
                (stand_any own bottom (write m (BlockWord (g + (6 + j))) value) second_row (under_at (write m (BlockWord (g + (6 + j))) value) 0 second_row
                (to_second (write m (BlockWord (g + (6 + j))) value) stays2 (suc j) e near
                (last.slot_gets i fair root input s t law p there keeps r d ke late beyond left_ended right_ended j value low ∙ sym stays2.branches.left_value) 0 0 second_row refl))))

        -- the install, where the right value stands, and the left one does or both have one target
        run_install : HasTaken m g (r + 5) (target_at m (r + 5)) ⊎ (target_at m (r + 5) ≡ target_at m f) → HasTaken m g f (target_at m f) → (b : ℕ) → RowLaw (Now (Install (on_then b)))
        run_install left right b ends = last.values_installed i fair root input s t law p there keeps r d ke late beyond left_ended right_ended left right

        -- after the left value
        module _ (near : AreNear (named aim)) (taken : HasTaken m g (r + 5) (named aim)) where
          second_at : (b a : ℕ) (rest : Row) → Reach i m (seat b) a second_row rest → At m b rest
          second_at b a rest q = to_second m same_words aim refl near taken b a rest q

          second_load : RowLaw second_row
          second_load own bottom victim = goes_on own bottom bottom (right_value i.shape r g y far) (second_at bottom 1 (right_value i.shape r g y far) refl)

          abbrev third_row : Row
          third_row = Now (Load (Target f g y None))

          module _ (in_words : nat_lt f (word_count i.shape) ≡ true) where
            third_at : (b a : ℕ) (rest : Row) → Reach i m (seat b) a third_row rest → At m b rest
            third_at b a rest q = second_at b (suc a) rest (subst (λ (x : Row). Reach i m (seat b) a x rest) (sym (if_true (nat_lt f (word_count i.shape)) third_row (Now Broken) in_words)) q)

            third_load : RowLaw third_row
            third_load own bottom victim = subst (λ (x : Row). Law (goes s p (stands i.shape i.code (sits own bottom) x)) t) (sym (same right_aim))
                (goes_on own bottom bottom (target_found (seat bottom) f g y None right_aim) (third_at bottom 1 (target_found (seat bottom) f g y None right_aim) refl))
              where
                same : (x : ℕ) → target_found (sits own bottom) f g y None x ≡ target_found (seat bottom) f g y None x
                same zero = refl
                same (suc x) = refl

            module _ (k : ℕ) (e : right_aim ≡ suc k) where
              given_load : RowLaw (Now (Load (GivenValue f g y (suc k) None)))
              given_load own bottom victim = goes_on own bottom bottom (value_found i.shape (seat bottom) g y (suc k) None right_given)
                  (third_at bottom 2 (value_found i.shape (seat bottom) g y (suc k) None right_given)
                  (subst (λ (x : ℕ). Reach i m (seat bottom) 1 (target_found (seat bottom) f g y None x) (value_found i.shape (seat bottom) g y (suc k) None right_given)) (sym e) refl))

              right_slot : k < l
              right_slot = let a = right_low in omega (arith, a, e)

              abbrev m3 : Cell → ℕ
              m3 = write m (BlockWord (g + (6 + k))) right_given

              stays3 : Stays m3
              stays3 = last.value_stays i fair root input s t law p there keeps r d ke late beyond left_ended right_ended k right_given right_slot

              -- the left value, if it was not in the same slot
              left_then : (x : ℕ) → aim ≡ x → HasTaken m g (r + 5) (named x) → HasTaken m3 g (r + 5) (target_at m3 (r + 5)) ⊎ (target_at m3 (r + 5) ≡ target_at m3 f)
              left_then zero q taken = inl (subst (λ (x : ℕ). HasTaken m3 g (r + 5) (named x)) (sym (stays3.branches.left_target ∙ q)) tt)
              left_then (suc x) q taken = elim (cases_eq x k) [
                | inl same ↦ inr (ap named (stays3.branches.left_target ∙ q ∙ ap suc same ∙ sym e ∙ sym stays3.branches.right_target))
                | inr ne ↦ inl (subst (λ (x : ℕ). HasTaken m3 g (r + 5) (named x)) (sym (stays3.branches.left_target ∙ q))
                    (last.slot_stays i fair root input s t law p there keeps r d ke late beyond left_ended right_ended k right_given right_slot x ne ∙ taken ∙ sym stays3.branches.left_value))
              ]

              collects : (b : ℕ) → Collected m3 r d (Now (Install (on_then b)))
              collects b = record {
                frame = g;
                copy = y;
                bottom = b;
                is = refl;
                late = ap (λ (x : ℕ). x == side_code d) stays3.order ∙ late;
                beyond = ap (λ (x : ℕ). is_inline x d) stays3.order ∙ beyond;
                hook = ap (λ (x : ℕ). (link_at x).kind) stays3.link ∙ hook_is;
                left_ended = ap finish_of stays3.branches.left ∙ left_ended;
                right_ended = ap finish_of stays3.branches.right ∙ right_ended;
                left = subst (λ (x : ℕ). HasTaken m3 g (r + 5) (target_at m3 (r + 5)) ⊎ (target_at m3 (r + 5) ≡ target_at m3 (r + x))) (sym stays3.offset) (left_then aim refl taken);
                right = subst (λ (x : ℕ). HasTaken m3 g (r + x) (target_at m3 (r + x))) (sym stays3.offset)
                    (subst (λ (x : ℕ). HasTaken m3 g f (named x)) (sym (stays3.branches.right_target ∙ e))
                    (last.slot_gets i fair root input s t law p there keeps r d ke late beyond left_ended right_ended k right_given right_slot ∙ sym stays3.branches.right_value));
              }

              right_store : (b : ℕ) → RowLaw (Store (slot_cell k) (ANumber right_given) (Install (on_then b)))
              right_store b = (
                λ own bottom. subst (λ (x : ℕ). Law (stores s p (BlockWord x) right_given (stands_then i.shape i.code (sits own bottom) (Install (on_then b)))) t) {x = g + (6 + k)} (omega arith)
                    (last.value_stored i fair root input s t law p there keeps r d ke late beyond left_ended right_ended k right_given right_slot (inr (ap named e))
                    (doing_of (stands_then i.shape i.code (sits own bottom) (Install (on_then b))))
                    (stand_any own bottom m3 (Now (Install (on_then b))) (inr (collects b)))),
                slot_is_cell k right_slot,
              )

              store_rows : (b a : ℕ) (rest : Row) → Reach i m (seat b) a (Store (slot_cell k) (ANumber right_given) (Install (on_then b))) rest → RowLaw rest
              store_rows b zero rest q = subst RowLaw q (right_store b)
              store_rows b (suc a) rest q = install_rows b a (on_then b) rest
                  (run_install (inl taken) (subst (λ (x : ℕ). HasTaken m g f (named x)) (sym e) (slot_back m k right_given q.0)) b) q.1

              given_rows : (b a : ℕ) (rest : Row) → Reach i m (seat b) a (value_found i.shape (seat b) g y (suc k) None right_given) rest → RowLaw rest
              given_rows b a rest q = by (nat_lt (g + 5 + suc k) (word_count i.shape)) q
                where
                  by : (x : Bool) → Reach i m (seat b) a (if x then Store (slot_cell k) (ANumber right_given) (Install (on_then b)) else Now Broken) rest → RowLaw rest
                  by true q = store_rows b a rest q
                  by false q = broken_rows b a rest q

            by_right : (x : ℕ) → right_aim ≡ x → (b a : ℕ) (rest : Row) → Reach i m (seat b) a (target_found (seat b) f g y None x) rest → RowLaw rest
            by_right zero e b a rest q = install_rows b a (on_then b) rest (run_install (inl taken) (subst (λ (x : ℕ). HasTaken m g f (named x)) (sym e) tt) b) q
            by_right (suc k) e b zero rest q = subst RowLaw q (given_load k e)
            by_right (suc k) e b (suc a) rest q = given_rows k e b a rest q

            third_rows : (b a : ℕ) (rest : Row) → Reach i m (seat b) a third_row rest → RowLaw rest
            third_rows b zero rest q = subst RowLaw q third_load
            third_rows b (suc a) rest q = by_right right_aim refl b a rest q

          second_rows : (b a : ℕ) (rest : Row) → Reach i m (seat b) a second_row rest → RowLaw rest
          second_rows b zero rest q = subst RowLaw q second_load
          second_rows b (suc a) rest q = by (nat_lt f (word_count i.shape)) refl q
            where
              by : (x : Bool) → nat_lt f (word_count i.shape) ≡ x → Reach i m (seat b) a (if x then third_row else Now Broken) rest → RowLaw rest
              by true e q = third_rows e b a rest q
              by false e q = broken_rows b a rest q

        left_rows : (j : ℕ) → aim ≡ suc j → IsNear j → (b a : ℕ) (rest : Row) → Reach i m (seat b) a (Store (slot_cell j) (ANumber value) (Load (RightFrame r g y))) rest → RowLaw rest
        left_rows j e near b zero rest q = subst RowLaw q (left_store j e near)
        left_rows j e near b (suc a) rest q = second_rows (subst (λ (x : ℕ). AreNear (named x)) (sym e) near)
            (subst (λ (x : ℕ). HasTaken m g (r + 5) (named x)) (sym e) (slot_back m j value q.0)) b a rest q.1

        value_rows : (j : ℕ) → aim ≡ suc j → (b a : ℕ) (rest : Row) → Reach i m (seat b) a (value_found i.shape (seat b) g y (suc j) (Some r) value) rest → RowLaw rest
        value_rows j e b a rest q = by (nat_lt (g + 5 + suc j) (word_count i.shape)) refl q
          where
            by : (x : Bool) → nat_lt (g + 5 + suc j) (word_count i.shape) ≡ x → Reach i m (seat b) a (if x then Store (slot_cell j) (ANumber value) (Load (RightFrame r g y)) else Now Broken) rest → RowLaw rest
            by true near q = left_rows j e near b a rest q
            by false near q = broken_rows b a rest q

        by_aim : (x : ℕ) → aim ≡ x → (b a : ℕ) (rest : Row) → Reach i m (seat b) a (target_found (seat b) (r + 5) g y (Some r) x) rest → RowLaw rest
        by_aim zero e b a rest q = second_rows (subst (λ (x : ℕ). AreNear (named x)) (sym e) tt) (subst (λ (x : ℕ). HasTaken m g (r + 5) (named x)) (sym e) tt) b a rest q
        by_aim (suc j) e b zero rest q = subst RowLaw q (value_load j e)
        by_aim (suc j) e b (suc a) rest q = value_rows j e b a rest q

        ended_rows : (b a : ℕ) (rest : Row) → Reach i m (seat b) a (Now (Load (Target (r + 5) g y (Some r)))) rest → RowLaw rest
        ended_rows b zero rest q = subst RowLaw q target_load
        ended_rows b (suc a) rest q = by_aim aim refl b a rest q

      -- by the right outcome, where the left branch ended, and where it trapped
      after_end : finish_of oa ≡ Some EndedSo → (x : Option Finish) → finish_of ob ≡ x → (b a : ℕ) (rest : Row) → Reach i m (seat b) a (right_row b EndedSo x) rest → RowLaw rest
      after_end e None k b a rest q = broken_rows b a rest q
      after_end e (Some Unset) k b a rest q = broken_rows b a rest q
      after_end e (Some (OutOfTurns x)) k b a rest q = broken_rows b a rest q
      after_end e (Some (OutOfRoom x)) k b a rest q = broken_rows b a rest q
      after_end e (Some Stopped) k b a rest q = broken_rows b a rest q
      after_end e (Some (BrokenAt x)) k b a rest q = broken_rows b a rest q
      after_end e (Some EndedSo) k b a rest q = ended_rows e k b a rest q
      after_end e (Some (TrappedBy x n)) k b a rest q = trap_rows x n (inr (e, k)) (λ z stays. to_outcome EndedSo refl e z stays (TrappedBy x n) k) b a rest q

      after_trap : (x : Trap) (n : ℕ) → finish_of oa ≡ Some (TrappedBy x n) → (v : Option Finish) → finish_of ob ≡ v → (b a : ℕ) (rest : Row) → Reach i m (seat b) a (right_row b (TrappedBy x n) v) rest → RowLaw rest
      after_trap x n e None k b a rest q = broken_rows b a rest q
      after_trap x n e (Some Unset) k b a rest q = broken_rows b a rest q
      after_trap x n e (Some (OutOfTurns v)) k b a rest q = broken_rows b a rest q
      after_trap x n e (Some (OutOfRoom v)) k b a rest q = broken_rows b a rest q
      after_trap x n e (Some Stopped) k b a rest q = broken_rows b a rest q
      after_trap x n e (Some (BrokenAt v)) k b a rest q = broken_rows b a rest q
      after_trap x n e (Some EndedSo) k b a rest q = trap_rows x n (inl e) (λ z stays. to_outcome (TrappedBy x n) refl e z stays EndedSo k) b a rest q
      after_trap x n e (Some (TrappedBy v u)) k b a rest q = trap_rows x n (inl e) (λ z stays. to_outcome (TrappedBy x n) refl e z stays (TrappedBy v u) k) b a rest q

      by_left : (x : Option Finish) → finish_of oa ≡ x → (b a : ℕ) (rest : Row) → Reach i m (seat b) a (left_row x) rest → RowLaw rest
      by_left None e b a rest q = broken_rows b a rest q
      by_left (Some Unset) e b a rest q = broken_rows b a rest q
      by_left (Some (OutOfTurns x)) e b a rest q = broken_rows b a rest q
      by_left (Some (OutOfRoom x)) e b a rest q = broken_rows b a rest q
      by_left (Some Stopped) e b a rest q = broken_rows b a rest q
      by_left (Some (BrokenAt x)) e b a rest q = broken_rows b a rest q
      by_left (Some EndedSo) e b a rest q = right_rows EndedSo refl e (after_end e (finish_of ob) refl) b a rest q
      by_left (Some (TrappedBy x n)) e b a rest q = right_rows (TrappedBy x n) refl e (after_trap x n e (finish_of ob) refl) b a rest q

      outcome_rows : (b a : ℕ) (rest : Row) → Reach i m (seat b) a left_point rest → RowLaw rest
      outcome_rows b zero rest q = subst RowLaw q left_load
      outcome_rows b (suc a) rest q = by_left (finish_of oa) refl b a rest q

    by_link : (x : Option Link) → link_of (m (BlockWord r)) ≡ x → (b a : ℕ) (rest : Row) → Reach i m (seat b) a (link_row x) rest → RowLaw rest
    by_link None e b a rest q = broken_rows b a rest q
    by_link (Some link) e b a rest q =
        let k : link.kind ≡ Forked g y = sym (ap (λ (x : Option Link). (link_or x).kind) e) ∙ hook_is in
        outcome_rows link.size (e ∙ ap (λ (x : LinkKind). Some (record { kind = x; size = link.size })) k) b a rest (subst (λ (x : LinkKind). Reach i m (seat b) a (join_by r x) rest) k q)

    link_rows : (b a : ℕ) (rest : Row) → Reach i m (seat b) a (Now (Load (JoinLink r))) rest → RowLaw rest
    link_rows b zero rest q = subst RowLaw q link_load
    link_rows b (suc a) rest q = by_link (link_of (m (BlockWord r))) refl b a rest q

  last_rows : (x : Bool) → is_last o d ≡ x → (b a : ℕ) (rest : Row) → Reach i m (seat b) a (joins (seat b) r false false x) rest → RowLaw rest
  last_rows true e b a rest q = link_rows e b a rest q
  last_rows false e b a rest q = broken_rows b a rest q

  row_law : (b a : ℕ) (rest : Row) → Reach i m (seat b) a (row b) rest → RowLaw rest
  row_law b zero rest q = subst RowLaw q order_load
  row_law b (suc a) rest q = last_rows (is_last o d) refl b a rest
      (subst₂ (λ (x k : Bool). Reach i m (seat b) a (joins (seat b) r x k (is_last o d)) rest) (ap (λ (x : ℕ). o == x) (first_is d) ∙ late) beyond q)

  -- after both stores
  collected_law : (rest : Row) → Collected m r d rest → RowLaw rest
  collected_law rest q =
      let frame_is : q.frame ≡ g = ap waiting_of (sym q.hook ∙ hook_is) in
      let copy_is : q.copy ≡ y = ap copy_of (sym q.hook ∙ hook_is) in
      subst RowLaw (sym (q.is ∙ ap₂ (λ (x v : ℕ). Now (Install (record { kind = Run x v; bottom = q.bottom }))) frame_is copy_is))
      (λ ends. last.values_installed i fair root input s t law p there keeps r d ke late beyond q.left_ended q.right_ended
      (subst (λ (x : ℕ). HasTaken m x (r + 5) (target_at m (r + 5)) ⊎ (target_at m (r + 5) ≡ target_at m f)) frame_is q.left)
      (subst (λ (x : ℕ). HasTaken m x f (target_at m f)) frame_is q.right))

  under_law : (rest : Row) → Under i m p (Join r d) rest → RowLaw rest
  under_law rest (inl q) = row_law q.0 q.1 rest q.2
  under_law rest (inr q) = collected_law rest q

  under_of : (rest : Row) → s.doing p ≡ InRow rest → RowLaw rest
  under_of rest e = under_law rest (subst₂ (λ (q : RestartKind) (x : Doing). Does i m p q x) ke e (law.does p))

  installed_law : (next : Then) → RowLaw (Now next) → Ends next → Law (installs s p (kind_then next)) (by_join p next t)
  installed_law (Install x) a ends = a ends
  installed_law (Fork x) a ends = a ends
  installed_law (Begin x w b) a ends = a ends
  installed_law (Load x) a ends = absurd ends
  installed_law (Move x) a ends = absurd ends
  installed_law (Enter x) a ends = absurd ends
  installed_law Again a ends = absurd ends
  installed_law Broken a ends = absurd ends

  last_join_keeps : JoinKeeps i root input s t p r d
  last_join_keeps = record {
    begins = λ own bottom. going i fair root input s t law p (ap is_taker ke) (InRow (Now (Load (JoinOrder r d)))) (subst (λ (k : RestartKind). Under i m p k (Now (Load (JoinOrder r d)))) (sym ke) (inl (bottom, 0, refl)));
    loads = λ own bottom victim point e. under_of (Now (Load point)) e own bottom victim;
    stores = λ own bottom found cell content next e. (under_of (Store cell content next) e).0 own bottom;
    exchanges_none = λ cell old new next e. under_of (Exchange cell old new next) e;
    installs = λ next e ends. installed_law next (under_of (Now next) e) ends;
    faults = going i fair root input s t law p (ap is_taker ke) Resting tt;
    cells = λ cell content next e. (under_of (Store cell content next) e).1;
  }

pub last_join_row_keeps : LastJoinRowKeeps
last_join_row_keeps i fair root input s t law p there r d ke late beyond =
    last_join_keeps i fair root input s t law p there (others_keep i fair root input s t law p) r d ke late beyond

early_keeps : (i : Setting) (root : Tree (Frame FrameWord Point) Result) (input : Words) (s : State) (t : Skeleton) (p r : ℕ) (d : Side) → EarlyJoinKeeps i root input s t p r d → JoinKeeps i root input s t p r d
early_keeps i root input s t p r d early = record {
  begins = early.begins;
  loads = early.loads;
  stores = λ own bottom found cell content next e. absurd (early.stores_none cell content next e);
  exchanges_none = early.exchanges_none;
  installs = early.installs;
  faults = early.faults;
  cells = λ cell content next e. absurd (early.stores_none cell content next e);
}

pub join_row_keeps : JoinRowKeeps
join_row_keeps i fair root input s t law p there r d ke = elim (cases_Bool (s.words (BlockWord (r + 1)) == side_code d)) [
  | inl came ↦ early_keeps i root input s t p r d (early_join_row_keeps i fair root input s t law p there r d ke (inl came))
  | inr late ↦ elim (cases_Bool (is_inline (s.words (BlockWord (r + 1))) d)) [
    | inl both ↦ early_keeps i root input s t p r d (early_join_row_keeps i fair root input s t law p there r d ke (inr both))
    | inr beyond ↦ last_join_row_keeps i fair root input s t law p there r d ke late beyond
  ]
]
