-- A row is reached in words that are the same wherever it loads or stores.
use Rattle.std.proofs.Common.{◌≡◌, ◌≤◌, ◌<◌, ℕ, zero, suc, ◌+◌, ◌==◌, Bool, true, false, inl, inr, refl, sym, ap, ◌∙◌, subst, arith, Option, Some, None}
use Rattle.std.specs.Prelude.{nat_lt, if◌then◌else◌}
use Rattle.ppm_cells.specs.Cells.{word_count}
use Rattle.ppm_cells.specs.Finish.{finish_of}
use Rattle.ppm_cells.specs.Link.{link_of}
use Rattle.ppm_cells.specs.declared.cell.Cell.{Cell}
use Rattle.ppm_cells.specs.declared.cell.Cell.TheVariants.{BlockWord}
use Rattle.ppm_cells.specs.declared.finish.Finish.{Finish}
use Rattle.ppm_cells.specs.declared.finish.Finish.TheVariants.{Ended, Trapped}
use Rattle.ppm_cells.specs.declared.link.Link.{Link}
use Rattle.ppm_cells.specs.declared.link.LinkKind.{LinkKind}
use Rattle.ppm_cells.specs.declared.link.LinkKind.TheVariants.{Fork as Forked}
use Rattle.ppm_cells.specs.declared.restart.RestartKind.{RestartKind}
use Rattle.ppm_cells.specs.declared.restart.RestartKind.TheVariants.{Run, Unwind}
use Rattle.ppm_cells.specs.declared.side.Side.{Side}
use Rattle.ppm_words.specs.declared.trap.Trap.{Trap}
use Rattle.ppm_step.specs.Contents.{read_so, content_of, word_of}
use Rattle.ppm_step.specs.Points.{cell_at, reading_at}
use Rattle.ppm_cells.specs.JoinOutcome.{outcome_of_both}
use Rattle.ppm_step.specs.Points.{outcome_word}
use Rattle.ppm_step.specs.Rows.{is_inline, on_link, on_outcome, with_kind, if_there, after_value, target_found, join_by, join_outcome, found_at}
use Rattle.ppm_step.specs.declared.content.Content.{Content}
use Rattle.ppm_step.specs.declared.content.Content.TheVariants.{ALink, AFinish}
use Rattle.ppm_step.specs.declared.row.Point.{Point}
use Rattle.ppm_step.specs.declared.row.Point.TheVariants.{Target, GivenValue, JoinLink, JoinLeft, JoinRight, RightFrame}
use Rattle.ppm_step.specs.declared.row.Row.{Row}
use Rattle.ppm_step.specs.declared.row.Row.TheVariants.{Now, Store, Exchange}
use Rattle.ppm_step.specs.declared.row.Seat.{Seat}
use Rattle.ppm_step.specs.declared.row.Then.{Then}
use Rattle.ppm_step.specs.declared.row.Then.TheVariants.{Load, Fork, Begin, Again, Broken}
use Rattle.ppm_frames.specs.Skeletons.{named, target_at}
use Rattle.ppm_frames.specs.Good.{link_or, link_at}
use Rattle.ppm_kept.specs.Kept.{Setting, side_code, HasTaken, Collected, Reach}

-- the frame of a fork's link
abbrev pub waiting_of : LinkKind → ℕ
waiting_of (Forked f y) = f
waiting_of _ = 0

module _ (i : Setting) (m n : Cell → ℕ) (seat : Seat) where
  abbrev pub SameRow : Row → Type 0
  SameRow row = (j : ℕ) (rr : Row) → Reach i m seat j row rr → Reach i n seat j row rr

  -- rows that are at their end
  pub broken_row : SameRow (Now Broken)
  broken_row zero rr e = e
  broken_row (suc j) rr e = absurd e

  pub again_row : SameRow (Now Again)
  again_row zero rr e = e
  again_row (suc j) rr e = absurd e

  pub install_row : (k : RestartKind) → SameRow (Now (with_kind seat k))
  install_row k zero rr e = e
  install_row k (suc j) rr e = absurd e

  pub fork_row : (r : ℕ) → SameRow (Now (Fork r))
  fork_row r zero rr e = e
  fork_row r (suc j) rr e = absurd e

  pub begin_row : (r f b : ℕ) → SameRow (Now (Begin r f b))
  begin_row r f b zero rr e = e
  begin_row r f b (suc j) rr e = absurd e

  pub load_row : (point : Point) → n (cell_at seat 0 point) ≡ m (cell_at seat 0 point)
      → SameRow (found_at i.shape seat 0 point (content_of (reading_at point) (m (cell_at seat 0 point)))) → SameRow (Now (Load point))
  load_row point e same zero rr at_ = at_
  load_row point e same (suc j) rr at_ =
      subst (λ (w : ℕ). Reach i n seat j (found_at i.shape seat 0 point (content_of (reading_at point) w)) rr) (sym e) (same j rr at_)

  pub store_row : (c : Cell) (w : Content) (next : Then) → n c ≡ m c → SameRow (Now next) → SameRow (Store c w next)
  store_row c w next e same zero rr at_ = at_
  store_row c w next e same (suc j) rr at_ = (e ∙ at_.0, same j rr at_.1)

  pub exchange_row : (c : Cell) (old new : Content) (next : Then) → ((m c ≡ word_of old → ⊥) → n c ≡ word_of old → ⊥) → SameRow (Now next) → SameRow (Exchange c old new next)
  exchange_row c old new next keeps same zero rr at_ = at_
  exchange_row c old new next keeps same (suc j) rr at_ = (keeps at_.0, same j rr at_.1)

  -- by what was read
  pub link_row : (go : Link → Row) (o : Option Link) → ((l : Link) → o ≡ Some l → SameRow (go l)) → SameRow (on_link (read_so ALink o) go)
  link_row go None same = broken_row
  link_row go (Some l) same = same l refl

  pub outcome_row : (go : Finish → Row) (o : Option Finish) → SameRow (go Ended) → ((trap : Trap) (line : ℕ) → SameRow (go (Trapped trap line))) → SameRow (on_outcome (read_so AFinish o) go)
  outcome_row go None ended traps = broken_row
  outcome_row go (Some Ended) ended traps = ended
  outcome_row go (Some (Trapped trap line)) ended traps = traps trap line
  outcome_row go (Some _) ended traps = broken_row

  pub if_there_row : (x : ℕ) (row : Row) → SameRow row → SameRow (if_there i.shape x row)
  if_there_row x row same = by (nat_lt x (word_count i.shape))
    where
      by : (b : Bool) → SameRow (if b then row else Now Broken)
      by true = same
      by false = broken_row

  -- a value goes into the slot that is named, if one is
  pub value_row : (f g y l : ℕ) (right_of : Option ℕ) → n (BlockWord (f + 5)) ≡ m (BlockWord (f + 5)) → n (BlockWord (f + 4)) ≡ m (BlockWord (f + 4))
      → ((j : ℕ) → j < l → n (BlockWord (g + (6 + j))) ≡ m (BlockWord (g + (6 + j)))) → m (BlockWord (f + 5)) ≤ l → SameRow (Now (after_value seat g y right_of))
      → SameRow (Now (Load (Target f g y right_of)))
  value_row f g y l right_of target value slots le same = load_row (Target f g y right_of) target (by (m (BlockWord (f + 5))) le)
    where
      by : (x : ℕ) → x ≤ l → SameRow (target_found seat f g y right_of x)
      by zero le = same
      by (suc x) le = load_row (GivenValue f g y (suc x) right_of) value
          (if_there_row (g + 5 + suc x) _ (store_row (BlockWord (g + 5 + suc x)) _ (after_value seat g y right_of)
          (subst (λ (z : ℕ). n (BlockWord z) ≡ m (BlockWord z)) {x = g + (6 + x)} (omega arith) (slots x (omega (arith, le)))) same))

  -- the words of a fork whose branches have come, and of the frame that waits
  pub record JoinWords (r g y l : ℕ) : Type 0 where
    pub link : n (BlockWord r) ≡ m (BlockWord r)
    pub hooked : (link_at (m (BlockWord r))).kind ≡ Forked g y
    pub left : n (BlockWord (r + 2)) ≡ m (BlockWord (r + 2))
    pub right : n (BlockWord (r + 3)) ≡ m (BlockWord (r + 3))
    pub offset : n (BlockWord (r + 4)) ≡ m (BlockWord (r + 4))
    pub left_value : n (BlockWord (r + 5 + 4)) ≡ m (BlockWord (r + 5 + 4))
    pub left_target : n (BlockWord (r + 5 + 5)) ≡ m (BlockWord (r + 5 + 5))
    pub left_aim : m (BlockWord (r + 5 + 5)) ≤ l
    pub right_value : n (BlockWord (r + m (BlockWord (r + 4)) + 4)) ≡ m (BlockWord (r + m (BlockWord (r + 4)) + 4))
    pub right_target : n (BlockWord (r + m (BlockWord (r + 4)) + 5)) ≡ m (BlockWord (r + m (BlockWord (r + 4)) + 5))
    pub right_aim : m (BlockWord (r + m (BlockWord (r + 4)) + 5)) ≤ l
    pub outcome : n (BlockWord (g + 1)) ≡ m (BlockWord (g + 1))
    pub slots : (j : ℕ) → j < l → n (BlockWord (g + (6 + j))) ≡ m (BlockWord (g + (6 + j)))

  module _ (r g y l : ℕ) (words : JoinWords r g y l) where
    abbrev o : ℕ
    o = m (BlockWord (r + 4))

    right_frame_row : SameRow (Now (Load (RightFrame r g y)))
    right_frame_row = load_row (RightFrame r g y) words.offset
        (if_there_row (r + o) (Now (Load (Target (r + o) g y None)))
        (value_row (r + o) g y l None words.right_target words.right_value words.slots words.right_aim (install_row (Run g y))))

    out_row : (f : Finish) → SameRow (join_outcome seat r g y f)
    out_row Ended = value_row (r + 5) g y l (Some r) words.left_target words.left_value words.slots words.left_aim right_frame_row
    out_row f = store_row (outcome_word g) (AFinish f) (with_kind seat (Unwind g)) words.outcome (install_row (Unwind g))

    right_row : (left : Finish) → SameRow (Now (Load (JoinRight r g y left)))
    right_row left = load_row (JoinRight r g y left) words.right (outcome_row (λ right. join_outcome seat r g y (outcome_of_both left right)) (finish_of (m (BlockWord (r + 3))))
        (out_row (outcome_of_both left Ended)) (λ trap line. out_row (outcome_of_both left (Trapped trap line))))

    pub last_row : SameRow (Now (Load (JoinLink r)))
    last_row = load_row (JoinLink r) words.link (link_row (λ link. join_by r link.kind) (link_of (m (BlockWord r))) (λ link e.
        subst (λ (h : LinkKind). SameRow (join_by r h)) (sym (sym (ap (λ (o : Option Link). (link_or o).kind) e) ∙ words.hooked))
        (load_row (JoinLeft r g y) words.left (outcome_row (λ left. Now (Load (JoinRight r g y left))) (finish_of (m (BlockWord (r + 2))))
        (right_row Ended) (λ trap line. right_row (Trapped trap line))))))

    -- after both values
    taken_same : (f : ℕ) → n (BlockWord (f + 4)) ≡ m (BlockWord (f + 4)) → (x : ℕ) → x ≤ l → HasTaken m g f (named x) → HasTaken n g f (named x)
    taken_same f value zero le taken = tt
    taken_same f value (suc j) le taken = words.slots j (omega (arith, le)) ∙ taken ∙ sym value

    left_taken : HasTaken m g (r + 5) (target_at m (r + 5)) → HasTaken n g (r + 5) (target_at n (r + 5))
    left_taken taken = subst (λ (x : ℕ). HasTaken n g (r + 5) (named x)) (sym words.left_target) (taken_same (r + 5) words.left_value (m (BlockWord (r + 5 + 5))) words.left_aim taken)

    right_taken : HasTaken m g (r + o) (target_at m (r + o)) → HasTaken n g (r + o) (target_at n (r + o))
    right_taken taken = subst (λ (x : ℕ). HasTaken n g (r + o) (named x)) (sym words.right_target) (taken_same (r + o) words.right_value (m (BlockWord (r + o + 5))) words.right_aim taken)

    pub collected_same : (d : Side) (row : Row) → n (BlockWord (r + 1)) ≡ m (BlockWord (r + 1)) → Collected m r d row → Collected n r d row
    collected_same d row order c =
        let frame_is : c.frame ≡ g = ap waiting_of (sym c.hook ∙ words.hooked) in
        record {
          frame = c.frame;
          copy = c.copy;
          bottom = c.bottom;
          is = c.is;
          late = ap (λ (w : ℕ). w == side_code d) order ∙ c.late;
          beyond = ap (λ (w : ℕ). is_inline w d) order ∙ c.beyond;
          hook = ap (λ (w : ℕ). (link_at w).kind) words.link ∙ c.hook;
          left_ended = ap finish_of words.left ∙ c.left_ended;
          right_ended = ap finish_of words.right ∙ c.right_ended;
          left = elim c.left [
            | inl taken ↦ inl (subst (λ (x : ℕ). HasTaken n x (r + 5) (target_at n (r + 5))) (sym frame_is)
                (left_taken (subst (λ (x : ℕ). HasTaken m x (r + 5) (target_at m (r + 5))) frame_is taken)))
            | inr e ↦ inr (ap named words.left_target ∙ e ∙ sym (ap named words.right_target) ∙ ap (λ (x : ℕ). target_at n (r + x)) (sym words.offset))
          ];
          right = subst (λ (x : ℕ). HasTaken n c.frame (r + x) (target_at n (r + x))) (sym words.offset)
              (subst (λ (x : ℕ). HasTaken n x (r + o) (target_at n (r + o))) (sym frame_is)
              (right_taken (subst (λ (x : ℕ). HasTaken m x (r + o) (target_at m (r + o))) frame_is c.right)));
        }
