-- The values of two branches pass to the frame that waits for them.
use Rattle.std.proofs.Common.{◌≡◌, ◌≢◌, ◌⊎◌, ℕ, zero, suc, ◌+◌, inl, inr, refl, sym, ap, ap₂, ◌∙◌, subst, subst₂, arith, Option, Some, None}
use Rattle.std.proofs.Math.Path.{fun_ext}
use Rattle.std.proofs.lemmas.Bool.{cases_eq, eq-eqb, ne_eqb, lt-ltb, cond-true, cond-false}
use Rattle.ppm_strands.specs.Tree.{Words, Strand, Fork, Over as Ends}
use Rattle.ppm_strands.specs.Run.{none}
use Rattle.ppm_strands.specs.Ahead.{Step, Join, Collect}
use Rattle.ppm_cells.specs.Finish.{finish_of}
use Rattle.ppm_cells.specs.declared.cell.Cell.{Cell}
use Rattle.ppm_cells.specs.declared.cell.Cell.TheVariants.{BlockWord}
use Rattle.ppm_cells.specs.declared.finish.Finish.TheVariants.{Ended}
use Rattle.ppm_cells.specs.declared.link.LinkKind.{LinkKind}
use Rattle.ppm_strands.specs.Strand.{Frame, code_of}
use Rattle.ppm_code.specs.Locations.{code_locations}
use Rattle.ppm_code.specs.Sizes.{slot_at, value_at}
use Rattle.ppm_code.specs.Strands.{Point, Result, Gave, with_value, at_capsule, table_of}
use Rattle.ppm_code.specs.declared.code.CodeParts.{CodeParts}
use Rattle.ppm_code.specs.declared.location.FrameWord.{FrameWord}
use Rattle.ppm_code.specs.declared.location.FrameWord.TheVariants.{Slot, Value}
use Rattle.ppm_frames.specs.Laws.{IsInSlot}
use Rattle.ppm_frames.specs.Views.{written}
use Rattle.ppm_frames.specs.Seen.{own_at}
use Rattle.ppm_frames.specs.Skeletons.{Begins, InPlace, Who, Leaf, header, named, target_at, frame_at, result_by, result_at, tree_at}
use Rattle.ppm_frames.proofs.WriteLemmas.{write_else, address}
use Rattle.ppm_frames.proofs.SeenLemmas.{if_true, choice}
use Rattle.ppm_kept.specs.JoinValues.{come_both, BranchesStay, AllBranchValuesPass}

valued_here : (slot v : ℕ) (own : FrameWord → ℕ) → with_value (Some slot) v own (Slot slot) ≡ v
valued_here slot v own = cond-true _ _ _ (eq-eqb slot slot refl)

valued_else : (slot v j : ℕ) (own : FrameWord → ℕ) → j ≢ slot → with_value (Some slot) v own (Slot j) ≡ own (Slot j)
valued_else slot v j own ne = cond-false _ _ _ (ne_eqb j slot ne)

-- words that differ in one slot alone
abbrev Off : ℕ → (own new : FrameWord → ℕ) → Type 0
Off j own new = (new Value ≡ own Value) × ((x : ℕ) → x ≢ j → new (Slot x) ≡ own (Slot x))

still_off : (j : ℕ) (own new : FrameWord → ℕ) (to : Option ℕ) (v : ℕ) → Off j own new → Off j (with_value to v own) (with_value to v new)
still_off j own new None v off = off
still_off j own new (Some k) v off = (
  off.0,
  λ x ne. elim (cases_eq x k) [
    | inl e ↦ subst (λ (z : ℕ). with_value (Some k) v new (Slot z) ≡ with_value (Some k) v own (Slot z)) (sym e) (valued_here k v new ∙ sym (valued_here k v own))
    | inr other ↦ valued_else k v x new other ∙ off.1 x ne ∙ sym (valued_else k v x own other)
  ],
)

same_on : (j v : ℕ) (own new : FrameWord → ℕ) → Off j own new → with_value (Some j) v new ≡ with_value (Some j) v own
same_on j v own new off = fun_ext by
  where
    by : (w : FrameWord) → with_value (Some j) v new w ≡ with_value (Some j) v own w
    by Value = off.0
    by (Slot x) = elim (cases_eq x j) [
      | inl e ↦ subst (λ (z : ℕ). with_value (Some j) v new (Slot z) ≡ with_value (Some j) v own (Slot z)) (sym e) (valued_here j v new ∙ sym (valued_here j v own))
      | inr ne ↦ valued_else j v x new ne ∙ off.1 x ne ∙ sym (valued_else j v x own ne)
    ]

-- the second value into one slot
twice : (to : Option ℕ) (v w : ℕ) (own : FrameWord → ℕ) → with_value to w (with_value to v own) ≡ with_value to w own
twice None v w own = refl
twice (Some j) v w own = same_on j w own (with_value (Some j) v own) (refl, λ x ne. valued_else j v x own ne)

module _ (code : CodeParts) (words : ℕ) (m : Cell → ℕ) (a b : Who) (g l y r f na nb : ℕ) (h : LinkKind) (x : Words)
    (left_ended : finish_of (m (BlockWord (r + 2))) ≡ Some Ended) (right_ended : finish_of (m (BlockWord (r + 3))) ≡ Some Ended) where
  abbrev va : ℕ
  va = m (BlockWord (r + 5 + value_at))

  abbrev vb : ℕ
  vb = m (BlockWord (f + value_at))

  left_gave : result_at m (r + 5) (m (BlockWord (r + 2))) ≡ Gave va
  left_gave = ap (result_by va) left_ended

  right_gave : result_at m f (m (BlockWord (r + 3))) ≡ Gave vb
  right_gave = ap (result_by vb) right_ended

  abbrev waits : (n : Cell → ℕ) → (p q : Option ℕ) → Frame FrameWord Point
  waits n p q = frame_at n g l y p q

  module _ (slot w : ℕ) (stay : BranchesStay m (written m (BlockWord (g + slot_at slot)) w) r f) where
    abbrev n : Cell → ℕ
    n = written m (BlockWord (g + slot_at slot)) w

    header_same : n (BlockWord (header g y)) ≡ m (BlockWord (header g y))
    header_same = write_else m (BlockWord (g + slot_at slot)) w (BlockWord (header g y)) (λ e. by y (ap address e))
      where
        by : (y : ℕ) → header g y ≡ g + slot_at slot → ⊥
        by zero e = omega (arith, e)
        by (suc y) e = omega (arith, e)

    off : Off slot (own_at m g l) (own_at n g l)
    off = (
      write_else m (BlockWord (g + slot_at slot)) w (BlockWord (g + value_at)) (λ e. let z = ap address e in omega (arith, z)),
      λ j ne. choice j l _ _ (λ lt. write_else m (BlockWord (g + slot_at slot)) w (BlockWord (g + slot_at j)) (λ e. let z = ap address e in ne (omega (arith, z)))),
    )

    collects : with_value (target_at m f) vb (with_value (target_at m (r + 5)) va (own_at n g l)) ≡ with_value (target_at m f) vb (with_value (target_at m (r + 5)) va (own_at m g l))
        → Step (code_of code_locations (table_of code words)) none (tree_at m h (come_both a b g l y r f na nb)) x (tree_at n h (come_both a b g l y r f na nb)) x
    collects same =
        subst₂ (λ (p q : Option ℕ). Step (code_of code_locations (table_of code words)) none (tree_at m h (come_both a b g l y r f na nb)) x
        (Fork (waits n p q) (Ends (result_at n (r + 5) (n (BlockWord (r + 2))))) (Ends (result_at n f (n (BlockWord (r + 3)))))) x)
        (sym (ap named stay.left_target)) (sym (ap named stay.right_target))
        (subst₂ (λ (o p : Result). Step (code_of code_locations (table_of code words)) none (tree_at m h (come_both a b g l y r f na nb)) x
        (Fork (waits n (target_at m (r + 5)) (target_at m f)) (Ends o) (Ends p)) x)
        (sym (ap₂ (λ (v o : ℕ). result_by v (finish_of o)) stay.left_value stay.left ∙ left_gave)) (sym (ap₂ (λ (v o : ℕ). result_by v (finish_of o)) stay.right_value stay.right ∙ right_gave))
        (subst₂ (λ (o p : Result). Step (code_of code_locations (table_of code words)) none (Fork (waits m (target_at m (r + 5)) (target_at m f)) (Ends o) (Ends p)) x
        (Fork (waits n (target_at m (r + 5)) (target_at m f)) (Ends (Gave va)) (Ends (Gave vb))) x)
        (sym left_gave) (sym right_gave)
        (Collect (waits m (target_at m (r + 5)) (target_at m f)) (waits n (target_at m (r + 5)) (target_at m f)) (Gave va) (Gave vb) x
        (ap₂ (λ (own : FrameWord → ℕ) (k : ℕ). Strand (record { own = own; point = at_capsule k })) same header_same))))

  stands_in : (to : Option ℕ) (k : ℕ) → IsInSlot m k g l to → with_value to (m (BlockWord (k + value_at))) (own_at m g l) ≡ own_at m g l
  stands_in None k i = fun_ext (λ w. refl)
  stands_in (Some slot) k i = fun_ext by
    where
      by : (w : FrameWord) → with_value (Some slot) (m (BlockWord (k + value_at))) (own_at m g l) w ≡ own_at m g l w
      by Value = refl
      by (Slot j) = elim (cases_eq j slot) [
        | inl e ↦ subst (λ (z : ℕ). with_value (Some slot) (m (BlockWord (k + value_at))) (own_at m g l) (Slot z) ≡ own_at m g l (Slot z)) (sym e)
            (valued_here slot (m (BlockWord (k + value_at))) (own_at m g l) ∙ sym (if_true _ _ _ (lt-ltb slot l i.0) ∙ i.1))
        | inr ne ↦ valued_else slot (m (BlockWord (k + value_at))) j (own_at m g l) ne
      ]

  joins : IsInSlot m (r + 5) g l (target_at m (r + 5)) ⊎ (target_at m (r + 5) ≡ target_at m f) → IsInSlot m f g l (target_at m f)
      → Step (code_of code_locations (table_of code words)) none (tree_at m h (come_both a b g l y r f na nb)) x (tree_at m h (Leaf (InPlace 0) (Begins y) g l)) x
  joins left right =
      let same : with_value (target_at m f) vb (with_value (target_at m (r + 5)) va (own_at m g l)) ≡ own_at m g l = elim left [
        | inl i ↦ ap (with_value (target_at m f) vb) (stands_in (target_at m (r + 5)) (r + 5) i) ∙ stands_in (target_at m f) f right
        | inr e ↦ ap (λ (p : Option ℕ). with_value (target_at m f) vb (with_value p va (own_at m g l))) e ∙ twice (target_at m f) va vb (own_at m g l) ∙ stands_in (target_at m f) f right
      ] in
      subst (λ (own : FrameWord → ℕ). Step (code_of code_locations (table_of code words)) none (tree_at m h (come_both a b g l y r f na nb)) x (Strand (record { own = own; point = at_capsule (m (BlockWord (header g y))) })) x) same
      (subst₂ (λ (o p : Result). Step (code_of code_locations (table_of code words)) none (Fork (waits m (target_at m (r + 5)) (target_at m f)) (Ends o) (Ends p)) x
      (Strand (record { own = with_value (target_at m f) vb (with_value (target_at m (r + 5)) va (own_at m g l)); point = at_capsule (m (BlockWord (header g y))) })) x)
      (sym left_gave) (sym right_gave) (Join (waits m (target_at m (r + 5)) (target_at m f)) (Gave va) (Gave vb) x))

pub all_branch_values_pass : AllBranchValuesPass
all_branch_values_pass code words m a b g l y r f na nb h x left_ended right_ended = record {
  left = λ slot w aims stay. collects code words m a b g l y r f na nb h x left_ended right_ended slot w stay
      (ap (with_value (target_at m f) (m (BlockWord (f + value_at))))
      (subst (λ (p : Option ℕ). with_value p (m (BlockWord (r + 5 + value_at))) (own_at (written m (BlockWord (g + slot_at slot)) w) g l) ≡ with_value p (m (BlockWord (r + 5 + value_at))) (own_at m g l)) (sym aims)
      (same_on slot (m (BlockWord (r + 5 + value_at))) (own_at m g l) (own_at (written m (BlockWord (g + slot_at slot)) w) g l) (off code words m a b g l y r f na nb h x left_ended right_ended slot w stay))));
  right = λ slot w aims stay. collects code words m a b g l y r f na nb h x left_ended right_ended slot w stay
      (subst (λ (p : Option ℕ). with_value p (m (BlockWord (f + value_at))) (with_value (target_at m (r + 5)) (m (BlockWord (r + 5 + value_at))) (own_at (written m (BlockWord (g + slot_at slot)) w) g l))
      ≡ with_value p (m (BlockWord (f + value_at))) (with_value (target_at m (r + 5)) (m (BlockWord (r + 5 + value_at))) (own_at m g l))) (sym aims)
      (same_on slot (m (BlockWord (f + value_at))) _ _ (still_off slot (own_at m g l) (own_at (written m (BlockWord (g + slot_at slot)) w) g l) (target_at m (r + 5)) (m (BlockWord (r + 5 + value_at)))
      (off code words m a b g l y r f na nb h x left_ended right_ended slot w stay))));
  joins = joins code words m a b g l y r f na nb h x left_ended right_ended;
}
