-- A value passes to the frame that waits for it.
use Rattle.std.proofs.Common.{◌≡◌, ◌≢◌, ◌<◌, ℕ, zero, suc, ◌+◌, inl, inr, refl, sym, ap, ap₂, ◌∙◌, subst, subst₂, arith, Option, Some, None}
use Rattle.std.proofs.Math.Path.{fun_ext}
use Rattle.std.proofs.lemmas.Bool.{cases_eq, eq-eqb, ne_eqb, lt-ltb, cond-true, cond-false}
use Rattle.ppm_words.specs.declared.trap.Trap.{Trap}
use Rattle.ppm_strands.specs.Tree.{Words, Tree, Strand, Call, Over as Ends}
use Rattle.ppm_strands.specs.Run.{none}
use Rattle.ppm_strands.specs.Ahead.{Step, Receive, Return}
use Rattle.ppm_cells.specs.Finish.{finish_of}
use Rattle.ppm_cells.specs.declared.cell.Cell.{Cell}
use Rattle.ppm_cells.specs.declared.cell.Cell.TheVariants.{BlockWord}
use Rattle.ppm_cells.specs.declared.finish.Finish.{Finish}
use Rattle.ppm_cells.specs.declared.finish.Finish.TheVariants.{Trapped as TrappedBy}
use Rattle.ppm_cells.specs.declared.link.LinkKind.{LinkKind}
use Rattle.ppm_strands.specs.Strand.{Frame, code_of}
use Rattle.ppm_code.specs.Locations.{code_locations}
use Rattle.ppm_code.specs.Sizes.{slot_at, value_at}
use Rattle.ppm_code.specs.Strands.{Point, Result, Gave, Trapped, with_value, resume, at_capsule, table_of}
use Rattle.ppm_code.specs.declared.code.CodeParts.{CodeParts}
use Rattle.ppm_code.specs.declared.location.FrameWord.{FrameWord}
use Rattle.ppm_code.specs.declared.location.FrameWord.TheVariants.{Slot, Value}
use Rattle.ppm_frames.specs.Views.{written}
use Rattle.ppm_frames.specs.Seen.{own_at}
use Rattle.ppm_frames.specs.Skeletons.{Begins, Over, InPlace, Leaf, Calling, header, named, target_at, frame_at, result_by, result_at, tree_at}
use Rattle.ppm_frames.specs.Laws.{IsWhole, IsInSlot, AllValuesPass}
use Rattle.ppm_frames.proofs.WriteLemmas.{write_else, address}
use Rattle.ppm_frames.proofs.SeenLemmas.{if_true, choice}

-- a word of a frame with a value in a slot
valued_here : (slot v : ℕ) (own : FrameWord → ℕ) → with_value (Some slot) v own (Slot slot) ≡ v
valued_here slot v own = cond-true _ _ _ (eq-eqb slot slot refl)

valued_else : (slot v j : ℕ) (own : FrameWord → ℕ) → j ≢ slot → with_value (Some slot) v own (Slot j) ≡ own (Slot j)
valued_else slot v j own ne = cond-false _ _ _ (ne_eqb j slot ne)

module _ (code : CodeParts) (words : ℕ) (m : Cell → ℕ) (g l y f n : ℕ) (h : LinkKind) (a : Words) where
  abbrev value : ℕ
  value = m (BlockWord (f + value_at))

  abbrev waits : Option ℕ → Frame FrameWord Point
  waits to = frame_at m g l y None to

  -- the value stands already
  stands_in : (to : Option ℕ) → IsInSlot m f g l to → with_value to value (own_at m g l) ≡ own_at m g l
  stands_in None h = fun_ext (λ w. refl)
  stands_in (Some slot) h = fun_ext by
    where
      by : (w : FrameWord) → with_value (Some slot) value (own_at m g l) w ≡ own_at m g l w
      by Value = refl
      by (Slot j) = elim (cases_eq j slot) [
        | inl e ↦ subst (λ (i : ℕ). with_value (Some slot) value (own_at m g l) (Slot i) ≡ own_at m g l (Slot i)) (sym e)
            (valued_here slot value (own_at m g l) ∙ sym (if_true _ _ _ (lt-ltb slot l h.0) ∙ h.1))
        | inr ne ↦ valued_else slot value j (own_at m g l) ne
      ]

  gives : IsWhole m f → result_at m f (m (BlockWord (f + 1))) ≡ Gave value
  gives whole = ap (λ (o : Option Finish). result_by value o) whole

  returns : IsWhole m f → IsInSlot m f g l (target_at m f)
      → Step (code_of code_locations (table_of code words)) none (tree_at m h (Calling g l y (Leaf (InPlace 0) Over f n))) a (tree_at m h (Leaf (InPlace 0) (Begins y) g l)) a
  returns whole in_ = subst₂ (λ (o : Result) (u : Tree (Frame FrameWord Point) Result). Step (code_of code_locations (table_of code words)) none (Call (waits (target_at m f)) (Ends o)) a u a)
      (sym (gives whole)) (ap (λ (own : FrameWord → ℕ). Strand (record { own = own; point = at_capsule (m (BlockWord (header g y))) })) (stands_in (target_at m f) in_))
      (Return (waits (target_at m f)) (Gave value) a)

  traps : (trap : Trap) (line : ℕ) → finish_of (m (BlockWord (f + 1))) ≡ Some (TrappedBy trap line) → m (BlockWord (g + 1)) ≡ m (BlockWord (f + 1))
      → Step (code_of code_locations (table_of code words)) none (tree_at m h (Calling g l y (Leaf (InPlace 0) Over f n))) a (tree_at m h (Leaf (InPlace 0) Over g l)) a
  traps trap line is same = subst₂ (λ (o p : Result). Step (code_of code_locations (table_of code words)) none (Call (waits (target_at m f)) (Ends o)) a (Ends p) a)
      (sym (ap (λ (o : Option Finish). result_by value o) is))
      (sym (ap (λ (o : Option Finish). result_by (m (BlockWord (g + value_at))) o) (ap finish_of same ∙ is)))
      (Return (waits (target_at m f)) (Trapped trap line) a)

  module _ (slot : ℕ) (aims : named (m (BlockWord (f + 5))) ≡ Some slot) (less : slot < l) (whole : IsWhole m f) (apart : (j i : ℕ) → j < 6 + l → i < 6 + n → g + j ≢ f + i) where
    abbrev m' : Cell → ℕ
    m' = written m (BlockWord (g + slot_at slot)) value

    below : (i : ℕ) → i < 6 + n → m' (BlockWord (f + i)) ≡ m (BlockWord (f + i))
    below i lt = write_else m (BlockWord (g + slot_at slot)) value (BlockWord (f + i)) (λ e. apart (slot_at slot) i (omega (arith, less)) lt (sym (ap address e)))

    header_same : m' (BlockWord (header g y)) ≡ m (BlockWord (header g y))
    header_same = write_else m (BlockWord (g + slot_at slot)) value (BlockWord (header g y)) (λ e. by y (ap address e))
      where
        by : (y : ℕ) → header g y ≡ g + slot_at slot → ⊥
        by zero e = omega (arith, e)
        by (suc y) e = omega (arith, e)

    own_then : with_value (Some slot) value (own_at m' g l) ≡ with_value (Some slot) value (own_at m g l)
    own_then = fun_ext by
      where
        by : (w : FrameWord) → with_value (Some slot) value (own_at m' g l) w ≡ with_value (Some slot) value (own_at m g l) w
        by Value = write_else m (BlockWord (g + slot_at slot)) value (BlockWord (g + value_at)) (λ e. let z = ap address e in omega (arith, z))
        by (Slot j) = elim (cases_eq j slot) [
          | inl e ↦ subst (λ (i : ℕ). with_value (Some slot) value (own_at m' g l) (Slot i) ≡ with_value (Some slot) value (own_at m g l) (Slot i)) (sym e)
              (valued_here slot value (own_at m' g l) ∙ sym (valued_here slot value (own_at m g l)))
          | inr ne ↦ valued_else slot value j (own_at m' g l) ne
              ∙ choice j l _ _ (λ lt. write_else m (BlockWord (g + slot_at slot)) value (BlockWord (g + slot_at j)) (λ e. let z = ap address e in ne (omega (arith, z))))
              ∙ sym (valued_else slot value j (own_at m g l) ne)
        ]

    -- the outcome and the target are as before
    gives_still : result_at m' f (m' (BlockWord (f + 1))) ≡ Gave value
    gives_still = ap₂ (λ (v w : ℕ). result_by v (finish_of w)) (below value_at (omega arith)) (below 1 (omega arith)) ∙ gives whole

    aims_still : target_at m' f ≡ Some slot
    aims_still = ap named (below 5 (omega arith)) ∙ aims

    abbrev after : Option ℕ → Frame FrameWord Point
    after to = frame_at m' g l y None to

    goes_alike : resume (after (Some slot)) (Gave value) ≡ resume (waits (Some slot)) (Gave value)
    goes_alike = ap₂ (λ (own : FrameWord → ℕ) (k : ℕ). Strand (record { own = own; point = at_capsule k })) own_then header_same

    receives : Step (code_of code_locations (table_of code words)) none (tree_at m h (Calling g l y (Leaf (InPlace 0) Over f n))) a (tree_at m' h (Calling g l y (Leaf (InPlace 0) Over f n))) a
    receives = subst₂ (λ (x z : Option ℕ). Step (code_of code_locations (table_of code words)) none (Call (waits x) (Ends (result_at m f (m (BlockWord (f + 1)))))) a (Call (after z) (Ends (result_at m' f (m' (BlockWord (f + 1)))))) a)
        (sym aims) (sym aims_still)
        (subst₂ (λ (o p : Result). Step (code_of code_locations (table_of code words)) none (Call (waits (Some slot)) (Ends o)) a (Call (after (Some slot)) (Ends p)) a) (sym (gives whole)) (sym gives_still)
        (Receive (waits (Some slot)) (after (Some slot)) (Gave value) a goes_alike))

pub all_values_pass : AllValuesPass
all_values_pass code words m g l y f n h a = record {
  receives = receives code words m g l y f n h a;
  returns = returns code words m g l y f n h a;
  traps = traps code words m g l y f n h a;
}
