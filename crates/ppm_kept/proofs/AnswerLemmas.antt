-- At an outcome the tree is the root's leaf, over; so the depth-first run ends as it says.
use Rattle.std.proofs.Common.{◌≡◌, ℕ, zero, suc, ◌+◌, inl, inr, List, [], refl, sym, ap, ◌∙◌, subst, Option, Some}
use Rattle.std.proofs.lemmas.Bool.{lt-ltb}
use Rattle.ppm_strands.specs.Tree.{Words, Tree}
use Rattle.ppm_strands.specs.Tree as tree
use Rattle.ppm_strands.specs.Run.{none, End, with_counts, Ends}
use Rattle.ppm_cells.specs.Finish.{finish_of, IsOutcome}
use Rattle.ppm_cells.specs.Memory.{read}
use Rattle.ppm_cells.specs.declared.cell.Cell.{Cell}
use Rattle.ppm_cells.specs.declared.cell.Cell.TheVariants.{FinishWord, BlockWord, ArrayWord}
use Rattle.ppm_cells.specs.declared.finish.Finish.{Finish}
use Rattle.ppm_cells.specs.declared.finish.Finish.TheVariants.{Ended as EndedSo, Trapped as TrappedBy}
use Rattle.ppm_strands.specs.Strand.{Frame}
use Rattle.ppm_code.specs.Sizes.{value_at}
use Rattle.ppm_code.specs.Strands.{Point, Result}
use Rattle.ppm_code.specs.declared.location.FrameWord.{FrameWord}
use Rattle.ppm_step.specs.State.{State as Machine}
use Rattle.ppm_frames.specs.Views.{view}
use Rattle.ppm_frames.specs.Seen.{arrays_at}
use Rattle.ppm_frames.specs.Skeletons.{Skeleton, result_by, result_at, tree_of}
use Rattle.ppm_frames.proofs.ViewLemmas.{view_is}
use Rattle.ppm_kept.specs.Running.{strands}
use Rattle.ppm_kept.specs.Kept.{Setting, Ended, IsKept}
use Rattle.ppm_kept.specs.Left.{Followed, left_words, left}
use Rattle.ppm_kept.specs.Places.{places_of}
use Rattle.ppm_kept.specs.Answers.{finish_by, AnswersSo, EndsAsMeant}
use Rattle.ppm_kept.proofs.LeftLemmas.{left_same}

-- an outcome says what the root came to
outcome_is : (value : ℕ) (v : Finish) → IsOutcome v → v ≡ finish_by (result_by value (Some v))
outcome_is value EndedSo out = refl
outcome_is value (TrappedBy trap line) out = refl
outcome_is value _ out = absurd out

module _ (i : Setting) (root : Tree (Frame FrameWord Point) Result) (input : Words) (state : Machine) (l : List Followed) (t : Skeleton) (law : IsKept i root input (left i l (places_of i.shape state)) t) (v : Finish)
    (said : finish_of (read i.shape state.words FinishWord) ≡ Some v) (out : IsOutcome v) where
  abbrev m : Cell → ℕ
  m = left_words i l (view i.shape state.words)

  finish_is : finish_of (m FinishWord) ≡ Some v
  finish_is = ap finish_of (left_same i l (view i.shape state.words) FinishWord (λ u h. tt) ∙ view_is i.shape state.words FinishWord refl) ∙ said

  module _ (e : Ended m t) where
    abbrev last : Result
    last = result_at m e.frame (m (BlockWord (e.frame + 1)))

    over : tree_of m t ≡ tree.Over last
    over = ap (tree_of m) e.is

    abbrev rest : End Result
    rest = record { outcome = last; words = arrays_at m; counts = none }

    left_ends : Ends (strands i.shape i.code) (tree_of m t) (arrays_at m) rest
    left_ends = subst (λ (w : Tree (Frame FrameWord Point) Result). Ends (strands i.shape i.code) w (arrays_at m) rest) (sym over) (suc zero, refl)

    answers : AnswersSo i root input state t v
    answers = record {
      end = with_counts law.ahead.0 rest;
      ends = (law.ahead.1.ends (with_counts law.ahead.0 rest)).1 (rest, left_ends, refl);
      outcome = outcome_is (m (BlockWord (e.frame + value_at))) v out
          ∙ ap (λ (o : Option Finish). finish_by (result_by (m (BlockWord (e.frame + value_at))) o)) (sym (ap finish_of (sym e.gave) ∙ finish_is));
      arrays = λ x lt. sym (left_same i l (view i.shape state.words) (ArrayWord x) (λ u h. tt) ∙ view_is i.shape state.words (ArrayWord x) (lt-ltb x i.shape.arrays lt));
      place = e.place;
      frame = e.frame;
      slots = e.slots;
      alone = e.is;
    }

  ends_so : AnswersSo i root input state t v
  ends_so = elim law.finished [ inl no_outcome ↦ absurd (no_outcome v finish_is out) | inr e ↦ answers e ]

pub ends_as_meant : EndsAsMeant
ends_as_meant i root input state t law v said out = ends_so i root input state [] t law v said out

-- an outcome says what the root came to, with those places left out that were followed
pub left_ends_as_meant : (i : Setting) (root : Tree (Frame FrameWord Point) Result) (input : Words) (state : Machine) (l : List Followed) (t : Skeleton) → IsKept i root input (left i l (places_of i.shape state)) t
    → (v : Finish) → finish_of (read i.shape state.words FinishWord) ≡ Some v → IsOutcome v → AnswersSo i root input state t v
left_ends_as_meant i root input state l t law v said out = ends_so i root input state l t law v said out
