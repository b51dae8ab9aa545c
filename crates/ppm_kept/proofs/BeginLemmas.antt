-- A machine that opens an image, by places.
use Rattle.std.proofs.Common.{◌≡◌, ◌≢◌, ℕ, zero, suc, Bool, true, false, List, inl, inr, refl, sym, ap, ◌∙◌, subst}
use Rattle.std.specs.Prelude.{nat_lt, slice_get, replicate}
use Rattle.std.proofs.Math.Path.{fun_ext}
use Rattle.std.proofs.lemmas.Bool.{cases_eq, ltb-true, lt-ltb}
use Rattle.ppm_strands.specs.Tree.{Tree}
use Rattle.ppm_words.specs.declared.named_array.NamedArray.{NamedArray}
use Rattle.ppm_cells.specs.Cells.{pool_at}
use Rattle.ppm_cells.specs.Memory.{read}
use Rattle.ppm_cells.specs.Restart.{restart_of}
use Rattle.ppm_cells.specs.declared.cell.Cell.TheVariants.{RestartWord}
use Rattle.ppm_cells.specs.declared.restart.RestartKind.{RestartKind}
use Rattle.ppm_cells.specs.declared.restart.RestartKind.TheVariants.{Run, Seek}
use Rattle.ppm_cells.specs.declared.shape.Shape.{Shape}
use Rattle.ppm_strands.specs.Strand.{Frame}
use Rattle.ppm_code.specs.Sizes.{slots_of}
use Rattle.ppm_code.specs.Strands.{Point, Result}
use Rattle.ppm_code.specs.declared.code.CodeParts.{CodeParts}
use Rattle.ppm_code.specs.declared.location.FrameWord.{FrameWord}
use Rattle.ppm_layout.specs.Correct.{Opens}
use Rattle.ppm_layout.specs.Root.{root_strand}
use Rattle.ppm_layout.specs.declared.images.Image.{Image}
use Rattle.ppm_layout.proofs.ValueLemmas.{stands_for}
use Rattle.ppm_step.specs.Standings.{Standing, IsLost}
use Rattle.ppm_step.specs.State.{stand_in, stand_of, opening}
use Rattle.ppm_frames.specs.Views.{view}
use Rattle.ppm_frames.specs.Seen.{arrays_at}
use Rattle.ppm_frames.specs.Skeletons.{Begins, InPlace, Leaf, Skeleton}
use Rattle.ppm_frames.proofs.SeenLemmas.{if_true, if_false}
use Rattle.ppm_kept.specs.Kept.{Setting, Resting, State, put, IsKept}
use Rattle.ppm_kept.specs.Openings.{opening_of}
use Rattle.ppm_kept.specs.Places.{kind_or, kinds_of, is_in, doing_in, places_of, MachinesOpen}
use Rattle.ppm_kept.proofs.PutLemmas.{put_here, put_else}
use Rattle.ppm_kept.proofs.OpeningLemmas.{openings}
use Rattle.ppm_kept.proofs.ImageLemmas.{images_open}

-- who is lost or not there is in no place
lost_out : (q n d : ℕ) → is_in q (stand_in (slice_get (replicate n IsLost) d)) ≡ false
lost_out q zero d = refl
lost_out q (suc n) zero = refl
lost_out q (suc n) (suc d) = lost_out q n d

none_in : (f : ℕ → Standing) (q : ℕ) → ((d : ℕ) → is_in q (f d) ≡ false) → (n : ℕ) → doing_in f n q ≡ Resting
none_in f q out zero = refl
none_in f q out (suc n) = if_false (is_in q (f n)) _ _ (out n) ∙ none_in f q out n

module _ (code : CodeParts) (input : List NamedArray) (s : Shape) (keeper : ℕ) (image : Image) (o : Opens code input s keeper image) where
  abbrev opened : State
  opened = opening_of (view s image.words) keeper (pool_at s keeper)

  word_there : (q : ℕ) → nat_lt q s.processors ≡ true → (k : RestartKind) → kind_or (restart_of (read s image.words (RestartWord q))) ≡ k → kinds_of s image.words q ≡ k
  word_there q e k is = if_true (nat_lt q s.processors) _ _ e ∙ is

  kind_here : kinds_of s image.words keeper ≡ Run (pool_at s keeper) 0
  kind_here = word_there keeper (lt-ltb keeper s.processors o.below) (Run (pool_at s keeper) 0) (ap kind_or (stands_for code input s keeper image o).runs)

  kind_else : (q : ℕ) → q ≢ keeper → kinds_of s image.words q ≡ Seek
  kind_else q ne = by (nat_lt q s.processors) refl
    where
      by : (b : Bool) → nat_lt q s.processors ≡ b → kinds_of s image.words q ≡ Seek
      by true e = word_there q e Seek (ap kind_or ((stands_for code input s keeper image o).seeks q (ltb-true q s.processors e) ne))
      by false e = if_false (nat_lt q s.processors) _ _ e

  kinds_are : kinds_of s image.words ≡ opened.kind
  kinds_are = fun_ext (λ q. elim (cases_eq q keeper) [
    | inl e ↦ ap (kinds_of s image.words) e ∙ kind_here ∙ sym (ap (put (λ q. Seek) keeper (Run (pool_at s keeper) 0)) e ∙ put_here (λ q. Seek) keeper (Run (pool_at s keeper) 0))
    | inr ne ↦ kind_else q ne ∙ sym (put_else (λ q. Seek) keeper (Run (pool_at s keeper) 0) q ne)
  ])

  all_rest : doing_in (stand_of (opening image.words s.processors)) s.processors ≡ opened.doing
  all_rest = fun_ext (λ q. none_in (stand_of (opening image.words s.processors)) q (λ d. lost_out q s.processors d) s.processors)

  opens_so : places_of s (opening image.words s.processors) ≡ opened
  opens_so = λ x. record { words = view s image.words; kind = kinds_are x; doing = all_rest x }

pub machines_open : MachinesOpen
machines_open code input s keeper image o calm =
    let open_ = images_open code input s keeper image o calm in
    let t : Skeleton = Leaf (InPlace keeper) (Begins 0) (pool_at s keeper) (slots_of code code.root) in
    let e = opens_so code input s keeper image o in (
      e,
      λ asked so. let i : Setting = record { shape = s; code = code; counted = asked } in
          subst (λ (z : State). IsKept i (root_strand code input) (arrays_at (view s image.words)) z t) (sym e)
          (subst (λ (w : Tree (Frame FrameWord Point) Result). IsKept i w (arrays_at (view s image.words)) (opening_of (view s image.words) keeper (pool_at s keeper)) t) open_.1 (openings i (view s image.words) keeper (pool_at s keeper) (slots_of code code.root) (open_.0 asked so))),
    )
