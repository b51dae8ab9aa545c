-- An image shows what the depth-first run begins with: its strand differs in how regions are told alone.
use Rattle.std.proofs.Common.{◌≡◌, ℕ, List, refl, ◌∙◌}
use Rattle.ppm_strands.specs.Tree.{Strand}
use Rattle.ppm_words.specs.declared.named_array.NamedArray.{NamedArray}
use Rattle.ppm_cells.specs.Cells.{pool_at}
use Rattle.ppm_cells.specs.declared.shape.Shape.{Shape}
use Rattle.ppm_code.specs.declared.code.CodeParts.{CodeParts}
use Rattle.ppm_code.specs.declared.location.FrameWord.{FrameWord}
use Rattle.ppm_code.specs.declared.location.FrameWord.TheVariants.{Slot, Value}
use Rattle.ppm_code.specs.Strands.{at_capsule, entry_of}
use Rattle.ppm_layout.specs.Correct.{Opens}
use Rattle.ppm_layout.specs.Root.{root_own as own_of_image, root_strand as strand_of_image}
use Rattle.ppm_layout.specs.declared.images.Image.{Image}
use Rattle.ppm_layout.proofs.ValueLemmas.{stands_for}
use Rattle.ppm_layout.proofs.RootLemmas.{begins}
use Rattle.ppm_depth.specs.Start.{NamesArrays, root_own, root_strand}
use Rattle.ppm_opening.specs.Correct.{BeginsTheRun}
use Rattle.ppm_opening.proofs.RegionLemmas.{slots_same}

module _ (code : CodeParts) (input : List NamedArray) (named : NamesArrays code input) where
  own_same : (word : FrameWord) → own_of_image code input word ≡ root_own code input word
  own_same (Slot slot) = slots_same input code.arrays slot named
  own_same Value = refl

  pub strand_same : strand_of_image code input ≡ root_strand code input
  strand_same = λ i. Strand (record { own = λ word. own_same word i; point = at_capsule (entry_of code code.root) })

pub begin_the_run : (code : CodeParts) (input : List NamedArray) (s : Shape) (keeper : ℕ) (image : Image)
    → Opens code input s keeper image → NamesArrays code input → BeginsTheRun code input s keeper image.words
begin_the_run code input s keeper image o named =
    let values = stands_for code input s keeper image o in
    let root = begins code input s keeper image o in
    record {
      frame = pool_at s keeper;
      runs = values.runs;
      strand = root.strand ∙ strand_same code input named;
      arrays = root.arrays;
    }
