-- The machine with which a run of a program begins: what is known of it, that there is one, and no other.
use Rattle.std.proofs.Common.{◌≡◌, ℕ, zero, suc, ◌*◌, ◌<◌, ◌≤◌, List, length, map, slice_get, replicate, arith, refl, sym, ap, ◌∙◌, subst}
use Rattle.std.specs.Coded.{le_prop}
use mathlib.Core.HLevel.{is_prop→PathP}
use Rattle.ppm_words.specs.Limits.{word_limit}
use Rattle.ppm_words.specs.Inputs.{IsInput, value_count}
use Rattle.ppm_words.specs.declared.named_array.NamedArray.{NamedArray}
use Rattle.ppm_cells.specs.Limits.{IsWithinLimits, most_pool_words}
use Rattle.ppm_cells.specs.declared.shape.Shape.{Shape}
use Rattle.ppm_code.specs.declared.code.CodeParts.{CodeParts}
use Rattle.ppm_depth.specs.Start.{NamesArrays}
use Rattle.ppm_layout.specs.Correct.{ImagesAreOne}
use Rattle.ppm_layout.specs.Image.{IsImageOf}
use Rattle.ppm_layout.specs.Sequence.{opening_words}
use Rattle.ppm_layout.specs.declared.images.Image.{Image}
use Rattle.ppm_layout.proofs.ImageLemmas.{sized, opened}
use Rattle.ppm_step.specs.Standings.{IsLost}
use Rattle.ppm_step.specs.State.{stand_in, stand_of}
use Rattle.ppm_core.specs.Situation.{Situation, loaded}
use Rattle.ppm_tree.specs.Tree.{ProgramTree}
use Rattle.ppm_tree.specs.Limits.{IsWithin}
use Rattle.ppm_tree.specs.Program.{initial_arrays}
use Rattle.ppm_regions.specs.Admission.{IsAdmitted}
use Rattle.ppm_regions.proofs.Inputs.{input_fits}
use Rattle.ppm_cut_code.specs.Routines.{code_of}
use Rattle.ppm_cut_correct.specs.Beginning.{StartWithInput, NameArrays}
use Rattle.ppm_loading.specs.declared.loading.Sizes.{Sizes}
use Rattle.ppm_table.specs.Shown.{opening_of}
use Rattle.ppm_table.specs.declared.processor.Shared.{Shared}
use Rattle.ppm_table.specs.declared.view.Opening.{Opening}
use Rattle.ppm_loading.specs.Loading.{AreSizes, HasShape, OpensRun, opened_by}

-- a machine begins with processor 0 lost
first_lost : (p : ℕ) → 1 ≤ p → stand_in (slice_get (replicate p IsLost) 0) ≡ IsLost
first_lost zero some = absurd (omega (arith, some))
first_lost (suc p) some = refl

module _ (sizes : Sizes) where
  -- with array words within their limit, sizes are within the limits of a shape
  pub within_limits : AreSizes sizes → (arrays : ℕ) → arrays ≤ word_limit
      → IsWithinLimits sizes.processors sizes.room sizes.slots arrays
  within_limits are arrays few = record {
    processors_least = are.processors_least;
    processors_most = are.processors_most;
    room_least = are.room_least;
    pools_most = are.pools_most;
    slots_least = are.slots_least;
    slots_most = are.slots_most;
    arrays_most = few;
  }

  -- shapes with the same sizes are one
  one_shape : (arrays : ℕ) (s u : Shape) → HasShape sizes arrays s → HasShape sizes arrays u → s ≡ u
  one_shape arrays s u h k =
      let p : s.processors ≡ u.processors = h.processors ∙ sym k.processors in
      let r : s.room ≡ u.room = h.room ∙ sym k.room in
      let l : s.slots ≡ u.slots = h.slots ∙ sym k.slots in
      let a : s.arrays ≡ u.arrays = h.arrays ∙ sym k.arrays in
      let t : s.takeover ≡ u.takeover = h.takeover ∙ sym k.takeover in
      λ i. record {
        processors = p i;
        room = r i;
        slots = l i;
        arrays = a i;
        takeover = t i;
        within = record {
          processors_least = is_prop→PathP (λ j. 1 ≤ p j) (λ j. le_prop) s.within.processors_least u.within.processors_least i;
          processors_most = is_prop→PathP (λ j. p j ≤ 64) (λ j. le_prop) s.within.processors_most u.within.processors_most i;
          room_least = is_prop→PathP (λ j. 64 ≤ r j) (λ j. le_prop) s.within.room_least u.within.room_least i;
          pools_most = is_prop→PathP (λ j. p j * r j ≤ most_pool_words) (λ j. le_prop) s.within.pools_most u.within.pools_most i;
          slots_least = is_prop→PathP (λ j. 2 ≤ l j) (λ j. le_prop) s.within.slots_least u.within.slots_least i;
          slots_most = is_prop→PathP (λ j. l j ≤ 65536) (λ j. le_prop) s.within.slots_most u.within.slots_most i;
          arrays_most = is_prop→PathP (λ j. a j ≤ word_limit) (λ j. le_prop) s.within.arrays_most u.within.arrays_most i;
        };
      }

  module _ (code : CodeParts) (arrays : List NamedArray) (keeper : ℕ) where
    -- its arrays are as long as those that the text gives, and it has as many processors and as much room as the sizes say, and
    -- no turn after it
    pub opens_lengths : (m : Situation) → OpensRun sizes code arrays keeper m
        → m.array_lengths ≡ map (λ (a : NamedArray). length a.values) arrays
    opens_lengths m b = ap (λ (x : Situation). x.array_lengths) b.loads ∙ b.opens.lengths_are

    pub opens_processors : (m : Situation) → OpensRun sizes code arrays keeper m → m.shape.processors ≡ sizes.processors
    opens_processors m b = ap (λ (x : Situation). x.shape.processors) b.loads ∙ b.sized.processors

    pub opens_room : (m : Situation) → OpensRun sizes code arrays keeper m → m.shape.room ≡ sizes.room
    opens_room m b = ap (λ (x : Situation). x.shape.room) b.loads ∙ b.sized.room

    pub opens_turns : (m : Situation) → OpensRun sizes code arrays keeper m → m.turns ≡ 0
    opens_turns m b = ap (λ (x : Situation). x.turns) b.loads

    -- processor 0 is lost
    pub opens_lost : (m : Situation) → OpensRun sizes code arrays keeper m → stand_of m.state 0 ≡ IsLost
    opens_lost m b =
        ap (λ (x : Situation). stand_of x.state 0) b.loads ∙ first_lost b.shape.processors b.shape.within.processors_least

    -- a machine that was loaded from the image of the program's code and input
    pub opens : (parts : CodeParts) (input : List NamedArray) (count : ℕ) (shape : Shape) (image : Image) (m : Situation)
        → parts ≡ code → input ≡ arrays → count ≡ value_count input → HasShape sizes count shape
        → IsImageOf parts input shape keeper image → m ≡ loaded image.shape parts image.lengths image.words → OpensRun sizes code arrays keeper m
    opens parts input count shape image m is_code is_input counted has opened loads = record {
      shape = shape;
      sized = subst (λ (n : ℕ). HasShape sizes n shape) (counted ∙ ap (λ (i : List NamedArray). value_count i) is_input) has;
      image = image;
      opens = subst (λ (i : List NamedArray). IsImageOf code i shape keeper image) is_input
          (subst (λ (c : CodeParts). IsImageOf c input shape keeper image) is_code opened);
      loads = loads ∙ ap (λ (s : Shape). loaded s parts image.lengths image.words) opened.shape_is
          ∙ ap (λ (c : CodeParts). loaded shape c image.lengths image.words) is_code;
    }

    -- two of them are one
    pub one_opening : ImagesAreOne → (m n : Situation) → OpensRun sizes code arrays keeper m → OpensRun sizes code arrays keeper n → m ≡ n
    one_opening images m n b c =
        let shape : c.shape ≡ b.shape = one_shape (value_count arrays) c.shape b.shape c.sized b.sized in
        let opens : IsImageOf code arrays b.shape keeper c.image =
        subst (λ (s : Shape). IsImageOf code arrays s keeper c.image) shape c.opens in
        let words : b.image.words ≡ c.image.words =
        images code arrays b.shape keeper b.image c.image b.opens opens in
        let lengths : b.image.lengths ≡ c.image.lengths = b.opens.lengths_are ∙ sym c.opens.lengths_are in
        b.loads
        ∙ ap (λ (l : List ℕ). loaded b.shape code l b.image.words) lengths
        ∙ ap (λ (w : List ℕ). loaded b.shape code c.image.lengths w) words
        ∙ ap (λ (s : Shape). loaded s code c.image.lengths c.image.words) (sym shape)
        ∙ sym c.loads

    -- and there is one
    pub some_opening : AreSizes sizes → keeper < sizes.processors → IsInput arrays
        → (m : Situation) × OpensRun sizes code arrays keeper m
    some_opening are below fits =
        let shape : Shape = record {
          processors = sizes.processors;
          room = sizes.room;
          slots = sizes.slots;
          arrays = value_count arrays;
          takeover = sizes.takeover;
          within = within_limits are (value_count arrays) fits.values_bound;
        } in
        let lengths : List ℕ = map (λ (a : NamedArray). length a.values) arrays in
        let words : List ℕ = opening_words code arrays shape keeper in
        let image : Image = record {
          shape = shape;
          keeper = keeper;
          lengths = lengths;
          words = words;
          sized = sized code arrays shape keeper lengths words below refl refl refl;
        } in (
          loaded shape code lengths words,
          record {
            shape = shape;
            sized = record { processors = refl; room = refl; slots = refl; arrays = refl; takeover = refl };
            image = image;
            opens = record {
              shape_is = refl;
              keeper_is = refl;
              lengths_are = refl;
              opened = opened code arrays shape keeper words refl;
            };
            loads = refl;
          },
        )

-- a code that is a program's names arrays of what the program starts with
pub names_arrays : (t : ProgramTree) → IsAdmitted t → (code : CodeParts) → code ≡ code_of t → NameArrays → StartWithInput → IsWithin t
    → (input : List NamedArray) → input ≡ initial_arrays t → NamesArrays code input
names_arrays t admitted code is names starts within input e =
    subst (λ (c : CodeParts). NamesArrays c input) (sym is)
    (subst (λ (i : List NamedArray). NamesArrays (code_of t) i) (sym e) (names t admitted (initial_arrays t) (starts t within admitted)))

-- what a table was told that was made of an image
pub table_opens : (s : Shared) (k : Opening) (lengths : List ℕ) → opening_of s ≡ k → s.lengths ≡ lengths
    → loaded k.shape k.code lengths k.words ≡ opened_by s
table_opens s k lengths e l =
    sym (ap (λ (n : List ℕ). loaded (opening_of s).shape (opening_of s).code n (opening_of s).words) l
    ∙ ap (λ (o : Opening). loaded o.shape o.code lengths o.words) e)
