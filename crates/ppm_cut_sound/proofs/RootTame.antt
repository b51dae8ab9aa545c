-- The root's frame holds the regions of `main`; so the tree with which a run begins is calm, and the code is sound.
use Rattle.std.proofs.Common.{◌≡◌, ◌<◌, ℕ, zero, suc, ◌+◌, ◌*◌, ◌^◌, List, [], ◌∷◌, length, map, refl, sym, ap, ◌∙◌, arith}
use Rattle.std.proofs.lemmas.List.{length-map}
use Rattle.std.specs.Prelude.{codes, get_or}
use Rattle.ppm_strands.specs.Calm.{Calm}
use Rattle.ppm_words.specs.declared.named_array.NamedArray.{NamedArray}
use Rattle.ppm_code.specs.declared.location.FrameWord.TheVariants.{Slot}
use Rattle.ppm_code.specs.Strands.{entry_of, at_capsule}
use Rattle.ppm_code.specs.Inputs.{words_in}
use Rattle.ppm_depth.specs.Start.{words_of, regions_from, root_own, root_strand}
use Rattle.ppm_depth.specs.Run.{strands_of}
use Rattle.ppm_tree.specs.Tree.{ProgramTree}
use Rattle.ppm_tree.specs.State.{Frame}
use Rattle.ppm_tree.specs.declared.tree.Array.{Array}
use Rattle.ppm_tree.specs.Program.{main_frame, main_of}
use Rattle.ppm_regions.specs.Scope.{scope_of}
use Rattle.ppm_regions.specs.Admission.{IsAdmitted}
use Rattle.ppm_regions.proofs.SiteLemmas.{callee_sites, sites_of_body}
use Rattle.ppm_regions.proofs.Rules.{rules}
use Rattle.ppm_ownership.specs.Owning.{IsSeen}
use Rattle.ppm_ownership.proofs.PartLemmas.{owns_itself}
use Rattle.ppm_ownership.proofs.EntryLemmas.{main_regions, main_apart, main_within}
use Rattle.ppm_cut_code.specs.Layout.{slot_of, parameter_layout}
use Rattle.ppm_cut_code.specs.Slots.{named_slots}
use Rattle.ppm_cut_code.specs.Statements.{Gives, number_of}
use Rattle.ppm_cut_code.specs.Fits.{Has}
use Rattle.ppm_cut_code.specs.Standing.{HasBody}
use Rattle.ppm_cut_code.specs.Inputs.{IsInputOf}
use Rattle.ppm_cut_code.specs.Routines.{code_of}
use Rattle.ppm_cut_code.proofs.MainLemmas.{whole_array, main_is, root_region}
use Rattle.ppm_cut_code.proofs.RegionWords.{lengths_of, offset_of, region_word}
use Rattle.ppm_cut_sound.proofs.OwnLemmas.{Label, OwnsWord, WritesWord, AreShort, short_arrays}
use Rattle.ppm_cut_sound.proofs.StandLemmas.{Level, level, IsOver}
use Rattle.ppm_cut_sound.proofs.LevelLemmas.{Runs, Begins, Waits}
use Rattle.ppm_cut_sound.specs.Correct.{CodeIsSound}
use Rattle.ppm_strands.proofs.LabelLemmas.{good_is_calm}
use Rattle.ppm_cut_sound.proofs.CallTame.{Facts}
use Rattle.ppm_cut_sound.proofs.FewLemmas.{facts}
use Rattle.ppm_cut_sound.proofs.CodeTame.{respects}
use Rattle.ppm_cut_sound.proofs.BlockLemmas.{no_conflicts, tidily_stored}

-- the region word of an array of the input, where these are as long as the program's
region_begins : (start : ℕ) (arrays : List Array) (input : List NamedArray) → map (λ a. length a.values) input ≡ map (λ a. a.words) arrays
    → (k : ℕ) → k < length arrays
    → get_or (regions_from start input) k 0 ≡ (start + offset_of (lengths_of arrays) k) * 2 ^ 32 + get_or (map (λ a. a.words) arrays) k 0
region_begins start [] input same k low = absurd (omega (arith, low))
region_begins start (b ∷ arrays) [] same k low = let e = ap (λ (ns : List ℕ). length ns) same in absurd (omega (arith, e))
region_begins start (b ∷ arrays) (a ∷ input) same zero low =
    let e : length a.values ≡ b.words = ap (λ (ns : List ℕ). get_or ns 0 0) same in
    omega (arith, e)
region_begins start (b ∷ arrays) (a ∷ input) same (suc k) low =
    let e : length a.values ≡ b.words = ap (λ (ns : List ℕ). get_or ns 0 0) same in
    let rest = region_begins (start + length a.values) arrays input (ap (λ (ns : List ℕ). tail_of ns) same) k (omega (arith, low)) in
    omega (arith, rest, e)
  where
    tail_of : List ℕ → List ℕ
    tail_of [] = []
    tail_of (n ∷ ns) = ns

module _ (t : ProgramTree) (admitted : IsAdmitted t) where
  module _ (input : List NamedArray) (is : IsInputOf t input) where
    -- the region words with which the run begins
    words_begin : (k : ℕ) → k < length t.arrays
        → get_or (regions_from 0 input) k 0 ≡ region_word (lengths_of t.arrays) (whole_array k t.arrays k)
    words_begin k low = let begins = region_begins 0 t.arrays input is.lengths k low in omega (arith, begins)

    abbrev first_frame : Frame
    first_frame = main_frame t.arrays (main_of t).parameters

    abbrev main_label : Label
    main_label = record { scope = scope_of (main_of t); regions = first_frame.regions }

    root_holds : (x : List ℕ) → IsSeen (scope_of (main_of t)) x → Has (parameter_layout (main_of t).parameters) x
        → root_own (code_of t) input (Slot (slot_of (parameter_layout (main_of t).parameters) x)) ≡ region_word (lengths_of t.arrays)
        (first_frame.regions x)
    root_holds x seen has =
        let ps = (main_of t).parameters in
        root_region t admitted (regions_from 0 input) words_begin x seen.declaration seen.found has
        ∙ ap (region_word (lengths_of t.arrays)) (sym (main_regions t.arrays ps x seen.declaration seen.found))

    module _ (known : Facts t (code_of t)) where
      abbrev body : HasBody t.procedures (code_of t) (number_of t.procedures (codes "main")) (main_of t)
      body = known.stand.each (codes "main") (main_is t admitted)

      abbrev root_level : Level
      root_level =
          level (named_slots (main_of t)) (scope_of (main_of t)) (parameter_layout (main_of t).parameters)
          (entry_of (code_of t) (number_of t.procedures (codes "main"))) body.h (Gives (main_of t).give) (main_of t).body first_frame

      root_runs : Runs t (code_of t) (rules t admitted) admitted main_label
          (record { own = root_own (code_of t) input; point = at_capsule (entry_of (code_of t) (number_of t.procedures (codes "main"))) })
      root_runs =
          let p = main_of t in
          let fit = known.fit (codes "main") in
          let size = length-map p.parameters (λ q. q.name.name) in
          Begins root_level refl (record {
            stays = record {
              stands = body.body;
              fits = fit.body;
              gives = fit.give;
              room = omega (arith, size);
              few = known.few (codes "main");
              sites = sites_of_body t p (callee_sites t (codes "main"));
              apart = main_apart t.arrays p.parameters;
              within = main_within t.arrays p.parameters;
              home = owns_itself (scope_of p) first_frame.regions;
            };
            holds = record { holds = root_holds };
            leads = IsOver root_level (main_of t).give refl;
          })

      pub root_is_calm : AreShort t.arrays → Calm (strands_of (code_of t) input) (root_strand (code_of t) input) (words_of (words_in input))
      root_is_calm short =
          good_is_calm (OwnsWord t.arrays) (WritesWord t.arrays) (Runs t (code_of t) (rules t admitted) admitted) (Waits t (code_of t)
          (rules t admitted) admitted)
          (strands_of (code_of t) input) (respects t (code_of t) (rules t admitted) admitted short (length (words_in input)) known) main_label
          (root_strand (code_of t) input) (words_of (words_in input)) root_runs

pub sound : CodeIsSound
sound t small admitted bounds input is = record {
  tidy = tidily_stored t admitted;
  free = no_conflicts t admitted;
  calm = root_is_calm t admitted input is (facts t small admitted bounds) (short_arrays t.arrays (let w = small.words in omega (arith, w)));
}
