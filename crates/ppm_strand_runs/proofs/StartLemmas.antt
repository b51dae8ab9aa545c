-- What a run begins with.
use Rattle.std.proofs.Common.{◌≡◌, ℕ, ◌+◌, List, [], ◌∷◌, length, get_or, Option, None, refl, sym, ap, subst, arith}
use Rattle.std.proofs.lemmas.List.Sums.{sum-map, sum_by-cons}
use Rattle.ppm_strands.specs.Tree.{Words}
use Rattle.ppm_words.specs.Inputs.{value_count}
use Rattle.ppm_words.specs.declared.named_array.NamedArray.{NamedArray}
use Rattle.ppm_code.specs.declared.location.FrameWord.{FrameWord}
use Rattle.ppm_code.specs.Inputs.{words_in}
use Rattle.ppm_depth.specs.Image.{word_count}
use Rattle.ppm_depth.specs.Start.{regions_from, root_own, root_regions, words_of}
use Rattle.ppm_racy.specs.declared.code.RacyParts.{RacyParts}
use Rattle.ppm_racy.specs.Code.{plain_code}
use Rattle.ppm_interleaving.specs.Owns.{AreRootWords}
use Rattle.ppm_interleaving.specs.Shows.{Shows}
use Rattle.ppm_strand_runs.specs.declared.done.Done.{Done}
use Rattle.ppm_strand_runs.specs.declared.done.Fall.{Fall}
use Rattle.ppm_strand_runs.specs.declared.made.Made.{Made}
use Rattle.ppm_strand_runs.specs.declared.run.StrandRun.{StrandRun}
use Rattle.ppm_strand_runs.specs.First.{IsFirstFall}
use Rattle.ppm_strand_runs.specs.Made.{AreMade}
use Rattle.ppm_strand_runs.specs.Run.{AreDone, Nothing, IsStart}
use Rattle.ppm_strand_runs.proofs.MadeLemmas.{none_made}

-- the words of arrays, counted
pub counts_words : (input : List NamedArray) → value_count input ≡ word_count input
counts_words [] = refl
counts_words (a ∷ input) =
    let rest = counts_words input in
    let all = sum-map (λ (b : NamedArray). length b.values) (a ∷ input) in
    let others = sum-map (λ (b : NamedArray). length b.values) input in
    let first = sum_by-cons (λ (b : NamedArray). length b.values) a input in
    omega (arith, rest, all, others, first)

-- there is a region word for each array
pub length_regions : (start : ℕ) (input : List NamedArray) → length (regions_from start input) ≡ length input
length_regions start [] = refl
length_regions start (a ∷ input) = let rest = length_regions (start + length a.values) input in omega (arith, rest)

-- the root's strand alone
pub starts : (code : RacyParts) (input : List NamedArray) (slots words : List ℕ) (run : StrandRun) → slots ≡ root_regions (plain_code code) input
    → words ≡ words_in input
    → ((root : FrameWord → ℕ) (arrays : Words) → AreRootWords slots root → ((x : ℕ) → arrays x ≡ get_or words x 0)
    → Shows code (length words) root arrays [] run.machine)
    → run.turns ≡ 0 → run.done.items ≡ [] → run.made.items ≡ [] → run.fall ≡ None → IsStart code input run
starts code input slots words run of_slots of_words shows none nothing unmade stands =
    let root = root_own (plain_code code) input in
    let arrays = words_of (words_in input) in
    let begins : Shows code (length words) root arrays [] run.machine =
    shows root arrays (record { slots = λ i. ap (λ (l : List ℕ). get_or l i 0) (sym of_slots); value = refl })
    (λ x. ap (λ (l : List ℕ). get_or l x 0) (sym of_words)) in
    record {
      shows = subst (λ (l : List ℕ). Shows code (length l) root arrays [] run.machine) of_words begins;
      turns = none;
      done = subst (λ (l : List Done). AreDone code (length (words_in input)) root arrays [] l) (sym nothing) Nothing;
      made = subst (λ (l : List Made). AreMade code (length (words_in input)) root arrays [] l) (sym unmade)
          (none_made code (length (words_in input)) root arrays);
      fall = subst (λ (f : Option Fall). IsFirstFall code (length (words_in input)) root arrays [] f) (sym stands) tt;
    }
