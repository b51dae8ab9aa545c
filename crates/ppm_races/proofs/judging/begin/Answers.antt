use Rattle.std.proofs.Common.{◌≡◌, ◌+◌, length, List, ℕ, refl, sym, ap, ◌∙◌, arith}
use Rattle.std.proofs.lemmas.List.{length-replicate}
use Rattle.ppm_strands.specs.Run.{Counts}
use Rattle.ppm_words.specs.declared.named_array.NamedArray.{NamedArray}
use Rattle.ppm_code.specs.Inputs.{words_in}
use Rattle.ppm_depth.specs.Image.{root_frame}
use Rattle.ppm_depth.specs.Moves.{entry_at}
use Rattle.ppm_depth.specs.Turns.{counts_of}
use Rattle.ppm_depth.specs.declared.store.Store.{Store}
use Rattle.ppm_depth.specs.declared.strand.Strand.{Strand}
use Rattle.ppm_depth.proofs.EndLemmas.{begins_shown, counts_words, root_length}
use Rattle.ppm_races.proofs.VerdictLemmas.{begins_at}
use Rattle.ppm_races.proofs.judging.begin.Goals as goal

-- the input keeps its limits
pub root_store-requires-clause-few : goal.root_store-requires-clause-few
root_store-requires-clause-few c =
    let few = c.arrays.ensures.limits.values_bound in
    let same = counts_words c.args.input.now in
    rw c.arrays.ensures.value (omega (arith, few, same))

-- the strand stands at the root, and nobody has touched a word
pub returns : goal.returns
returns c =
    let code = c.args.code.now in
    let input = c.args.input.now in
    let walk = c.in_ok-walk.walk in
    let is_code = c.root_store.ensures.code in
    let strand_is = c.in_ok-walk.ensures.strand in
    let words : walk.strand.store.words.items ≡ words_in input = ap (λ (s : Strand). s.store.words.items) strand_is
    ∙ ap (λ (s : Store). s.words.items) c.new-strand.ensures.store ∙ c.in_ok-store.ensures.words
    ∙ ap (λ (as_ : List NamedArray). words_in as_) c.arrays.ensures.value in
    let blocks : walk.strand.store.blocks.items ≡ root_frame code input = ap (λ (s : Strand). s.store.blocks.items) strand_is
    ∙ ap (λ (s : Store). s.blocks.items) c.new-strand.ensures.store ∙ c.in_ok-store.ensures.blocks
    ∙ ap (λ (as_ : List NamedArray). root_frame code as_) c.arrays.ensures.value in
    let waiting = ap (λ (s : Strand). s.waiting.items) strand_is ∙ c.new-strand.ensures.waiting in
    let counts = ap (λ (s : Strand). counts_of s.counts) strand_is ∙ c.new-strand.ensures.counts in
    let none : walk.strand.counts.capsules ≡ 0 = ap (λ (k : Counts). k.capsules) counts in
    let time : walk.strand.counts.capsules + 1 ≡ 1 = omega (arith, none) in
    let begun = begins_at code input is_code walk.strand.store.blocks.items walk.strand.waiting.items (entry_at code code.root 0)
    walk.strand.store.words.items (walk.strand.counts.capsules + 1) c.len-words.result 0 walk.visits.wrote.items walk.visits.touched.items walk.marks.items
    blocks waiting refl words time c.in_ok-walk.ensures.wrote c.in_ok-walk.ensures.touched c.in_ok-walk.ensures.marks in
    let store_words = ap (λ (s : Strand). length s.store.words.items) strand_is ∙ ap (λ (s : Store). length s.words.items) c.new-strand.ensures.store in
    let count : c.len-words.result ≡ length c.in_ok-store.store.words.items = omega (arith, c.len-words.ensures, c.in_ok-store.store.words.ok.0) in
    record {
      at = record { above = begun.above; leaf = begun.leaf; forks = begun.forks; shown = begun.shown; come = begun.come; marks = begun.marks_are };
      shown = begins_shown code input is_code walk.strand.store.blocks.items walk.strand.waiting.items (entry_at code code.root 0) blocks waiting refl;
      counts = counts;
      seen = record {
        wrote = ap (λ (xs : List ℕ). length xs) c.in_ok-walk.ensures.wrote ∙ length-replicate c.len-words.result 0 ∙ count ∙ sym store_words;
        touched = ap (λ (xs : List ℕ). length xs) c.in_ok-walk.ensures.touched ∙ length-replicate c.len-words.result 0 ∙ count ∙ sym store_words;
      };
      words = words;
      blocks = ap (λ (xs : List ℕ). length xs) blocks ∙ root_length code input is_code.root_slots;
    }
