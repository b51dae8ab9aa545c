use Rattle.std.proofs.Common.{◌≡◌, ◌+◌, length, List, ℕ, ap, ◌∙◌, arith}
use Rattle.ppm_words.specs.declared.named_array.NamedArray.{NamedArray}
use Rattle.ppm_code.specs.Sizes.{frame_size}
use Rattle.ppm_code.specs.declared.code.CodeParts.{CodeParts}
use Rattle.ppm_depth.specs.Image.{outcome_in, root_frame}
use Rattle.ppm_depth.specs.Moves.{entry_at}
use Rattle.ppm_code.specs.Inputs.{words_in}
use Rattle.ppm_depth.specs.Start.{root_strand}
use Rattle.ppm_depth.specs.declared.store.Store.{Store}
use Rattle.ppm_depth.proofs.EndLemmas.{counts_words, length_words, begins_shown, root_length, answered}
use Rattle.ppm_depth.proofs.depth.depth_first.Goals as goal

-- the input keeps its limits
pub root_store-requires-clause-few : goal.root_store-requires-clause-few
root_store-requires-clause-few c =
    let few = c.arrays-arrays.ensures.limits.values_bound in
    let same = counts_words c.args.input.now in
    rw c.arrays-arrays.ensures.value (omega (arith, few, same))

-- the strand begins with the root
pub run-requires-clause-shown : goal.run-requires-clause-shown
run-requires-clause-shown c =
    let code = c.args.code.now in (
      root_strand code c.args.input.now,
      begins_shown code c.args.input.now c.parts.ensures.code _ _ _
          (ap (λ (s : Store). s.blocks.items) c.new-strand.ensures.store ∙ c.in_ok-store.ensures.blocks
          ∙ ap (λ (as_ : List NamedArray). root_frame code as_) c.arrays-arrays.ensures.value)
          c.new-strand.ensures.waiting
          (c.entry-root.ensures.value ∙ ap (λ (p : CodeParts). entry_at code p.root 0) c.parts.ensures.value),
    )

-- the words are as many as those of the arrays
pub depth_run-requires-clause-words : goal.depth_run-requires-clause-words
depth_run-requires-clause-words c =
    let kept = c.in_ok-finish.ensures.words in
    let begun = ap (λ (s : Store). length s.words.items) c.new-strand.ensures.store in
    let words = ap (λ (ws : List ℕ). length ws) c.in_ok-store.ensures.words in
    let same = length_words c.arrays-arrays.result.now in
    omega (arith, kept, begun, words, same)

-- what the strand has come to is what is said
pub returns : goal.returns
returns c =
    let code = c.args.code.now in
    let input = c.args.input.now in
    let strand = c.run.new.self in
    let begins : c.new-strand.result.store.words.items ≡ words_in input =
    ap (λ (s : Store). s.words.items) c.new-strand.ensures.store ∙ c.in_ok-store.ensures.words
    ∙ ap (λ (as_ : List NamedArray). words_in as_) c.arrays-arrays.ensures.value in
    let shown = begins_shown code input c.parts.ensures.code _ _ _
    (ap (λ (s : Store). s.blocks.items) c.new-strand.ensures.store ∙ c.in_ok-store.ensures.blocks
    ∙ ap (λ (as_ : List NamedArray). root_frame code as_) c.arrays-arrays.ensures.value)
    c.new-strand.ensures.waiting
    (c.entry-root.ensures.value ∙ ap (λ (p : CodeParts). entry_at code p.root 0) c.parts.ensures.value) in
    let kept = c.in_ok-finish.ensures.words in
    let words = ap (λ (ws : List ℕ). length ws) begins in
    let same = length_words input in
    let frame : c.len-frame_words.result ≡ frame_size code code.root =
    let stack = ap (λ (bs : List ℕ). length bs) (c.in_ok-store.ensures.blocks ∙ ap (λ (as_ : List NamedArray). root_frame code as_) c.arrays-arrays.ensures.value) in
    let root = root_length code input c.parts.ensures.code.root_slots in
    omega (arith, c.len-frame_words.ensures, c.in_ok-store.store.blocks.ok.0, stack, root) in
    record {
      run = answered code input c.new-strand.result.store.words.items begins c.args.capsules strand c.in_ok-finish.finish
          (c.in_ok-finish.ensures.come (root_strand code input) shown) c.in_ok-finish.ensures.limit (omega (arith, kept, words, same)) _
          (c.in_ok-run.ensures.outcome ∙ ap (λ (as_ : List NamedArray). outcome_in as_ strand.store.words.items c.in_ok-finish.finish)
          c.arrays-arrays.ensures.value)
          c.in_ok-run.ensures.capsules c.in_ok-run.ensures.forks
          (c.in_ok-run.ensures.pool_words ∙ ap (λ (n : ℕ). n + strand.counts.block_words) frame);
    }
