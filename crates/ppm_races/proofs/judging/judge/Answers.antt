use Rattle.std.proofs.Common.{◌≡◌, ◌+◌, length, List, [], ℕ, sym, ap, ◌∙◌, subst, arith}
use Rattle.ppm_strands.specs.Tree.{Strand, Over}
use Rattle.ppm_words.specs.declared.named_array.NamedArray.{NamedArray}
use Rattle.ppm_strands.proofs.StrandLemmas.{code_is_local}
use Rattle.ppm_code.specs.Inputs.{words_in}
use Rattle.ppm_code.specs.Locations.{code_locations}
use Rattle.ppm_code.specs.Sizes.{frame_size}
use Rattle.ppm_code.specs.Strands.{table_of}
use Rattle.ppm_code.specs.declared.code.CodeParts.{CodeParts}
use Rattle.ppm_depth.specs.Image.{word_count}
use Rattle.ppm_depth.specs.Moves.{entry_at}
use Rattle.ppm_depth.specs.Run.{strands_of}
use Rattle.ppm_depth.specs.Stack.{Strands}
use Rattle.ppm_depth.specs.Start.{words_of, root_strand}
use Rattle.ppm_depth.specs.Turns.{ShowsTree, strands_over}
use Rattle.ppm_depth.specs.declared.frame.Frame.{Frame}
use Rattle.ppm_depth.specs.declared.frame.Now.TheVariants.{At}
use Rattle.ppm_depth.proofs.EndLemmas.{length_words}
use Rattle.ppm_stamps.specs.Moments.{Comes}
use Rattle.ppm_races.specs.Walks.{rise, stamps_in, HasChain, HasTold, IsAt, IsMeetingOf}
use Rattle.ppm_races.specs.declared.walk.Told.{Told}
use Rattle.ppm_races.proofs.VerdictLemmas.{ended_calm, meeting_not_calm, more_come, within_of}
use Rattle.ppm_races.proofs.judging.judge.Goals as goal

-- nothing is counted yet
pub run-requires-clause-counts : goal.run-requires-clause-counts
run-requires-clause-counts c = c.in_ok-walk.ensures.counts

pub run-requires-clause-seen : goal.run-requires-clause-seen
run-requires-clause-seen c = c.in_ok-walk.ensures.seen

-- the run begins with the root
pub run-requires-clause-began : goal.run-requires-clause-began
run-requires-clause-began c =
    let code = c.args.code.now in
    let input = c.args.input.now in
    let root = c.entry-root.ensures.value ∙ ap (λ (p : CodeParts). entry_at code p.root 0) c.parts.ensures.value in (
      root_strand code input,
      (
        words_of (words_in input),
        subst (λ (f : Frame). IsAt code (root_strand code input) (words_of (words_in input)) c.in_ok-walk.walk (At f)) (sym root) c.in_ok-walk.ensures.at,
      ),
    )

-- the words are as many as those of the arrays
pub depth_run-requires-clause-words : goal.depth_run-requires-clause-words
depth_run-requires-clause-words c =
    let kept = c.in_ok-told.ensures.words in
    let begun = ap (λ (xs : List ℕ). length xs) c.in_ok-walk.ensures.words in
    let all = length_words c.args.input.now in
    let same = ap (λ (as_ : List NamedArray). word_count as_) c.arrays-arrays.ensures.value in
    omega (arith, kept, begun, all, same)

-- and the words of the pools are few
pub depth_run-requires-clause-room : goal.depth_run-requires-clause-room
depth_run-requires-clause-room c =
    let code = c.args.code.now in
    let input = c.args.input.now in
    let walk = c.in_ok-walk.walk in
    let root = c.entry-root.ensures.value ∙ ap (λ (p : CodeParts). entry_at code p.root 0) c.parts.ensures.value in
    let shown = subst (λ (f : Frame). ShowsTree code walk.strand (At f) (root_strand code input)) (sym root) c.in_ok-walk.ensures.shown in
    let chain = subst (λ (t : Told). HasChain code (length walk.strand.store.words.items) c.args.capsules (root_strand code input)
    (words_of walk.strand.store.words.items) c.run.new.self t) c.in-Ended.is (c.in_ok-told.ensures.chain (root_strand code input) shown) in
    let few = chain.1.block_words in
    let within = chain.2 in
    omega (arith, few, within, c.requires.few, c.len-frame_words.ensures, walk.strand.store.blocks.ok.0)

-- it has come to its end
pub returns-in-Ended : goal.returns-in-Ended
returns-in-Ended c =
    let code = c.args.code.now in
    let input = c.args.input.now in
    let walk = c.in_ok-walk.walk in
    let root = c.entry-root.ensures.value ∙ ap (λ (p : CodeParts). entry_at code p.root 0) c.parts.ensures.value in
    let shown = subst (λ (f : Frame). ShowsTree code walk.strand (At f) (root_strand code input)) (sym root) c.in_ok-walk.ensures.shown in
    let at = subst (λ (f : Frame). IsAt code (root_strand code input) (words_of (words_in input)) walk (At f)) (sym root) c.in_ok-walk.ensures.at in
    let told = subst (λ (t : Told). HasTold code (root_strand code input) (words_of (words_in input)) c.args.capsules c.run.new.self t) c.in-Ended.is
    (c.in_ok-told.ensures.told (root_strand code input) (words_of (words_in input)) at) in
    let chain = subst (λ (t : Told). HasChain code (length walk.strand.store.words.items) c.args.capsules (root_strand code input)
    (words_of walk.strand.store.words.items) c.run.new.self t) c.in-Ended.is (c.in_ok-told.ensures.chain (root_strand code input) shown) in
    let same : length c.run.new.self.strand.store.words.items ≡ length (words_in input) =
    c.in_ok-told.ensures.words ∙ ap (λ (xs : List ℕ). length xs) c.in_ok-walk.ensures.words in
    let come = subst (λ (n : ℕ). Comes (strands_over code n) (root_strand code input) (words_of (words_in input)) [] (Over told.0) told.1 told.2) same told.3 in
    let all = length_words input in
    let frame : c.len-frame_words.result ≡ frame_size code code.root =
    let blocks = c.in_ok-walk.ensures.blocks in omega (arith, c.len-frame_words.ensures, walk.strand.store.blocks.ok.0, blocks) in (
      ended_calm (strands_of code input) (code_is_local code_locations (table_of code (length (words_in input)))) (root_strand code input)
          (words_of (words_in input)) told.0 told.1 told.2 come,
      within_of code input walk.strand.store.words.items c.in_ok-walk.ensures.words c.args.capsules c.run.new.self.strand c.in_ok-run-in-Ended.run'
          c.arrays-arrays.result.now c.arrays-arrays.ensures.value c.len-frame_words.result frame c.in-Ended.finish chain.0 chain.2
          (omega (arith, all, same)) c.in_ok-run-in-Ended.ensures,
    )

-- a capsule meets another one
pub returns-in-Meets : goal.returns-in-Meets
returns-in-Meets c =
    let code = c.args.code.now in
    let input = c.args.input.now in
    let walk = c.in_ok-walk.walk in
    let root = c.entry-root.ensures.value ∙ ap (λ (p : CodeParts). entry_at code p.root 0) c.parts.ensures.value in
    let at = subst (λ (f : Frame). IsAt code (root_strand code input) (words_of (words_in input)) walk (At f)) (sym root) c.in_ok-walk.ensures.at in
    let told = subst (λ (t : Told). HasTold code (root_strand code input) (words_of (words_in input)) c.args.capsules c.run.new.self t) c.in-Meets.is
    (c.in_ok-told.ensures.told (root_strand code input) (words_of (words_in input)) at) in
    let same : length c.run.new.self.strand.store.words.items ≡ length (words_in input) =
    c.in_ok-told.ensures.words ∙ ap (λ (xs : List ℕ). length xs) c.in_ok-walk.ensures.words in
    let it = subst (λ (n : ℕ). IsMeetingOf code (root_strand code input) (words_of (words_in input)) n c.in-Meets.meeting) same told.0 in
    (meeting_not_calm code (length (words_in input)) (root_strand code input) (words_of (words_in input)) c.in-Meets.meeting it, it, told.1)

-- one more would be run
pub returns : goal.returns
returns c =
    let code = c.args.code.now in
    let input = c.args.input.now in
    let walk = c.in_ok-walk.walk in
    let after = c.run.new.self in
    let root = c.entry-root.ensures.value ∙ ap (λ (p : CodeParts). entry_at code p.root 0) c.parts.ensures.value in
    let at = subst (λ (f : Frame). IsAt code (root_strand code input) (words_of (words_in input)) walk (At f)) (sym root) c.in_ok-walk.ensures.at in
    let told = subst (λ (t : Told). HasTold code (root_strand code input) (words_of (words_in input)) c.args.capsules after t) c.in-Next.is
    (c.in_ok-told.ensures.told (root_strand code input) (words_of (words_in input)) at) in
    let it = told.at in
    let same : length after.strand.store.words.items ≡ length (words_in input) =
    c.in_ok-told.ensures.words ∙ ap (λ (xs : List ℕ). length xs) c.in_ok-walk.ensures.words in
    let come = subst (λ (n : ℕ). Comes (strands_over code n) (root_strand code input) (words_of (words_in input)) (rise it.above it.forks)
    (Strand it.shown.at.0) (words_of after.strand.store.words.items) (stamps_in after)) same
    (subst (λ (t : Strands). Comes (strands_over code (length after.strand.store.words.items)) (root_strand code input) (words_of (words_in input))
    (rise it.above it.forks) t (words_of after.strand.store.words.items) (stamps_in after)) it.shown.at.1 it.come) in
    let time = ap (λ (k : ℕ). k + 1) told.all in (
      more_come (strands_of code input) (code_is_local code_locations (table_of code (length (words_in input)))) (root_strand code input)
          (words_of (words_in input)) (rise it.above it.forks) it.shown.at.0 (words_of after.strand.store.words.items) (stamps_in after) c.args.capsules
          come time,
      record {
        above = rise it.above it.forks;
        frame = it.shown.at.0;
        words = words_of after.strand.store.words.items;
        stamps = stamps_in after;
        come = come;
        time = time;
      },
    )
