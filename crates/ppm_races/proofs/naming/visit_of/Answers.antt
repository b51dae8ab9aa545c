use Rattle.std.proofs.Common.{◌≡◌, ◌+◌, ◌-◌, true, length, List, ℕ, sym, ap, ◌∙◌, subst, arith}
use Rattle.std.specs.Prelude.{◌↔◌}
use Rattle.ppm_strands.specs.Tree.{Has}
use Rattle.ppm_code.specs.Inputs.{words_in}
use Rattle.ppm_code.specs.declared.code.CodeParts.{CodeParts}
use Rattle.ppm_depth.specs.Moves.{entry_at}
use Rattle.ppm_depth.specs.Start.{words_of, root_strand}
use Rattle.ppm_depth.specs.Turns.{strands_over}
use Rattle.ppm_depth.specs.declared.frame.Frame.{Frame}
use Rattle.ppm_depth.specs.declared.frame.Now.TheVariants.{At}
use Rattle.ppm_races.specs.Touches.{written_in}
use Rattle.ppm_races.specs.declared.touch.Touch.{Touch}
use Rattle.ppm_races.specs.Walks.{rise, stamps_in, HasTold, IsAt}
use Rattle.ppm_races.specs.declared.walk.Told.{Told}
use Rattle.ppm_races.proofs.NamingLemmas.{visit_is, not_over, not_met}
use Rattle.ppm_races.proofs.MarkLemmas.{now_clear, now_sorted}
use Rattle.ppm_races.proofs.naming.visit_of.Goals as goal

-- nothing is counted yet
pub run-requires-clause-counts : goal.run-requires-clause-counts
run-requires-clause-counts c = c.in_ok-walk.ensures.counts

pub run-requires-clause-seen : goal.run-requires-clause-seen
run-requires-clause-seen c = c.in_ok-walk.ensures.seen

-- the run begins with the root
pub run-requires-clause-began : goal.run-requires-clause-began
run-requires-clause-began c =
    let code = c.args.code.now in
    let input = c.args.input.now in
    let root = c.entry-root.ensures.value ∙ ap (λ (p : CodeParts). entry_at code p.root 0) c.parts.ensures.value in (
      root_strand code input,
      (
        words_of (words_in input),
        subst (λ (f : Frame). IsAt code (root_strand code input) (words_of (words_in input)) c.in_ok-walk.walk (At f)) (sym root) c.in_ok-walk.ensures.at,
      ),
    )

-- the walk has come to the capsule
pub advance-requires-clause-there : goal.advance-requires-clause-there
advance-requires-clause-there c =
    let code = c.args.code.now in
    let input = c.args.input.now in
    let walk = c.in_ok-walk.walk in
    let after = c.run.new.self in
    let root = c.entry-root.ensures.value ∙ ap (λ (p : CodeParts). entry_at code p.root 0) c.parts.ensures.value in
    let at = subst (λ (f : Frame). IsAt code (root_strand code input) (words_of (words_in input)) walk (At f)) (sym root) c.in_ok-walk.ensures.at in
    let told = subst (λ (t : Told). HasTold code (root_strand code input) (words_of (words_in input)) (c.args.run - 1) after t) c.in-Next.is
    (c.in_ok-told.ensures.told (root_strand code input) (words_of (words_in input)) at) in
    told.at.shown.at.2.there

pub advance-requires-clause-stack : goal.advance-requires-clause-stack
advance-requires-clause-stack c =
    let code = c.args.code.now in
    let input = c.args.input.now in
    let walk = c.in_ok-walk.walk in
    let after = c.run.new.self in
    let root = c.entry-root.ensures.value ∙ ap (λ (p : CodeParts). entry_at code p.root 0) c.parts.ensures.value in
    let at = subst (λ (f : Frame). IsAt code (root_strand code input) (words_of (words_in input)) walk (At f)) (sym root) c.in_ok-walk.ensures.at in
    let told = subst (λ (t : Told). HasTold code (root_strand code input) (words_of (words_in input)) (c.args.run - 1) after t) c.in-Next.is
    (c.in_ok-told.ensures.told (root_strand code input) (words_of (words_in input)) at) in
    told.at.shown.at.3

pub advance-requires-clause-few : goal.advance-requires-clause-few
advance-requires-clause-few c =
    let code = c.args.code.now in
    let input = c.args.input.now in
    let walk = c.in_ok-walk.walk in
    let after = c.run.new.self in
    let root = c.entry-root.ensures.value ∙ ap (λ (p : CodeParts). entry_at code p.root 0) c.parts.ensures.value in
    let at = subst (λ (f : Frame). IsAt code (root_strand code input) (words_of (words_in input)) walk (At f)) (sym root) c.in_ok-walk.ensures.at in
    let told = subst (λ (t : Told). HasTold code (root_strand code input) (words_of (words_in input)) (c.args.run - 1) after t) c.in-Next.is
    (c.in_ok-told.ensures.told (root_strand code input) (words_of (words_in input)) at) in
    told.few

pub advance-requires-clause-capsules : goal.advance-requires-clause-capsules
advance-requires-clause-capsules c =
    let code = c.args.code.now in
    let input = c.args.input.now in
    let walk = c.in_ok-walk.walk in
    let after = c.run.new.self in
    let root = c.entry-root.ensures.value ∙ ap (λ (p : CodeParts). entry_at code p.root 0) c.parts.ensures.value in
    let at = subst (λ (f : Frame). IsAt code (root_strand code input) (words_of (words_in input)) walk (At f)) (sym root) c.in_ok-walk.ensures.at in
    let told = subst (λ (t : Told). HasTold code (root_strand code input) (words_of (words_in input)) (c.args.run - 1) after t) c.in-Next.is
    (c.in_ok-told.ensures.told (root_strand code input) (words_of (words_in input)) at) in
    let all = told.all in
    omega (arith, all, c.requires.few, c.requires.first)

pub advance-requires-clause-seen : goal.advance-requires-clause-seen
advance-requires-clause-seen c =
    let code = c.args.code.now in
    let input = c.args.input.now in
    let walk = c.in_ok-walk.walk in
    let after = c.run.new.self in
    let root = c.entry-root.ensures.value ∙ ap (λ (p : CodeParts). entry_at code p.root 0) c.parts.ensures.value in
    let at = subst (λ (f : Frame). IsAt code (root_strand code input) (words_of (words_in input)) walk (At f)) (sym root) c.in_ok-walk.ensures.at in
    let told = subst (λ (t : Told). HasTold code (root_strand code input) (words_of (words_in input)) (c.args.run - 1) after t) c.in-Next.is
    (c.in_ok-told.ensures.told (root_strand code input) (words_of (words_in input)) at) in
    told.seen

pub advance-requires-clause-now : goal.advance-requires-clause-now
advance-requires-clause-now c =
    let code = c.args.code.now in
    let input = c.args.input.now in
    let walk = c.in_ok-walk.walk in
    let after = c.run.new.self in
    let root = c.entry-root.ensures.value ∙ ap (λ (p : CodeParts). entry_at code p.root 0) c.parts.ensures.value in
    let at = subst (λ (f : Frame). IsAt code (root_strand code input) (words_of (words_in input)) walk (At f)) (sym root) c.in_ok-walk.ensures.at in
    let told = subst (λ (t : Told). HasTold code (root_strand code input) (words_of (words_in input)) (c.args.run - 1) after t) c.in-Next.is
    (c.in_ok-told.ensures.told (root_strand code input) (words_of (words_in input)) at) in
    let it = told.at in
    now_clear (strands_over code (length after.strand.store.words.items)) (root_strand code input) (words_of (words_in input)) after.marks.items
    (rise it.above it.forks) it.leaf (words_of after.strand.store.words.items) (stamps_in after) it.marks it.come

pub advance-requires-clause-sorted : goal.advance-requires-clause-sorted
advance-requires-clause-sorted c =
    let code = c.args.code.now in
    let input = c.args.input.now in
    let walk = c.in_ok-walk.walk in
    let after = c.run.new.self in
    let root = c.entry-root.ensures.value ∙ ap (λ (p : CodeParts). entry_at code p.root 0) c.parts.ensures.value in
    let at = subst (λ (f : Frame). IsAt code (root_strand code input) (words_of (words_in input)) walk (At f)) (sym root) c.in_ok-walk.ensures.at in
    let told = subst (λ (t : Told). HasTold code (root_strand code input) (words_of (words_in input)) (c.args.run - 1) after t) c.in-Next.is
    (c.in_ok-told.ensures.told (root_strand code input) (words_of (words_in input)) at) in
    let it = told.at in
    now_sorted (strands_over code (length after.strand.store.words.items)) (root_strand code input) (words_of (words_in input)) after.marks.items
    (rise it.above it.forks) it.leaf (words_of after.strand.store.words.items) (stamps_in after) it.marks it.come

-- the run is not over before, and no capsule meets another one
pub unreachable-requires : goal.unreachable-requires
unreachable-requires c =
    let code = c.args.code.now in
    let input = c.args.input.now in
    let walk = c.in_ok-walk.walk in
    let after = c.run.new.self in
    let root = c.entry-root.ensures.value ∙ ap (λ (p : CodeParts). entry_at code p.root 0) c.parts.ensures.value in
    let at = subst (λ (f : Frame). IsAt code (root_strand code input) (words_of (words_in input)) walk (At f)) (sym root) c.in_ok-walk.ensures.at in
    let told = subst (λ (t : Told). HasTold code (root_strand code input) (words_of (words_in input)) (c.args.run - 1) after t) c.in-Ended.is
    (c.in_ok-told.ensures.told (root_strand code input) (words_of (words_in input)) at) in
    let same : length after.strand.store.words.items ≡ length (words_in input) =
    c.in_ok-told.ensures.words ∙ ap (λ (xs : List ℕ). length xs) c.in_ok-walk.ensures.words in
    not_over code input c.args.run (c.args.run - 1) (length after.strand.store.words.items) told.0 told.1 told.2 same told.3 told.4
    (omega (arith, c.requires.first)) c.requires.there

pub unreachable-unreachable : goal.unreachable-unreachable
unreachable-unreachable c =
    let code = c.args.code.now in
    let input = c.args.input.now in
    let walk = c.in_ok-walk.walk in
    let after = c.run.new.self in
    let root = c.entry-root.ensures.value ∙ ap (λ (p : CodeParts). entry_at code p.root 0) c.parts.ensures.value in
    let at = subst (λ (f : Frame). IsAt code (root_strand code input) (words_of (words_in input)) walk (At f)) (sym root) c.in_ok-walk.ensures.at in
    let told = subst (λ (t : Told). HasTold code (root_strand code input) (words_of (words_in input)) (c.args.run - 1) after t) c.in-Ended.is
    (c.in_ok-told.ensures.told (root_strand code input) (words_of (words_in input)) at) in
    let same : length after.strand.store.words.items ≡ length (words_in input) =
    c.in_ok-told.ensures.words ∙ ap (λ (xs : List ℕ). length xs) c.in_ok-walk.ensures.words in
    not_over code input c.args.run (c.args.run - 1) (length after.strand.store.words.items) told.0 told.1 told.2 same told.3 told.4
    (omega (arith, c.requires.first)) c.requires.there

pub unreachable-requires-in-Meets : goal.unreachable-requires-in-Meets
unreachable-requires-in-Meets c =
    let code = c.args.code.now in
    let input = c.args.input.now in
    let walk = c.in_ok-walk.walk in
    let after = c.run.new.self in
    let root = c.entry-root.ensures.value ∙ ap (λ (p : CodeParts). entry_at code p.root 0) c.parts.ensures.value in
    let at = subst (λ (f : Frame). IsAt code (root_strand code input) (words_of (words_in input)) walk (At f)) (sym root) c.in_ok-walk.ensures.at in
    let told = subst (λ (t : Told). HasTold code (root_strand code input) (words_of (words_in input)) (c.args.run - 1) after t) c.in-Meets.is
    (c.in_ok-told.ensures.told (root_strand code input) (words_of (words_in input)) at) in
    let same : length after.strand.store.words.items ≡ length (words_in input) =
    c.in_ok-told.ensures.words ∙ ap (λ (xs : List ℕ). length xs) c.in_ok-walk.ensures.words in
    not_met code input c.args.run (c.args.run - 1) (length after.strand.store.words.items) _ same told.0 told.1
    (omega (arith, c.requires.first)) c.requires.there

pub unreachable-unreachable-in-Meets : goal.unreachable-unreachable-in-Meets
unreachable-unreachable-in-Meets c =
    let code = c.args.code.now in
    let input = c.args.input.now in
    let walk = c.in_ok-walk.walk in
    let after = c.run.new.self in
    let root = c.entry-root.ensures.value ∙ ap (λ (p : CodeParts). entry_at code p.root 0) c.parts.ensures.value in
    let at = subst (λ (f : Frame). IsAt code (root_strand code input) (words_of (words_in input)) walk (At f)) (sym root) c.in_ok-walk.ensures.at in
    let told = subst (λ (t : Told). HasTold code (root_strand code input) (words_of (words_in input)) (c.args.run - 1) after t) c.in-Meets.is
    (c.in_ok-told.ensures.told (root_strand code input) (words_of (words_in input)) at) in
    let same : length after.strand.store.words.items ≡ length (words_in input) =
    c.in_ok-told.ensures.words ∙ ap (λ (xs : List ℕ). length xs) c.in_ok-walk.ensures.words in
    not_met code input c.args.run (c.args.run - 1) (length after.strand.store.words.items) _ same told.0 told.1
    (omega (arith, c.requires.first)) c.requires.there

-- the capsule, and what it writes
pub returns : goal.returns
returns c =
    let code = c.args.code.now in
    let input = c.args.input.now in
    let walk = c.in_ok-walk.walk in
    let after = c.run.new.self in
    let root = c.entry-root.ensures.value ∙ ap (λ (p : CodeParts). entry_at code p.root 0) c.parts.ensures.value in
    let at = subst (λ (f : Frame). IsAt code (root_strand code input) (words_of (words_in input)) walk (At f)) (sym root) c.in_ok-walk.ensures.at in
    let told = subst (λ (t : Told). HasTold code (root_strand code input) (words_of (words_in input)) (c.args.run - 1) after t) c.in-Next.is
    (c.in_ok-told.ensures.told (root_strand code input) (words_of (words_in input)) at) in
    let same : length after.strand.store.words.items ≡ length (words_in input) =
    c.in_ok-told.ensures.words ∙ ap (λ (xs : List ℕ). length xs) c.in_ok-walk.ensures.words in
    let all = told.all in
    visit_is code input c.args.run c.args.word c.in-Next.frame.capsule (after.strand.counts.capsules + 1) (length after.strand.store.words.items)
    c.advance.new.self.log.items c.is_written-writes.result same (omega (arith, all, c.requires.first))
    (c.in_ok-advance-in-Next.ensures.log (root_strand code input) (words_of (words_in input)) told.at)
    (subst (λ (log : List Touch). (c.is_written-writes.result ≡ true) ↔ Has c.args.word (written_in log)) c.deref.ensures.value c.is_written-writes.ensures)
