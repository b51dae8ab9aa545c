use Rattle.std.proofs.Common.{◌≡◌, ◌∙◌, ◌+◌, ℕ, ap, arith, below_more, sym}
use Rattle.ppm_core.specs.Machine.{seen}
use Rattle.ppm_core.specs.Situation.{Situation, finish_in}
use Rattle.ppm_calls.proofs.TurnsLemmas.{has_taken, step_more}
use Rattle.ppm_calls.proofs.turning.take_turns.Goals as goal

-- the finish word is set before all steps were made
pub returns-then-finish_word-ne0 : goal.returns-then-finish_word-ne0
returns-then-finish_word-ne0 c =
    let now = c.loop-number.invariant in
    has_taken c.args.case.code c.args.case.input c.args.shape c.args.most c.in_ok-words.words c.in_ok-words.ensures.image
    (seen c.in_ok-machine.machine) (seen c.loop-number.machine) c.in_ok-machine.ensures c.from-processors.result c.loop-number.number
    (c.from-processors.ensures ∙ c.processors.ensures.value) now.0 now.1 c.loop-number.auto.number-end
    (λ unset. absurd (c.if-finish_word-ne0.true (c.finish_word.ensures ∙ unset)))

-- one step more
pub loop-number-preserved : goal.loop-number-preserved
loop-number-preserved c =
    let now = c.loop-number.invariant in (
      step_more (seen c.in_ok-machine.machine) (seen c.loop-number.machine) (seen c.turn.new.self) c.from-processors.result c.loop-number.number
          now.0 c.turn.ensures.machine,
      below_more _ _ now.1 (ap finish_in (sym now.0) ∙ sym c.finish_word.ensures ∙ c.if-finish_word-ne0.false),
      ap (λ (m : Situation). m.turns) c.turn.ensures.machine ∙ ap (λ (n : ℕ). n + 1) now.2,
      now.3 ∙ sym (ap (λ (m : Situation). m.shape.processors) c.turn.ensures.machine),
      now.4,
    )

-- all steps were made
pub returns : goal.returns
returns c =
    let now = c.loop-number.invariant in
    let all : c.loop-number.number ≡ c.args.most = omega (arith, c.loop-number-test.false, c.loop-number.auto.number-end) in
    has_taken c.args.case.code c.args.case.input c.args.shape c.args.most c.in_ok-words.words c.in_ok-words.ensures.image
    (seen c.in_ok-machine.machine) (seen c.loop-number.machine) c.in_ok-machine.ensures c.from-processors.result c.loop-number.number
    (c.from-processors.ensures ∙ c.processors.ensures.value) now.0 now.1 c.loop-number.auto.number-end (λ unset. all)
