use Rattle.std.proofs.Common.{◌≡◌, ◌∙◌, ℕ, ℤ, List, Some, None, refl, sym, subst, arith}
use Rattle.std.specs.Prelude.{pos, replicate}
use Rattle.ppm_words.specs.declared.outcome.Outcome.{Outcome}
use Rattle.ppm_words.specs.declared.outcome.Outcome.TheVariants as outcome
use Rattle.ppm_ram.specs.Limits.{line_of}
use Rattle.ppm_ram.specs.Meaning.{Halted, Trapped, said_of, IsRunOf}
use Rattle.ppm_ram.specs.Moves.{state}
use Rattle.ppm_ram.proofs.RunLemmas.{HasCome, at_first, one_further, ended, not_ended, told_by, step_at}
use Rattle.ppm_ram.proofs.run.ram_run.Goals as goal

-- no step was made yet
pub loop-init : goal.loop-init
loop-init c =
    subst (λ (ms : List ℤ). HasCome c.args.ram.now 0 (state 0 (replicate 8 (pos 0)) ms)) (sym c.in_ok-memory.ensures) (at_first c.args.ram.now)

-- past the last instruction
pub returns-in_default : goal.returns-in_default
returns-in_default c =
    let s = state c.loop.at c.loop.registers c.loop.memory.items in
    told_by (λ o. o ≡ said_of (Halted c.loop.memory.items)) (IsRunOf c.args.ram.now c.args.steps) c.halted.result
    (λ o told. ended c.args.ram.now c.loop.counter c.args.steps s (Halted c.loop.memory.items) o c.loop.invariant
    (step_at c.args.ram.now s None (sym c.in_default.ensures.value)) c.loop-test.true told) c.halted.ensures

-- the number of an instruction is small
pub advance-requires : goal.advance-requires
advance-requires c = c.in-Some.ensures.few

pub overflow_add-result : goal.overflow_add-result
overflow_add-result c = let few = c.in-Some.ensures.few in omega (arith, few)

-- the end
pub returns-in-Halted : goal.returns-in-Halted
returns-in-Halted c =
    let s = state c.loop.at c.loop.registers c.loop.memory.items in
    told_by (λ o. o ≡ said_of (Halted c.advance.new.memory.items)) (IsRunOf c.args.ram.now c.args.steps) c.halted-in-Halted.result
    (λ o told. ended c.args.ram.now c.loop.counter c.args.steps s (Halted c.advance.new.memory.items) o c.loop.invariant
    (step_at c.args.ram.now s (Some c.in-Some.instruction) (sym c.in-Some.ensures.value) ∙ sym c.in-Halted.ensures) c.loop-test.true told)
    c.halted-in-Halted.ensures

pub returns-in-Trapped : goal.returns-in-Trapped
returns-in-Trapped c =
    let s = state c.loop.at c.loop.registers c.loop.memory.items in
    ended c.args.ram.now c.loop.counter c.args.steps s (Trapped c.in-Trapped.trap (line_of c.loop.at)) _ c.loop.invariant
    (step_at c.args.ram.now s (Some c.in-Some.instruction) (sym c.in-Some.ensures.value) ∙ sym c.in-Trapped.ensures) c.loop-test.true refl

-- one step more
pub loop-preserved : goal.loop-preserved
loop-preserved c =
    let s = state c.loop.at c.loop.registers c.loop.memory.items in
    one_further c.args.ram.now c.loop.counter s (state c.in-To.next c.advance.new.registers c.advance.new.memory.items) c.loop.invariant
    (step_at c.args.ram.now s (Some c.in-Some.instruction) (sym c.in-Some.ensures.value) ∙ sym c.in-To.ensures)

-- all steps were made
pub returns : goal.returns
returns c =
    let s = state c.loop.at c.loop.registers c.loop.memory.items in
    let far = c.loop-test.false in
    let near = c.loop.auto.counter-end in
    let all : c.loop.counter ≡ c.args.steps = omega (arith, far, near) in
    not_ended c.args.ram.now c.args.steps s outcome.NotWithin (subst (λ (n : ℕ). HasCome c.args.ram.now n s) all c.loop.invariant) refl
