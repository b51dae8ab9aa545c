use Rattle.std.proofs.Common.{◌∙◌, ◌+◌, ℕ, List, sym, ap, subst, arith}
use Rattle.ppm_words.specs.Inputs.{value_count}
use Rattle.ppm_words.specs.declared.named_array.NamedArray.{NamedArray}
use Rattle.ppm_case.specs.declared.case_error.InputFault.TheVariants as input
use Rattle.ppm_case.specs.Judged.{IsNext}
use Rattle.ppm_case.specs.Faults.{IsBadLine, IsArrayRefusal}
use Rattle.ppm_case.proofs.LoopLemmas.{SoFar, no_arrays, unended, bad_line, array_more, can_stand}
use Rattle.ppm_case.proofs.arrays.read_arrays.Goals as goal

-- nothing was read yet
pub loop-alloc-init : goal.loop-alloc-init
loop-alloc-init c = subst (λ (l : List NamedArray). SoFar c.args.text.now l 0 0 c.args.text.now) (sym c.new-arrays.ensures.items) (no_arrays c.args.text.now)

-- the line has no line feed
pub returns-in_default-clause-err : goal.returns-in_default-clause-err
returns-in_default-clause-err c =
    subst (IsArrayRefusal c.args.text.now) (sym c.of_input.ensures)
    (unended c.loop-alloc.invariant c.requires (sym c.begins_array.ensures ∙ c.loop-alloc-test.true) c.in_default.ensures.halves)

-- the arrays so far
pub judge-requires-clause-words : goal.judge-requires-clause-words
judge-requires-clause-words c = c.loop-alloc.invariant.words_are ∙ ap (λ (l : List NamedArray). value_count l) (sym c.deref.ensures.value)

pub judge-requires-clause-few : goal.judge-requires-clause-few
judge-requires-clause-few c = omega (arith, c.loop-alloc.invariant.words_are, c.loop-alloc.invariant.limits.values_bound)

-- the line is bad
pub returns-in-Err-clause-err : goal.returns-in-Err-clause-err
returns-in-Err-clause-err c =
    subst (IsArrayRefusal c.args.text.now) (sym c.of_input-in-Err.ensures)
    (bad_line c.loop-alloc.invariant c.requires c.in-Err.fault
    (subst (λ (l : List NamedArray). IsBadLine l c.loop-alloc.left.now c.in-Err.fault) c.deref.ensures.value
    (c.in-Err.ensures.err c.loop-alloc.left.now c.in-Some.rest.now c.in-Some.ensures.halves (sym c.begins_array.ensures ∙ c.loop-alloc-test.true))))

-- its array can stand
pub make_array-requires : goal.make_array-requires
make_array-requires c = can_stand c.in-Ok.ensures.ok

-- one array more
pub loop-alloc-preserved : goal.loop-alloc-preserved
loop-alloc-preserved c =
    let next : IsNext c.loop-alloc.arrays.items c.in-Some.line.now c.in-Ok.next.name.now c.in-Ok.next.numbers.now c.in-Ok.next.len =
    subst (λ (l : List NamedArray). IsNext l c.in-Some.line.now c.in-Ok.next.name.now c.in-Ok.next.numbers.now c.in-Ok.next.len) c.deref.ensures.value
    c.in-Ok.ensures.ok in
    subst (λ (l : List NamedArray). SoFar c.args.text.now l (c.loop-alloc.words + c.in-Ok.next.len) (c.loop-alloc.lines + 1) c.in-Some.rest.now)
    (sym c.in_ok-push.ensures.items)
    (array_more c.loop-alloc.invariant c.in-Some.rest.now c.in_ok-array.array c.in-Some.ensures.halves next (c.in_ok-array.ensures next.array next.of_it))

-- all were read
pub returns-clause-read : goal.returns-clause-read
returns-clause-read c = c.loop-alloc.invariant.read

pub returns-clause-input : goal.returns-clause-input
returns-clause-input c = c.loop-alloc.invariant.limits

pub returns-clause-none : goal.returns-clause-none
returns-clause-none c = sym c.begins_array.ensures ∙ c.loop-alloc-test.false
