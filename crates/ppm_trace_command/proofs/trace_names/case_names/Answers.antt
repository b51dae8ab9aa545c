use Rattle.std.proofs.Common.{◌≡◌, length, ap, ◌∙◌, arith}
use Rattle.ppm_code.specs.declared.code.CodeParts.{CodeParts}
use Rattle.ppm_trace_command.proofs.TraceNameLemmas.{case_named, numbers_more}
use Rattle.ppm_trace_command.proofs.trace_names.case_names.Goals as goal

-- one number more
pub loop-number-preserved : goal.loop-number-preserved
loop-number-preserved c = numbers_more c.loop-number.number _ _ c.loop-number.invariant c.in_ok-push.ensures.items

-- as many as there are procedures, which are few
pub returns : goal.returns
returns c =
    let procedures = c.as_slice.ensures ∙ ap (λ (k : CodeParts). k.procedures) c.parts.ensures.value in
    let all : c.loop-number.number ≡ length c.args.code.now.procedures = omega (
      arith,
      c.loop-number-test.false,
      c.loop-number.auto.number-end,
      ap length procedures,
      c.parts.ensures.code.procedures_most,
    ) in
    c.in_ok-named.ensures
    ∙ case_named c.args.code.now c.args.input.now _ c.loop-number.number _ all c.loop-number.invariant c.arrays.ensures.value
