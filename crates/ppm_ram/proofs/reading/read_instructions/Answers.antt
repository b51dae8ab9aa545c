use Rattle.std.proofs.Common.{◌∙◌, ◌+◌, true, false, List, Result, sym, ap, subst, arith}
use Rattle.ppm_pieces.specs.Pieces.{split}
use Rattle.ppm_ram.specs.declared.instruction.Instruction.{Instruction}
use Rattle.ppm_ram.specs.Lines.{instructions_in}
use Rattle.ppm_ram.specs.Said.{behind, IsFaultOf}
use Rattle.ppm_ram.proofs.LoopLemmas.{behind_none, one_more, bad_line, last_piece}
use Rattle.ppm_ram.proofs.reading.read_instructions.Goals as goal

-- nothing was read yet
pub loop-line-init : goal.loop-line-init
loop-line-init c =
    let all = instructions_in c.args.count 0 (split 10 c.args.text.now) in
    (ap (λ (is : List Instruction). behind is all) c.new-instructions.ensures.items ∙ behind_none all, omega arith)

-- numbers are small
pub judge-requires : goal.judge-requires
judge-requires c = let bytes = c.loop-line.invariant.1 in let few = c.requires in omega (arith, bytes, few)

-- a line that breaks a rule
pub returns-in-Err-clause-err : goal.returns-in-Err-clause-err
returns-in-Err-clause-err c =
    subst (IsFaultOf (instructions_in c.args.count 0 (split 10 c.args.text.now))) (sym c.refused.ensures)
    (sym c.loop-line.invariant.0
    ∙ bad_line c.args.count c.loop-line.number c.loop-line.left.now c.in-Some.line.now c.in-Some.rest.now c.loop-line.instructions.items c.in-Err.rule
    c.in-Some.ensures.pieces (sym c.in-Err.ensures))

-- one instruction more
pub loop-line-preserved : goal.loop-line-preserved
loop-line-preserved c =
    let bytes = c.loop-line.invariant.1 in
    let shorter = c.in-Some.ensures.shorter in (
      ap (λ (is : List Instruction). behind is (instructions_in c.args.count (c.loop-line.number + 1) (split 10 c.in-Some.rest.now))) c.in_ok-push.ensures.items
          ∙ sym (one_more c.args.count c.loop-line.number c.loop-line.left.now c.in-Some.line.now c.in-Some.rest.now c.loop-line.instructions.items
          c.in-Ok.instruction c.in-Some.ensures.pieces (sym c.in-Ok.ensures))
          ∙ c.loop-line.invariant.0,
      omega (arith, bytes, shorter),
    )

-- all were read
pub returns-then-is_ended-clause-ok : goal.returns-then-is_ended-clause-ok
returns-then-is_ended-clause-ok c =
    sym c.loop-line.invariant.0
    ∙ last_piece c.args.count c.loop-line.number c.loop-line.left.now c.loop-line.instructions.items true c.in_default.ensures.pieces
    (sym c.is_ended.ensures ∙ c.if-is_ended.true)

-- or the text ends too soon
pub returns-else-is_ended-clause-err : goal.returns-else-is_ended-clause-err
returns-else-is_ended-clause-err c =
    subst (IsFaultOf (instructions_in c.args.count 0 (split 10 c.args.text.now))) (sym c.refused-else-is_ended.ensures)
    (sym c.loop-line.invariant.0
    ∙ last_piece c.args.count c.loop-line.number c.loop-line.left.now c.loop-line.instructions.items false c.in_default.ensures.pieces
    (sym c.is_ended.ensures ∙ c.if-is_ended.false))
