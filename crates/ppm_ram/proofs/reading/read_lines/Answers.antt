use Rattle.std.proofs.Common.{◌≡◌, ◌∙◌, Ok, Err, IfOk, IfErr, codes, bytes_eq, sym, ap, subst, arith}
use Rattle.std.proofs.lemmas.Bool.{cond-true, cond-false}
use Rattle.ppm_pieces.specs.Pieces.{split}
use Rattle.ppm_ram.specs.declared.ram_error.RamFault.TheVariants as fault
use Rattle.ppm_ram.specs.Lines.{with_head}
use Rattle.ppm_ram.specs.Said.{IsFaultOf, headed, sized}
use Rattle.ppm_ram.proofs.LoopLemmas.{line_first, line_none}
use Rattle.ppm_ram.proofs.reading.read_lines.Goals as goal

-- the text ends too soon
pub returns-in_default-clause-err : goal.returns-in_default-clause-err
returns-in_default-clause-err c =
    subst (IsFaultOf (headed (split 10 c.args.text.now))) (sym c.refused.ensures)
    (line_none 1 with_head c.args.text.now c.in_default.ensures.pieces)

-- the first line has another form
pub returns-then-not-same_bytes-clause-err : goal.returns-then-not-same_bytes-clause-err
returns-then-not-same_bytes-clause-err c =
    subst (IsFaultOf (headed (split 10 c.args.text.now))) (sym c.refused-then-not-same_bytes.ensures)
    (line_first 1 with_head c.args.text.now c.in-Some.line.now c.in-Some.rest.now c.in-Some.ensures.pieces
    ∙ cond-false (bytes_eq c.in-Some.line.now (codes "ram 1")) (sized (split 10 c.in-Some.rest.now)) (Err (fault.NoSuchForm, 1))
    (sym c.same_bytes.ensures ∙ c.if-not-same_bytes.true))

-- what is left is shorter
pub read_memory-requires : goal.read_memory-requires
read_memory-requires c = let few = c.requires in let shorter = c.in-Some.ensures.shorter in omega (arith, few, shorter)

-- it has its form
pub returns-clause-ok : goal.returns-clause-ok
returns-clause-ok c =
    let all = line_first 1 with_head c.args.text.now c.in-Some.line.now c.in-Some.rest.now c.in-Some.ensures.pieces
    ∙ cond-true (bytes_eq c.in-Some.line.now (codes "ram 1")) (sized (split 10 c.in-Some.rest.now)) (Err (fault.NoSuchForm, 1))
    (sym c.same_bytes.ensures ∙ c.if-not-same_bytes.false) in
    subst (λ v. IfOk c.read_memory.result (λ r. v ≡ Ok r)) (sym all) c.read_memory.ensures.ok

pub returns-clause-err : goal.returns-clause-err
returns-clause-err c =
    let all = line_first 1 with_head c.args.text.now c.in-Some.line.now c.in-Some.rest.now c.in-Some.ensures.pieces
    ∙ cond-true (bytes_eq c.in-Some.line.now (codes "ram 1")) (sized (split 10 c.in-Some.rest.now)) (Err (fault.NoSuchForm, 1))
    (sym c.same_bytes.ensures ∙ c.if-not-same_bytes.false) in
    subst (λ v. IfErr c.read_memory.result (IsFaultOf v)) (sym all) c.read_memory.ensures.err
