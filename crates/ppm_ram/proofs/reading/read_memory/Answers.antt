use Rattle.std.proofs.Common.{◌≡◌, ◌∙◌, Ok, Err, IfOk, IfErr, sym, ap, subst, arith}
use Rattle.ppm_pieces.specs.Pieces.{split}
use Rattle.ppm_ram.specs.Lines.{size_in, with_size}
use Rattle.ppm_ram.specs.Said.{IsFaultOf, sized}
use Rattle.ppm_ram.proofs.LoopLemmas.{line_first, line_none}
use Rattle.ppm_ram.proofs.reading.read_memory.Goals as goal

-- the text ends too soon
pub returns-in_default-clause-err : goal.returns-in_default-clause-err
returns-in_default-clause-err c =
    subst (IsFaultOf (sized (split 10 c.args.text.now))) (sym c.refused.ensures)
    (line_none 2 (λ l ms. with_size (size_in l) ms) c.args.text.now c.in_default.ensures.pieces)

-- the size is refused
pub returns-in-Err-clause-err : goal.returns-in-Err-clause-err
returns-in-Err-clause-err c =
    subst (IsFaultOf (sized (split 10 c.args.text.now))) (sym c.refused-in-Err.ensures)
    (line_first 2 (λ l ms. with_size (size_in l) ms) c.args.text.now c.in-Some.line.now c.in-Some.rest.now c.in-Some.ensures.pieces
    ∙ ap (λ v. with_size v (split 10 c.in-Some.rest.now)) (sym c.in-Err.ensures))

-- what is left is shorter
pub read_rest-requires : goal.read_rest-requires
read_rest-requires c = let few = c.requires in let shorter = c.in-Some.ensures.shorter in omega (arith, few, shorter)

-- the size was read
pub returns-in-Ok-clause-ok : goal.returns-in-Ok-clause-ok
returns-in-Ok-clause-ok c =
    let all = line_first 2 (λ l ms. with_size (size_in l) ms) c.args.text.now c.in-Some.line.now c.in-Some.rest.now c.in-Some.ensures.pieces
    ∙ ap (λ v. with_size v (split 10 c.in-Some.rest.now)) (sym c.in-Ok.ensures) in
    subst (λ v. IfOk c.read_rest.result (λ r. v ≡ Ok r)) (sym all) c.read_rest.ensures.ok

pub returns-in-Ok-clause-err : goal.returns-in-Ok-clause-err
returns-in-Ok-clause-err c =
    let all = line_first 2 (λ l ms. with_size (size_in l) ms) c.args.text.now c.in-Some.line.now c.in-Some.rest.now c.in-Some.ensures.pieces
    ∙ ap (λ v. with_size v (split 10 c.in-Some.rest.now)) (sym c.in-Ok.ensures) in
    subst (λ v. IfErr c.read_rest.result (IsFaultOf v)) (sym all) c.read_rest.ensures.err
