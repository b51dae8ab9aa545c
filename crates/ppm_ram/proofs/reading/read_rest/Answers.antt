use Rattle.std.proofs.Common.{◌≡◌, ◌∙◌, ◌≤◌, Ok, Err, IfOk, IfErr, sym, ap, subst, arith}
use Rattle.ppm_pieces.specs.Pieces.{split}
use Rattle.ppm_ram.specs.Lines.{values_of, with_size, with_values}
use Rattle.ppm_ram.specs.Said.{at_line, IsFaultOf}
use Rattle.ppm_ram.proofs.LoopLemmas.{line_first, line_none, handed_on, refused_values}
use Rattle.ppm_ram.proofs.reading.read_rest.Goals as goal

-- the text ends too soon
pub returns-in_default-clause-err : goal.returns-in_default-clause-err
returns-in_default-clause-err c =
    subst (IsFaultOf (with_size (Ok c.args.memory) (split 10 c.args.text.now))) (sym c.refused.ensures)
    (line_none 3 (λ l ms. with_values c.args.memory (values_of c.args.memory l) ms) c.args.text.now c.in_default.ensures.pieces)

-- the values are refused
pub returns-in-Err-clause-err : goal.returns-in-Err-clause-err
returns-in-Err-clause-err c =
    let n = c.args.memory in
    handed_on (at_line 3 (values_of n c.in-Some.line.now)) (with_size (Ok n) (split 10 c.args.text.now)) c.in-Err.error
    (λ f e. line_first 3 (λ l ms. with_values n (values_of n l) ms) c.args.text.now c.in-Some.line.now c.in-Some.rest.now c.in-Some.ensures.pieces
    ∙ refused_values n (values_of n c.in-Some.line.now) (split 10 c.in-Some.rest.now) f e) c.in-Err.ensures.err

-- what is left is shorter
pub read_body-requires : goal.read_body-requires
read_body-requires c = let few = c.requires in let shorter = c.in-Some.ensures.shorter in omega (arith, few, shorter)

-- the values were read
pub returns-in-Ok-clause-ok : goal.returns-in-Ok-clause-ok
returns-in-Ok-clause-ok c =
    let n = c.args.memory in
    let rest = split 10 c.in-Some.rest.now in
    let all = line_first 3 (λ l ms. with_values n (values_of n l) ms) c.args.text.now c.in-Some.line.now c.in-Some.rest.now c.in-Some.ensures.pieces
    ∙ ap (λ v. with_values n v rest) c.in-Ok.ensures.ok in
    subst (λ v. IfOk c.read_body.result (λ r. v ≡ Ok r)) (sym all) c.read_body.ensures.ok

pub returns-in-Ok-clause-err : goal.returns-in-Ok-clause-err
returns-in-Ok-clause-err c =
    let n = c.args.memory in
    let rest = split 10 c.in-Some.rest.now in
    let all = line_first 3 (λ l ms. with_values n (values_of n l) ms) c.args.text.now c.in-Some.line.now c.in-Some.rest.now c.in-Some.ensures.pieces
    ∙ ap (λ v. with_values n v rest) c.in-Ok.ensures.ok in
    subst (λ v. IfErr c.read_body.result (IsFaultOf v)) (sym all) c.read_body.ensures.err
