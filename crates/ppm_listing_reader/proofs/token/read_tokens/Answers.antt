use Rattle.std.proofs.Common.{◌∙◌, sym, ap, arith}
use Rattle.ppm_listing_reader.specs.Forms.{part_in, may_go_on}
use Rattle.ppm_listing_reader.proofs.LongLemmas.{no_line}
use Rattle.ppm_listing_reader.proofs.token.read_tokens.Goals as goal

-- a line with so many words has no form, and neither has one with none
pub returns-then-not-may_go_on : goal.returns-then-not-may_go_on
returns-then-not-may_go_on c =
    let ts = c.loop-word.tokens.items in
    let t = c.token_in-token.result in
    let ends = sym (ap (may_go_on ts) c.token_in-token.ensures) ∙ sym (ap (λ ts. may_go_on ts t) c.deref.ensures.value) ∙ sym c.may_go_on.ensures
    ∙ c.if-not-may_go_on.true in
    ap part_in c.clear-then-not-may_go_on.ensures.items
    ∙ sym (no_line c.args.line.now c.loop-word.left.now c.in-Some.word.now c.in-Some.rest.now ts c.loop-word.invariant c.in-Some.ensures.pieces
    (omega (arith, c.if-len-ge8.true, c.len.ensures)) ends)
