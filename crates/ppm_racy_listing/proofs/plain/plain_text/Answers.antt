-- A line more.
use Rattle.std.proofs.Common.{rules, ◌≡◌, ◌∙◌, ◌++◌, ◌∷◌, [], ap}
use Rattle.ppm_racy_listing.specs.Plain.{plain_line, old_in, plain_of_text, olds_of}
use Rattle.ppm_racy_listing.proofs.TextLemmas.{text_step, olds_step}
use Rattle.ppm_racy_listing.proofs.plain.plain_text.Goals as goal

pub loop-line-preserved : goal.loop-line-preserved
loop-line-preserved c =
    let text : c.push-in-Some.new.self.items ≡ (c.loop-line.plain.items ++ plain_line c.in-Some.line.now) ++ 10 ∷ [] = search rules in
    let olds : c.push.new.self.items ≡ c.loop-line.olds.items ++ old_in c.in-Some.line.now ∷ [] = search rules in (
      ap (λ l. l ++ plain_of_text c.in-Some.rest.now) text
          ∙ text_step c.loop-line.plain.items c.in-Some.line.now c.in-Some.rest.now c.loop-line.left.now _ c.in-Some.ensures.pieces c.loop-line.invariant.0,
      ap (λ l. l ++ olds_of c.in-Some.rest.now) olds
          ∙ olds_step c.loop-line.olds.items c.in-Some.line.now c.in-Some.rest.now c.loop-line.left.now _ c.in-Some.ensures.pieces c.loop-line.invariant.1,
    )
