use Rattle.std.proofs.Common.{◌≡◌, ◌<◌, arith, ap, subst}
use Rattle.std.proofs.lemmas.Result.{IfOk-weaker}
use Rattle.ppm_expected.specs.Language.{terminal_of, phrase_of, item_of, items_of}
use Rattle.ppm_expected.specs.declared.row.Item.TheVariants as i
use Rattle.ppm_expected.specs.Steps.{BeginsRow}
use Rattle.ppm_expected.proofs.ChoiceLemmas.{rank, first_below}
use Rattle.ppm_expected.proofs.StepLemmas.{entered}
use Rattle.ppm_expected.proofs.stack.+enter.Goals as goal

-- the first item is below its part
pub enter-requires : goal.enter-requires
enter-requires t c =
    let row = subst (λ q. BeginsRow (phrase_of c.in-Part.phrase) (terminal_of c.args.kind) (items_of q)) c.in-Some-split_first.ensures.cases.0
    c.in-Some.ensures.row in
    let below = first_below (phrase_of c.in-Part.phrase) row in
    let part : rank (item_of c.args.item) ≡ rank (item_of (i.Part c.in-Part.phrase)) = ap (λ q. rank (item_of q)) c.in-Part.is in
    let now : rank (item_of c.args.item) ≡ t = c.decreases in
    let less : rank (item_of c.in-Some-split_first.first.now) < t = omega (arith, below, part, now) in
    (less, tt)

-- what the first item of a row leaves, the part leaves
pub returns-in_ok-push_items-in-Some-split_first : goal.returns-in_ok-push_items-in-Some-split_first
returns-in_ok-push_items-in-Some-split_first t c =
    IfOk-weaker c.enter.result _ _
    (λ r e. entered c.args.item c.in-Some-split_first.first.now c.in-Part.phrase c.in-Some.items.now c.in-Some-split_first.rest.now c.in-Part.is
    c.in-Some.ensures.row c.in-Some-split_first.ensures.cases.0 c.in_ok-push_items-in-Some-split_first.ensures e) c.enter.ensures
