use Rattle.std.proofs.Common.{◌≡◌, ◌∙◌, sym, ap, subst, arith}
use Rattle.ppm_cells.specs.Finish.{finish_of}
use Rattle.ppm_cells.specs.Memory.{write}
use Rattle.ppm_cells.specs.declared.cell.Cell.TheVariants.{FinishWord}
use Rattle.ppm_saved.specs.Renewal.{finish_behind, AreRenewedBelow}
use Rattle.ppm_saved.proofs.RenewalLemmas.{first_renewed, all_renewed}
use Rattle.ppm_saved.proofs.renewal.renew_words.Goals as goal

-- the finish word first
pub loop-place-init : goal.loop-place-init
loop-place-init c =
    let s = c.args.shape.now in
    let old = c.args.words.now.items in
    let finish = c.next_finish-finish.ensures ∙ ap (λ w. finish_behind (finish_of w) w) c.get.ensures in
    subst (λ ws. AreRenewedBelow s old 0 ws) (sym (c.put.ensures ∙ ap (λ w. write s old FinishWord w) finish)) (first_renewed s old c.requires)

-- then place by place
pub loop-place-preserved : goal.loop-place-preserved
loop-place-preserved c = c.renew_place.ensures c.args.words.now.items c.loop-place.invariant

-- up to the last one
pub returns : goal.returns
returns c =
    let s = c.args.shape.now in
    let old = c.args.words.now.items in
    let all : c.loop-place.place ≡ s.processors = omega (arith, c.loop-place.auto.place-end, c.loop-place-test.false) in
    all_renewed s old c.loop-place.words.items (subst (λ n. AreRenewedBelow s old n c.loop-place.words.items) all c.loop-place.invariant)
