use Rattle.std.proofs.Common.{[]}
use Rattle.std.proofs.lemmas.Result.{err_from_is_err_and}
use Rattle.ppm_pieces.specs.Pieces.{split}
use Rattle.ppm_plan.proofs.ReadingLemmas.{one_item, last_item, no_item}
use Rattle.ppm_plan.proofs.reading.read_items.Goals as goal

-- the piece reads as no item
pub returns-in_err-take-clause-bad : goal.returns-in_err-take-clause-bad
returns-in_err-take-clause-bad g c =
    let p = err_from_is_err_and c.from_residual.result c.from_residual.ensures.1 in
    rw (p.1, p.2) (no_item g.T.Item.form c.args.text.now c.loop-piece.items.items (split 44 c.loop-piece.left.now) (split 44 c.in-Some.rest.now)
    c.in-Some.piece.now c.in_err-take.field-0.0 c.loop-piece.invariant c.in-Some.ensures.pieces c.in_err-take.ensures.stops)

-- one item more
pub loop-piece-preserved : goal.loop-piece-preserved
loop-piece-preserved g c =
    one_item g.T.Item.form _ c.loop-piece.items.items _ (split 44 c.loop-piece.left.now) (split 44 c.in-Some.rest.now) c.in-Some.piece.now
    c.loop-piece.invariant c.in-Some.ensures.pieces c.in_ok-take.ensures.taken

-- the last piece reads as no item
pub returns-in_err-take-2-clause-bad : goal.returns-in_err-take-2-clause-bad
returns-in_err-take-2-clause-bad g c =
    let p = err_from_is_err_and c.from_residual-in_err-take-2.result c.from_residual-in_err-take-2.ensures.1 in
    rw (p.1, p.2) (no_item g.T.Item.form c.args.text.now c.loop-piece.items.items (split 44 c.loop-piece.left.now) []
    c.loop-piece.left.now c.in_err-take-2.field-0.0 c.loop-piece.invariant c.in_default.ensures.pieces c.in_err-take-2.ensures.stops)

-- the last item
pub returns-clause-items : goal.returns-clause-items
returns-clause-items g c =
    last_item g.T.Item.form _ c.loop-piece.items.items _ (split 44 c.loop-piece.left.now) c.loop-piece.left.now
    c.loop-piece.invariant c.in_default.ensures.pieces c.in_ok-take-2.ensures.taken
