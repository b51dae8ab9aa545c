use Rattle.std.proofs.Common.{◌≡◌, ◌+◌, ◌∙◌, ◌++◌, ◌∷◌, [], List, map, sym, ap, arith}
use Rattle.std.specs.List.{range_with_len}
use Rattle.std.proofs.lemmas.List.FromFn.{map-range_with_len_more}
use Rattle.ppm_locked.specs.Held.{Seated, unused}
use Rattle.ppm_locked.proofs.locked.seats_for.Goals as goal

pub loop-own-preserved : goal.loop-own-preserved
loop-own-preserved g c =
    let own = c.loop-own.own in
    let next : 0 + own ≡ own = omega arith in (
      omega (arith, c.split_off-share.ensures.parts_left, c.loop-own.invariant.0),
      omega (arith, c.split_off-share.ensures.amount_left, c.loop-own.invariant.1),
      omega (arith, c.split_off-end.ensures.parts_left, c.loop-own.invariant.2),
      omega (arith, c.split_off-end.ensures.amount_left, c.loop-own.invariant.3),
      c.in_ok-push.ensures.items
          ∙ ap (λ (xs : List Seated). xs ++ c.new.result ∷ []) c.loop-own.invariant.4
          ∙ ap (λ x. map unused (range_with_len 0 own) ++ x ∷ []) c.new.ensures
          ∙ sym (map-range_with_len_more unused 0 own own next),
    )
