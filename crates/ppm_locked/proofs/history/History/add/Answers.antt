use Rattle.std.proofs.Common.{◌∙◌, List, sym, ap, subst, arith}
use mathlib.Core.List.{IsPrefix}
use Rattle.ppm_step.specs.declared.turn.Turn.{Turn}
use Rattle.ppm_locked.proofs.HistoryLemmas.{adds_moves, prefix_length}
use Rattle.ppm_locked.proofs.history.History.add.Goals as goal

pub compare_exchange-found-requires : goal.compare_exchange-found-requires
compare_exchange-found-requires g c =
    let is = c.self.invariant.2 in
    let offer = c.plain-offer.ensures in
    let pen = c.no_pen-pen.ensures in
    let book = c.learn.ensures.0 ∙ ap (λ s. s.book) c.again-both.ensures ∙ c.self.invariant.1 ∙ sym (ap (λ w. w.book) is) in
    let begins : IsPrefix c.self.inside.all.log c.learn.new.self.log = subst (λ (l : List Turn). IsPrefix l c.learn.new.self.log) (ap (λ s. s.log) c.again-both.ensures) c.learn.ensures.2 in (
      ap (λ w. w.tracked) is,
      book,
      pen.0 ∙ book,
      offer.0,
      rw (ap (λ w. w.key) is, pen.1, offer.1, offer.3) (adds_moves c.learn.new.self.log c.args.turn c.self.inside.turns (omega (arith, c.self.invariant.0, prefix_length c.self.inside.all.log c.learn.new.self.log begins))),
    )
