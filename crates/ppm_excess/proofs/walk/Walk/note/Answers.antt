use Rattle.std.proofs.Common.{[], ◌∷◌, ◌++◌, sym, ap, ◌∙◌}
use Rattle.ppm_cut_bounds.specs.Catching.{has}
use Rattle.ppm_cut_bounds.proofs.Notes.{noted_before, noted_now}
use Rattle.std.proofs.lemmas.Result.{on_ok_weaker}
use Rattle.ppm_excess.proofs.walk.Walk.note.Goals as goal

-- the name was noted before
pub returns-then-has : goal.returns-then-has
returns-then-has c =
    noted_before c.args.self.now c.args.name.now (ap (λ w. has w.caught c.args.name.now) (sym c.self.view_is) ∙ sym c.has.ensures ∙ c.if-has.true)

-- the name is noted now
pub returns : goal.returns
returns c =
    on_ok_weaker c.push.result (λ caught. noted_now c.args.self.now _ c.args.name.now
    (ap (λ w. has w.caught c.args.name.now) (sym c.self.view_is) ∙ sym c.has.ensures ∙ c.if-has.false)
    (ap (λ w. has w.own c.args.name.now) (sym c.self.view_is) ∙ sym c.has-2.ensures ∙ c.if-has-2.false)
    (ap (λ w. w.own) c.self.view_is) (caught ∙ ap (λ w. w.caught ++ c.args.name.now ∷ []) c.self.view_is)) c.push.ensures
