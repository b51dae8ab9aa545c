use Rattle.std.proofs.Common.{◌≡◌, ◌∙◌, ℕ, Option, take, replicate, ap, subst}
use Rattle.ppm_cells.specs.declared.restart.RestartKind.TheVariants.{Run}
use Rattle.ppm_code.specs.declared.code.Capsule.{Capsule}
use Rattle.ppm_step.specs.Standings.{enters}
use Rattle.ppm_engine.proofs.WidthLemmas.{enters_with_zeros}
use Rattle.ppm_widths.proofs.WidthLemmas.{width_at}
use Rattle.ppm_stretch.proofs.entering.capsule_along.Goals as goal

pub go_along-requires-clause-stands : goal.go_along-requires-clause-stands
go_along-requires-clause-stands g c κs within =
    let found = c.in_ok-found.found.now in
    enters_with_zeros c.args.shape.now c.args.code.now c.args.place.now c.args.home.now found c.as_slice-2.result.now c.set_to_0.new.registers _
    (c.requires.stands ∙ ap (λ (o : Option Capsule). enters c.args.shape.now c.args.code.now c.args.place.now (Run c.args.home.now.frame c.args.home.now.copy) o) c.in_ok-found.ensures)
    c.requires.block c.as_slice-2.ensures
    (subst (λ (w : ℕ). take w c.set_to_0.new.registers ≡ take w (replicate 64 0)) (width_at c.args.code.now c.args.widths.now c.args.number _ found c.requires.widths c.in_ok-found.ensures) c.set_to_0.ensures)
