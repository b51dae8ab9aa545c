use Rattle.std.proofs.Common.{◌≡◌, ℕ, List, Option, take, replicate, refl, ap, subst}
use Rattle.ppm_cells.specs.declared.restart.RestartKind.TheVariants.{Run}
use Rattle.ppm_code.specs.declared.code.Capsule.{Capsule}
use Rattle.ppm_code.specs.declared.instr.Instr.{Instr}
use Rattle.ppm_step.specs.Standings.{enters}
use Rattle.ppm_core.specs.Rounds.{LedTo, stands_at}
use Rattle.ppm_widths.proofs.WidthLemmas.{width_at}
use Rattle.ppm_engine.proofs.WidthLemmas.{enters_with_zeros}
use Rattle.ppm_core.proofs.frames.capsule_along.Goals as goal

-- a capsule goes as from 0 in all registers, where those hold 0 that it reads
pub returns-clause-along : goal.returns-clause-along
returns-clause-along c =
    let s = c.args.shape.now in
    let code = c.args.code.now in
    let seat = c.args.seat.now in
    let coming = c.args.coming.now in
    let found = c.in_ok-found.found.now in
    let registers = c.set_to_0.new.registers in
    let is = c.in_ok-found.ensures in (
      found,
      is,
      registers,
      enters_with_zeros s code seat coming.home found found.instrs registers (stands_at s code seat coming)
          (ap (λ (o : Option Capsule). enters s code seat (Run coming.home.frame coming.home.copy) o) is) c.requires.block refl
          (subst (λ (w : ℕ). take w registers ≡ take w (replicate 64 0)) (width_at code c.args.widths.now coming.number _ found c.requires.widths is) c.set_to_0.ensures),
      subst (λ (instrs : List Instr). LedTo s code seat coming.home instrs 0 registers c.go_along.new.registers c.args.words.now.items c.go_along.new.words.items c.go_along.result.made c.go_along.result.way)
          c.as_slice-2.ensures c.go_along.ensures.led,
    )
