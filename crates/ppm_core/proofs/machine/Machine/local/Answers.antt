use Rattle.std.proofs.Common.{◌<◌, length, refl, sym, ap, arith}
use Rattle.std.proofs.lemmas.Option.{slice_get_read}
use Rattle.ppm_step.specs.State.{stand_in}
use Rattle.ppm_core.specs.Machine.{Holding}
use Rattle.ppm_core.proofs.TurnLemmas.{stands_at}
use Rattle.ppm_core.proofs.machine.Machine.local.Goals as goal

-- it is one of the machine's
pub returns-clause-holds : goal.returns-clause-holds
returns-clause-holds c =
    let same = ap (λ (m : Holding). m.shape.processors) c.self.view_is in
    let less : c.args.processor < length c.self.inside.locals.items = omega (arith, c.requires, c.self.invariant.1.count, same) in
    let at = slice_get_read c.self.inside.locals.items _ c.args.processor c.index.result.now refl less c.index.ensures in
    rw (sym c.self.view_is) (c.self.invariant.1.each c.args.processor c.index.result.now at)

-- and it stands where the machine says
pub returns-clause-stands : goal.returns-clause-stands
returns-clause-stands c =
    let same = ap (λ (m : Holding). m.shape.processors) c.self.view_is in
    let less : c.args.processor < length c.self.inside.locals.items = omega (arith, c.requires, c.self.invariant.1.count, same) in
    let at = slice_get_read c.self.inside.locals.items _ c.args.processor c.index.result.now refl less c.index.ensures in
    rw (sym c.self.view_is) (sym (ap stand_in (stands_at (record {
      shape = c.self.inside.shape;
      code = c.self.inside.code;
      array_lengths = c.self.inside.array_lengths.items;
      words = c.self.inside.words.items;
      locals = c.self.inside.locals.items;
      forks = c.self.inside.forks;
      takes = c.self.inside.takes;
      work = c.self.inside.work;
      turns = c.self.inside.turns;
    }) c.args.processor c.index.result.now at)))
