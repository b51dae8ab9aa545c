use Rattle.std.proofs.Common.{sym, refl, arith, ap}
use Rattle.ppm_step.specs.declared.ask.Want.TheVariants.{Stores as WantsStore}
use Rattle.ppm_step.specs.Told.{place_of}
use Rattle.ppm_stretch.proofs.SteadyLemmas.{runs_one}
use Rattle.ppm_stretch.proofs.entering.store_next.Goals as goal

pub returns-clause-made : goal.returns-clause-made
returns-clause-made g c = λ rest at wants.
    let came = runs_one c.args.words.now.shared.key c.args.shape.now c.requires.table.1 c.args.place.now rest c.args.mine.now.me c.tell.new.seat.me (WantsStore c.args.at c.args.word) 0
    (sym at) c.requires.sits (omega (arith, c.requires.place)) wants tt refl c.tell.ensures.told in
    (came.1, came.0, λ fine. record { goes = came.0; shows = c.tell.ensures.shows fine c.args.place.now.own c.requires.sits (ap place_of at) })
