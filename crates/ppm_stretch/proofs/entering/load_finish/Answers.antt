use Rattle.std.proofs.Common.{◌<◌, sym, refl, arith, subst, ap}
use Rattle.std.specs.Prelude.{Some}
use Rattle.ppm_cells.specs.declared.shape.Shape.{Shape}
use Rattle.ppm_step.specs.declared.ask.Want.TheVariants.{Loads}
use Rattle.ppm_step.specs.Standings.{IsAt}
use Rattle.ppm_step.specs.Told.{place_of}
use Rattle.ppm_table.proofs.StandLemmas.{stands_on}
use Rattle.ppm_stretch.proofs.SteadyLemmas.{sits_more}
use Rattle.ppm_table.specs.Run.{deed_by}
use Rattle.ppm_stretch.proofs.EnteringLemmas.{finish_goes}
use Rattle.ppm_stretch.proofs.entering.load_finish.Goals as goal

pub returns-clause-sits_on : goal.returns-clause-sits_on
returns-clause-sits_on g c = sits_more c.args.place.now.own c.args.mine.now.me c.tell.new.seat.me (deed_by (Loads 0) c.tell.result.word) c.requires.sits c.tell.ensures.told

pub returns-clause-goes : goal.returns-clause-goes
returns-clause-goes g c =
    finish_goes c.args.words.now.shared.key c.args.place.now c.args.mine.now.me c.tell.new.seat.me c.tell.result.word c.requires.looks
    (subst (λ (t : Shape). 0 < t.processors) (sym c.requires.table.1) (omega (arith, c.requires.place))) (sym c.requires.stands) c.requires.sits c.tell.ensures.told

pub returns-clause-moves : goal.returns-clause-moves
returns-clause-moves g c = λ fine.
    record {
      goes = finish_goes c.args.words.now.shared.key c.args.place.now c.args.mine.now.me c.tell.new.seat.me c.tell.result.word c.requires.looks
          (subst (λ (t : Shape). 0 < t.processors) (sym c.requires.table.1) (omega (arith, c.requires.place))) (sym c.requires.stands) c.requires.sits c.tell.ensures.told;
      shows = c.tell.ensures.shows fine c.args.place.now.own c.requires.sits (ap place_of c.requires.stands);
    }

pub returns-clause-stands : goal.returns-clause-stands
returns-clause-stands g c =
    let place = c.args.place.now in
    sym (stands_on c.args.words.now.shared.key c.args.shape.now c.args.code.now c.requires.table.1 c.requires.table.2 place.own 0 c.args.mine.now.me c.tell.new.seat.me (Loads 0) c.tell.result.word
    (IsAt place.place (Some place.restart)) (sym c.requires.stands) c.requires.sits (omega (arith, c.requires.place), λ _. refl) refl tt tt c.tell.ensures.told)
