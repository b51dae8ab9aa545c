use Rattle.std.proofs.Common.{◌<◌, ℕ, sym, refl, ap, arith, subst}
use Rattle.ppm_cells.specs.declared.shape.Shape.{Shape}
use Rattle.ppm_step.specs.declared.ask.Want.TheVariants.{Loads}
use Rattle.ppm_step.specs.declared.row.Point.TheVariants.{Header}
use Rattle.ppm_step.specs.declared.row.Row.TheVariants.{Now}
use Rattle.ppm_step.specs.declared.row.Then.TheVariants.{Load}
use Rattle.ppm_step.specs.Standings.{IsWithin}
use Rattle.ppm_step.specs.Told.{place_of}
use Rattle.ppm_table.specs.Run.{deed_by}
use Rattle.ppm_table.proofs.StandLemmas.{stands_on}
use Rattle.ppm_stretch.proofs.SteadyLemmas.{sits_more}
use Rattle.ppm_stretch.proofs.EnteringLemmas.{header_goes}
use Rattle.ppm_stretch.proofs.entering.load_header.Goals as goal

pub returns-clause-sits_on : goal.returns-clause-sits_on
returns-clause-sits_on g c = sits_more c.args.place.now.own c.args.mine.now.me c.tell.new.seat.me (deed_by (Loads c.args.header) c.tell.result.word) c.requires.sits c.tell.ensures.told

pub returns-clause-goes : goal.returns-clause-goes
returns-clause-goes g c =
    let at = c.requires.stands in
    header_goes c.args.words.now.shared.key c.args.place.now at.frame at.copy c.args.header c.args.mine.now.me c.tell.new.seat.me c.tell.result.word at.kind at.is_at
    (subst (λ (t : Shape). 0 < t.processors) (sym c.requires.table.1) (omega (arith, c.requires.place))) (sym at.stands) c.requires.sits c.tell.ensures.told

pub returns-clause-moves : goal.returns-clause-moves
returns-clause-moves g c = λ fine.
    let at = c.requires.stands in
    record {
      goes = header_goes c.args.words.now.shared.key c.args.place.now at.frame at.copy c.args.header c.args.mine.now.me c.tell.new.seat.me c.tell.result.word at.kind at.is_at
          (subst (λ (t : Shape). 0 < t.processors) (sym c.requires.table.1) (omega (arith, c.requires.place))) (sym at.stands) c.requires.sits c.tell.ensures.told;
      shows = c.tell.ensures.shows fine c.args.place.now.own c.requires.sits (ap place_of at.stands);
    }

pub returns-clause-stands : goal.returns-clause-stands
returns-clause-stands g c =
    let place = c.args.place.now in
    let at = c.requires.stands in
    sym (stands_on c.args.words.now.shared.key c.args.shape.now c.args.code.now c.requires.table.1 c.requires.table.2 place.own 0 c.args.mine.now.me c.tell.new.seat.me (Loads c.args.header) c.tell.result.word
    (IsWithin place (Now (Load (Header at.frame at.copy)))) (sym at.stands) c.requires.sits (omega (arith, c.requires.place), λ _. refl) (ap (λ (n : ℕ). Loads n) (sym at.is_at)) tt tt c.tell.ensures.told)
