use Rattle.std.proofs.Common.{◌≡◌, ◌∙◌, ℕ, true, false, sym, ap}
use Rattle.ppm_table.specs.Run.{deeds_in, stands_by}
use Rattle.ppm_table.specs.Shown.{opening_of}
use Rattle.ppm_stretch.proofs.SteadyLemmas.{steps_keep}
use Rattle.ppm_stretch.proofs.rows.steps.Goals as goal

pub returns-clause-keeps : goal.returns-clause-keeps
returns-clause-keeps g c =
    steps_keep g.W.Watch.told (opening_of c.args.shared.now) c.args.processor.now.local.own c.args.processor.now.seat.me c.steps_along.new.mine.me c.args.watch.now c.steps_along.new.watch c.args.most
    c.steps_along.result c.steps_along.ensures.makes c.steps_along.ensures.stops

pub returns-clause-of : goal.returns-clause-of
returns-clause-of g c =
    let k = opening_of c.args.shared.now in
    let e = c.steps_along.ensures in
    record {
      table = e.table ∙ c.requires.of.table;
      holds = e.holds;
      stands = e.stands_on ∙ ap (λ (own : ℕ). stands_by k own (deeds_in c.steps_along.new.mine.me.0)) (sym e.own_stays);
      counts = λ on. absurd (let none : true ≡ false = sym on ∙ c.requires.plain in cc);
    }
