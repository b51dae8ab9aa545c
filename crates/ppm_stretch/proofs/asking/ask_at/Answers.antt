use Rattle.std.proofs.Common.{false, ℕ, true, sym, ap, arith}
use Rattle.ppm_cells.specs.Cells.{pool_at}
use Rattle.ppm_step.specs.declared.ask.Want.TheVariants.{Loads as Wants}
use Rattle.ppm_step.specs.Frames.{asks}
use Rattle.ppm_step.specs.Told.{place_of}
use Rattle.ppm_stretch.specs.Asking.{asking}
use Rattle.ppm_stretch.proofs.AskingLemmas.{stands_asking}
use Rattle.ppm_stretch.proofs.SteadyLemmas.{runs_one, runs_lives, refuses_one}
use Rattle.ppm_stretch.proofs.asking.ask_at.Goals as goal

pub returns-then-counter-clause-asked : goal.returns-then-counter-clause-asked
returns-then-counter-clause-asked g c = λ go stands.
    let s = c.args.shape.now in
    let seat = c.args.place.now in
    let found = c.tell-counter.result.word in
    let at = stands_asking s seat c.args.asked go _ c.requires.seat.place stands in
    let came = runs_one c.args.words.now.shared.key s c.requires.table.1 seat (asking s seat c.args.asked go) c.args.mine.now.me c.tell-counter.new.seat.me (Wants c.address-at.result) found
    at c.requires.sits (omega (arith, c.requires.seat.own)) (ap (λ (n : ℕ). Wants n) (sym c.address-at.ensures.value)) tt tt c.tell-counter.ensures.told in (
      record { goes = came.0; shows = c.tell-counter.ensures.shows c.if-counter.true seat.own c.requires.sits (ap place_of (sym at)) },
      (asks (pool_at s seat.place) s.room found c.args.asked (go found), came.1, c.room_at.ensures go),
    )

pub returns-else-counter-clause-asked : goal.returns-else-counter-clause-asked
returns-else-counter-clause-asked g c = λ go stands.
    let k = c.args.words.now.shared.key in
    let s = c.args.shape.now in
    let seat = c.args.place.now in
    let found = c.tell-counter.result.word in
    let at = stands_asking s seat c.args.asked go _ c.requires.seat.place stands in
    let rest = asking s seat c.args.asked go in
    let came = runs_one k s c.requires.table.1 seat rest c.args.mine.now.me c.tell-counter.new.seat.me (Wants c.address-at.result) found
    at c.requires.sits (omega (arith, c.requires.seat.own)) (ap (λ (n : ℕ). Wants n) (sym c.address-at.ensures.value)) tt tt c.tell-counter.ensures.told in
    refuses_one g.W.Watch.told k seat.own c.args.mine.now.me c.tell-counter.new.seat.me c.args.watch.now c.tell-counter.new.watch 1 0 false true 1 (omega arith) c.requires.sits came.0
    (c.tell-counter.ensures.refused c.if-counter.false) (runs_lives k s seat rest c.args.mine.now.me c.tell-counter.new.seat.me found came)
