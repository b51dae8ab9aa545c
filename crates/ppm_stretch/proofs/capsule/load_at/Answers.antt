use Rattle.std.proofs.Common.{false, ℕ, Bool, true, ◌∙◌, sym, ap, arith}
use Rattle.ppm_code.specs.Locations.{location_of}
use Rattle.ppm_step.specs.declared.ask.Want.TheVariants.{Loads as Wants}
use Rattle.ppm_step.specs.Frames.{Loads, cell_of}
use Rattle.ppm_step.specs.Standings.{running_if}
use Rattle.ppm_step.specs.Told.{place_of}
use Rattle.ppm_stretch.proofs.SteadyLemmas.{runs_one, runs_lives, refuses_one}
use Rattle.ppm_stretch.proofs.capsule.load_at.Goals as goal

pub returns-then-found-clause-loaded : goal.returns-then-found-clause-loaded
returns-then-found-clause-loaded g c = λ go stands.
    let rest = Loads (cell_of c.args.home.now (location_of c.args.location)) go in
    let at = ap (λ (b : Bool). running_if c.args.place.now rest b) c.if-not-location_is_there.ensures ∙ sym stands in
    let came = runs_one c.args.words.now.shared.key c.args.shape.now c.requires.table.1 c.args.place.now rest c.args.mine.now.me c.tell-found.new.seat.me (Wants c.address_of-at.result) c.tell-found.result.word
    at c.requires.sits (omega (arith, c.requires.place))
    (ap (λ (n : ℕ). Wants n) (sym c.address_of-at.ensures.value)) tt tt c.tell-found.ensures.told in
    (record { goes = came.0; shows = c.tell-found.ensures.shows c.if-found.true c.args.place.now.own c.requires.sits (ap place_of (sym at)) }, came.1)

pub returns-else-found-clause-loaded : goal.returns-else-found-clause-loaded
returns-else-found-clause-loaded g c = λ go stands.
    let rest = Loads (cell_of c.args.home.now (location_of c.args.location)) go in
    let at = ap (λ (b : Bool). running_if c.args.place.now rest b) c.if-not-location_is_there.ensures ∙ sym stands in
    let came = runs_one c.args.words.now.shared.key c.args.shape.now c.requires.table.1 c.args.place.now rest c.args.mine.now.me c.tell-found.new.seat.me (Wants c.address_of-at.result) c.tell-found.result.word
    at c.requires.sits (omega (arith, c.requires.place))
    (ap (λ (n : ℕ). Wants n) (sym c.address_of-at.ensures.value)) tt tt c.tell-found.ensures.told in
    refuses_one g.W.Watch.told c.args.words.now.shared.key c.args.place.now.own c.args.mine.now.me c.tell-found.new.seat.me c.args.watch.now c.tell-found.new.watch 1 0 false true 1 (omega arith) c.requires.sits came.0 (c.tell-found.ensures.refused c.if-found.false)
    (runs_lives c.args.words.now.shared.key c.args.shape.now c.args.place.now rest c.args.mine.now.me c.tell-found.new.seat.me c.tell-found.result.word came)
