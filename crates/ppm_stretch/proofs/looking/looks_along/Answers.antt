use Rattle.std.proofs.Common.{◌∙◌, ◌+◌, ◌<◌, ℕ, true, false, refl, sym, ap, subst, arith}
use Rattle.ppm_step.specs.Standings.{IsWithin, stands}
use Rattle.ppm_step.specs.Told.{place_of}
use Rattle.ppm_step.specs.declared.ask.Want.TheVariants.{Loads}
use Rattle.ppm_step.specs.declared.row.Row.{Row}
use Rattle.ppm_step.specs.declared.row.Row.TheVariants.{Now}
use Rattle.ppm_step.specs.declared.row.Then.TheVariants.{Load}
use Rattle.ppm_stretch.specs.Steady.{Lives}
use Rattle.ppm_stretch.proofs.LookingLemmas.{fine_is, fine_not, look_lives, look_refused, looks_one, stands_at}
use Rattle.ppm_stretch.proofs.SeekingLemmas.{to_load}
use Rattle.ppm_stretch.proofs.SteadyLemmas.{moves_none, moves_then, row_makes, row_stops}
use Rattle.ppm_stretch.proofs.looking.looks_along.Goals as goal

pub loop-made-init : goal.loop-made-init
loop-made-init g c = (
  omega arith,
  refl,
  moves_none g.W.Watch.told c.args.words.now.shared.key c.args.local.now.own c.args.mine.now.me c.args.watch.now c.requires.sits,
  c.requires.stands,
  refl,
  c.requires.looks,
)

pub tell-found-requires-clause-steps : goal.tell-found-requires-clause-steps
tell-found-requires-clause-steps g c κs within =
    let s = c.args.shape.now in
    let place = c.args.place.now in
    let point = c.loop-made.point in
    let i = c.loop-made.invariant in
    let some : 0 < s.processors = let h = c.requires.seat.0.own in omega (arith, h) in
    to_load c.args.words.now.shared.key s c.requires.table.1 c.args.local.now.own 0 c.look_address-at.result c.loop-made.mine.me
    (IsWithin place (Now (Load point))) i.2.goes.sits i.3 (λ e. cc) (some, λ _. refl) (ap (λ (n : ℕ). Loads n) (sym c.look_address-at.ensures.value))

pub loop-made-preserved : goal.loop-made-preserved
loop-made-preserved g c =
    let k = c.args.words.now.shared.key in
    let s = c.args.shape.now in
    let code = c.args.code.now in
    let own = c.args.local.now.own in
    let place = c.args.place.now in
    let i = c.loop-made.invariant in
    let made = c.loop-made.made in
    let new = c.tell-found.new in
    let some : 0 < s.processors = let h = c.requires.seat.0.own in omega (arith, h) in
    let came = looks_one k s code c.requires.table.1 c.requires.table.2 place own c.requires.seat.1 some c.loop-made.point i.5 c.loop-made.mine.me new.seat.me
    c.look_address-at.result c.tell-found.result.word c.look_address-at.ensures.value i.2.goes.sits i.3 c.tell-found.ensures.told in
    let next = c.in-Some.ensures in (
      omega (arith, c.loop-made-test.true),
      c.tell-found.ensures.table ∙ i.1,
      moves_then g.W.Watch.told k own c.args.mine.now.me c.loop-made.mine.me new.seat.me c.args.watch.now c.loop-made.watch new.watch
          made 1 0 0 made 1 (made + 1) 0 (made + 1) refl refl refl i.2
          (record { goes = came.0; shows = c.tell-found.ensures.shows (fine_is _ c.if-not-found.false) own i.2.goes.sits (ap place_of i.3) }),
      came.1 ∙ ap (λ (r : Row). stands s code place r) next.1 ∙ stands_at s code place _ next.0,
      i.4,
      next.0,
    )

pub withdraw-requires-clause-lives : goal.withdraw-requires-clause-lives
withdraw-requires-clause-lives g c =
    let k = c.args.words.now.shared.key in
    let s = c.args.shape.now in
    let code = c.args.code.now in
    let own = c.args.local.now.own in
    let place = c.args.place.now in
    let i = c.loop-made.invariant in
    let made = c.loop-made.made in
    let new = c.tell-found.new in
    let some : 0 < s.processors = let h = c.requires.seat.0.own in omega (arith, h) in
    let came = looks_one k s code c.requires.table.1 c.requires.table.2 place own c.requires.seat.1 some c.loop-made.point i.5 c.loop-made.mine.me new.seat.me
    c.look_address-at.result c.tell-found.result.word c.look_address-at.ensures.value i.2.goes.sits i.3 c.tell-found.ensures.told in
    subst (λ (n : ℕ). Lives k n new.seat.me true) (sym i.4)
    (look_lives k s code place own c.loop-made.point c.loop-made.mine.me new.seat.me c.tell-found.result.word came)

pub returns-then-not-found-clause-stops : goal.returns-then-not-found-clause-stops
returns-then-not-found-clause-stops g c = λ refused.
    let k = c.args.words.now.shared.key in
    let s = c.args.shape.now in
    let code = c.args.code.now in
    let own = c.args.local.now.own in
    let place = c.args.place.now in
    let i = c.loop-made.invariant in
    let made = c.loop-made.made in
    let new = c.tell-found.new in
    let some : 0 < s.processors = let h = c.requires.seat.0.own in omega (arith, h) in
    let came = looks_one k s code c.requires.table.1 c.requires.table.2 place own c.requires.seat.1 some c.loop-made.point i.5 c.loop-made.mine.me new.seat.me
    c.look_address-at.result c.tell-found.result.word c.look_address-at.ensures.value i.2.goes.sits i.3 c.tell-found.ensures.told in
    record {
      lives = true;
      behind = new.seat.me;
      refuses = look_refused g.W.Watch.told k own c.args.mine.now.me c.loop-made.mine.me new.seat.me c.args.watch.now c.loop-made.watch new.watch made c.args.most
          c.loop-made-test.true i.2 came.0 (c.tell-found.ensures.refused (fine_not _ c.if-not-found.true))
          (look_lives k s code place own c.loop-made.point c.loop-made.mine.me new.seat.me c.tell-found.result.word came);
      quits = c.withdraw.ensures.quits;
    }

pub returns-in_default-clause-makes : goal.returns-in_default-clause-makes
returns-in_default-clause-makes g c =
    let k = c.args.words.now.shared.key in
    let s = c.args.shape.now in
    let code = c.args.code.now in
    let own = c.args.local.now.own in
    let place = c.args.place.now in
    let i = c.loop-made.invariant in
    let made = c.loop-made.made in
    let new = c.tell-found.new in
    let some : 0 < s.processors = let h = c.requires.seat.0.own in omega (arith, h) in
    let came = looks_one k s code c.requires.table.1 c.requires.table.2 place own c.requires.seat.1 some c.loop-made.point i.5 c.loop-made.mine.me new.seat.me
    c.look_address-at.result c.tell-found.result.word c.look_address-at.ensures.value i.2.goes.sits i.3 c.tell-found.ensures.told in
    row_makes g.W.Watch.told k own c.args.mine.now.me new.seat.me c.args.watch.now new.watch (made + 1) 0 (made + 1) false c.row.result c.row.ensures
    (moves_then g.W.Watch.told k own c.args.mine.now.me c.loop-made.mine.me new.seat.me c.args.watch.now c.loop-made.watch new.watch
    made 1 0 0 made 1 (made + 1) 0 (made + 1) refl refl refl i.2
    (record { goes = came.0; shows = c.tell-found.ensures.shows (fine_is _ c.if-not-found.false) own i.2.goes.sits (ap place_of i.3) }))

pub returns-in_default-clause-stops : goal.returns-in_default-clause-stops
returns-in_default-clause-stops g c =
    row_stops g.W.Watch.told c.args.words.now.shared.key c.args.local.now.own c.args.mine.now.me c.tell-found.new.seat.me c.args.watch.now c.tell-found.new.watch
    (c.loop-made.made + 1) 0 (c.loop-made.made + 1) false c.args.most c.row.result c.row.ensures

pub returns-in_default-clause-stands_on : goal.returns-in_default-clause-stands_on
returns-in_default-clause-stands_on g c =
    let k = c.args.words.now.shared.key in
    let s = c.args.shape.now in
    let code = c.args.code.now in
    let own = c.args.local.now.own in
    let place = c.args.place.now in
    let i = c.loop-made.invariant in
    let made = c.loop-made.made in
    let new = c.tell-found.new in
    let some : 0 < s.processors = let h = c.requires.seat.0.own in omega (arith, h) in
    let came = looks_one k s code c.requires.table.1 c.requires.table.2 place own c.requires.seat.1 some c.loop-made.point i.5 c.loop-made.mine.me new.seat.me
    c.look_address-at.result c.tell-found.result.word c.look_address-at.ensures.value i.2.goes.sits i.3 c.tell-found.ensures.told in
    c.stand_after.ensures.stands ∙ sym came.1
