use Rattle.std.proofs.Common.{◌≡◌, if◌then◌else◌, not, refl, sym, ap, arith}
use Rattle.ppm_step.specs.Locals.{standing_of}
use Rattle.ppm_step.specs.State.{is_done_at}
use Rattle.ppm_stretch.specs.declared.way.Steps.{Steps}
use Rattle.ppm_stretch.proofs.SteadyLemmas.{moves_none, row_makes, row_stops}
use Rattle.ppm_stretch.proofs.RowLemmas.{few_of_one}
use Rattle.ppm_stretch.proofs.rows.other_step.Goals as goal

pub one-step-requires-clause-lives : goal.one-step-requires-clause-lives
one-step-requires-clause-lives g c κs within = (c.if-is_choosing.ensures.free refl c.args.shape.now c.args.code.now).lives

pub one-step-requires-clause-due : goal.one-step-requires-clause-due
one-step-requires-clause-due g c κs within = (c.if-is_choosing.ensures.free refl c.args.shape.now c.args.code.now).due

pub one-step-requires-clause-seeks : goal.one-step-requires-clause-seeks
one-step-requires-clause-seeks g c κs within = (c.if-is_choosing.ensures.free refl c.args.shape.now c.args.code.now).seeks

pub returns-then-is_choosing-clause-makes : goal.returns-then-is_choosing-clause-makes
returns-then-is_choosing-clause-makes g c = λ fine.
    moves_none g.W.Watch.told c.args.words.now.shared.key c.args.local.now.own c.args.mine.now.me c.args.watch.now c.requires.sits

pub returns-then-is_choosing-clause-on : goal.returns-then-is_choosing-clause-on
returns-then-is_choosing-clause-on g c = λ fine none. c.if-is_choosing.ensures.choosing refl c.args.shape.now c.args.code.now

pub returns-then-step-clause-few : goal.returns-then-step-clause-few
returns-then-step-clause-few g c = few_of_one c.row_of_one.result c.is_work-works.result c.one-step.result.exchanged c.row_of_one.ensures

pub returns-then-step-clause-makes : goal.returns-then-step-clause-makes
returns-then-step-clause-makes g c =
    let works = c.is_work-works.result in
    row_makes g.W.Watch.told c.args.words.now.shared.key c.args.local.now.own c.args.mine.now.me c.one-step.new.mine.me c.args.watch.now c.one-step.new.watch
    1 (if works then 1 else 0) (if works then 0 else 1) c.one-step.result.exchanged c.row_of_one.result c.row_of_one.ensures
    (c.one-step.ensures.moves c.if-step.true works (sym (c.is_work-works.ensures c.args.shape.now c.args.code.now)))

pub returns-then-step-clause-stops : goal.returns-then-step-clause-stops
returns-then-step-clause-stops g c =
    let works = c.is_work-works.result in
    row_stops g.W.Watch.told c.args.words.now.shared.key c.args.local.now.own c.args.mine.now.me c.one-step.new.mine.me c.args.watch.now c.one-step.new.watch
    1 (if works then 1 else 0) (if works then 0 else 1) c.one-step.result.exchanged 1 c.row_of_one.result c.row_of_one.ensures

pub returns-then-step-clause-on : goal.returns-then-step-clause-on
returns-then-step-clause-on g c = λ fine none.
    let made : c.row_of_one.result.made ≡ 1 = ap (λ (s : Steps). s.made) c.row_of_one.ensures in
    absurd (omega (arith, made, none))

pub returns-else-step-clause-stops : goal.returns-else-step-clause-stops
returns-else-step-clause-stops g c = λ refused. record {
  lives = not (is_done_at (standing_of c.args.shape.now c.args.code.now c.one-step.new.local));
  behind = c.one-step.new.mine.me;
  refuses = c.one-step.ensures.refuses c.if-step.false;
  quits = c.give_way.ensures.quits;
}
