use Rattle.std.proofs.Common.{◌∙◌, ◌-◌, ℕ, sym, ap, subst, arith}
use Rattle.ppm_step.specs.declared.row.Seat.{Seat}
use Rattle.ppm_table.specs.Run.{stands_by, deeds_in, IsSeat}
use Rattle.ppm_stretch.specs.declared.way.FrameEnd.{FrameEnd}
use Rattle.ppm_stretch.specs.declared.way.FrameEnd.TheVariants.{Installed, Stands, Refused}
use Rattle.ppm_stretch.specs.declared.way.RowEnd.{RowEnd}
use Rattle.ppm_stretch.specs.Framing.{HasFramed}
use Rattle.ppm_stretch.specs.Scheduling.{HasRowed}
use Rattle.ppm_stretch.specs.Steady.{Lives}
use Rattle.ppm_stretch.proofs.SteadyLemmas.{refuses_both}
use Rattle.ppm_stretch.proofs.SchedulingLemmas.{frames_after, frames_few, none_stops, rows_after, sum_few}
use Rattle.ppm_stretch.proofs.scheduling.work_along.Goals as goal

pub loop-so_far-preserved-in-Installed : goal.loop-so_far-preserved-in-Installed
loop-so_far-preserved-in-Installed g c =
    let k = c.args.memory.now.words.now.shared.key in
    let i = c.loop-so_far.invariant in
    let own = c.args.local.now.own in
    let seat : Seat = record { own = own; place = c.args.from.now.place; restart = c.loop-so_far.at } in
    let rowed = c.row_at-rowed.result in
    let new = c.row_at-rowed.new in
    let sum = c.with_row-so_far.result in
    let came = subst (λ (end : RowEnd). HasRowed g.W.Watch.told k seat c.loop-so_far.mine.me new.mine.me
    c.loop-so_far.watch new.watch rowed.work rowed.exchanged end) c.in-Installed.is c.row_at-rowed.ensures.rowed in
    let few = sum_few c.loop-so_far.so_far sum rowed.work rowed.exchanged c.with_row-so_far.ensures i.1 i.2 in (
      omega (arith, few.0, i.0, c.loop-so_far-test.true, c.row_at-rowed.ensures.table.1),
      few.1,
      few.2,
      c.row_at-rowed.ensures.table.0 ∙ i.3,
      rows_after g.W.Watch.told k own c.args.mine.now.me c.loop-so_far.mine.me new.mine.me c.args.watch.now c.loop-so_far.watch new.watch
          c.loop-so_far.so_far sum rowed.work rowed.exchanged c.with_row-so_far.ensures i.4 came.0,
      came.1,
      came.2,
      few.3 ∙ i.7,
      i.8,
    )

pub withdraw-requires-clause-own : goal.withdraw-requires-clause-own
withdraw-requires-clause-own g c = omega (arith, c.loop-so_far.invariant.8, c.requires.seat.1)

pub withdraw-requires-clause-lives : goal.withdraw-requires-clause-lives
withdraw-requires-clause-lives g c =
    let k = c.args.memory.now.words.now.shared.key in
    let own = c.args.local.now.own in
    let seat : Seat = record { own = own; place = c.args.from.now.place; restart = c.loop-so_far.at } in
    let rowed = c.row_at-rowed.result in
    let new = c.row_at-rowed.new in
    let came = subst (λ (end : RowEnd). HasRowed g.W.Watch.told k seat c.loop-so_far.mine.me new.mine.me
    c.loop-so_far.watch new.watch rowed.work rowed.exchanged end) c.in-Refused.is c.row_at-rowed.ensures.rowed in
    subst (λ (n : ℕ). Lives k n new.mine.me c.in-Refused.lives) (sym c.loop-so_far.invariant.8) came.stays

pub returns-in-Refused-clause-stops : goal.returns-in-Refused-clause-stops
returns-in-Refused-clause-stops g c = λ refused.
    let k = c.args.memory.now.words.now.shared.key in
    let i = c.loop-so_far.invariant in
    let own = c.args.local.now.own in
    let seat : Seat = record { own = own; place = c.args.from.now.place; restart = c.loop-so_far.at } in
    let rowed = c.row_at-rowed.result in
    let new = c.row_at-rowed.new in
    let so_far = c.loop-so_far.so_far in
    let came = subst (λ (end : RowEnd). HasRowed g.W.Watch.told k seat c.loop-so_far.mine.me new.mine.me
    c.loop-so_far.watch new.watch rowed.work rowed.exchanged end) c.in-Refused.is c.row_at-rowed.ensures.rowed in
    record {
      lives = c.in-Refused.lives;
      behind = new.mine.me;
      refuses = refuses_both g.W.Watch.told k own c.args.mine.now.me c.loop-so_far.mine.me new.mine.me c.args.watch.now c.loop-so_far.watch new.watch
          so_far.made so_far.work so_far.looks so_far.exchanged c.in-Refused.lives 16 c.args.most (omega (arith, i.0, c.loop-so_far-test.true)) i.4 came;
      quits = c.withdraw.ensures.quits;
    }

pub returns-in-Refused-clause-table : goal.returns-in-Refused-clause-table
returns-in-Refused-clause-table g c = (
  c.withdraw.ensures.table ∙ c.row_at-rowed.ensures.table.0 ∙ c.loop-so_far.invariant.3,
  subst (λ (n : ℕ). IsSeat n c.withdraw.new.mine.me) c.loop-so_far.invariant.8 c.withdraw.ensures.sits,
)

pub returns-in-Refused-clause-stands_on : goal.returns-in-Refused-clause-stands_on
returns-in-Refused-clause-stands_on g c =
    c.withdraw.ensures.stands ∙ ap (λ (n : ℕ). stands_by c.args.memory.now.words.now.shared.key n (deeds_in c.withdraw.new.mine.me.0)) c.loop-so_far.invariant.8

pub returns-in-Refused-clause-holds : goal.returns-in-Refused-clause-holds
returns-in-Refused-clause-holds g c = (c.withdraw.ensures.holds, c.withdraw.ensures.own_stays ∙ c.loop-so_far.invariant.8)

pub wait_broken-requires : goal.wait_broken-requires
wait_broken-requires g c = record { carrier = omega (arith, c.loop-so_far.invariant.8, c.requires.seat.1); place = c.requires.seat.2 }

pub returns-in-Broken : goal.returns-in-Broken
returns-in-Broken g c =
    let k = c.args.memory.now.words.now.shared.key in
    let i = c.loop-so_far.invariant in
    let own = c.args.local.now.own in
    let seat : Seat = record { own = own; place = c.args.from.now.place; restart = c.loop-so_far.at } in
    let rowed = c.row_at-rowed.result in
    let new = c.row_at-rowed.new in
    let sum = c.with_row-so_far.result in
    let came = subst (λ (end : RowEnd). HasRowed g.W.Watch.told k seat c.loop-so_far.mine.me new.mine.me
    c.loop-so_far.watch new.watch rowed.work rowed.exchanged end) c.in-Broken.is c.row_at-rowed.ensures.rowed in
    let few = sum_few c.loop-so_far.so_far sum rowed.work rowed.exchanged c.with_row-so_far.ensures i.1 i.2 in
    let moves = rows_after g.W.Watch.told k own c.args.mine.now.me c.loop-so_far.mine.me new.mine.me c.args.watch.now c.loop-so_far.watch new.watch
    c.loop-so_far.so_far sum rowed.work rowed.exchanged c.with_row-so_far.ensures i.4 came.0 in
    record {
      table = (c.row_at-rowed.ensures.table.0 ∙ i.3, came.0.goes.sits);
      few = (omega (arith, few.0, i.0, c.loop-so_far-test.true, c.row_at-rowed.ensures.table.1), few.1, few.2);
      makes = λ _. moves;
      stops = none_stops g.W.Watch.told k own c.args.mine.now.me new.mine.me c.args.watch.now new.watch c.args.most sum (few.3 ∙ i.7);
      stands_on = c.wait_broken.ensures.stands ∙ sym came.1;
      holds = (c.wait_broken.ensures.holds, c.wait_broken.ensures.own_stays ∙ i.8);
    }

pub returns-in-Over : goal.returns-in-Over
returns-in-Over g c =
    let k = c.args.memory.now.words.now.shared.key in
    let i = c.loop-so_far.invariant in
    let own = c.args.local.now.own in
    let seat : Seat = record { own = own; place = c.args.from.now.place; restart = c.loop-so_far.at } in
    let rowed = c.row_at-rowed.result in
    let new = c.row_at-rowed.new in
    let sum = c.with_row-so_far.result in
    let came = subst (λ (end : RowEnd). HasRowed g.W.Watch.told k seat c.loop-so_far.mine.me new.mine.me
    c.loop-so_far.watch new.watch rowed.work rowed.exchanged end) c.in-Over.is c.row_at-rowed.ensures.rowed in
    let few = sum_few c.loop-so_far.so_far sum rowed.work rowed.exchanged c.with_row-so_far.ensures i.1 i.2 in
    let moves = rows_after g.W.Watch.told k own c.args.mine.now.me c.loop-so_far.mine.me new.mine.me c.args.watch.now c.loop-so_far.watch new.watch
    c.loop-so_far.so_far sum rowed.work rowed.exchanged c.with_row-so_far.ensures i.4 came.0 in
    record {
      table = (c.row_at-rowed.ensures.table.0 ∙ i.3, came.0.goes.sits);
      few = (omega (arith, few.0, i.0, c.loop-so_far-test.true, c.row_at-rowed.ensures.table.1), few.1, few.2);
      makes = λ _. moves;
      stops = none_stops g.W.Watch.told k own c.args.mine.now.me new.mine.me c.args.watch.now new.watch c.args.most sum (few.3 ∙ i.7);
      stands_on = sym came.1;
      holds = (record { own = omega (arith, i.8, c.requires.seat.1); stand = tt }, i.8);
    }

pub withdraw-requires-in-Refused-end-2-clause-lives : goal.withdraw-requires-in-Refused-end-2-clause-lives
withdraw-requires-in-Refused-end-2-clause-lives g c =
    let told = g.W.Watch.told in
    let k = c.args.memory.now.words.now.shared.key in
    let s = c.args.memory.now.shape in
    let code = c.args.code.now in
    let i = c.loop-so_far.invariant in
    let own = c.args.local.now.own in
    let place = c.args.from.now.place in
    let went = c.rounds-framed in
    let new = went.new in
    let r = went.result in
    let so_far = c.loop-so_far.so_far in
    let came = subst (λ (n : ℕ). HasFramed told k s code n place c.loop-so_far.mine.me new.mine.me c.loop-so_far.watch new.watch new.local
    (c.args.most - so_far.made) r.made r.work r.looks (Refused c.in-Refused-end-2.lives)) i.8
    (subst (λ (end : FrameEnd). HasFramed told k s code c.loop-so_far.local.own place c.loop-so_far.mine.me new.mine.me c.loop-so_far.watch new.watch new.local
    (c.args.most - so_far.made) r.made r.work r.looks end) c.in-Refused-end-2.is went.ensures.framed) in
    subst (λ (n : ℕ). Lives k n new.mine.me c.in-Refused-end-2.lives) (sym (went.ensures.own_stays ∙ i.8)) came.stays

pub returns-in-Refused-end-2-clause-stops : goal.returns-in-Refused-end-2-clause-stops
returns-in-Refused-end-2-clause-stops g c = λ refused.
    let told = g.W.Watch.told in
    let k = c.args.memory.now.words.now.shared.key in
    let s = c.args.memory.now.shape in
    let code = c.args.code.now in
    let i = c.loop-so_far.invariant in
    let own = c.args.local.now.own in
    let place = c.args.from.now.place in
    let went = c.rounds-framed in
    let new = went.new in
    let r = went.result in
    let so_far = c.loop-so_far.so_far in
    let came = subst (λ (n : ℕ). HasFramed told k s code n place c.loop-so_far.mine.me new.mine.me c.loop-so_far.watch new.watch new.local
    (c.args.most - so_far.made) r.made r.work r.looks (Refused c.in-Refused-end-2.lives)) i.8
    (subst (λ (end : FrameEnd). HasFramed told k s code c.loop-so_far.local.own place c.loop-so_far.mine.me new.mine.me c.loop-so_far.watch new.watch new.local
    (c.args.most - so_far.made) r.made r.work r.looks end) c.in-Refused-end-2.is went.ensures.framed) in
    record {
      lives = c.in-Refused-end-2.lives;
      behind = new.mine.me;
      refuses = refuses_both told k own c.args.mine.now.me c.loop-so_far.mine.me new.mine.me c.args.watch.now c.loop-so_far.watch new.watch
          so_far.made so_far.work so_far.looks so_far.exchanged c.in-Refused-end-2.lives (c.args.most - so_far.made) c.args.most (omega (arith, i.0)) i.4 came;
      quits = c.withdraw-in-Refused-end-2.ensures.quits;
    }

pub with_frames-so_far-requires : goal.with_frames-so_far-requires
with_frames-so_far-requires g c =
    let i = c.loop-so_far.invariant in
    let few = c.rounds-framed.ensures.few in
    record { few = (omega (arith, i.0, few.0, c.ranges.most.fits), i.1, i.2, few.1, few.2) }

pub wait_at-requires : goal.wait_at-requires
wait_at-requires g c =
    let told = g.W.Watch.told in
    let k = c.args.memory.now.words.now.shared.key in
    let s = c.args.memory.now.shape in
    let code = c.args.code.now in
    let i = c.loop-so_far.invariant in
    let own = c.args.local.now.own in
    let place = c.args.from.now.place in
    let went = c.rounds-framed in
    let new = went.new in
    let r = went.result in
    let so_far = c.loop-so_far.so_far in
    let came = subst (λ (n : ℕ). HasFramed told k s code n place c.loop-so_far.mine.me new.mine.me c.loop-so_far.watch new.watch new.local
    (c.args.most - so_far.made) r.made r.work r.looks (Installed c.in-Installed-end.next)) i.8
    (subst (λ (end : FrameEnd). HasFramed told k s code c.loop-so_far.local.own place c.loop-so_far.mine.me new.mine.me c.loop-so_far.watch new.watch new.local
    (c.args.most - so_far.made) r.made r.work r.looks end) c.in-Installed-end.is went.ensures.framed) in
    record { carrier = omega (arith, went.ensures.own_stays, i.8, c.requires.seat.1); place = c.requires.seat.2; restart = came.2 }

pub returns-then-framed-eq0 : goal.returns-then-framed-eq0
returns-then-framed-eq0 g c =
    let told = g.W.Watch.told in
    let k = c.args.memory.now.words.now.shared.key in
    let s = c.args.memory.now.shape in
    let code = c.args.code.now in
    let i = c.loop-so_far.invariant in
    let own = c.args.local.now.own in
    let place = c.args.from.now.place in
    let went = c.rounds-framed in
    let new = went.new in
    let r = went.result in
    let so_far = c.loop-so_far.so_far in
    let came = subst (λ (n : ℕ). HasFramed told k s code n place c.loop-so_far.mine.me new.mine.me c.loop-so_far.watch new.watch new.local
    (c.args.most - so_far.made) r.made r.work r.looks (Installed c.in-Installed-end.next)) i.8
    (subst (λ (end : FrameEnd). HasFramed told k s code c.loop-so_far.local.own place c.loop-so_far.mine.me new.mine.me c.loop-so_far.watch new.watch new.local
    (c.args.most - so_far.made) r.made r.work r.looks end) c.in-Installed-end.is went.ensures.framed) in
    let sum = c.with_frames-so_far.result in
    let few = frames_few so_far sum r.made r.work r.looks c.with_frames-so_far.ensures i.1 i.2 went.ensures.few.1 went.ensures.few.2 in
    let moves = frames_after told k own c.args.mine.now.me c.loop-so_far.mine.me new.mine.me c.args.watch.now c.loop-so_far.watch new.watch
    so_far sum r.made r.work r.looks c.with_frames-so_far.ensures i.4 came.0 in
    record {
      table = (went.ensures.table ∙ i.3, came.0.goes.sits);
      few = (omega (arith, few.0, i.0, went.ensures.few.0), few.1, few.2);
      makes = λ _. moves;
      stops = none_stops told k own c.args.mine.now.me new.mine.me c.args.watch.now new.watch c.args.most sum (few.3 ∙ i.7);
      stands_on = c.wait_at.ensures.stands ∙ sym came.1;
      holds = (c.wait_at.ensures.holds, c.wait_at.ensures.own_stays ∙ went.ensures.own_stays ∙ i.8);
    }

pub loop-so_far-preserved : goal.loop-so_far-preserved
loop-so_far-preserved g c =
    let told = g.W.Watch.told in
    let k = c.args.memory.now.words.now.shared.key in
    let s = c.args.memory.now.shape in
    let code = c.args.code.now in
    let i = c.loop-so_far.invariant in
    let own = c.args.local.now.own in
    let place = c.args.from.now.place in
    let went = c.rounds-framed in
    let new = went.new in
    let r = went.result in
    let so_far = c.loop-so_far.so_far in
    let came = subst (λ (n : ℕ). HasFramed told k s code n place c.loop-so_far.mine.me new.mine.me c.loop-so_far.watch new.watch new.local
    (c.args.most - so_far.made) r.made r.work r.looks (Installed c.in-Installed-end.next)) i.8
    (subst (λ (end : FrameEnd). HasFramed told k s code c.loop-so_far.local.own place c.loop-so_far.mine.me new.mine.me c.loop-so_far.watch new.watch new.local
    (c.args.most - so_far.made) r.made r.work r.looks end) c.in-Installed-end.is went.ensures.framed) in
    let sum = c.with_frames-so_far.result in
    let few = frames_few so_far sum r.made r.work r.looks c.with_frames-so_far.ensures i.1 i.2 went.ensures.few.1 went.ensures.few.2 in
    let moves = frames_after told k own c.args.mine.now.me c.loop-so_far.mine.me new.mine.me c.args.watch.now c.loop-so_far.watch new.watch
    so_far sum r.made r.work r.looks c.with_frames-so_far.ensures i.4 came.0 in (
      omega (arith, few.0, i.0, went.ensures.few.0),
      few.1,
      few.2,
      went.ensures.table ∙ i.3,
      moves,
      came.1,
      came.2,
      few.3 ∙ i.7,
      went.ensures.own_stays ∙ i.8,
    )

pub returns-in-Stands : goal.returns-in-Stands
returns-in-Stands g c =
    let told = g.W.Watch.told in
    let k = c.args.memory.now.words.now.shared.key in
    let s = c.args.memory.now.shape in
    let code = c.args.code.now in
    let i = c.loop-so_far.invariant in
    let own = c.args.local.now.own in
    let place = c.args.from.now.place in
    let went = c.rounds-framed in
    let new = went.new in
    let r = went.result in
    let so_far = c.loop-so_far.so_far in
    let came = subst (λ (n : ℕ). HasFramed told k s code n place c.loop-so_far.mine.me new.mine.me c.loop-so_far.watch new.watch new.local
    (c.args.most - so_far.made) r.made r.work r.looks Stands) i.8
    (subst (λ (end : FrameEnd). HasFramed told k s code c.loop-so_far.local.own place c.loop-so_far.mine.me new.mine.me c.loop-so_far.watch new.watch new.local
    (c.args.most - so_far.made) r.made r.work r.looks end) c.in-Stands.is went.ensures.framed) in
    let sum = c.with_frames-so_far.result in
    let few = frames_few so_far sum r.made r.work r.looks c.with_frames-so_far.ensures i.1 i.2 went.ensures.few.1 went.ensures.few.2 in
    let moves = frames_after told k own c.args.mine.now.me c.loop-so_far.mine.me new.mine.me c.args.watch.now c.loop-so_far.watch new.watch
    so_far sum r.made r.work r.looks c.with_frames-so_far.ensures i.4 came.0 in
    record {
      table = (went.ensures.table ∙ i.3, came.0.goes.sits);
      few = (omega (arith, few.0, i.0, went.ensures.few.0), few.1, few.2);
      makes = λ _. moves;
      stops = none_stops told k own c.args.mine.now.me new.mine.me c.args.watch.now new.watch c.args.most sum (few.3 ∙ i.7);
      stands_on = came.1;
      holds = (came.2, went.ensures.own_stays ∙ i.8);
    }

pub unreachable-requires-in-Refused-end-3 : goal.unreachable-requires-in-Refused-end-3
unreachable-requires-in-Refused-end-3 g c = c.in_default-end.not-Refused c.in-Refused-end-3.field-0 c.in-Refused-end-3.is

pub returns-clause-holds : goal.returns-clause-holds
returns-clause-holds g c = (c.wait_at-2.ensures.holds, c.wait_at-2.ensures.own_stays ∙ c.loop-so_far.invariant.8)
