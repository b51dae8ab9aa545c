use Rattle.std.proofs.Common.{false, true, ◌≡◌, ◌∙◌, ◌+◌, sym, ap, subst}
use Rattle.ppm_step.specs.declared.row.Seat.{Seat}
use Rattle.ppm_step.specs.Frames.{ending}
use Rattle.ppm_step.specs.Standings.{running}
use Rattle.ppm_stretch.specs.declared.way.EndStep.{EndStep}
use Rattle.ppm_stretch.specs.Ending.{HasMadeEnds}
use Rattle.ppm_stretch.proofs.SteadyLemmas.{row_makes, row_stops}
use Rattle.ppm_stretch.proofs.frames.ends.Goals as goal

pub end_along-ended-requires-clause-stands : goal.end_along-ended-requires-clause-stands
end_along-ended-requires-clause-stands g c κs within =
    let under_way = c.args.under_way in
    let seat : Seat = record { own = c.args.local.now.own; place = under_way.seat.place; restart = under_way.seat.restart } in
    let same : under_way.seat ≡ seat = λ i. record { own = c.requires.own i; place = under_way.seat.place; restart = under_way.seat.restart } in
    c.requires.stands ∙ ap (λ (x : Seat). running c.args.shape.now x (ending c.args.code.now under_way.home c.args.end c.args.from)) same

pub returns-in-Stored-clause-makes : goal.returns-in-Stored-clause-makes
returns-in-Stored-clause-makes g c =
    let told = g.W.Watch.told in
    let k = c.args.words.now.shared.key in
    let s = c.args.shape.now in
    let under_way = c.args.under_way in
    let seat : Seat = record { own = c.args.local.now.own; place = under_way.seat.place; restart = under_way.seat.restart } in
    let went = c.end_along-ended in
    let made = went.result.made in
    let left = ending c.args.code.now under_way.home c.args.end (c.args.from + made) in
    let ended = subst (λ (e : EndStep). HasMadeEnds told k s seat left c.args.mine.now.me went.new.mine.me c.args.watch.now went.new.watch c.args.most made e)
    c.in-Stored.is went.ensures.ended in
    row_makes told k seat.own c.args.mine.now.me went.new.mine.me c.args.watch.now went.new.watch made made 0 false c.row.result c.row.ensures ended.0

pub returns-in-Stored-clause-stops : goal.returns-in-Stored-clause-stops
returns-in-Stored-clause-stops g c =
    let went = c.end_along-ended in
    row_stops g.W.Watch.told c.args.words.now.shared.key c.args.local.now.own c.args.mine.now.me went.new.mine.me c.args.watch.now went.new.watch
    went.result.made went.result.made 0 false c.args.most c.row.result c.row.ensures

pub returns-in-Stored-clause-sits_on : goal.returns-in-Stored-clause-sits_on
returns-in-Stored-clause-sits_on g c =
    let told = g.W.Watch.told in
    let k = c.args.words.now.shared.key in
    let s = c.args.shape.now in
    let under_way = c.args.under_way in
    let seat : Seat = record { own = c.args.local.now.own; place = under_way.seat.place; restart = under_way.seat.restart } in
    let went = c.end_along-ended in
    let made = went.result.made in
    let left = ending c.args.code.now under_way.home c.args.end (c.args.from + made) in
    let ended = subst (λ (e : EndStep). HasMadeEnds told k s seat left c.args.mine.now.me went.new.mine.me c.args.watch.now went.new.watch c.args.most made e)
    c.in-Stored.is went.ensures.ended in
    ended.0.goes.sits

pub returns-in-Stored-clause-stands_on : goal.returns-in-Stored-clause-stands_on
returns-in-Stored-clause-stands_on g c =
    let told = g.W.Watch.told in
    let k = c.args.words.now.shared.key in
    let s = c.args.shape.now in
    let under_way = c.args.under_way in
    let seat : Seat = record { own = c.args.local.now.own; place = under_way.seat.place; restart = under_way.seat.restart } in
    let went = c.end_along-ended in
    let made = went.result.made in
    let left = ending c.args.code.now under_way.home c.args.end (c.args.from + made) in
    let ended = subst (λ (e : EndStep). HasMadeEnds told k s seat left c.args.mine.now.me went.new.mine.me c.args.watch.now went.new.watch c.args.most made e)
    c.in-Stored.is went.ensures.ended in
    c.wait_ending.ensures.stands ∙ sym ended.1

pub returns-in-Installed-clause-makes : goal.returns-in-Installed-clause-makes
returns-in-Installed-clause-makes g c =
    let told = g.W.Watch.told in
    let k = c.args.words.now.shared.key in
    let s = c.args.shape.now in
    let under_way = c.args.under_way in
    let seat : Seat = record { own = c.args.local.now.own; place = under_way.seat.place; restart = under_way.seat.restart } in
    let went = c.end_along-ended in
    let made = went.result.made in
    let left = ending c.args.code.now under_way.home c.args.end (c.args.from + made) in
    let ended = subst (λ (e : EndStep). HasMadeEnds told k s seat left c.args.mine.now.me went.new.mine.me c.args.watch.now went.new.watch c.args.most made e)
    c.in-Installed.is went.ensures.ended in
    row_makes told k seat.own c.args.mine.now.me went.new.mine.me c.args.watch.now went.new.watch made made 0 false c.row-in-Installed.result c.row-in-Installed.ensures ended.0

pub returns-in-Installed-clause-stops : goal.returns-in-Installed-clause-stops
returns-in-Installed-clause-stops g c =
    let went = c.end_along-ended in
    row_stops g.W.Watch.told c.args.words.now.shared.key c.args.local.now.own c.args.mine.now.me went.new.mine.me c.args.watch.now went.new.watch
    went.result.made went.result.made 0 false c.args.most c.row-in-Installed.result c.row-in-Installed.ensures

pub returns-in-Installed-clause-sits_on : goal.returns-in-Installed-clause-sits_on
returns-in-Installed-clause-sits_on g c =
    let told = g.W.Watch.told in
    let k = c.args.words.now.shared.key in
    let s = c.args.shape.now in
    let under_way = c.args.under_way in
    let seat : Seat = record { own = c.args.local.now.own; place = under_way.seat.place; restart = under_way.seat.restart } in
    let went = c.end_along-ended in
    let made = went.result.made in
    let left = ending c.args.code.now under_way.home c.args.end (c.args.from + made) in
    let ended = subst (λ (e : EndStep). HasMadeEnds told k s seat left c.args.mine.now.me went.new.mine.me c.args.watch.now went.new.watch c.args.most made e)
    c.in-Installed.is went.ensures.ended in
    ended.0.goes.sits

pub returns-in-Installed-clause-stands_on : goal.returns-in-Installed-clause-stands_on
returns-in-Installed-clause-stands_on g c =
    let told = g.W.Watch.told in
    let k = c.args.words.now.shared.key in
    let s = c.args.shape.now in
    let under_way = c.args.under_way in
    let seat : Seat = record { own = c.args.local.now.own; place = under_way.seat.place; restart = under_way.seat.restart } in
    let went = c.end_along-ended in
    let made = went.result.made in
    let left = ending c.args.code.now under_way.home c.args.end (c.args.from + made) in
    let ended = subst (λ (e : EndStep). HasMadeEnds told k s seat left c.args.mine.now.me went.new.mine.me c.args.watch.now went.new.watch c.args.most made e)
    c.in-Installed.is went.ensures.ended in
    c.wait_at.ensures.stands ∙ sym ended.1

pub returns-in-Gone-clause-makes : goal.returns-in-Gone-clause-makes
returns-in-Gone-clause-makes g c =
    let told = g.W.Watch.told in
    let k = c.args.words.now.shared.key in
    let s = c.args.shape.now in
    let under_way = c.args.under_way in
    let seat : Seat = record { own = c.args.local.now.own; place = under_way.seat.place; restart = under_way.seat.restart } in
    let went = c.end_along-ended in
    let made = went.result.made in
    let left = ending c.args.code.now under_way.home c.args.end (c.args.from + made) in
    let ended = subst (λ (e : EndStep). HasMadeEnds told k s seat left c.args.mine.now.me went.new.mine.me c.args.watch.now went.new.watch c.args.most made e)
    c.in-Gone.is went.ensures.ended in
    row_makes told k seat.own c.args.mine.now.me went.new.mine.me c.args.watch.now went.new.watch made made 0 false c.row-in-Gone.result c.row-in-Gone.ensures ended.0

pub returns-in-Gone-clause-stops : goal.returns-in-Gone-clause-stops
returns-in-Gone-clause-stops g c =
    let went = c.end_along-ended in
    row_stops g.W.Watch.told c.args.words.now.shared.key c.args.local.now.own c.args.mine.now.me went.new.mine.me c.args.watch.now went.new.watch
    went.result.made went.result.made 0 false c.args.most c.row-in-Gone.result c.row-in-Gone.ensures

pub returns-in-Gone-clause-sits_on : goal.returns-in-Gone-clause-sits_on
returns-in-Gone-clause-sits_on g c =
    let told = g.W.Watch.told in
    let k = c.args.words.now.shared.key in
    let s = c.args.shape.now in
    let under_way = c.args.under_way in
    let seat : Seat = record { own = c.args.local.now.own; place = under_way.seat.place; restart = under_way.seat.restart } in
    let went = c.end_along-ended in
    let made = went.result.made in
    let left = ending c.args.code.now under_way.home c.args.end (c.args.from + made) in
    let ended = subst (λ (e : EndStep). HasMadeEnds told k s seat left c.args.mine.now.me went.new.mine.me c.args.watch.now went.new.watch c.args.most made e)
    c.in-Gone.is went.ensures.ended in
    ended.0.goes.sits

pub returns-in-Gone-clause-stands_on : goal.returns-in-Gone-clause-stands_on
returns-in-Gone-clause-stands_on g c =
    let told = g.W.Watch.told in
    let k = c.args.words.now.shared.key in
    let s = c.args.shape.now in
    let under_way = c.args.under_way in
    let seat : Seat = record { own = c.args.local.now.own; place = under_way.seat.place; restart = under_way.seat.restart } in
    let went = c.end_along-ended in
    let made = went.result.made in
    let left = ending c.args.code.now under_way.home c.args.end (c.args.from + made) in
    let ended = subst (λ (e : EndStep). HasMadeEnds told k s seat left c.args.mine.now.me went.new.mine.me c.args.watch.now went.new.watch c.args.most made e)
    c.in-Gone.is went.ensures.ended in
    c.wait_broken.ensures.stands ∙ sym ended.1

pub wait_at-requires-clause-restart : goal.wait_at-requires-clause-restart
wait_at-requires-clause-restart g c =
    let told = g.W.Watch.told in
    let k = c.args.words.now.shared.key in
    let s = c.args.shape.now in
    let under_way = c.args.under_way in
    let seat : Seat = record { own = c.args.local.now.own; place = under_way.seat.place; restart = under_way.seat.restart } in
    let went = c.end_along-ended in
    let made = went.result.made in
    let left = ending c.args.code.now under_way.home c.args.end (c.args.from + made) in
    let ended = subst (λ (e : EndStep). HasMadeEnds told k s seat left c.args.mine.now.me went.new.mine.me c.args.watch.now went.new.watch c.args.most made e)
    c.in-Installed.is went.ensures.ended in
    ended.2

pub withdraw-requires-clause-lives : goal.withdraw-requires-clause-lives
withdraw-requires-clause-lives g c =
    let told = g.W.Watch.told in
    let k = c.args.words.now.shared.key in
    let s = c.args.shape.now in
    let under_way = c.args.under_way in
    let seat : Seat = record { own = c.args.local.now.own; place = under_way.seat.place; restart = under_way.seat.restart } in
    let went = c.end_along-ended in
    let made = went.result.made in
    let left = ending c.args.code.now under_way.home c.args.end (c.args.from + made) in
    let ended = subst (λ (e : EndStep). HasMadeEnds told k s seat left c.args.mine.now.me went.new.mine.me c.args.watch.now went.new.watch c.args.most made e)
    c.in-Refused.is went.ensures.ended in
    ended.stays

pub returns-in-Refused-clause-stops : goal.returns-in-Refused-clause-stops
returns-in-Refused-clause-stops g c = λ refused.
    let told = g.W.Watch.told in
    let k = c.args.words.now.shared.key in
    let s = c.args.shape.now in
    let under_way = c.args.under_way in
    let seat : Seat = record { own = c.args.local.now.own; place = under_way.seat.place; restart = under_way.seat.restart } in
    let went = c.end_along-ended in
    let made = went.result.made in
    let left = ending c.args.code.now under_way.home c.args.end (c.args.from + made) in
    let ended = subst (λ (e : EndStep). HasMadeEnds told k s seat left c.args.mine.now.me went.new.mine.me c.args.watch.now went.new.watch c.args.most made e)
    c.in-Refused.is went.ensures.ended in
    record { lives = true; behind = went.new.mine.me; refuses = ended; quits = c.withdraw.ensures.quits }
