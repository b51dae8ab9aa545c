use Rattle.std.proofs.Common.{List, subst}
use mathlib.Core.List.{IsPrefix}
use Rattle.ppm_step.specs.declared.turn.Turn.{Turn}
use Rattle.ppm_locked.proofs.HistoryLemmas.{all_seen, prefix_trans}
use Rattle.ppm_locked.proofs.held.+gather.Goals as goal

-- the last seat, and those before it
pub returns-in-Some-clause-seen : goal.returns-in-Some-clause-seen
returns-in-Some-clause-seen g t c =
    let seat = c.in-Some.seat in
    let front = c.gather.new.front in
    let begins : IsPrefix seat.seen c.learn.new.self = subst (λ (l : List Turn). IsPrefix l c.learn.new.self) c.into_parts-share.ensures.seen c.learn.ensures.other in
    all_seen c.pop.new.self.items seat c.args.seats.items front c.in-Some.ensures.items c.gather.ensures.seen
    (prefix_trans seat.seen c.learn.new.self front begins c.gather.ensures.front)
