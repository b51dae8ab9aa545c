use Rattle.std.proofs.Common.{sym, ◌∙◌}
use Rattle.ppm_war.proofs.ConflictLemmas.{is_false}
use Rattle.ppm_gaps.proofs.SearchLemmas.{read_at}
use Rattle.ppm_gaps.proofs.StopLemmas.{leads_there, not_a_stop, not_other}
use Rattle.ppm_gaps.proofs.stops.leads_to_stop.Goals as goal

-- it is no stop
pub returns-then-not-is_stop : goal.returns-then-not-is_stop
returns-then-not-is_stop c =
    let is = c.args.instrs.now in
    let there = read_at is c.args.stop c.index-instrs-stop.result c.requires.there c.index-instrs-stop.is in (
      λ f. cc,
      λ h. absurd (not_a_stop is c.args.class c.args.but c.args.from c.args.stop c.index-instrs-stop.result there
          (sym c.is_stop.ensures ∙ c.if-not-is_stop.true) h),
    )

-- it builds just that
pub returns-then-not-is_other : goal.returns-then-not-is_other
returns-then-not-is_other c =
    let is = c.args.instrs.now in
    let there = read_at is c.args.stop c.index-instrs-stop.result c.requires.there c.index-instrs-stop.is in (
      λ f. cc,
      λ h. absurd (not_other is c.args.class c.args.but c.args.from c.args.stop c.index-instrs-stop.result there
          (λ o. is_false c.is_other.result c.if-not-is_other.true (c.is_other.ensures.1 o)) h),
    )

-- a path leads there, or none does
pub returns : goal.returns
returns c =
    let is = c.args.instrs.now in
    let there = read_at is c.args.stop c.index-instrs-stop.result c.requires.there c.index-instrs-stop.is in
    let led = leads_there is c.args.class c.args.but c.args.from c.args.stop c.index-instrs-stop.result there
    (sym c.is_stop.ensures ∙ c.if-not-is_stop.false) (c.is_other.ensures.0 c.if-not-is_other.false) in
    (λ t. led.0 (c.leads.ensures.0 t), λ h. c.leads.ensures.1 (led.1 h))
