use Rattle.std.proofs.Common.{sym, ◌∙◌}
use Rattle.ppm_war.proofs.ConflictLemmas.{is_false}
use Rattle.ppm_gaps.proofs.FindLemmas.{array_find, slot_find, no_find}
use Rattle.ppm_gaps.proofs.SearchLemmas.{read_at}
use Rattle.ppm_gaps.proofs.finds.is_find.Goals as goal

-- a read of an array word
pub returns-then-may_be : goal.returns-then-may_be
returns-then-may_be c =
    let is = c.args.instrs.now in
    let there = read_at is c.args.at c.index-instrs-at.result c.requires.there c.index-instrs-at.is in
    let find = array_find is c.args.at c.index-instrs-at.result there (c.may_be.ensures.0 c.if-may_be.true) in
    (λ t. find.0 (c.leads.ensures.0 t), λ h. c.leads.ensures.1 (find.1 h))

-- a load of a slot
pub returns-in-Some : goal.returns-in-Some
returns-in-Some c =
    let is = c.args.instrs.now in
    let there = read_at is c.args.at c.index-instrs-at.result c.requires.there c.index-instrs-at.is in
    let find = slot_find is c.args.at c.index-instrs-at.result there c.in-Some.slot (sym c.may.ensures ∙ c.in-Some.ensures) in
    (λ t. find.0 (c.is_stored_before.ensures.0 t), λ h. c.is_stored_before.ensures.1 (find.1 h))

-- another instruction
pub returns-in-None : goal.returns-in-None
returns-in-None c =
    let is = c.args.instrs.now in
    let there = read_at is c.args.at c.index-instrs-at.result c.requires.there c.index-instrs-at.is in (
      λ f. cc,
      λ h. absurd (no_find is c.args.at c.index-instrs-at.result there
          (λ e. is_false c.may_be.result c.if-may_be.false (c.may_be.ensures.1 e)) (λ slot e. c.in-None.ensures slot (c.may.ensures ∙ e)) h),
    )
