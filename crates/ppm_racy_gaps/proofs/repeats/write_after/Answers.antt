use Rattle.std.proofs.Common.{List, length, refl, sym, ◌∙◌, ◌+◌, subst}
use Rattle.std.proofs.lemmas.Option.{slice_get_read}
use Rattle.ppm_code.specs.declared.class.Class.TheVariants.{Array}
use Rattle.ppm_code.specs.declared.instr.Instr.{Instr}
use Rattle.ppm_code.specs.Paths.{Any, Path}
use Rattle.ppm_war.specs.Search.{IsFirst, LeadsToWrite}
use Rattle.ppm_war.proofs.ConflictLemmas.{is_false}
use Rattle.ppm_war.proofs.FirstLemmas.{first_none}
use Rattle.ppm_racy_gaps.specs.Repeats.{IsRepeat}
use Rattle.ppm_racy_gaps.proofs.RepeatLemmas.{first_after}
use Rattle.ppm_racy_gaps.proofs.repeats.write_after.Goals as goal

-- no path comes there
pub returns-then-not-leads : goal.returns-then-not-leads
returns-then-not-leads c = first_none (IsRepeat c.args.instrs.now c.args.at) (λ write h. is_false c.leads.result c.if-not-leads.true
    (c.leads.ensures.1 (subst (λ (is : List Instr). Path is Any 0 c.args.at) (sym c.requires.same) h.before)))

-- the first write after an exchange to which one comes
pub returns : goal.returns
returns c =
    let is = c.args.instrs.now in
    let there = slice_get_read is (length is) c.args.at c.index-instrs-at.result refl c.requires.there c.index-instrs-at.is in
    first_after is c.args.at c.index-instrs-at.result there (sym c.is_exchange.ensures ∙ c.if-not-is_exchange.false)
    (subst (λ (is : List Instr). Path is Any 0 c.args.at) c.requires.same (c.leads.ensures.0 c.if-not-leads.false)) c.first_write.result
    (subst (λ (is : List Instr). IsFirst (LeadsToWrite is Array (c.args.at + 1)) c.first_write.result) c.requires.same c.first_write.ensures)
