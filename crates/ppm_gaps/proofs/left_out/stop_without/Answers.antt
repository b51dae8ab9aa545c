use Rattle.ppm_war.proofs.ConflictLemmas.{is_false}
use Rattle.ppm_gaps.proofs.LeftOutLemmas.{first_of_write, no_stop, not_exposed, not_led}
use Rattle.ppm_gaps.proofs.left_out.stop_without.Goals as goal

-- each path to the find stores the word
pub returns-then-not-leads : goal.returns-then-not-leads
returns-then-not-leads c = not_exposed c.args.instrs.now c.args.find c.args.write c.args.class c.requires.writes
    (λ p. is_false c.leads.result c.if-not-leads.true (c.leads.ensures.1 p))

-- no path goes on from it to the store
pub returns-then-not-leads-2 : goal.returns-then-not-leads-2
returns-then-not-leads-2 c = not_led c.args.instrs.now c.args.find c.args.write c.args.class c.requires.writes
    (λ p. is_false c.leads-2.result c.if-not-leads-2.true (c.leads-2.ensures.1 p))

-- some path stops without
pub returns-in-Some : goal.returns-in-Some
returns-in-Some c = first_of_write c.args.instrs.now c.args.find c.args.write c.args.class c.requires.writes c.requires.closed c.requires.of_frame
    c.requires.finds (c.leads.ensures.0 c.if-not-leads.false) (c.leads-2.ensures.0 c.if-not-leads-2.false) c.in-Some.stop c.in-Some.ensures

-- or none does
pub returns-in-None : goal.returns-in-None
returns-in-None c = no_stop c.args.instrs.now c.args.find c.args.write c.args.class c.requires.writes c.requires.closed c.in-None.ensures
