-- A frame goes on once its branches are over.
use Rattle.std.proofs.Common.{rules, ◌≡◌, ◌∙◌, suc, ap, sym}
use Rattle.ppm_interleaving.specs.Shows.{finish_in}
use Rattle.ppm_interleaving.proofs.ReachLemmas.{if_ok}
use Rattle.ppm_interleaving.proofs.WaitLemmas.{after_callee, after_both, before_callee, before_left, before_right, is_there}
use Rattle.ppm_interleaving.proofs.stepped.wait.Goals as goal

pub returns-in-Some : goal.returns-in-Some
returns-in-Some c =
    if_ok _ _ c.go_on.result (λ x goes.
    after_callee c.args.waiting c.args.strands.now x c.in-Callee.to c.in-Some.finish c.in-Callee.is (sym c.finish_among.ensures ∙ c.in-Some.is) goes)
    c.go_on.ensures

pub returns-in-None : goal.returns-in-None
returns-in-None c = before_callee c.args.waiting c.args.strands.now c.in-Callee.to c.in-Callee.is (sym c.finish_among.ensures ∙ c.in-None.is)

pub returns-in-Some-finish_among-2 : goal.returns-in-Some-finish_among-2
returns-in-Some-finish_among-2 c =
    let left = sym c.finish_among-in-Both.ensures ∙ c.in-Some-finish_among.is in
    let there = is_there c.args.strands.now c.args.waiting.first c.in-Some-finish_among.left left in
    let next : c.saturating_add.result ≡ suc c.args.waiting.first = search (rules, there) in
    if_ok _ _ c.join.result (λ x goes.
    after_both c.args.waiting c.args.strands.now x c.in-Both.left_to c.in-Both.to c.in-Some-finish_among.left c.in-Some-finish_among-2.right c.in-Both.is
    left (ap (finish_in c.args.strands.now) (sym next) ∙ sym c.finish_among-in-Some-finish_among.ensures ∙ c.in-Some-finish_among-2.is) goes)
    c.join.ensures

pub returns-in-None-finish_among-2 : goal.returns-in-None-finish_among-2
returns-in-None-finish_among-2 c =
    let left = sym c.finish_among-in-Both.ensures ∙ c.in-Some-finish_among.is in
    let there = is_there c.args.strands.now c.args.waiting.first c.in-Some-finish_among.left left in
    let next : c.saturating_add.result ≡ suc c.args.waiting.first = search (rules, there) in
    before_right c.args.waiting c.args.strands.now c.in-Both.left_to c.in-Both.to c.in-Both.is
    (ap (finish_in c.args.strands.now) (sym next) ∙ sym c.finish_among-in-Some-finish_among.ensures ∙ c.in-None-finish_among-2.is)

pub returns-in-None-finish_among : goal.returns-in-None-finish_among
returns-in-None-finish_among c =
    before_left c.args.waiting c.args.strands.now c.in-Both.left_to c.in-Both.to c.in-Both.is (sym c.finish_among-in-Both.ensures ∙ c.in-None-finish_among.is)
