-- By whether the strand is there.
use Rattle.std.proofs.Common.{rules, ◌≡◌, true, is_some, length, sym, subst, refl, None}
use Rattle.ppm_interleaving.specs.Shows.{MakesTurn, finish_in}
use Rattle.ppm_interleaving.proofs.ReachLemmas.{if_ok}
use Rattle.ppm_interleaving.proofs.PutLemmas.{steps_absent, steps_over, fails_absent, what_is}
use Rattle.ppm_interleaving.proofs.machine.Machine.turn.Goals as goal

pub returns-then-len-strand : goal.returns-then-len-strand
returns-then-len-strand c = λ root arrays.
    subst (λ t. MakesTurn c.args.code.now (length c.args.self.now.words.items) root arrays t None c.args.self.now c.args.self.now) (sym c.in-Step.is)
    (λ h shows. (None, steps_absent c.args.code.now c.args.self.now root arrays h shows c.in-Step.strand (search rules), refl))

pub returns-then-is_some : goal.returns-then-is_some
returns-then-is_some c = λ root arrays.
    subst (λ t. MakesTurn c.args.code.now (length c.args.self.now.words.items) root arrays t None c.args.self.now c.args.self.now) (sym c.in-Step.is)
    (λ h shows.
    let some : is_some (finish_in c.args.self.now.strands.items c.in-Step.strand) ≡ true = search rules in
    let over = what_is (finish_in c.args.self.now.strands.items c.in-Step.strand) some in
    (None, steps_over c.args.code.now c.args.self.now root arrays h shows c.in-Step.strand over.0 over.1, refl))

pub returns-else-is_some : goal.returns-else-is_some
returns-else-is_some c =
    if_ok _ _ c.step.result (λ told makes root arrays.
    subst (λ t. MakesTurn c.args.code.now (length c.args.self.now.words.items) root arrays t told c.args.self.now c.step.new.self) (sym c.in-Step.is)
    (makes root arrays)) c.step.ensures

pub returns-then-strand-len : goal.returns-then-strand-len
returns-then-strand-len c = λ root arrays.
    subst (λ t. MakesTurn c.args.code.now (length c.args.self.now.words.items) root arrays t None c.args.self.now c.fail.new.self) (sym c.in-Fault.is)
    (c.fail.ensures c.args.code.now root arrays)

pub returns-else-strand-len : goal.returns-else-strand-len
returns-else-strand-len c = λ root arrays.
    subst (λ t. MakesTurn c.args.code.now (length c.args.self.now.words.items) root arrays t None c.args.self.now c.args.self.now) (sym c.in-Fault.is)
    (λ h shows. (None, fails_absent c.args.code.now c.args.self.now root arrays h shows c.in-Fault.strand (search rules), refl))
