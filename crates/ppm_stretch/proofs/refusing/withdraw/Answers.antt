use Rattle.std.proofs.Common.{Bool, refl, sym, subst}
use Rattle.ppm_step.specs.declared.turn.Why.TheVariants.{Watch}
use Rattle.ppm_table.specs.declared.view.Deed.TheVariants.{Quitted}
use Rattle.ppm_stretch.specs.Rows.{Quits}
use Rattle.ppm_stretch.specs.Steady.{Lives}
use Rattle.ppm_stretch.proofs.SteadyLemmas.{deeds_more_in}
use Rattle.ppm_table.proofs.StandLemmas.{stands_quit}
use Rattle.ppm_stretch.proofs.refusing.withdraw.Goals as goal

pub returns-then-lives-clause-stands : goal.returns-then-lives-clause-stands
returns-then-lives-clause-stands c =
    let k = c.args.words.now.shared.key in
    stands_quit k c.args.local.now.own Watch c.args.mine.now.me c.give_up.new.seat.me
    (subst (λ (b : Bool). Lives k c.args.local.now.own c.args.mine.now.me b) c.if-lives.true c.requires.lives).0 c.give_up.ensures.told

pub returns-then-lives-clause-quits : goal.returns-then-lives-clause-quits
returns-then-lives-clause-quits c =
    let sits = (subst (λ (b : Bool). Lives c.args.words.now.shared.key c.args.local.now.own c.args.mine.now.me b) c.if-lives.true c.requires.lives).0 in
    subst (λ (b : Bool). Quits c.args.mine.now.me c.give_up.new.seat.me b) (sym c.if-lives.true)
    (deeds_more_in c.args.local.now.own c.args.mine.now.me c.give_up.new.seat.me (Quitted Watch) sits c.give_up.ensures.told)

pub returns-else-lives-clause-quits : goal.returns-else-lives-clause-quits
returns-else-lives-clause-quits c = subst (λ (b : Bool). Quits c.args.mine.now.me c.args.mine.now.me b) (sym c.if-lives.false) refl
