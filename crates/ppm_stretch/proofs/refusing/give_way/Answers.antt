use Rattle.std.proofs.Common.{Bool, not, ap, subst}
use Rattle.ppm_stretch.specs.Rows.{Quits}
use Rattle.ppm_stretch.proofs.WaitingLemmas.{lives_by}
use Rattle.ppm_stretch.proofs.refusing.give_way.Goals as goal

pub withdraw-requires-clause-lives : goal.withdraw-requires-clause-lives
withdraw-requires-clause-lives c =
    lives_by c.args.words.now.shared.key c.args.local.now.own c.args.mine.now.me _ (not c.is_done-done.result) c.requires.sits c.requires.stands
    (ap not (c.is_done-done.ensures c.args.shape.now c.args.code.now))

pub returns-clause-quits : goal.returns-clause-quits
returns-clause-quits c =
    subst (λ (b : Bool). Quits c.args.mine.now.me c.withdraw.new.mine.me b) (ap not (c.is_done-done.ensures c.args.shape.now c.args.code.now)) c.withdraw.ensures.quits
