use Rattle.std.proofs.lemmas.Option.{MatchOption-at_none, MatchOption-at_some}
use Rattle.ppm_racy_gaps.specs.Repeats.{AreWithoutRepeats, IsFirstRepeatOf}
use Rattle.ppm_racy_gaps.proofs.FirstLemmas.{no_flaw, repeat_alone}
use Rattle.ppm_racy_gaps.proofs.check.flaw_without.Goals as goal

-- there is such an exchange
pub returns-in-Some : goal.returns-in-Some
returns-in-Some c = repeat_alone c.args.code.now c.in-Some.repeat c.requires.with_puts
    (MatchOption-at_some (AreWithoutRepeats c.args.code.now) (IsFirstRepeatOf c.args.code.now) c.in-Some.repeat c.in-Some.is c.requires.after)

-- or none
pub returns-in-None : goal.returns-in-None
returns-in-None c = no_flaw c.args.code.now c.requires.with_puts
    (MatchOption-at_none (AreWithoutRepeats c.args.code.now) (IsFirstRepeatOf c.args.code.now) c.in-None.is c.requires.after)
