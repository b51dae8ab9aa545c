use Rattle.std.proofs.lemmas.Option.{MatchOption-at_none}
use Rattle.ppm_racy_gaps.specs.Repeats.{AreWithoutRepeats, IsFirstRepeatOf}
use Rattle.ppm_racy_gaps.proofs.FirstLemmas.{alone}
use Rattle.ppm_racy_gaps.proofs.check.flaw_from.Goals as goal

-- there is no such exchange
pub returns-in-None : goal.returns-in-None
returns-in-None c = alone c.args.code.now c.args.flaw c.requires.with_puts
    (MatchOption-at_none (AreWithoutRepeats c.args.code.now) (IsFirstRepeatOf c.args.code.now) c.in-None.is c.requires.after)
