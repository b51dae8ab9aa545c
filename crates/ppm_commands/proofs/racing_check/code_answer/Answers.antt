use Rattle.std.proofs.lemmas.Option.{MatchOption-at_some}
use Rattle.ppm_racy_gaps.specs.Correct.{IsRestartable}
use Rattle.ppm_racy_gaps.specs.Flaws.{IsFirstRacyFlaw}
use Rattle.ppm_commands.proofs.RacingAnswers.{flaw_has}
use Rattle.ppm_commands.proofs.racing_check.code_answer.Goals as goal

-- its first flaw
pub returns-in-Some : goal.returns-in-Some
returns-in-Some c = flaw_has c.args.code.now c.in-Some.flaw c.flaw_told.result c.flaw_told.ensures
    (MatchOption-at_some (IsRestartable c.args.code.now) (IsFirstRacyFlaw c.args.code.now) c.in-Some.flaw c.in-Some.is c.in-Ok.ensures)
