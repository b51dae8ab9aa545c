use Rattle.ppm_commands.proofs.RacingAnswers.{not_long, long_refusal_has}
use Rattle.ppm_commands.proofs.racing_check.long_answer.Goals as goal

-- no listing is so long
pub unreachable-requires : goal.unreachable-requires
unreachable-requires c = not_long c.faults_tell_listings.ensures.law c.args.text.now c.in-Ok.code c.requires
    (record { code = c.parts.ensures.code; fits = c.in-Ok.ensures.fits; same = c.in-Ok.ensures.ok })

pub unreachable-unreachable : goal.unreachable-unreachable
unreachable-unreachable c = not_long c.faults_tell_listings.ensures.law c.args.text.now c.in-Ok.code c.requires
    (record { code = c.parts.ensures.code; fits = c.in-Ok.ensures.fits; same = c.in-Ok.ensures.ok })

-- it has its first fault
pub returns : goal.returns
returns c = long_refusal_has c.args.text.now c.in-Err.error c.error_answer.result c.requires c.error_answer.ensures c.in-Err.ensures.err
