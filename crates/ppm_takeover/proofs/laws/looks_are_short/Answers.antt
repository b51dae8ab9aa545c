use Rattle.ppm_takeover.proofs.LookRows.{looks_are_short}
use Rattle.ppm_takeover.proofs.SoonRuns.{looks_come_soon}
use Rattle.ppm_takeover.proofs.laws.looks_are_short.Goals as goal

pub returns : goal.returns
returns c = record { law = looks_are_short; soon = looks_come_soon }
