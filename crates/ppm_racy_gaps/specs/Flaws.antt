-- The first flaw of a code whose strands may race and exchange array words.
use Rattle.std.specs.Prelude.{ℕ, ◌<◌, ◌≤◌}
use Rattle.ppm_gaps.specs.declared.racing.Flaw.{Flaw}
use Rattle.ppm_gaps.specs.declared.racing.Flaw.TheVariants.{Conflict as OfConflict, Gap as OfGap}
use Rattle.ppm_gaps.specs.Gaps.{IsFilledIn, IsFirstGapOf}
use Rattle.ppm_racy.specs.declared.code.RacyParts.{RacyParts}
use Rattle.ppm_racy.specs.Code.{plain_code}
use Rattle.ppm_racy_gaps.specs.Conflicts.{HasNoRacyConflictIn, IsFirstRacyConflictOf}

-- of the least capsule that has a conflict, or with a put in place of each exchange a gap: its first conflict, or else its first gap
abbrev pub IsFirstRacyFlaw : RacyParts → Flaw → Type 0
IsFirstRacyFlaw code (OfConflict c) = IsFirstRacyConflictOf code c × ((number : ℕ) → number < c.capsule → IsFilledIn (plain_code code) number)
IsFirstRacyFlaw code (OfGap g) = IsFirstGapOf (plain_code code) g × ((number : ℕ) → number ≤ g.capsule → HasNoRacyConflictIn code number)
