-- The first flaw of a code whose strands may race.
use Rattle.std.specs.Prelude.{ℕ, ◌<◌, ◌≤◌}
use Rattle.ppm_code.specs.declared.code.CodeParts.{CodeParts}
use Rattle.ppm_war.specs.Conflicts.{HasNoConflictIn, IsFirstConflictOf}
use Rattle.ppm_gaps.specs.declared.racing.Flaw.{Flaw}
use Rattle.ppm_gaps.specs.declared.racing.Flaw.TheVariants.{Conflict as OfConflict, Gap as OfGap}
use Rattle.ppm_gaps.specs.Gaps.{IsFilledIn, IsFirstGapOf}

-- of the least capsule that has a conflict or a gap: its first conflict, or else its first gap
abbrev pub IsFirstFlaw : CodeParts → Flaw → Type 0
IsFirstFlaw code (OfConflict c) = IsFirstConflictOf code c × ((number : ℕ) → number < c.capsule → IsFilledIn code number)
IsFirstFlaw code (OfGap g) = IsFirstGapOf code g × ((number : ℕ) → number ≤ g.capsule → HasNoConflictIn code number)
