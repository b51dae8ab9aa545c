-- What is kept of lines that are read one by one: those up to the first that breaks a rule whatever the others declare, and what all declare.
use Rattle.std.specs.Prelude.{◌≡◌, ◌<◌, ℕ, Bool, true, false, ◌||◌, nat_le, if◌then◌else◌, List, [], ◌∷◌, ◌++◌, length, Option, Some, None}
use Rattle.ppm_code.specs.declared.code.CodeParts.{CodeParts}
use Rattle.ppm_code.specs.Limits.{procedure_limit, capsule_limit, instr_limit}
use Rattle.ppm_listing_reader.specs.declared.listing_error.Fault.{Fault}
use Rattle.ppm_listing_reader.specs.declared.part.Part.{Part}
use Rattle.ppm_listing_reader.specs.declared.part.Part.TheVariants as part
use Rattle.ppm_listing_reader.specs.declared.place.Place.{Place}
use Rattle.ppm_listing_reader.specs.declared.place.Place.TheVariants.{AtVersion, Within}
use Rattle.ppm_listing_reader.specs.declared.reader.Reader.{Reader}
use Rattle.ppm_listing_reader.specs.Places.{standing, next}
use Rattle.ppm_listing_reader.specs.Faults.{BreaksAt}
use Rattle.ppm_listing_reader.specs.Outlines.{no_outline, added, outlined}

-- whether what stands at a place breaks a rule whatever the other lines declare: it is of no form, or one too many
abbrev pub breaks_alone : Place → Option Part → Bool
breaks_alone place None = true
breaks_alone place (Some (part.Procedure i slots entry)) = nat_le procedure_limit i
breaks_alone place (Some (part.Capsule c procedure)) = nat_le capsule_limit c
breaks_alone (Within capsule procedure at room) (Some (part.Instr i)) = nat_le instr_limit at
breaks_alone place _ = false

-- the place after lines
abbrev pub after : Place → List (Option Part) → Place
after place [] = place
after place (l ∷ ls) = after (next place l) ls

-- one of some lines breaks a rule, whatever is declared
abbrev pub AlwaysBreaks : List (Option Part) → Type 0
AlwaysBreaks ls = (code : CodeParts) → (fault : Fault) × (number : ℕ) × BreaksAt code fault AtVersion ls number × (number < length ls)

-- the lines that are kept of some: all, or a front in which one always breaks a rule
pub record IsFront (kept : List (Option Part)) (is_broken : Bool) (ls : List (Option Part)) : Type 0 where
  pub behind : List (Option Part)
  pub same : kept ++ behind ≡ ls
  pub whole : is_broken ≡ false → behind ≡ []
  pub broken : is_broken ≡ true → AlwaysBreaks kept

-- what is known once some lines were read
pub record HasRead (r : Reader) (ls : List (Option Part)) : Type 0 where
  pub outline : r.outline ≡ outlined no_outline ls
  pub place : r.place ≡ after AtVersion ls
  pub front : IsFront r.kept.items r.is_broken ls

-- one line more is read
pub record Takes (old : Reader) (line : Option Part) (new : Reader) : Type 0 where
  pub outline : new.outline ≡ added old.outline (standing old.place line)
  pub place : new.place ≡ next old.place (standing old.place line)
  pub kept : new.kept.items ≡ (if old.is_broken then old.kept.items else (old.kept.items ++ standing old.place line ∷ []))
  pub is_broken : new.is_broken ≡ (old.is_broken || breaks_alone old.place (standing old.place line))
