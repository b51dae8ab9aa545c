-- What the search for faults answers.
use Rattle.std.specs.Prelude.{◌≡◌, ◌==◌, ◌&&◌, ◌||◌, ℕ, Bool, true, false, not, nat_lt, List, Option, None, Some, codes, if◌then◌else◌}
use Rattle.std.specs.List.{Contains}
use Rattle.std.specs.HashMap.{HashMap, get_by}
use Rattle.std.specs.Option.{option_map}
use Rattle.std.specs.Str.{bytes_eq}
use denote.Ref.{Bor}
use Rattle.ppm_tree.specs.declared.tree.Proc.{Proc}
use Rattle.ppm_tree.specs.declared.tree.Argument as declared_argument
use Rattle.ppm_tree.specs.Tree.{Argument, ProgramTree, expression_of}
use Rattle.ppm_tree.specs.declared.mode.Mode.{Mode}
use Rattle.ppm_tree.specs.declared.mode.Mode.TheVariants as mode
use Rattle.ppm_regions.specs.declared.ask.Ask.{Ask}
use Rattle.ppm_regions.specs.declared.ask.Ask.TheVariants as ask
use Rattle.ppm_regions.specs.declared.region_error.RegionError.TheVariants as error
use Rattle.ppm_regions.specs.Scope.{Declaration, Scope, first_named}
use Rattle.ppm_regions.specs.Uses.{Site, Use, sites_at}
use Rattle.ppm_regions.specs.Faults.{fits, asks_region}
use Rattle.ppm_regions.specs.Faults.{HasFault}
use Rattle.ppm_regions.specs.Admission.{IsFirst}
use Rattle.ppm_regions.specs.ErrorNumbers.{number_of, line_of}
use Rattle.ppm_regions.specs.declared.region_error.RegionError.{RegionError}

-- the argument that a declared type holds
abbrev pub argument_of : declared_argument.Argument → Argument
argument_of a = record { line = a.line; value = expression_of a.value }

-- some element is such a one
abbrev pub HasOne : {A : Type 0} → (A → Type 0) → List A → Type 0
HasOne {A} P xs = (x : A) × Contains xs x × P x

-- the procedure is `main`
pub record IsNamedMain (p : Proc) : Type 0 where
  pub named : p.name.name ≡ codes "main"

-- the first fault of these sites, if there is one
pub record IsLeast (t : ProgramTree) (sites : List Site) (found : Option RegionError) : Type 0 where
  pub none : found ≡ None → (e : RegionError) → ¬ HasFault t sites e
  pub first : (e : RegionError) → found ≡ Some e → IsFirst (HasFault t sites) e

-- the first fault of these uses where these declarations are in force, if there is one
abbrev pub IsLeastOf : ProgramTree → Scope → List Use → Option RegionError → Type 0
IsLeastOf t scope uses found = IsLeast t (sites_at scope uses) found

-- whether it is to be written, and whether it is to be assigned
abbrev pub is_written : Ask → Bool
is_written ask.Written = true
is_written a = false

abbrev pub is_assigned : Ask → Bool
is_assigned ask.Assigned = true
is_assigned a = false

abbrev pub is_ref : Mode → Bool
is_ref mode.Ref = true
is_ref m = false

-- the fault of a name with this declaration, of which this is asked
abbrev pub fault_of_declared : Ask → Declaration → ℕ → Option RegionError
fault_of_declared a d line =
    if not (fits a d.mode) then Some (error.WrongKind line)
    else (if is_written a && is_ref d.mode then Some (error.WriteToRef line)
    else (if asks_region a && d.hidden then Some (error.HiddenRegion line)
    else (if is_written a && d.outer then Some (error.OuterWritten line)
    else (if is_assigned a && d.outer then Some (error.OuterAssigned line) else None))))

-- whether the first one comes before the second
abbrev pub comes_before : RegionError → RegionError → Bool
comes_before d e = nat_lt (number_of d) (number_of e) || (number_of d == number_of e && nat_lt (line_of d) (line_of e))

-- the first of two faults, each of which may be missing
abbrev pub earlier_of : Option RegionError → Option RegionError → Option RegionError
earlier_of None b = b
earlier_of (Some d) None = Some d
earlier_of (Some d) (Some e) = if comes_before e d then Some e else Some d

-- the map has the first procedure of each name
abbrev pub IsIndex : {S : Type 0} → HashMap (Bor (List ℕ)) (Bor Proc) S → List Proc → Type 0
IsIndex index procedures =
    (x : List ℕ) → option_map (λ p. p.now) (get_by (λ k. bytes_eq x k.now) index) ≡ first_named (λ p. p.name.name) procedures x
