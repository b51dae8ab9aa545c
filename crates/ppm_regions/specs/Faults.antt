-- The faults of names and regions: what is wrong with a use where it stands, and in which line.
use Rattle.std.specs.Prelude.{◌≡◌, ◌≢◌, ◌⊎◌, ◌<◌, ℕ, Bool, true, false, not, List, Option, Some, None, length, codes}
use Rattle.std.specs.List.{Contains}
use Rattle.ppm_tree.specs.declared.mode.Mode.{Mode}
use Rattle.ppm_tree.specs.declared.mode.Mode.TheVariants as mode
use Rattle.ppm_tree.specs.declared.named.Named.{Named}
use Rattle.ppm_tree.specs.declared.tree.Parameter.{Parameter}
use Rattle.ppm_tree.specs.declared.tree.Array.{Array}
use Rattle.ppm_tree.specs.declared.tree.ArrayInput.{ArrayInput}
use Rattle.ppm_tree.specs.Tree.{Give, Procedure, ProgramTree}
use Rattle.ppm_regions.specs.Scope.{Declaration, Scope, first_named, declared, is_region}
use Rattle.ppm_regions.specs.Uses.{Lending, Use, Asks, NoName, Declares, Calls, Delivers, Lends, Targets, Begins, MainTakes, MainGives, Fills}
use Rattle.ppm_regions.specs.Uses.{Site, sites_of, callee_of}
use Rattle.ppm_regions.specs.declared.ask.Ask.{Ask}
use Rattle.ppm_regions.specs.declared.ask.Ask.TheVariants as ask
use Rattle.ppm_regions.specs.declared.region_error.RegionError.{RegionError}
use Rattle.ppm_regions.specs.declared.region_error.RegionError.TheVariants as error

-- whether a declaration of this mode is of the kind that is asked for
abbrev pub fits : Ask → Mode → Bool
fits ask.Any m = true
fits ask.Local m = not (is_region m)
fits ask.Assigned m = not (is_region m)
fits ask.Region m = is_region m
fits ask.Written m = is_region m

-- whether a region is asked for
abbrev pub asks_region : Ask → Bool
asks_region ask.Any = false
asks_region ask.Local = false
asks_region ask.Assigned = false
asks_region ask.Region = true
asks_region ask.Written = true

-- two lendings of one region, of which at least one is to be written
pub record Clashes (l m : Lending) : Type 0 where
  pub same : l.name.name ≡ m.name.name
  pub written : (l.mode ≡ mode.Mut) ⊎ (m.mode ≡ mode.Mut)

module _ (t : ProgramTree) where
  -- the array with the name
  abbrev pub array_named : Named → Option Array
  array_named x = first_named (λ a. a.name.name) t.arrays x.name

  -- the use is a fault where these declarations are in force
  pub data IsWrong (scope : Scope) : Use → RegionError → Type 0 where
    -- no declaration of the name is in force, hidden or not
    UnknownName : (a : Ask) (x : Named) → declared scope x.name ≡ None → IsWrong scope (Asks a x) (error.UnknownName x.line)
    -- there is no such procedure
    UnknownProcedure : (x : Named) (n : ℕ) → callee_of t x ≡ None → IsWrong scope (Calls x n) (error.UnknownName x.line)
    -- a declaration of the name is in force, hidden or not
    TwiceNamed : (x : Named) (d : Declaration) → declared scope x.name ≡ Some d → IsWrong scope (Declares x) (error.TwiceNamed x.line)
    -- a region stands where a local is asked for, or a local where a region is
    WrongKind : (a : Ask) (x : Named) (d : Declaration)
        → declared scope x.name ≡ Some d → fits a d.mode ≡ false → IsWrong scope (Asks a x) (error.WrongKind x.line)
    -- an argument for a region is no name alone
    NoRegion : (line : ℕ) → IsWrong scope (NoName line) (error.WrongKind line)
    -- the procedure has more or fewer parameters
    WrongCount : (x : Named) (n : ℕ) (p : Procedure)
        → callee_of t x ≡ Some p → length p.parameters ≢ n → IsWrong scope (Calls x n) (error.WrongCount x.line)
    -- a region that may only be read is written, or lent to be written
    WriteToRef : (x : Named) (d : Declaration)
        → declared scope x.name ≡ Some d → d.mode ≡ mode.Ref → IsWrong scope (Asks ask.Written x) (error.WriteToRef x.line)
    -- the region is lent in front of this lending, and one of both is to be written
    LentTwice : (front : List Lending) (l m : Lending) → Contains front l → Clashes m l → IsWrong scope (Lends front m) (error.LentTwice m.name.line)
    -- a region is used where only its parts may be
    HiddenRegion : (a : Ask) (x : Named) (d : Declaration)
        → declared scope x.name ≡ Some d → asks_region a ≡ true → d.hidden ≡ true → IsWrong scope (Asks a x) (error.HiddenRegion x.line)
    -- there is no `main`
    NoMain : ((p : Procedure) → Contains t.procedures p → p.name.name ≢ codes "main") → IsWrong scope Begins (error.BadMain 0)
    -- a parameter of `main` is a number, or has the name of no array
    BadParameter : (p : Parameter) → (p.mode ≡ mode.Int) ⊎ (array_named p.name ≡ None) → IsWrong scope (MainTakes p) (error.BadMain p.name.line)
    -- `main` gives a value
    MainHasGive : (g : Give) → IsWrong scope (MainGives g) (error.BadMain g.line)
    -- no array has the name of the input
    NoArray : (i : ArrayInput) → array_named i.name ≡ None → IsWrong scope (Fills i) (error.BadInput i.name.line)
    -- the array has fewer words than the input values
    TooManyValues : (i : ArrayInput) (a : Array)
        → array_named i.name ≡ Some a → a.words < length i.values → IsWrong scope (Fills i) (error.BadInput i.name.line)
    -- a value is asked of a procedure that gives none
    NoValue : (x : Named) (p : Procedure) → callee_of t x ≡ Some p → p.give ≡ None → IsWrong scope (Delivers x) (error.NoValue x.line)
    -- both branches of a fork have one target
    TwiceTarget : (x y : Named) → x.name ≡ y.name → IsWrong scope (Targets x y) (error.TwiceTarget y.line)
    -- in the block of an `each`, a region from outside, or a part of one, is written, or lent to be written
    OuterWritten : (x : Named) (d : Declaration)
        → declared scope x.name ≡ Some d → is_region d.mode ≡ true → d.outer ≡ true → IsWrong scope (Asks ask.Written x) (error.OuterWritten x.line)
    -- in the block of an `each`, its index or a local from outside is assigned
    OuterAssigned : (x : Named) (d : Declaration)
        → declared scope x.name ≡ Some d → is_region d.mode ≡ false → d.outer ≡ true → IsWrong scope (Asks ask.Assigned x) (error.OuterAssigned x.line)

  -- one of the sites has the fault
  pub record HasFault (sites : List Site) (e : RegionError) : Type 0 where
    pub site : Site
    pub within : Contains sites site
    pub wrong : IsWrong site.scope site.made e

-- a fault of a program
abbrev pub IsFault : ProgramTree → RegionError → Type 0
IsFault t e = HasFault t (sites_of t) e
