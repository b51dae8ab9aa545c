-- What stands on an admitted program may rely on: each name is declared, of the kind that is asked for, and used as it may be.
use Rattle.std.specs.Prelude.{◌≡◌, ◌≢◌, ◌≤◌, ℕ, true, false, List, Option, Some, None, length, codes}
use Rattle.std.specs.List.{Contains}
use Rattle.ppm_tree.specs.declared.mode.Mode.TheVariants as mode
use Rattle.ppm_tree.specs.declared.named.Named.{Named}
use Rattle.ppm_tree.specs.declared.tree.Parameter.{Parameter}
use Rattle.ppm_tree.specs.declared.tree.Array.{Array}
use Rattle.ppm_tree.specs.declared.tree.ArrayInput.{ArrayInput}
use Rattle.ppm_tree.specs.Tree.{Give, Procedure, ProgramTree}
use Rattle.ppm_regions.specs.declared.ask.Ask.{Ask}
use Rattle.ppm_regions.specs.declared.ask.Ask.TheVariants as ask
use Rattle.ppm_regions.specs.declared.region_error.RegionError.{RegionError}
use Rattle.ppm_regions.specs.Scope.{first_named, Declaration, Scope, declared}
use Rattle.ppm_regions.specs.Uses.{Lending, Use, Asks, NoName, Declares, Calls, Delivers, Lends, Targets, Begins, MainTakes, MainGives, Fills}
use Rattle.ppm_regions.specs.Uses.{callee_of, sites_of}
use Rattle.ppm_regions.specs.Faults.{fits, asks_region, Clashes, array_named, IsFault}
use Rattle.ppm_regions.specs.Admission.{IsFirst, IsAdmitted}

-- The name has a declaration in force of the kind that is asked for. A region that is used is not hidden; one that is written
-- is `mut` and not from outside of the block of an `each`, nor is a local that is assigned.
pub record IsDeclared (scope : Scope) (a : Ask) (x : Named) : Type 0 where
  pub declaration : Declaration
  pub found : declared scope x.name ≡ Some declaration
  pub kind : fits a declaration.mode ≡ true
  pub seen : asks_region a ≡ true → declaration.hidden ≡ false
  pub written : a ≡ ask.Written → (declaration.mode ≡ mode.Mut) × (declaration.outer ≡ false)
  pub assigned : a ≡ ask.Assigned → declaration.outer ≡ false

-- there is a procedure of the name, with so many parameters
pub record IsCalled (t : ProgramTree) (x : Named) (arguments : ℕ) : Type 0 where
  pub procedure : Procedure
  pub found : callee_of t x ≡ Some procedure
  pub count : length procedure.parameters ≡ arguments

-- there is a procedure of the name, and it gives a value
pub record GivesValue (t : ProgramTree) (x : Named) : Type 0 where
  pub procedure : Procedure
  pub found : callee_of t x ≡ Some procedure
  pub gives : procedure.give ≢ None

-- the parameter is `mut` or `ref` and has the name of an array
pub record NamesArray (t : ProgramTree) (p : Parameter) : Type 0 where
  pub mode : p.mode ≢ mode.Int
  pub found : array_named t p.name ≢ None

-- the input has an array, with room for its values
pub record HasRoom (t : ProgramTree) (i : ArrayInput) : Type 0 where
  pub array : Array
  pub found : array_named t i.name ≡ Some array
  pub room : length i.values ≤ array.words

-- the program makes this use where these declarations are in force
abbrev pub Makes : ProgramTree → Scope → Use → Type 0
Makes t scope u = Contains (sites_of t) (record { scope = scope; made = u })

-- Each use of a program is as it may be: a name that is used or declared, an argument for a region, a procedure that is called, and where its
-- value is stored, regions that are lent together, targets of a fork, `main` with its parameters and what it gives, and inputs.
pub record KeepsRules (t : ProgramTree) : Type 0 where
  pub names : (scope : Scope) (a : Ask) (x : Named) → Makes t scope (Asks a x) → IsDeclared scope a x
  pub declarations : (scope : Scope) (x : Named) → Makes t scope (Declares x) → declared scope x.name ≡ None
  pub calls : (scope : Scope) (x : Named) (n : ℕ) → Makes t scope (Calls x n) → IsCalled t x n
  pub values : (scope : Scope) (x : Named) → Makes t scope (Delivers x) → callee_of t x ≢ None → GivesValue t x
  pub lendings : (scope : Scope) (front : List Lending) (l m : Lending) → Makes t scope (Lends front m) → Contains front l → ¬ Clashes m l
  pub arguments : (scope : Scope) (line : ℕ) → ¬ Makes t scope (NoName line)
  pub targets : (scope : Scope) (x y : Named) → Makes t scope (Targets x y) → x.name ≢ y.name
  pub main : (scope : Scope) → Makes t scope Begins → first_named (λ p. p.name.name) t.procedures (codes "main") ≢ None
  pub parameters : (scope : Scope) (p : Parameter) → Makes t scope (MainTakes p) → NamesArray t p
  pub gives_nothing : (scope : Scope) (g : Give) → ¬ Makes t scope (MainGives g)
  pub inputs : (scope : Scope) (i : ArrayInput) → Makes t scope (Fills i) → HasRoom t i

-- each use of an admitted program is as it may be
abbrev pub KeepRules : Type 0
KeepRules = (t : ProgramTree) → IsAdmitted t → KeepsRules t

-- two faults that are told of a program are one; a program of which one is told is not admitted, and one of which none is told is
pub record HasOneFault (t : ProgramTree) : Type 0 where
  pub fault : (d e : RegionError) → IsFirst (IsFault t) d → IsFirst (IsFault t) e → d ≡ e
  pub either : (e : RegionError) → IsFirst (IsFault t) e → ¬ IsAdmitted t
  pub none : ((e : RegionError) → ¬ IsFirst (IsFault t) e) → IsAdmitted t

-- every program has one fault, or is admitted
abbrev pub HaveOneFault : Type 0
HaveOneFault = (t : ProgramTree) → HasOneFault t
