-- The uses of names in a program, each with the declarations in force there.
use Rattle.std.specs.Prelude.{ℕ, Bool, List, [], ◌∷◌, ◌++◌, Option, Some, None, map, length, codes, if◌then◌else◌}
use Rattle.std.specs.List.{flat_map}
use Rattle.std.specs.Str.{bytes_eq}
use Rattle.ppm_tree.specs.declared.mode.Mode.{Mode}
use Rattle.ppm_tree.specs.declared.mode.Mode.TheVariants as mode
use Rattle.ppm_tree.specs.declared.named.Named.{Named}
use Rattle.ppm_tree.specs.declared.tree.Parameter.{Parameter}
use Rattle.ppm_tree.specs.declared.tree.ArrayInput.{ArrayInput}
use Rattle.ppm_tree.specs.Tree.{Expression, Argument, Side, Statement, Block, Nil, Then, Give, Procedure, ProgramTree}
use Rattle.ppm_tree.specs.Tree as tree
use Rattle.ppm_tree.specs.Parts.{gives_of}
use Rattle.ppm_regions.specs.Scope.{first_named, Declaration, Scope, plain, of_parameter, in_split, parts_of, in_each, element_of, lets_of, scope_behind}
use Rattle.ppm_regions.specs.declared.ask.Ask.{Ask}
use Rattle.ppm_regions.specs.declared.ask.Ask.TheVariants as ask

-- a region that is lent: the parameter's mode, and the region's name
pub record Lending : Type 0 where
  pub mode : Mode
  pub name : Named

-- what a program does with a name, or is asked for
pub data Use : Type 0 where
  -- a name that is to stand for something
  Asks : (what : Ask) (x : Named) → Use
  -- an argument for a region that is no name alone, by the line of its first token
  NoName : (line : ℕ) → Use
  -- a name that is declared
  Declares : (x : Named) → Use
  -- a procedure that is called with so many arguments
  Calls : (callee : Named) (arguments : ℕ) → Use
  -- a procedure whose value is stored
  Delivers : (callee : Named) → Use
  -- a region that is lent beside those in front of it
  Lends : (front : List Lending) (lending : Lending) → Use
  -- the targets of both branches of a fork
  Targets : (left right : Named) → Use
  -- the procedure that a run begins in
  Begins : Use
  -- a parameter of `main`
  MainTakes : (parameter : Parameter) → Use
  -- what `main` gives
  MainGives : (give : Give) → Use
  -- the values that an array has in front
  Fills : (input : ArrayInput) → Use

-- a use, and the declarations in force there
pub record Site : Type 0 where
  pub scope : Scope
  pub made : Use

-- uses with the same declarations in force
abbrev pub sites_at : Scope → List Use → List Site
sites_at scope uses = map (λ u. record { scope = scope; made = u }) uses

-- what is declared one after the other
abbrev pub declaration_sites : Scope → List Declaration → List Site
declaration_sites scope [] = []
declaration_sites scope (d ∷ more) = record { scope = scope; made = Declares d.name } ∷ declaration_sites (scope ++ d ∷ []) more

-- the names in an expression: a local alone, or a region whose element or length is read
abbrev pub uses_in : Expression → List Use
uses_in (tree.Number z) = []
uses_in (tree.Name x) = Asks ask.Local x ∷ []
uses_in (tree.Element x index) = Asks ask.Region x ∷ uses_in index
uses_in (tree.Len x) = Asks ask.Region x ∷ []
uses_in (tree.Minus line e) = uses_in e
uses_in (tree.Binary o line left right) = uses_in left ++ uses_in right

-- an argument that is more than a name alone, by what a name alone is asked for
abbrev pub uses_of_spare : Expression → List Use
uses_of_spare (tree.Name x) = Asks ask.Any x ∷ []
uses_of_spare e = uses_in e

-- an argument for a region
abbrev pub uses_of_lent : Ask → ℕ → Expression → List Use
uses_of_lent a line (tree.Name x) = Asks a x ∷ []
uses_of_lent a line e = NoName line ∷ uses_in e

-- an argument for a parameter of this mode
abbrev pub uses_of_argument : Mode → Argument → List Use
uses_of_argument mode.Int a = uses_in a.value
uses_of_argument mode.Ref a = uses_of_lent ask.Region a.line a.value
uses_of_argument mode.Mut a = uses_of_lent ask.Written a.line a.value

-- the arguments of a call; one past the last parameter is asked neither for a local nor for a region
abbrev pub uses_of_arguments : List Parameter → List Argument → List Use
uses_of_arguments parameters [] = []
uses_of_arguments [] (a ∷ arguments) = uses_of_spare a.value ++ uses_of_arguments [] arguments
uses_of_arguments (p ∷ parameters) (a ∷ arguments) = uses_of_argument p.mode a ++ uses_of_arguments parameters arguments

-- the region that an argument lends to a parameter of this mode
abbrev pub lending_of : Mode → Expression → List Lending
lending_of mode.Mut (tree.Name x) = record { mode = mode.Mut; name = x } ∷ []
lending_of mode.Ref (tree.Name x) = record { mode = mode.Ref; name = x } ∷ []
lending_of m e = []

-- the regions that a call lends
abbrev pub lendings_of : List Parameter → List Argument → List Lending
lendings_of [] arguments = []
lendings_of (p ∷ parameters) [] = []
lendings_of (p ∷ parameters) (a ∷ arguments) = lending_of p.mode a.value ++ lendings_of parameters arguments

-- regions that are lent together
abbrev pub lent_together : List Lending → List Lending → List Use
lent_together front [] = []
lent_together front (l ∷ more) = Lends front l ∷ lent_together (front ++ l ∷ []) more

-- a target of a call of the procedure
abbrev pub uses_of_target : Named → Option Named → List Use
uses_of_target callee None = []
uses_of_target callee (Some x) = Asks ask.Assigned x ∷ Delivers callee ∷ []

-- the targets of both branches
abbrev pub both_targets : Option Named → Option Named → List Use
both_targets (Some x) (Some y) = Targets x y ∷ []
both_targets x y = []

-- the parameters of a procedure; where there is no such procedure, it has none
abbrev pub parameters_of : Option Procedure → List Parameter
parameters_of None = []
parameters_of (Some p) = p.parameters

-- whether the procedure is `main`
abbrev pub is_main : Procedure → Bool
is_main p = bytes_eq p.name.name (codes "main")

-- what is asked of `main`
abbrev pub uses_of_main : Procedure → List Use
uses_of_main p = if is_main p then map MainTakes p.parameters ++ map MainGives (gives_of p.give) else []

-- names that stand beside one another
abbrev pub sites_of_names : List Named → List Site
sites_of_names names = declaration_sites [] (map (plain mode.Int) names)

module _ (t : ProgramTree) where
  -- the procedure that is called, if there is one of the name
  abbrev pub callee_of : Named → Option Procedure
  callee_of x = first_named (λ p. p.name.name) t.procedures x.name

  -- a call, or a side of a fork
  abbrev pub uses_of_side : Side → List Use
  uses_of_side s =
      uses_of_target s.callee s.target
      ++ Calls s.callee (length s.arguments) ∷ uses_of_arguments (parameters_of (callee_of s.callee)) s.arguments

  -- the regions that a side lends
  abbrev pub lent_by : Side → List Lending
  lent_by s = lendings_of (parameters_of (callee_of s.callee)) s.arguments

  -- the uses of a statement itself; those in its blocks are their statements'
  abbrev pub uses_of : Statement → List Use
  uses_of (tree.Let x e) = uses_in e
  uses_of (tree.Assign x e) = Asks ask.Assigned x ∷ uses_in e
  uses_of (tree.Put x index e) = Asks ask.Written x ∷ uses_in index ++ uses_in e
  uses_of (tree.If e block other) = uses_in e
  uses_of (tree.While e block) = uses_in e
  uses_of (tree.Call s) = uses_of_side s ++ lent_together [] (lent_by s)
  uses_of (tree.Fork s u) = uses_of_side s ++ uses_of_side u ++ both_targets s.target u.target ++ lent_together [] (lent_by s ++ lent_by u)
  uses_of (tree.Split line r e x y block) = Asks ask.Region r ∷ uses_in e
  uses_of (tree.Each i x r block) = Asks ask.Region r ∷ []

  abbrev mutual
    -- the sites in the blocks of a statement
    pub sites_within : Scope → Statement → List Site
    sites_within scope (tree.If e block other) = sites_of_block scope block ++ sites_of_block scope other
    sites_within scope (tree.While e block) = sites_of_block scope block
    sites_within scope (tree.Split line r e x y block) =
        declaration_sites (in_split scope r) (parts_of scope r x y) ++ sites_of_block (in_split scope r ++ parts_of scope r x y) block
    sites_within scope (tree.Each i x r block) =
        declaration_sites (in_each scope r) (element_of scope r i x) ++ sites_of_block (in_each scope r ++ element_of scope r i x) block
    sites_within scope s = []

    -- the sites of a block; what a `let` declares is in force after it
    pub sites_of_block : Scope → Block → List Site
    sites_of_block scope Nil = []
    sites_of_block scope (Then s rest) =
        sites_at scope (uses_of s) ++ sites_within scope s ++ declaration_sites scope (lets_of s) ++ sites_of_block (scope ++ lets_of s) rest

  -- the sites of what a body gives
  abbrev pub sites_of_give : Scope → Option Give → List Site
  sites_of_give scope None = []
  sites_of_give scope (Some g) = sites_at scope (uses_in g.value)

  -- the sites of a body whose parameters are these
  abbrev pub sites_of_body : Scope → Procedure → List Site
  sites_of_body scope p = declaration_sites [] scope ++ sites_of_block scope p.body ++ sites_of_give (scope_behind scope p.body) p.give

  -- the sites of a procedure
  abbrev pub sites_of_procedure : Procedure → List Site
  sites_of_procedure p = sites_of_body (map of_parameter p.parameters) p

  -- the sites of a program
  abbrev pub sites_of : List Site
  sites_of =
      sites_of_names (map (λ a. a.name) t.arrays)
      ++ sites_of_names (map (λ p. p.name) t.procedures)
      ++ sites_of_names (map (λ i. i.name) t.inputs)
      ++ flat_map sites_of_procedure t.procedures
      ++ sites_at [] (Begins ∷ flat_map uses_of_main t.procedures ++ map Fills t.inputs)
