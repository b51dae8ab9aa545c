-- That the names of a block are those that its layout has, each of the kind that is asked for. An admitted program's blocks fit.
use Rattle.std.specs.Prelude.{◌≡◌, ◌≢◌, ◌<◌, ℕ, Bool, true, false, List, [], ◌∷◌, ◌++◌, Option, Some, None, length}
use Rattle.ppm_tree.specs.declared.mode.Mode.{Mode}
use Rattle.ppm_tree.specs.declared.mode.Mode.TheVariants as mode
use Rattle.ppm_tree.specs.declared.named.Named.{Named}
use Rattle.ppm_tree.specs.declared.tree.Parameter.{Parameter}
use Rattle.ppm_tree.specs.Tree.{Expression, Argument, Side, Statement, Block, Nil, Then, Give, Procedure, ProgramTree}
use Rattle.ppm_tree.specs.Tree as tree
use Rattle.ppm_tree.specs.State.{procedure_named}
use Rattle.ppm_regions.specs.Scope.{Declaration, Scope, declared, is_region, first_named, lets_of, scope_of, split_scope, each_scope, scope_behind}
use Rattle.ppm_cut_code.specs.Layout.{Layout, slot_of, parameter_layout}
use Rattle.ppm_cut_code.specs.Statements.{with_lets, with_parts, hidden_layout}

-- the name has a slot
abbrev pub Has : Layout → List ℕ → Type 0
Has layout x = slot_of layout x < length layout

-- no slot has the name, so it gets the next one
abbrev pub IsNew : Layout → List ℕ → Type 0
IsNew layout x = slot_of layout x ≡ length layout

-- a name in force for a region, or for a local, that has a slot
pub record IsKept (scope : Scope) (layout : Layout) (region : Bool) (x : List ℕ) : Type 0 where
  pub declaration : Declaration
  pub found : declared scope x ≡ Some declaration
  pub kind : is_region declaration.mode ≡ region
  pub seen : region ≡ true → declaration.hidden ≡ false
  pub has : Has layout x

abbrev pub IsLocal : Scope → Layout → Named → Type 0
IsLocal scope layout x = IsKept scope layout false x.name

abbrev pub IsRegion : Scope → Layout → Named → Type 0
IsRegion scope layout x = IsKept scope layout true x.name

-- no name has two slots
abbrev pub IsDistinctLayout : Layout → Type 0
IsDistinctLayout [] = Unit {0}
IsDistinctLayout (x ∷ layout) = (slot_of layout x ≡ length layout) × IsDistinctLayout layout

abbrev pub FitsExpression : Scope → Layout → Expression → Type 0
FitsExpression scope layout (tree.Number z) = Unit {0}
FitsExpression scope layout (tree.Name x) = IsLocal scope layout x
FitsExpression scope layout (tree.Element x index) = IsRegion scope layout x × FitsExpression scope layout index
FitsExpression scope layout (tree.Len x) = IsRegion scope layout x
FitsExpression scope layout (tree.Minus line e) = FitsExpression scope layout e
FitsExpression scope layout (tree.Binary o line left right) = FitsExpression scope layout left × FitsExpression scope layout right

-- a region is lent by its name alone
abbrev pub FitsLent : Scope → Layout → Expression → Type 0
FitsLent scope layout (tree.Name x) = IsRegion scope layout x
FitsLent scope layout e = ⊥

abbrev pub FitsArgument : Scope → Layout → Mode → Expression → Type 0
FitsArgument scope layout mode.Int e = FitsExpression scope layout e
FitsArgument scope layout mode.Mut e = FitsLent scope layout e
FitsArgument scope layout mode.Ref e = FitsLent scope layout e

-- as many arguments as parameters, each of its kind
abbrev pub FitsArguments : Scope → Layout → List Parameter → List Argument → Type 0
FitsArguments scope layout [] [] = Unit {0}
FitsArguments scope layout [] (a ∷ arguments) = ⊥
FitsArguments scope layout (p ∷ parameters) [] = ⊥
FitsArguments scope layout (p ∷ parameters) (a ∷ arguments) =
    FitsArgument scope layout p.mode a.value × FitsArguments scope layout parameters arguments

abbrev pub FitsTarget : Scope → Layout → Option Named → Type 0
FitsTarget scope layout None = Unit {0}
FitsTarget scope layout (Some x) = IsLocal scope layout x

-- the layout after the statements of a block
abbrev pub layout_behind : Layout → Block → Layout
layout_behind layout Nil = layout
layout_behind layout (Then s rest) = layout_behind (with_lets layout s) rest

module _ (procedures : List Procedure) where
  -- a call, or a side of a fork
  pub record FitsSide (scope : Scope) (layout : Layout) (s : Side) : Type 0 where
    pub callee : first_named (λ p. p.name.name) procedures s.callee.name ≢ None
    pub target : FitsTarget scope layout s.target
    pub arguments : FitsArguments scope layout (procedure_named procedures s.callee.name).parameters s.arguments

  abbrev mutual
    pub FitsStatement : Scope → Layout → Statement → Type 0
    FitsStatement scope layout (tree.Let x e) = FitsExpression scope layout e × IsNew layout x.name × (declared scope x.name ≡ None)
    FitsStatement scope layout (tree.Assign x e) = IsLocal scope layout x × FitsExpression scope layout e
    FitsStatement scope layout (tree.Put x index e) = IsRegion scope layout x × FitsExpression scope layout index × FitsExpression scope layout e
    FitsStatement scope layout (tree.If e holds other) = FitsExpression scope layout e × FitsBlock scope layout holds × FitsBlock scope layout other
    FitsStatement scope layout (tree.While e block) = FitsExpression scope layout e × FitsBlock scope layout block
    FitsStatement scope layout (tree.Call s) = FitsSide scope layout s
    FitsStatement scope layout (tree.Fork s t) = FitsSide scope layout s × FitsSide scope layout t
    FitsStatement scope layout (tree.Split line r e x y block) =
        IsRegion scope layout r × FitsExpression scope layout e × IsNew layout x.name × IsNew layout y.name × (x.name ≢ y.name)
        × (declared scope x.name ≡ None) × (declared scope y.name ≡ None)
        × FitsBlock (split_scope scope r x y) (with_parts layout x y) block
    FitsStatement scope layout (tree.Each i x r block) =
        IsRegion scope layout r × IsNew layout i.name × IsNew layout x.name × (i.name ≢ x.name)
        × (declared scope i.name ≡ None) × (declared scope x.name ≡ None)
        × FitsBlock (each_scope scope r i x) (hidden_layout layout i x block) block

    pub FitsBlock : Scope → Layout → Block → Type 0
    FitsBlock scope layout Nil = Unit {0}
    FitsBlock scope layout (Then s rest) = FitsStatement scope layout s × FitsBlock (scope ++ lets_of s) (with_lets layout s) rest

  -- what a body gives, with the declarations and the layout after its block
  abbrev pub FitsGive : Scope → Layout → Option Give → Type 0
  FitsGive scope layout None = Unit {0}
  FitsGive scope layout (Some g) = FitsExpression scope layout g.value

  -- a procedure: its parameters differ, and its body fits
  pub record FitsProcedure (p : Procedure) : Type 0 where
    pub distinct : IsDistinctLayout (parameter_layout p.parameters)
    pub body : FitsBlock (scope_of p) (parameter_layout p.parameters) p.body
    pub give : FitsGive (scope_behind (scope_of p) p.body) (layout_behind (parameter_layout p.parameters) p.body) p.give
