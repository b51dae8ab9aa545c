-- The declarations in force at a place of a procedure, in the order of the text.
use Rattle.std.specs.Prelude.{ℕ, Bool, true, false, ◌||◌, List, [], ◌∷◌, ◌++◌, Option, Some, None, map, if◌then◌else◌}
use Rattle.std.specs.Str.{bytes_eq}
pub use Rattle.ppm_tree.specs.declared.mode.Mode.{Mode}
use Rattle.ppm_tree.specs.declared.mode.Mode.TheVariants as mode
use Rattle.ppm_tree.specs.declared.named.Named.{Named}
use Rattle.ppm_tree.specs.declared.tree.Parameter.{Parameter}
use Rattle.ppm_tree.specs.Tree.{Statement, Block, Nil, Then, Procedure}
use Rattle.ppm_tree.specs.Tree as tree

-- A declaration: a region (`mut` or `ref`), or a local (`int`). A hidden region may not be used; in the block of an `each`,
-- an outer region may not be written, nor an outer local assigned.
pub record Declaration : Type 0 where
  pub name : Named
  pub mode : Mode
  pub hidden : Bool
  pub outer : Bool

-- the declarations in force
abbrev pub Scope : Type 0
Scope = List Declaration

-- the first item with the name
abbrev pub first_named : {A : Type 0} → (A → List ℕ) → List A → List ℕ → Option A
first_named name_of [] x = None
first_named name_of (i ∷ items) x = if bytes_eq (name_of i) x then Some i else first_named name_of items x

-- the declaration of a name
abbrev pub declared : Scope → List ℕ → Option Declaration
declared scope x = first_named (λ d. d.name.name) scope x

-- whether the mode is that of a region
abbrev pub is_region : Mode → Bool
is_region mode.Mut = true
is_region mode.Ref = true
is_region mode.Int = false

-- a declaration that is neither hidden nor outer
abbrev pub plain : Mode → Named → Declaration
plain m x = record { name = x; mode = m; hidden = false; outer = false }

-- the declaration of a parameter
abbrev pub of_parameter : Parameter → Declaration
of_parameter p = plain p.mode p.name

-- the mode of a part: that of the region, and `mut` where the name stands for none
abbrev pub part_mode : Option Declaration → Mode
part_mode None = mode.Mut
part_mode (Some d) = if is_region d.mode then d.mode else mode.Mut

-- whether a part is outer: where its region is
abbrev pub is_outer : Option Declaration → Bool
is_outer None = false
is_outer (Some d) = d.outer

-- the declaration of a part of a region
abbrev pub part : Scope → Named → Named → Declaration
part scope region x = record {
  name = x;
  mode = part_mode (declared scope region.name);
  hidden = false;
  outer = is_outer (declared scope region.name);
}

-- a declaration as it is seen in a block with parts of the region: that is hidden
abbrev pub seen_in_split : Named → Declaration → Declaration
seen_in_split region d = record { name = d.name; mode = d.mode; hidden = d.hidden || bytes_eq d.name.name region.name; outer = d.outer }

-- a declaration as it is seen in the block of an `each`: the region is hidden, and all is outer
abbrev pub seen_in_each : Named → Declaration → Declaration
seen_in_each region d = record { name = d.name; mode = d.mode; hidden = d.hidden || bytes_eq d.name.name region.name; outer = true }

-- what is in force, as it is seen in a block with parts of the region
abbrev pub in_split : Scope → Named → Scope
in_split scope region = map (seen_in_split region) scope

-- what is in force, as it is seen in the block of an `each` over the region
abbrev pub in_each : Scope → Named → Scope
in_each scope region = map (seen_in_each region) scope

-- the parts that a split declares for its block
abbrev pub parts_of : Scope → Named → Named → Named → List Declaration
parts_of scope region x y = part scope region x ∷ part scope region y ∷ []

-- the declaration of the index of an `each`, which may not be assigned
abbrev pub index_of : Named → Declaration
index_of i = record { name = i; mode = mode.Int; hidden = false; outer = true }

-- the index and the part that an `each` declares for its block
abbrev pub element_of : Scope → Named → Named → Named → List Declaration
element_of scope region i x = index_of i ∷ part scope region x ∷ []

-- what a statement declares for the rest of its block
abbrev pub lets_of : Statement → List Declaration
lets_of (tree.Let x e) = plain mode.Int x ∷ []
lets_of (tree.Assign x e) = []
lets_of (tree.Put x index e) = []
lets_of (tree.If e block other) = []
lets_of (tree.While e block) = []
lets_of (tree.Call s) = []
lets_of (tree.Fork s t) = []
lets_of (tree.Split line r e x y block) = []
lets_of (tree.Each i x r block) = []

-- what is in force after the statements of a block
abbrev pub scope_behind : Scope → Block → Scope
scope_behind scope Nil = scope
scope_behind scope (Then s rest) = scope_behind (scope ++ lets_of s) rest

-- what is declared in front of a procedure's body: its parameters
abbrev pub scope_of : Procedure → Scope
scope_of p = map of_parameter p.parameters

-- what is declared in the block of a split
abbrev pub split_scope : Scope → Named → Named → Named → Scope
split_scope scope r x y = in_split scope r ++ parts_of scope r x y

-- and in that of an `each`
abbrev pub each_scope : Scope → Named → Named → Named → Scope
each_scope scope r i x = in_each scope r ++ element_of scope r i x
