-- The slots of a procedure's names.
use Rattle.std.specs.Prelude.{◌≡◌, Vec, ℕ, suc, nat_lt, List, [], ◌∷◌, ◌++◌, length, get_or, pos, Option, Some, None, if◌then◌else◌}
use Rattle.std.specs.declared.alloc.Global.{Global}
use Rattle.std.specs.HashMap.{HashMap, get_by}
use Rattle.std.specs.Str.{bytes_eq}
use Rattle.ppm_tree.specs.declared.mode.Mode.{Mode}
use Rattle.ppm_tree.specs.declared.mode.Mode.TheVariants as mode
use Rattle.ppm_tree.specs.declared.named.Named.{Named}
use Rattle.ppm_tree.specs.declared.tree.Parameter.{Parameter}
use Rattle.ppm_tree.specs.Tree.{Side, Statement, Block, Nil, Then, Let, Assign, Put, If, While, Split, Procedure}
use Rattle.ppm_tree.specs.Tree as tree
use Rattle.ppm_tree.specs.State.{Frame, nowhere}
use Rattle.ppm_serial.specs.Slots.{Slots}

-- the slot of a name: where it stands first, or after the last one
abbrev pub slot_in : List (List ℕ) → List ℕ → ℕ
slot_in [] x = 0
slot_in (n ∷ names) x = if bytes_eq n x then 0 else suc (slot_in names x)

-- names with one more, unless it is there
abbrev pub noted : List (List ℕ) → List ℕ → List (List ℕ)
noted names x = if nat_lt (slot_in names x) (length names) then names else names ++ x ∷ []

-- the slot of a name that is there
abbrev pub slot_if : List (List ℕ) → List ℕ → Option ℕ
slot_if names x = if nat_lt (slot_in names x) (length names) then Some (slot_in names x) else None

-- a map has the slot of each name
abbrev pub IsIndex : {S : Type 0} → HashMap (Vec ℕ Global) ℕ S → List (List ℕ) → Type 0
IsIndex slots names = (x : List ℕ) → get_by (λ k. bytes_eq x k.items) slots ≡ slot_if names x

-- the names of a procedure, by their slots
pub record Slotted : Type 0 where
  pub locals : List (List ℕ)
  pub regions : List (List ℕ)

-- no names
abbrev pub no_names : Slotted
no_names = record { locals = []; regions = [] }

abbrev pub with_local_name : Slotted → List ℕ → Slotted
with_local_name n x = record { locals = noted n.locals x; regions = n.regions }

abbrev pub with_region_name : Slotted → List ℕ → Slotted
with_region_name n x = record { locals = n.locals; regions = noted n.regions x }

abbrev pub with_target : Slotted → Option Named → Slotted
with_target n None = n
with_target n (Some x) = with_local_name n x.name

abbrev pub with_parameter_of : Slotted → Mode → List ℕ → Slotted
with_parameter_of n mode.Int x = with_region_name (with_local_name n x) x
with_parameter_of n mode.Mut x = with_region_name n x
with_parameter_of n mode.Ref x = with_region_name n x

-- a parameter has a slot for a region, and one for a local where it is a number
abbrev pub with_parameter : Slotted → Parameter → Slotted
with_parameter n p = with_parameter_of n p.mode p.name.name

abbrev pub with_parameters : Slotted → List Parameter → Slotted
with_parameters n [] = n
with_parameters n (p ∷ ps) = with_parameters (with_parameter n p) ps

abbrev mutual
  -- the names that a statement writes, with those of its blocks
  pub with_statement : Slotted → Statement → Slotted
  with_statement n (Let x e) = with_local_name n x.name
  with_statement n (Assign x e) = with_local_name n x.name
  with_statement n (Put x i e) = n
  with_statement n (If e p c) = with_block (with_block n p) c
  with_statement n (While e p) = with_block n p
  with_statement n (tree.Call s) = with_target n s.target
  with_statement n (tree.Fork s t) = with_target (with_target n s.target) t.target
  with_statement n (Split line r e x y p) = with_block (with_region_name (with_region_name n x.name) y.name) p
  with_statement n (tree.Each i x r p) = with_block (with_region_name (with_local_name n i.name) x.name) p

  -- the names that the statements of a block write
  pub with_block : Slotted → Block → Slotted
  with_block n Nil = n
  with_block n (Then s b) = with_block (with_statement n s) b

-- the names of a procedure: its parameters, and what its body writes
abbrev pub names_of : Procedure → Slotted
names_of p = with_block (with_parameters no_names p.parameters) p.body

-- the frame that slots hold
abbrev pub frame_of : Slotted → Slots → Frame
frame_of n s = record {
  regions = λ x. get_or s.regions (slot_in n.regions x) nowhere;
  locals = λ x. get_or s.locals (slot_in n.locals x) (pos 0);
}
