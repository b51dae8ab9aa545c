-- What the compiler takes.
use Rattle.std.specs.Prelude.{ℕ, ◌≤◌, List}
use Rattle.std.specs.List.{AllByRecursion}
pub use Rattle.ppm_words.specs.Limits.{capsule_limit}
use Rattle.ppm_tree.specs.Tree.{Statement, Block, Procedure, ProgramTree}
use Rattle.ppm_tree.specs.Tree as tree
use Rattle.ppm_tree.specs.Parts.{statements_in}
use Rattle.ppm_cut_bounds.specs.declared.bound.Bound.{Bound}
use Rattle.ppm_cut_bounds.specs.declared.bound.Bound.TheVariants as bound
use Rattle.ppm_cut_bounds.specs.Names.{caught_count}
use Rattle.ppm_cut_bounds.specs.Slots.{slots_of, hidden_slots}
use Rattle.ppm_cut_bounds.specs.Capsules.{capsule_bound}

-- the slots of a procedure, and of a hidden one
abbrev pub slot_limit : ℕ
slot_limit = 24

-- the names of outside that the block of an `each` names
abbrev pub caught_limit : ℕ
caught_limit = 10

-- the greatest count that keeps a bound
abbrev pub limit_of : Bound → ℕ
limit_of bound.Slots = slot_limit
limit_of bound.Caught = caught_limit

-- what a bound counts in a procedure itself
abbrev pub own_count : Bound → Procedure → ℕ
own_count bound.Slots p = slots_of p
own_count bound.Caught p = 0

-- what a bound counts in the hidden procedure for a block with so many names of outside
abbrev pub hidden_count : Bound → ℕ → Block → ℕ
hidden_count bound.Slots caught block = hidden_slots caught block
hidden_count bound.Caught caught block = caught

-- what a bound counts for a statement: that of the hidden procedure of an `each`
abbrev pub count_of : Bound → Statement → ℕ
count_of b (tree.Each i x r block) = hidden_count b (caught_count i x block) block
count_of b (tree.Let x e) = 0
count_of b (tree.Assign x e) = 0
count_of b (tree.Put x index e) = 0
count_of b (tree.If e block other) = 0
count_of b (tree.While e block) = 0
count_of b (tree.Call s) = 0
count_of b (tree.Fork s t) = 0
count_of b (tree.Split line r e x y block) = 0

-- each of these statements keeps a bound
abbrev pub KeepsAt : Bound → List Statement → Type 0
KeepsAt b ss = AllByRecursion (λ s. count_of b s ≤ limit_of b) ss

-- a procedure keeps a bound, itself and in all its hidden procedures
pub record Keeps (b : Bound) (p : Procedure) : Type 0 where
  pub own : own_count b p ≤ limit_of b
  pub hidden : KeepsAt b (statements_in p.body)

-- all procedures of a program keep a bound
abbrev pub AllKeep : Bound → ProgramTree → Type 0
AllKeep b t = AllByRecursion (Keeps b) t.procedures

-- a program that the compiler takes
pub record IsWithinBounds (t : ProgramTree) : Type 0 where
  pub slots : AllKeep bound.Slots t
  pub caught : AllKeep bound.Caught t
  pub capsules : capsule_bound t ≤ capsule_limit
