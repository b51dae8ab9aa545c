-- What passes a bound of the compiler first, and the count that does.
use Rattle.std.specs.Prelude.{ℕ, nat_lt, if◌then◌else◌, Option, Some, None}
use Rattle.ppm_tree.specs.declared.named.Named.{Named}
use Rattle.ppm_tree.specs.Tree.{Statement, Block, Nil, Then, Procedure}
use Rattle.ppm_tree.specs.Tree as tree
use Rattle.ppm_cut_bounds.specs.declared.bound.Bound.{Bound}
use Rattle.ppm_cut_bounds.specs.declared.bound.Bound.TheVariants as bound
use Rattle.ppm_cut_bounds.specs.Names.{caught_count}
use Rattle.ppm_cut_bounds.specs.Bounds.{limit_of, own_count, hidden_count}
use Rattle.ppm_excess.specs.declared.passing.Counted.{Counted}
use Rattle.ppm_excess.specs.declared.passing.Counted.TheVariants as counted
use Rattle.ppm_excess.specs.declared.passing.Excess.{Excess}
use Rattle.ppm_excess.specs.declared.passing.Excess.TheVariants as excess

-- the bound on what is counted
abbrev pub bound_of : Counted → Bound
bound_of counted.Slots = bound.Slots
bound_of counted.Outside = bound.Caught

-- the `each` whose index stands in this line, if its count passes the bound
abbrev pub each_past : Bound → ℕ → ℕ → Option Excess
each_past b line n = if nat_lt (limit_of b) n then Some (excess.Each line n) else None

-- the procedure itself, if its count passes the bound
abbrev pub whole_past : Bound → ℕ → Option Excess
whole_past b n = if nat_lt (limit_of b) n then Some (excess.Whole n) else None

-- the first of two, each of which may be missing
abbrev pub first_of : Option Excess → Option Excess → Option Excess
first_of None later = later
first_of (Some e) later = Some e

-- the hidden procedure of an `each`
abbrev pub past_at : Bound → Named → Named → Block → Option Excess
past_at b i x block = each_past b i.line (hidden_count b (caught_count i x block) block)

abbrev mutual
  -- the first `each` of a statement that passes a bound: itself, or one in its blocks
  pub first_within : Bound → Statement → Option Excess
  first_within b (tree.Each i x r block) = first_of (past_at b i x block) (first_in b block)
  first_within b (tree.If e block other) = first_of (first_in b block) (first_in b other)
  first_within b (tree.While e block) = first_in b block
  first_within b (tree.Split line r e x y block) = first_in b block
  first_within b (tree.Let x e) = None
  first_within b (tree.Assign x e) = None
  first_within b (tree.Put x index e) = None
  first_within b (tree.Call s) = None
  first_within b (tree.Fork s t) = None

  -- the first `each` of a block that passes a bound
  pub first_in : Bound → Block → Option Excess
  first_in b Nil = None
  first_in b (Then s rest) = first_of (first_within b s) (first_in b rest)

-- what passes a bound first in a procedure: itself, or an `each` in the order of the text
abbrev pub excess_of : Bound → Procedure → Option Excess
excess_of b p = first_of (whole_past b (own_count b p)) (first_in b p.body)
