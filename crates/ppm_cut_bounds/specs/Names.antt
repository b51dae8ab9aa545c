-- The names of outside that a block names: its free names.
use Rattle.std.specs.Prelude.{ℕ, not, List, [], ◌∷◌, ◌++◌, map}
use Rattle.std.specs.List.{filter, flat_map}
use Rattle.std.specs.Str.{bytes_eq}
use Rattle.std.specs.Set.{is_member, distinct_count}
use Rattle.ppm_tree.specs.declared.named.Named.{Named}
use Rattle.ppm_tree.specs.Tree.{Statement, Block, Nil, Then}
use Rattle.ppm_tree.specs.Tree as tree
use Rattle.ppm_tree.specs.Parts.{node_names, nodes_of, target_names}

-- names without some of them
abbrev pub without : List (List ℕ) → List (List ℕ) → List (List ℕ)
without names from = filter (λ x. not (is_member bytes_eq names x)) from

-- what a statement assigns, writes, divides or goes through
abbrev pub acted_on : Statement → List Named
acted_on (tree.Assign x e) = x ∷ []
acted_on (tree.Put x index e) = x ∷ []
acted_on (tree.Call s) = target_names s.target
acted_on (tree.Fork s t) = target_names s.target ++ target_names t.target
acted_on (tree.Split line r e x y block) = r ∷ []
acted_on (tree.Each i x r block) = r ∷ []
acted_on (tree.Let x e) = []
acted_on (tree.If e block other) = []
acted_on (tree.While e block) = []

-- the names that a statement uses outside its blocks; what it declares isn't used, and a procedure's name is none of these
abbrev pub used_by : Statement → List (List ℕ)
used_by s = map (λ n. n.name) (acted_on s ++ flat_map node_names (nodes_of s))

-- what a statement declares for the rest of its block
abbrev pub lets_of : Statement → List (List ℕ)
lets_of (tree.Let x e) = x.name ∷ []
lets_of (tree.Assign x e) = []
lets_of (tree.Put x index e) = []
lets_of (tree.If e block other) = []
lets_of (tree.While e block) = []
lets_of (tree.Call s) = []
lets_of (tree.Fork s t) = []
lets_of (tree.Split line r e x y block) = []
lets_of (tree.Each i x r block) = []

abbrev mutual
  -- the free names in the blocks of a statement
  pub free_within : Statement → List (List ℕ)
  free_within (tree.If e block other) = free_names block ++ free_names other
  free_within (tree.While e block) = free_names block
  free_within (tree.Split line r e x y block) = without (x.name ∷ y.name ∷ []) (free_names block)
  free_within (tree.Each i x r block) = without (i.name ∷ x.name ∷ []) (free_names block)
  free_within (tree.Let x e) = []
  free_within (tree.Assign x e) = []
  free_within (tree.Put x index e) = []
  free_within (tree.Call s) = []
  free_within (tree.Fork s t) = []

  -- the free names of a block, each as often as it is used: those used where no declaration of theirs in the block is in force
  pub free_names : Block → List (List ℕ)
  free_names Nil = []
  free_names (Then s rest) = (used_by s ++ free_within s) ++ without (lets_of s) (free_names rest)

-- how many names of outside the block of an `each` names; its index and its part are not of outside
abbrev pub caught_count : Named → Named → Block → ℕ
caught_count i x block = distinct_count bytes_eq (without (i.name ∷ x.name ∷ []) (free_names block))
