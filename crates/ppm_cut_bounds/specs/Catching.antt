-- What a walk through a block notes of the names in it.
use Rattle.std.specs.Prelude.{◌≡◌, ℕ, Bool, not, ◌&&◌, ◌||◌, List, ◌++◌, map, Option, Result, Ok, Err}
use Rattle.std.specs.List.{flat_map, IsDistinct}
use Rattle.std.specs.Str.{bytes_eq}
use Rattle.std.specs.Set.{is_member}
use Rattle.ppm_tree.specs.declared.named.Named.{Named}
use Rattle.ppm_tree.specs.Tree.{Expression}
use Rattle.ppm_tree.specs.Parts.{nodes, node_names, target_names}
use Rattle.ppm_cut_bounds.specs.declared.stop.Stop.{Stop}
use Rattle.ppm_cut_bounds.specs.declared.stop.Stop.TheVariants as stop

-- the names of a block that are in force, and the names of outside so far
pub record Walked : Type 0 where
  pub own : List (List ℕ)
  pub caught : List (List ℕ)

-- whether a name is one of these
abbrev pub has : List (List ℕ) → List ℕ → Bool
has names q = is_member bytes_eq names q

-- those of the names that aren't the block's own are noted, each once
pub record Notes (names : List (List ℕ)) (old new : Walked) : Type 0 where
  pub own : new.own ≡ old.own
  pub caught : (q : List ℕ) → has new.caught q ≡ (has old.caught q || (not (has old.own q) && has names q))
  pub once : IsDistinct bytes_eq old.caught → IsDistinct bytes_eq new.caught

-- names of the block come in force
pub record Declares (names : List (List ℕ)) (old new : Walked) : Type 0 where
  pub own : new.own ≡ old.own ++ names
  pub caught : new.caught ≡ old.caught

-- the names in expressions
abbrev pub names_in : List Expression → List (List ℕ)
names_in es = map (λ n. n.name) (flat_map node_names (flat_map nodes es))

-- why a walk stops there: it isn't so, or memory was refused, and nothing is known
abbrev pub Stops : Stop → Type 0 → Type 0
Stops stop.Past P = ¬ P
Stops stop.NoMemory P = Unit {0}

-- it is so, unless the walk stopped
abbrev pub Tells : {A : Type 0} → Result A Stop → Type 0 → Type 0
Tells (Ok x) P = P
Tells (Err e) P = Stops e P

-- the name of a target, if there is one
abbrev pub names_of_target : Option Named → List (List ℕ)
names_of_target t = map (λ n. n.name) (target_names t)

-- these are the names of a list, each once
pub record HasEachOnce (names once : List (List ℕ)) : Type 0 where
  pub same : (q : List ℕ) → has once q ≡ has names q
  pub distinct : IsDistinct bytes_eq once
