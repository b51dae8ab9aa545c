-- The words that a frame owns by its regions, where declarations are in force.
use Rattle.std.specs.Prelude.{◌≡◌, ◌≢◌, ◌≤◌, ℕ, ◌+◌, true, false, List, Some, map, get_or}
use Rattle.ppm_tree.specs.declared.mode.Mode.TheVariants as mode
use Rattle.ppm_tree.specs.declared.tree.Array.{Array}
use Rattle.ppm_tree.specs.State.{Regions}
use Rattle.ppm_regions.specs.Scope.{Declaration, Scope, declared, is_region}
use Rattle.ppm_ownership.specs.Words.{HasWord, ShareNoWord}

-- a region that may be used: one that is in force, and not hidden
pub record IsSeen (scope : Scope) (x : List ℕ) : Type 0 where
  pub declaration : Declaration
  pub found : declared scope x ≡ Some declaration
  pub region : is_region declaration.mode ≡ true
  pub shown : declaration.hidden ≡ false

-- a `mut` region that may be used, be it from outside of the block of an `each` or not
pub record IsMut (scope : Scope) (x : List ℕ) : Type 0 where
  pub declaration : Declaration
  pub found : declared scope x ≡ Some declaration
  pub written : declaration.mode ≡ mode.Mut
  pub shown : declaration.hidden ≡ false

-- a region that may be written: such a one, and not from outside of the block of an `each`
pub record IsWritable (scope : Scope) (x : List ℕ) : Type 0 where
  pub declaration : Declaration
  pub found : declared scope x ≡ Some declaration
  pub written : declaration.mode ≡ mode.Mut
  pub shown : declaration.hidden ≡ false
  pub inner : declaration.outer ≡ false

-- a word that the frame owns: one of a region that may be used
pub record Owns (scope : Scope) (regions : Regions) (a i : ℕ) : Type 0 where
  pub name : List ℕ
  pub seen : IsSeen scope name
  pub has : HasWord (regions name) a i

-- a word that it may write: one of a region that may be written
pub record MayWrite (scope : Scope) (regions : Regions) (a i : ℕ) : Type 0 where
  pub name : List ℕ
  pub writable : IsWritable scope name
  pub has : HasWord (regions name) a i

-- no `mut` region that may be used, from outside or not, shares a word with another that may be used
pub record OwnsApart (scope : Scope) (regions : Regions) : Type 0 where
  pub apart : (x y : List ℕ) → IsMut scope x → IsSeen scope y → x ≢ y → ShareNoWord (regions x) (regions y)

-- how many words the array at a place has
abbrev pub words_at : List Array → ℕ → ℕ
words_at arrays a = get_or (map (λ b. b.words) arrays) a 0

-- each region that may be used lies in its array
pub record LieInArrays (arrays : List Array) (scope : Scope) (regions : Regions) : Type 0 where
  pub within : (x : List ℕ) → IsSeen scope x → (regions x).start + (regions x).length ≤ words_at arrays (regions x).array

-- the first owns no word that the second does not own, and may write none that the second may not write
pub record OwnsNoMore (scope : Scope) (regions : Regions) (outer : Scope) (whole : Regions) : Type 0 where
  pub owned : (a i : ℕ) → Owns scope regions a i → Owns outer whole a i
  pub written : (a i : ℕ) → MayWrite scope regions a i → MayWrite outer whole a i

-- no word that one may write is owned by the other
pub record AreSeparate (scope : Scope) (regions : Regions) (other : Scope) (others : Regions) : Type 0 where
  pub left : (a i : ℕ) → MayWrite scope regions a i → Owns other others a i → ⊥
  pub right : (a i : ℕ) → Owns scope regions a i → MayWrite other others a i → ⊥
