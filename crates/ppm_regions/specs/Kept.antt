-- How the declarations in force are kept: as they were declared, and the blocks through which they are seen.
use Rattle.std.specs.Prelude.{◌≡◌, ◌≤◌, ℕ, zero, suc, Bool, true, false, nat_lt, List, [], ◌∷◌, ◌++◌, length, Some, if◌then◌else◌}
use Rattle.std.specs.List.{AllByRecursion}
use Rattle.std.specs.HashMap.{HashMap, get_by}
use Rattle.std.specs.Str.{bytes_eq}
use denote.Ref.{Bor}
use Rattle.ppm_tree.specs.declared.named.Named.{Named}
use Rattle.ppm_regions.specs.Scope.{Declaration, Scope, seen_in_split, seen_in_each}

-- the block of a split or of an `each`: its region, how many declarations stand in front of it, and whether these are outer in it
pub record Veil : Type 0 where
  pub region : Named
  pub count : ℕ
  pub outer : Bool

-- a declaration in front of the block, as it is seen there
abbrev pub through : Veil → Declaration → Declaration
through v d = if v.outer then seen_in_each v.region d else seen_in_split v.region d

-- so many declarations as they are seen, and those after them
abbrev pub under : (Declaration → Declaration) → ℕ → Scope → Scope
under seen n [] = []
under seen zero (d ∷ items) = d ∷ items
under seen (suc n) (d ∷ items) = seen d ∷ under seen n items

-- declarations as they are seen in blocks, the outermost block first
abbrev pub seen_in : List Veil → Scope → Scope
seen_in [] items = items
seen_in (v ∷ veils) items = seen_in veils (under (through v) v.count items)

-- the declaration at a place, as it is seen in a block, and in blocks
abbrev pub behind_one : ℕ → Veil → Declaration → Declaration
behind_one at v d = if nat_lt at v.count then through v d else d

abbrev pub behind_all : ℕ → List Veil → Declaration → Declaration
behind_all at [] d = d
behind_all at (v ∷ veils) d = behind_all at veils (behind_one at v d)

-- declarations, and the blocks in which they are seen
pub record Kept : Type 0 where
  pub items : Scope
  pub veils : List Veil

-- the declarations in force
abbrev pub seen : Kept → Scope
seen k = seen_in k.veils k.items

-- items become others, which are seen likewise, through the same blocks
pub record Becomes (f : Scope → Scope) (old new : Kept) : Type 0 where
  pub items : new.items ≡ f old.items
  pub veils : new.veils ≡ old.veils
  pub scope : seen new ≡ f (seen old)

-- what is in force is seen through one block more
abbrev pub entered : Kept → Named → Bool → Kept
entered k region outer = record { items = k.items; veils = k.veils ++ record { region = region; count = length k.items; outer = outer } ∷ [] }

-- the declarations in force, seen through one block more
pub record Enters (front inner : Kept) : Type 0 where
  pub items : inner.items ≡ front.items
  pub veil : Veil
  pub veils : inner.veils ≡ front.veils ++ veil ∷ []

-- in front of these blocks stand at most so many declarations
abbrev pub AreWithin : ℕ → List Veil → Type 0
AreWithin n veils = AllByRecursion (λ v. v.count ≤ n) veils

-- the declaration is the first one with the name, at this place
abbrev pub IsFirstAt : Scope → List ℕ → ℕ → Declaration → Type 0
IsFirstAt [] x at d = ⊥
IsFirstAt (c ∷ items) x zero d = (bytes_eq c.name.name x ≡ true) × (c ≡ d)
IsFirstAt (c ∷ items) x (suc at) d = (bytes_eq c.name.name x ≡ false) × IsFirstAt items x at d

-- a declaration is the first one with the name, at this place
pub record IsSomeAt (items : Scope) (x : List ℕ) (at : ℕ) : Type 0 where
  pub declaration : Declaration
  pub first : IsFirstAt items x at declaration

-- the map has the place of the first declaration of each name; it may have names that have none
abbrev pub HasPlaces : {S : Type 0} → HashMap (Bor (List ℕ)) ℕ S → Scope → Type 0
HasPlaces places items = (x : List ℕ) (at : ℕ) (d : Declaration) → IsFirstAt items x at d → get_by (λ k. bytes_eq x k.now) places ≡ Some at
