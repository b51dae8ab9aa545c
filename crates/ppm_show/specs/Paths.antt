-- Paths along a function that leads from one address to another, and marks of addresses.
use Rattle.std.specs.Prelude.{ℕ, suc, zero, ◌==◌, ◌<◌, ◌≡◌, ◌||◌, not, if◌then◌else◌, Bool, true, false, List, [], ◌∷◌, length, slice_get, Option, Some, None}
use Rattle.std.specs.List.{list_any}
use Rattle.std.specs.Option.{option_map}

-- an address, that to which it leads, and so on, so many at most
abbrev pub path : (next : ℕ → Option ℕ) (most : ℕ) (from : Option ℕ) → List ℕ
path next zero from = []
path next (suc most) None = []
path next (suc most) (Some at) = at ∷ path next most (next at)

-- whether an address is in a list
abbrev pub is_in : List ℕ → (at : ℕ) → Bool
is_in blocks at = list_any (λ block. block == at) blocks

-- as many marks, those that were there and these, as far as there are such words
pub record AreMoreMarked (blocks : List ℕ) (old new : List Bool) : Type 0 where
  pub count : length new ≡ length old
  pub marks : (at : ℕ) → slice_get new at ≡ option_map (λ was. was || is_in blocks at) (slice_get old at)

-- with a mark goes that of the address to which its own leads
abbrev pub IsClosed : (next : ℕ → Option ℕ) → List Bool → Type 0
IsClosed next marks = (at to : ℕ) → slice_get marks at ≡ Some true → next at ≡ Some to → to < length marks → slice_get marks to ≡ Some true

-- whether there is such a mark that is not set
abbrev pub is_unset : Option Bool → Bool
is_unset None = false
is_unset (Some is_marked) = not is_marked

-- an address that has still to be marked
abbrev pub to_mark : List Bool → (from : Option ℕ) → Option ℕ
to_mark marks None = None
to_mark marks (Some at) = if is_unset (slice_get marks at) then Some at else None

-- whether there is such a mark that is set
abbrev pub is_set : Option Bool → Bool
is_set None = false
is_set (Some is_marked) = is_marked
