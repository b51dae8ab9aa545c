-- Where the frames of a procedure keep what its names stand for: one slot a name.
use Rattle.std.specs.Prelude.{ℕ, suc, List, [], ◌∷◌, map, Option, Some, None, nat_lt, Bool, true, false, ◌≡◌, if◌then◌else◌}
use Rattle.std.specs.List.{filter}
use Rattle.std.specs.Set.{is_member}
use Rattle.std.specs.Str.{bytes_eq}
use Rattle.std.proofs.Common.{refl, ltb-true}
use Rattle.ppm_code.specs.declared.register.Register.{Register}
use Rattle.ppm_tree.specs.declared.named.Named.{Named}
use Rattle.ppm_tree.specs.declared.tree.Parameter.{Parameter}
use Rattle.ppm_tree.specs.Tree.{Block}
use Rattle.ppm_cut_bounds.specs.Names.{free_names}

-- the names that have slots, slot by slot
abbrev pub Layout : Type 0
Layout = List (List ℕ)

-- the slot of a name; past the last slot where it has none
abbrev pub slot_of : Layout → List ℕ → ℕ
slot_of [] x = 0
slot_of (y ∷ layout) x = if bytes_eq y x then 0 else suc (slot_of layout x)

-- the slot of a target, if there is one
abbrev pub target_of : Layout → Option Named → Option ℕ
target_of layout None = None
target_of layout (Some x) = Some (slot_of layout x.name)

-- parameters take the first slots
abbrev pub parameter_layout : List Parameter → Layout
parameter_layout parameters = map (λ p. p.name.name) parameters

-- the names of outside that the block of an `each` names, in the order of their slots
abbrev pub caught : Layout → Block → Layout
caught layout block = filter (is_member bytes_eq (free_names block)) layout

-- the register with a number, or the last one
abbrev pub register_with : (n : ℕ) → (small : Bool) → nat_lt n 64 ≡ small → Register
register_with n true h = record { index = n; in_range = ltb-true n 64 h }
register_with n false h = record { index = 63; in_range = ltb-true 63 64 refl }

abbrev pub register : ℕ → Register
register n = register_with n (nat_lt n 64) refl
