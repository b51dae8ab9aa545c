-- How a code grows by procedures.
use Rattle.std.specs.Prelude.{◌≡◌, ℕ, List, [], ◌∷◌, ◌++◌, length}
use Rattle.ppm_tree.specs.Tree.{Procedure}
use Rattle.ppm_cut_code.specs.Routines.{Routine, routine_behind, procedures_from, capsules_from}
use Rattle.ppm_cut.specs.declared.draft.Draft.{Draft}

-- the number after the capsules of procedures, the first of which has the number `at`
abbrev pub behind_all : List Routine → ℕ → ℕ
behind_all [] at = at
behind_all (r ∷ routines) at = behind_all routines (routine_behind r at)

-- procedures are appended, with their capsules
pub record Drafts (procedures : List Procedure) (routines : List Routine) (old new : Draft) : Type 0 where
  pub procedures_are : new.procedures.items ≡ old.procedures.items ++ procedures_from old.next routines
  pub capsules_are : new.capsules.items ≡ old.capsules.items ++ capsules_from procedures (length old.procedures.items) old.next routines
  pub next_is : new.next ≡ behind_all routines old.next
