-- The last of the processors of a table.
use Rattle.std.proofs.Common.{ℕ, suc, List, [], ◌∷◌, ◌++◌, Option, Some, None, IfSome, option_to_list}
use Rattle.ppm_table.specs.declared.processor.Processor.{Processor}
use Rattle.ppm_table.specs.declared.processor.Shared.{Shared}
use Rattle.ppm_table.specs.Shown.{InOrder, IsOf}

-- processors in front of others are in order
pub front_in_order : (s : Shared) (c : ℕ) (ps qs : List Processor) → InOrder s c (ps ++ qs) → InOrder s c ps
front_in_order s c [] qs h = tt
front_in_order s c (p ∷ ps) qs h = (h.0, h.1, front_in_order s (suc c) ps qs h.2)

-- those after them are of the table
pub last_is_of : (s : Shared) (c : ℕ) (ps : List Processor) (p : Processor) → InOrder s c (ps ++ p ∷ []) → IsOf s p
last_is_of s c [] p h = h.1
last_is_of s c (q ∷ ps) p h = last_is_of s (suc c) ps p h.2

pub taken_is_of : (s : Shared) (c : ℕ) (ps : List Processor) (taken : Option Processor) → InOrder s c (ps ++ option_to_list taken) → IfSome taken (IsOf s)
taken_is_of s c ps None h = tt
taken_is_of s c ps (Some p) h = last_is_of s c ps p h
