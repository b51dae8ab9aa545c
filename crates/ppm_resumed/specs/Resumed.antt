-- The words that fresh processors find are words that come back.
use Rattle.std.specs.Prelude.{◌≡◌, ◌<◌, ◌+◌, ◌^◌, ℕ, List, Some}
use Rattle.ppm_cells.specs.Holder.{holder_of}
use Rattle.ppm_cells.specs.Memory.{read}
use Rattle.ppm_cells.specs.declared.cell.Cell.TheVariants.{HolderWord}
use Rattle.ppm_cells.specs.declared.holder.Holder.{Holder}
use Rattle.ppm_cells.specs.declared.shape.Shape.{Shape}
use Rattle.ppm_saved.specs.Renewal.{AreRenewed}
use Rattle.ppm_tickets.specs.Renewal.{IsRenewal}

-- each place has a holder, and that has not the last tag
abbrev pub TagsMayRise : Shape → (words : List ℕ) → Type 0
TagsMayRise s words = (place : ℕ) → place < s.processors
    → (holder : Holder) × (holder_of (read s words (HolderWord place)) ≡ Some holder) × (holder.tag + 1 < 2 ^ 58)

-- then what fresh processors find is a renewal of the words
abbrev pub RenewedWordsComeBack : Type 0
RenewedWordsComeBack = (s : Shape) (saved words : List ℕ) → TagsMayRise s saved → AreRenewed s saved words → IsRenewal s saved words
