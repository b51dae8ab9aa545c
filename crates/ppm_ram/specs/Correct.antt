-- What holds of each text of a RAM, in the words of what is written.
use Rattle.std.specs.Prelude.{◌≡◌, ◌↔◌, ℕ, List, Ok}
use Rattle.ppm_ram.specs.declared.ram.RamParts.{RamParts}
use Rattle.ppm_ram.specs.Text.{IsTextOf}
use Rattle.ppm_ram.specs.Lines.{ram_in}

-- a text says a RAM exactly where it is what is written of that RAM: so a text has a first fault exactly where it is of no RAM
abbrev pub TextsAreOfRams : Type 0
TextsAreOfRams = (text : List ℕ) (r : RamParts) → (ram_in text ≡ Ok r) ↔ IsTextOf text r
