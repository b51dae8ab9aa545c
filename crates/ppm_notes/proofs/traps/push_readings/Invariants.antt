use Rattle.std.proofs.Common.{◌≡◌, ◌++◌, take}
use Rattle.std.specs.List.{flat_map}
use Rattle.ppm_notes.specs.Traps.{reading_text}
use Rattle.ppm_notes.proofs.traps.push_readings.Given as goal

-- what is written of the names so far
abbrev pub invariant-loop-reading : goal.invariant-loop-reading
invariant-loop-reading l = l.notes.items ≡ l.fn.notes.items ++ flat_map reading_text (take l.reading-index l.readings)
