use Rattle.std.proofs.Common.{◌≡◌, ◌++◌}
use Rattle.std.specs.List.{flat_map, range_with_len}
use Rattle.ppm_show.specs.Lines.{line_at}
use Rattle.ppm_show.specs.Show.{sizes_text, fields_text}
use Rattle.ppm_show.proofs.showing.scene_text.Given as goal

-- the head is written, and the lines so far
abbrev pub invariant-loop-at : goal.invariant-loop-at
invariant-loop-at l =
    l.text.items ≡ (sizes_text l.scene.shape ++ fields_text) ++ flat_map (line_at l.scene) (range_with_len 0 l.at)
