use Rattle.std.proofs.Common.{◌≡◌, length, ◌-◌, ◌+◌, ◌≤◌}
use Rattle.std.specs.Io.KnownBytes.{Consumes}
use Rattle.ppm_ports.proofs.reading.read_whole.Given as goal

-- the text was read from the front of what was left, and the count hasn't fallen
abbrev pub invariant-loop-buf : goal.invariant-loop-buf
invariant-loop-buf g l = record {
  most : length l.text.items ≤ l.limit + 1;
  front : Consumes (g.S.Source.left l.fn.source) (g.S.Source.left l.source) l.text.items;
  quiet : g.S.Source.fault_count l.source ≡ g.S.Source.fault_count l.fn.source;
}

abbrev pub decreases-loop-buf : goal.decreases-loop-buf
decreases-loop-buf g l = l.limit + 1 - length l.text.items
