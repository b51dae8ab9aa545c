-- The words in front of a table's.
use Rattle.std.specs.Prelude.{ℕ}

-- a table has words of no use in front of the run's, so that the finish word, which each capsule loads, lies in a cache line of its own
abbrev pub padding : ℕ
padding = 5
