-- A source and a sink in memory, and what one call does.
use Rattle.std.specs.Prelude.{◌≡◌, ◌⊎◌, ℕ, ◌-◌, ◌<◌, ◌≤◌, min, List, [], ◌++◌, length, take, drop, Result, MatchResult, Contains}
use Rattle.ppm_ports.specs.Causes.{one_up}

-- a source: what is left, the most bytes of one call, the calls that fail, how many calls there were, and the count of faults
pub record SourceState : Type 0 where
  pub rest : List ℕ
  pub most : ℕ
  pub failing : List ℕ
  pub calls : ℕ
  pub faults : ℕ

-- a source of these bytes, before any call
abbrev pub new_source : List ℕ → ℕ → List ℕ → SourceState
new_source bytes most failing = record { rest = bytes; most = most; failing = failing; calls = 0; faults = 0 }

-- the source after a call that gave n bytes
abbrev pub after_read : SourceState → ℕ → SourceState
after_read s n = record s { rest = drop n s.rest; calls = one_up s.calls }

-- the source after a call that failed
abbrev pub after_failed_read : SourceState → SourceState
after_failed_read s = record s { calls = one_up s.calls; faults = one_up s.faults }

-- how many bytes a call gives: as many as the buffer holds, one call gives and there are
abbrev pub given_count : SourceState → ℕ → ℕ
given_count s room = min (min room s.most) (length s.rest)

-- a call fails exactly where it is listed, and else gives the next bytes
abbrev pub MemoryReads : {E : Type 0} → SourceState → SourceState → Result ℕ E → List ℕ → Type 0
MemoryReads old new r buf = MatchResult r
    (λ n. (¬ Contains old.failing old.calls) × (n ≡ given_count old (length buf)) × (take n buf ≡ take n old.rest) × (new ≡ after_read old n))
    (λ _. Contains old.failing old.calls × (new ≡ after_failed_read old))

-- a sink: what was written, for how many bytes it has room, and the rest as for a source
pub record SinkState : Type 0 where
  pub bytes : List ℕ
  pub room : ℕ
  pub most : ℕ
  pub failing : List ℕ
  pub calls : ℕ
  pub faults : ℕ

-- an empty sink, before any call
abbrev pub new_sink : ℕ → ℕ → List ℕ → SinkState
new_sink room most failing = record { bytes = []; room = room; most = most; failing = failing; calls = 0; faults = 0 }

-- the sink after a call that took these bytes
abbrev pub after_write : SinkState → List ℕ → SinkState
after_write s taken = record s { bytes = s.bytes ++ taken; calls = one_up s.calls }

-- the sink after a call that failed
abbrev pub after_failed_write : SinkState → SinkState
after_failed_write s = record s { calls = one_up s.calls; faults = one_up s.faults }

-- the call is listed, or there is something to write and no room
abbrev pub Refuses : SinkState → List ℕ → Type 0
Refuses s piece = Contains s.failing s.calls ⊎ ((0 < length piece) × (s.room ≤ length s.bytes))

-- how many bytes of a piece a call takes: as many as there are, one call takes and there is room for
abbrev pub taken_count : SinkState → List ℕ → ℕ
taken_count s piece = min (min (length piece) s.most) (s.room - length s.bytes)

-- a call fails exactly where it is refused, and else takes a front of the piece
abbrev pub MemoryWrites : {E : Type 0} → SinkState → SinkState → Result ℕ E → List ℕ → Type 0
MemoryWrites old new r piece = MatchResult r
    (λ n. (¬ Refuses old piece) × (n ≡ taken_count old piece) × (new ≡ after_write old (take n piece)))
    (λ _. Refuses old piece × (new ≡ after_failed_write old))
