use Rattle.std.proofs.Common.{◌≡◌, ◌<◌, drop}
use Rattle.ppm_words.specs.Limits.{value_bound}
use Rattle.ppm_text.specs.Bytes.{value_from}
use Rattle.ppm_text.proofs.scan.value.Given as goal

abbrev pub invariant-loop-d : goal.invariant-loop-d
invariant-loop-d l = record { same : value_from l.n (drop l.d-index l.digits) ≡ value_from 0 l.digits; small : l.n < value_bound }
