use Rattle.std.proofs.Common.{◌≡◌, ◌+◌, ◌++◌, length, take, drop, arith, ap, sym, ◌∙◌}
use Rattle.ppm_ports.specs.Memory.{SourceState}
use Rattle.ppm_ports.proofs.MemoryLemmas.{given_and_left, none_left}
use Rattle.ppm_ports.proofs.memory_source.MemorySourceSource.read.Goals as goal

-- the bytes that were given stood in front, and none are given only where none are left
pub returns-clause-bytes : goal.returns-clause-bytes
returns-clause-bytes c =
    let bytes = c.self.inside.bytes.items in
    let at = c.self.inside.at in
    let n = c.give-count.result in
    let front : take n c.give-count.new.buf ≡ take n (drop at bytes) = c.give-count.ensures.front ∙ ap (take n) c.rest.ensures in
    let joined : drop at bytes ≡ take n c.give-count.new.buf ++ drop (at + n) bytes =
    given_and_left bytes c.give-count.new.buf at n front in
    let was : c.args.self.now.rest ≡ drop at bytes = ap (λ (s : SourceState). s.rest) (sym c.self.view_is) in
    (was ∙ joined, λ none room. none_left bytes at n (omega (arith, ap length c.rest.ensures)))
