use Rattle.std.proofs.Common.{◌≡◌, ◌++◌, replicate}
use Rattle.ppm_depth.proofs.store.Store.open_block.Given as goal

-- so many words of the block are there
abbrev pub invariant-loop : goal.invariant-loop
invariant-loop l = record {
  blocks : l.self.blocks.items ≡ l.fn.self.blocks.items ++ replicate l.counter 0;
  words : l.self.words.items ≡ l.fn.self.words.items;
}
