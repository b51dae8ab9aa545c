use Rattle.std.proofs.Common.{◌≡◌, ◌≤◌, ◌-◌, length}
use Rattle.ppm_strands.specs.Capsule.{Memory}
use Rattle.ppm_code.specs.Capsules.{capsule_from, capsule_of}
use Rattle.ppm_code.specs.Limits.{room_limit}
use Rattle.ppm_code.specs.Locations.{Where}
use Rattle.ppm_code.specs.Sizes.{size_at, slots_at}
use Rattle.ppm_depth.specs.Store.{Shows}
use Rattle.ppm_depth.specs.Whole.{Keeps, block_at}
use Rattle.ppm_depth.proofs.RestLemmas.{IsLeft}
use Rattle.ppm_depth.proofs.capsule.run_capsule.Given as goal

-- what is left of the capsule comes to what the whole of it comes to, and its frame and block alone have changed
abbrev pub invariant-loop-at : goal.invariant-loop-at
invariant-loop-at l = record {
  left : (m : Memory Where)
      → Shows (slots_at l.code l.number) (block_at l.code l.number) l.place l.fn.store.blocks.items l.fn.store.words.items m
      → IsLeft (slots_at l.code l.number) (block_at l.code l.number) l.place (capsule_of l.array_words l.instrs) m l.asked
      l.store.blocks.items l.store.words.items (capsule_from l.array_words 0 l.at l.instrs l.registers);
  kept : Keeps l.place (size_at l.code l.number) l.fn.store.blocks.items l.store.blocks.items;
  words : length l.store.words.items ≡ length l.fn.store.words.items;
  asked : l.asked ≤ room_limit;
  first : l.at ≡ 0 → l.asked ≡ 0;
}

abbrev pub decreases-loop-at : goal.decreases-loop-at
decreases-loop-at l = length l.instrs - l.at
