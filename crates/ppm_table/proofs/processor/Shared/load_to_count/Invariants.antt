use Rattle.std.proofs.Common.{◌≡◌, vec_len, []}
use Rattle.ppm_table.specs.Shown.{InOrder, AllNew}
use Rattle.ppm_table.specs.Run.{maker}
use Rattle.ppm_table.proofs.processor.Shared.load_to_count.Given as goal

abbrev pub invariant-loop-own : goal.invariant-loop-own
invariant-loop-own l = (l.maker.table_id ≡ l.shared.words.shared.table_id) × (l.maker.me ≡ (maker l.own, [])) × (vec_len l.processors ≡ l.own)
    × InOrder l.shared 0 l.processors.items × AllNew l.processors.items
