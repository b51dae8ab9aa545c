use Rattle.ppm_table.proofs.closing.join.Goals as goal
use Rattle.ppm_table.proofs.Kept as kept
use Rattle.std.proofs.Common.{◌∙◌}

pub join_seat-requires : goal.join_seat-requires
join_seat-requires c = (c.requires.table.0, c.requires.table.2 ∙ c.requires.table.0, c.requires.mine.1, c.requires.table.1, kept.merges c.args.words.now.shared.key c.args.seat.now.id c.args.other.id c.args.seat.now.me.0 c.args.other.me.0)
