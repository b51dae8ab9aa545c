use Rattle.ppm_table.proofs.opening.split.Goals as goal
use Rattle.ppm_table.proofs.Kept as kept
use Rattle.std.proofs.Common.{ap, ◌∙◌, sym, ◌≡◌, subst, ◌++◌, ◌∷◌, []}
use mathlib.Core.Option.{some}
use lib.ListN.{set}
use Rattle.ppm_table.specs.declared.view.View.{View}
use Rattle.ppm_table.specs.Run.{maker, IsRun, left_of, right_of}

pub split_seat-requires : goal.split_seat-requires
split_seat-requires c = (
  c.requires.table.0,
  c.requires.table.1,
  λ s r at.
      let me : c.args.seat.now.me.0 ≡ maker c.args.number = ap (λ z. z.0) c.requires.mine.0 in
      subst (λ (v : View). IsRun c.args.words.now.shared.key record { words = s.words; homes = s.homes; views = set s.views c.args.seat.now.id (left_of v) ++ right_of v ∷ [] }) (sym me)
      (kept.splits c.args.words.now.shared.key s r c.args.seat.now.id c.args.number c.requires.mine.1 (at ∙ ap some me)),
)
