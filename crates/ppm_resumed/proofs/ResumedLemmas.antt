-- What fresh processors find, cell by cell, is what comes back.
use Rattle.std.proofs.Common.{◌≡◌, ◌∙◌, ◌+◌, ◌<◌, ◌^◌, cond, Some, ap, arith}
use Rattle.std.proofs.lemmas.Bool.{ne_eqb}
use Rattle.ppm_cells.specs.Cells.{IsCell}
use Rattle.ppm_cells.specs.Holder.{holder_word}
use Rattle.ppm_cells.specs.Memory.{read}
use Rattle.ppm_cells.specs.declared.cell.Cell.{Cell}
use Rattle.ppm_cells.specs.declared.cell.Cell.TheVariants.{FinishWord, CarryWord, DeadWord, HolderWord}
use Rattle.ppm_cells.specs.declared.holder.Holder.{Holder}
use Rattle.ppm_saved.specs.Renewal.{last_tag, tag_behind, holder_behind}
use Rattle.ppm_step.specs.Contents.{read_so}
use Rattle.ppm_step.specs.declared.content.Content.TheVariants.{AHolder}
use Rattle.ppm_tickets.specs.Renewal.{Renewed}
use Rattle.ppm_tickets.specs.View.{word_as}
use Rattle.ppm_resumed.specs.Resumed.{RenewedWordsComeBack}

-- the tag after one that is not the last
next_tag : (holder : Holder) → holder.tag + 1 < 2 ^ 58 → tag_behind (Some holder) ≡ holder.tag + 1
next_tag holder h = ap (λ b. cond b 0 (holder.tag + 1)) (ne_eqb holder.tag last_tag (λ e. omega (arith, e, h)))

pub come_back : RenewedWordsComeBack
come_back s saved words may renewed = record { fit = renewed.fit; renewed = cells }
  where
    cells : (c : Cell) → IsCell s c → Renewed c (read s saved c) (read s words c)
    cells FinishWord is = tt
    cells (CarryWord processor) is = renewed.cells (CarryWord processor) is
    cells (DeadWord processor) is = renewed.cells (DeadWord processor) is
    cells (HolderWord place) is =
        let k = may place is in (
          k.0.tag,
          k.0.processor,
          ap (λ o. word_as (read_so AHolder o)) k.1,
          k.2,
          renewed.cells (HolderWord place) is ∙ ap (λ o. holder_word (holder_behind place o)) k.1
              ∙ ap (λ t. holder_word (record { tag = t; processor = place })) (next_tag k.0 k.2),
        )
    cells c is = renewed.cells c is
