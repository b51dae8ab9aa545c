use Rattle.ppm_sweep.proofs.TextLemmas.{first_text}
use Rattle.ppm_sweep.proofs.text.write_schedule.Goals as goal

-- the first item is written
pub loop-left-init : goal.loop-left-init
loop-left-init c =
    first_text c.args.items.now _ c.new-text.result.items c.push_item.new.text.items c.in-len1-up.len_at_least c.new-text.ensures.items
    c.in_ok-push_item.ensures
