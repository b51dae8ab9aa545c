use Rattle.std.proofs.Common.{◌≡◌, Some, sym, refl, ◌∙◌}
use Rattle.std.proofs.lemmas.Map.Text.{hash_map_updates_str}
use Rattle.ppm_regions.proofs.Index.{next_known, next_new}
use Rattle.ppm_regions.proofs.procedures.Procedures.of.Goals as goal

-- the name is known
pub loop-procedure-preserved-then-is_some : goal.loop-procedure-preserved-then-is_some
loop-procedure-preserved-then-is_some c =
    next_known c.loop-procedure.by_name c.as_slice-procedure-items.result.now c.loop-procedure.procedure-index c.procedure-item.result c.as_bytes-name.result.now c.get.result
    c.loop-procedure-test.true c.procedure-item.is c.loop-procedure.invariant c.as_bytes-name.ensures.value c.get.ensures.value (sym c.is_some.ensures ∙ c.if-is_some.true)

-- the name is new
pub loop-procedure-preserved : goal.loop-procedure-preserved
loop-procedure-preserved c =
    next_new c.loop-procedure.by_name c.insert.new.self c.as_slice-procedure-items.result.now c.loop-procedure.procedure-index c.procedure-item.result
    c.as_bytes-name.result.now c.get.result _ c.loop-procedure-test.true c.procedure-item.is c.loop-procedure.invariant c.as_bytes-name.ensures.value refl c.get.ensures.value
    (sym c.is_some.ensures ∙ c.if-is_some.false)
    (hash_map_updates_str c.as_bytes-name.result.now c.loop-procedure.by_name c.insert.new.self _ c.in_ok-insert.ensures.updates)
