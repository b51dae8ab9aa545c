use Rattle.std.proofs.Common.{ℕ, ◌∙◌, ap}
use Rattle.ppm_loading.specs.Telling.{store_told}
use Rattle.ppm_sweep_command.proofs.sweeping.swept_code.Goals as goal

-- the first store that is not tidy is told
pub returns-in-Some : goal.returns-in-Some
returns-in-Some c = record {
  store = c.in-Some.store;
  first = c.in-Some.ensures;
  tells = c.store_told.ensures ∙ ap (λ (n : ℕ). store_told n c.args.code.now c.in-Some.store) c.array_count.ensures.value;
}
