use Rattle.std.proofs.Common.{ℕ, refl, sym, ap, subst}
use Rattle.ppm_loading.specs.Telling.{line_at}
use Rattle.ppm_commands.specs.Races.{RacesMayOf}
use Rattle.ppm_commands.proofs.races.case_answer.Goals as goal

-- the first conflict is told, with its lines
pub returns-in-Err : goal.returns-in-Err
returns-in-Err c = subst (RacesMayOf c.args.capsules c.args.code.now c.args.input.now) (sym c.conflict_answer.ensures) (record {
  conflict = c.in-Err.conflict;
  first = c.in-Err.ensures;
  tells = refl;
  read_line = ap (λ (n : ℕ). line_at n c.args.code.now c.in-Err.conflict.capsule c.in-Err.conflict.read_at) c.array_count.ensures.value;
  write_line = ap (λ (n : ℕ). line_at n c.args.code.now c.in-Err.conflict.capsule c.in-Err.conflict.write_at) c.array_count.ensures.value;
})
