use Rattle.std.proofs.Common.{ℕ, ap, ◌∙◌}
use Rattle.ppm_loading.specs.Telling.{line_at}
use Rattle.ppm_explained.proofs.cases.ready_answer.Goals as goal

-- the first conflict of the case, with its lines
pub conflict_answer-requires : goal.conflict_answer-requires
conflict_answer-requires c =
    let conflict = c.in-Err.conflict in
    record {
      refused = (
        record { code = c.args.code.now; input = c.args.input.now; is = c.requires.of_case },
        record {
          conflict = conflict;
          first = c.in-Err.ensures;
          tells = c.conflict_told.ensures;
          read_line = c.line_at-read.ensures
              ∙ ap (λ (n : ℕ). line_at n c.args.code.now conflict.capsule conflict.read_at) c.array_count-arrays.ensures.value;
          write_line = c.line_at-write.ensures
              ∙ ap (λ (n : ℕ). line_at n c.args.code.now conflict.capsule conflict.write_at) c.array_count-arrays.ensures.value;
        },
      );
    }
