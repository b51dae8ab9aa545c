use Rattle.std.proofs.Common.{ℕ, ap, ◌∙◌}
use Rattle.ppm_loading.specs.Telling.{store_told}
use Rattle.ppm_explained.proofs.cases.tidy_answer.Goals as goal

-- the first store of the case that is not tidy, with its line
pub untidy_answer-requires : goal.untidy_answer-requires
untidy_answer-requires c = record {
  refused = (
    record { code = c.args.code.now; input = c.args.input.now; is = c.requires.of_case },
    (
      c.requires.free,
      record {
        store = c.in-Some.store;
        first = c.in-Some.ensures;
        tells = c.store_told.ensures ∙ ap (λ (n : ℕ). store_told n c.args.code.now c.in-Some.store) c.array_count.ensures.value;
      },
    ),
  );
}

-- or the case is ready
pub returns-in-None : goal.returns-in-None
returns-in-None c = (
  record { code = c.args.code.now; input = c.args.input.now; is = c.requires.of_case },
  record { free = c.requires.free; tidy = c.in-None.ensures },
)
