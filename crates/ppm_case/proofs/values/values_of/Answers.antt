use Rattle.std.proofs.Common.{◌∙◌, ◌++◌, List, ap}
use Rattle.std.specs.Prelude.{ℤ}
use Rattle.ppm_case.specs.Spelling.{values_in}
use Rattle.ppm_case.proofs.ValueLemmas.{fill}
use Rattle.ppm_case.proofs.values.values_of.Goals as goal

-- the values that are given, and zeros
pub returns : goal.returns
returns c = λ l ws cut.
    c.in_ok-fill_up.ensures
    ∙ fill c.args.len ws c.push_given.new.values.items (c.requires.fit l ws cut)
    (c.in_ok-push_given.ensures l ws cut ∙ ap (λ (k : List ℤ). k ++ values_in ws) c.in_ok-values.ensures.items)
