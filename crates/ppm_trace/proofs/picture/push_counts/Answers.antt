use Rattle.std.proofs.Common.{◌≡◌, ◌++◌, OnOk, subst}
use Rattle.ppm_trace.specs.Picture.{counted_text}
use Rattle.ppm_trace.proofs.picture.push_counts.Goals as goal

-- the last part says what is taken over
pub returns : goal.returns
returns c =
    subst (λ by. OnOk c.push_markup.result (c.push_markup.new.text.items ≡ c.args.text.now.items ++ (counted_text c.args.counts ++ by)))
    c.by.ensures c.push_markup.ensures
