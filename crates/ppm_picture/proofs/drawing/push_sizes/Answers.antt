use Rattle.std.proofs.Common.{◌≡◌, ◌++◌, OnOk, subst}
use Rattle.ppm_picture.specs.Drawing.{sizes_text}
use Rattle.ppm_picture.proofs.drawing.push_sizes.Goals as goal

-- part by part
pub returns : goal.returns
returns c =
    subst (λ n. OnOk c.push_markup.result (c.push_markup.new.text.items ≡ c.args.text.now.items ++ sizes_text n c.args.acts)) c.from.ensures
    c.push_markup.ensures
