use Rattle.std.proofs.Common.{◌∙◌, ap}
use Rattle.std.specs.Prelude.{slice_index}
use Rattle.ppm_table.specs.Closed.{Closing}
use Rattle.ppm_table.specs.Run.{padding}
use Rattle.ppm_table.proofs.ListLemmas.{found_behind}
use Rattle.ppm_table.proofs.closed.Closed.word.Goals as goal

-- the word after the padding
pub returns : goal.returns
returns c =
    found_behind padding _ c.args.at c.word.result c.word.ensures
    ∙ ap (λ (x : Closing). slice_index x.words c.args.at) c.self.view_is
