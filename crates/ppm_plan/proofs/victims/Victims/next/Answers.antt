use Rattle.std.proofs.Common.{sym}
use Rattle.ppm_plan.proofs.DrawLemmas.{first_victim}
use Rattle.ppm_plan.proofs.victims.Victims.next.Goals as goal

-- one word, and the generator after it
pub returns : goal.returns
returns c k =
    rw (sym c.self.view_is, c.from.ensures)
    (first_victim c.self.inside.words c.next_word-word.new.self c.next_word-word.result c.self.inside.processors k c.next_word-word.ensures)
