-- What a replay came to is told by its answer with counts.
use Rattle.std.proofs.Common.{◌≡◌, refl, sym, ap, ◌∙◌}
use Rattle.ppm_answers.specs.declared.answer.Answer.{Answer}
use Rattle.ppm_answers.specs.declared.answer.Answer.TheVariants as answers
use Rattle.ppm_answers.specs.declared.sweep.Came.{Came}
use Rattle.ppm_answers.specs.declared.sweep.Came.TheVariants as came
use Rattle.ppm_answers.specs.declared.tally.Tally.{Tally}
use Rattle.ppm_outcomes.specs.Replays.{with_tally}

-- what a replay came to, by its answer
abbrev came_by : Answer → Came
came_by (answers.EndedWith arrays tally) = came.Ended arrays
came_by (answers.TrappedWith trap line tally) = came.Trapped trap line
came_by (answers.Unfinished acts) = came.Unfinished acts
came_by (answers.OutOfRoom place) = came.OutOfRoom place
came_by (answers.Broken place) = came.Broken place
came_by _ = came.Unfinished 0

came_back : (c : Came) (tally : Tally) → c ≡ came_by (with_tally c tally)
came_back (came.Ended arrays) tally = refl
came_back (came.Trapped trap line) tally = refl
came_back (came.Unfinished acts) tally = refl
came_back (came.OutOfRoom place) tally = refl
came_back (came.Broken place) tally = refl

-- answers that are one came to one thing
pub one_came : (c d : Came) (s t : Tally) → with_tally c s ≡ with_tally d t → c ≡ d
one_came c d s t same = came_back c s ∙ ap came_by same ∙ sym (came_back d t)
