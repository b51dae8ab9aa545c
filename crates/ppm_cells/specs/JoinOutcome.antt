-- The outcome of a fork.
use Rattle.ppm_cells.specs.declared.finish.Finish.{Finish}
use Rattle.ppm_cells.specs.declared.finish.Finish.TheVariants.{Ended, Trapped}

-- the left branch's trap, else the right one's, else its end
abbrev pub outcome_of_both : (left right : Finish) → Finish
outcome_of_both (Trapped trap line) right = Trapped trap line
outcome_of_both _ (Trapped trap line) = Trapped trap line
outcome_of_both _ _ = Ended
