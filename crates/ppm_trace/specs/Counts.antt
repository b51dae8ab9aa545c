-- How often each thing was done in the turns that are told.
use Rattle.std.specs.Prelude.{ℕ, ◌+◌, List, [], ◌∷◌}
use Rattle.ppm_lines.specs.declared.mark.Mark.{Mark}
use Rattle.ppm_lines.specs.declared.mark.Mark.TheVariants.{Fork, Take, Try, Won, Lost, Soft, Hard, Carries, Heir}
use Rattle.ppm_trace.specs.declared.counts.Counts.{Counts}

-- nothing yet
abbrev pub no_counts : Counts
no_counts = record { acts = 0; forks = 0; takes = 0; tries = 0; won = 0; lost = 0; soft = 0; hard = 0; takeovers = 0 }

-- a mark more; who carries a dead processor's place on has taken it over, and so has who goes on with its strand
abbrev pub marked : Counts → Mark → Counts
marked c Fork = record c { forks = c.forks + 1 }
marked c Take = record c { takes = c.takes + 1 }
marked c Try = record c { tries = c.tries + 1 }
marked c Won = record c { won = c.won + 1 }
marked c Lost = record c { lost = c.lost + 1 }
marked c Soft = record c { soft = c.soft + 1 }
marked c Hard = record c { hard = c.hard + 1 }
marked c Carries = record c { takeovers = c.takeovers + 1 }
marked c Heir = record c { takeovers = c.takeovers + 1 }
marked c _ = c

-- marks one after the other
abbrev pub all_marked : Counts → List Mark → Counts
all_marked c [] = c
all_marked c (mark ∷ marks) = all_marked (marked c mark) marks

-- a turn more, with these marks
abbrev pub counted : Counts → List Mark → Counts
counted c marks = all_marked (record c { acts = c.acts + 1 }) marks

-- no count is larger than all together
abbrev pub total : Counts → ℕ
total c = c.acts + c.forks + c.takes + c.tries + c.won + c.lost + c.soft + c.hard + c.takeovers
