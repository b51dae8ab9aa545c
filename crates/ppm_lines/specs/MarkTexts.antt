-- How marks are written.
use Rattle.std.specs.Prelude.{ℕ, List, ◌++◌, codes}
use Rattle.ppm_lines.specs.declared.mark.Mark.{Mark}
use Rattle.ppm_lines.specs.declared.mark.Mark.TheVariants.{Fork, Push, Pop, Try, Inherit, Won, Heir, Lost, Take, First, Last, Inline}
use Rattle.ppm_lines.specs.declared.mark.Mark.TheVariants.{Bid, Carries, Outbid, Soft, Hard, End, Done}

-- the word of a mark
abbrev pub mark_word : Mark → List ℕ
mark_word Fork = codes "fork"
mark_word Push = codes "push"
mark_word Pop = codes "pop"
mark_word Try = codes "try"
mark_word Inherit = codes "inherit"
mark_word Won = codes "won"
mark_word Heir = codes "heir"
mark_word Lost = codes "lost"
mark_word Take = codes "take"
mark_word First = codes "first"
mark_word Last = codes "last"
mark_word Inline = codes "inline"
mark_word Bid = codes "bid"
mark_word Carries = codes "carries"
mark_word Outbid = codes "outbid"
mark_word Soft = codes "soft"
mark_word Hard = codes "hard"
mark_word End = codes "end"
mark_word Done = codes "done"

-- a blank, `!` and the word
abbrev pub mark_text : Mark → List ℕ
mark_text mark = codes " !" ++ mark_word mark
