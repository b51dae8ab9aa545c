-- Whose turn it is: first the turns of a schedule, then all strands in rounds, by their numbers.
use Rattle.std.specs.Prelude.{ℕ, ◌+◌, ◌^◌, nat_lt, ◌&&◌, if◌then◌else◌, List, [], ◌∷◌, ◌++◌, replicate, Option}
use Rattle.ppm_unseen.specs.Run.{System, Deed, HasFinished, count}
use Rattle.ppm_code.specs.Strands.{Result}
use Rattle.ppm_filled.specs.Racing.{OwnWord, Place, Exit}
use Rattle.ppm_plan.specs.declared.strand_item.StrandAct.{StrandAct}
use Rattle.ppm_plan.specs.declared.strand_item.StrandAct.TheVariants as act
use Rattle.ppm_plan.specs.declared.strand_item.StrandItem.{StrandItem}
use Rattle.ppm_interleaving.specs.declared.deed.Turn.{Turn}
use Rattle.ppm_interleaving.specs.declared.deed.Turn.TheVariants.{Step, Fault}
use Rattle.ppm_interleaving.specs.Turns.{Moment, moment, deeds}

-- the turn of an act, and those that the items of a schedule stand for, in order
abbrev pub turn_of : StrandAct → Turn
turn_of (act.Step c) = Step c
turn_of (act.Fails c) = Fault c

abbrev pub turns_of : List StrandItem → List Turn
turns_of [] = []
turns_of (i ∷ items) = replicate i.times (turn_of i.act) ++ turns_of items

-- so many of a turn, and those of items
abbrev pub left_of : Turn → (times : ℕ) → List StrandItem → List Turn
left_of turn times items = replicate times turn ++ turns_of items

-- which of so many strands comes next in a round: the one with this number, or else the first; none has a turn in rounds past number 2^32 - 1
abbrev pub whose : (next strands : ℕ) → ℕ
whose next strands = if nat_lt next strands && nat_lt next (2 ^ 32) then next else 0

-- the turn that comes next where there are so many strands: of those that are left of the schedule the first; after them, of the strand whose turn it
-- is in the round. And what is left then, and the number that comes next in the round.
pub data IsNext : (left : List Turn) → (next strands : ℕ) → Turn → (after : List Turn) → (then_next : ℕ) → Type 0 where
  OfSchedule : (t : Turn) (left : List Turn) (next strands : ℕ) → IsNext (t ∷ left) next strands t left next
  OfRound : (next strands : ℕ) → IsNext [] next strands (Step (whose next strands)) [] (whose next strands + 1)

module _ (s : System OwnWord Place Exit Result) where
  -- the root's strand is not over after these moments
  abbrev pub GoesOn : List Moment → Type 0
  GoesOn h = (result : Result) → HasFinished 0 result (deeds h) → ⊥

  -- moments, of which the last one comes first, whose turns come in this order; and what comes next. No turn is made once the root's strand is over.
  pub data InOrder (schedule : List Turn) : List Moment → (left : List Turn) → (next : ℕ) → Type 0 where
    Begins : InOrder schedule [] schedule 0
    Makes : {h : List Moment} {left after : List Turn} {next then_next : ℕ} (turn : Turn) (d : Option (Deed OwnWord Place Result))
        → InOrder schedule h left next → GoesOn h → IsNext left next (count s (deeds h)) turn after then_next
        → InOrder schedule (moment turn d ∷ h) after then_next
