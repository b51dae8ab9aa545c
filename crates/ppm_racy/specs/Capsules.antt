-- The capsule that instructions make where strands may race, from one of them on.
use Rattle.std.specs.Prelude.{◌<◌, ◌≤◌, ℕ, zero, suc, ◌+◌, ◌-◌, max, List, [], ◌∷◌, map, replicate, slice_set}
use Rattle.ppm_unseen.specs.Capsule.{Capsule as Racing, Loads as LoadsOwn, Keeps, Reads as Finds, Changes, constant, exchange}
use Rattle.ppm_code.specs.declared.act.Step.{Step}
use Rattle.ppm_code.specs.declared.act.Step.TheVariants.{Loads, Stores, Asks}
use Rattle.ppm_code.specs.declared.act.End.TheVariants.{Finish}
use Rattle.ppm_code.specs.declared.act.Act.TheVariants.{Sets, Passes, Jumps, Steps, Ends as Stops}
use Rattle.ppm_code.specs.declared.location.Location.{Location}
use Rattle.ppm_code.specs.declared.location.Location.TheVariants.{Frame, New, Array}
use Rattle.ppm_filled.specs.Racing.{OwnWord, OfFrame, OfBlock, Exit, ending, built_by}
use Rattle.ppm_racy.specs.declared.instr.RacyInstr.{RacyInstr}
use Rattle.ppm_racy.specs.declared.instr.RacyAct.{RacyAct}
use Rattle.ppm_racy.specs.declared.instr.RacyAct.TheVariants.{Plain, Exchanges}
use Rattle.ppm_racy.specs.declared.touch.Touch.{Touch}
use Rattle.ppm_racy.specs.declared.touch.Touch.TheVariants as touch
use Rattle.ppm_racy.specs.Acts.{does, plain_of}

-- how a capsule goes on at an instruction, with the registers then
abbrev pub Going : Type 0
Going = ℕ → List ℕ → Racing OwnWord Exit

-- a word is loaded, from its location, and the capsule goes on by it; words of the frame and of the new block are the strand's own
abbrev pub loading : Location → (ℕ → Racing OwnWord Exit) → Racing OwnWord Exit
loading (Frame k) go = LoadsOwn (OfFrame k) go
loading (New o) go = LoadsOwn (OfBlock o) go
loading (Array x) go = Finds x go

-- a word is stored
abbrev pub storing : Location → ℕ → Racing OwnWord Exit → Racing OwnWord Exit
storing (Frame k) v rest = Keeps (OfFrame k) v rest
storing (New o) v rest = Keeps (OfBlock o) v rest
storing (Array x) v rest = Changes x (constant v) rest

-- a step, where `next` is the instruction after this one; to ask for room is none
abbrev pub at_step : Going → (next : ℕ) → Step → List ℕ → Racing OwnWord Exit
at_step go next (Loads l d) g = loading l (λ v. go next (slice_set g d.index v))
at_step go next (Stores l v) g = storing l v (go next g)
at_step go next (Asks n) g = go next g

module _ (block : List OwnWord) where
  -- an act, where `next` is the instruction after this one; a branch that does not lead forward goes on at the next instruction
  abbrev pub at_act : Going → (next : ℕ) → RacyAct → List ℕ → Racing OwnWord Exit
  at_act go next (Plain (Sets d v)) g = go next (slice_set g d.index v)
  at_act go next (Plain Passes) g = go next g
  at_act go next (Plain (Jumps t)) g = go (max t next) g
  at_act go next (Plain (Steps s)) g = at_step go next s g
  at_act go next (Plain (Stops e)) g = ending block e
  at_act go next (Exchanges x old new) g = Changes x (exchange old new) (go next g)

  -- the capsule from the instruction past the next `skip` of those that are left; `here` is the number of the first of these
  abbrev pub capsule_from : (array_words here skip : ℕ) → List RacyInstr → List ℕ → Racing OwnWord Exit
  capsule_from array_words here skip [] g = ending block Finish
  capsule_from array_words here (suc skip) (i ∷ is) g = capsule_from array_words (here + 1) skip is g
  capsule_from array_words here zero (i ∷ is) g =
      at_act (λ t h. capsule_from array_words (here + 1) (t - (here + 1)) is h) (here + 1) (does array_words i g) g

  -- what is left of it where register work came to a touch of a word, or to an end
  abbrev pub reached : (array_words : ℕ) → List RacyInstr → (next : ℕ) → Touch → List ℕ → Racing OwnWord Exit
  reached array_words is next (touch.Loads l d) g = loading l (λ v. capsule_from array_words 0 next is (slice_set g d.index v))
  reached array_words is next (touch.Stores l v) g = storing l v (capsule_from array_words 0 next is g)
  reached array_words is next (touch.Exchanges x old new) g = Changes x (exchange old new) (capsule_from array_words 0 next is g)
  reached array_words is next (touch.Ends e) g = ending block e

-- what instructions may store of the block that they build: an exchange stores none of it
abbrev pub built : List RacyInstr → List OwnWord
built is = built_by (map plain_of is)

-- the capsule of instructions: from the first on, with 0 in all registers
abbrev pub capsule_of : (array_words : ℕ) → List RacyInstr → Racing OwnWord Exit
capsule_of array_words is = capsule_from (built is) array_words 0 0 is (replicate 64 0)

-- the location is none past the array words
abbrev pub IsWithin : (array_words : ℕ) → Location → Type 0
IsWithin array_words (Array x) = x < array_words
IsWithin array_words l = Unit {0}

-- and a touch touches none
abbrev pub TouchesWithin : (array_words : ℕ) → Touch → Type 0
TouchesWithin array_words (touch.Loads l d) = IsWithin array_words l
TouchesWithin array_words (touch.Stores l v) = IsWithin array_words l
TouchesWithin array_words (touch.Exchanges x old new) = x < array_words
TouchesWithin array_words (touch.Ends e) = Unit {0}
