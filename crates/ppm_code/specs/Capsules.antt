-- The capsule that instructions make, from one of them on.
use Rattle.std.specs.Prelude.{◌<◌, ◌≤◌, ℕ, zero, suc, ◌+◌, ◌-◌, max, List, [], ◌∷◌, replicate, slice_set}
use Rattle.ppm_strands.specs.Capsule.{Capsule, Reads, Writes, Asks as AsksFor, Ends}
use Rattle.ppm_code.specs.declared.act.Step.{Step}
use Rattle.ppm_code.specs.declared.act.Step.TheVariants.{Loads, Stores, Asks}
use Rattle.ppm_code.specs.declared.act.End.{End}
use Rattle.ppm_code.specs.declared.act.End.TheVariants.{Finish}
use Rattle.ppm_code.specs.declared.act.Act.{Act}
use Rattle.ppm_code.specs.declared.act.Act.TheVariants.{Sets, Passes, Jumps, Steps, Ends as Stops}
use Rattle.ppm_code.specs.declared.instr.Instr.{Instr}
use Rattle.ppm_code.specs.declared.work.Reached.{Reached}
use Rattle.ppm_code.specs.declared.work.Reached.TheVariants.{Before, AtEnd}
use Rattle.ppm_code.specs.Acts.{does}
use Rattle.ppm_code.specs.Locations.{Where, location_of}

-- a step, where `go` is how the capsule goes on at an instruction with the registers then, and `next` the instruction after this one
abbrev pub at_step : (ℕ → List ℕ → Capsule Where End) → (next : ℕ) → Step → List ℕ → Capsule Where End
at_step go next (Loads l d) g = Reads (location_of l) (λ v. go next (slice_set g d.index v))
at_step go next (Stores l v) g = Writes (location_of l) v (go next g)
at_step go next (Asks n) g = AsksFor n (go next g)

-- an act, where `next` is the instruction after this one; a branch that does not lead forward goes on at the next instruction
abbrev pub at_act : (ℕ → List ℕ → Capsule Where End) → (next : ℕ) → Act → List ℕ → Capsule Where End
at_act go next (Sets d v) g = go next (slice_set g d.index v)
at_act go next Passes g = go next g
at_act go next (Jumps t) g = go (max t next) g
at_act go next (Steps s) g = at_step go next s g
at_act go next (Stops e) g = Ends e

-- the capsule from the instruction past the next `skip` of those that are left; `here` is the number of the first of these
abbrev pub capsule_from : (array_words here skip : ℕ) → List Instr → List ℕ → Capsule Where End
capsule_from array_words here skip [] g = Ends Finish
capsule_from array_words here (suc skip) (i ∷ is) g = capsule_from array_words (here + 1) skip is g
capsule_from array_words here zero (i ∷ is) g =
    at_act (λ t h. capsule_from array_words (here + 1) (t - (here + 1)) is h) (here + 1) (does array_words i g) g

-- the capsule of instructions: from the first on, with 0 in all registers
abbrev pub capsule_of : (array_words : ℕ) → List Instr → Capsule Where End
capsule_of array_words is = capsule_from array_words 0 0 is (replicate 64 0)

-- what is left of it at a step or end that register work came to
abbrev pub reached : (array_words : ℕ) → List Instr → (next : ℕ) → Reached → List ℕ → Capsule Where End
reached array_words is next (Before s) g = at_step (λ t h. capsule_from array_words 0 t is h) next s g
reached array_words is next (AtEnd e) g = Ends e

-- a step stands at or after the instruction from which it was looked for
abbrev pub GoesOn : (from length next : ℕ) → Reached → Type 0
GoesOn from length next (Before s) = (from < next) × (next ≤ length)
GoesOn from length next (AtEnd e) = Unit {0}
