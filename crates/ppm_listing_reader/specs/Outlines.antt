-- What the rules ask of a code: its procedures, and of each capsule its procedure and how many instructions it has.
use Rattle.std.specs.Prelude.{ℕ, zero, suc, List, [], ◌∷◌, ◌++◌, map, length, Option, Some}
use Rattle.ppm_code.specs.declared.act.End.TheVariants.{Finish}
use Rattle.ppm_code.specs.declared.code.Capsule.{Capsule}
use Rattle.ppm_code.specs.declared.code.CodeParts.{CodeParts}
use Rattle.ppm_code.specs.declared.instr.Instr.{Instr}
use Rattle.ppm_code.specs.declared.instr.Instr.TheVariants.{Ends}
use Rattle.ppm_listing_reader.specs.declared.outline.Head.{Head}
use Rattle.ppm_listing_reader.specs.declared.part.Part.{Part}
use Rattle.ppm_listing_reader.specs.declared.part.Part.TheVariants as part

-- so many ends
abbrev pub ends : ℕ → List Instr
ends zero = []
ends (suc n) = Ends Finish ∷ ends n

-- a capsule of which no more is known than its head
abbrev pub blank : Head → Capsule
blank h = record { procedure = h.procedure; instrs = ends h.lines }

-- a capsule with ends in place of its instructions
abbrev pub blanked : Capsule → Capsule
blanked c = record { procedure = c.procedure; instrs = ends (length c.instrs) }

-- a code without its root, and with ends for all instructions: the rules of one hold of the other
abbrev pub outline_of : CodeParts → CodeParts
outline_of c = record { root = 0; arrays = []; procedures = c.procedures; capsules = map blanked c.capsules }

-- that of no lines
abbrev pub no_outline : CodeParts
no_outline = record { root = 0; arrays = []; procedures = []; capsules = [] }

-- the last capsule has an instruction more
abbrev pub longer : List Capsule → List Capsule
longer [] = []
longer (c ∷ []) = record { procedure = c.procedure; instrs = Ends Finish ∷ c.instrs } ∷ []
longer (c ∷ d ∷ cs) = c ∷ longer (d ∷ cs)

-- with a line more
abbrev pub added : CodeParts → Option Part → CodeParts
added o (Some (part.Procedure i slots entry)) = record {
  root = 0;
  arrays = [];
  procedures = o.procedures ++ record { slots = slots; entry = entry } ∷ [];
  capsules = longer o.capsules;
}
added o (Some (part.Capsule c procedure)) = record {
  root = 0;
  arrays = [];
  procedures = o.procedures;
  capsules = o.capsules ++ record { procedure = procedure; instrs = [] } ∷ [];
}
added o l = record { root = 0; arrays = []; procedures = o.procedures; capsules = longer o.capsules }

-- that of some lines, from what those before them declare
abbrev pub outlined : CodeParts → List (Option Part) → CodeParts
outlined o [] = o
outlined o (l ∷ ls) = outlined (added o l) ls
