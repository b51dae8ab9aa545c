-- How far a program passes a bound of the compiler, in words.
use Rattle.std.specs.Prelude.{ℕ, ◌-◌, ◌==◌, if◌then◌else◌, List, [], ◌∷◌, ◌++◌, codes, decimal, Option, Some, None}
use Rattle.ppm_tree.specs.Tree.{Procedure, ProgramTree}
use Rattle.ppm_cut_bounds.specs.Capsules.{capsule_bound}
use Rattle.ppm_cut_bounds.specs.Bounds.{limit_of, capsule_limit}
use Rattle.ppm_excess.specs.declared.passing.Counted.{Counted}
use Rattle.ppm_excess.specs.declared.passing.Counted.TheVariants as counted
use Rattle.ppm_excess.specs.declared.passing.Excess.{Excess}
use Rattle.ppm_excess.specs.declared.passing.Excess.TheVariants as excess
use Rattle.ppm_excess.specs.Excess.{bound_of, excess_of}
use Rattle.ppm_answers.specs.declared.refusal.Refusal.{Refusal}

-- a count after words, and the most that it may be
abbrev pub past_text : List ℕ → ℕ → ℕ → List ℕ
past_text words count limit = words ++ decimal count ++ codes ", at most " ++ decimal limit ++ codes "\n"

-- what is counted
abbrev pub counted_words : Counted → List ℕ
counted_words counted.Slots = codes "slots: "
counted_words counted.Outside = codes "names of outside: "

-- the line of an `each`
abbrev pub each_text : ℕ → List ℕ
each_text line = codes "each: line " ++ decimal line ++ codes "\n"

-- the count that passes the bound, and where it is that of an `each`, the line of this
abbrev pub excess_text : Counted → Excess → List ℕ
excess_text c (excess.Whole n) = past_text (counted_words c) n (limit_of (bound_of c))
excess_text c (excess.Each line n) = each_text line ++ past_text (counted_words c) n (limit_of (bound_of c))

-- that of a procedure, if one passes it there
abbrev pub found_excess : Counted → Option Excess → List ℕ
found_excess c None = []
found_excess c (Some e) = excess_text c e

-- the procedure with this number, from 0
abbrev pub procedure_at : ℕ → List Procedure → Option Procedure
procedure_at n [] = None
procedure_at n (p ∷ ps) = if n == 0 then Some p else procedure_at (n - 1) ps

-- what passes the bound first in a procedure
abbrev pub procedure_excess : Counted → Option Procedure → List ℕ
procedure_excess c None = []
procedure_excess c (Some p) = found_excess c (excess_of (bound_of c) p)

-- how many capsules there are
abbrev pub capsules_text : ProgramTree → List ℕ
capsules_text tree = past_text (codes "capsules: ") (capsule_bound tree) capsule_limit

-- the count that passes the bound of a refusal
abbrev pub count_text : ProgramTree → Refusal → List ℕ
count_text tree r =
    if r.number == 1 then procedure_excess counted.Slots (procedure_at r.place tree.procedures)
    else if r.number == 2 then capsules_text tree
    else if r.number == 3 then procedure_excess counted.Outside (procedure_at r.place tree.procedures)
    else []
