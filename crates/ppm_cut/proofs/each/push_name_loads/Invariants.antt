use Rattle.std.proofs.Common.{◌≡◌, ◌++◌, ◌+◌, drop}
use Rattle.ppm_cut_code.specs.Statements.{Instrs, loads_code}
use Rattle.ppm_cut.proofs.each.push_name_loads.Given as goal

-- what was appended, and what is left
abbrev pub invariant-loop-mention : goal.invariant-loop-mention
invariant-loop-mention l =
    ((rest : Instrs) → l.initial.body.items ++ loads_code l.layout l.mention-items l.number rest
    ≡ l.body.items ++ loads_code l.layout (drop l.mention-index l.mention-items) l.to rest)
    × (l.to ≡ l.number + l.mention-index)
