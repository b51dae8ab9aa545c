-- Codes are told by their lines.
use Rattle.std.proofs.Common.{◌≡◌, ◌∙◌, ℕ, ◌+◌, Bool, true, false, List, [], ◌∷◌, ◌++◌, length, map, drop, refl, sym, ap, arith}
use Rattle.std.specs.Prelude.{pos}
use Rattle.ppm_code.specs.declared.code.Procedure.{Procedure}
use Rattle.ppm_code.specs.declared.code.Capsule.{Capsule}
use Rattle.ppm_code.specs.declared.code.CodeParts.{CodeParts}
use Rattle.ppm_code.specs.declared.instr.Instr.{Instr}
use Rattle.ppm_listing.specs.declared.keyword.Keyword.{Keyword}
use Rattle.ppm_listing.specs.declared.keyword.Keyword.TheVariants as keyword
use Rattle.ppm_listing.specs.declared.token.Token.{Token}
use Rattle.ppm_listing.specs.declared.token.Token.TheVariants.{Number}
use Rattle.ppm_listing.specs.Tokens.{Line}
use Rattle.ppm_listing.specs.Listing.{number, instr_line, procedure_lines, capsule_lines, lines_of}
use Rattle.ppm_listing.specs.Correct.{ListingsTellCodes}
use Rattle.ppm_listing.proofs.TokenLemmas.{not_both}
use Rattle.ppm_listing.proofs.TextLemmas.{cons_path, text_of_injective}
use Rattle.ppm_listing.proofs.InstrLemmas.{instr_line_injective, begins_instr, begins_instr-instr_line}

-- the number of a token, or any
abbrev value : Token → ℕ
value (Number (pos n)) = n
value _ = 0

values-numbers : (ns : List ℕ) → map value (map number ns) ≡ ns
values-numbers [] = refl
values-numbers (n ∷ ns) = cons_path refl (values-numbers ns)

-- the tokens of the first line
abbrev first_operands : List Line → List Token
first_operands [] = []
first_operands (l ∷ ls) = l.operands

-- what a procedure's line says of it, and what a capsule's
abbrev procedure_of : List Token → Procedure
procedure_of (i ∷ x ∷ s ∷ y ∷ k ∷ []) = record { slots = value s; entry = value k }
procedure_of _ = record { slots = 0; entry = 0 }

abbrev capsule_procedure : List Token → ℕ
capsule_procedure (i ∷ x ∷ p ∷ []) = value p
capsule_procedure _ = 0

-- what the root's line says
abbrev root_of : List Token → ℕ
root_of [] = 0
root_of (t ∷ ts) = value t

-- whether the first line is there and is that of a procedure
abbrev begins_procedure : List Line → Bool
begins_procedure [] = false
begins_procedure (l ∷ ls) = is_procedure l.keyword
  where
    is_procedure : Keyword → Bool
    is_procedure keyword.Proc = true
    is_procedure _ = false

-- lines of capsules begin with none, and with no instruction
no_procedure : (cs : List Capsule) → begins_procedure (capsule_lines 0 cs) ≡ false
no_procedure [] = refl
no_procedure (c ∷ cs) = refl

no_instr : (from : ℕ) (cs : List Capsule) → begins_instr (capsule_lines from cs) ≡ false
no_instr from [] = refl
no_instr from (c ∷ cs) = refl

-- procedures are told by their lines, in front of those of capsules
same_procedures : (from : ℕ) (ps qs : List Procedure) (cs ds : List Capsule)
    → procedure_lines from ps ++ capsule_lines 0 cs ≡ procedure_lines from qs ++ capsule_lines 0 ds
    → (ps ≡ qs) × (capsule_lines 0 cs ≡ capsule_lines 0 ds)
same_procedures from [] [] cs ds e = (refl, e)
same_procedures from [] (q ∷ qs) cs ds e = absurd (not_both (sym (ap begins_procedure e) ∙ no_procedure cs))
same_procedures from (p ∷ ps) [] cs ds e = absurd (not_both (ap begins_procedure e ∙ no_procedure ds))
same_procedures from (p ∷ ps) (q ∷ qs) cs ds e =
    let (left, after) = same_procedures (from + 1) ps qs cs ds (ap (drop 1) e) in
    (cons_path (ap (λ (ls : List Line). procedure_of (first_operands ls)) e) left, after)

-- instructions are told by their lines, in front of such as begin with none
same_instrs : (is js : List Instr) (rest more : List Line) → begins_instr rest ≡ false → begins_instr more ≡ false
    → map instr_line is ++ rest ≡ map instr_line js ++ more → (is ≡ js) × (rest ≡ more)
same_instrs [] [] rest more g h e = (refl, e)
same_instrs [] (j ∷ js) rest more g h e =
    absurd (not_both (sym (begins_instr-instr_line j (map instr_line js ++ more)) ∙ sym (ap begins_instr e) ∙ g))
same_instrs (i ∷ is) [] rest more g h e =
    absurd (not_both (sym (begins_instr-instr_line i (map instr_line is ++ rest)) ∙ ap begins_instr e ∙ h))
same_instrs (i ∷ is) (j ∷ js) rest more g h e =
    let (left, after) = same_instrs is js rest more g h (ap (drop 1) e) in
    (cons_path (instr_line_injective i j (ap (first_of (instr_line i)) e)) left, after)
  where
    first_of : Line → List Line → Line
    first_of l [] = l
    first_of l (m ∷ ms) = m

-- capsules are told by their lines
same_capsules : (from : ℕ) (cs ds : List Capsule) → capsule_lines from cs ≡ capsule_lines from ds → cs ≡ ds
same_capsules from [] [] e = refl
same_capsules from [] (d ∷ ds) e = absurd (omega (arith, ap length e))
same_capsules from (c ∷ cs) [] e = absurd (omega (arith, ap length e))
same_capsules from (c ∷ cs) (d ∷ ds) e =
    let procedures = ap (λ (ls : List Line). capsule_procedure (first_operands ls)) e in
    let (instrs, after) = same_instrs c.instrs d.instrs (capsule_lines (from + 1) cs) (capsule_lines (from + 1) ds) (no_instr (from + 1) cs)
    (no_instr (from + 1) ds) (ap (drop 1) e) in
    cons_path (λ i. record { procedure = procedures i; instrs = instrs i }) (same_capsules (from + 1) cs ds after)

-- codes are told by their lines
same_code : (c d : CodeParts) → lines_of c ≡ lines_of d → c ≡ d
same_code c d e =
    let roots = ap (λ (ls : List Line). first_operands (drop 1 ls)) e in
    let (procedures, after) = same_procedures 0 c.procedures d.procedures c.capsules d.capsules (ap (drop 2) e) in
    let capsules = same_capsules 0 c.capsules d.capsules after in
    let root = ap root_of roots in
    let arrays = sym (values-numbers c.arrays) ∙ ap (λ (ts : List Token). map value (drop 1 ts)) roots ∙ values-numbers d.arrays in
    λ i. record { root = root i; arrays = arrays i; procedures = procedures i; capsules = capsules i }

-- a listing tells its code
pub listing_tells_code : ListingsTellCodes
listing_tells_code c d g h e = same_code c d (text_of_injective (lines_of c) (lines_of d) g h e)
