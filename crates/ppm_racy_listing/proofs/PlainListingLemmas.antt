-- A code without exchanges has the listing that it has without this crate.
use Rattle.std.proofs.Common.{◌≡◌, ℕ, ◌+◌, List, [], ◌∷◌, ◌++◌, refl, ap, sym, ◌∙◌}
use Rattle.std.specs.Prelude.{map}
use Rattle.std.specs.List.{flat_map}
use Rattle.std.proofs.lemmas.Grind.{flat_map-append}
use Rattle.ppm_code.specs.declared.code.Capsule.{Capsule}
use Rattle.ppm_code.specs.declared.instr.Instr.{Instr}
use Rattle.ppm_listing.specs.Tokens.{line_text}
use Rattle.ppm_listing.specs.Listing.{instr_line, capsule_line, capsule_lines, lines_of_capsule, text_of}
use Rattle.ppm_racy.specs.declared.instr.RacyInstr.TheVariants.{Plain}
use Rattle.ppm_racy.specs.Code.{as_racy, racy_capsule}
use Rattle.ppm_racy_listing.specs.Listing.{instr_text, capsule_text, capsules_text, head_lines}
use Rattle.ppm_racy_listing.specs.Correct.{PlainListingsStay}

instrs : (is : List Instr) → flat_map instr_text (map Plain is) ≡ text_of (map instr_line is)
instrs [] = refl
instrs (i ∷ is) = ap (λ (text : List ℕ). line_text (instr_line i) ++ text) (instrs is)

capsule : (number : ℕ) (c : Capsule) → capsule_text number (racy_capsule c) ≡ text_of (lines_of_capsule number c)
capsule number c = ap (λ (text : List ℕ). line_text (capsule_line number c) ++ text) (instrs c.instrs)

capsules : (from : ℕ) (cs : List Capsule) → capsules_text from (map racy_capsule cs) ≡ text_of (capsule_lines from cs)
capsules from [] = refl
capsules from (c ∷ cs) =
    (λ i. capsule from c i ++ capsules (from + 1) cs i) ∙ sym (flat_map-append line_text (lines_of_capsule from c) (capsule_lines (from + 1) cs))

pub plain_listings : PlainListingsStay
plain_listings code =
    ap (λ (text : List ℕ). text_of (head_lines (as_racy code)) ++ text) (capsules 0 code.capsules)
    ∙ sym (flat_map-append line_text (head_lines (as_racy code)) (capsule_lines 0 code.capsules))
