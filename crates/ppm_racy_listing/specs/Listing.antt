-- The listing of a code with exchanges.
use Rattle.std.specs.Prelude.{ℕ, ◌+◌, List, [], ◌∷◌, ◌++◌, codes}
use Rattle.std.specs.List.{flat_map}
use Rattle.ppm_code.specs.declared.register.Register.{Register}
use Rattle.ppm_listing.specs.declared.keyword.Keyword.TheVariants as keyword
use Rattle.ppm_listing.specs.declared.token.Token.TheVariants.{Name, Register as RegisterToken}
use Rattle.ppm_listing.specs.Tokens.{Line, line, line_text, operand_text}
use Rattle.ppm_listing.specs.Listing.{number, instr_line, root_line, procedure_lines, text_of}
use Rattle.ppm_racy.specs.declared.instr.RacyInstr.{RacyInstr}
use Rattle.ppm_racy.specs.declared.instr.RacyInstr.TheVariants.{Plain, Cam}
use Rattle.ppm_racy.specs.declared.code.RacyCapsule.{RacyCapsule}
use Rattle.ppm_racy.specs.declared.code.RacyParts.{RacyParts}

-- the line of an exchange: its four registers, and the line of the source where it traps
abbrev pub cam_text : (region index old new : Register) → (source_line : ℕ) → List ℕ
cam_text region index old new source_line = codes "cam"
    ++ flat_map operand_text (RegisterToken region ∷ RegisterToken index ∷ RegisterToken old ∷ RegisterToken new ∷ number source_line ∷ []) ++ 10 ∷ []

-- the line of an instruction
abbrev pub instr_text : RacyInstr → List ℕ
instr_text (Plain i) = line_text (instr_line i)
instr_text (Cam region index old new source_line) = cam_text region index old new source_line

-- the lines of a capsule with its number, and of its instructions
abbrev pub capsule_text : ℕ → RacyCapsule → List ℕ
capsule_text capsule c =
    line_text (line keyword.Capsule (number capsule ∷ Name keyword.Proc ∷ number c.procedure ∷ [])) ++ flat_map instr_text c.instrs

-- those of capsules, numbered from one on
abbrev pub capsules_text : ℕ → List RacyCapsule → List ℕ
capsules_text from [] = []
capsules_text from (c ∷ cs) = capsule_text from c ++ capsules_text (from + 1) cs

-- the lines before all capsules, which are those of a listing
abbrev pub head_lines : RacyParts → List Line
head_lines code = line keyword.Ppm (number 1 ∷ []) ∷ root_line code.root code.arrays ∷ procedure_lines 0 code.procedures

-- the listing of a code
abbrev pub racy_listing_of : RacyParts → List ℕ
racy_listing_of code = text_of (head_lines code) ++ capsules_text 0 code.capsules
