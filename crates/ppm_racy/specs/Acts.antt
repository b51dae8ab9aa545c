-- What the instructions of capsules that may race do.
use Rattle.std.specs.Prelude.{ℕ, List}
use Rattle.ppm_code.specs.declared.act.Act.{Act}
use Rattle.ppm_code.specs.declared.act.Act.TheVariants.{Steps}
use Rattle.ppm_code.specs.declared.act.Step.TheVariants.{Stores}
use Rattle.ppm_code.specs.declared.instr.Instr.{Instr}
use Rattle.ppm_code.specs.declared.instr.Instr.TheVariants.{Put}
use Rattle.ppm_code.specs.declared.location.Location.TheVariants.{Array}
use Rattle.ppm_code.specs.Acts.{held, does as plainly}
use Rattle.ppm_racy.specs.declared.instr.RacyInstr.{RacyInstr}
use Rattle.ppm_racy.specs.declared.instr.RacyInstr.TheVariants.{Plain, Cam}
use Rattle.ppm_racy.specs.declared.instr.RacyAct.{RacyAct}
use Rattle.ppm_racy.specs.declared.instr.RacyAct.TheVariants.{Plain as Acts, Exchanges}

-- an instruction, with a put in place of a compare-and-modify
abbrev pub plain_of : RacyInstr → Instr
plain_of (Plain i) = i
plain_of (Cam region index old new line) = Put region index new line

-- where that put stores a word, the compare-and-modify exchanges it; it traps where the put does
abbrev pub exchanging : (old : ℕ) → Act → RacyAct
exchanging old (Steps (Stores (Array x) new)) = Exchanges x old new
exchanging old act = Acts act

-- what an instruction does where the registers hold these words and there are so many array words
abbrev pub does : (array_words : ℕ) → RacyInstr → List ℕ → RacyAct
does array_words (Plain i) g = Acts (plainly array_words i g)
does array_words (Cam region index old new line) g = exchanging (held g old) (plainly array_words (Put region index new line) g)
