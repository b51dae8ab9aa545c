-- A code whose strands race and whose faults are invisible: two branches clear one array word, and each reads what stands there.
use Rattle.std.proofs.Common.{ℕ, List, [], ◌∷◌, None, refl, ltb-true}
use Rattle.ppm_strands.specs.Tree.{Words}
use Rattle.ppm_unseen.specs.Conditions.{Stands}
use Rattle.ppm_unseen.specs.Correct.{FaultsAreInvisible}
use Rattle.ppm_code.specs.declared.act.End.TheVariants.{Finish, Fork}
use Rattle.ppm_code.specs.declared.code.CodeParts.{CodeParts}
use Rattle.ppm_code.specs.declared.instr.Instr.{Instr}
use Rattle.ppm_code.specs.declared.instr.Instr.TheVariants.{LoadSlot, Put, Get, Give, Room, StoreNew, Ends}
use Rattle.ppm_code.specs.declared.location.FrameWord.{FrameWord}
use Rattle.ppm_code.specs.declared.register.Register.{Register}
use Rattle.ppm_filled.specs.Correct.{HasFilledPaths}
use Rattle.ppm_filled.specs.Racing.{racing_system}

abbrev pub r0 : Register
r0 = record { index = 0; in_range = ltb-true 0 64 refl }

abbrev pub r1 : Register
r1 = record { index = 1; in_range = ltb-true 1 64 refl }

abbrev pub r2 : Register
r2 = record { index = 2; in_range = ltb-true 2 64 refl }

-- the root forks two branches, each with its region
abbrev pub fork_two : List Instr
fork_two = Room 19 ∷ LoadSlot r0 0 ∷ StoreNew 11 r0 ∷ StoreNew 18 r0 ∷ Ends (Fork 1 1 1 None None) ∷ []

-- a branch puts 0 to the first word of the region, which is a race; it reads the word, which is a race too, and gives what it reads
abbrev pub clear_and_give : List Instr
clear_and_give = LoadSlot r0 0 ∷ Put r0 r1 r1 1 ∷ Get r2 r0 r1 1 ∷ Give r2 ∷ Ends Finish ∷ []

abbrev pub clearing : CodeParts
clearing = record {
  root = 0;
  arrays = 0 ∷ [];
  procedures = record { slots = 1; entry = 0 } ∷ record { slots = 1; entry = 2 } ∷ [];
  capsules =
      record { procedure = 0; instrs = fork_two } ∷ record { procedure = 0; instrs = Ends Finish ∷ [] } ∷ record { procedure = 1; instrs = clear_and_give } ∷ [];
}

-- it meets both premises of the law on filled paths, whatever words its root and its arrays begin with
pub record ClearingMeetsBoth : Type 0 where
  pub filled : HasFilledPaths clearing
  pub stands : (array_words : ℕ) (root : FrameWord → ℕ) (arrays : Words) → Stands (racing_system clearing array_words root arrays)

-- faults of the code that clears are invisible
abbrev pub FaultsOfClearingAreInvisible : Type 0
FaultsOfClearingAreInvisible = (array_words : ℕ) (root : FrameWord → ℕ) (arrays : Words) → FaultsAreInvisible (racing_system clearing array_words root arrays)
