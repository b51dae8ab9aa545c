-- The code of the program of a text is faithful, by the laws of the compiler's code.
use Rattle.std.proofs.Common.{ℕ, List}
use Rattle.ppm_tree.specs.Tree.{ProgramTree}
use Rattle.ppm_tree.specs.Limits.{IsWithin}
use Rattle.ppm_rows.specs.Correct.{TreesAreWithin}
use Rattle.ppm_cut_code.specs.Correct.{KeepsTheRules}
use Rattle.ppm_cut_sound.specs.Correct.{MayBeStopped, StoresTidily, CodeIsSound}
use Rattle.ppm_cut_correct.specs.Correct.{EndAsMeant}
use Rattle.ppm_program.proofs.WithinLemmas.{tree_within}
use Rattle.ppm_commands.specs.Code.{CodesAreFaithful}

-- what the crates below show of every text and of every program's code
pub record Laws : Type 0 where
  pub within : TreesAreWithin
  pub rules : KeepsTheRules
  pub stops : MayBeStopped
  pub tidy : StoresTidily
  pub sound : CodeIsSound
  pub ends : EndAsMeant

pub faithful : Laws → CodesAreFaithful
faithful laws text t program =
    let within : IsWithin t = tree_within laws.within text t program.admitted.tree in
    record {
      rules = laws.rules t within program.admitted.admitted program.bounded;
      free = laws.stops t program.admitted.admitted;
      tidy = laws.tidy t program.admitted.admitted;
      sound = laws.sound t within program.admitted.admitted program.bounded;
      ends_as_meant = laws.ends t within program.admitted.admitted program.bounded;
    }
