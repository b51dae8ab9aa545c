-- The strands of a code whose capsules may exchange array words.
use Rattle.std.specs.Prelude.{ℕ, [], ◌∷◌}
use Rattle.ppm_strands.specs.Tree.{Words}
use Rattle.ppm_unseen.specs.Capsule.{Code, Capsule as Racing, Ends as Stops}
use Rattle.ppm_unseen.specs.Run.{System}
use Rattle.ppm_code.specs.declared.location.FrameWord.{FrameWord}
use Rattle.ppm_code.specs.Strands.{Result}
use Rattle.ppm_filled.specs.Racing.{OwnWord, own_words, Place, At, HasTrapped, Exit, Tells, beginning, builds_at, exit_opens, rejoining}
use Rattle.ppm_racy.specs.declared.code.RacyParts.{RacyParts}
use Rattle.ppm_racy.specs.Capsules.{capsule_of}
use Rattle.ppm_racy.specs.Code.{instrs_of, plain_code}

module _ (code : RacyParts) (array_words : ℕ) where
  -- the capsule at a place
  abbrev pub capsule_at : Place → Racing OwnWord Exit
  capsule_at (At point) = capsule_of array_words (instrs_of code point.capsule)
  capsule_at (HasTrapped result) = Stops (Tells result)

  -- the code of its strands: what ends open, how frames go on and what capsules build are as with puts in place of its exchanges
  abbrev pub racy_code : Code OwnWord Place Exit Result
  racy_code = record {
    names = own_words;
    capsule = capsule_at;
    builds = builds_at (plain_code code);
    opens = exit_opens (plain_code code);
    rejoin = λ f results. rejoining (plain_code code) f.own f.point results;
  }

  -- the root's strand alone, with its own words, and the array words
  abbrev pub racy_system : (root : FrameWord → ℕ) → (arrays : Words) → System OwnWord Place Exit Result
  racy_system root arrays = record { code = racy_code; start = beginning (plain_code code) code.root root ∷ []; words = arrays }
