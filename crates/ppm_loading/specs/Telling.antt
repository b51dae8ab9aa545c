-- What answers tell of a case: where an instruction of it stands in the text, the counts of its run, its first store that is not tidy, and what is asked
-- of a code before it is run.
use Rattle.std.specs.Prelude.{◌≡◌, ℕ, ◌+◌, List, [], ◌∷◌, length, take}
use Rattle.ppm_words.specs.declared.named_array.NamedArray.{NamedArray}
use Rattle.ppm_code.specs.declared.code.Capsule.{Capsule}
use Rattle.ppm_code.specs.declared.code.CodeParts.{CodeParts}
use Rattle.ppm_code.specs.Free.{IsFree}
use Rattle.ppm_code.specs.Tidy.{IsTidy}
use Rattle.ppm_war.specs.declared.untidy_store.UntidyStore.{UntidyStore}
use Rattle.ppm_war.specs.Untidy.{IsFirstUntidyOf}
use Rattle.ppm_depth.specs.Run.{IsNotWithin}
use Rattle.ppm_depth.specs.declared.depth.DepthRun.{DepthRun}
use Rattle.ppm_answers.specs.declared.case.UntidyStore.{UntidyStore as ToldStore}
use Rattle.ppm_answers.specs.declared.counts.Counts.{Counts}

-- how many lines capsules have in a listing: one each, and one for each instruction
abbrev pub capsule_lines : List Capsule → ℕ
capsule_lines [] = 0
capsule_lines (c ∷ capsules) = 1 + length c.instrs + capsule_lines capsules

-- The line of a case in which an instruction of a capsule stands, where so many arrays stand in front of the listing. Lines count from 1: after the arrays
-- come two lines of the listing's own, the procedures, the capsules before this one, its head, and its instructions.
abbrev pub line_at : (arrays : ℕ) → CodeParts → (capsule at : ℕ) → ℕ
line_at arrays code capsule at = arrays + 2 + length code.procedures + capsule_lines (take capsule code.capsules) + 1 + at + 1

-- the counts of a run as an answer tells them
abbrev pub counts_told : DepthRun → Counts
counts_told run = record { capsules = run.capsules; forks = run.forks; pool_words = run.pool_words }

-- a store that is not tidy as an answer tells it
abbrev pub store_told : (arrays : ℕ) → CodeParts → UntidyStore → ToldStore
store_told arrays code s = record { capsule = s.capsule; store = s.at; line = line_at arrays code s.capsule s.at }

-- the code has a store that is not tidy, and this is the first
pub record IsUntidy (code : CodeParts) (input : List NamedArray) (told : ToldStore) : Type 0 where
  pub store : UntidyStore
  pub first : IsFirstUntidyOf code store
  pub tells : told ≡ store_told (length input) code store

-- a tidy code takes more capsules than that: no end has fewer, and after the first so many another is next
pub record GoesOn (capsules : ℕ) (code : CodeParts) (input : List NamedArray) : Type 0 where
  pub tidy : IsTidy code
  pub run : DepthRun
  pub more : IsNotWithin code input capsules run

-- what is asked of a code before it is run: no capsule has a conflict, and it is tidy
pub record MayBeRun (code : CodeParts) : Type 0 where
  pub free : IsFree code
  pub tidy : IsTidy code
