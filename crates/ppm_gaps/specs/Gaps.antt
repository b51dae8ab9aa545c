-- The first gap of a capsule, and of a code.
use Rattle.std.specs.Prelude.{◌≡◌, ◌<◌, ◌≤◌, ℕ, List}
use Rattle.ppm_code.specs.declared.class.Class.{Class}
use Rattle.ppm_code.specs.declared.code.CodeParts.{CodeParts}
use Rattle.ppm_code.specs.declared.instr.Instr.{Instr}
use Rattle.ppm_code.specs.Strands.{instrs_of}
use Rattle.ppm_filled.specs.Filled.{IsLeftOut, IsUnbuilt, BuildsAnother, IsHung, IsFilledOnPaths}
use Rattle.ppm_gaps.specs.declared.blocks.OtherBlock.{OtherBlock}
use Rattle.ppm_gaps.specs.declared.gaps.CapsuleGap.{CapsuleGap}
use Rattle.ppm_gaps.specs.declared.gaps.Gap.{Gap}
use Rattle.ppm_gaps.specs.declared.gaps.Gap.TheVariants.{LeftOut as OfLeftOut, Unbuilt as OfUnbuilt, OtherBlock as OfOtherBlock, Hung as OfHung}
use Rattle.ppm_gaps.specs.declared.left_out.LeftOut.{LeftOut}
use Rattle.ppm_gaps.specs.declared.unbuilt.Unbuilt.{Unbuilt}

module _ (is : List Instr) where
  -- no path has it
  abbrev pub HasNoLeftOut : Type 0
  HasNoLeftOut = (find write stop : ℕ) (c : Class) → IsLeftOut is find write stop c → ⊥

  abbrev pub HasNoUnbuilt : Type 0
  HasNoUnbuilt = (write stop word : ℕ) → IsUnbuilt is write stop word → ⊥

  abbrev pub HasOneBlock : Type 0
  HasOneBlock = (stop other : ℕ) → BuildsAnother is stop other → ⊥

  -- a word that is left out: none is of a lesser find, none of this find of a lesser store, and none of these comes to a lesser stop
  pub record IsFirstLeftOut (g : LeftOut) : Type 0 where
    pub gap : IsLeftOut is g.find g.write g.stop g.class
    pub least_find : (find write stop : ℕ) (c : Class) → IsLeftOut is find write stop c → g.find ≤ find
    pub least_write : (write stop : ℕ) (c : Class) → IsLeftOut is g.find write stop c → g.write ≤ write
    pub least_stop : (stop : ℕ) (c : Class) → IsLeftOut is g.find g.write stop c → g.stop ≤ stop

  -- a word that is not built: none is of a lesser store, and none of this store comes to a lesser stop
  pub record IsFirstUnbuilt (g : Unbuilt) : Type 0 where
    pub gap : IsUnbuilt is g.write g.stop g.word
    pub least_write : (write stop word : ℕ) → IsUnbuilt is write stop word → g.write ≤ write
    pub least_stop : (stop word : ℕ) → IsUnbuilt is g.write stop word → g.stop ≤ stop

  -- ends that build different blocks: no lesser end builds one beside which another stop is, and beside this one no lesser stop is
  pub record IsFirstOther (g : OtherBlock) : Type 0 where
    pub gap : BuildsAnother is g.stop g.other
    pub least_other : (stop other : ℕ) → BuildsAnother is stop other → g.other ≤ other
    pub least_stop : (stop : ℕ) → BuildsAnother is stop g.other → g.stop ≤ stop

  -- a trap that hangs on a find: none does at a lesser place
  pub record IsFirstHung (at : ℕ) : Type 0 where
    pub gap : IsHung is at
    pub least : (k : ℕ) → IsHung is k → at ≤ k

  -- the first gap: of the first of the four kinds that the capsule has
  abbrev pub IsFirstGap : Gap → Type 0
  IsFirstGap (OfLeftOut g) = IsFirstLeftOut g
  IsFirstGap (OfUnbuilt g) = HasNoLeftOut × IsFirstUnbuilt g
  IsFirstGap (OfOtherBlock g) = HasNoLeftOut × HasNoUnbuilt × IsFirstOther g
  IsFirstGap (OfHung at) = HasNoLeftOut × HasNoUnbuilt × HasOneBlock × IsFirstHung at

-- the capsule with a number is filled, as its paths tell
abbrev pub IsFilledIn : CodeParts → ℕ → Type 0
IsFilledIn code number = IsFilledOnPaths (instrs_of code number)

-- or this is its first gap
pub record IsFirstGapIn (code : CodeParts) (number : ℕ) (g : CapsuleGap) : Type 0 where
  pub capsule : g.capsule ≡ number
  pub first : IsFirstGap (instrs_of code number) g.gap

-- each capsule is filled, as its paths tell
abbrev pub AreFilledOnPaths : CodeParts → Type 0
AreFilledOnPaths code = (number : ℕ) → IsFilledIn code number

-- a gap of a code: each lesser capsule is filled, and in its capsule it is the first
pub record IsFirstGapOf (code : CodeParts) (g : CapsuleGap) : Type 0 where
  pub earlier : (number : ℕ) → number < g.capsule → IsFilledIn code number
  pub first : IsFirstGapIn code g.capsule g
