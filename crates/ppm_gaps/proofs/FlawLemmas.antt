-- A code has one first flaw, and none where its paths have no conflict and are filled.
use Rattle.std.proofs.Common.{◌≡◌, ◌<◌, ◌≤◌, ℕ, List, refl, sym, ap, subst, arith, ◌⊎◌, inl, inr}
use Rattle.std.proofs.lemmas.Bool.{cases_lt}
use Rattle.ppm_code.specs.declared.class.Class.{Class}
use Rattle.ppm_code.specs.declared.class.Class.TheVariants.{New}
use Rattle.ppm_code.specs.declared.code.CodeParts.{CodeParts}
use Rattle.ppm_code.specs.declared.instr.Instr.{Instr}
use Rattle.ppm_code.specs.Strands.{instrs_of}
use Rattle.ppm_filled.specs.Correct.{HasFilledPaths}
use Rattle.ppm_filled.specs.Filled.{IsLeftOut, IsUnbuilt, BuildsAnother, IsFilledOnPaths}
use Rattle.ppm_war.specs.declared.checked.Conflict.{Conflict}
use Rattle.ppm_war.specs.Conflicts.{HasNoConflictIn, IsFirstConflictOf}
use Rattle.ppm_gaps.specs.declared.blocks.OtherBlock.{OtherBlock}
use Rattle.ppm_gaps.specs.declared.gaps.CapsuleGap.{CapsuleGap}
use Rattle.ppm_gaps.specs.declared.gaps.Gap.{Gap}
use Rattle.ppm_gaps.specs.declared.gaps.Gap.TheVariants.{LeftOut as OfLeftOut, Unbuilt as OfUnbuilt, OtherBlock as OfOtherBlock, Hung as OfHung}
use Rattle.ppm_gaps.specs.declared.left_out.LeftOut.{LeftOut}
use Rattle.ppm_gaps.specs.declared.racing.Flaw.{Flaw}
use Rattle.ppm_gaps.specs.declared.racing.Flaw.TheVariants.{Conflict as OfConflict, Gap as OfGap}
use Rattle.ppm_gaps.specs.declared.unbuilt.Unbuilt.{Unbuilt}
use Rattle.ppm_gaps.specs.Correct.{FlawsTellCodes}
use Rattle.ppm_gaps.specs.Flaws.{IsFirstFlaw}
use Rattle.ppm_gaps.specs.Gaps.{IsFirstLeftOut, IsFirstUnbuilt, IsFirstOther, IsFirstHung, IsFirstGap, IsFilledIn, IsFirstGapOf}
use Rattle.ppm_gaps.proofs.FirstConflict.{one_conflict}
use Rattle.ppm_gaps.proofs.LeastLemmas.{no_flaw}
use Rattle.ppm_gaps.proofs.SearchLemmas.{one_class}

module _ (is : List Instr) where
  -- two first words that are left out are one
  one_left_out : (g h : LeftOut) → IsFirstLeftOut is g → IsFirstLeftOut is h → g ≡ h
  one_left_out g h f k =
      let find : g.find ≡ h.find =
      omega (arith, f.least_find h.find h.write h.stop h.class k.gap, k.least_find g.find g.write g.stop g.class f.gap) in
      let h_finds : IsLeftOut is g.find h.write h.stop h.class = subst (λ (n : ℕ). IsLeftOut is n h.write h.stop h.class) (sym find) k.gap in
      let g_finds : IsLeftOut is h.find g.write g.stop g.class = subst (λ (n : ℕ). IsLeftOut is n g.write g.stop g.class) find f.gap in
      let write : g.write ≡ h.write = omega (arith, f.least_write h.write h.stop h.class h_finds, k.least_write g.write g.stop g.class g_finds) in
      let h_writes : IsLeftOut is g.find g.write h.stop h.class =
      subst (λ (n : ℕ). IsLeftOut is g.find n h.stop h.class) (sym write) h_finds in
      let g_writes : IsLeftOut is h.find h.write g.stop g.class = subst (λ (n : ℕ). IsLeftOut is h.find n g.stop g.class) write g_finds in
      let stop : g.stop ≡ h.stop = omega (arith, f.least_stop h.stop h.class h_writes, k.least_stop g.stop g.class g_writes) in
      let class : g.class ≡ h.class = one_class is g.write h.class g.class h_writes.writes f.gap.writes in
      λ i. record { find = find i; write = write i; stop = stop i; class = class i }

  -- two first words that are not built are one
  one_unbuilt : (g h : Unbuilt) → IsFirstUnbuilt is g → IsFirstUnbuilt is h → g ≡ h
  one_unbuilt g h f k =
      let write : g.write ≡ h.write = omega (arith, f.least_write h.write h.stop h.word k.gap, k.least_write g.write g.stop g.word f.gap) in
      let h_writes : IsUnbuilt is g.write h.stop h.word = subst (λ (n : ℕ). IsUnbuilt is n h.stop h.word) (sym write) k.gap in
      let g_writes : IsUnbuilt is h.write g.stop g.word = subst (λ (n : ℕ). IsUnbuilt is n g.stop g.word) write f.gap in
      let stop : g.stop ≡ h.stop = omega (arith, f.least_stop h.stop h.word h_writes, k.least_stop g.stop g.word g_writes) in
      let same : New g.word ≡ New h.word = one_class is g.write (New h.word) (New g.word) h_writes.writes f.gap.writes in
      let word : g.word ≡ h.word = cc in
      λ i. record { write = write i; stop = stop i; word = word i }

  -- two first ends that build another block are one
  one_other : (g h : OtherBlock) → IsFirstOther is g → IsFirstOther is h → g ≡ h
  one_other g h f k =
      let other : g.other ≡ h.other = omega (arith, f.least_other h.stop h.other k.gap, k.least_other g.stop g.other f.gap) in
      let h_ends : BuildsAnother is h.stop g.other = subst (λ (n : ℕ). BuildsAnother is h.stop n) (sym other) k.gap in
      let g_ends : BuildsAnother is g.stop h.other = subst (λ (n : ℕ). BuildsAnother is g.stop n) other f.gap in
      let stop : g.stop ≡ h.stop = omega (arith, f.least_stop h.stop h_ends, k.least_stop g.stop g_ends) in
      λ i. record { other = other i; stop = stop i }

  -- two first traps that hang on a find are one
  one_hung : (m n : ℕ) → IsFirstHung is m → IsFirstHung is n → m ≡ n
  one_hung m n f k = omega (arith, f.least n k.gap, k.least m f.gap)

  -- two first gaps of a capsule are one, as a later kind has none of an earlier one
  one_gap_in : (g h : Gap) → IsFirstGap is g → IsFirstGap is h → g ≡ h
  one_gap_in (OfLeftOut g) (OfLeftOut h) f k = ap OfLeftOut (one_left_out g h f k)
  one_gap_in (OfLeftOut g) (OfUnbuilt h) f k = absurd (k.0 g.find g.write g.stop g.class f.gap)
  one_gap_in (OfLeftOut g) (OfOtherBlock h) f k = absurd (k.0 g.find g.write g.stop g.class f.gap)
  one_gap_in (OfLeftOut g) (OfHung n) f k = absurd (k.0 g.find g.write g.stop g.class f.gap)
  one_gap_in (OfUnbuilt g) (OfLeftOut h) f k = absurd (f.0 h.find h.write h.stop h.class k.gap)
  one_gap_in (OfUnbuilt g) (OfUnbuilt h) f k = ap OfUnbuilt (one_unbuilt g h f.1 k.1)
  one_gap_in (OfUnbuilt g) (OfOtherBlock h) f k = absurd (k.1 g.write g.stop g.word f.1.gap)
  one_gap_in (OfUnbuilt g) (OfHung n) f k = absurd (k.1 g.write g.stop g.word f.1.gap)
  one_gap_in (OfOtherBlock g) (OfLeftOut h) f k = absurd (f.0 h.find h.write h.stop h.class k.gap)
  one_gap_in (OfOtherBlock g) (OfUnbuilt h) f k = absurd (f.1 h.write h.stop h.word k.1.gap)
  one_gap_in (OfOtherBlock g) (OfOtherBlock h) f k = ap OfOtherBlock (one_other g h f.2 k.2)
  one_gap_in (OfOtherBlock g) (OfHung n) f k = absurd (k.2 g.stop g.other f.2.gap)
  one_gap_in (OfHung m) (OfLeftOut h) f k = absurd (f.0 h.find h.write h.stop h.class k.gap)
  one_gap_in (OfHung m) (OfUnbuilt h) f k = absurd (f.1 h.write h.stop h.word k.1.gap)
  one_gap_in (OfHung m) (OfOtherBlock h) f k = absurd (f.2 h.stop h.other k.2.gap)
  one_gap_in (OfHung m) (OfHung n) f k = ap OfHung (one_hung m n f.3 k.3)

  -- a filled capsule has none
  not_filled : (g : Gap) → IsFilledOnPaths is → IsFirstGap is g → ⊥
  not_filled (OfLeftOut g) fills f = fills.none_left_out g.find g.write g.stop g.class f.gap
  not_filled (OfUnbuilt g) fills f = fills.none_unbuilt g.write g.stop g.word f.1.gap
  not_filled (OfOtherBlock g) fills f = fills.one_block g.stop g.other f.2.gap
  not_filled (OfHung at) fills f = fills.none_hung at f.3.gap

module _ (code : CodeParts) where
  -- a capsule with a first gap is not filled, and one with a first conflict has a conflict
  pub gap_shows : (g : CapsuleGap) → IsFirstGapOf code g → IsFilledIn code g.capsule → ⊥
  gap_shows g f fills = not_filled (instrs_of code g.capsule) g.gap fills f.first.first

  conflict_shows : (c : Conflict) → IsFirstConflictOf code c → HasNoConflictIn code c.capsule → ⊥
  conflict_shows c f none = none c.read_at c.write_at c.class f.first.first.conflict

  -- two first gaps of a code are one
  one_gap : (g h : CapsuleGap) → IsFirstGapOf code g → IsFirstGapOf code h → g ≡ h
  one_gap g h f k = elim (cases_lt g.capsule h.capsule) [
    | inl less ↦ absurd (gap_shows g f (k.earlier g.capsule less))
    | inr more ↦ elim (cases_lt h.capsule g.capsule) [
      | inl less ↦ absurd (gap_shows h k (f.earlier h.capsule less))
      | inr most ↦
          let capsule : g.capsule ≡ h.capsule = omega (arith, more, most) in
          let gap : g.gap ≡ h.gap = one_gap_in (instrs_of code h.capsule) g.gap h.gap
          (subst (λ (n : ℕ). IsFirstGap (instrs_of code n) g.gap) capsule f.first.first) k.first.first in
          λ i. record { capsule = capsule i; gap = gap i }
    ]
  ]

  -- a first conflict and a first gap are not both the first flaw
  not_both : (c : Conflict) (g : CapsuleGap) → IsFirstFlaw code (OfConflict c) → IsFirstFlaw code (OfGap g) → ⊥
  not_both c g f k = elim (cases_lt g.capsule c.capsule) [
    | inl less ↦ gap_shows g k.0 (f.1 g.capsule less)
    | inr more ↦ conflict_shows c f.0 (k.1 c.capsule (omega (arith, more)))
  ]

  one_flaw : (f g : Flaw) → IsFirstFlaw code f → IsFirstFlaw code g → f ≡ g
  one_flaw (OfConflict c) (OfConflict d) f k = ap OfConflict (one_conflict code c d f.0 k.0)
  one_flaw (OfConflict c) (OfGap h) f k = absurd (not_both c h f k)
  one_flaw (OfGap g) (OfConflict d) f k = absurd (not_both d g k f)
  one_flaw (OfGap g) (OfGap h) f k = ap OfGap (one_gap g h f.0 k.0)

  -- a code with filled paths has no first flaw
  no_first_flaw : (f : Flaw) → HasFilledPaths code → IsFirstFlaw code f → ⊥
  no_first_flaw (OfConflict c) paths f = conflict_shows c f.0 (paths.free c.capsule)
  no_first_flaw (OfGap g) paths f = gap_shows g f.0 (paths.filled g.capsule)

pub flaws_tell_codes : FlawsTellCodes
flaws_tell_codes = record { one = one_flaw; excludes = λ code f. no_first_flaw code f; covers = no_flaw }
