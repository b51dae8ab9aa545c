-- What has no first one is not there: a conflict or a gap of a capsule, and a flaw of a code.
use Rattle.std.proofs.Common.{◌≡◌, ◌<◌, ◌≤◌, ℕ, zero, suc, ◌+◌, Bool, true, false, List, refl, sym, subst, arith, nat_lt, ◌⊎◌, inl, inr}
use Rattle.std.proofs.lemmas.Bool.{ltb-true, ltb-false, cases_lt}
use Rattle.ppm_code.specs.declared.class.Class.{Class}
use Rattle.ppm_code.specs.declared.code.CodeParts.{CodeParts}
use Rattle.ppm_code.specs.declared.instr.Instr.{Instr}
use Rattle.ppm_code.specs.Paths.{IsConflict, HasNoConflict}
use Rattle.ppm_code.specs.Strands.{instrs_of}
use Rattle.ppm_filled.specs.Correct.{HasFilledPaths}
use Rattle.ppm_filled.specs.Filled.{IsLeftOut, IsUnbuilt, BuildsAnother, IsHung, IsFilledOnPaths}
use Rattle.ppm_war.specs.declared.conflict.Found.{Found}
use Rattle.ppm_war.specs.Conflicts.{HasNoConflictIn, IsFirstConflict}
use Rattle.ppm_gaps.specs.declared.blocks.OtherBlock.{OtherBlock}
use Rattle.ppm_gaps.specs.declared.gaps.Gap.{Gap}
use Rattle.ppm_gaps.specs.declared.gaps.Gap.TheVariants.{LeftOut as OfLeftOut, Unbuilt as OfUnbuilt, OtherBlock as OfOtherBlock, Hung as OfHung}
use Rattle.ppm_gaps.specs.declared.left_out.LeftOut.{LeftOut}
use Rattle.ppm_gaps.specs.declared.racing.Flaw.{Flaw}
use Rattle.ppm_gaps.specs.declared.racing.Flaw.TheVariants.{Conflict as OfConflict, Gap as OfGap}
use Rattle.ppm_gaps.specs.declared.unbuilt.Unbuilt.{Unbuilt}
use Rattle.ppm_gaps.specs.Blocks.{HasOther}
use Rattle.ppm_gaps.specs.Flaws.{IsFirstFlaw}
use Rattle.ppm_gaps.specs.Gaps.{HasNoLeftOut, HasNoUnbuilt, HasOneBlock, IsFirstLeftOut, IsFirstUnbuilt, IsFirstOther, IsFirstHung, IsFirstGap, IsFilledIn}

-- what no number has that is the least to have it, no number has
module _ (P : ℕ → Type 0) (none : (n : ℕ) → ((m : ℕ) → m < n → P m → ⊥) → P n → ⊥) where
  below : (k n : ℕ) → n < k → P n → ⊥
  below zero n less = λ h. absurd (omega (arith, less))
  below (suc k) n less = none n (λ m is. below k m (omega (arith, less, is)))

  pub without_least : (n : ℕ) → P n → ⊥
  without_least n = below (suc n) n (omega arith)

-- a number below which none has it is no greater than one that has
pub least_of : (P : ℕ → Type 0) (n : ℕ) → ((m : ℕ) → m < n → P m → ⊥) → (k : ℕ) → P k → n ≤ k
least_of P n before k p = by (nat_lt k n) refl
  where
    by : (b : Bool) → nat_lt k n ≡ b → n ≤ k
    by true e = absurd (before k (ltb-true k n e) p)
    by false e = omega (arith, ltb-false k n e)

-- of a capsule without a first conflict no path has one
module _ (is : List Instr) (free : (f : Found) → IsFirstConflict is f → ⊥) where
  abbrev WritesAt : (read write : ℕ) → Type 0
  WritesAt read write = (c : Class) × IsConflict is read write c

  abbrev ReadsAt : (read : ℕ) → Type 0
  ReadsAt read = (write : ℕ) × WritesAt read write

  by_write : (read : ℕ) → ((m : ℕ) → m < read → ReadsAt m → ⊥) → (write : ℕ) → ((m : ℕ) → m < write → WritesAt read m → ⊥)
      → WritesAt read write → ⊥
  by_write read no_read write no_write (c, h) = free (record { read_at = read; write_at = write; class = c }) (record {
    conflict = h;
    least_read = λ r w d k. least_of ReadsAt read no_read r (w, (d, k));
    least_write = λ w d k. least_of (WritesAt read) write no_write w (d, k);
  })

  by_read : (read : ℕ) → ((m : ℕ) → m < read → ReadsAt m → ⊥) → ReadsAt read → ⊥
  by_read read no_read (write, h) = without_least (WritesAt read) (by_write read no_read) write h

  pub no_conflict_in : HasNoConflict is
  no_conflict_in read write c h = without_least ReadsAt by_read read (write, (c, h))

-- of one without a first word that is left out none is
module _ (is : List Instr) (free : (g : LeftOut) → IsFirstLeftOut is g → ⊥) where
  abbrev LeavesAt : (find write stop : ℕ) → Type 0
  LeavesAt find write stop = (c : Class) × IsLeftOut is find write stop c

  abbrev LeavesOf : (find write : ℕ) → Type 0
  LeavesOf find write = (stop : ℕ) × LeavesAt find write stop

  abbrev LeavesAfter : (find : ℕ) → Type 0
  LeavesAfter find = (write : ℕ) × LeavesOf find write

  module _ (find : ℕ) (no_find : (m : ℕ) → m < find → LeavesAfter m → ⊥) where
    left_by_stop : (write : ℕ) → ((m : ℕ) → m < write → LeavesOf find m → ⊥) → (stop : ℕ) → ((m : ℕ) → m < stop → LeavesAt find write m → ⊥)
        → LeavesAt find write stop → ⊥
    left_by_stop write no_write stop no_stop (c, h) = free (record { find = find; write = write; stop = stop; class = c }) (record {
      gap = h;
      least_find = λ f w s d k. least_of LeavesAfter find no_find f (w, (s, (d, k)));
      least_write = λ w s d k. least_of (LeavesOf find) write no_write w (s, (d, k));
      least_stop = λ s d k. least_of (LeavesAt find write) stop no_stop s (d, k);
    })

    left_by_write : (write : ℕ) → ((m : ℕ) → m < write → LeavesOf find m → ⊥) → LeavesOf find write → ⊥
    left_by_write write no_write (stop, h) = without_least (LeavesAt find write) (left_by_stop write no_write) stop h

    left_by_find : LeavesAfter find → ⊥
    left_by_find (write, h) = without_least (LeavesOf find) left_by_write write h

  no_left_out : HasNoLeftOut is
  no_left_out find write stop c h = without_least LeavesAfter left_by_find find (write, (stop, (c, h)))

-- of one without a first word that is not built each is
module _ (is : List Instr) (free : (g : Unbuilt) → IsFirstUnbuilt is g → ⊥) where
  abbrev MissesAt : (write stop : ℕ) → Type 0
  MissesAt write stop = (word : ℕ) × IsUnbuilt is write stop word

  abbrev MissesOf : (write : ℕ) → Type 0
  MissesOf write = (stop : ℕ) × MissesAt write stop

  module _ (write : ℕ) (no_write : (m : ℕ) → m < write → MissesOf m → ⊥) where
    unbuilt_by_stop : (stop : ℕ) → ((m : ℕ) → m < stop → MissesAt write m → ⊥) → MissesAt write stop → ⊥
    unbuilt_by_stop stop no_stop (word, h) = free (record { write = write; stop = stop; word = word }) (record {
      gap = h;
      least_write = λ w s o k. least_of MissesOf write no_write w (s, (o, k));
      least_stop = λ s o k. least_of (MissesAt write) stop no_stop s (o, k);
    })

    unbuilt_by_write : MissesOf write → ⊥
    unbuilt_by_write (stop, h) = without_least (MissesAt write) unbuilt_by_stop stop h

  no_unbuilt : HasNoUnbuilt is
  no_unbuilt write stop word h = without_least MissesOf unbuilt_by_write write (stop, (word, h))

-- of one without a first end that builds another block all build one
module _ (is : List Instr) (free : (g : OtherBlock) → IsFirstOther is g → ⊥) where
  module _ (other : ℕ) (no_other : (m : ℕ) → m < other → HasOther is m → ⊥) where
    other_by_stop : (stop : ℕ) → ((m : ℕ) → m < stop → BuildsAnother is m other → ⊥) → BuildsAnother is stop other → ⊥
    other_by_stop stop no_stop h = free (record { other = other; stop = stop }) (record {
      gap = h;
      least_other = λ s o k. least_of (HasOther is) other no_other o (s, k);
      least_stop = λ s k. least_of (λ m. BuildsAnother is m other) stop no_stop s k;
    })

    other_by_end : HasOther is other → ⊥
    other_by_end (stop, h) = without_least (λ m. BuildsAnother is m other) other_by_stop stop h

  no_other_block : HasOneBlock is
  no_other_block stop other h = without_least (HasOther is) other_by_end other (stop, h)

-- of one without a first trap that hangs on a find none does
module _ (is : List Instr) (free : (at : ℕ) → IsFirstHung is at → ⊥) where
  hung_by_place : (at : ℕ) → ((m : ℕ) → m < at → IsHung is m → ⊥) → IsHung is at → ⊥
  hung_by_place at no_trap h = free at (record { gap = h; least = λ k x. least_of (IsHung is) at no_trap k x })

  no_hung : (at : ℕ) → IsHung is at → ⊥
  no_hung at h = without_least (IsHung is) hung_by_place at h

-- a capsule without a first gap is filled, as its paths tell
pub no_gap_in : (is : List Instr) → ((g : Gap) → IsFirstGap is g → ⊥) → IsFilledOnPaths is
no_gap_in is free =
    let none_left_out : HasNoLeftOut is = no_left_out is (λ g f. free (OfLeftOut g) f) in
    let none_unbuilt : HasNoUnbuilt is = no_unbuilt is (λ g f. free (OfUnbuilt g) (none_left_out, f)) in
    let one_block : HasOneBlock is = no_other_block is (λ g f. free (OfOtherBlock g) (none_left_out, none_unbuilt, f)) in
    record {
      none_left_out = none_left_out;
      none_unbuilt = none_unbuilt;
      one_block = one_block;
      none_hung = no_hung is (λ at f. free (OfHung at) (none_left_out, none_unbuilt, one_block, f));
    }

-- a code without a first flaw has none
module _ (code : CodeParts) (free : (f : Flaw) → IsFirstFlaw code f → ⊥) where
  -- the capsule with a number has no conflict and is filled
  pub record IsFine (n : ℕ) : Type 0 where
    pub no_conflict : HasNoConflictIn code n
    pub filled : IsFilledIn code n

  module _ (n : ℕ) (earlier : (m : ℕ) → m < n → IsFine m) where
    no_conflict_here : HasNoConflictIn code n
    no_conflict_here = no_conflict_in (instrs_of code n) (λ f first.
        free (OfConflict (record { capsule = n; read_at = f.read_at; write_at = f.write_at; class = f.class })) (
          record { earlier = λ m less. (earlier m less).no_conflict; first = record { capsule = refl; first = first } },
          λ m less. (earlier m less).filled,
        ))

    no_conflict_up_to : (m : ℕ) → m ≤ n → HasNoConflictIn code m
    no_conflict_up_to m most = elim (cases_lt m n) [
      | inl less ↦ (earlier m less).no_conflict
      | inr more ↦ let same : n ≡ m = omega (arith, most, more) in subst (λ (k : ℕ). HasNoConflictIn code k) same no_conflict_here
    ]

    filled_here : IsFilledIn code n
    filled_here = no_gap_in (instrs_of code n) (λ g first. free (OfGap (record { capsule = n; gap = g })) (
      record { earlier = λ m less. (earlier m less).filled; first = record { capsule = refl; first = first } },
      no_conflict_up_to,
    ))

    fine_here : IsFine n
    fine_here = record { no_conflict = no_conflict_here; filled = filled_here }

  fine_below : (k n : ℕ) → n < k → IsFine n
  fine_below zero n less = absurd (omega (arith, less))
  fine_below (suc k) n less = fine_here n (λ m is. fine_below k m (omega (arith, less, is)))

  fine : (n : ℕ) → IsFine n
  fine n = fine_below (suc n) n (omega arith)

  pub no_flaw : HasFilledPaths code
  no_flaw = record { free = λ n. (fine n).no_conflict; filled = λ n. (fine n).filled }
