-- No instruction reads a word of the new block.
use Rattle.std.proofs.Common.{◌≡◌, ℕ, zero, suc, ◌+◌, ◌-◌, max, List, [], ◌∷◌, refl, subst, slice_set}
use Rattle.std.specs.Prelude.{replicate}
use Rattle.ppm_strands.specs.Capsule.{Capsule}
use Rattle.ppm_strands.specs.Strand.{Own, New as NewWord, Shared}
use Rattle.ppm_strands.specs.Paths.{ReadsOnly}
use Rattle.ppm_strands.proofs.PathLemmas.{paths_say_where, paths_are_enough}
use Rattle.ppm_code.specs.declared.class.Class.TheVariants.{New}
use Rattle.ppm_code.specs.declared.class.May.{May}
use Rattle.ppm_code.specs.declared.class.May.TheVariants.{Work, Read, Write, Branch, Stop}
use Rattle.ppm_code.specs.declared.act.Act.{Act}
use Rattle.ppm_code.specs.declared.act.Act.TheVariants.{Sets, Passes, Jumps, Steps, Ends as Stops}
use Rattle.ppm_code.specs.declared.act.Step.TheVariants.{Loads, Stores, Asks}
use Rattle.ppm_code.specs.declared.act.End.{End}
use Rattle.ppm_code.specs.declared.instr.Instr.{Instr}
use Rattle.ppm_code.specs.declared.instr.Instr.TheVariants.{Const, Move, Add, Sub, Mul, Div, Rem, Equal, NotEqual, Less, AtMost, Len, CutLeft, CutRight}
use Rattle.ppm_code.specs.declared.instr.Instr.TheVariants.{LoadSlot, StoreCur, Give, Get, Put}
use Rattle.ppm_code.specs.declared.instr.Instr.TheVariants.{BranchZero, BranchNonZero, Room as RoomFor, StoreNew, Ends as EndsWith}
use Rattle.ppm_code.specs.Acts.{does}
use Rattle.ppm_code.specs.Locations.{Where, location_of, code_locations}
use Rattle.ppm_code.specs.Capsules.{capsule_from, capsule_of, at_act}
use Rattle.ppm_code.specs.Paths.{may, class_of, Follows}
use Rattle.ppm_code.specs.Strands.{CapsulesMayBeginAgain, instrs_of}
use Rattle.ppm_code.proofs.FollowLemmas.{acts_follow}
use Rattle.ppm_code.proofs.ConflictLemmas.{no_conflict_from}

-- no word of the new block
abbrev pub IsOld : Where → Type 0
IsOld (Own k) = Unit {0}
IsOld (NewWord o) = ⊥
IsOld (Shared x) = Unit {0}

-- an instruction that may do this reads none
abbrev ReadsOld : May → Type 0
ReadsOld (Read (New o)) = ⊥
ReadsOld _ = Unit {0}

reads_old : (i : Instr) → ReadsOld (may i)
reads_old (Const d v) = tt
reads_old (Move d r) = tt
reads_old (Add d r q l) = tt
reads_old (Sub d r q l) = tt
reads_old (Mul d r q l) = tt
reads_old (Div d r q l) = tt
reads_old (Rem d r q l) = tt
reads_old (Equal d r q) = tt
reads_old (NotEqual d r q) = tt
reads_old (Less d r q) = tt
reads_old (AtMost d r q) = tt
reads_old (Len d r) = tt
reads_old (CutLeft d r q l) = tt
reads_old (CutRight d r q l) = tt
reads_old (LoadSlot d i) = tt
reads_old (StoreCur i r) = tt
reads_old (Give r) = tt
reads_old (Get d r q l) = tt
reads_old (Put r q f l) = tt
reads_old (BranchZero r t) = tt
reads_old (BranchNonZero r t) = tt
reads_old (RoomFor n) = tt
reads_old (StoreNew o r) = tt
reads_old (EndsWith e) = tt

old_of : (m : May) (l : Where) → m ≡ Read (class_of l) → ReadsOld m → IsOld l
old_of m (Own k) e old = tt
old_of m (Shared x) e old = tt
old_of m (NewWord o) e old = subst ReadsOld e old

module _ (go : ℕ → List ℕ → Capsule Where End) (on : (t : ℕ) (h : List ℕ) → ReadsOnly code_locations IsOld (go t h)) where
  act_reads : (m : May) (next : ℕ) (a : Act) (g : List ℕ) → Follows m a → ReadsOld m → ReadsOnly code_locations IsOld (at_act go next a g)
  act_reads m next (Stops e) g f old = tt
  act_reads m next (Sets d v) g f old = on next (slice_set g d.index v)
  act_reads m next Passes g f old = on next g
  act_reads m next (Jumps u) g f old = on (max u next) g
  act_reads m next (Steps (Stores l v)) g f old = on next g
  act_reads m next (Steps (Asks n)) g f old = on next g
  act_reads (Read k) next (Steps (Loads l d)) g f old = (old_of (Read k) (location_of l) (rw f refl) old, λ v. on next (slice_set g d.index v))
  act_reads Work next (Steps (Loads l d)) g f old = absurd f
  act_reads (Write k) next (Steps (Loads l d)) g f old = absurd f
  act_reads (Branch t) next (Steps (Loads l d)) g f old = absurd f
  act_reads Stop next (Steps (Loads l d)) g f old = absurd f

reads_from : (words : ℕ) (is : List Instr) (here skip : ℕ) (g : List ℕ) → ReadsOnly code_locations IsOld (capsule_from words here skip is g)
reads_from words [] here skip g = tt
reads_from words (i ∷ is) here (suc skip) g = reads_from words is (here + 1) skip g
reads_from words (i ∷ is) here zero g =
    act_reads (λ t h. capsule_from words (here + 1) (t - (here + 1)) is h) (λ t h. reads_from words is (here + 1) (t - (here + 1)) h)
    (may i) (here + 1) (does words i g) g (acts_follow words i g) (reads_old i)

pub capsules_may_begin_again : CapsulesMayBeginAgain
capsules_may_begin_again code words point m none =
    let p = capsule_of words (instrs_of code point.capsule) in
    record {
      free = paths_are_enough code_locations p m (no_conflict_from words (instrs_of code point.capsule) (replicate 64 0) none);
      unread = λ o i. (paths_say_where code_locations IsOld p).reads (reads_from words (instrs_of code point.capsule) 0 0 (replicate 64 0)) m (NewWord o) i;
    }
