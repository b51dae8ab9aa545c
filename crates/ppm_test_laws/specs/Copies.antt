-- Two strands that each copy a shared word, run with faults.
use Rattle.std.specs.Prelude.{◌≡◌, ℕ, zero, suc, false}
use Rattle.ppm_strands.specs.Tree.{Words, Tree, Strand, Fork, Over}
use Rattle.ppm_strands.specs.Run.{Counts}
use Rattle.ppm_strands.specs.Capsule.{Equality, Capsule, Reads, Writes, Ends}
use Rattle.ppm_strands.specs.Equalities.{numbers, locations}
use Rattle.ppm_strands.specs.Faults.{begun, IsOver, Happen, IsRestartable}
use Rattle.ppm_strands.specs.Strand.{Location, Shared, Frame, Table}

-- locations whose own words and block words are numbered
abbrev pub numbered : Equality (Location ℕ ℕ)
numbered = locations numbers numbers

-- the capsule that copies the one shared word to the other
abbrev pub copy : (from to : ℕ) → Capsule (Location ℕ ℕ) ℕ
copy from to = Reads (Shared from) (λ v. Writes (Shared to) v (Ends 1))

-- at point 0 word 0 is copied to word 1, and at point 1 word 2 to word 3; all other points end
abbrev pub copy_at : ℕ → Capsule (Location ℕ ℕ) ℕ
copy_at zero = copy 0 1
copy_at (suc zero) = copy 2 3
copy_at (suc (suc k)) = Ends 0

-- a branch is over with what its capsule ends with, and a frame with the outcome of its branches
abbrev pub copies : Table ℕ ℕ ℕ ℕ ℕ
copies = record {
  capsule = copy_at;
  opens = λ k e own new. Over e;
  blank = λ n. 0;
  resume = λ g o. Over o;
  kept = λ g o. g;
  is_trap = λ o. false;
}

-- a frame at a point
abbrev pub frame_at : ℕ → Frame ℕ ℕ
frame_at k = record { own = λ s. 0; point = k }

-- both copies
abbrev pub both : Tree (Frame ℕ ℕ) ℕ
both = Fork (frame_at 2) (Strand (frame_at 0)) (Strand (frame_at 1))

-- the capsules may be begun again, from any words
abbrev pub CopiesAreRestartable : Type 0
CopiesAreRestartable = IsRestartable numbered copies

-- in whatever order the two make their word steps, and with whatever faults: where they are over, both words are copied, and two capsules
-- are counted
pub record AreCopied (k : Counts) (a b : Words) : Type 0 where
  pub first : b 1 ≡ a 0
  pub second : b 3 ≡ a 2
  pub counted : k.capsules ≡ 2

abbrev pub CopiesWithFaults : Type 0
CopiesWithFaults = (k : Counts) (o : ℕ) (a b : Words) → Happen numbered copies k (begun copies both) a (IsOver o) b → AreCopied k a b
