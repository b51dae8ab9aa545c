-- The paths of a capsule: what it may read and write whatever words its reads find.
use Rattle.std.specs.Prelude.{ℕ, Bool, IsTrue, cond, List, [], ◌∷◌}
use Rattle.ppm_strands.specs.Capsule.{Equality, Capsule, Reads, Writes, Asks, Ends, Memory, In, is_in, written, exposed}

module _ {L E : Type 0} (eq : Equality L) where
  -- on no path is a location of r written, or one whose read is exposed; w are written already
  abbrev pub IsFreePast : (r w : List L) → Capsule L E → Type 0
  IsFreePast r w (Reads l go) = (v : ℕ) → IsFreePast (cond (is_in eq l w) r (l ∷ r)) w (go v)
  IsFreePast r w (Writes l v go) = (In l r → ⊥) × IsFreePast r (l ∷ w) go
  IsFreePast r w (Asks n go) = IsFreePast r w go
  IsFreePast r w (Ends e) = Unit {0}

  -- no path has a write-after-read conflict
  abbrev pub IsFreeOnPaths : Capsule L E → Type 0
  IsFreeOnPaths p = IsFreePast [] [] p

  -- each location that a path reads, and each that a path writes, is one of which q holds
  abbrev pub ReadsOnly : (L → Type 0) → Capsule L E → Type 0
  ReadsOnly q (Reads l go) = q l × ((v : ℕ) → ReadsOnly q (go v))
  ReadsOnly q (Writes l v go) = ReadsOnly q go
  ReadsOnly q (Asks n go) = ReadsOnly q go
  ReadsOnly q (Ends e) = Unit {0}

  abbrev pub WritesOnly : (L → Type 0) → Capsule L E → Type 0
  WritesOnly q (Reads l go) = (v : ℕ) → WritesOnly q (go v)
  WritesOnly q (Writes l v go) = q l × WritesOnly q go
  WritesOnly q (Asks n go) = WritesOnly q go
  WritesOnly q (Ends e) = Unit {0}

  -- then so is each exposed read, and each write, from any words
  pub record PathsSayWhere (q : L → Type 0) (p : Capsule L E) : Type 0 where
    pub reads : ReadsOnly q p → (m : Memory L) (l : L) → In l (exposed eq p m) → q l
    pub writes : WritesOnly q p → (m : Memory L) (l : L) → In l (written eq p m) → q l

  -- paths say by a test where a capsule reads and writes
  abbrev pub PathsSayWhereByTest : (L → Bool) → Capsule L E → Type 0
  PathsSayWhereByTest allows p = PathsSayWhere (λ l. IsTrue (allows l)) p
