-- A capsule with the stores of its end before that end: whoever makes these word by word may be stopped there too.
use Rattle.std.specs.Prelude.{◌≡◌, ℕ, List, [], ◌∷◌, ◌++◌}
use Rattle.ppm_strands.specs.Capsule.{Equality, Capsule, Reads, Writes, Asks, Ends, Memory, In, store, ending, leaves, asked, written, exposed}
use Rattle.ppm_strands.specs.Stopped.{IsConflictFree}
use Rattle.ppm_strands.specs.Strand.{Location, Table, addresses, opened, code_of}

-- stores one after another, and then the rest
abbrev pub storing : {L E : Type 0} → List (L × ℕ) → Capsule L E → Capsule L E
storing [] rest = rest
storing (s ∷ ss) rest = Writes s.0 s.1 (storing ss rest)

-- the locations of stores
abbrev pub stored_at : {L : Type 0} → List (L × ℕ) → List L
stored_at [] = []
stored_at (s ∷ ss) = s.0 ∷ stored_at ss

-- the words after stores
abbrev pub after_stores : {L : Type 0} → Equality L → List (L × ℕ) → Memory L → Memory L
after_stores eq [] m = m
after_stores eq (s ∷ ss) m = after_stores eq ss (store eq m s.0 s.1)

-- the capsule with the stores of its end before that end
abbrev pub with_end_stores : {L E : Type 0} → (E → List (L × ℕ)) → Capsule L E → Capsule L E
with_end_stores tail (Reads l go) = Reads l (λ v. with_end_stores tail (go v))
with_end_stores tail (Writes l v go) = Writes l v (with_end_stores tail go)
with_end_stores tail (Asks n go) = Asks n (with_end_stores tail go)
with_end_stores tail (Ends e) = storing (tail e) (Ends e)

-- it does what the capsule does, and then these stores
pub record DoesThenStores {L E : Type 0} (eq : Equality L) (tail : E → List (L × ℕ)) (p : Capsule L E) (m : Memory L) : Type 0 where
  pub ends : ending eq (with_end_stores tail p) m ≡ ending eq p m
  pub words : leaves eq (with_end_stores tail p) m ≡ after_stores eq (tail (ending eq p m)) (leaves eq p m)
  pub asks : asked eq (with_end_stores tail p) m ≡ asked eq p m
  pub reads : exposed eq (with_end_stores tail p) m ≡ exposed eq p m
  pub writes : written eq (with_end_stores tail p) m ≡ written eq p m ++ stored_at (tail (ending eq p m))
  -- it has no conflict where the capsule has none and these stores are to no location that it has read
  pub free : IsConflictFree eq p m → ((l : L) → In l (exposed eq p m) → In l (stored_at (tail (ending eq p m))) → ⊥)
      → IsConflictFree eq (with_end_stores tail p) m

-- from all words
abbrev pub EndStoresComeLast : {L E : Type 0} → Equality L → (E → List (L × ℕ)) → Capsule L E → Type 0
EndStoresComeLast {L} eq tail p = (m : Memory L) → DoesThenStores eq tail p m

module _ {S N K E O : Type 0} (eq : Equality (Location S N)) (table : Table S N K E O) where
  -- the table with the stores of each end, by the point
  abbrev pub with_end_stores_in : (K → E → List (Location S N × ℕ)) → Table S N K E O
  with_end_stores_in tails = record {
    capsule = λ k. with_end_stores (tails k) (table.capsule k);
    opens = table.opens;
    blank = table.blank;
    resume = table.resume;
    kept = table.kept;
    is_trap = table.is_trap;
  }

  -- the trees that ends open show nothing of these stores, and none is to a shared word; so it is with stores into the new block alone, and no
  -- table here has a location for a frame's header or outcome, which ends store as well
  pub record AreUnseen (tails : K → E → List (Location S N × ℕ)) : Type 0 where
    pub unshared : (k : K) (e : E) → addresses (stored_at (tails k e)) ≡ []
    pub unseen : (k : K) (e : E) (m : Memory (Location S N)) → opened eq table k e (after_stores eq (tails k e) m) ≡ opened eq table k e m

  -- then it is the same code: what is a step by the one table is a step by the other
  abbrev pub TablesAreTheSame : Type 0
  TablesAreTheSame = (tails : K → E → List (Location S N × ℕ)) → AreUnseen tails → code_of eq (with_end_stores_in tails) ≡ code_of eq table
