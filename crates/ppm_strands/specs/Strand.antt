-- Strands made of capsules: frames with words of their own, blocks that are being built, words that all strands share.
use Rattle.std.specs.Prelude.{◌≡◌, ◌⊎◌, ℕ, Bool, List, [], ◌∷◌}
use Rattle.ppm_strands.specs.Tree.{Words, Tree, Strand, Code, Local}
use Rattle.ppm_strands.specs.Run.{none, of_capsule}
use Rattle.ppm_strands.specs.Ahead.{Step, Steps}
use Rattle.ppm_strands.specs.Beside.{AreBeside}
use Rattle.ppm_strands.specs.Calm.{Calm}
use Rattle.ppm_strands.specs.Capsule.{Equality, Capsule, Writes, Ends, Memory, In, store, ending, leaves, asked, written, exposed}
use Rattle.ppm_strands.specs.Stopped.{IsConflictFree, at, steps, stopped, run_with_stops, Stands}

-- where the capsule of a frame reads and writes: a word of the frame's own, a word of what it builds, a shared word by its address
pub data Location (S N : Type 0) : Type 0 where
  Own : S → Location S N
  New : N → Location S N
  Shared : ℕ → Location S N

-- a frame: its own words, and the point at which it stands
pub record Frame (S K : Type 0) : Type 0 where
  pub own : S → ℕ
  pub point : K

-- a table of capsules: that of each point; which tree an end opens, by the point, the frame's own words and those of what was built;
-- what the words of a new block are before anything is built; and how frames go on, as in a code
pub record Table (S N K E O : Type 0) : Type 0 where
  pub capsule : K → Capsule (Location S N) E
  pub opens : K → E → (S → ℕ) → (N → ℕ) → Tree (Frame S K) O
  pub blank : N → ℕ
  pub resume : Frame S K → O → Tree (Frame S K) O
  pub kept : Frame S K → O → Frame S K
  pub is_trap : O → Bool

-- the addresses of the shared words among locations
abbrev pub addresses : {S N : Type 0} → List (Location S N) → List ℕ
addresses [] = []
addresses (Own s ∷ ls) = addresses ls
addresses (New n ∷ ls) = addresses ls
addresses (Shared x ∷ ls) = x ∷ addresses ls

-- the parts of a memory: the own words, those of what is built, the shared ones
abbrev pub own_of : {S N : Type 0} → Memory (Location S N) → S → ℕ
own_of m s = m (Own s)

abbrev pub new_of : {S N : Type 0} → Memory (Location S N) → N → ℕ
new_of m n = m (New n)

abbrev pub shared_of : {S N : Type 0} → Memory (Location S N) → Words
shared_of m x = m (Shared x)

-- a frame at a point, with the own words of a memory
abbrev pub frame_of : {S N K : Type 0} → K → Memory (Location S N) → Frame S K
frame_of k m = record { own = own_of m; point = k }

module _ {S N K E O : Type 0} (eq : Equality (Location S N)) (table : Table S N K E O) where
  -- what a frame's capsule finds where it begins a new block
  abbrev pub start : Frame S K → Words → Memory (Location S N)
  start f a (Own s) = f.own s
  start f a (New n) = table.blank n
  start f a (Shared x) = a x

  -- what an end opens, by a memory
  abbrev pub opened : K → E → Memory (Location S N) → Tree (Frame S K) O
  opened k e m = table.opens k e (own_of m) (new_of m)

  -- the code of the table: what it touches are the shared words alone, and a word is read by a capsule where that read is exposed
  abbrev pub code_of : Code (Frame S K) O
  code_of = record {
    next = λ f a. opened f.point (ending eq (table.capsule f.point) (start f a)) (leaves eq (table.capsule f.point) (start f a));
    after = λ f a. shared_of (leaves eq (table.capsule f.point) (start f a));
    reads = λ f a. addresses (exposed eq (table.capsule f.point) (start f a));
    writes = λ f a. addresses (written eq (table.capsule f.point) (start f a));
    asks = λ f a. asked eq (table.capsule f.point) (start f a);
    resume = table.resume;
    kept = table.kept;
    is_trap = table.is_trap;
  }

  -- a new block is clean at a point: what its capsule doesn't write there is blank
  abbrev pub IsClean : K → Memory (Location S N) → Type 0
  IsClean k m = (n : N) → (In (New n) (written eq (table.capsule k) m) → ⊥) → m (New n) ≡ table.blank n

  -- the capsule of a point may be begun again: it has no conflict, and reads no word of the new block that it has not written
  pub record MayBeginAgain (k : K) (m : Memory (Location S N)) : Type 0 where
    pub free : IsConflictFree eq (table.capsule k) m
    pub unread : (n : N) → In (New n) (exposed eq (table.capsule k) m) → ⊥

  -- what a capsule does depends on the shared words that it reads: the laws of trees of strands hold of every table
  abbrev pub CodeIsLocal : Type 0
  CodeIsLocal = Local code_of

  -- a capsule under way is about to store: that is a step of its strand, which counts nothing
  abbrev pub StoresAreSteps : Type 0
  StoresAreSteps = (k : K) (l : Location S N) (v : ℕ) (rest : Capsule (Location S N) E) (m : Memory (Location S N))
      → MayBeginAgain k m → Stands eq (table.capsule k) (Writes l v rest) m
      → Step code_of none (Strand (frame_of k m)) (shared_of m) (Strand (frame_of k (store eq m l v))) (shared_of (store eq m l v))

  -- after which it may still be begun again, and the new block is clean if it was
  abbrev pub StoresKeep : Type 0
  StoresKeep = (k : K) (l : Location S N) (v : ℕ) (rest : Capsule (Location S N) E) (m : Memory (Location S N))
      → MayBeginAgain k m → Stands eq (table.capsule k) (Writes l v rest) m
      → MayBeginAgain k (store eq m l v) × (IsClean k m → IsClean k (store eq m l v))

  -- and while others store where it neither reads nor writes, and not in its new block, all of this stays
  abbrev pub OthersKeep : Type 0
  OthersKeep = (k : K) (rest : Capsule (Location S N) E) (m n : Memory (Location S N))
      → ((l : Location S N) → In l (exposed eq (table.capsule k) m) ⊎ In l (written eq (table.capsule k) m) → n l ≡ m l)
      → ((o : N) → n (New o) ≡ m (New o)) → MayBeginAgain k m → Stands eq (table.capsule k) rest m
      → MayBeginAgain k n × Stands eq (table.capsule k) rest n × (IsClean k m → IsClean k n)

  -- a strand's capsule under way and that of a strand beside it in a calm tree stand: what the one is about to store in a shared word,
  -- the other neither reads nor writes
  abbrev pub StrandsBesideKeep : Type 0
  StrandsBesideKeep = (t : Tree (Frame S K) O) (j k : K) (x v : ℕ) (go rest : Capsule (Location S N) E) (m n : Memory (Location S N))
      → Calm code_of t (shared_of m) → AreBeside t (frame_of j n) (frame_of k m) → shared_of n ≡ shared_of m
      → MayBeginAgain j n → Stands eq (table.capsule j) (Writes (Shared x) v go) n
      → MayBeginAgain k m → Stands eq (table.capsule k) rest m
      → MayBeginAgain k (store eq m (Shared x) v) × Stands eq (table.capsule k) rest (store eq m (Shared x) v)
      × (IsClean k m → IsClean k (store eq m (Shared x) v))

  -- a capsule that has come to its end, with a clean block, opens what comes next: one step of its strand, a whole capsule, from the
  -- words as they are and to the words as they are
  abbrev pub EndsAreSteps : Type 0
  EndsAreSteps = (k : K) (e : E) (m : Memory (Location S N))
      → MayBeginAgain k m → IsClean k m → Stands eq (table.capsule k) (Ends e) m
      → Step code_of (of_capsule code_of (frame_of k m) (shared_of m)) (Strand (frame_of k m)) (shared_of m) (opened k e m) (shared_of m)

  -- at each moment of a run with stops the strand has come by steps that count nothing
  abbrev pub MomentsAreSteps : Type 0
  MomentsAreSteps = (k : K) (m : Memory (Location S N)) (stops : List ℕ) (n : ℕ) → MayBeginAgain k m
      → let now = (steps eq n (at (table.capsule k) (stopped eq stops (table.capsule k) m))).words in
      Steps code_of none (Strand (frame_of k m)) (shared_of m) (Strand (frame_of k now)) (shared_of now)

  -- and a run with stops, once it is whole, is one capsule of its strand: it is counted once, and the next tree is what its end opens
  abbrev pub RunsWithStopsAreOneCapsule : Type 0
  RunsWithStopsAreOneCapsule = (k : K) (m : Memory (Location S N)) (stops : List ℕ) → MayBeginAgain k m → IsClean k m
      → let done = run_with_stops eq stops (table.capsule k) m in
      Steps code_of (of_capsule code_of (frame_of k m) (shared_of m)) (Strand (frame_of k m)) (shared_of m)
      (opened k done.end done.words) (shared_of done.words)

  -- what a runtime that stores word by word needs of a table
  pub record CapsulesMakeSteps : Type 0 where
    pub stores : StoresAreSteps
    pub kept : StoresKeep
    pub ends : EndsAreSteps
    pub moments : MomentsAreSteps
    pub runs : RunsWithStopsAreOneCapsule

  -- and while others store
  pub record OthersKeepWhatIsDone : Type 0 where
    pub elsewhere : OthersKeep
    pub beside : StrandsBesideKeep
