-- The moments of a depth-first run with stamps, as a runtime with a stack has them: what stands above the strand that runs now, the words,
-- and the stamps.
use Rattle.std.specs.Prelude.{◌≡◌, ◌⊎◌, ◌<◌, ◌≤◌, ◌+◌, ℕ, Bool, true, List, [], ◌∷◌}
use Rattle.ppm_strands.specs.Tree.{Words, Tree, Strand, Call, Fork, Over, forks_in, Code, Has}
use Rattle.ppm_strands.specs.Run.{End, rejoin, Ends}
use Rattle.ppm_strands.specs.Calm.{touches, Calm}
use Rattle.ppm_stamps.specs.Stamps.{Stamps, fresh, nothing, right_of, Passes, Meets, Marks}

-- what waits above a strand: a frame for its callee, for its left branch, which began with a stamp, or for its right one, which began with
-- the second
pub data Above (F O : Type 0) : Type 0 where
  InCallee : F → Above F O
  InLeft : F → Tree F O → ℕ → Above F O
  InRight : F → O → ℕ → ℕ → Above F O

-- what stands beside a strand, by all that waits above it, the innermost first: the left branches of the forks in whose right ones it is
abbrev pub beside_of : {F O : Type 0} → List (Above F O) → ℕ → Bool
beside_of [] = nothing
beside_of (InCallee g ∷ above) = beside_of above
beside_of (InLeft g r start ∷ above) = beside_of above
beside_of (InRight g o start mid ∷ above) = right_of (beside_of above) start mid

-- a moment of the run of a tree from words: each capsule so far met nothing, and was marked
pub data Comes {F O : Type 0} (c : Code F O) (root : Tree F O) (input : Words) : List (Above F O) → Tree F O → Words → Stamps → Type 0 where
  Begins : Comes c root input [] root input fresh
  Runs : {above : List (Above F O)} {f : F} {a : Words} {s m : Stamps} → Comes c root input above (Strand f) a s
      → Passes c (beside_of above) f a s → Marks c (beside_of above) f a s m → Comes c root input above (c.next f a) (c.after f a) m
  Calls : {above : List (Above F O)} {g : F} {t : Tree F O} {a : Words} {s : Stamps} → Comes c root input above (Call g t) a s
      → Comes c root input (InCallee g ∷ above) t a s
  Forks : {above : List (Above F O)} {g : F} {l r : Tree F O} {a : Words} {s : Stamps} → Comes c root input above (Fork g l r) a s
      → Comes c root input (InLeft g r s.time ∷ above) l a s
  Returns : {above : List (Above F O)} {g : F} {o : O} {a : Words} {s : Stamps} → Comes c root input (InCallee g ∷ above) (Over o) a s
      → Comes c root input above (c.resume g o) a s
  GoesRight : {above : List (Above F O)} {g : F} {r : Tree F O} {start : ℕ} {o : O} {a : Words} {s : Stamps}
      → Comes c root input (InLeft g r start ∷ above) (Over o) a s → Comes c root input (InRight g o start s.time ∷ above) r a s
  Joins : {above : List (Above F O)} {g : F} {o p : O} {start mid : ℕ} {a : Words} {s : Stamps}
      → Comes c root input (InRight g o start mid ∷ above) (Over p) a s → Comes c root input above (rejoin c g o p) a s

-- a run that has come to its end so is of a calm tree, and that is the end of its depth-first run
abbrev pub EndedIsCalm : {F O : Type 0} → Code F O → Type 0
EndedIsCalm {F} {O} c = (root : Tree F O) (input : Words) (o : O) (a : Words) (s : Stamps) → Comes c root input [] (Over o) a s → Calm c root input

-- a run whose next capsule meets something is of a tree that is not calm
abbrev pub MetIsNotCalm : {F O : Type 0} → Code F O → Type 0
MetIsNotCalm {F} {O} c = (root : Tree F O) (input : Words) (above : List (Above F O)) (f : F) (a : Words) (s : Stamps)
    → Comes c root input above (Strand f) a s → Meets c (beside_of above) f a s → Calm c root input → ⊥

-- a run whose next capsule has a number ends with no fewer capsules, if it ends
abbrev pub NextIsCounted : {F O : Type 0} → Code F O → Type 0
NextIsCounted {F} {O} c = (root : Tree F O) (input : Words) (above : List (Above F O)) (f : F) (a : Words) (s : Stamps)
    → Comes c root input above (Strand f) a s → (e : End O) → Ends c root input e → s.time ≤ e.counts.capsules

-- the moment of the run at which the capsule with a number is next; none before it met anything
pub record Moment {F O : Type 0} (c : Code F O) (root : Tree F O) (input : Words) (number : ℕ) : Type 0 where
  pub above : List (Above F O)
  pub frame : F
  pub words : Words
  pub stamps : Stamps
  pub come : Comes c root input above (Strand frame) words stamps
  pub time : stamps.time ≡ number

-- two moments of one number are one
pub record AreOne {F O : Type 0} (c : Code F O) (root : Tree F O) (input : Words) (number : ℕ) (m n : Moment c root input number) : Type 0 where
  pub above : m.above ≡ n.above
  pub frame : m.frame ≡ n.frame
  pub words : m.words ≡ n.words
  pub stamps : m.stamps ≡ n.stamps

abbrev pub MomentsAreOne : {F O : Type 0} → Code F O → Type 0
MomentsAreOne {F} {O} c = (root : Tree F O) (input : Words) (number : ℕ) (m n : Moment c root input number) → AreOne c root input number m n

-- the capsule of a moment meets nothing, where a later one of the run is next
abbrev pub EarlierPass : {F O : Type 0} → Code F O → Type 0
EarlierPass {F} {O} c = (root : Tree F O) (input : Words) (number later : ℕ) (m : Moment c root input number) → Moment c root input later
    → number < later → Passes c (beside_of m.above) m.frame m.words m.stamps

-- a fork is open with its right branch under way: the stamps with which its branches began
abbrev pub IsOpen : {F O : Type 0} → (start mid : ℕ) → List (Above F O) → Type 0
IsOpen start mid [] = ⊥
IsOpen start mid (InCallee g ∷ above) = IsOpen start mid above
IsOpen start mid (InLeft g r s ∷ above) = IsOpen start mid above
IsOpen start mid (InRight g o s m ∷ above) = ((start ≡ s) × (mid ≡ m)) ⊎ IsOpen start mid above

-- who stands beside a moment is in the left branch of one open fork
pub record IsInOneLeft {F O : Type 0} (above : List (Above F O)) (stamp : ℕ) : Type 0 where
  pub start : ℕ
  pub mid : ℕ
  pub open_there : IsOpen start mid above
  pub from : start ≤ stamp
  pub before : stamp < mid
  pub alone : (s m : ℕ) → IsOpen s m above → s ≤ stamp → stamp < m → (s ≡ start) × (m ≡ mid)

abbrev pub LeftsAreOne : {F O : Type 0} → Code F O → Type 0
LeftsAreOne {F} {O} c = (root : Tree F O) (input : Words) (above : List (Above F O)) (t : Tree F O) (a : Words) (s : Stamps) → Comes c root input above t a s
    → (stamp : ℕ) → beside_of above stamp ≡ true → IsInOneLeft above stamp

-- capsules open one fork at most, and frames that go on open none
pub record IsPlain {F O : Type 0} (c : Code F O) : Type 0 where
  pub next : (f : F) (a : Words) → forks_in (c.next f a) ≤ 1
  pub resume : (g : F) (o : O) → forks_in (c.resume g o) ≡ 0

-- then the capsule before the first one of a fork's left branch opened that fork
pub record Opened {F O : Type 0} (c : Code F O) (root : Tree F O) (input : Words) (start : ℕ) : Type 0 where
  pub number : ℕ
  pub moment : Moment c root input number
  pub before : number + 1 ≡ start
  pub opens : forks_in (c.next moment.frame moment.words) ≡ 1

abbrev pub ForksAreOpened : {F O : Type 0} → Code F O → Type 0
ForksAreOpened {F} {O} c = (root : Tree F O) (input : Words) (above : List (Above F O)) (t : Tree F O) (a : Words) (s : Stamps) → forks_in root ≡ 0
    → Comes c root input above t a s → (start mid : ℕ) → IsOpen start mid above → Opened c root input start

-- an earlier moment of the run, with a number, at which a capsule gives a word by s
pub record Was {F O : Type 0} (c : Code F O) (root : Tree F O) (input : Words) (s : F → Words → List ℕ) (number x : ℕ) : Type 0 where
  pub above : List (Above F O)
  pub frame : F
  pub words : Words
  pub stamps : Stamps
  pub come : Comes c root input above (Strand frame) words stamps
  pub time : stamps.time ≡ number
  pub has : Has x (s frame words)

-- who stands beside a moment by a word's stamps is a capsule of the run that wrote it, or touched it
pub record TouchesAreNamed {F O : Type 0} (c : Code F O) : Type 0 where
  pub wrote : (root : Tree F O) (input : Words) (above : List (Above F O)) (t : Tree F O) (a : Words) (s : Stamps) → Comes c root input above t a s
      → (x : ℕ) → beside_of above (s.wrote x) ≡ true → Was c root input c.writes (s.wrote x) x
  pub touched : (root : Tree F O) (input : Words) (above : List (Above F O)) (t : Tree F O) (a : Words) (s : Stamps) → Comes c root input above t a s
      → (x : ℕ) → beside_of above (s.touched x) ≡ true → Was c root input (touches c) (s.touched x) x
