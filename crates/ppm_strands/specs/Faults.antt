-- Trees of strands run word step by word step, in any order, with faults: at any moment any strand may lose how far its capsule has come.
-- A sketch of the machine, whose strands also store values into frames that wait, store an end word by word, and may be taken over by an heir
-- with a new block: the proof on runs is to go by the steps of `ppm_strands` (`Ahead`), which have all of these.
use Rattle.std.specs.Prelude.{◌≡◌, ℕ}
use Rattle.ppm_strands.specs.Tree.{Words, Tree, Strand, Call, Fork, Over}
use Rattle.ppm_strands.specs.Run.{Counts, none, plus, of_capsule, rejoin, End, Ends}
use Rattle.ppm_strands.specs.Calm.{Calm}
use Rattle.ppm_strands.specs.Ahead.{Ahead}
use Rattle.ppm_strands.specs.Capsule.{Equality, Capsule, Memory}
use Rattle.ppm_strands.specs.Capsule as capsule
use Rattle.ppm_strands.specs.Stopped.{Progress, at, one}
use Rattle.ppm_strands.specs.Strand.{Location, Own, New, Shared, Frame, Table, own_of, new_of, shared_of, code_of, MayBeginAgain}

-- a strand under way: its point, its own words and those of what it builds, and what is left of its capsule
pub record UnderWay (S N K E : Type 0) : Type 0 where
  pub point : K
  pub own : S → ℕ
  pub new : N → ℕ
  pub rest : Capsule (Location S N) E

-- a tree whose strands are under way
pub data Running (S N K E O : Type 0) : Type 0 where
  Runs : UnderWay S N K E → Running S N K E O
  Calls : Frame S K → Running S N K E O → Running S N K E O
  Forks : Frame S K → Running S N K E O → Running S N K E O → Running S N K E O
  IsOver : O → Running S N K E O

module _ {S N K E : Type 0} where
  -- the words that a strand finds where the shared ones are a
  abbrev pub memory : UnderWay S N K E → Words → Memory (Location S N)
  memory w a (Own s) = w.own s
  memory w a (New n) = w.new n
  memory w a (Shared x) = a x

  -- how far its capsule has come
  abbrev pub progress : UnderWay S N K E → Words → Progress (Location S N) E
  progress w a = at w.rest (memory w a)

  -- a strand whose capsule has come so far
  abbrev pub come_to : K → Progress (Location S N) E → UnderWay S N K E
  come_to k g = record { point = k; own = own_of g.words; new = new_of g.words; rest = g.rest }

  -- its frame
  abbrev pub frame : UnderWay S N K E → Frame S K
  frame w = record { own = w.own; point = w.point }

-- what a running tree shows: each strand as if at the beginning of its capsule, with its words as they are
abbrev pub shown : {S N K E O : Type 0} → Running S N K E O → Tree (Frame S K) O
shown (Runs w) = Strand (frame w)
shown (Calls g t) = Call g (shown t)
shown (Forks g l r) = Fork g (shown l) (shown r)
shown (IsOver o) = Over o

-- a tree with each strand at the beginning of its capsule, with a blank block
abbrev pub begun : {S N K E O : Type 0} → Table S N K E O → Tree (Frame S K) O → Running S N K E O
begun table (Strand f) = Runs (record { point = f.point; own = f.own; new = table.blank; rest = table.capsule f.point })
begun table (Call g t) = Calls g (begun table t)
begun table (Fork g l r) = Forks g (begun table l) (begun table r)
begun table (Over o) = IsOver o

-- one thing that happens, with what it counts: a strand makes a word step; by a fault it loses how far its capsule has come, and begins
-- that again on the words as they are; a capsule that has come to its end opens what comes next; a call or a fork that is over goes on
pub data Happens {S N K E O : Type 0} (eq : Equality (Location S N)) (table : Table S N K E O) :
    Counts → Running S N K E O → Words → Running S N K E O → Words → Type 0 where
  WordStep : (w : UnderWay S N K E) (a : Words)
      → Happens eq table none (Runs w) a (Runs (come_to w.point (one eq (progress w a)))) (shared_of (one eq (progress w a)).words)
  Fault : (w : UnderWay S N K E) (a : Words) → Happens eq table none (Runs w) a (Runs (come_to w.point (at (table.capsule w.point) (memory w a)))) a
  Opens : (w : UnderWay S N K E) (e : E) (a : Words) → w.rest ≡ capsule.Ends e
      → Happens eq table (of_capsule (code_of eq table) (frame w) a) (Runs w) a (begun table (table.opens w.point e w.own w.new)) a
  Returns : (g : Frame S K) (o : O) (a : Words) → Happens eq table none (Calls g (IsOver o)) a (begun table (table.resume g o)) a
  Joins : (g : Frame S K) (o p : O) (a : Words)
      → Happens eq table none (Forks g (IsOver o) (IsOver p)) a (begun table (rejoin (code_of eq table) g o p)) a
  InCallee : (g : Frame S K) {k : Counts} {t u : Running S N K E O} {a b : Words} → Happens eq table k t a u b → Happens eq table k (Calls g t) a (Calls g u) b
  InLeftBranch : (g : Frame S K) (r : Running S N K E O) {k : Counts} {t u : Running S N K E O} {a b : Words}
      → Happens eq table k t a u b → Happens eq table k (Forks g t r) a (Forks g u r) b
  InRightBranch : (g : Frame S K) (l : Running S N K E O) {k : Counts} {t u : Running S N K E O} {a b : Words}
      → Happens eq table k t a u b → Happens eq table k (Forks g l t) a (Forks g l u) b

-- any number of such things, in any order
pub data Happen {S N K E O : Type 0} (eq : Equality (Location S N)) (table : Table S N K E O) :
    Counts → Running S N K E O → Words → Running S N K E O → Words → Type 0 where
  Nothing : (t : Running S N K E O) (a : Words) → Happen eq table none t a t a
  Next : {j k : Counts} {t u v : Running S N K E O} {a b d : Words} → Happens eq table j t a u b → Happen eq table k u b v d
      → Happen eq table (plus j k) t a v d

module _ {S N K E O : Type 0} (eq : Equality (Location S N)) (table : Table S N K E O) where
  -- each capsule may be begun again from any words: it has no write-after-read conflict, and reads no word of a new block before it wrote it
  abbrev pub IsRestartable : Type 0
  IsRestartable = (k : K) (m : Memory (Location S N)) → MayBeginAgain eq table k m

  -- whatever happens to a calm tree of such capsules, what it then shows is what is left of it, and ends exactly where all of it would,
  -- with the counts of the capsules that came to their ends, however often these were begun
  abbrev pub FaultyRunsAreAhead : Type 0
  FaultyRunsAreAhead = IsRestartable → (k : Counts) (t : Tree (Frame S K) O) (u : Running S N K E O) (a b : Words)
      → Calm (code_of eq table) t a → Happen eq table k (begun table t) a u b → Ahead (code_of eq table) k t a (shown u) b

  -- where a run with faults is over, that is the end of the depth-first run without faults: the same outcome, words and counts
  abbrev pub FaultyRunsEndAlike : Type 0
  FaultyRunsEndAlike = IsRestartable → (k : Counts) (t : Tree (Frame S K) O) (o : O) (a b : Words)
      → Calm (code_of eq table) t a → Happen eq table k (begun table t) a (IsOver o) b
      → Ends (code_of eq table) t a (record { outcome = o; words = b; counts = k })

  -- and there are such runs: the depth-first run is one, word step by word step and without a fault
  abbrev pub DepthFirstHappens : Type 0
  DepthFirstHappens = IsRestartable → (t : Tree (Frame S K) O) (a : Words) (e : End O) → Ends (code_of eq table) t a e
      → Happen eq table e.counts (begun table t) a (IsOver e.outcome) e.words

  -- faults do not show
  pub record FaultsDoNotShow : Type 0 where
    pub ahead : FaultyRunsAreAhead
    pub ends : FaultyRunsEndAlike
    pub happens : DepthFirstHappens
