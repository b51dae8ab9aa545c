-- The moment at which a run with stamps stands.
use Rattle.std.specs.Prelude.{◌≡◌, ◌<◌, ◌≤◌, ℕ, ◌+◌, Bool, true, false, List, [], ◌∷◌, ◌++◌, Some, length}
use Rattle.ppm_strands.specs.Tree.{Words, Strand, Over}
use Rattle.ppm_strands.specs.Run.{none}
use Rattle.ppm_words.specs.declared.named_array.NamedArray.{NamedArray}
use Rattle.ppm_code.specs.declared.act.End.{End}
use Rattle.ppm_code.specs.declared.act.End.TheVariants.{Next, Finish, Trap, Call, Fork}
use Rattle.ppm_code.specs.declared.code.CodeParts.{CodeParts}
use Rattle.ppm_code.specs.Inputs.{words_in}
use Rattle.ppm_code.specs.Sizes.{frame_size}
use Rattle.ppm_code.specs.Strands.{Result}
use Rattle.ppm_depth.specs.Stack.{Own, Strands, ForCallee, ForLeft, ForRight, Above, Root, On, IsShownAt}
use Rattle.ppm_depth.specs.Start.{words_of, root_strand}
use Rattle.ppm_depth.specs.Moves.{entry_at, pending, resumed, stack_resumed, waiting_resumed}
use Rattle.ppm_depth.specs.declared.frame.Finish.{Finish as Finishes}
use Rattle.ppm_depth.specs.declared.frame.For.{For}
use Rattle.ppm_depth.specs.declared.frame.For.TheVariants.{Callee, Left, Right}
use Rattle.ppm_depth.specs.declared.frame.Frame.{Frame}
use Rattle.ppm_depth.specs.Turns.{AreFew, HasCome, ShowsTree, Turns, counts_of, strands_over}
use Rattle.ppm_depth.specs.declared.frame.Now.{Now}
use Rattle.ppm_depth.specs.declared.frame.Now.TheVariants.{At}
use Rattle.ppm_depth.specs.declared.frame.Waiting.{Waiting}
use Rattle.ppm_stamps.specs.Stamps.{Stamps}
use Rattle.ppm_stamps.specs.Moments.{Above as Standing, InCallee, InLeft, InRight, beside_of, Comes, IsOpen}
use Rattle.ppm_races.specs.Beside.{IsFirst, stamps_of}
use Rattle.ppm_races.specs.Verdicts.{MomentOf, log_of, meets_at, met_at}
use Rattle.ppm_races.specs.declared.stamps.Mark.{Mark}
use Rattle.ppm_races.specs.declared.touch.Touch.{Touch}
use Rattle.ppm_races.specs.declared.walk.Meeting.{Meeting}
use Rattle.ppm_races.specs.declared.walk.Turn.{Turn}
use Rattle.ppm_races.specs.declared.walk.Turn.TheVariants.{Goes, Meets}
use Rattle.ppm_races.specs.declared.walk.Told.{Told}
use Rattle.ppm_races.specs.declared.walk.Told.TheVariants as told
use Rattle.ppm_races.specs.declared.walk.Walk.{Walk}

-- the innermost fork's stamps, and the forks outside of it
abbrev pub start_of : List Mark → ℕ
start_of [] = 0
start_of (m ∷ ms) = m.start

-- the stamp of its right branch
abbrev pub mid_of : List Mark → ℕ
mid_of [] = 0
mid_of (m ∷ ms) = m.mid

-- the others
abbrev pub outside_of : List Mark → List Mark
outside_of [] = []
outside_of (m ∷ ms) = ms

-- what stands above the strand, with when the branches of its forks began
abbrev pub rise : Above → List Mark → List (Standing Own Result)
rise Root ms = []
rise (On w (ForCallee f) s) ms = InCallee f ∷ rise s ms
rise (On w (ForLeft f r) s) ms = InLeft f (Strand r) (start_of ms) ∷ rise s (outside_of ms)
rise (On w (ForRight f o) s) ms = InRight f o (start_of ms) (mid_of ms) ∷ rise s (outside_of ms)

-- the marks of it, the outermost first
abbrev pub marks_of : List (Standing Own Result) → List Mark
marks_of [] = []
marks_of (InCallee g ∷ p) = marks_of p
marks_of (InLeft g r start ∷ p) = marks_of p ++ (record { start = start; mid = 0 } ∷ [])
marks_of (InRight g o start mid ∷ p) = marks_of p ++ (record { start = start; mid = mid } ∷ [])

-- an end opens a fork
abbrev pub opens_fork : End → Bool
opens_fork (Next capsule) = false
opens_fork Finish = false
opens_fork (Trap trap line) = false
opens_fork (Call procedure capsule to) = false
opens_fork (Fork left right capsule left_to right_to) = true

-- the marks after an end
abbrev pub marks_with : Bool → (time : ℕ) → List Mark → List Mark
marks_with true time marks = marks ++ (record { start = time; mid = 0 } ∷ [])
marks_with false time marks = marks

-- the stamps of a walk
abbrev pub stamps_in : Walk → Stamps
stamps_in walk = stamps_of (walk.strand.counts.capsules + 1) walk.visits.wrote.items walk.visits.touched.items

-- each array word has its two stamps
pub record AreSeen (walk : Walk) : Type 0 where
  pub wrote : length walk.visits.wrote.items ≡ length walk.strand.store.words.items
  pub touched : length walk.visits.touched.items ≡ length walk.strand.store.words.items

-- The run of a tree from words has come to this, with these frames that wait.
pub record IsAtWith (code : CodeParts) (root : Strands) (input : Words) (blocks : List ℕ) (waiting : List Waiting) (walk : Walk) (current : Now) : Type 0 where
  pub above : Above
  pub leaf : Strands
  pub forks : List Mark
  pub shown : IsShownAt code blocks waiting current above leaf
  pub come : Comes (strands_over code (length walk.strand.store.words.items)) root input (rise above forks) leaf
      (words_of walk.strand.store.words.items) (stamps_in walk)
  pub marks : walk.marks.items ≡ marks_of (rise above forks)

-- a walk stands there with its own stack and frames
abbrev pub IsAt : (code : CodeParts) (root : Strands) (input : Words) → Walk → Now → Type 0
IsAt code root input walk current = IsAtWith code root input walk.strand.store.blocks.items walk.strand.waiting.items walk current

module _ (code : CodeParts) (root : Strands) (input : Words) (array_words : ℕ) where
  -- the capsule with a number in the run, and in the code, touches this
  pub record IsLogged (run capsule : ℕ) (log : List Touch) : Type 0 where
    pub moment : MomentOf code root input array_words run
    pub same : moment.frame.point.capsule ≡ capsule
    pub all : log ≡ log_of code array_words moment.frame moment.words

  -- the capsule that is next meets another one: the first of its touches that does, whom, and the fork in whose left branch that is
  pub record IsMeetingOf (m : Meeting) : Type 0 where
    pub moment : MomentOf code root input array_words m.run
    pub capsule : moment.frame.point.capsule ≡ m.capsule
    pub first : IsFirst (meets_at (beside_of moment.above) moment.stamps) (log_of code array_words moment.frame moment.words) m.met.touch
    pub there : m.met.touch.word < array_words
    pub left : m.met.left ≡ met_at (beside_of moment.above) moment.stamps m.met.touch.word
    pub beside : beside_of moment.above m.met.left ≡ true
    pub fork : IsOpen m.met.fork.start m.met.fork.mid moment.above
    pub from : m.met.fork.start ≤ m.met.left
    pub before : m.met.left < m.met.fork.mid

-- what comes of a capsule
abbrev pub TurnedTo : (code : CodeParts) (root : Strands) (input : Words) → Walk → Walk → Turn → Type 0
TurnedTo code root input before after (Goes current) = IsAt code root input after current
TurnedTo code root input before after (Meets meeting) =
    IsMeetingOf code root input (length before.strand.store.words.items) meeting × (meeting.run ≡ before.strand.counts.capsules + 1)

-- the strand goes on by a turn of `ppm_depth`
abbrev pub Chains : (code : CodeParts) (before after : Walk) (was : Now) → Turn → Type 0
Chains code before after was (Goes current) = Turns code 1 before.strand after.strand was current
Chains code before after was (Meets meeting) = Unit {0}

-- what a capsule that goes on keeps
pub record KeptOn (before after : Walk) : Type 0 where
  pub seen : AreSeen after
  pub words : length after.strand.store.words.items ≡ length before.strand.store.words.items
  pub capsules : after.strand.counts.capsules ≡ before.strand.counts.capsules + 1
  pub few : AreFew after.strand.counts
  pub pending : pending after.strand.waiting.items ≤ pending before.strand.waiting.items + 4

-- what a capsule keeps; where it meets another one, the count of words alone
abbrev pub KeptBy : Walk → Walk → Turn → Type 0
KeptBy before after (Goes current) = KeptOn before after
KeptBy before after (Meets meeting) = length after.strand.store.words.items ≡ length before.strand.store.words.items

-- how the marks change where that for which a frame waits is over
abbrev pub MarksResumed : (time : ℕ) → For → (old new : List Mark) → Type 0
MarksResumed time (Callee to) old new = new ≡ old
MarksResumed time (Left r left_to to) old new = (front : List Mark) (start mid : ℕ) → old ≡ front ++ (record { start = start; mid = mid } ∷ [])
    → new ≡ front ++ (record { start = start; mid = time } ∷ [])
MarksResumed time (Right l left_to to) old new = (front : List Mark) (mark : Mark) → old ≡ front ++ (mark ∷ []) → new ≡ front

-- and what stays then
pub record ResumedSo (w : Waiting) (done : Finishes) (before after : Walk) (current : Now) : Type 0 where
  pub now : current ≡ resumed w w.on done
  pub blocks : after.strand.store.blocks.items ≡ stack_resumed w w.on done before.strand.store.blocks.items
  pub words : after.strand.store.words.items ≡ before.strand.store.words.items
  pub counts : after.strand.counts ≡ before.strand.counts
  pub visits : after.visits ≡ before.visits
  pub waiting : after.strand.waiting.items ≡ waiting_resumed w w.on done before.strand.waiting.items

-- a walk has come to a capsule, so many after the first
pub record IsNextAt (code : CodeParts) (root : Strands) (input : Words) (limit : ℕ) (walk : Walk) (frame : Frame) : Type 0 where
  pub at : IsAt code root input walk (At frame)
  pub all : walk.strand.counts.capsules ≡ limit
  pub seen : AreSeen walk
  pub few : AreFew walk.strand.counts

-- how a run is left
abbrev pub HasTold : (code : CodeParts) (root : Strands) (input : Words) (limit : ℕ) → Walk → Told → Type 0
HasTold code root input limit walk (told.Ended finish) =
    (o : Result) × (a : Words) × (s : Stamps)
    × Comes (strands_over code (length walk.strand.store.words.items)) root input [] (Over o) a s × (s.time ≤ limit + 1)
HasTold code root input limit walk (told.Meets meeting) =
    IsMeetingOf code root input (length walk.strand.store.words.items) meeting × (meeting.run ≤ limit)
HasTold code root input limit walk (told.Next frame) = IsNextAt code root input limit walk frame

-- where it is over, it has come to its end as a run of `ppm_depth` does
abbrev pub HasChain : (code : CodeParts) (array_words limit : ℕ) (t : Strands) (a : Words) → Walk → Told → Type 0
HasChain code array_words limit t a walk (told.Ended finish) =
    HasCome code array_words limit t a walk.strand (Some finish) × AreFew walk.strand.counts × (walk.strand.counts.capsules ≤ limit)
HasChain code array_words limit t a walk (told.Meets meeting) = Unit {0}
HasChain code array_words limit t a walk (told.Next frame) = Unit {0}

-- a walk that is about to begin
pub record HasBegun (code : CodeParts) (input : List NamedArray) (walk : Walk) : Type 0 where
  pub at : IsAt code (root_strand code input) (words_of (words_in input)) walk (At (entry_at code code.root 0))
  pub shown : ShowsTree code walk.strand (At (entry_at code code.root 0)) (root_strand code input)
  pub counts : counts_of walk.strand.counts ≡ none
  pub seen : AreSeen walk
  pub words : walk.strand.store.words.items ≡ words_in input
  pub blocks : length walk.strand.store.blocks.items ≡ frame_size code code.root
