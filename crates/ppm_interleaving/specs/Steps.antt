-- What turns of strands come to, one by one.
use Rattle.std.specs.Prelude.{◌≡◌, ℕ, false, List, [], ◌∷◌, ◌++◌, length, get_or, set, reverse, replicate, None}
use Rattle.ppm_strands.specs.Tree.{Words}
use Rattle.ppm_strands.specs.Ahead.{put}
use Rattle.ppm_strands.specs.Capsule.{Memory, store}
use Rattle.ppm_strands.specs.Strand.{Frame}
use Rattle.ppm_unseen.specs.Capsule.{Next as Opening, GoesOn, Forks, Closes}
use Rattle.ppm_unseen.specs.Run.{System, Deed, State, UnderWay, Unseen, Seen, Comes, Goes as GoesUnseen, Does as DoesSeen, Changed as HasChanged}
use Rattle.ppm_unseen.specs.Run.{Asked, asked, now}
use Rattle.ppm_code.specs.declared.location.FrameWord.{FrameWord}
use Rattle.ppm_code.specs.declared.location.Location.{Location}
use Rattle.ppm_code.specs.declared.location.Location.TheVariants.{Frame as OfTheFrame, New, Array}
use Rattle.ppm_code.specs.Strands.{Result, Gave, Trapped, Point, at_capsule}
use Rattle.ppm_depth.specs.declared.frame.Finish.{Finish}
use Rattle.ppm_depth.specs.declared.frame.Finish.TheVariants as finish
use Rattle.ppm_filled.specs.Racing.{OwnWord, OfFrame, OfBlock, own_words, Place, At, HasTrapped, Exit, ending}
use Rattle.ppm_racy.specs.declared.code.RacyParts.{RacyParts}
use Rattle.ppm_racy.specs.Code.{instrs_of}
use Rattle.ppm_racy.specs.Capsules.{capsule_from, built}
use Rattle.ppm_racy.specs.Racing.{racy_system}
use Rattle.ppm_interleaving.specs.declared.change.Change.{Change as Asking}
use Rattle.ppm_interleaving.specs.declared.change.Change.TheVariants.{Puts}
use Rattle.ppm_interleaving.specs.declared.ending.Opened.{Opened}
use Rattle.ppm_interleaving.specs.declared.ending.Opened.TheVariants as opened
use Rattle.ppm_interleaving.specs.declared.own.Own.{Own}
use Rattle.ppm_interleaving.specs.declared.running.Running.{Running}
use Rattle.ppm_interleaving.specs.declared.running.Touched.{Touched}
use Rattle.ppm_interleaving.specs.declared.running.Touched.TheVariants.{Goes, Changed, Ends}
use Rattle.ppm_interleaving.specs.declared.strand.Branches.{Branches}
use Rattle.ppm_interleaving.specs.declared.strand.Branches.TheVariants.{Callee, Both}
use Rattle.ppm_interleaving.specs.declared.strand.Waiting.{Waiting}
use Rattle.ppm_interleaving.specs.declared.strand.Strand.{Strand}
use Rattle.ppm_interleaving.specs.declared.strand.Strand.TheVariants.{Running as IsRunning, Waiting as IsWaiting, Tells, Over}
use Rattle.ppm_interleaving.specs.Changes.{change_of, changes_of}
use Rattle.ppm_interleaving.specs.Owns.{ShowsOwn, frame_word_in}
use Rattle.ppm_interleaving.specs.Turns.{is_storing, with_faults}

-- the word at a location
abbrev pub found_at : Own → (words : List ℕ) → Location → ℕ
found_at own words (OfTheFrame k) = frame_word_in own k
found_at own words (New o) = get_or own.block.items o 0
found_at own words (Array x) = get_or words x 0

-- a strand at the beginning of a capsule, which has asked for nothing
pub record IsBegun (number : ℕ) (words : Own) (r : Running) : Type 0 where
  pub capsule : r.capsule ≡ number
  pub at : r.at ≡ 0
  pub registers : r.registers ≡ replicate 64 0
  pub own : r.own ≡ words
  pub settled : r.settled.items ≡ []
  pub since : r.since.items ≡ []

-- a strand that begins a capsule begins a frame of the model
pub record BeginsFrame (r : Running) (f : Frame OwnWord Place) : Type 0 where
  pub begun : IsBegun r.capsule r.own r
  pub point : f.point ≡ At (at_capsule r.capsule)
  pub own : ShowsOwn r.own f.own

-- how a strand is over
abbrev pub result_of : Finish → Result
result_of (finish.Gave value) = Gave value
result_of (finish.Trapped trap line) = Trapped trap line

-- where a frame that waits stands, and how many branches it waits for
abbrev pub point_by : (capsule : ℕ) → Branches → Point
point_by capsule (Callee to) = record { capsule = capsule; left_to = None; to = to }
point_by capsule (Both left_to to) = record { capsule = capsule; left_to = left_to; to = to }

abbrev pub branch_count : Branches → ℕ
branch_count (Callee to) = 1
branch_count (Both left_to to) = 2

-- a frame of the model waits so
pub record WaitsAs (w : Waiting) (g : Frame OwnWord Place) (fs : List (Frame OwnWord Place)) : Type 0 where
  pub own : ShowsOwn w.own g.own
  pub point : g.point ≡ At (point_by w.capsule w.branches)
  pub branches : length fs ≡ branch_count w.branches

-- what a capsule under way has asked for, the last change first
abbrev pub asked_by : Running → Asked
asked_by r = record { all = reverse (changes_of (r.settled.items ++ r.since.items)); settled = reverse (changes_of r.settled.items) }

-- a strand goes on as a frame of the model does: it begins, or it is to tell the trap of a branch
abbrev pub GoesOnAs : Strand → Frame OwnWord Place → Type 0
GoesOnAs (IsRunning r) f = BeginsFrame r f
GoesOnAs (Tells fin) f = f.point ≡ HasTrapped (result_of fin)
GoesOnAs (IsWaiting w) f = ⊥
GoesOnAs (Over fin) f = ⊥

-- what an end opens, where so many strands are there
abbrev pub Opens : RacyParts → (count : ℕ) → Opened → Opening OwnWord Place Result → Type 0
Opens code count (opened.GoesOn r) to = (f : Frame OwnWord Place) × (to ≡ GoesOn f) × BeginsFrame r f
Opens code count (opened.Calls r w) to = (f : Frame OwnWord Place) × (g : Frame OwnWord Place) × (to ≡ Forks (f ∷ []) g)
    × BeginsFrame r f × WaitsAs w g (f ∷ []) × (w.first ≡ count)
Opens code count (opened.Forks l r w) to = (e : Frame OwnWord Place) × (f : Frame OwnWord Place) × (g : Frame OwnWord Place)
    × (to ≡ Forks (e ∷ f ∷ []) g) × BeginsFrame l e × BeginsFrame r f × WaitsAs w g (e ∷ f ∷ []) × (w.first ≡ count)
Opens code count (opened.Closes fin) to = to ≡ Closes (result_of fin)

-- a strand as it was, but for what it has asked for: a change more, which leaves its word as it is, or which is settled then
pub record IsSameBut (old new : Running) : Type 0 where
  pub capsule : new.capsule ≡ old.capsule
  pub at : new.at ≡ old.at
  pub registers : new.registers ≡ old.registers
  pub own : new.own ≡ old.own

abbrev pub AsksFor : (old : Running) → Asking → (words : List ℕ) → Touched → (after : List ℕ) → Type 0
AsksFor old k words (Goes new) after = IsSameBut old new × (after ≡ words) × (new.settled.items ≡ old.settled.items)
    × (new.since.items ≡ old.since.items ++ k ∷ []) × ((change_of k).by (get_or words (change_of k).at 0) ≡ get_or words (change_of k).at 0)
AsksFor old k words (Changed new word was is) after = IsSameBut old new × (after ≡ set words word is)
    × (new.settled.items ≡ old.settled.items ++ (old.since.items ++ k ∷ [])) × (new.since.items ≡ [])
    × (word ≡ (change_of k).at) × (was ≡ get_or words word 0) × (is ≡ (change_of k).by was) × (is ≡ was → ⊥)
AsksFor old k words (Ends own end) after = ⊥

abbrev pub StoresOwn : (old : Running) → OwnWord → ℕ → (words : List ℕ) → Touched → (after : List ℕ) → Type 0
StoresOwn old x v words (Goes new) after = (new.capsule ≡ old.capsule) × (new.at ≡ old.at) × (new.registers ≡ old.registers)
    × (new.settled.items ≡ old.settled.items) × (new.since.items ≡ old.since.items) × (after ≡ words)
    × ((o : Memory OwnWord) → ShowsOwn old.own o → ShowsOwn new.own (store own_words o x v))
StoresOwn old x v words (Changed new word was is) after = ⊥
StoresOwn old x v words (Ends own end) after = ⊥

-- a word is stored: a put of an array word is asked for; other words are the strand's own
abbrev pub StoresAt : (old : Running) → Location → ℕ → (words : List ℕ) → Touched → (after : List ℕ) → Type 0
StoresAt old (Array x) v words touched after = AsksFor old (Puts x v) words touched after
StoresAt old (OfTheFrame k) v words touched after = StoresOwn old (OfFrame k) v words touched after
StoresAt old (New n) v words touched after = StoresOwn old (OfBlock n) v words touched after

-- one of the model's steps that others don't see, and what the capsule has asked for before it and after it; the strand isn't at an end that stores
pub record MovesUnseen (s : System OwnWord Place Exit Result) (t : List (Deed OwnWord Place Result)) (σ τ : State OwnWord Place Exit) (before after : Asked) : Type 0 where
  pub no_end : is_storing σ ≡ false
  pub step : Unseen s ⊥ t σ τ
  pub asks : (me : ℕ) (c : Comes s (Unit {0}) me t σ) → asked c ≡ before → asked (GoesUnseen c (with_faults s step)) ≡ after

-- and one that they see
pub record MovesSeen (s : System OwnWord Place Exit Result) (me : ℕ) (t : List (Deed OwnWord Place Result)) (σ : State OwnWord Place Exit)
    (d : Deed OwnWord Place Result) (τ : State OwnWord Place Exit) (before after : Asked) : Type 0 where
  pub no_end : is_storing σ ≡ false
  pub step : Seen s me t σ d τ
  pub asks : (c : Comes s (Unit {0}) me t σ) → asked c ≡ before → asked (DoesSeen c step) ≡ after

module _ (code : RacyParts) (array_words : ℕ) where
  -- the state of a strand under way, with these own words
  abbrev pub under_way : Running → Memory OwnWord → State OwnWord Place Exit
  under_way r o = UnderWay (At (at_capsule r.capsule))
      (capsule_from (built (instrs_of code r.capsule)) array_words 0 r.at (instrs_of code r.capsule) r.registers) o

  -- what a turn of a strand under way comes to, in any run of the code: words are those of the arrays before it, and after it
  abbrev pub TurnsTo : (old : Running) → (words : List ℕ) → Touched → (after : List ℕ) → Type 0
  TurnsTo old words (Goes new) after = (after ≡ words) × ((root : FrameWord → ℕ) (arrays : Words) (t : List (Deed OwnWord Place Result)) (o : Memory OwnWord)
      → ShowsOwn old.own o → ((x : ℕ) → now (racy_system code array_words root arrays) t x ≡ get_or words x 0)
      → (p : Memory OwnWord) × ShowsOwn new.own p
      × MovesUnseen (racy_system code array_words root arrays) t (under_way old o) (under_way new p) (asked_by old) (asked_by new))
  TurnsTo old words (Changed new word was is) after = (was ≡ get_or words word 0)
      × ((x : ℕ) → get_or after x 0 ≡ put (λ y. get_or words y 0) word is x) × (length after ≡ length words)
      × ((root : FrameWord → ℕ) (arrays : Words) (t : List (Deed OwnWord Place Result)) (o : Memory OwnWord)
      → ShowsOwn old.own o → ((x : ℕ) → now (racy_system code array_words root arrays) t x ≡ get_or words x 0)
      → ShowsOwn new.own o × ((me : ℕ) → MovesSeen (racy_system code array_words root arrays) me t (under_way old o) (HasChanged me word is) (under_way new o)
      (asked_by old) (asked_by new)))
  TurnsTo old words (Ends own end) after = (after ≡ words) × ((o : Memory OwnWord) → ShowsOwn old.own o → ShowsOwn own o
      × (under_way old o ≡ UnderWay (At (at_capsule old.capsule)) (ending (built (instrs_of code old.capsule)) end) o))
