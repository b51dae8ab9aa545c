-- What strands do to shared words, with faults and without: one history, along which each of them comes so far.
use Rattle.std.specs.Prelude.{◌≡◌, ◌⊎◌, ℕ, suc, ◌+◌, ◌==◌, cond, false, List, [], ◌∷◌, length, Option, Some, None}
use Rattle.ppm_strands.specs.Tree.{Words}
use Rattle.ppm_strands.specs.Ahead.{put}
use Rattle.ppm_strands.specs.Capsule.{Memory, store}
use Rattle.ppm_strands.specs.Strand.{Frame}
use Rattle.ppm_unseen.specs.Capsule.{Capsule, Loads, Keeps, Reads, Changes, Ends, GoesOn, Forks, Closes, Code}

-- a system: its code, the frames of the strands that it begins with, by numbers from 0, and the shared words then
pub record System (A K E O : Type 0) : Type 0 where
  pub code : Code A K E O
  pub start : List (Frame A K)
  pub words : Words

-- what a strand does that others see: it changes a shared word, forks branches, or is over with an outcome
pub data Deed (A K O : Type 0) : Type 0 where
  Changed : (who at word : ℕ) → Deed A K O
  Forked : (who : ℕ) → List (Frame A K) → Deed A K O
  Finished : (who : ℕ) → O → Deed A K O

-- where a strand is: it is not forked yet; it is under way, at a point, with what is left of the capsule there, and with its own words; it waits,
-- as a frame, for branches whose numbers begin with `first`; or it is over
pub data State (A K E : Type 0) : Type 0 where
  NotYet : State A K E
  UnderWay : K → (rest : Capsule A E) → (own : Memory A) → State A K E
  Waits : Frame A K → (first : ℕ) → List (Frame A K) → State A K E
  IsOver : State A K E

-- one change that a capsule asks for
pub record Change : Type 0 where
  pub at : ℕ
  pub by : ℕ → ℕ

-- the change of word x by g
abbrev pub change : ℕ → (ℕ → ℕ) → Change
change x g = record { at = x; by = g }

-- each of these changes would leave the words as they are
abbrev pub AllStill : Words → List Change → Type 0
AllStill a [] = Unit {0}
AllStill a (k ∷ ks) = (k.by (a k.at) ≡ a k.at) × AllStill a ks

-- of frames with the numbers from n on, the one with the number i
abbrev pub numbered : {A K : Type 0} → ℕ → List (Frame A K) → ℕ → Option (Frame A K)
numbered n [] i = None
numbered n (f ∷ fs) i = cond (i == n) (Some f) (numbered (suc n) fs i)

module _ {A K O : Type 0} where
  -- who did it
  abbrev pub doer : Deed A K O → ℕ
  doer (Changed who x v) = who
  doer (Forked who fs) = who
  doer (Finished who o) = who

  -- strand i is over with this outcome
  abbrev pub HasFinished : ℕ → O → List (Deed A K O) → Type 0
  HasFinished i o [] = ⊥
  HasFinished i o (d ∷ t) = (d ≡ Finished i o) ⊎ HasFinished i o t

  -- these branches, which have the numbers from i on, are over with these outcomes
  abbrev pub HaveFinished : ℕ → List (Frame A K) → List O → List (Deed A K O) → Type 0
  HaveFinished i [] [] t = Unit {0}
  HaveFinished i (f ∷ fs) (o ∷ os) t = HasFinished i o t × HaveFinished (suc i) fs os t
  HaveFinished i fs os t = ⊥

module _ {A K E O : Type 0} (s : System A K E O) where
  -- a strand at the beginning of a capsule
  abbrev pub begun : Frame A K → State A K E
  begun f = UnderWay f.point (s.code.capsule f.point) f.own

  -- a strand for which there may be a frame: it begins, or is not forked yet
  abbrev pub begun_if_any : Option (Frame A K) → State A K E
  begun_if_any None = NotYet
  begun_if_any (Some f) = begun f

  -- the shared words after these deeds, of which the last one comes first
  abbrev pub now : List (Deed A K O) → Words
  now [] = s.words
  now (Changed who x v ∷ t) = put (now t) x v
  now (Forked who fs ∷ t) = now t
  now (Finished who o ∷ t) = now t

  -- how many strands there are after these deeds: the branches of a fork have the next numbers
  abbrev pub count : List (Deed A K O) → ℕ
  count [] = length s.start
  count (Changed who x v ∷ t) = count t
  count (Forked who fs ∷ t) = count t + length fs
  count (Finished who o ∷ t) = count t

  -- the frame with which a deed begins strand i, if it does
  abbrev pub forked_by : List (Deed A K O) → Deed A K O → ℕ → Option (Frame A K)
  forked_by t (Changed who x v) i = None
  forked_by t (Forked who fs) i = numbered (count t) fs i
  forked_by t (Finished who o) i = None

  -- where strand i is once another one has done something: as before, unless it is forked by that
  abbrev pub once_done : ℕ → List (Deed A K O) → Deed A K O → State A K E → State A K E
  once_done i t d NotYet = begun_if_any (forked_by t d i)
  once_done i t d σ = σ

  -- how a strand goes on after the deeds t, unseen by others: it loads, keeps or reads a word; it asks for a change that leaves the word as it is; an
  -- end opens the next capsule; a frame goes on once its branches are over; by a fault the strand begins its capsule again, with its own words as
  -- they are, and any words in the block that it builds, since an heir builds elsewhere. Where `faults` has no proof there is no fault.
  pub data Unseen (faults : Type 0) (t : List (Deed A K O)) : State A K E → State A K E → Type 0 where
    Takes : {k : K} {o : Memory A} (x : A) (go : ℕ → Capsule A E) → Unseen faults t (UnderWay k (Loads x go) o) (UnderWay k (go (o x)) o)
    Stores : {k : K} {o : Memory A} (x : A) (v : ℕ) (rest : Capsule A E)
        → Unseen faults t (UnderWay k (Keeps x v rest) o) (UnderWay k rest (store s.code.names o x v))
    Finds : {k : K} {o : Memory A} (x : ℕ) (go : ℕ → Capsule A E) → Unseen faults t (UnderWay k (Reads x go) o) (UnderWay k (go (now t x)) o)
    Leaves : {k : K} {o : Memory A} (x : ℕ) (g : ℕ → ℕ) (rest : Capsule A E) → g (now t x) ≡ now t x
        → Unseen faults t (UnderWay k (Changes x g rest) o) (UnderWay k rest o)
    Opens : {k : K} {o : Memory A} (e : E) (f : Frame A K) → s.code.opens e o ≡ GoesOn f → Unseen faults t (UnderWay k (Ends e) o) (begun f)
    Joins : (g : Frame A K) (n : ℕ) (fs : List (Frame A K)) (os : List O) → HaveFinished n fs os t
        → Unseen faults t (Waits g n fs) (begun (s.code.rejoin g os))
    Faults : {k : K} {rest : Capsule A E} {o : Memory A} → faults → (o' : Memory A) → ((x : A) → s.code.builds k x ≡ false → o' x ≡ o x)
        → Unseen faults t (UnderWay k rest o) (UnderWay k (s.code.capsule k) o')

  -- how strand `me` goes on by a deed: a change of a word; an end that forks, or closes the strand
  pub data Seen (me : ℕ) (t : List (Deed A K O)) : State A K E → Deed A K O → State A K E → Type 0 where
    Alters : {k : K} {o : Memory A} (x : ℕ) (g : ℕ → ℕ) (rest : Capsule A E) → (g (now t x) ≡ now t x → ⊥)
        → Seen me t (UnderWay k (Changes x g rest) o) (Changed me x (g (now t x))) (UnderWay k rest o)
    Splits : {k : K} {o : Memory A} (e : E) (fs : List (Frame A K)) (g : Frame A K) → s.code.opens e o ≡ Forks fs g
        → Seen me t (UnderWay k (Ends e) o) (Forked me fs) (Waits g (count t) fs)
    Finishes : {k : K} {o : Memory A} (e : E) (outcome : O) → s.code.opens e o ≡ Closes outcome
        → Seen me t (UnderWay k (Ends e) o) (Finished me outcome) IsOver

  -- strand `me` comes along a history to where it is: it begins; others do something; it goes on
  pub data Comes (faults : Type 0) (me : ℕ) : List (Deed A K O) → State A K E → Type 0 where
    Begins : Comes faults me [] (begun_if_any (numbered 0 s.start me))
    Others : {t : List (Deed A K O)} {σ : State A K E} (d : Deed A K O) → (doer d ≡ me → ⊥)
        → Comes faults me t σ → Comes faults me (d ∷ t) (once_done me t d σ)
    Goes : {t : List (Deed A K O)} {σ τ : State A K E} → Comes faults me t σ → Unseen faults t σ τ → Comes faults me t τ
    Does : {t : List (Deed A K O)} {σ τ : State A K E} {d : Deed A K O} → Comes faults me t σ → Seen me t σ d τ → Comes faults me (d ∷ t) τ

  -- a history of the system: each strand comes along it somewhere. So each makes its own deeds of it, and sees all of them.
  abbrev pub IsHistory : (faults : Type 0) → List (Deed A K O) → Type 0
  IsHistory faults t = (i : ℕ) → (σ : State A K E) × Comes faults i t σ

-- the changes that a capsule under way has asked for, the last one first; and those up to the last one that changed a word
pub record Asked : Type 0 where
  pub all : List Change
  pub settled : List Change

-- none is asked for yet
abbrev pub nothing : Asked
nothing = record { all = []; settled = [] }

module _ {A K E O : Type 0} {s : System A K E O} {faults : Type 0} {me : ℕ} where
  -- what the capsule under way has asked for
  abbrev pub asked : {t : List (Deed A K O)} {σ : State A K E} → Comes s faults me t σ → Asked
  asked Begins = nothing
  asked (Others d ne h) = asked h
  asked (Goes h (Takes x go)) = asked h
  asked (Goes h (Stores x v rest)) = asked h
  asked (Goes h (Finds x go)) = asked h
  asked (Goes h (Leaves x g rest same)) = record { all = change x g ∷ (asked h).all; settled = (asked h).settled }
  asked (Goes h (Opens e f is)) = nothing
  asked (Goes h (Joins g n fs os over)) = nothing
  asked (Goes h (Faults z o' kept)) = nothing
  asked (Does h (Alters x g rest ne)) = record { all = change x g ∷ (asked h).all; settled = change x g ∷ (asked h).all }
  asked (Does h (Splits e fs g is)) = nothing
  asked (Does h (Finishes e outcome is)) = nothing

  -- all changes of it
  abbrev pub passed : {t : List (Deed A K O)} {σ : State A K E} → Comes s faults me t σ → List Change
  passed h = (asked h).all

  -- those up to the last one that changed a word
  abbrev pub settled : {t : List (Deed A K O)} {σ : State A K E} → Comes s faults me t σ → List Change
  settled h = (asked h).settled
