-- Runs of strands by a schedule: whose turn it is, one after the other.
use Rattle.std.proofs.Common.{◌≡◌, ℕ, Bool, true, false, List, [], ◌∷◌, Option, Some, None, refl, sym, ◌∙◌}
use Rattle.ppm_strands.specs.Capsule.{Memory, store}
use Rattle.ppm_unseen.specs.Capsule.{Capsule as Racing, Keeps, Ends as Stops}
use Rattle.ppm_unseen.specs.Run.{System, Deed, doer, State, NotYet, UnderWay, Waits, IsOver, HaveFinished, numbered, begun_if_any, once_done}
use Rattle.ppm_unseen.specs.Run.{Unseen, Takes, Stores, Finds, Leaves, Opens, Joins, Faults, Seen}
use Rattle.ppm_unseen.specs.Run.{Comes, Begins as BeginsAlone, Others as SeesDeed, Goes as GoesUnseen, Does as DoesSeen}
use Rattle.ppm_code.specs.Strands.{Result}
use Rattle.ppm_filled.specs.Racing.{OwnWord, OfEnd, Place, Exit}
use Rattle.ppm_interleaving.specs.declared.deed.Turn.{Turn}
use Rattle.ppm_interleaving.specs.declared.deed.Turn.TheVariants.{Step, Fault}

-- whose turn it is
abbrev pub strand_of : Turn → ℕ
strand_of (Step i) = i
strand_of (Fault i) = i

-- a turn that was made, and the deed that others saw of it, if they saw one
pub record Moment : Type 0 where
  pub turn : Turn
  pub deed : Option (Deed OwnWord Place Result)

abbrev pub moment : Turn → Option (Deed OwnWord Place Result) → Moment
moment turn deed = record { turn = turn; deed = deed }

-- the turns of moments and their deeds, of which the last one comes first
abbrev pub turns : List Moment → List Turn
turns [] = []
turns (m ∷ h) = m.turn ∷ turns h

abbrev pub with_deed : Option (Deed OwnWord Place Result) → List (Deed OwnWord Place Result) → List (Deed OwnWord Place Result)
with_deed None t = t
with_deed (Some d) t = d ∷ t

abbrev pub deeds : List Moment → List (Deed OwnWord Place Result)
deeds [] = []
deeds (m ∷ h) = with_deed m.deed (deeds h)

-- a strand made a deed, if there is one
abbrev pub IsDoneBy : ℕ → Option (Deed OwnWord Place Result) → Type 0
IsDoneBy who None = Unit {0}
IsDoneBy who (Some d) = doer d ≡ who

-- a strand is under way, and has come to an end that stores words
abbrev pub is_storing : State OwnWord Place Exit → Bool
is_storing (UnderWay k (Keeps (OfEnd w) v rest) o) = true
is_storing σ = false

abbrev pub is_under_way : State OwnWord Place Exit → Bool
is_under_way (UnderWay k rest o) = true
is_under_way σ = false

module _ (s : System OwnWord Place Exit Result) where
  -- what is left of a capsule only keeps own words up to its end: with all that it keeps
  pub data KeepsUpTo : Racing OwnWord Exit → Memory OwnWord → Exit → Memory OwnWord → Type 0 where
    Here : (e : Exit) (o : Memory OwnWord) → KeepsUpTo (Stops e) o e o
    Before : {rest : Racing OwnWord Exit} {o p : Memory OwnWord} {e : Exit} (x : OwnWord) (v : ℕ)
        → KeepsUpTo rest (store s.code.names o x v) e p → KeepsUpTo (Keeps x v rest) o e p

  -- what a turn begins with: an end makes all its stores, and then opens what it opens in the same turn
  pub data Ready : State OwnWord Place Exit → State OwnWord Place Exit → Type 0 where
    AsItIs : {σ : State OwnWord Place Exit} → is_storing σ ≡ false → Ready σ σ
    AtEnd : {k : Place} {rest : Racing OwnWord Exit} {o p : Memory OwnWord} {e : Exit} → is_storing (UnderWay k rest o) ≡ true
        → KeepsUpTo rest o e p → Ready (UnderWay k rest o) (UnderWay k (Stops e) p)

  -- there is no step for a strand: it isn't forked yet, it waits for branches that aren't all over, or it is over
  abbrev pub IsStill : List (Deed OwnWord Place Result) → State OwnWord Place Exit → Type 0
  IsStill t NotYet = Unit {0}
  IsStill t (UnderWay k rest o) = ⊥
  IsStill t (Waits g n fs) = (os : List Result) → HaveFinished n fs os t → ⊥
  IsStill t IsOver = Unit {0}

  -- where strand `me` is after the turn of another one: as before, unless it is forked by that
  abbrev pub once_seen : (me : ℕ) → List (Deed OwnWord Place Result) → Option (Deed OwnWord Place Result) → State OwnWord Place Exit → State OwnWord Place Exit
  once_seen me t None σ = σ
  once_seen me t (Some d) σ = once_done s me t d σ

  -- strand `me` comes along moments to where it is. In its own turn it makes one step of the model, if there is one; by a fault it begins its capsule
  -- again, with all its own words as they are.
  pub data ComesBy (me : ℕ) : List Moment → State OwnWord Place Exit → Type 0 where
    Begins : ComesBy me [] (begun_if_any s (numbered 0 s.start me))
    Others : {h : List Moment} {σ : State OwnWord Place Exit} (turn : Turn) (d : Option (Deed OwnWord Place Result)) → (strand_of turn ≡ me → ⊥)
        → IsDoneBy (strand_of turn) d → ComesBy me h σ → ComesBy me (moment turn d ∷ h) (once_seen me (deeds h) d σ)
    Goes : {h : List Moment} {σ ρ τ : State OwnWord Place Exit} → ComesBy me h σ → Ready σ ρ → Unseen s ⊥ (deeds h) ρ τ
        → ComesBy me (moment (Step me) None ∷ h) τ
    Does : {h : List Moment} {σ ρ τ : State OwnWord Place Exit} {d : Deed OwnWord Place Result} → ComesBy me h σ → Ready σ ρ
        → Seen s me (deeds h) ρ d τ → ComesBy me (moment (Step me) (Some d) ∷ h) τ
    Passes : {h : List Moment} {σ : State OwnWord Place Exit} → ComesBy me h σ → IsStill (deeds h) σ → ComesBy me (moment (Step me) None ∷ h) σ
    Fails : {h : List Moment} {k : Place} {rest : Racing OwnWord Exit} {o : Memory OwnWord} → ComesBy me h (UnderWay k rest o)
        → ComesBy me (moment (Fault me) None ∷ h) (UnderWay k (s.code.capsule k) o)
    Spared : {h : List Moment} {σ : State OwnWord Place Exit} → ComesBy me h σ → is_under_way σ ≡ false → ComesBy me (moment (Fault me) None ∷ h) σ

  -- a run: each strand comes along its moments
  abbrev pub IsRun : List Moment → Type 0
  IsRun h = (i : ℕ) → (σ : State OwnWord Place Exit) × ComesBy i h σ

  -- a schedule has one run: two runs by the same turns have the same deeds, and each strand comes to one state
  abbrev pub SchedulesHaveOneRun : Type 0
  SchedulesHaveOneRun = (g h : List Moment) → turns g ≡ turns h → IsRun g → IsRun h
      → (g ≡ h) × ((i : ℕ) (σ τ : State OwnWord Place Exit) → ComesBy i g σ → ComesBy i h τ → σ ≡ τ)

  -- what comes along moments comes along their deeds in `ppm_unseen`: a step without faults is one with them
  abbrev pub with_faults : {t : List (Deed OwnWord Place Result)} {σ τ : State OwnWord Place Exit} → Unseen s ⊥ t σ τ → Unseen s (Unit {0}) t σ τ
  with_faults (Takes x go) = Takes x go
  with_faults (Stores x v rest) = Stores x v rest
  with_faults (Finds x go) = Finds x go
  with_faults (Leaves x g rest same) = Leaves x g rest same
  with_faults (Opens e f is) = Opens e f is
  with_faults (Joins g n fs os over) = Joins g n fs os over
  with_faults (Faults none o' kept) = absurd none

  abbrev pub kept_up : {me : ℕ} {t : List (Deed OwnWord Place Result)} {k : Place} {rest : Racing OwnWord Exit} {o p : Memory OwnWord} {e : Exit}
      → Comes s (Unit {0}) me t (UnderWay k rest o) → KeepsUpTo rest o e p → Comes s (Unit {0}) me t (UnderWay k (Stops e) p)
  kept_up c (Here e o) = c
  kept_up c (Before x v up) = kept_up (GoesUnseen c (Stores x v _)) up

  abbrev pub made_ready : {me : ℕ} {t : List (Deed OwnWord Place Result)} {σ ρ : State OwnWord Place Exit}
      → Comes s (Unit {0}) me t σ → Ready σ ρ → Comes s (Unit {0}) me t ρ
  made_ready c (AsItIs elsewhere) = c
  made_ready c (AtEnd there up) = kept_up c up

  abbrev pub came : {me : ℕ} {h : List Moment} {σ : State OwnWord Place Exit} → ComesBy me h σ → Comes s (Unit {0}) me (deeds h) σ
  came Begins = BeginsAlone
  came (Others turn None other done c) = came c
  came (Others turn (Some d) other done c) = SeesDeed d (λ same. other (sym done ∙ same)) (came c)
  came (Goes c ready step) = GoesUnseen (made_ready (came c) ready) (with_faults step)
  came (Does c ready deed) = DoesSeen (made_ready (came c) ready) deed
  came (Passes c still) = came c
  came (Fails {o = o} c) = GoesUnseen (came c) (Faults tt o (λ x other. refl))
  came (Spared c elsewhere) = came c
