-- What a watcher's list of events becomes.
use Rattle.std.specs.Prelude.{◌≡◌, ◌++◌, ◌∷◌, [], List, Option, None, Some, Result, MatchResult, ⊤}
use Rattle.ppm_words.specs.declared.event.Event.{Event}

-- a known list stays as it was
abbrev pub KeepsList : Option (List Event) → Option (List Event) → Type 0
KeepsList None now = ⊤
KeepsList (Some before) None = ⊥
KeepsList (Some before) (Some now) = now ≡ before

-- a known list keeps what it had in front
abbrev pub KeepsFront : Option (List Event) → Option (List Event) → Type 0
KeepsFront None now = ⊤
KeepsFront (Some before) None = ⊥
KeepsFront (Some before) (Some now) = (events : List Event) × (now ≡ before ++ events)

-- a known list has these events after it
abbrev pub AppendsList : Option (List Event) → Option (List Event) → List Event → Type 0
AppendsList None now events = ⊤
AppendsList (Some before) None events = ⊥
AppendsList (Some before) (Some now) events = now ≡ before ++ events

-- the event stands after the list at `Ok`, and the list stays at `Err`
abbrev pub TellsOne : {E : Type 0} → Option (List Event) → Option (List Event) → Event → Result Unit E → Type 0
TellsOne before now event r = MatchResult r (λ _. AppendsList before now (event ∷ [])) (λ _. KeepsList before now)
