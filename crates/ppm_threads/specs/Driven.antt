-- What is known after a drive.
use Rattle.std.specs.Prelude.{◌≡◌, ◌≢◌, ℕ, ◌<◌, ◌≤◌, ◌⊎◌, ◌&&◌, Bool, true, false, List, [], ◌∷◌, Option, Some, slice_index_or}
use Rattle.ppm_cells.specs.Finish.{finish_of}
use Rattle.ppm_cells.specs.Memory.{read}
use Rattle.ppm_cells.specs.declared.cell.Cell.TheVariants.{FinishWord}
use Rattle.ppm_cells.specs.declared.finish.Finish.TheVariants.{Stopped}
use Rattle.ppm_plan.specs.Schedules.{Planned}
use Rattle.ppm_ports.specs.Told.{AppendsList, KeepsFront}
use Rattle.ppm_words.specs.declared.event.Event.{Event}
use Rattle.ppm_step.specs.declared.turn.Turn.{Turn}
use Rattle.ppm_choice.specs.declared.limits.Limits.{Limits}
use Rattle.ppm_choice.specs.Obeying.{ObeysIn, ObeyAll}
use Rattle.ppm_choice.specs.Tells.{told_in}
use Rattle.ppm_table.specs.declared.processor.Processor.{Processor}
use Rattle.ppm_table.specs.declared.processor.Shared.{Shared}
use Rattle.ppm_table.specs.declared.act_counts.ActCounts.{ActCounts}
use Rattle.ppm_table.specs.declared.view.Opening.{Opening}
use Rattle.ppm_table.specs.Counting.{TellsTurns, all_counts}
use Rattle.ppm_table.specs.Run.{start, behind_turns, deeds_in_run}
use Rattle.ppm_table.specs.Shown.{IsOf, deeds_of_processor, opening_of}
use Rattle.ppm_threads.specs.Going.{TraceGrows, HasQuit, OwnObeys, told_of_deeds}

-- a processor that has done nothing
abbrev pub Begins : Shared → Processor → Type 0
Begins s p = IsOf s p × (deeds_of_processor p ≡ [])

abbrev pub AllBegin : Shared → List Processor → Type 0
AllBegin s [] = Unit {0}
AllBegin s (p ∷ ps) = Begins s p × AllBegin s ps

module _ {W : Type 0} (told : W → Option (List Event)) where
  -- each list keeps what it had in front
  abbrev pub AllKeep : List W → List W → Type 0
  AllKeep old new = (j : ℕ) (d : W) → KeepsFront (told (slice_index_or old j d)) (told (slice_index_or new j d))

module _ {W : Type 0} (told : W → Option (List Event)) (plan : Planned) (limits : Limits) where
  -- a processor before and after, with its watcher: where that refused nothing, what the processor has done obeys, and it was told of it; where it
  -- refused, the processor has quit
  pub record Ends (s : Shared) (taken : Bool) (p : Processor) (w : W) (q : Processor) (v : W) : Type 0 where
    pub of : IsOf s q
    pub own : q.local.own ≡ p.local.own
    pub keeps : KeepsFront (told w) (told v)
    pub grows : taken ≡ true → TraceGrows (told w) (told v) (told_of_deeds plan limits (opening_of s) p.local.own (deeds_of_processor p))
        (told_of_deeds plan limits (opening_of s) p.local.own (deeds_of_processor q))
    pub obeys : taken ≡ true → OwnObeys plan limits (opening_of s) p.local.own (deeds_of_processor q)
    pub quits : taken ≡ false → HasQuit plan limits (opening_of s) p.local.own (told w) (told v)
        (told_of_deeds plan limits (opening_of s) p.local.own (deeds_of_processor p)) (deeds_of_processor q)

  -- each processor before and after, where all watchers together refused nothing, or one did; those after the last processor stay
  abbrev pub AllEnd : Shared → (taken : Bool) → List Processor → List W → List Processor → List W → Type 0
  AllEnd s taken [] ws [] vs = (ws ≡ vs) × (taken ≡ true)
  AllEnd s taken [] ws (q ∷ qs) vs = ⊥
  AllEnd s taken (p ∷ ps) ws [] vs = ⊥
  AllEnd s taken (p ∷ ps) [] (q ∷ qs) vs = ⊥
  AllEnd s taken (p ∷ ps) (w ∷ ws) (q ∷ qs) [] = ⊥
  AllEnd s taken (p ∷ ps) (w ∷ ws) (q ∷ qs) (v ∷ vs) =
      (first : Bool) × (rest : Bool) × (taken ≡ (first && rest)) × Ends s first p w q v × AllEnd s rest ps ws qs vs

  -- a processor obeys in a run, and after the list of its watcher stands what is told of it there: its record, and event 7 where it has parked
  abbrev pub IsToldOf : Opening → List Turn → (processor : ℕ) → Option (List Event) → Option (List Event) → Type 0
  IsToldOf k turns c before now =
      ObeysIn plan limits c k.shape k.code (start k) turns × AppendsList before now (told_in plan limits c k.shape k.code (start k) turns)

  -- its watcher refused an event, after the list of those before, and what it does in the run is what it did until it has quit
  abbrev pub HasQuitIn : Opening → List Turn → (processor : ℕ) → Option (List Event) → Option (List Event) → Type 0
  HasQuitIn k turns c before now = HasQuit plan limits k c before now [] (deeds_in_run k c turns)

  -- There is one run, after which the words are these. Each processor obeys in it, and its watcher is told of that.
  pub record Driven (k : Opening) (words : List ℕ) (old new : List W) : Type 0 where
    pub turns : List Turn
    pub words_are : (behind_turns k turns).words ≡ words
    pub obey : ObeyAll plan limits k.shape k.code (start k) turns
    pub told_are : (c : ℕ) (d : W) → c < k.shape.processors
        → AppendsList (told (slice_index_or old c d)) (told (slice_index_or new c d)) (told_in plan limits c k.shape k.code (start k) turns)

  -- There is such a run, and this was counted in it: what each processor did, together. Acts, work turns, forks, takes and faults are as many as its
  -- turns have.
  pub record DrivenCounted (k : Opening) (words : List ℕ) (counts : ActCounts) (old new : List W) : Type 0 where
    pub driven : Driven k words old new
    pub counted : counts ≡ all_counts k driven.turns
    pub numbers : TellsTurns k driven.turns counts

  -- There is one run, in which each processor obeys and its watcher is told of that, or its watcher refused and it has quit; so one did.
  pub record WasRefused (k : Opening) (old new : List W) : Type 0 where
    pub turns : List Turn
    pub each : (c : ℕ) (d : W) → c < k.shape.processors
        → IsToldOf k turns c (told (slice_index_or old c d)) (told (slice_index_or new c d))
        ⊎ HasQuitIn k turns c (told (slice_index_or old c d)) (told (slice_index_or new c d))
    pub refusing : ℕ
    pub is_there : refusing < k.shape.processors
    pub has_quit : (d : W) → HasQuitIn k turns refusing (told (slice_index_or old refusing d)) (told (slice_index_or new refusing d))

-- watchers from a number on stay
abbrev pub OthersStay : {W : Type 0} → (count : ℕ) → List W → List W → Type 0
OthersStay {W = W} count old new = (j : ℕ) (d : W) → count ≤ j → slice_index_or new j d ≡ slice_index_or old j d

-- the finish word is set; and where it was 0, it doesn't say that a watcher refused
pub record HasFinished (k : Opening) (words : List ℕ) : Type 0 where
  pub is_set : read k.shape words FinishWord ≢ 0
  pub no_refusal : read k.shape k.words FinishWord ≡ 0 → finish_of (read k.shape words FinishWord) ≢ Some Stopped
