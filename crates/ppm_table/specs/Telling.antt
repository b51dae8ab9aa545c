-- What a watcher is told of deeds.
use Rattle.std.specs.Prelude.{◌≡◌, ℕ, List, [], ◌∷◌, ◌++◌, drop, length, Option, Some}
use Rattle.ppm_cells.specs.Cells.{address}
use Rattle.ppm_cells.specs.Finish.{finish_word}
use Rattle.ppm_cells.specs.declared.cell.Cell.TheVariants.{DeadWord, FinishWord}
use Rattle.ppm_cells.specs.declared.shape.Shape.{Shape}
use Rattle.ppm_code.specs.declared.code.CodeParts.{CodeParts}
use Rattle.ppm_words.specs.declared.event.Event.{Event}
use Rattle.ppm_step.specs.Standings.{Standing, IsLost}
use Rattle.ppm_step.specs.State.{quit_with}
use Rattle.ppm_step.specs.Told.{event, place_of}
use Rattle.ppm_table.specs.declared.view.Deed.{Deed}
use Rattle.ppm_table.specs.declared.view.Deed.TheVariants.{Loaded, Stored, Exchanged, Softened, Hardened, Quitted}
use Rattle.ppm_table.specs.declared.view.Opening.{Opening}
use Rattle.ppm_table.specs.Run.{behind, stands_by, deeds_in, Mine, IsSeat}

-- the event of a deed, by a processor that stands there
abbrev pub event_of_deed : Shape → (own : ℕ) → Standing → Deed → Event
event_of_deed s own standing (Loaded at found) = event 1 (place_of standing) at found
event_of_deed s own standing (Stored at word) = event 2 (place_of standing) at word
event_of_deed s own standing (Exchanged at old new) = event 3 (place_of standing) at new
event_of_deed s own standing Softened = event 4 (place_of standing) 0 0
event_of_deed s own standing Hardened = event 5 (place_of standing) (address s (DeadWord own)) 1
event_of_deed s own standing (Quitted why) = event 6 (place_of standing) (address s FinishWord) (finish_word (quit_with own why))

-- those of a list of them
module _ (s : Shape) (code : CodeParts) (own : ℕ) where
  abbrev pub shown : Standing → List Deed → List Event
  shown standing [] = []
  shown standing (deed ∷ deeds) = event_of_deed s own standing deed ∷ shown (behind s code own standing deed) deeds

abbrev pub shown_by : Opening → (own : ℕ) → List Deed → List Event
shown_by k own deeds = shown k.shape k.code own IsLost deeds

-- the deeds that a seat keeps more
abbrev pub deeds_since : (before now : Mine) → List Deed
deeds_since me me' = drop (length (deeds_in me.0)) (deeds_in me'.0)

-- a known list has the events of these after it
abbrev pub Shows : Opening → (own : ℕ) → Option (List Event) → Option (List Event) → Mine → Mine → Type 0
Shows k own before now me me' = (list : List Event) → before ≡ Some list
    → now ≡ Some (list ++ shown k.shape k.code own (stands_by k own (deeds_in me.0)) (deeds_since me me'))
