-- What is told of a turn, by what its word step found.
use Rattle.std.specs.Prelude.{◌≡◌, ℕ, List, [], ◌∷◌, ◌++◌, Some, None, false}
use Rattle.ppm_cells.specs.declared.shape.Shape.{Shape}
use Rattle.ppm_code.specs.declared.code.CodeParts.{CodeParts}
use Rattle.ppm_words.specs.declared.event.Event.{Event}
use Rattle.ppm_step.specs.declared.ask.Want.{Want}
use Rattle.ppm_step.specs.declared.ask.Want.TheVariants.{Loads, Stores, Exchanges, Nothing}
use Rattle.ppm_step.specs.declared.turn.Act.{Act}
use Rattle.ppm_step.specs.declared.turn.Act.TheVariants.{Step, Soft, Hard, Quit}
use Rattle.ppm_step.specs.declared.turn.Next.TheVariants.{Done}
use Rattle.ppm_step.specs.declared.turn.Told.{Told}
use Rattle.ppm_step.specs.Standings.{Standing}
use Rattle.ppm_step.specs.State.{want_of, stand_after, next_of}
use Rattle.ppm_step.specs.Told.{event, numbered, place_of, is_work_turn}
use Rattle.ppm_table.specs.declared.view.Deed.{Deed}
use Rattle.ppm_table.specs.Run.{deed_of, IsFound}

-- the event of a word step that found this
abbrev pub event_found : (place : ℕ) → Want → (found : ℕ) → Event
event_found place (Loads at) found = event 1 place at found
event_found place (Stores at word) found = event 2 place at word
event_found place (Exchanges at old new) found = event 3 place at new
event_found place Nothing found = event 4 place 0 0

-- and of an act
abbrev pub act_found : (place : ℕ) → Act → Want → (found : ℕ) → Event
act_found place (Step victim) want found = event_found place want found
act_found place Soft want found = event 4 place 0 0
act_found place Hard want found = numbered 5 (event_found place want found)
act_found place (Quit why) want found = numbered 6 (event_found place want found)

-- a processor that was not done has made an act: its deeds have one more, it stands after that, and this was told
pub record HasActed (s : Shape) (code : CodeParts) (own : ℕ) (act : Act) (old new : Standing) (deeds deeds' : List Deed) (told : Told) : Type 0 where
  pub found : ℕ
  pub is_found : IsFound (want_of s code own act old) found
  pub deed : deeds' ≡ deeds ++ deed_of act (want_of s code own act old) found ∷ []
  pub stands : new ≡ stand_after s code own act found old
  pub event : told.event ≡ Some (act_found (place_of old) act (want_of s code own act old) found)
  pub work : told.work ≡ is_work_turn s code act old
  pub next : told.next ≡ next_of new

-- one that was done has made none
pub record HasMadeNone (old new : Standing) (deeds deeds' : List Deed) (told : Told) : Type 0 where
  pub deed : deeds' ≡ deeds
  pub stands : new ≡ old
  pub tells : told ≡ record { event = None; work = false; next = Done }
