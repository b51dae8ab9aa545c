-- What an act of one processor makes of the words, where the processor stands then, and what is told of it.
use Rattle.std.specs.Prelude.{ℕ, List, length, Option, Some, None}
use Rattle.ppm_cells.specs.declared.shape.Shape.{Shape}
use Rattle.ppm_code.specs.declared.code.CodeParts.{CodeParts}
use Rattle.ppm_words.specs.declared.event.Event.{Event}
use Rattle.ppm_step.specs.declared.turn.Act.{Act}
use Rattle.ppm_step.specs.Standings.{Standing, IsDone}
use Rattle.ppm_step.specs.State.{want_of, stand_after, found_in, words_after, step_by, row_by, fork_row, take_row}
use Rattle.ppm_step.specs.Told.{act_event, place_of}
pub use Rattle.ppm_step.specs.Among.{IsActAmong, IsTurnAmong}
pub use Rattle.ppm_step.specs.State.{is_done_at}

-- the forks and takes of an act by a processor that stands there
abbrev pub forks_at : Act → Standing → ℕ
forks_at act standing = length (step_by (row_by fork_row) act standing)

abbrev pub takes_at : Act → Standing → ℕ
takes_at act standing = length (step_by (row_by take_row) act standing)

-- of one that is done nothing comes
module _ (s : Shape) (code : CodeParts) (own : ℕ) (act : Act) (words : List ℕ) where
  abbrev pub words_acted : Standing → List ℕ
  words_acted IsDone = words
  words_acted standing = words_after words (want_of s code own act standing)

  abbrev pub stand_acted : Standing → Standing
  stand_acted IsDone = IsDone
  stand_acted standing = stand_after s code own act (found_in words (want_of s code own act standing)) standing

  abbrev pub event_acted : Standing → Option Event
  event_acted IsDone = None
  event_acted standing = Some (act_event words (place_of standing) act (want_of s code own act standing))
