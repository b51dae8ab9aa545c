-- What the program ends with.
use Rattle.std.specs.Prelude.{◌≡◌, ◌≢◌, ◌⊎◌, ℕ, List, [], map, replicate, None, Result, MatchResult}
use Rattle.std.specs.String.{string_bytes}
use Rattle.std.specs.Vec.Iter.{into_iter_items}
use Rattle.std.specs.IoError.{error_kind}
use Rattle.std.specs.declared.vec.IntoIter.{IntoIter}
use Rattle.std.specs.declared.string.String.{String}
use Rattle.std.specs.declared.alloc.Global.{Global}
use Rattle.std.specs.declared.io.Error.{Error}
use Rattle.std.specs.declared.io.ErrorKind.TheVariants.{OutOfMemory}
use Rattle.ppm_ports.specs.Ports.{Port}
use Rattle.ppm_ports.specs.Outside.{ToldLists, outside}
use Rattle.ppm_answers.specs.declared.answer.Answer.TheVariants as answers
use Rattle.ppm_answers.specs.declared.status.Status.{Status}
use Rattle.ppm_answers.specs.Statuses.{number_of}
use Rattle.ppm_answers.specs.Delivery.{Delivers}
use Rattle.ppm_answers.specs.Reading.{IsUnread}
use Rattle.ppm_outcomes.specs.Watchers.{watcher_count}
use Rattle.ppm_top.specs.Causes.{IsAnswered}
use Rattle.ppm_top.specs.Rows.{ProgramRows}

-- what the system says of the words of the command line
abbrev pub Given : Type 0
Given = Result (IntoIter (String Global) Global) Error

-- the words of the command line; there are none where they are no text
abbrev pub AreWords : Given → List (String Global) → Type 0
AreWords given words = MatchResult given
    (λ args. words ≡ into_iter_items args)
    (λ e. (error_kind e ≢ OutOfMemory) × (words ≡ []))

-- the program's watchers show nothing of what they are told
abbrev pub silent : ToldLists
silent = replicate watcher_count None

-- the words were answered with a status, whose rows hold, and this is its number
pub record EndsAnswered (given : Given) (source out err : Port) (number : ℕ) : Type 0 where
  pub words : List (String Global)
  pub are_words : AreWords given words
  pub status : Status
  pub answered : IsAnswered (map string_bytes words) (outside source out err silent silent) status
  pub rows : ProgramRows (map string_bytes words) (outside source out err silent silent) status
  pub own_number : number ≡ number_of status

-- memory was refused before anything was read, and this was answered
pub record EndsEarly (source out err : Port) (number : ℕ) : Type 0 where
  pub unread : IsUnread source
  pub status : Status
  pub delivered : Delivers out err answers.NoMemory status
  pub own_number : number ≡ number_of status

-- the program ends with the number of the status with which the words were answered, or early
abbrev pub EndsWith : Given → Port → Port → Port → ℕ → Type 0
EndsWith given source out err number = EndsAnswered given source out err number ⊎ EndsEarly source out err number
