-- The rows of the commands that go on from a saved text by a schedule, from an answer of the words that ask for them.
use Rattle.std.proofs.Common.{◌≡◌, ℕ, List, Some, subst}
use Rattle.ppm_ports.specs.Outside.{Outside, ports_of}
use Rattle.ppm_answers.specs.declared.status.Status.{Status}
use Rattle.ppm_answers.specs.declared.status.Status.TheVariants as statuses
use Rattle.ppm_answers.specs.Reading.{DeliversAnswer}
use Rattle.ppm_answers.proofs.Delivered.{of_answers}
use Rattle.ppm_cli.specs.declared.command.Command.{Command}
use Rattle.ppm_cli.specs.declared.command.Command.TheVariants as commands
use Rattle.ppm_cli.specs.declared.replay.ReplaySavedOptions.{ReplaySavedOptions}
use Rattle.ppm_cli.specs.declared.stop.StopSavedOptions.{StopSavedOptions}
use Rattle.ppm_cli.specs.declared.trace.TraceSavedOptions.{TraceSavedOptions}
use Rattle.ppm_cli.specs.Words.{command_of}
use Rattle.ppm_cli.proofs.RangeLemmas.{is_in_range}
use Rattle.ppm_legs.specs.CountedReplayRows.{CountedSays}
use Rattle.ppm_legs.specs.SavedReplayRows.{ReplaySays}
use Rattle.ppm_legs.specs.SavedTexts.{RefusesSchedule}
use Rattle.ppm_legs.specs.SavedStopRows.{StopSays}
use Rattle.ppm_legs.specs.SavedTraceRows.{TraceSays}
use Rattle.ppm_legs.proofs.OfCountedLeg.{counted_rows}
use Rattle.ppm_legs.proofs.OfSavedReplay.{replay_rows}
use Rattle.ppm_legs.proofs.OfSavedStop.{stop_rows}
use Rattle.ppm_legs.proofs.OfSavedTrace.{trace_rows}
use Rattle.ppm_top.specs.Causes.{CommandMay, CommandTells, IsAnswered}
use Rattle.ppm_top.specs.Laws.{ProgramLaws}
use Rattle.ppm_top.specs.Rows.{CountsSavedByWords, ReplaysSavedByWords, StopsSavedByWords, TracesSavedByWords}
use Rattle.ppm_top.proofs.SavedEndLemmas.{counted_saved_replay_ends, saved_replay_ends}

module _ (laws : ProgramLaws) (words : List (List ℕ)) (o : Outside) (status : Status) (a : IsAnswered words o status) where
  -- what was delivered of the command that the words give
  delivered : (command : Command) → command_of words ≡ Some command → DeliversAnswer (CommandMay (Some command) o) (ports_of o) status
  delivered command e =
      subst (λ c. DeliversAnswer (CommandMay c o) (ports_of o) status) e
      (of_answers (CommandMay (command_of words) o) (CommandTells (command_of words) o) o status a)

  -- of a stop
  pub stops_saved : StopsSavedByWords words o status
  stops_saved options schedule e =
      let range = is_in_range words (commands.StopSaved options schedule) e in (
        range,
        stop_rows laws.resumes options schedule (ports_of o) status (delivered (commands.StopSaved options schedule) e) range laws.saved_stops
            laws.chains,
      )

  -- status 3 comes of the schedule alone
  pub stop_refused : (options : StopSavedOptions) (schedule : List ℕ) → command_of words ≡ Some (commands.StopSaved options schedule)
      → status ≡ statuses.WordsRefused → RefusesSchedule schedule (ports_of o)
  stop_refused options schedule e refused =
      subst (StopSays options schedule (ports_of o)) refused (stops_saved options schedule e).1.rows.says

  -- of a replay
  pub replays_saved : ReplaysSavedByWords words o status
  replays_saved options schedule e = (
    is_in_range words (commands.ReplaySaved options schedule) e,
    replay_rows laws.resumes options schedule (ports_of o) status (delivered (commands.ReplaySaved options schedule) e) laws.saved_replays,
    saved_replay_ends laws.unfinished_saved options schedule (ports_of o) status,
  )

  -- status 3 comes of its schedule alone
  pub replay_refused : (options : ReplaySavedOptions) (schedule : List ℕ) → command_of words ≡ Some (commands.ReplaySaved options schedule)
      → status ≡ statuses.WordsRefused → RefusesSchedule schedule (ports_of o)
  replay_refused options schedule e refused =
      subst (ReplaySays options schedule (ports_of o)) refused (replays_saved options schedule e).1.rows.says

  -- where its counts are told
  pub counts_saved : CountsSavedByWords words o status
  counts_saved options schedule e = (
    is_in_range words (commands.CountedReplaySaved options schedule) e,
    counted_rows laws.resumes options schedule (ports_of o) status (delivered (commands.CountedReplaySaved options schedule) e) laws.counted_saved,
    counted_saved_replay_ends laws.unfinished_saved options schedule (ports_of o) status,
  )

  -- status 3 comes of its schedule alone
  pub counted_refused : (options : ReplaySavedOptions) (schedule : List ℕ) → command_of words ≡ Some (commands.CountedReplaySaved options schedule)
      → status ≡ statuses.WordsRefused → RefusesSchedule schedule (ports_of o)
  counted_refused options schedule e refused =
      subst (CountedSays options schedule (ports_of o)) refused (counts_saved options schedule e).1.rows.says

  -- of a trace
  pub traces_saved : TracesSavedByWords words o status
  traces_saved options schedule e = (
    is_in_range words (commands.TraceSaved options schedule) e,
    trace_rows laws.resumes options schedule (ports_of o) status (delivered (commands.TraceSaved options schedule) e) laws.saved_traces,
  )

  -- status 3 comes of its schedule alone
  pub trace_refused : (options : TraceSavedOptions) (schedule : List ℕ) → command_of words ≡ Some (commands.TraceSaved options schedule)
      → status ≡ statuses.WordsRefused → RefusesSchedule schedule (ports_of o)
  trace_refused options schedule e refused =
      subst (TraceSays options schedule (ports_of o)) refused (traces_saved options schedule e).1.rows.says
