-- The rows of the commands that trace, from an answer of the words that ask for them.
use Rattle.std.proofs.Common.{◌≡◌, ℕ, List, Some, subst}
use Rattle.ppm_ports.specs.Outside.{Outside, ports_of}
use Rattle.ppm_answers.specs.declared.status.Status.{Status}
use Rattle.ppm_answers.specs.declared.status.Status.TheVariants as statuses
use Rattle.ppm_answers.specs.Reading.{DeliversAnswer}
use Rattle.ppm_answers.proofs.Delivered.{of_answers}
use Rattle.ppm_cli.specs.declared.command.Command.{Command}
use Rattle.ppm_cli.specs.declared.command.Command.TheVariants as commands
use Rattle.ppm_cli.specs.declared.trace.TraceOptions.{TraceOptions}
use Rattle.ppm_cli.specs.Words.{command_of}
use Rattle.ppm_cli.proofs.RangeLemmas.{is_in_range}
use Rattle.ppm_plan.specs.Forms.{schedule_form}
use Rattle.ppm_loading.specs.MachineRows.{RefusesPlan}
use Rattle.ppm_trace_command.specs.CaseTraceRows.{TraceCaseSays}
use Rattle.ppm_trace_command.specs.TraceRows.{TraceSays}
use Rattle.ppm_trace_command.proofs.OfTrace.{trace_rows}
use Rattle.ppm_trace_command.proofs.OfTraceCase.{trace_case_rows}
use Rattle.ppm_top.specs.Causes.{CommandMay, CommandTells, IsAnswered}
use Rattle.ppm_top.specs.Laws.{ProgramLaws}
use Rattle.ppm_top.specs.Rows.{TracesByWords, TracesCaseByWords}

module _ (laws : ProgramLaws) (words : List (List ℕ)) (o : Outside) (status : Status) (a : IsAnswered words o status) where
  -- what was delivered of the command that the words give
  delivered : (command : Command) → command_of words ≡ Some command → DeliversAnswer (CommandMay (Some command) o) (ports_of o) status
  delivered command e =
      subst (λ c. DeliversAnswer (CommandMay c o) (ports_of o) status) e
      (of_answers (CommandMay (command_of words) o) (CommandTells (command_of words) o) o status a)

  -- of a source
  pub traces : TracesByWords words o status
  traces options schedule e = (
    is_in_range words (commands.Trace options schedule) e,
    trace_rows options schedule (ports_of o) status (delivered (commands.Trace options schedule) e) laws.plans laws.traces,
  )

  -- of a case
  pub traces_case : TracesCaseByWords words o status
  traces_case options schedule e = (
    is_in_range words (commands.TraceCase options schedule) e,
    trace_case_rows options schedule (ports_of o) status (delivered (commands.TraceCase options schedule) e) laws.plans laws.traced_cases,
  )

  -- status 3 comes of the schedule alone
  pub trace_refused : (options : TraceOptions) (schedule : List ℕ) → command_of words ≡ Some (commands.Trace options schedule)
      → status ≡ statuses.WordsRefused → RefusesPlan schedule_form schedule options.processors (ports_of o)
  trace_refused options schedule e refused =
      (subst (TraceSays options schedule (ports_of o)) refused (traces options schedule e).1.rows.rows.says).0

  -- or of that of a case
  pub case_trace_refused : (options : TraceOptions) (schedule : List ℕ) → command_of words ≡ Some (commands.TraceCase options schedule)
      → status ≡ statuses.WordsRefused → RefusesPlan schedule_form schedule options.processors (ports_of o)
  case_trace_refused options schedule e refused =
      (subst (TraceCaseSays options schedule (ports_of o)) refused (traces_case options schedule e).1.rows.rows.says).0
