-- The rows of `strands`, from an answer of the words that ask for it.
use Rattle.std.proofs.Common.{◌≡◌, ℕ, List, Some, subst}
use Rattle.ppm_ports.specs.Outside.{Outside, ports_of}
use Rattle.ppm_answers.specs.declared.status.Status.{Status}
use Rattle.ppm_answers.specs.declared.status.Status.TheVariants as statuses
use Rattle.ppm_answers.specs.Reading.{DeliversAnswer}
use Rattle.ppm_answers.proofs.Delivered.{of_answers}
use Rattle.ppm_cli.specs.declared.command.Command.{Command}
use Rattle.ppm_cli.specs.declared.command.Command.TheVariants as commands
use Rattle.ppm_cli.specs.declared.strands.StrandsOptions.{StrandsOptions}
use Rattle.ppm_cli.specs.Words.{command_of}
use Rattle.ppm_cli.proofs.RangeLemmas.{is_in_range}
use Rattle.ppm_plan.specs.Strands.{strand_form}
use Rattle.ppm_loading.specs.MachineRows.{RefusesPlan}
use Rattle.ppm_strands_command.specs.StrandsRows.{StrandsSays}
use Rattle.ppm_strands_command.proofs.OfDrawn.{drawn_rows}
use Rattle.ppm_strands_command.proofs.OfStrands.{strands_rows}
use Rattle.ppm_top.specs.Causes.{CommandMay, CommandTells, IsAnswered}
use Rattle.ppm_top.specs.Laws.{ProgramLaws}
use Rattle.ppm_top.specs.Rows.{RunsStrandsByWords, DrawsStrandsByWords}

module _ (laws : ProgramLaws) (words : List (List ℕ)) (o : Outside) (status : Status) (a : IsAnswered words o status) where
  -- what was delivered of the command that the words give
  delivered : (command : Command) → command_of words ≡ Some command → DeliversAnswer (CommandMay (Some command) o) (ports_of o) status
  delivered command e =
      subst (λ c. DeliversAnswer (CommandMay c o) (ports_of o) status) e
      (of_answers (CommandMay (command_of words) o) (CommandTells (command_of words) o) o status a)

  -- by a schedule
  pub runs_strands : RunsStrandsByWords words o status
  runs_strands options schedule e = (
    is_in_range words (commands.Strands options schedule) e,
    strands_rows options schedule (ports_of o) status (delivered (commands.Strands options schedule) e) laws.plans laws.strands,
  )

  -- by schedules that are drawn
  pub draws_strands : DrawsStrandsByWords words o status
  draws_strands options e = (
    is_in_range words (commands.DrawnStrands options) e,
    drawn_rows options (ports_of o) laws.drawn_strands status (delivered (commands.DrawnStrands options) e),
  )

  -- status 3 comes of the schedule alone
  pub strands_refused : (options : StrandsOptions) (schedule : List ℕ) → command_of words ≡ Some (commands.Strands options schedule)
      → status ≡ statuses.WordsRefused → RefusesPlan strand_form schedule 1 (ports_of o)
  strands_refused options schedule e refused =
      (subst (StrandsSays options schedule (ports_of o)) refused (runs_strands options schedule e).1.rows.rows.says).0
