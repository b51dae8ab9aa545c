-- The rows of the commands that sweep, from an answer of the words that ask for them.
use Rattle.std.proofs.Common.{◌≡◌, ℕ, List, Some, subst}
use Rattle.ppm_ports.specs.Outside.{Outside, ports_of}
use Rattle.ppm_answers.specs.declared.status.Status.{Status}
use Rattle.ppm_answers.specs.declared.status.Status.TheVariants as statuses
use Rattle.ppm_answers.specs.Reading.{DeliversAnswer}
use Rattle.ppm_answers.proofs.Delivered.{of_answers}
use Rattle.ppm_cli.specs.declared.command.Command.{Command}
use Rattle.ppm_cli.specs.declared.command.Command.TheVariants as commands
use Rattle.ppm_cli.specs.declared.sweep.SweepOptions.{SweepOptions}
use Rattle.ppm_cli.specs.Words.{command_of}
use Rattle.ppm_cli.proofs.RangeLemmas.{is_in_range}
use Rattle.ppm_plan.specs.Forms.{schedule_form}
use Rattle.ppm_loading.specs.MachineRows.{RefusesPlan}
use Rattle.ppm_sweep_command.specs.CaseSweepRows.{SweepCaseSays}
use Rattle.ppm_sweep_command.specs.SweepRows.{SweepSays}
use Rattle.ppm_sweep_command.proofs.OfSweep.{sweep_rows}
use Rattle.ppm_sweep_command.proofs.OfSweepCase.{sweep_case_rows}
use Rattle.ppm_top.specs.Causes.{CommandMay, CommandTells, IsAnswered}
use Rattle.ppm_top.specs.Laws.{ProgramLaws}
use Rattle.ppm_top.specs.Rows.{SweepsByWords, SweepsCaseByWords}

module _ (laws : ProgramLaws) (words : List (List ℕ)) (o : Outside) (status : Status) (a : IsAnswered words o status) where
  -- what was delivered of the command that the words give
  delivered : (command : Command) → command_of words ≡ Some command → DeliversAnswer (CommandMay (Some command) o) (ports_of o) status
  delivered command e =
      subst (λ c. DeliversAnswer (CommandMay c o) (ports_of o) status) e
      (of_answers (CommandMay (command_of words) o) (CommandTells (command_of words) o) o status a)

  -- of a source
  pub sweeps : SweepsByWords words o status
  sweeps options schedule e =
      let are = is_in_range words (commands.Sweep options schedule) e in (
        are,
        sweep_rows laws.coded laws.swept_codes options are schedule (ports_of o) status (delivered (commands.Sweep options schedule) e) laws.plans
            laws.sweeps,
      )

  -- of a case
  pub sweeps_case : SweepsCaseByWords words o status
  sweeps_case options schedule e =
      let are = is_in_range words (commands.SweepCase options schedule) e in (
        are,
        sweep_case_rows laws.swept_codes options are schedule (ports_of o) status (delivered (commands.SweepCase options schedule) e) laws.plans
            laws.swept_cases,
      )

  -- status 3 comes of the schedule alone
  pub sweep_refused : (options : SweepOptions) (schedule : List ℕ) → command_of words ≡ Some (commands.Sweep options schedule)
      → status ≡ statuses.WordsRefused → RefusesPlan schedule_form schedule options.processors (ports_of o)
  sweep_refused options schedule e refused =
      (subst (SweepSays options schedule (ports_of o)) refused (sweeps options schedule e).1.rows.rows.says).0

  -- or of that of a case
  pub case_sweep_refused : (options : SweepOptions) (schedule : List ℕ) → command_of words ≡ Some (commands.SweepCase options schedule)
      → status ≡ statuses.WordsRefused → RefusesPlan schedule_form schedule options.processors (ports_of o)
  case_sweep_refused options schedule e refused =
      (subst (SweepCaseSays options schedule (ports_of o)) refused (sweeps_case options schedule e).1.rows.rows.says).0
